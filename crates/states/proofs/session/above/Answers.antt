-- `states::session::above` meets its contract.
use mathlib.Core.Path.{◌≡◌, refl, sym}
use mathlib.Core.Bool.{Bool, true, false}
use Prim.Native.Nat.{ℕ, ◌/◌, ◌^◌, ◌≤◌}
use native.Mathlib.Nat.{div-eq_of_lt, lt_of_lt_of_le, mod-lt}
use native.Mathlib.Omega.{arith}
use lib.Dec.{eqb, ltb}
use lib.Pow.{pow_pos, pow_mono, split}
use borrow.Author.Tests.{lt-ltb, eq-eqb, ne_eqb, ltb-true, ltb-false}
use borrow.Author.Rules.{rules}
use Rattle.states.proofs.session.above.Goals as goal

-- nothing is left above the w low bits exactly where x is above 2 ^ w
none_left : (x w : ℕ) → eqb (x / 2 ^ w) 0 ≡ ltb x (2 ^ w)
none_left x w = go (ltb x (2 ^ w)) refl
  where
    go : (b : Bool) → ltb x (2 ^ w) ≡ b → eqb (x / 2 ^ w) 0 ≡ b
    go true e = eq-eqb _ _ (div-eq_of_lt (ltb-true x (2 ^ w) e))
    go false e = ne_eqb _ _ (λ z. above (ltb-false x (2 ^ w) e) z)
      where
        above : 2 ^ w ≤ x → x / 2 ^ w ≡ 0 → ⊥
        above h z = omega (arith, rw z at (split x w), mod-lt x (pow_pos w))

pub returns-then-w-lt64 : goal.returns-then-w-lt64
returns-then-w-lt64 c = none_left c.args.x c.args.w

pub returns : goal.returns
returns c = sym (lt-ltb _ _ (lt_of_lt_of_le (search rules) (pow_mono {i = 64} c.if-w-lt64.false)))
