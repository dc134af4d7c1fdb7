-- Accumulator and shift register keep their w bits: their numbers stay below 2 ^ w. Assumes nothing.
use mathlib.Core.Path.{◌≡◌, refl, sym, ap, ◌∙◌}
use mathlib.Core.Bool.{Bool}
use mathlib.Core.List.{List, [], ◌∷◌}
use Prim.Native.Nat.{ℕ, suc, ◌^◌, ◌<◌}
use native.Mathlib.Omega.{arith}
use lib.ListN.{length, length-append, length-drop}
use Rattle.bits.specs.Bits.{num_of, sums}
use Rattle.bits.proofs.Bools.{either}
use Rattle.bits.proofs.Numbers.{num_of-lt, length-bits_of}
use Rattle.grain.specs.declared.Session.{Session}
use Rattle.grain.specs.declared.Width.{Width}
use Rattle.grain.specs.Generator.{State, push}
use Rattle.grain.specs.Mac.{Mac, padding, filled, taken, absorbed, authenticated}
use Rattle.grain.specs.Stored.{width_of, mac_of, session_of}
use Rattle.grain.proofs.Words.{width_small}
use Rattle.grain.proofs.Runs.{length-outs}

-- accumulator and shift register have their w bits
abbrev pub Wide : ℕ → Mac → Type 0
Wide w x = (length x.acc ≡ w) × (length x.reg ≡ w)

length-sums : (xs ys : List Bool) → length xs ≡ length ys → length (sums xs ys) ≡ length xs
unfolding sums
length-sums [] ys e = refl
length-sums (x ∷ xs) [] e = sym e
length-sums (x ∷ xs) (y ∷ ys) e = ap suc (length-sums xs ys (omega arith))

wide-taken : (w : ℕ) → 0 < w → (m : Bool) (x : Mac) → Wide w x → Wide w (taken m x)
unfolding taken push
wide-taken w h m x (a, r) =
    (either (λ (l : List Bool). length l ≡ w) m _ _ (length-sums x.acc x.reg (a ∙ sym r) ∙ a) a, simp (length-append, length-drop) (omega arith))

wide-absorbed : (w : ℕ) → 0 < w → (ms : List Bool) (x : Mac) → Wide w x → Wide w (absorbed ms x)
unfolding absorbed
wide-absorbed w h [] x k = k
wide-absorbed w h (m ∷ ms) x k = wide-absorbed w h ms (taken m x) (wide-taken w h m x k)

pub wide-filled : (w : ℕ) (st : State) → Wide w (filled w st)
unfolding filled
wide-filled w st = (length-outs _ _, length-outs _ _)

pub wide-authenticated : (w : ℕ) → 0 < w → (ms : List Bool) (x : Mac) → Wide w x → Wide w (authenticated ms x)
unfolding authenticated
wide-authenticated w h ms x k = wide-taken w h padding _ (wide-absorbed w h ms x k)

-- so both numbers fit
pub record Fits (w : ℕ) (x : Session) : Type 0 where
  pub acc : x.acc < 2 ^ w
  pub reg : x.reg < 2 ^ w

number_fits : (w : ℕ) (l : List Bool) → length l ≡ w → num_of l < 2 ^ w
number_fits w l e = rw e at (num_of-lt l)

pub wide_fits : (w : ℕ) (x : Mac) → Wide w x → Fits w (session_of x)
unfolding session_of
wide_fits w x (a, r) = record { acc = number_fits w x.acc a; reg = number_fits w x.reg r }

pub filled-fits : (v : Width) (st : State) → Fits (width_of v) (session_of (filled (width_of v) st))
filled-fits v st = wide_fits (width_of v) _ (wide-filled _ st)

pub message-fits : (v : Width) (ms : List Bool) (x : Session) → Fits (width_of v) (session_of (authenticated ms (mac_of (width_of v) x)))
unfolding mac_of
message-fits v ms x = wide_fits (width_of v) _ (wide-authenticated _ (width_small v).0 ms _ (length-bits_of _ _, length-bits_of _ _))
