-- Runs of stores in lent tails, one behind the other, and a run that is a copy. Assumes nothing.
use Prim.Native.Nat.{ℕ, ◌+◌, ◌-◌, ◌≤◌, ◌<◌}
use mathlib.Core.List.{List, ◌++◌}
use mathlib.Core.Path.{◌≡◌, ap, sym, ◌∙◌}
use native.Mathlib.Nat.{zero-add}
use native.Mathlib.Numerals.{add-one}
use native.Mathlib.Omega.{arith}
use lib.ListN.{length, get_or, take, drop, set}
use lib.Seq.{sets, sets-eq, length-take-le, take-suc}
use borrow.Rule.Slice.PartMut.{mid_of, put_mid}
use Rattle.bits.proofs.Lists.{sets-append}
use Rattle.counts.proofs.Tails.{lent}

-- two runs, each in the tail from its place
pub two-runs : (x₁ l₂ l₃ zs ws : List ℕ) (b d : ℕ)
    → (let x₂ : List ℕ = put_mid b (length x₁ - b) x₁ l₂ in
    l₂ ≡ sets (mid_of b (length x₁ - b) x₁) 0 zs → l₃ ≡ sets (mid_of d (length x₂ - d) x₂) 0 ws
    → put_mid d (length x₂ - d) x₂ l₃ ≡ sets (sets x₁ b zs) d ws)
two-runs x₁ l₂ l₃ zs ws b d e₂ e₃ =
    let x₂ : List ℕ = put_mid b (length x₁ - b) x₁ l₂ in
    lent x₂ ws l₃ d e₃ ∙ ap (λ (x : List ℕ). sets x d ws) (lent x₁ zs l₂ b e₂)

-- a copy to the front
pub copied : (l p : List ℕ) (n : ℕ) → n ≤ length l → n ≤ length p → take n p ++ drop n l ≡ sets l 0 (take n p)
copied l p n h k =
    let size : length (take n p) ≡ n = length-take-le n p k in
    let room : 0 + length (take n p) ≤ length l = omega arith in
    sym (rw (sets-eq (take n p) l 0 room, zero-add, size))

-- a copy, one store further
pub copied_turn : (l p : List ℕ) (i : ℕ) → i < length p → set (sets l 0 (take i p)) i (get_or p i 0) ≡ sets l 0 (take (i + 1) p)
copied_turn l p i h = rw (add-one, take-suc p i 0 h, sets-append, length-take-le i p (omega arith), zero-add)
