-- Whether a kind is a response wanted, by the tests of the code. Assumes nothing.
use mathlib.Core.Path.{◌≡◌, refl}
use mathlib.Core.Bool.{Bool, true, false, ◌||◌}
use mathlib.Core.Logic.{◌⊎◌, inl, inr}
use Prim.Native.Nat.{ℕ, ◌≤◌, ◌<◌}
use native.Mathlib.Omega.{arith}
use lib.Dec.{eqb}
use borrow.Author.Tests.{eqb-false, eq-eqb, ne_eqb}
use Rattle.host.specs.Kinds.{wanted}

pub is_wanted : (k : ℕ) → 4 ≤ k → k < 6 → wanted k ≡ true
is_wanted k low high = at (eqb k 4) (λ n. eq-eqb k 5 (omega (arith, eqb-false k 4 n)))
  where
    at : (b : Bool) → (b ≡ false → eqb k 5 ≡ true) → (b || eqb k 5) ≡ true
    at true h = refl
    at false h = h refl

pub not-wanted : (k : ℕ) → (k < 4) ⊎ (6 ≤ k) → wanted k ≡ false
not-wanted k (inl below) = rw (ne_eqb k 4 (λ e. omega arith), ne_eqb k 5 (λ e. omega arith))
not-wanted k (inr above) = rw (ne_eqb k 4 (λ e. omega arith), ne_eqb k 5 (λ e. omega arith))
