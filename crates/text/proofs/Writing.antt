-- Texts that are written one behind the other. Assumes nothing.
use Prim.Native.Nat.{ℕ, ◌+◌}
use mathlib.Core.List.{List, [], ◌++◌}
use mathlib.Core.Path.{◌≡◌, refl, ap, sym, ◌∙◌}
use native.Mathlib.Decide.{dec_le}
use native.Mathlib.Omega.{arith}
use lib.ListN.{length, length-append}
use lib.Seq.{sets, length-sets}
use Rattle.bits.proofs.Lists.{sets-append, sets-out}
use Rattle.text.specs.Text.{Writes}
-- the first n, where there are so many
pub use Rattle.std.proofs.lemmas.List.{take_min as take-least}

-- nothing is written where it is
pub empty : (l : List ℕ) (at : ℕ) → Writes [] l at l at
empty l at = record { bytes = refl; place = omega arith }

pub length-kept : {t l l₁ : List ℕ} {at k : ℕ} → Writes t l at l₁ k → length l₁ ≡ length l
length-kept {t} {l} {l₁} {at} w = ap length w.bytes ∙ length-sets l at t

module _ {t u l l₁ l₂ : List ℕ} {at k m : ℕ} (a : Writes t l at l₁ k) (b : Writes u l₁ k l₂ m) where
  size : length l₁ ≡ length l
  size = length-kept a

  -- the place behind t, and the end of the buffer where t has no room, take u alike
  same : sets l₁ k u ≡ sets l₁ (at + length t) u
  same = elim (dec_le (at + length t) (length l)) [
    | yes h ↦ ap (λ (i : ℕ). sets l₁ i u) (omega (arith, a.place))
    | no h ↦ sets-out l₁ k u (omega (arith, a.place, size)) ∙ sym (sets-out l₁ (at + length t) u (omega (arith, size)))
  ]

  -- one text behind another is one text
  pub behind : Writes (t ++ u) l at l₂ m
  behind = record {
    bytes = b.bytes ∙ same ∙ rw (a.bytes, sets-append);
    place = omega (arith, a.place, b.place, size, length-append t u);
  }
