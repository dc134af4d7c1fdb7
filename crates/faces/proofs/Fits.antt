-- What a face that fits tells, at tag and reader. Assumes nothing.
use mathlib.Core.Path.{◌≡◌, refl, sym, ◌∙◌}
use mathlib.Core.Bool.{true, false, not, ◌&&◌, ◌||◌, and-false}
use Prim.Native.Nat.{◌<◌}
use lib.Dec.{ltb, eqb}
use borrow.Author.Tests.{ltb-true, eqb-true}
use Rattle.bits.proofs.Bools.{and_left, and_right, holds}
use Rattle.payloads.specs.Payloads.{mac_bits, number_limit}
use Rattle.faces.specs.declared.Name.{Name}
use Rattle.faces.specs.declared.Name.TheVariants.{CsReset, Ta1, Ia1, Ia2, Ma1, Ma2}
use Rattle.faces.specs.declared.Face.{Face}
use Rattle.faces.specs.declared.ReaderFace.{ReaderFace}
use Rattle.faces.specs.TagFaces.{row_of, flags_fit, width_wanted, face_fits}
use Rattle.faces.specs.ReaderFaces.{stage_row, reader_width, reader_fits}

-- ---- the tag

-- a state that gives responses has its accumulator filled
pub responds-filled : (n : Name) → (row_of n).responds ≡ true → (row_of n).filled ≡ true
responds-filled CsReset h = h
responds-filled Ta1 h = refl
responds-filled Ia1 h = h
responds-filled Ia2 h = refl
responds-filled Ma1 h = h
responds-filled Ma2 h = refl

module _ (f : Face) (s : face_fits f ≡ true) where
  pub flags_fit_lem : flags_fit (row_of f.name) f ≡ true
  unfolding face_fits
  flags_fit_lem = and_left _ _ (and_left _ _ (and_left _ _ s))

  pub width-wanted : f.width ≡ width_wanted (row_of f.name) f.error f.options
  unfolding face_fits
  width-wanted = eqb-true _ _ (and_right (flags_fit (row_of f.name) f) _ (and_left _ _ (and_left _ _ s)))

  -- open, its width is the one that its options choose
  pub open-width : (row_of f.name).filled ≡ true → f.error ≡ false → f.width ≡ mac_bits f.options
  open-width full well = width-wanted ∙ rw (full, well)

-- ---- the reader

module _ (f : ReaderFace) (s : reader_fits f ≡ true) where
  pub sound-options : f.options < 4
  unfolding reader_fits
  sound-options = ltb-true _ _ (holds _ (λ h. sym s ∙ rw h))

  pub sound-width : f.width ≡ reader_width (stage_row f.stage) f.options
  unfolding reader_fits
  sound-width = eqb-true _ _ (holds _ (λ h. sym s ∙ rw h (simp and-false)))

  pub sound-method : f.method < 3
  unfolding reader_fits
  sound-method = ltb-true _ _ (holds _ (λ h. sym s ∙ rw h (simp and-false)))

  pub sound-number : ltb f.number number_limit ≡ true
  unfolding reader_fits
  sound-number = holds _ (λ h. sym s ∙ rw h (simp and-false))

  pub sound-proving : not ((stage_row f.stage).proving && eqb f.method 0) ≡ true
  unfolding reader_fits
  sound-proving = holds _ (λ h. sym s ∙ rw h (simp and-false))

  -- where the words are filled, the width is the one that the options choose
  pub full_width : ((stage_row f.stage).proving || (stage_row f.stage).opened) ≡ true → f.width ≡ mac_bits f.options
  full_width full = sound-width ∙ rw full
