-- Demand 3 holds of our tag: one call of two tags, as `Quiet` asks. Assumes nothing.
use mathlib.Core.Path.{◌≡◌, refl, sym, ap}
use mathlib.Core.Bool.{true, false, true≢false, and-false}
use mathlib.Core.List.{[]}
use Prim.Native.Nat.{ℕ}
use lib.Dec.{eqb}
use lib.ListN.{length}
use Rattle.faces.specs.declared.Face.{Face}
use Rattle.states.specs.TagStates.{TagState, face_of, sound_of}
use Rattle.states.proofs.TagStates.{face-closed, closed_same}
use Rattle.machines.specs.TagWork.{error_type_of}
use Rattle.machines.proofs.TagSound.{reset-sound, command-sound, response-sound, close-sound}
use Rattle.promises.specs.Silence.{SeenAlike}
use Rattle.promises.specs.Ours.{our_tag}
use Rattle.promises.specs.Demand3.{Call, reset, command, response, close, error_type, is_reset, Alike, resets, commands, responses, closes, error_types, give, Demand3}
use Rattle.promises.proofs.Quiet.{Says, Pair, Agree, kept, shut, quiet}
use Rattle.promises.proofs.SilenceStep.{runs, inside, command_agree, response_agree}

anew : (s t : TagState) (c d : Call) → is_reset c ≡ true → Alike (face_of s).width c d
    → SeenAlike runs (face_of s) c (give our_tag s c) (give our_tag t d) × Pair runs inside (give our_tag s c).next (give our_tag t d).next
anew s t c d i (resets h) =
    (record { answer = refl; seen = refl; bits = refl; reply = refl }, record { seen = refl; left = reset-sound; right = reset-sound })
anew s t c d i (commands a) = absurd (true≢false (sym i))
anew s t c d i (responses a) = absurd (true≢false (sym i))
anew s t c d i closes = absurd (true≢false (sym i))
anew s t c d i error_types = absurd (true≢false (sym i))

sound : (s : TagState) (c : Call) → sound_of s ≡ true → sound_of (give our_tag s c).next ≡ true
sound s (reset b) h = reset-sound
sound s (command c b) h = command-sound s c (length b) h
sound s (response c b) h = response-sound s c (length b) h
sound s close h = close-sound s h
sound s error_type h = h

-- "from state and flags": of sound states it is of the face
same_type : (s t : TagState) → Pair runs inside s t → error_type_of s ≡ error_type_of t
unfolding error_type_of
same_type s t k = rw (k.left, k.right, k.seen)

-- two calls that are lent no buffer, with one answer
unlent : (x y : TagState) (a b : ℕ) → a ≡ b
    → Says runs inside (record { next = x; answer = a; bits = 0; buffer = [] }) (record { next = y; answer = b; bits = 0; buffer = [] })
unlent x y a b e = record { answer = e; bits = refl; area = refl; reply = refl }

agree : (s t : TagState) (c d : Call) → Pair runs inside s t → is_reset c ≡ false → Alike (face_of s).width c d
    → Agree runs inside (face_of s) c s t (give our_tag s c) (give our_tag t d)
agree s t c d k i (resets h) = absurd (true≢false i)
agree s t c d k i (commands a) = command_agree _ _ a.room s t k.seen k.left k.right _ _ a
agree s t c d k i (responses a) = response_agree _ _ a.room s t k.seen k.left k.right _ _ a
agree s t c d k i closes = shut refl (ap (λ (f : Face). f.error) (face-closed s)) (closed_same s t k.seen) (unlent _ _ 0 0 refl)
agree s t c d k i error_types = kept (and-false (eqb (error_type_of s) 10)) refl refl (unlent s t _ _ (same_type s t k))

pub demand3 : Demand3 our_tag
demand3 = quiet runs inside (record { anew = anew; sound = sound; agree = agree })
