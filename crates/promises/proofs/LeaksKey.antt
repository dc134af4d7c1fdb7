-- Demand 3 has force: tags that tell a bit of a key, of a key update or of an earlier reply where nothing is compared are refuted.
-- Assumes nothing.
use mathlib.Core.Path.{◌≡◌, refl, sym, ap, ◌∙◌}
use mathlib.Core.Bool.{Bool, true, false, true≢false}
use mathlib.Core.List.{List, [], ◌∷◌}
use Prim.Native.Nat.{ℕ}
use native.Mathlib.Omega.{arith}
use lib.ListN.{take, drop, get_or, replicate}
use Rattle.bits.specs.Area.{shown}
use Rattle.bits.specs.Bits.{bits_of, digit, num_of}
use Rattle.bits.specs.Bytes.{bits_of_bytes, bytes_of, padded, field_of}
use Rattle.grain.specs.declared.Method.TheVariants.{Ta, Ia}
use Rattle.grain.specs.declared.Session.{Session}
use Rattle.book.specs.Book as Book
use Rattle.payloads.specs.Payloads.{zeros_of, layout_of, tag_challenge}
use Rattle.faces.specs.declared.Face.{Face}
use Rattle.faces.specs.TagFaces.{face_fits}
use Rattle.rules.specs.declared.Answer.TheVariants.{WrongKind, WrongLength}
use Rattle.rules.specs.Answers.{close, verdict_of, closing_of, if_sound}
use Rattle.rules.specs.Calls.{Command}
use Rattle.rules.specs.Results.{said, decided, refused_by}
use Rattle.rules.specs.TagRules.{shown_of, command_verdict, command_work}
use Rattle.rules.proofs.Verdicts.{soundly}
use Rattle.states.specs.Sessions.{filled_session, next_keystream, chosen_width, session_fits, with_engine}
use Rattle.states.specs.TagStates.{TagState, face_of, secrets_of, tag_of, sound_of, begun_face, reset_tag, begun_tag, open_by, closed_tag, open_tag}
use Rattle.states.proofs.Sessions.{filled-fits}
use Rattle.states.proofs.TagStates.{face-begun, face-open, face-of}
use Rattle.machines.specs.TagWork.{challenged, command_of, carried_of}
use Rattle.machines.proofs.TagSound.{begun-sound, open-sound}
use Rattle.promises.specs.Machines.{Given}
use Rattle.promises.specs.Ours.{given}
use Rattle.promises.specs.Silence.{Silent, reply_of}
use Rattle.promises.specs.Demand3 as Demand3
use Rattle.promises.specs.Demand3.{AlikeCommands, commands, error_types, closes, Demand3}
use Rattle.promises.specs.Leaky.{key_bit, replying, tells_key, tells_early, tells_zeros, marks_features, leaves_earlier, error_tells, close_tells}
use Rattle.promises.proofs.Comparisons.{order_of}
use Rattle.promises.proofs.LeakRuns.{buffer, called, call, keyed, alike_but, alike_keys, from_reset, opening, engine, opens}

-- ---- where ours answers 3: a comm command in CS-Reset, with two keys

abbrev message : ℕ → Command
message k = called 31 k 1 [] 0

not_for_reset : (k : ℕ) → command_of reset_tag (message k) 265 ≡ refused_by (closed_tag reset_tag) WrongKind
unfolding command_of if_sound carried_of decided command_verdict command_work shown_of verdict_of closing_of
    sound_of face_fits session_fits face_of secrets_of tag_of reset_tag Book.sound_of Book.ids_of Book.key_ids Book.rising
not_for_reset k = refl

pub tells_key_lem : Demand3 tells_key → ⊥
unfolding Silent face_of reset_tag tag_of bits_of_bytes bits_of digit
tells_key_lem d =
    let m = (from_reset tells_key d (keyed message ∷ []) (commands (alike_keys _ 31 0 128 1 _ 0))).0 in
    let n = rw (not_for_reset 0, not_for_reset 128) at m in
    omega (arith, n.answer)

-- ---- where ours answers 6: a step 1 command of 72 bits, as one of 80 would be compared

abbrev short : ℕ → Command
short k = called 31 k 0 (80 ∷ 5 ∷ replicate 7 0) 72

too_short : (k : ℕ) → command_verdict (begun_face false 5) (shown_of 0 (short k) 265) ≡ close WrongLength
unfolding command_verdict shown_of verdict_of closing_of Book.sound_of Book.ids_of Book.key_ids Book.rising
too_short k = refl

abbrev asked : ℕ → TagState
asked k = begun_tag false 5 (engine Ia k)

refuses_short : (k : ℕ) → command_of (asked k) (short k) 265 ≡ refused_by (closed_tag (asked k)) WrongLength
unfolding command_of carried_of decided
refuses_short k = rw (soundly (sound_of (asked k)) _ (begun-sound false 5 (engine Ia k)), face-begun, too_short k)

pub tells_early_lem : Demand3 tells_early → ⊥
unfolding Silent bits_of_bytes bits_of digit
tells_early_lem d =
    let h = (from_reset tells_early d (keyed (opening Ia) ∷ keyed short ∷ []) (commands (alike_keys _ 2 0 128 0 _ 64))).1 in
    let m = ((rw (opens Ia 0, opens Ia 128, face-begun) at h) (commands (alike_keys _ 31 0 128 0 _ 72))).0 in
    let n = rw (refuses_short 0, refuses_short 128, order_of (begun_face false 5) (short 0) 265 _ (too_short 0)) at m in
    omega (arith, n.answer)

-- ---- where ours answers 3: key updates of 40 bits in TA.1, which shows a width of 32 and has the eight bits of a message first

abbrev update : ℕ → Command
update x = called 31 0 3 (x ∷ replicate 4 0) 40

abbrev filled : Session
filled = filled_session (chosen_width 0) (engine Ta 0)

abbrev proven : TagState
proven = open_tag Ta 5 0 (with_engine filled (next_keystream filled.engine).engine)

no_update : (x : ℕ) → command_verdict (open_by Ta 5 0) (shown_of 32 (update x) 265) ≡ close WrongKind
unfolding command_verdict shown_of verdict_of closing_of Book.sound_of Book.ids_of Book.key_ids Book.rising
no_update x = refl

refuses_update : (x : ℕ) → command_of proven (update x) 265 ≡ refused_by (closed_tag proven) WrongKind
unfolding command_of carried_of decided
refuses_update x = rw (soundly (sound_of proven) _ (open-sound 5 0 _ refl (filled-fits (chosen_width 0) _) Ta), face-open, no_update x)

pub tells_zeros_lem : Demand3 tells_zeros → ⊥
unfolding Silent bits_of_bytes bits_of digit num_of padded field_of zeros_of
tells_zeros_lem d =
    let calls : List (Demand3.Call × Demand3.Call) = (call (opening Ta 0), call (opening Ta 0)) ∷ (call (update 0), call (update 1)) ∷ [] in
    let h = (from_reset tells_zeros d calls (commands (alike_keys _ 5 0 0 0 _ 64))).1 in
    let a = alike_but _ 31 0 0 3 (update 0).payload (update 1).payload 40 refl (λ k. absurd (omega (arith, k))) (λ k. absurd (true≢false (sym k))) in
    let m = ((rw (opens Ta 0, face-open) at h) (commands a)).0 in
    let n = rw (refuses_update 0, refuses_update 1) at m in
    omega (arith, n.answer)

-- ---- where ours answers 0: step 0 of IA, with two keys

-- a reply with the bit b before the others
abbrev marked : Bool → Given TagState
marked b = let g = given (said (challenged false 5 2 0 (engine Ia 0))) buffer in replying (b ∷ drop 1 (reply_of g)) buffer g

abbrev first : List Bool → Bool
first l = get_or l 0 false

first_public : (b : Bool) → first (Demand3.public_reply (face_of reset_tag) (call (opening Ia 0)) (reply_of (marked b))) ≡ b
unfolding layout_of tag_challenge shown bytes_of bits_of_bytes bits_of digit num_of padded
first_public true = refl
first_public false = refl

bits_differ : key_bit (opening Ia 0) ≡ key_bit (opening Ia 128) → ⊥
unfolding bits_of_bytes bits_of digit
bits_differ e = true≢false (sym e)

pub marks_features_lem : Demand3 marks_features → ⊥
unfolding Silent layout_of tag_challenge bits_of
marks_features_lem d =
    let m = (from_reset marks_features d (keyed (opening Ia) ∷ []) (commands (alike_keys _ 2 0 128 0 _ 64))).0 in
    let n = rw (opens Ia 0, opens Ia 128) at m in
    bits_differ (sym (first_public _) ∙ ap first n.reply ∙ first_public _)

-- ---- the same, in two buffers

abbrev used : List ℕ
used = 255 ∷ replicate 264 0

alike_buffers : (w : ℕ) (c : Command) → AlikeCommands w c c buffer used
alike_buffers w c = record {
  kind = refl;
  count = refl;
  size = refl;
  room = refl;
  features = refl;
  number = refl;
  book_size = refl;
  key_ids = refl;
  authentication = λ k. refl;
  zeros = λ k p q. refl;
}

-- what the buffer held
abbrev earlier : List ℕ → Given TagState
earlier b = let g = given (said (challenged false 5 2 0 (engine Ia 0))) b in replying (take g.bits (bits_of_bytes b)) b g

abbrev told : List ℕ → Bool
told b = first (Demand3.public_reply (face_of reset_tag) (call (opening Ia 0)) (reply_of (earlier b)))

buffers_differ : told buffer ≡ told used → ⊥
unfolding layout_of tag_challenge shown bytes_of bits_of_bytes bits_of digit num_of padded
buffers_differ e = true≢false (sym e)

pub leaves_earlier_lem : Demand3 leaves_earlier → ⊥
unfolding Silent
leaves_earlier_lem d =
    let m = (from_reset leaves_earlier d ((call (opening Ia 0), Demand3.command (opening Ia 0) used) ∷ []) (commands (alike_buffers _ (opening Ia 0)))).0 in
    let n = rw (opens Ia 0) at m in
    buffers_differ (ap first n.reply)

-- ---- calls after it, with two keys

-- the error type
pub error_tells_lem : Demand3 error_tells → ⊥
unfolding Silent bits_of_bytes bits_of digit
error_tells_lem d =
    let h = (from_reset error_tells d (keyed (opening Ia) ∷ (Demand3.error_type, Demand3.error_type) ∷ []) (commands (alike_keys _ 2 0 128 0 _ 64))).1 in
    let m = ((rw (opens Ia 0, opens Ia 128, face-begun false 5 (engine Ia 0), face-begun false 5 (engine Ia 128)) at h) error_types).0 in
    omega (arith, m.answer)

-- closing
pub close_tells_lem : Demand3 close_tells → ⊥
unfolding Silent bits_of_bytes bits_of digit
close_tells_lem d =
    let h = (from_reset close_tells d (keyed (opening Ia) ∷ (Demand3.close, Demand3.close) ∷ []) (commands (alike_keys _ 2 0 128 0 _ 64))).1 in
    let m = ((rw (opens Ia 0, opens Ia 128, face-begun) at h) closes).0 in
    let n : ◌≡◌ {A = ℕ} 0 1 = ap (λ (f : Face). f.keyid) (sym (face-of _ _) ∙ m.seen ∙ face-of _ _) in
    omega (arith, n)
