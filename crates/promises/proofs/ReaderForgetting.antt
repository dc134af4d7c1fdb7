-- Our reader ignores bits beyond the given count. Assumes nothing.
use mathlib.Core.Path.{◌≡◌, refl, sym, ap, ◌∙◌}
use mathlib.Core.Bool.{Bool, true, false, cond, ◌&&◌, ◌||◌, true≢false, and-false}
use mathlib.Core.List.{List}
use Prim.Native.Nat.{ℕ, ◌+◌, ◌-◌, ◌≤◌}
use native.Mathlib.Decide.{dec_le}
use native.Mathlib.Omega.{arith}
use lib.Dec.{eqb}
use lib.ListN.{length}
use borrow.Author.Tests.{eqb-true, ne_eqb, lt-leb, not-false}
use Rattle.bits.specs.Bytes.{bits_of_bytes}
use Rattle.bits.proofs.Bools.{and_left, cond_same}
use Rattle.grain.specs.Stored.{width_of}
use Rattle.payloads.specs.Payloads.{status_in, length_fits, zeros_of}
use Rattle.faces.specs.declared.ReaderFace.{ReaderFace}
use Rattle.faces.specs.declared.Stage.{Stage}
use Rattle.faces.specs.declared.Stage.TheVariants.{Idle, Step0Sent, Step1Sent, Open, Closed}
use Rattle.faces.specs.ReaderFaces.{stage_row}
use Rattle.rules.specs.declared.ReplyWork.TheVariants.{Compare, Answer, Fail, Accept, Confirm}
use Rattle.rules.specs.declared.ShownReply.{ShownReply}
use Rattle.rules.specs.Answers.{verdict_of, closing_of, if_sound}
use Rattle.rules.specs.Calls.{Message, message_shown}
use Rattle.rules.specs.Results.{said}
use Rattle.rules.specs.ReaderRules.{reply_shown, reply_keeping, reply_closing, reply_verdict, reply_work, receive_verdict}
use Rattle.rules.proofs.Verdicts.{passed, sound_goes}
use Rattle.rules.proofs.ReaderLaws.{receive_receivable}
use Rattle.states.specs.Sessions.{stored_width}
use Rattle.states.specs.ReaderStates.{ReaderState, reader_face_of, reader_secrets_of, reader_sound, closed_reader, with_reader_session}
use Rattle.states.proofs.Sessions.{width-stored}
use Rattle.machines.specs.ReaderWork.{answer_session, compare_of, answer_of, confirm_of, answered_by, replied_of, sent_by, sending_of, received_by, receiving_of}
use Rattle.machines.proofs.ReaderSound.{reader-face-sound}
use Rattle.promises.specs.ReaderTable.{reply_right}
use Rattle.promises.specs.Demand1.{AlikeTo, message_with}
use Rattle.promises.proofs.Forgetting.{field_alike, beyond_alike, decided-same, taken-same}
use Rattle.promises.proofs.ReaderRows.{reply-row}

-- ---- the authentication response

module _ (r : ReaderState) (payload slice : List ℕ) (count room : ℕ) (a : AlikeTo count payload slice) where
  abbrev f : ReaderFace
  f = reader_face_of r

  abbrev p : ShownReply
  p = reply_shown payload count room

  abbrev q : ShownReply
  q = reply_shown slice count room

  abbrev l : List Bool
  l = bits_of_bytes payload

  abbrev m : List Bool
  m = bits_of_bytes slice

  verdict_at : (n : Stage) → verdict_of (reply_keeping (stage_row n) p) (reply_closing (stage_row n) f p) ≡ verdict_of (reply_keeping (stage_row n) q) (reply_closing (stage_row n) f q)
  unfolding verdict_of closing_of
  verdict_at Idle = rw (beyond_alike a)
  verdict_at Step0Sent = elim (dec_le 8 count) [
    | yes h ↦ rw (beyond_alike a, field_alike a 0 8 h)
    | no h ↦ rw (beyond_alike a, ne_eqb count 120 (λ e. omega arith), ne_eqb count 56 (λ e. omega arith)) (simp and-false)
  ]
  verdict_at Step1Sent = elim (dec_le 1 count) [
    | yes h ↦ rw (beyond_alike a, field_alike a 0 1 h)
    | no h ↦ rw (beyond_alike a, ne_eqb count 1 (λ e. omega arith), ne_eqb count 65 (λ e. omega arith)) (simp and-false)
  ]
  verdict_at Open = rw (beyond_alike a)
  verdict_at Closed = rw (beyond_alike a)

  -- TA's response has 120 bits, IA's and MA's 56
  asked_same : (x : Bool) → eqb count (cond x 120 56) ≡ true → answered_by (cond x Compare Answer) r l ≡ answered_by (cond x Compare Answer) r m
  unfolding answered_by compare_of answer_of answer_session
  asked_same true h = let e : count ≡ 120 = eqb-true _ _ h in rw (field_alike a 8 48 (omega arith), field_alike a 56 64 (omega arith))
  asked_same false h = let e : count ≡ 56 = eqb-true _ _ h in rw (field_alike a 8 48 (omega arith))

  -- step 1's has its status, and MA's that is compared 65 bits
  proving-least : reply_right Step1Sent f.method count (status_in l) ≡ true → 1 ≤ count
  proving-least h =
      elim (dec_le 1 count) [
        | yes g ↦ g
        | no g ↦ absurd (true≢false (sym h ∙ rw (ne_eqb count 1 (λ e. omega arith), ne_eqb count 65 (λ e. omega arith)) (cond_same (eqb f.method 1) false)))
      ]

  proving-same : (x s : Bool) → eqb (status_in l) 1 ≡ s → cond x (eqb count 1) ((eqb count 1 && eqb (status_in l) 1) || (eqb count 65 && eqb (status_in l) 0)) ≡ true
      → answered_by (cond s Fail (cond x Accept Confirm)) r l ≡ answered_by (cond s Fail (cond x Accept Confirm)) r m
  unfolding answered_by confirm_of
  proving-same x true e h = refl
  proving-same true false e h = refl
  proving-same false false e h =
      let g : ((eqb count 1 && false) || (eqb count 65 && eqb (status_in l) 0)) ≡ true = rw e at h in
      let z : count ≡ 65 = eqb-true _ _ (and_left _ _ (only_right (eqb count 1) _ g)) in
      rw (field_alike a 1 64 (omega arith))
    where
      only_right : (b c : Bool) → ((b && false) || c) ≡ true → c ≡ true
      only_right true c h = h
      only_right false c h = h

  work_at : (n : Stage) → reply_right n f.method count (status_in l) ≡ true
      → answered_by (cond (stage_row n).asked (cond (eqb f.method 0) Compare Answer) (cond (eqb (status_in l) 1) Fail (cond (eqb f.method 1) Accept Confirm))) r l
      ≡ answered_by (cond (stage_row n).asked (cond (eqb f.method 0) Compare Answer) (cond (eqb (status_in m) 1) Fail (cond (eqb f.method 1) Accept Confirm))) r m
  work_at Idle h = absurd (true≢false (sym h))
  work_at Step0Sent h = asked_same (eqb f.method 0) h
  work_at Step1Sent h = rw (← field_alike a 0 1 (proving-least h)) (proving-same (eqb f.method 1) (eqb (status_in l) 1) refl h)
  work_at Open h = absurd (true≢false (sym h))
  work_at Closed h = absurd (true≢false (sym h))

  pub replied_ignores : replied_of r payload count room ≡ replied_of r slice count room
  unfolding replied_of reply_verdict reply_work
  replied_ignores =
      decided-same _ _ r closed_reader _ _ (ap (if_sound (reader_sound r)) (verdict_at f.stage))
      (λ v.
      let c = passed _ _ (sound_goes _ _ v).1 in
      ap said (work_at f.stage (sym (reply-row f.stage f.method count (status_in l)) ∙ not-false _ c.length)))

-- ---- messages

pub send_ignores : (r : ReaderState) (m : Message) (slice : List ℕ) (room : ℕ) → AlikeTo m.count m.payload slice → sending_of r m room ≡ sending_of r (message_with m slice) room
unfolding sending_of sent_by
send_ignores r m slice room a = rw (beyond_alike a, a.bits)

module _ (r : ReaderState) (m : Message) (slice : List ℕ) (room : ℕ) (a : AlikeTo m.count m.payload slice) where
  -- the eight bits are looked at where the message has room for them
  zeros-same : (w : ℕ) → (length_fits w m.count && zeros_of w m.count (bits_of_bytes m.payload)) ≡ (length_fits w m.count && zeros_of w m.count (bits_of_bytes slice))
  unfolding zeros_of
  zeros-same w =
      elim (dec_le (8 + w) m.count) [
        | yes h ↦ rw (field_alike a (m.count - (8 + w)) 8 (omega arith))
        | no h ↦ rw (lt-leb (8 + w) m.count (omega arith))
      ]

  pub receive_ignores : receiving_of r m room ≡ receiving_of r (message_with m slice) room
  unfolding receiving_of receive_verdict received_by
  receive_ignores =
      let f = reader_face_of r in
      decided-same _ _ r closed_reader _ _ (rw (beyond_alike a, zeros-same f.width))
      (λ v.
      let g = sound_goes _ _ v in
      let k = receive_receivable f (message_shown m room) _ g.1 (reader-face-sound r g.0) (length m.payload) refl in
      let long : 8 + width_of (stored_width f.width) ≤ m.count = rw (width-stored f.width k.wide k.width) k.least in
      taken-same (with_reader_session r) closed_reader (stored_width f.width) (eqb m.kind 2) (reader_secrets_of r) a long)
