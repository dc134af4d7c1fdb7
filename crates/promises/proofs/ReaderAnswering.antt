-- Demand 1 holds of our reader: where a call does its work every check has passed, and what it does is by the table. Assumes nothing.
use mathlib.Core.Path.{◌≡◌, refl, sym, ◌∙◌}
use mathlib.Core.Bool.{Bool, true, false, not, cond, ◌&&◌, ◌||◌, true≢false, or-true}
use mathlib.Core.List.{List, [], ◌++◌, append_assoc}
use Prim.Native.Nat.{ℕ, ◌≤◌}
use native.Mathlib.Omega.{arith}
use lib.Dec.{eqb}
use lib.ListN.{length}
use borrow.Author.Tests.{ltb-false, not-false}
use Rattle.bits.specs.Bits.{bits_of}
use Rattle.bits.specs.Bytes.{bits_of_bytes}
use Rattle.bits.proofs.Numbers.{length-bits_of}
use Rattle.payloads.specs.declared.Payload.TheVariants.{StepZero, StepOne}
use Rattle.payloads.specs.Payloads.{layout_of, step_one, status_in, mac64, mac_bits}
use Rattle.faces.specs.declared.ReaderFace.{ReaderFace}
use Rattle.faces.specs.declared.Stage.{Stage}
use Rattle.faces.specs.declared.Stage.TheVariants.{Idle, Step0Sent, Step1Sent, Open, Closed}
use Rattle.faces.specs.ReaderFaces.{stage_row}
use Rattle.faces.proofs.Fits.{full_width}
use Rattle.rules.specs.declared.Answer.TheVariants.{Mismatch}
use Rattle.rules.specs.declared.ReplyWork.TheVariants.{Compare, Answer, Fail, Accept, Confirm}
use Rattle.rules.specs.Calls.{Message, Begin, message_shown}
use Rattle.rules.specs.Results.{Result, done_by, refused_by, said}
use Rattle.rules.specs.ReaderRules.{begin_verdict, reply_verdict, reply_work, send_verdict, receive_verdict}
use Rattle.rules.proofs.Verdicts.{passed, sound_goes, kept_decides}
use Rattle.rules.proofs.ReaderLaws.{talking, send_passed, send_sendable, receive_receivable}
use Rattle.states.specs.Sessions.{next_keystream}
use Rattle.states.specs.ReaderStates.{ReaderState, reader_face_of, reader_secrets_of, reader_sound, closed_reader}
use Rattle.states.proofs.ReaderStates.{face-shut, face_asked, face-filled, face-opened, face-moved}
use Rattle.machines.specs.ReaderWork.{begin_of, answer_session, matched, compare_of, answer_of, confirm_of, answered_by, replied_of, sent_by, sending_of, received_by, receiving_of}
use Rattle.machines.proofs.ReaderSound.{reader-face-sound, begin-sound, replied-sound, sending_sound, receiving_sound}
use Rattle.promises.specs.Order.{received_leads, sent_leads, Leads, failed}
use Rattle.promises.specs.ReaderTable.{bare_face, begin_checks, begin_leads, open_leads, step_one_leads, reply_leads, reply_checks, send_checks, receive_checks}
use Rattle.promises.proofs.Fitting.{Whole, payload-fits}
use Rattle.promises.proofs.Ordered.{Says, Works, always_right, called}
use Rattle.promises.proofs.Saying.{Split, ends_secret, all_public, done_works, received_works, sent_works}
use Rattle.promises.proofs.ReaderRows.{begin_first, reply_first, send_first, receive_first}

-- a step 1 command ends with 64 keystream bits
one_split : (m o k w : ℕ) → Split (layout_of (StepOne m o k w)) (bits_of 2 m ++ (bits_of 2 1 ++ (bits_of 4 o ++ bits_of 8 k))) 64 0 0
unfolding layout_of step_one
one_split m o k w = ends_secret _ _ (bits_of 64 w) 64 (length-bits_of 64 w) (sym (simp append_assoc))

module _ (r : ReaderState) (b : List ℕ) where
  abbrev ReaderWorks : Leads ReaderFace → ReaderState → Result ReaderState → Type 0
  ReaderWorks p closed q = Works reader_face_of reader_sound p r closed b q

  abbrev f : ReaderFace
  f = reader_face_of r

  reader-done : (p : Leads ReaderFace) (n : ReaderState) (l : List Bool) → reader_face_of n ≡ p.done → Whole l b
      → Split l p.says p.secret p.zeros p.mac → ReaderWorks p closed_reader (done_by n l)
  reader-done = done_works reader_face_of reader_sound r closed_reader b

  open-width : reader_sound r ≡ true → ((stage_row f.stage).proving || (stage_row f.stage).opened) ≡ true → f.width ≡ mac_bits f.options
  open-width well full = full_width f (reader-face-sound r well) full

  pub begin-says : (i : Begin) → Says reader_face_of reader_sound (begin_leads i) r r b (begin_checks (reader_sound r) f i (length b)) (begin_of r i (length b))
  unfolding begin_of begin_verdict layout_of
  begin-says i =
      rw kept_decides
      (called reader_face_of reader_sound (begin_leads i) r r b _ false _ _ (begin_first (reader_sound r) f i (length b)) (always_right _ _ _)
      (λ v. rw kept_decides at (begin-sound r i (length b) (sound_goes _ _ v).0)) (λ v z. absurd (true≢false (sym z)))
      (λ v z.
      let p = passed _ _ (sound_goes _ _ v).1 in
      done_works reader_face_of reader_sound r r b (begin_leads i) _ _ (face_asked _ _ _ _ _) (payload-fits b (ltb-false _ _ p.kept.buffer) (StepZero _ _ _ _)) (all_public _)))

  -- ---- the authentication response

  -- what is compared, and then opens the reader
  matched_works : (same : Bool) (next : ReaderState) → reader_face_of next ≡ (open_leads true f).done → ReaderWorks (open_leads true f) closed_reader (said (matched same next))
  unfolding matched layout_of
  matched_works true next e = reader-done (open_leads true f) next [] e (omega arith) (all_public [])
  matched_works false next e = record {
    fits = omega arith;
    worked = λ z. failed (record { compared = refl; answer = refl; next = face-shut; sound = z; said = refl });
  }

  module _ (room : 265 ≤ length b) (well : reader_sound r ≡ true) (l : List Bool) where
    -- step 0 sent: TA's where x says so
    asked_works : (x : Bool) → ReaderWorks (cond x (open_leads true f) (step_one_leads f)) closed_reader (said (answered_by (cond x Compare Answer) r l))
    unfolding answered_by compare_of answer_of
    asked_works true = matched_works _ _ (face-filled _ _ _)
    asked_works false =
        let w = (next_keystream (answer_session r l).engine).word in
        reader-done (step_one_leads f) _ _ (face-filled _ _ _) (payload-fits b room (StepOne f.method f.options f.keyid w))
        (one_split f.method f.options f.keyid w)

    -- step 1 sent: IA's where y says so
    proving_works : (y : Bool) → (stage_row f.stage).proving ≡ true → ReaderWorks (open_leads (not y) f) closed_reader (said (answered_by (cond y Accept Confirm) r l))
    unfolding answered_by confirm_of
    proving_works true p =
        unfold layout_of in reader-done (open_leads false f) _ _ (face-opened _ _ ∙ rw (open-width well (rw p refl)) refl) (omega arith) (all_public [])
    proving_works false p = matched_works _ _ (face-opened _ _ ∙ rw (open-width well (rw p refl)) refl)

    reply_works : (n : Stage) (s : Bool) → f.stage ≡ n → ((stage_row n).proving && s) ≡ false → ((stage_row n).asked || (stage_row n).proving) ≡ true
        → ReaderWorks (reply_leads n f) closed_reader
        (said (answered_by (cond (stage_row n).asked (cond (eqb f.method 0) Compare Answer) (cond s Fail (cond (eqb f.method 1) Accept Confirm))) r l))
    reply_works Idle s e h w = absurd (true≢false (sym w))
    reply_works Step0Sent s e h w = asked_works (eqb f.method 0)
    reply_works Step1Sent true e h w = absurd (true≢false h)
    reply_works Step1Sent false e h w = proving_works (eqb f.method 1) (rw e refl)
    reply_works Open s e h w = absurd (true≢false (sym w))
    reply_works Closed s e h w = absurd (true≢false (sym w))

  -- "Status 1 .. 10"
  reply-fails : (l : List Bool) (n : Stage) (s : Bool) → ((stage_row n).proving && s) ≡ true
      → said (answered_by (cond (stage_row n).asked (cond (eqb f.method 0) Compare Answer) (cond s Fail (cond (eqb f.method 1) Accept Confirm))) r l)
      ≡ refused_by closed_reader Mismatch
  unfolding answered_by layout_of
  reply-fails l Idle s h = absurd (true≢false (sym h))
  reply-fails l Step0Sent s h = absurd (true≢false (sym h))
  reply-fails l Step1Sent true h = refl
  reply-fails l Step1Sent false h = absurd (true≢false (sym h))
  reply-fails l Open s h = absurd (true≢false (sym h))
  reply-fails l Closed s h = absurd (true≢false (sym h))

  pub replied-says : (payload : List ℕ) (count : ℕ)
      → Says reader_face_of reader_sound (reply_leads f.stage f) r closed_reader b (reply_checks (reader_sound r) f payload count (length b)) (replied_of r payload count (length b))
  unfolding replied_of reply_verdict reply_work
  replied-says payload count =
      let l = bits_of_bytes payload in
      let s = eqb (status_in l) 1 in
      called reader_face_of reader_sound (reply_leads f.stage f) r closed_reader b _ ((stage_row f.stage).proving && s) _ _
      (reply_first (reader_sound r) f payload count (length b)) (always_right _ _ _)
      (λ v. replied-sound r payload count (length b) (sound_goes _ _ v).0) (λ v z. reply-fails l f.stage s z)
      (λ v z.
      let g = sound_goes _ _ v in
      let p = passed _ _ g.1 in
      reply_works (ltb-false _ _ p.kept.buffer) g.0 l f.stage s refl z (not-false _ p.kept.work))

  -- ---- messages

  pub send-says : (m : Message)
      → Says reader_face_of reader_sound (sent_leads f (bare_face Closed) f.width 2 m) r closed_reader b (send_checks (reader_sound r) f m (length b)) (sending_of r m (length b))
  unfolding sending_of send_verdict sent_by
  send-says m =
      called reader_face_of reader_sound (sent_leads f (bare_face Closed) f.width 2 m) r closed_reader b _ false _ _ (send_first (reader_sound r) f m (length b)) (always_right _ _ _)
      (λ v. sending_sound r m (length b) (sound_goes _ _ v).0) (λ v z. absurd (true≢false (sym z)))
      (λ v z.
      let g = sound_goes _ _ v in
      sent_works reader_face_of reader_sound r closed_reader b f (bare_face Closed) f.width 2 m (reader_secrets_of r) (mac64 f.options)
      (open-width g.0 (rw (talking f 0 m.kind (not-false _ (send_passed f (message_shown m (length b)) g.1).kept.work), or-true)))
      (send_sendable f (message_shown m (length b)) g.1 (length m.payload) refl) _ (face-moved r _))

  pub receive-says : (m : Message)
      → Says reader_face_of reader_sound (received_leads f (bare_face Closed) f.width m) r closed_reader b (receive_checks (reader_sound r) f m (length b)) (receiving_of r m (length b))
  unfolding receiving_of receive_verdict received_by
  receive-says m =
      called reader_face_of reader_sound (received_leads f (bare_face Closed) f.width m) r closed_reader b _ false _ _ (receive_first (reader_sound r) f m (length b)) (always_right _ _ _)
      (λ v. receiving_sound r m (length b) (sound_goes _ _ v).0) (λ v z. absurd (true≢false (sym z)))
      (λ v z.
      let g = sound_goes _ _ v in
      received_works reader_face_of reader_sound r closed_reader b f (bare_face Closed) f.width m (reader_secrets_of r)
      (receive_receivable f (message_shown m (length b)) _ g.1 (reader-face-sound r g.0) (length m.payload) refl)
      (ltb-false _ _ (passed _ _ g.1).kept.buffer) _ _ _ (face-moved r _) face-shut)
