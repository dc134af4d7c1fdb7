-- The idle and the closed reader are sound; begin, an authentication response and a message leave a sound reader sound. Assumes nothing.
use mathlib.Core.Path.{◌≡◌, refl, ap}
use mathlib.Core.Bool.{Bool, true, false, not, cond, ◌&&◌, ◌||◌, or_assoc, or-true}
use mathlib.Core.List.{List}
use Prim.Native.Nat.{ℕ}
use lib.Dec.{eqb}
use borrow.Author.Tests.{lt-ltb, leb-false, eq-eqb, not-false}
use Rattle.bits.specs.Bytes.{bits_of_bytes}
use Rattle.bits.proofs.Bools.{and_left, and_right, neither}
use Rattle.grain.specs.declared.Engine.{Engine}
use Rattle.grain.specs.declared.Session.{Session}
use Rattle.grain.specs.Stored.{width_of}
use Rattle.payloads.specs.Payloads.{mac64, mac_bits, tag_number_in, status_in, number_limit}
use Rattle.faces.specs.declared.ReaderFace.{ReaderFace}
use Rattle.rules.specs.declared.ReplyWork.TheVariants.{Compare, Answer, Fail, Accept, Confirm}
use Rattle.faces.specs.declared.Stage.{Stage}
use Rattle.faces.specs.declared.Stage.TheVariants.{Step1Sent, Open}
use Rattle.rules.specs.Calls.{Begin, Message}
use Rattle.rules.specs.Results.{Result, said}
use Rattle.faces.specs.ReaderFaces.{stage_row, reader_bare, reader_fits}
use Rattle.rules.specs.ReaderRules.{begin_verdict, reply_verdict, reply_work, send_verdict, receive_verdict}
use Rattle.faces.proofs.Fits.{sound-options, sound-method, sound-number, sound-proving, full_width}
use Rattle.rules.proofs.Verdicts.{kept_decides}
use Rattle.rules.proofs.ReaderLaws.{talking}
use Rattle.rules.proofs.Soundness as Soundness
use Rattle.rules.proofs.Soundness.{compared_good, decided_good}
use Rattle.states.specs.Sessions.{chosen_width, stored_width, begun_engine, with_engine, after_message, sent_session, words_fit, session_fits}
use Rattle.states.specs.ReaderStates.{ReaderState, reader_face_of, reader_secrets_of, reader_of, reader_sound, begun_reader_face, moved_face, reset_reader, closed_reader, begun_reader, filled_reader, opened_reader, with_reader_session}
use Rattle.machines.specs.ReaderWork.{begin_of, answer_session, matched, compare_of, answer_of, confirm_of, answered_by, replied_of, sent_by, sending_of, received_by, receiving_of}
use Rattle.states.proofs.Sessions.{width_chosen, width-stored, filled-fits, message-fits}
use Rattle.states.proofs.ReaderStates.{reader-face-of, reader_secrets_of_lem}

-- ---- the parts of a sound state

parts_sound : (f : ReaderFace) (x : Session) → reader_fits f ≡ true → session_fits (reader_bare f) f.width x ≡ true → reader_sound (reader_of f x) ≡ true
unfolding reader_sound
parts_sound f x h k = rw (reader-face-of f x, reader_secrets_of_lem f x, h, k)

pub reader-reset-sound : reader_sound reset_reader ≡ true
unfolding reset_reader reader_fits session_fits
reader-reset-sound = parts_sound _ _ refl refl

pub reader-closed-sound : reader_sound closed_reader ≡ true
unfolding closed_reader reader_fits session_fits
reader-closed-sound = parts_sound _ _ refl refl

abbrev Good : Result ReaderState → Type 0
Good = Soundness.Good reader_sound

-- a comparison, which opens or closes
matched_good : (same : Bool) (next : ReaderState) → reader_sound next ≡ true → Good (said (matched same next))
unfolding matched
matched_good true next h = h
matched_good false next h = reader-closed-sound

-- ---- the states that follow a sound one

module _ (r : ReaderState) (s : reader_sound r ≡ true) where
  abbrev f : ReaderFace
  f = reader_face_of r

  pub reader-face-sound : reader_fits f ≡ true
  unfolding reader_sound
  reader-face-sound = and_left _ _ s

  sound-words : words_fit f.width (reader_secrets_of r) ≡ true
  unfolding reader_sound session_fits
  sound-words = and_left _ _ (and_right (reader_fits f) _ s)

  -- step 1 sent, and not under TA, or open: with words of the width that the options choose
  next-sound : (g : Stage) (w : ℕ) (x : Session) → ((stage_row g).proving || (stage_row g).opened) ≡ true → not ((stage_row g).proving && eqb f.method 0) ≡ true
      → w ≡ mac_bits f.options → words_fit w x ≡ true → reader_sound (reader_of (moved_face g w f) x) ≡ true
  unfolding reader_fits session_fits
  next-sound g w x full proving width words =
      let h = reader-face-sound in
      let held = or_assoc (stage_row g).asked (stage_row g).proving (stage_row g).opened in
      parts_sound (moved_face g w f) x
      (rw (held, lt-ltb _ _ (sound-options f h), full, eq-eqb _ _ width, lt-ltb _ _ (sound-method f h), sound-number f h, proving, or-true (stage_row g).asked))
      (rw (held, full, words, or-true (stage_row g).asked))

  -- the session that a tag's number starts
  answer-words : (l : List Bool) → words_fit (mac_bits f.options) (answer_session r l) ≡ true
  unfolding answer_session
  answer-words l =
      rw (width_chosen f.options) at
      (filled-fits (chosen_width f.options) (begun_engine (reader_secrets_of r).engine.b f.method f.number (tag_number_in l)))

  filled-sound : (opens : Bool) (l : List Bool) (e : Engine) → not (not opens && eqb f.method 0) ≡ true → reader_sound (filled_reader opens r (with_engine (answer_session r l) e)) ≡ true
  unfolding filled_reader
  filled-sound true l e h = next-sound Open _ _ refl refl refl (answer-words l)
  filled-sound false l e h = next-sound Step1Sent _ _ refl h refl (answer-words l)

  -- a step 1 that is answered opens the same session, with another engine
  opened-sound : (stage_row f.stage).proving ≡ true → (e : Engine) → reader_sound (opened_reader r (with_engine (reader_secrets_of r) e)) ≡ true
  unfolding opened_reader
  opened-sound proving e = next-sound Open _ _ refl refl (full_width f reader-face-sound (rw proving)) sound-words

  -- a message leaves new words of the same width
  message-sound : (ms : List Bool) → (stage_row f.stage).opened ≡ true
      → reader_sound (with_reader_session r (after_message (stored_width f.width) ms (reader_secrets_of r))) ≡ true
  unfolding with_reader_session
  message-sound ms opened =
      let h = reader-face-sound in
      let v = stored_width f.width in
      let full : ((stage_row f.stage).proving || (stage_row f.stage).opened) ≡ true = rw (opened, or-true) in
      let width = full_width f h full in
      let size : width_of v ≡ f.width = width-stored f.width (mac64 f.options) width in
      let words : words_fit f.width (after_message v ms (reader_secrets_of r)) ≡ true = rw size at (message-fits v ms (reader_secrets_of r)) in
      next-sound f.stage f.width _ full (sound-proving f h) width words

  -- what a response that passed does: a where step 0 is sent, b under TA
  work_good : (l : List Bool) → ((stage_row f.stage).asked || (stage_row f.stage).proving) ≡ true
      → (a b d g : Bool) → (stage_row f.stage).asked ≡ a → eqb f.method 0 ≡ b → Good (said (answered_by (cond a (cond b Compare Answer) (cond d Fail (cond g Accept Confirm))) r l))
  unfolding answered_by compare_of answer_of confirm_of
  work_good l waits true true d g h k = matched_good _ _ (filled-sound true l _ refl)
  work_good l waits true false d g h k = filled-sound false l _ (ap not k)
  work_good l waits false b true g h k = reader-closed-sound
  work_good l waits false b false true h k = opened-sound (rw h at waits) (reader_secrets_of r).engine
  work_good l waits false b false false h k = matched_good _ _ (opened-sound (rw h at waits) _)

  -- ---- the calls

  begin_good : (i : Begin) (room : ℕ) → Good (begin_of r i room)
  unfolding begin_of begin_verdict begun_reader reader_fits session_fits
  begin_good i room =
      rw kept_decides
      (decided_good reader_sound _ _ r r _ s s
      (λ c. let support = neither _ _ c.support in
      parts_sound (begun_reader_face i.method i.options i.keyid i.number) _
      (rw (lt-ltb i.options 4 (leb-false _ _ support.1), lt-ltb i.method 3 (leb-false _ _ support.0), lt-ltb i.number number_limit (leb-false _ _ c.kept.argument)))
      refl))

  replied_good : (payload : List ℕ) (count room : ℕ) → Good (replied_of r payload count room)
  unfolding replied_of reply_verdict reply_work
  replied_good payload count room =
      decided_good reader_sound _ _ r closed_reader _ s reader-closed-sound
      (λ c. work_good (bits_of_bytes payload) (not-false _ c.kept.work) (stage_row f.stage).asked (eqb f.method 0) (eqb (status_in (bits_of_bytes payload)) 1) (eqb f.method 1) refl refl)

  sending_good : (m : Message) (room : ℕ) → Good (sending_of r m room)
  unfolding sending_of send_verdict sent_by sent_session
  sending_good m room =
      decided_good reader_sound _ _ r closed_reader _ s reader-closed-sound
      (λ c. message-sound _ (talking f 0 m.kind (not-false _ c.kept.work)))

  receiving_good : (m : Message) (room : ℕ) → Good (receiving_of r m room)
  unfolding receiving_of receive_verdict received_by
  receiving_good m room =
      decided_good reader_sound _ _ r closed_reader _ s reader-closed-sound
      (λ c. compared_good reader_sound _ _ _ _ (message-sound _ (talking f 1 m.kind (not-false _ c.kept.work))) reader-closed-sound)

-- ---- the laws

pub begin-sound : (r : ReaderState) (i : Begin) (room : ℕ) → reader_sound r ≡ true → reader_sound (begin_of r i room).next ≡ true
begin-sound r i room s = begin_good r s i room

pub replied-sound : (r : ReaderState) (payload : List ℕ) (count room : ℕ) → reader_sound r ≡ true → reader_sound (replied_of r payload count room).next ≡ true
replied-sound r payload count room s = replied_good r s payload count room

pub sending_sound : (r : ReaderState) (m : Message) (room : ℕ) → reader_sound r ≡ true → reader_sound (sending_of r m room).next ≡ true
sending_sound r m room s = sending_good r s m room

pub receiving_sound : (r : ReaderState) (m : Message) (room : ℕ) → reader_sound r ≡ true → reader_sound (receiving_of r m room).next ≡ true
receiving_sound r m room s = receiving_good r s m room
