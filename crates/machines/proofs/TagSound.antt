-- The reset tag is sound; closing, a command and a response leave a sound tag sound. Assumes nothing.
use mathlib.Core.Path.{◌≡◌, refl, sym, ◌∙◌}
use mathlib.Core.Bool.{Bool, true, false, not, cond, beq, ◌&&◌, ◌||◌, true≢false, and-false, or-true}
use mathlib.Core.List.{List}
use Prim.Native.Nat.{ℕ}
use native.Mathlib.Decide.{dec_le}
use native.Mathlib.Omega.{arith}
use lib.Dec.{ltb, eqb}
use borrow.Author.Tests.{lt-ltb, le-ltb, eq-eqb, ne_eqb, not-false}
use Rattle.bits.proofs.Bools.{and_left, either}
use Rattle.grain.specs.declared.Engine.{Engine}
use Rattle.grain.specs.declared.Method.{Method}
use Rattle.grain.specs.declared.Method.TheVariants.{Ta, Ia, Ma}
use Rattle.grain.specs.declared.Session.{Session}
use Rattle.grain.specs.Stored.{width_of}
use Rattle.payloads.specs.Payloads.{mac64, mac_bits, supports, supports_start}
use Rattle.faces.specs.declared.Face.{Face}
use Rattle.faces.specs.declared.Name.{Name}
use Rattle.faces.specs.declared.Name.TheVariants.{CsReset, Ta1, Ia1, Ia2, Ma1, Ma2}
use Rattle.rules.specs.declared.Shown.{Shown}
use Rattle.rules.specs.declared.Work.TheVariants.{Start, Prove, Receive}
use Rattle.rules.specs.Calls.{Command, Message}
use Rattle.rules.specs.Results.{Result, said}
use Rattle.faces.specs.TagFaces.{row_of, fresh, bare, flags_fit, face_fits}
use Rattle.rules.specs.TagRules.{command_keeping, command_closing, command_verdict, command_work, response_verdict}
use Rattle.rules.proofs.Verdicts.{Passed}
use Rattle.faces.proofs.Fits.{flags_fit_lem, open-width, responds-filled}
use Rattle.rules.proofs.TagLaws.{filled_row}
use Rattle.rules.proofs.Soundness as Soundness
use Rattle.rules.proofs.Soundness.{compared_good, decided_good}
use Rattle.states.specs.Sessions.{chosen_width, stored_width, filled_session, after_message, sent_session, words_fit, session_fits}
use Rattle.states.specs.TagStates.{TagState, face_of, secrets_of, tag_of, sound_of, closed_face, open_by, reset_tag, closed_tag, failed_tag, begun_tag, open_tag, with_session}
use Rattle.machines.specs.TagWork.{started_by, start_of, proved_by, prove_of, receive_of, send_of, worked_of, carried_of, command_of, response_of}
use Rattle.states.proofs.Sessions.{width_chosen, width-stored, filled-fits, message-fits}
use Rattle.states.proofs.TagStates.{face-of, secrets_of_lem}

-- ---- the parts of a sound state

parts_sound : (f : Face) (x : Session) → face_fits f ≡ true → session_fits (bare f) f.width x ≡ true → sound_of (tag_of f x) ≡ true
unfolding sound_of
parts_sound f x h k = rw (face-of f x, secrets_of_lem f x, h, k)

module _ (t : TagState) (s : sound_of t ≡ true) where
  pub face-sound : face_fits (face_of t) ≡ true
  unfolding sound_of
  face-sound = and_left _ _ s

-- flags that fit stay so when the state is closed
flags-closed : (a b f e x y : Bool) → (a && (b || (f && e && x && y))) ≡ true → (a && (b || (f && true && x && y))) ≡ true
flags-closed a b f true x y h = h
flags-closed a true f false x y h = h
flags-closed a false f false x y h = absurd (true≢false (sym h ∙ simp and-false))

closed-fits : (f : Face) → face_fits f ≡ true → face_fits (closed_face f) ≡ true
unfolding face_fits
closed-fits f s =
    let row = row_of f.name in
    let flags : flags_fit row (closed_face f) ≡ true
    = flags-closed (beq f.init row.init) (beq f.ta row.ta && beq f.ia row.ia) row.fails f.error (not f.ta) (not f.ia) (flags_fit_lem f s) in
    rw flags (simp (and-false, or-true))

pub reset-sound : sound_of reset_tag ≡ true
unfolding reset_tag face_fits session_fits
reset-sound = parts_sound _ _ refl refl

pub close-sound : (t : TagState) → sound_of t ≡ true → sound_of (closed_tag t) ≡ true
unfolding closed_tag session_fits
close-sound t s = parts_sound _ _ (closed-fits (face_of t) (face-sound t s)) (simp or-true)

failed-sound : (both : Bool) → sound_of (failed_tag both) ≡ true
unfolding failed_tag face_fits session_fits
failed-sound true = parts_sound _ _ refl refl
failed-sound false = parts_sound _ _ refl refl

pub begun-sound : (both : Bool) (k : ℕ) (e : Engine) → sound_of (begun_tag both k e) ≡ true
unfolding begun_tag face_fits session_fits
begun-sound true k e = parts_sound _ _ refl refl
begun-sound false k e = parts_sound _ _ refl refl

module _ (k o : ℕ) (x : Session) (small : ltb o 4 ≡ true) (words : words_fit (mac_bits o) x ≡ true) where
  open_parts : (f : Face) → f.width ≡ mac_bits o → face_fits f ≡ true → bare f ≡ false → sound_of (tag_of f x) ≡ true
  unfolding session_fits
  open_parts f w h b = parts_sound f x h (rw (w, b, words))

  pub open-sound : (m : Method) → sound_of (open_tag m k o x) ≡ true
  unfolding open_tag face_fits
  open-sound Ta = open_parts (open_by Ta k o) refl (rw (eq-eqb (mac_bits o) (mac_bits o) refl, small)) refl
  open-sound Ia = open_parts (open_by Ia k o) refl (rw (eq-eqb (mac_bits o) (mac_bits o) refl, small)) refl
  open-sound Ma = open_parts (open_by Ma k o) refl (rw (eq-eqb (mac_bits o) (mac_bits o) refl, small)) refl

-- CS-Reset has nothing filled
filled_old : (n : Name) → (row_of n).filled ≡ true → fresh (row_of n) ≡ false
filled_old CsReset h = sym h
filled_old Ta1 h = refl
filled_old Ia1 h = refl
filled_old Ia2 h = refl
filled_old Ma1 h = refl
filled_old Ma2 h = refl

-- a message leaves an open state with new words of the same width
message-sound : (t : TagState) (ms : List Bool) → sound_of t ≡ true → (row_of (face_of t).name).filled ≡ true → (face_of t).error ≡ false
    → sound_of (with_session t (after_message (stored_width (face_of t).width) ms (secrets_of t))) ≡ true
unfolding with_session session_fits
message-sound t ms s full well =
    let f = face_of t in
    let v = stored_width f.width in
    let x = after_message v ms (secrets_of t) in
    let size : width_of v ≡ f.width = width-stored f.width (mac64 f.options) (open-width f (face-sound t s) full well) in
    let words : words_fit f.width x ≡ true = rw size at (message-fits v ms (secrets_of t)) in
    parts_sound f x (face-sound t s) (rw (words, filled_old f.name full, well))

-- ---- results whose state is sound

abbrev Good : Result TagState → Type 0
Good = Soundness.Good sound_of

-- options that are supported are below 4
options-small : (b : Bool) (f m o : ℕ) → ((b && supports_start f m o) || (not b && supports f o)) ≡ true → ltb o 4 ≡ true
options-small b f m o e =
    elim (dec_le 4 o) [
      | yes h ↦ absurd (true≢false (sym e ∙ simp (le-ltb o 4 h, ne_eqb o 0 (λ z. omega arith), and-false)))
      | no h ↦ lt-ltb o 4 (omega arith)
    ]

-- a session that is filled for the chosen width
filled-words : (o : ℕ) (e : Engine) → words_fit (mac_bits o) (filled_session (chosen_width o) e) ≡ true
filled-words o e = rw (width_chosen o) at (filled-fits (chosen_width o) e)

-- step 0 and step 1
start_good : (m k o f n : ℕ) (e : Engine) → ltb o 4 ≡ true → Good (said (started_by m k o f n e))
unfolding started_by
start_good m k o f n e small =
    either (λ o. Good (said o)) (eqb m 0) _ _ (open-sound k o _ small (filled-words o e) Ta) (begun-sound (not (eqb m 1)) k e)

prove_good : (both same : Bool) (k o : ℕ) (e : Engine) (x : Session) → ltb o 4 ≡ true → words_fit (mac_bits o) x ≡ true → Good (said (proved_by both same k o e x))
unfolding proved_by
prove_good both false k o e x small words = failed-sound both
prove_good true true k o e x small words = open-sound k o _ small words Ma
prove_good false true k o e x small words = open-sound k o _ small words Ia

-- ---- the calls

module _ (t : TagState) (s : sound_of t ≡ true) where
  abbrev f : Face
  f = face_of t

  module _ (p : Shown) (key payload : List ℕ) (c : Passed (command_keeping (row_of f.name) f p) (command_closing (row_of f.name) f p)) where
    supported : eqb p.kind 0 ≡ true → ltb p.fields.options 4 ≡ true
    supported h = options-small (fresh (row_of f.name)) p.features p.fields.method p.fields.options (not-false _ (rw h at c.support))

    work_good : (a b : Bool) → eqb p.kind 0 ≡ a → Good (worked_of (cond a (cond b Start Prove) Receive) t p key payload)
    unfolding worked_of start_of prove_of receive_of
    work_good true true h = start_good _ _ _ _ _ _ (supported h)
    work_good true false h = prove_good _ _ _ _ _ _ (supported h) (filled-words p.fields.options (secrets_of t).engine)
    work_good false b h =
        let full = filled_row f.name f.options p.kind h (not-false _ c.kind) in
        compared_good sound_of _ _ _ _ (message-sound t _ s full c.kept.error) (close-sound t s)

  carried_good : (p : Shown) (key payload : List ℕ) → Good (carried_of t p key payload)
  unfolding carried_of command_verdict command_work
  carried_good p key payload =
      decided_good sound_of _ _ t (closed_tag t) _ s (close-sound t s) (λ c. work_good p key payload c (eqb p.kind 0) (fresh (row_of f.name)) refl)

  command_good : (c : Command) (room : ℕ) → Good (command_of t c room)
  unfolding command_of
  command_good c room = carried_good _ _ _

  response_good : (m : Message) (room : ℕ) → Good (response_of t m room)
  unfolding response_of response_verdict send_of sent_session
  response_good m room =
      decided_good sound_of _ _ t (closed_tag t) _ s (close-sound t s)
      (λ c. message-sound t _ s (responds-filled f.name (not-false _ c.kept.work)) c.kept.error)

-- ---- the laws

pub command-sound : (t : TagState) (c : Command) (room : ℕ) → sound_of t ≡ true → sound_of (command_of t c room).next ≡ true
command-sound t c room s = command_good t s c room

pub response-sound : (t : TagState) (m : Message) (room : ℕ) → sound_of t ≡ true → sound_of (response_of t m room).next ≡ true
response-sound t m room s = response_good t s m room
