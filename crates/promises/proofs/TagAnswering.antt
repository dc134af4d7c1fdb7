-- Demand 1 holds of our tag: where a call does its work every check has passed, and what it does is by the table. Assumes nothing.
use mathlib.Core.Path.{◌≡◌, refl, sym, ◌∙◌}
use mathlib.Core.Bool.{Bool, true, false, not, cond, true≢false}
use mathlib.Core.List.{List, [], ◌∷◌, ◌++◌, append_assoc}
use Prim.Native.Nat.{ℕ, ◌≤◌}
use lib.Dec.{eqb}
use lib.ListN.{length}
use borrow.Author.Tests.{eqb-true, ltb-false, not-false}
use Rattle.std.specs.declared.result.Result.TheVariants.{Ok}
use Rattle.bits.specs.Bits.{bits_of, digit}
use Rattle.bits.specs.Bytes.{bits_of_bytes}
use Rattle.bits.proofs.Bools.{never}
use Rattle.bits.proofs.Numbers.{length-bits_of}
use Rattle.grain.specs.declared.Engine.{Engine}
use Rattle.grain.specs.declared.Session.{Session}
use Rattle.payloads.specs.declared.Payload.TheVariants.{TagProof, TagChallenge, Status, MutualProof}
use Rattle.payloads.specs.Payloads.{method_in, options_in, layout_of, tag_proof, tag_challenge, status, mutual_proof, mac64}
use Rattle.faces.specs.declared.Face.{Face}
use Rattle.faces.specs.declared.Name.{Name}
use Rattle.faces.specs.declared.Name.TheVariants.{CsReset, Ta1, Ia1, Ia2, Ma1, Ma2}
use Rattle.faces.specs.TagFaces.{row_of, fresh}
use Rattle.faces.proofs.Fits.{open-width, responds-filled}
use Rattle.rules.specs.declared.Shown.{Shown}
use Rattle.rules.specs.declared.Work.TheVariants.{Start, Prove, Receive}
use Rattle.rules.specs.Calls.{Command, Message, message_shown}
use Rattle.rules.specs.Results.{Result, done_by, said}
use Rattle.rules.specs.TagRules.{shown_of, command_verdict, command_work, response_verdict}
use Rattle.rules.proofs.Verdicts.{sound_goes}
use Rattle.rules.proofs.TagLaws.{command_passed, command_receivable, response_passed, response_sendable}
use Rattle.states.specs.Sessions.{chosen_width, filled_session, next_keystream}
use Rattle.states.specs.TagStates.{TagState, face_of, secrets_of, sound_of, closed_tag}
use Rattle.states.proofs.TagStates.{face-begun, face-closed, face-failed, face-open, face_with}
use Rattle.machines.specs.TagWork.{ta_started, challenged, started_by, start_of, proved_by, prove_of, receive_of, send_of, worked_of, carried_of, command_of, response_of}
use Rattle.machines.proofs.TagSound.{face-sound, command-sound, response-sound}
use Rattle.promises.specs.Order.{sent_leads, Leads, failed}
use Rattle.promises.specs.TagTable.{closing, opening, waiting, takes, step_one_leads, command_leads, message_in, command_checks, response_checks}
use Rattle.promises.proofs.Fitting.{Whole, payload-fits}
use Rattle.promises.proofs.Ordered.{Says, Works, always_right, called}
use Rattle.promises.proofs.Saying.{Split, ends_secret, all_public, done_works, received_works, sent_works}
use Rattle.promises.proofs.TagRows.{takes-row, command_first, response_first}

-- the replies that end with 64 keystream bits
proof_split : (ft n w : ℕ) → Split (layout_of (TagProof ft n w)) (bits_of 8 ft ++ bits_of 48 n) 64 0 0
unfolding layout_of tag_proof
proof_split ft n w = ends_secret _ _ (bits_of 64 w) 64 (length-bits_of 64 w) (sym (append_assoc (bits_of 8 ft) (bits_of 48 n) (bits_of 64 w)))

mutual_split : (w : ℕ) → Split (layout_of (MutualProof w)) (false ∷ []) 64 0 0
unfolding layout_of mutual_proof bits_of digit
mutual_split w = ends_secret _ _ (bits_of 64 w) 64 (length-bits_of 64 w) refl

module _ (t : TagState) (b : List ℕ) where
  abbrev TagWorks : Leads Face → Result TagState → Type 0
  TagWorks p r = Works face_of sound_of p t (closed_tag t) b r

  abbrev f : Face
  f = face_of t

  tag-done : (p : Leads Face) (n : TagState) (l : List Bool) → face_of n ≡ p.done → Whole l b → Split l p.says p.secret p.zeros p.mac
      → TagWorks p (done_by n l)
  tag-done = done_works face_of sound_of t (closed_tag t) b

  -- ---- a command's work

  -- step 0: of TA where x says so, and else of IA where y does
  started_works : (x y : Bool) (p : Leads Face) (k o ft n : ℕ) (e : Engine) → 265 ≤ length b → p.done ≡ cond x (opening Ta1 true false k o) (waiting (cond y Ia1 Ma1) k)
      → p.says ≡ bits_of 8 ft ++ bits_of 48 n → p.secret ≡ cond x 64 0 → (p.zeros ≡ 0) × (p.mac ≡ 0)
      → TagWorks p (said (cond x (ta_started k o ft n (filled_session (chosen_width o) e)) (challenged (not y) k ft n e)))
  unfolding layout_of tag_challenge
  started_works true y p k o ft n e room d s z q =
      let w = (next_keystream (filled_session (chosen_width o) e).engine).word in
      tag-done p _ _ (face-open _ _ _ _ ∙ sym d) (payload-fits b room (TagProof ft n w)) (rw (s, z, q.0, q.1) (proof_split ft n w))
  started_works false true p k o ft n e room d s z q =
      tag-done p _ _ (face-begun _ _ _ ∙ sym d) (payload-fits b room (TagChallenge ft n)) (rw (s, z, q.0, q.1) (all_public _))
  started_works false false p k o ft n e room d s z q =
      tag-done p _ _ (face-begun _ _ _ ∙ sym d) (payload-fits b room (TagChallenge ft n)) (rw (s, z, q.0, q.1) (all_public _))

  -- step 1: of MA where `both` says so, and else of IA
  proved_works : (both same : Bool) (c : Command) (o : ℕ) (e : Engine) (x : Session) → 265 ≤ length b → options_in (bits_of_bytes c.payload) ≡ o
      → TagWorks (step_one_leads both f c) (said (proved_by both same f.keyid o e x))
  unfolding proved_by layout_of status bits_of digit
  proved_works both false c o e x room i = record {
    fits = payload-fits b room (Status 1);
    worked = λ z. failed (record { compared = refl; answer = refl; next = face-failed both; sound = z; said = refl });
  }
  proved_works true true c o e x room i =
      let w = (next_keystream e).word in
      tag-done (step_one_leads true f c) _ _ (face-open _ _ _ _ ∙ rw i refl) (payload-fits b room (MutualProof w)) (mutual_split w)
  proved_works false true c o e x room i =
      tag-done (step_one_leads false f c) _ _ (face-open _ _ _ _ ∙ rw i refl) (payload-fits b room (Status 0)) (all_public _)

  module _ (c : Command) (well : sound_of t ≡ true) (go : command_verdict f (shown_of f.width c (length b)) ≡ Ok tt) (key : List ℕ) where
    abbrev shows : Shown
    shows = shown_of f.width c (length b)

    room : 265 ≤ length b
    unfolding shown_of
    room = ltb-false _ _ (command_passed f shows go).kept.buffer

    taken : takes f.name f.options c.kind ≡ true
    unfolding shown_of
    taken = sym (takes-row f.name f.options c.kind) ∙ not-false _ (command_passed f shows go).kind

    receive_works : eqb c.kind 0 ≡ false → TagWorks (command_leads Ma2 f c) (receive_of t shows c.payload)
    unfolding receive_of shown_of
    receive_works k =
        received_works face_of sound_of t (closed_tag t) b f (closing f) f.width (message_in c) (secrets_of t)
        (command_receivable f (face-sound t well) shows (length c.payload) refl go k) room _ _ _ (face_with t _) (face-closed t)

    -- what is done, by the state's name n and whether the command is an authentication
    work_works : (n : Name) (a : Bool) → f.name ≡ n → eqb c.kind 0 ≡ a → takes n f.options c.kind ≡ true
        → TagWorks (command_leads n f c) (worked_of (cond a (cond (fresh (row_of n)) Start Prove) Receive) t shows key c.payload)
    unfolding worked_of start_of started_by prove_of shown_of
    work_works CsReset true e k h = started_works (eqb (method_in (bits_of_bytes c.payload)) 0) (eqb (method_in (bits_of_bytes c.payload)) 1) _ _ _ _ _ _ room refl refl refl (refl, refl)
    work_works CsReset false e k h = never _ k h
    work_works Ta1 a e k h = absurd (true≢false (sym h))
    work_works Ia1 true e k h = rw e (proved_works false _ c _ _ _ room refl)
    work_works Ia1 false e k h = never _ k h
    work_works Ia2 true e k h = never (eqb c.kind 1) (rw (eqb-true c.kind 0 k) refl) h
    work_works Ia2 false e k h = receive_works k
    work_works Ma1 true e k h = rw e (proved_works true _ c _ _ _ room refl)
    work_works Ma1 false e k h = never _ k h
    work_works Ma2 true e k h = absurd (true≢false (sym (rw (eqb-true c.kind 0 k) at h)))
    work_works Ma2 false e k h = receive_works k

  pub command-says : (c : Command) → Says face_of sound_of (command_leads f.name f c) t (closed_tag t) b (command_checks (sound_of t) f c (length b)) (command_of t c (length b))
  unfolding command_of carried_of command_verdict command_work
  command-says c =
      called face_of sound_of (command_leads f.name f c) t (closed_tag t) b _ false _ _ (command_first f c (length b) (sound_of t)) (always_right _ _ _)
      (λ v. command-sound t c (length b) (sound_goes _ _ v).0) (λ v z. absurd (true≢false (sym z)))
      (λ v z.
      let g = sound_goes _ _ v in
      unfold shown_of in work_works c g.0 g.1 _ f.name (eqb c.kind 0) refl refl (taken c g.0 g.1 []))

  pub response-says : (m : Message)
      → Says face_of sound_of (sent_leads f (closing f) f.width 5 m) t (closed_tag t) b (response_checks (sound_of t) f m (length b)) (response_of t m (length b))
  unfolding response_of response_verdict send_of
  response-says m =
      called face_of sound_of (sent_leads f (closing f) f.width 5 m) t (closed_tag t) b _ false _ _ (response_first (sound_of t) f m (length b)) (always_right _ _ _)
      (λ v. response-sound t m (length b) (sound_goes _ _ v).0) (λ v z. absurd (true≢false (sym z)))
      (λ v z.
      let g = sound_goes _ _ v in
      let p = response_passed f (message_shown m (length b)) g.1 in
      sent_works face_of sound_of t (closed_tag t) b f (closing f) f.width 5 m (secrets_of t) (mac64 f.options)
      (open-width f (face-sound t g.0) (responds-filled f.name (not-false _ p.kept.work)) p.kept.error)
      (response_sendable f (message_shown m (length b)) g.1 (length m.payload) refl) _ (face_with t _))
