-- One call to two tags that show the same face: what it gives shows the same, or a comparison failed in both and it gives the very
-- same, or the two comparisons came out unlike. Assumes nothing.
use mathlib.Core.Path.{◌≡◌, refl, sym, ap, ap₂, ◌∙◌}
use mathlib.Core.Bool.{Bool, true, false, not, cond, true≢false}
use mathlib.Core.List.{List, []}
use Prim.Native.Nat.{ℕ, ◌+◌, ◌*◌, ◌≤◌}
use native.Mathlib.Omega.{arith}
use lib.Dec.{eqb}
use lib.ListN.{length}
use borrow.Author.Tests.{ltb-false, not-false}
use Rattle.bits.proofs.Bools.{both, neither}
use Rattle.bits.proofs.Replies.{area_same, take-shown}
use Rattle.grain.specs.declared.Engine.{Engine}
use Rattle.grain.specs.declared.Session.{Session}
use Rattle.grain.specs.Stored.{width_of}
use Rattle.payloads.specs.declared.Payload.{Payload}
use Rattle.payloads.specs.declared.Payload.TheVariants.{Status}
use Rattle.payloads.specs.Payloads.{mac64, layout_of, data_bits}
use Rattle.faces.specs.declared.Face.{Face}
use Rattle.faces.specs.TagFaces.{row_of, fresh, face_fits}
use Rattle.faces.proofs.Fits.{open-width, responds-filled}
use Rattle.rules.specs.declared.Answer.{Answer}
use Rattle.rules.specs.declared.Answer.TheVariants.{Mismatch}
use Rattle.rules.specs.declared.Closing.{Closing}
use Rattle.rules.specs.declared.Keeping.{Keeping}
use Rattle.rules.specs.declared.Shown.{Shown}
use Rattle.rules.specs.declared.Work.TheVariants.{Start, Prove, Receive}
use Rattle.rules.specs.Answers.{Verdict, verdict_of}
use Rattle.rules.specs.Calls.{Command, Message, message_shown}
use Rattle.rules.specs.Results.{Result, Outcome, done_by, compared_by, said, reached, decided}
use Rattle.rules.specs.TagRules.{shown_of, command_verdict, command_work, response_keeping, response_closing, response_verdict}
use Rattle.rules.proofs.Verdicts.{Passed, by_order, soundly}
use Rattle.rules.proofs.TagLaws.{Sendable, sendable}
use Rattle.states.specs.Sessions.{stored_width}
use Rattle.states.specs.TagStates.{TagState, face_of, sound_of, closed_tag, failed_tag}
use Rattle.states.proofs.Sessions.{width-stored, sent_bits_lem, received_bits}
use Rattle.states.proofs.TagStates.{face-begun, face-closed, face-failed, face-open, face_with, closed_same}
use Rattle.machines.specs.TagWork.{started_by, start_of, proved_by, prove_of, receive_of, send_of, worked_of, carried_of, command_of, response_of}
use Rattle.machines.proofs.TagSound.{face-sound}
use Rattle.promises.specs.Silence.{Runs, reply_of}
use Rattle.promises.specs.Ours.{given, our_tag}
use Rattle.promises.specs.Demand3.{Call, command, response, AlikeCommands, AlikeResponses, public_reply, compares, tag_runs}
use Rattle.promises.proofs.Fitting.{Whole, payload-fits, sent_fits}
use Rattle.promises.proofs.Public.{Fields, Told, told, keeping, closing, verdict-same, passed_fields}
use Rattle.promises.proofs.Comparisons.{proof_compared, message-compared}
use Rattle.promises.proofs.PublicReplies.{Publicly, proof_public, mutual_public, sent_public}
use Rattle.promises.proofs.Quiet as Quiet
use Rattle.promises.proofs.Quiet.{Inside, alike, fail, unlike, kept, shut, worked}

abbrev pub runs : Runs
runs = tag_runs our_tag

-- what is known of a tag's state inside
abbrev pub inside : Inside runs
inside = record { Sound = λ t. sound_of t ≡ true; Closed = λ t. (face_of t).error ≡ true }

-- two calls alike to tags that show v, in buffers of one length
module _ (b e : List ℕ) (room : length b ≡ length e) (v : Face) where
  -- what is said is the same, whatever the states
  says : (x y : TagState) (a : Answer) (l : List Bool) → Whole l b
      → Quiet.Says runs inside (given (record { next = x; answer = a; reply = l }) b) (given (record { next = y; answer = a; reply = l }) e)
  says x y a l h = record {
    answer = refl;
    bits = refl;
    area = area_same l b e room;
    reply = take-shown l b h ∙ sym (take-shown l e (rw room at h));
  }

  module _ (c : Call) where
    abbrev Worked : Result TagState → Result TagState → Type 0
    Worked r q = Quiet.Worked runs inside v c (given r b) (given q e)

    abbrev Agree : TagState → TagState → Result TagState → Result TagState → Type 0
    Agree s t r q = Quiet.Agree runs inside v c s t (given r b) (given q e)

    -- done in both
    done : (x y : TagState) (l m : List Bool) → face_of x ≡ face_of y → length l ≡ length m
        → public_reply v c (reply_of (given (done_by x l) b)) ≡ public_reply v c (reply_of (given (done_by y m) e)) → Worked (done_by x l) (done_by y m)
    done x y l m f n p = alike refl (record { answer = refl; seen = f; bits = n; reply = p })

  -- ---- step 0, step 1, and a message that came

  module _ (i : Command) (roomy : 265 ≤ length b) where
    abbrev Stepped : Outcome TagState → Outcome TagState → Type 0
    Stepped o p = Worked (command i b) (said o) (said p)

    -- an authentication's replies of the same public bits
    step-done : (x y : TagState) (p q : Payload) → face_of x ≡ face_of y → Publicly p q → Stepped (reached x p) (reached y q)
    step-done x y p q f s =
        done (command i b) x y (layout_of p) (layout_of q) f s.count
        (rw (take-shown (layout_of p) b (payload-fits b roomy p), take-shown (layout_of q) e (payload-fits e (rw room at roomy) q))
        (ap (λ (l : List Bool). cond (eqb i.kind 0) l []) s.bits))

    started : (m k o f n : ℕ) (x y : Engine) → Stepped (started_by m k o f n x) (started_by m k o f n y)
    unfolding started_by
    started m k o f n x y =
        both (λ (u v : Outcome TagState). Stepped u v) (eqb m 0)
        (step-done _ _ _ _ (face-open _ _ _ _ ∙ sym (face-open _ _ _ _)) (proof_public f n _ _))
        (step-done _ _ _ _ (face-begun _ _ _ ∙ sym (face-begun _ _ _)) (record { count = refl; bits = refl }))

    module _ (compared : compares v (command i b) ≡ true) where
      failed : (m : Bool) (k o : ℕ) (x y : Engine) (u w : Session) → Stepped (proved_by m false k o x u) (proved_by m false k o y w)
      unfolding proved_by
      failed m k o x y u w =
          fail compared (ap (λ (f : Face). f.error) (face-failed m)) refl
          (says (failed_tag m) (failed_tag m) Mismatch (layout_of (Status 1)) (payload-fits b roomy (Status 1)))

      proved : (m p q : Bool) (k o : ℕ) (x y : Engine) (u w : Session) → Stepped (proved_by m p k o x u) (proved_by m q k o y w)
      unfolding proved_by
      proved true true true k o x y u w = step-done _ _ _ _ (face-open _ _ _ _ ∙ sym (face-open _ _ _ _)) (mutual_public _ _)
      proved false true true k o x y u w = step-done _ _ _ _ (face-open _ _ _ _ ∙ sym (face-open _ _ _ _)) (record { count = refl; bits = refl })
      proved true true false k o x y u w = unlike (ap not (sym compared))
      proved false true false k o x y u w = unlike (ap not (sym compared))
      proved true false true k o x y u w = unlike compared
      proved false false true k o x y u w = unlike compared
      proved true false false k o x y u w = failed true k o x y u w
      proved false false false k o x y u w = failed false k o x y u w

      -- a message's reply is data
      received : (s t : TagState) → face_of s ≡ face_of t → eqb i.kind 0 ≡ false → (p q : Bool) (x y : TagState) (l m : List Bool)
          → face_of x ≡ face_of y → length l ≡ length m → Worked (command i b) (compared_by p x l (closed_tag s)) (compared_by q y m (closed_tag t))
      unfolding compared_by
      received s t f k true true x y l m g n = done (command i b) x y l m g n (rw k refl)
      received s t f k true false x y l m g n = unlike (ap not (sym compared))
      received s t f k false true x y l m g n = unlike compared
      received s t f k false false x y l m g n =
          fail compared (ap (λ (z : Face). z.error) (face-closed s)) (closed_same s t f) (says (closed_tag s) (closed_tag t) Mismatch [] (omega arith))

-- ---- the calls

module _ (b e : List ℕ) (room : length b ≡ length e) (s t : TagState) (f : face_of s ≡ face_of t) where
  -- one verdict on both: what is refused is kept or closed, and only an open state is worked on
  decided_agree : (i : Call) (k : Keeping) (c : Closing) (r q : Result TagState) → k.error ≡ (face_of s).error
      → (Passed k c → Worked b e room (face_of s) i r q)
      → Agree b e room (face_of s) i s t (decided (verdict_of k c) s (closed_tag s) r) (decided (verdict_of k c) t (closed_tag t) q)
  unfolding decided
  decided_agree i k c r q error work =
      by_order (λ (v : Verdict). Agree b e room (face_of s) i s t (decided v s (closed_tag s) r) (decided v t (closed_tag t) q)) k c
      (λ a n. kept (rw n.ten refl) refl refl (says b e room (face_of s) s t a [] (omega arith)))
      (λ a n p. shut (rw n.ten refl) (ap (λ (z : Face). z.error) (face-closed s)) (closed_same s t f)
      (says b e room (face_of s) (closed_tag s) (closed_tag t) a [] (omega arith)))
      (λ p. worked (λ h. true≢false (sym h ∙ sym error ∙ p.kept.error)) (work p))

  module _ (sound : sound_of s ≡ true) (sound' : sound_of t ≡ true) where
    abbrev g : Face
    g = face_of s

    fits : face_fits g ≡ true
    fits = face-sound s sound

    -- ---- a command: it shows p, and the other q

    module _ (c d : Command) (a : AlikeCommands g.width c d b e) where
      abbrev Works : Result TagState → Result TagState → Type 0
      Works r q = Worked b e room g (command c b) r q

      abbrev p : Shown
      p = shown_of g.width c (length b)

      abbrev q : Shown
      q = shown_of g.width d (length e)

      same : Told g.width p q
      same = told g.width c d b e a

      abbrev All : Type 0
      All = Passed (keeping g fits p) (closing g fits p)

      roomy : All → 265 ≤ length b
      unfolding shown_of
      roomy h = ltb-false _ _ h.kept.buffer

      start-worked : (key lock : List ℕ) → All → Fields p q → Works (said (start_of p key c.payload)) (said (start_of q lock d.payload))
      unfolding start_of
      start-worked key lock h x = rw (x.fields, same.features, same.number) (started b e room g c (roomy h) _ _ _ _ _ _ _)

      prove-worked : All → compares g (command c b) ≡ true → Fields p q → Works (said (prove_of s p c.payload)) (said (prove_of t q d.payload))
      unfolding prove_of
      prove-worked h z x = rw (x.fields, ← f) (proved b e room g c (roomy h) z _ _ _ _ _ _ _ _ _)

      receive-worked : All → compares g (command c b) ≡ true → eqb c.kind 0 ≡ false
          → Works (receive_of s p c.payload) (receive_of t q d.payload)
      unfolding receive_of shown_of
      receive-worked h z k =
          let within : c.count ≤ 8 * length c.payload = ltb-false _ _ (neither _ _ (neither _ _ h.kept.argument).0).0 in
          received b e room g c (roomy h) z s t f k _ _ _ _ _ _ (face_with _ _ ∙ f ∙ sym (face_with _ _))
          (received_bits _ _ c.count c.payload _ within
          ∙ ap₂ (λ (x : Face) (n : ℕ). data_bits (width_of (stored_width x.width)) n) f a.count
          ∙ sym (received_bits _ _ d.count d.payload _ (rw (a.count, a.size) at within)))

      work-worked : (key lock : List ℕ) (x y : Bool) → eqb p.kind 0 ≡ x → fresh (row_of g.name) ≡ y → All
          → let w = cond x (cond y Start Prove) Receive in Works (worked_of w s p key c.payload) (worked_of w t q lock d.payload)
      unfolding worked_of shown_of
      work-worked key lock true true k n h = start-worked key lock h (passed_fields g fits p q same k h)
      work-worked key lock true false k n h = prove-worked h (proof_compared g fits c b h k n) (passed_fields g fits p q same k h)
      work-worked key lock false y k n h = receive-worked h (message-compared g fits c b h k) k

      pub command_agree : Agree b e room g (command c b) s t (command_of s c (length b)) (command_of t d (length e))
      unfolding command_of carried_of
      command_agree =
          let v : command_verdict g q ≡ command_verdict g p = sym (verdict-same g fits p q same) in
          let i : command_work g q.kind ≡ command_work g p.kind = ap (command_work g) (sym same.kind) in
          rw (← f, soundly (sound_of s) _ sound, soundly (sound_of t) _ sound', v, i)
          (unfold command_verdict command_work in
          decided_agree (command c b) (keeping g fits p) (closing g fits p) _ _ refl
          (work-worked _ _ (eqb p.kind 0) (fresh (row_of g.name)) refl refl))

    -- ---- a response

    module _ (c d : Message) (a : AlikeResponses c d b e) where
      -- an open state that gives responses has its width
      full_width : (row_of g.name).responds ≡ true → g.error ≡ false → width_of (stored_width g.width) ≡ g.width
      full_width h n = width-stored g.width (mac64 g.options) (open-width g fits (responds-filled g.name h) n)

      send-worked : Sendable (length b) c.count (length c.payload) → width_of (stored_width g.width) ≡ g.width
          → Worked b e room g (response c b) (send_of s c) (send_of t d)
      unfolding send_of
      send-worked h w =
          let there : Sendable (length e) d.count (length d.payload) = rw (room, a.count, a.size) at h in
          rw (← f)
          (done b e room g (response c b) _ _ _ _ (face_with _ _ ∙ f ∙ sym (face_with _ _))
          (sent_bits_lem _ _ c.count c.payload _ h.within ∙ ap (λ (n : ℕ). n + 8 + width_of (stored_width g.width)) a.count
          ∙ sym (sent_bits_lem _ _ d.count d.payload _ there.within))
          (rw (take-shown _ b (sent_fits _ _ _ _ _ b h), take-shown _ e (sent_fits _ _ _ _ _ e there))
          (sent_public _ _ w _ _ _ ∙ sym (sent_public _ _ w _ _ _))))

      pub response_agree : Agree b e room g (response c b) s t (response_of s c (length b)) (response_of t d (length e))
      unfolding response_of
      response_agree =
          let v : message_shown d (length e) ≡ message_shown c (length b) = cc in
          rw (← f, soundly (sound_of s) _ sound, soundly (sound_of t) _ sound', v)
          (unfold response_verdict in
          decided_agree (response c b) (response_keeping (row_of g.name) g (message_shown c (length b)))
          (response_closing (row_of g.name) g (message_shown c (length b))) _ _ refl
          (λ p. send-worked (sendable _ _ _ _ p.kept.buffer p.kept.argument) (full_width (not-false _ p.kept.work) p.kept.error)))
