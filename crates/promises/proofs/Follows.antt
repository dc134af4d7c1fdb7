-- What follows from demand 1 for every machine that meets it: 8 is of unsound states alone, and none follows a reset; 10 is of comparisons
-- alone; only a reset opens a closed state. Assumes nothing.
use mathlib.Core.Path.{◌≡◌, refl, sym, ap, subst, ◌∙◌}
use mathlib.Core.Bool.{Bool, true, false, not, cond, ◌&&◌, ◌||◌, true≢false, and-false, or-true}
use mathlib.Core.List.{List, []}
use Prim.Native.Nat.{ℕ, ◌^◌, ◌<◌}
use native.Mathlib.Omega.{arith}
use lib.Dec.{eqb, ltb}
use lib.ListN.{length}
use borrow.Author.Tests.{eqb-true, eqb-false, ltb-true, lt-ltb}
use Rattle.bits.proofs.Bools.{and_left, and_right, holds, neither, never, either, of-cond, cond_same}
use Rattle.bits.proofs.Bytes.{field_lt}
use Rattle.grain.specs.declared.Session.{Session}
use Rattle.faces.specs.declared.Face.{Face}
use Rattle.faces.specs.declared.Name.{Name}
use Rattle.faces.specs.declared.Name.TheVariants.{CsReset, Ta1, Ia1, Ia2, Ma1, Ma2}
use Rattle.faces.specs.declared.Stage.TheVariants.{Closed}
use Rattle.rules.specs.Calls.{Command, Message, Begin}
use Rattle.states.specs.Sessions.{empty_session, session_fits}
use Rattle.states.specs.TagStates.{tag_of, sound_of, closed_tag}
use Rattle.states.proofs.TagStates.{face-of, secrets_of_lem, face-closed}
use Rattle.machines.proofs.TagSound.{face-sound, close-sound}
use Rattle.promises.specs.Machines.{Given, TagMachine, ReaderMachine}
use Rattle.promises.specs.Order.{Checks, first_of, closes, Leads, no_session, no_engine, session_right, Worked, done, failed, Answered}
use Rattle.promises.specs.TagTable.{closing, opened, holds_nothing, face_fits, command_leads, command_checks}
use Rattle.promises.specs.Demand1.{Demand1Tag, Demand1Reader}
use Rattle.promises.proofs.Ordered.{not_true}
use Rattle.promises.proofs.TagRows.{fits-same}

-- ---- the order

itself : (b : Bool) → cond b true false ≡ b
itself true = refl
itself false = refl

-- 8 is said of the state alone, and 10 of the status alone
eight_first : (c : Checks) → eqb (first_of c) 8 ≡ c.state
unfolding first_of
eight_first c = simp (of-cond (λ (n : ℕ). eqb n 8), cond_same, itself)

ten_last : (c : Checks) → c.status ≡ false → eqb (first_of c) 10 ≡ false
unfolding first_of
ten_last c e = rw e (simp (of-cond (λ (n : ℕ). eqb n 10), cond_same))

-- where a check that keeps refuses, the state is kept: 7 at the tag, 9 at the reader
abbrev keeping : ℕ → Bool
keeping n = eqb n 0 || closes n

error_keeps : (c : Checks) → c.error ≡ true → keeping (first_of c) ≡ false
unfolding first_of
error_keeps c e = rw e (simp (of-cond keeping, cond_same))

work_keeps : (c : Checks) → c.work ≡ true → keeping (first_of c) ≡ false
unfolding first_of
work_keeps c e = rw e (simp (of-cond keeping, cond_same))

-- ---- a call of either machine

module _ {S F : Type 0} {face : S → F} {is_sound : S → Bool} {checks : Checks} {p : Leads F} {s closed : S} {b : List ℕ} {g : Given S}
    (a : Answered face is_sound checks p s closed b g) where
  -- refused, done or failed
  pub by_answer : (P : Type 0) → ((first_of checks ≡ 0 → ⊥) → P) → (first_of checks ≡ 0 → Worked face is_sound p g a.reply → P) → P
  by_answer P refuses works = at (eqb (first_of checks) 0) refl
    where
      at : (x : Bool) → eqb (first_of checks) 0 ≡ x → P
      at true e = let h = eqb-true _ _ e in works h (a.worked h)
      at false e = refuses (eqb-false _ _ e)

  -- a check that keeps
  stays : keeping (first_of checks) ≡ false → g.next ≡ s
  stays h =
      let n = neither _ _ h in
      (a.refused (eqb-false _ _ n.0)).next ∙ rw n.1 refl

  -- 8 exactly where the state is not sound
  eight : checks.state ≡ true → g.answer ≡ 8
  eight h =
      let e : first_of checks ≡ 8 = eqb-true _ _ (eight_first checks ∙ h) in
      (a.refused (λ z. omega (arith, e, z))).answer ∙ e

  eight_only : g.answer ≡ 8 → checks.state ≡ true
  eight_only h =
      by_answer _ (λ n. sym (eight_first checks) ∙ ap (λ (x : ℕ). eqb x 8) (sym (a.refused n).answer ∙ h))
      (λ e w. absurd (other w))
    where
      other : Worked face is_sound p g a.reply → ⊥
      other (done k) = omega (arith, k.answer, h)
      other (failed k) = omega (arith, k.answer, h)

  -- 10 where something is compared, and nowhere else
  ten_only : checks.status ≡ false → g.answer ≡ 10 → (first_of checks ≡ 0) × (p.compares ≡ true)
  ten_only e h =
      by_answer _ (λ n. never _ (ten_last checks e) (ap (λ (x : ℕ). eqb x 10) (sym (a.refused n).answer ∙ h))) (λ z w. (z, compared w))
    where
      compared : Worked face is_sound p g a.reply → p.compares ≡ true
      compared (done k) = absurd (omega (arith, k.answer, h))
      compared (failed k) = k.compared

  -- a sound state stays so
  sound_stays : is_sound s ≡ true → is_sound closed ≡ true → is_sound g.next ≡ true
  sound_stays h k =
      by_answer _ (λ n. subst (λ (x : S). is_sound x ≡ true) (sym (a.refused n).next) (either (λ (x : S). is_sound x ≡ true) (closes (first_of checks)) closed s k h))
      (λ z w. after w)
    where
      after : Worked face is_sound p g a.reply → is_sound g.next ≡ true
      after (done k) = k.sound
      after (failed k) = k.sound

-- ---- the tag

-- closed, a face holds nothing, and closing leaves it
closed-holds : (n : Name) (f : Face) → f.error ≡ true → holds_nothing n f ≡ true
closed-holds CsReset f e = refl
closed-holds Ta1 f e = e
closed-holds Ia1 f e = e
closed-holds Ia2 f e = e
closed-holds Ma1 f e = e
closed-holds Ma2 f e = e

abbrev face : Name → Bool → Bool → Bool → Bool → ℕ → ℕ → ℕ → Face
face n i t a e k o w = record { name = n; init = i; ta = t; ia = a; error = e; keyid = k; options = o; width = w }

closing_same : (f : Face) → face_fits f ≡ true → f.error ≡ true → closing f ≡ f
closing_same f h e =
    let full : holds_nothing f.name f ≡ true = closed-holds f.name f e in
    let zero : (eqb f.keyid 0 && eqb f.options 0) ≡ true = holds _ (λ z. sym h ∙ rw (full, z) (simp and-false)) in
    let k : f.keyid ≡ 0 = eqb-true _ _ (and_left _ _ zero) in
    let o : f.options ≡ 0 = eqb-true _ _ (and_right (eqb f.keyid 0) _ zero) in
    let w : f.width ≡ 0 = eqb-true _ _ (holds _ (λ z. sym h ∙ rw (e, and-false (opened f.name), z) (simp and-false))) in
    let same : f ≡ face f.name f.init f.ta f.ia f.error f.keyid f.options f.width = refl in
    sym (same ∙ rw (e, k, o, w))

-- what closing leaves of a face that fits is one that fits
closing-fits : (f : Face) → face_fits f ≡ true → face_fits (closing f) ≡ true
unfolding sound_of session_fits
closing-fits f h =
    let t = tag_of f empty_session in
    let some : 0 < 2 ^ f.width = let g = field_lt 0 f.width [] in omega (arith, g) in
    let s : sound_of t ≡ true = rw (face-of f empty_session, secrets_of_lem f empty_session, fits-same f, h, lt-ltb 0 (2 ^ f.width) some) (simp or-true) in
    sym (fits-same (closing f)) ∙ rw (face-closed t, face-of f empty_session) at (face-sound (closed_tag t) (close-sound t s))

-- a session that may hold nothing
abbrev session : ℕ → ℕ → ℕ → ℕ → ℕ → ℕ → Session
session b c s t acc reg = record { engine = record { b = record { first = b; last = c }; s = record { first = s; last = t } }; acc = acc; reg = reg }

none : (n : ℕ) → ltb n 1 ≡ true → n ≡ 0
none n h = let g : n < 1 = ltb-true n 1 h in omega arith

no_session_lem : (w : ℕ) (x : Session) → w ≡ 0 → session_right true w x ≡ true → x ≡ no_session
no_session_lem w x e h =
    let both : (ltb x.acc (2 ^ 0) && ltb x.reg (2 ^ 0)) ≡ true = rw e at (and_left (ltb x.acc (2 ^ w) && ltb x.reg (2 ^ w)) _ h) in
    let acc : x.acc ≡ 0 = none _ (and_left _ _ both) in
    let reg : x.reg ≡ 0 = none _ (and_right (ltb x.acc (2 ^ 0)) _ both) in
    let engine : no_engine x.engine ≡ true = and_right (ltb x.acc (2 ^ w) && ltb x.reg (2 ^ w)) _ h in
    let b = x.engine.b in
    let s = x.engine.s in
    let b0 : b.first ≡ 0 = eqb-true _ _ (holds (eqb b.first 0) (λ h. sym engine ∙ rw h)) in
    let b1 : b.last ≡ 0 = eqb-true _ _ (holds (eqb b.last 0) (λ h. sym engine ∙ rw h (simp and-false))) in
    let s0 : s.first ≡ 0 = eqb-true _ _ (holds (eqb s.first 0) (λ h. sym engine ∙ rw h (simp and-false))) in
    let s1 : s.last ≡ 0 = eqb-true _ _ (holds (eqb s.last 0) (λ h. sym engine ∙ rw h (simp and-false))) in
    let same : x ≡ session b.first b.last s.first s.last x.acc x.reg = refl in
    same ∙ rw (b0, b1, s0, s1, acc, reg)

module _ (m : TagMachine) (d : Demand1Tag m) where
  fits : (s : m.State) → m.sound s ≡ true → face_fits (m.face s) ≡ true
  fits s h = and_left _ _ (sym (d.stands.sound s) ∙ h)

  -- a closed state depends on name and flags alone
  pub close_alone : (s t : m.State) → closing (m.face s) ≡ closing (m.face t) → m.close s ≡ m.close t
  close_alone s t e =
      let x = d.stands.close s in
      let y = d.stands.close t in
      d.stands.whole _ _ (x.0 ∙ e ∙ sym y.0) (x.1 ∙ sym y.1)

  -- closing a sound state leaves a sound one
  close-sound_stays : (s : m.State) → m.sound s ≡ true → m.sound (m.close s) ≡ true
  close-sound_stays s h =
      let x = d.stands.close s in
      d.stands.sound (m.close s) ∙ rw (x.0, x.1, closing-fits (m.face s) (fits s h), closed-holds (m.face s).name (closing (m.face s)) refl)

  -- a sound state with ERROR is what closing leaves
  pub close_stays : (s : m.State) → m.sound s ≡ true → (m.face s).error ≡ true → m.close s ≡ s
  close_stays s h e =
      let x = d.stands.close s in
      let f = closing_same (m.face s) (fits s h) e in
      let full = closed-holds (m.face s).name (m.face s) e in
      let right : session_right true (m.face s).width (m.session s) ≡ true
      = rw full at (and_right (face_fits (m.face s)) _ (sym (d.stands.sound s) ∙ h)) in
      d.stands.whole _ _ (x.0 ∙ f) (x.1 ∙ sym (no_session_lem (m.face s).width (m.session s) (ap (λ (y : Face). y.width) (sym f)) right))

  -- "Only a reset opens it"
  pub command_stays : (s : m.State) (c : Command) (b : List ℕ) → (m.face s).error ≡ true → (m.command s c b).next ≡ s
  command_stays s c b e = stays (d.answers.command s c b) (error_keeps _ e)

  pub response_stays : (s : m.State) (c : Message) (b : List ℕ) → (m.face s).error ≡ true → (m.response s c b).next ≡ s
  response_stays s c b e = stays (d.answers.response s c b) (error_keeps _ e)

  -- "8 is given exactly when" the state is not sound, and no call from reset leaves one
  pub command_8 : (s : m.State) (c : Command) (b : List ℕ) → m.sound s ≡ false → (m.command s c b).answer ≡ 8
  command_8 s c b h = eight (d.answers.command s c b) (ap not h)

  pub command_only_8 : (s : m.State) (c : Command) (b : List ℕ) → (m.command s c b).answer ≡ 8 → m.sound s ≡ false
  command_only_8 s c b h = not_true _ (eight_only (d.answers.command s c b) h)

  pub response_8 : (s : m.State) (c : Message) (b : List ℕ) → m.sound s ≡ false → (m.response s c b).answer ≡ 8
  response_8 s c b h = eight (d.answers.response s c b) (ap not h)

  pub response_only_8 : (s : m.State) (c : Message) (b : List ℕ) → (m.response s c b).answer ≡ 8 → m.sound s ≡ false
  response_only_8 s c b h = not_true _ (eight_only (d.answers.response s c b) h)

  pub command-sound : (s : m.State) (c : Command) (b : List ℕ) → m.sound s ≡ true → m.sound (m.command s c b).next ≡ true
  command-sound s c b h = sound_stays (d.answers.command s c b) h (close-sound_stays s h)

  pub response-sound : (s : m.State) (c : Message) (b : List ℕ) → m.sound s ≡ true → m.sound (m.response s c b).next ≡ true
  response-sound s c b h = sound_stays (d.answers.response s c b) h (close-sound_stays s h)

  -- 10 where no check refuses and something is compared, and nowhere else
  pub command_only_10 : (s : m.State) (c : Command) (b : List ℕ) → (m.command s c b).answer ≡ 10
      → (first_of (command_checks (m.sound s) (m.face s) c (length b)) ≡ 0) × ((command_leads (m.face s).name (m.face s) c).compares ≡ true)
  command_only_10 s c b h = ten_only (d.answers.command s c b) refl h

  pub response_never_10 : (s : m.State) (c : Message) (b : List ℕ) → (m.response s c b).answer ≡ 10 → ⊥
  response_never_10 s c b h = true≢false (sym (ten_only (d.answers.response s c b) refl h).1)

  -- a message that fails its comparison leaves `close` of the state before
  pub command-fails : (s : m.State) (c : Command) (b : List ℕ) → m.sound s ≡ true → (m.command s c b).answer ≡ 10
      → (command_leads (m.face s).name (m.face s) c).failed ≡ closing (m.face s) → (m.command s c b).next ≡ m.close s
  command-fails s c b h e k =
      let a = d.answers.command s c b in
      let f = face-after (a.worked (ten_only a refl e).0) ∙ k in
      sym (close_stays _ (command-sound s c b h) (ap (λ (x : Face). x.error) f)) ∙ close_alone _ _ (ap closing f)
    where
      face-after : Worked m.face m.sound (command_leads (m.face s).name (m.face s) c) (m.command s c b) (d.answers.command s c b).reply
          → m.face (m.command s c b).next ≡ (command_leads (m.face s).name (m.face s) c).failed
      face-after (done w) = absurd (omega (arith, w.answer, e))
      face-after (failed w) = w.next

-- ---- the reader

module _ (m : ReaderMachine) (d : Demand1Reader m) where
  -- "A closed reader": it has no work
  module _ (s : m.State) (e : (m.face s).stage ≡ Closed) where
    pub begin_stays : (i : Begin) (b : List ℕ) → (m.begin s i b).next ≡ s
    begin_stays i b = stays (d.answers.begin s i b) (work_keeps _ (rw e refl))

    pub replied_stays : (p : List ℕ) (n : ℕ) (b : List ℕ) → (m.replied s p n b).next ≡ s
    replied_stays p n b = stays (d.answers.replied s p n b) (work_keeps _ (rw e refl))

    pub send_stays : (c : Message) (b : List ℕ) → (m.send s c b).next ≡ s
    send_stays c b = stays (d.answers.send s c b) (work_keeps _ (rw e refl))

    pub receive_stays : (c : Message) (b : List ℕ) → (m.receive s c b).next ≡ s
    receive_stays c b = stays (d.answers.receive s c b) (work_keeps _ (rw e refl))

  shut-sound : m.sound d.closed ≡ true
  shut-sound = let x = d.stands.shut in d.stands.sound d.closed ∙ rw (x.0, x.1) refl

  -- no call from reset leaves a state that is not sound, and so none is answered 8
  module _ (s : m.State) (h : m.sound s ≡ true) where
    pub begin-sound : (i : Begin) (b : List ℕ) → m.sound (m.begin s i b).next ≡ true
    begin-sound i b = sound_stays (d.answers.begin s i b) h h

    pub replied-sound : (p : List ℕ) (n : ℕ) (b : List ℕ) → m.sound (m.replied s p n b).next ≡ true
    replied-sound p n b = sound_stays (d.answers.replied s p n b) h shut-sound

    pub send-sound : (c : Message) (b : List ℕ) → m.sound (m.send s c b).next ≡ true
    send-sound c b = sound_stays (d.answers.send s c b) h shut-sound

    pub receive-sound : (c : Message) (b : List ℕ) → m.sound (m.receive s c b).next ≡ true
    receive-sound c b = sound_stays (d.answers.receive s c b) h shut-sound
