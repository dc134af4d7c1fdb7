-- Req 01 follows from demand 1 for every reader that meets it, and so holds of ours; and what it moved in ours. Assumes nothing.
use mathlib.Core.Path.{◌≡◌, refl, sym, ◌∙◌}
use mathlib.Core.Bool.{Bool, true, false, not, cond, ◌&&◌, true≢false, and-false}
use mathlib.Core.List.{List}
use mathlib.Core.Logic.{inl, inr}
use Prim.Native.Nat.{ℕ}
use native.Mathlib.Omega.{arith}
use lib.Dec.{eqb}
use lib.ListN.{length}
use borrow.Author.Tests.{le-ltb, eqb-true, eq-eqb, ne_eqb}
use Rattle.std.specs.declared.result.Result.TheVariants.{Ok, Err}
use Rattle.bits.specs.Bytes.{bits_of_bytes}
use Rattle.bits.proofs.Bools.{of-cond, cond_same}
use Rattle.bits.proofs.Replies.{shown-none}
use Rattle.payloads.specs.Payloads.{status_in, offers, supports}
use Rattle.faces.specs.declared.ReaderFace.{ReaderFace}
use Rattle.faces.specs.ReaderFaces.{stage_row}
use Rattle.rules.specs.declared.Answer.TheVariants.{Unsupported}
use Rattle.rules.specs.declared.Closing.{Closing}
use Rattle.rules.specs.declared.Keeping.{Keeping}
use Rattle.rules.specs.declared.Refused.{Refused}
use Rattle.rules.specs.declared.ReplyWork.TheVariants as Work
use Rattle.rules.specs.Answers.{Verdict, close, verdict_of, closing_of, if_sound}
use Rattle.rules.specs.Calls.{Begin}
use Rattle.rules.specs.Results.{Result, refused_by, said, decided}
use Rattle.rules.specs.ReaderRules.{reply_shown, reply_keeping, reply_closing, reply_verdict, reply_work}
use Rattle.rules.proofs.Verdicts.{Plain, by_order}
use Rattle.states.specs.ReaderStates.{ReaderState, reader_face_of, reader_sound, closed_reader}
use Rattle.machines.specs.ReaderWork.{replied_of, answered_by, compare_of, answer_of, matched}
use Rattle.promises.specs.Machines.{Given, ReaderMachine}
use Rattle.promises.specs.Ours.{given, our_reader}
use Rattle.promises.specs.Order.{first_of, Worked, done, failed}
use Rattle.promises.specs.ReaderTable.{begun_face, begin_leads, reply_checks, open_leads, step_one_leads, reply_leads}
use Rattle.promises.specs.Demand1.{Demand1Reader}
use Rattle.promises.specs.Wrong.{passes}
use Rattle.promises.specs.WrongRules.{with_support, method_unheld}
use Rattle.promises.specs.Offered.{heard_in, response_bits, Takes, TurnsAway, GoesOn, Hears, HoldsMethod, lacks, Moved}
use Rattle.promises.proofs.Answering.{demand1_reader}
use Rattle.promises.proofs.Follows.{by_answer}

module _ (R : ReaderMachine) (d : Demand1Reader R) where
  module _ (r : R.State) (slice : List ℕ) (count : ℕ) (b : List ℕ) (t : Takes R r slice count b) where
    abbrev right : Bool
    right = offers (heard_in slice) (R.face r).method && supports (heard_in slice) (R.face r).options

    -- the length's check, the features' behind it, and none is behind that
    first_is : (x y : Bool) → eqb count (response_bits (R.face r).method) ≡ x → right ≡ y
        → first_of (reply_checks (R.sound r) (R.face r) slice count (length b)) ≡ cond x (cond y 0 4) 6
    unfolding first_of
    first_is x y e f = rw (t.sound, t.stage, le-ltb (length b) 265 t.room, le-ltb _ _ t.within, e, f) (at x y)
      where
        at : (x y : Bool) → ◌≡◌ {A = ℕ} (cond (not x) 6 (cond (not y) 4 0)) (cond x (cond y 0 4) 6)
        at true true = refl
        at true false = refl
        at false y = refl

    pub refuses : count ≡ response_bits (R.face r).method → right ≡ false → TurnsAway R b (R.replied r slice count b)
    refuses e f =
        let four = first_is true false (eq-eqb _ _ e) f in
        let a = d.answers.replied r slice count b in
        let no = a.refused (λ z. omega (arith, z, four)) in
        let shut : (R.replied r slice count b).next ≡ d.closed = no.next ∙ rw four refl in
        record {
          answer = no.answer ∙ four;
          face = rw shut d.stands.shut.0;
          session = rw shut d.stands.shut.1;
          bits = a.count ∙ rw no.none refl;
          area = a.area ∙ rw no.none (shown-none b t.room);
        }

    -- TA alone compares here
    compares_ta : (reply_leads (R.face r).stage (R.face r)).compares ≡ true → (R.face r).method ≡ 0
    compares_ta e = eqb-true _ _ (at (eqb (R.face r).method 0) (rw t.stage at e))
      where
        at : (x : Bool) → (cond x (open_leads true (R.face r)) (step_one_leads (R.face r))).compares ≡ true → x ≡ true
        at true e = refl
        at false e = e

    passed : {reply : List Bool} → Worked R.face R.sound (reply_leads (R.face r).stage (R.face r)) (R.replied r slice count b) reply
        → GoesOn R r slice count b
    passed (done k) = inl k.answer
    passed (failed k) = inr (compares_ta k.compared, k.answer)

    pub goes : count ≡ response_bits (R.face r).method → right ≡ true → GoesOn R r slice count b
    goes e f = passed ((d.answers.replied r slice count b).worked (first_is true true (eq-eqb _ _ e) f))

    hears : Hears R r slice count b
    hears = record {
      lacking = λ e f. refuses e (rw f refl);
      unsupported = λ e f. refuses e (rw f (and-false (offers (heard_in slice) (R.face r).method)));
      supported = λ e f g. goes e (rw (f, g) refl);
      wrong_length = λ n.
          let six = first_is false right (ne_eqb _ _ n) refl in
          ((d.answers.replied r slice count b).refused (λ z. omega (arith, z, six))).answer ∙ six;
    }

  -- a begin that is answered 0 leaves the method, the options, the KeyID and the number that it was given
  begun-face : (r : R.State) (i : Begin) (c : List ℕ) → (R.begin r i c).answer ≡ 0
      → (R.sound (R.begin r i c).next ≡ true) × (R.face (R.begin r i c).next ≡ begun_face i)
  begun-face r i c h =
      let a = d.answers.begin r i c in
      by_answer a _ (λ n. absurd (n (sym (a.refused n).answer ∙ h))) (λ z w. after w)
    where
      after : Worked R.face R.sound (begin_leads i) (R.begin r i c) (d.answers.begin r i c).reply
          → (R.sound (R.begin r i c).next ≡ true) × (R.face (R.begin r i c).next ≡ begun_face i)
      after (done k) = (k.sound, k.next)
      after (failed k) = absurd (true≢false (sym k.compared))

  pub holds-method : HoldsMethod R
  holds-method = record {
    hears = hears;
    begun = λ r i c slice b h within room e.
        let s = begun-face r i c h in
        (hears (R.begin r i c).next slice (response_bits i.method) b (record { sound = s.0; stage = rw s.1 refl; within = within; room = room })
        ).lacking (rw s.1 refl) (rw s.1 e);
  }

pub ours_holds : HoldsMethod our_reader
ours_holds = holds-method our_reader demand1_reader

-- ---- what moved

-- where the order goes on, one more check closes
abbrev overruled : Verdict → Verdict
overruled (Err r) = Err r
overruled (Ok tt) = close Unsupported

overruled_is : (k : Keeping) (c : Closing) (wrong : Bool) → verdict_of k (with_support true c) ≡ overruled (verdict_of k (with_support wrong c))
unfolding verdict_of closing_of
overruled_is k c wrong = simp (of-cond overruled, cond_same)

module _ (r : ReaderState) (work : Result ReaderState) (b : List ℕ) where
  -- what is given by a verdict
  abbrev by : Verdict → Given ReaderState
  by v = given (decided v r closed_reader work) b

  abbrev four : Given ReaderState
  four = given (refused_by closed_reader Unsupported) b

  refusal_same : (r : Refused) → Plain r.answer → by (Err r) ≡ cond (passes (by (Err r))) four (by (Err r))
  unfolding decided
  refusal_same r p = rw (p.zero, p.ten)

  module _ (goes : passes (given work b) ≡ true) where
    turned : (k : Keeping) (c : Closing) → by (overruled (verdict_of k c)) ≡ cond (passes (by (verdict_of k c))) four (by (verdict_of k c))
    turned k c =
        by_order (λ (v : Verdict). by (overruled v) ≡ cond (passes (by v)) four (by v)) k c (λ a. refusal_same (record { closes = false; answer = a })) (λ a p q. refusal_same (record { closes = true; answer = a }) p)
        (λ p. unfold decided in rw goes)

    turned_soundly : (sound : Bool) (k : Keeping) (c : Closing)
        → by (if_sound sound (overruled (verdict_of k c))) ≡ cond (passes (by (if_sound sound (verdict_of k c)))) four (by (if_sound sound (verdict_of k c)))
    unfolding if_sound
    turned_soundly true k c = turned k c
    turned_soundly false k c = unfold decided in refl

  -- a response is asked for or not, its features offer the method or not, and support the options or not
  at_features : (asked offered supported sound : Bool) (k : Keeping) (c : Closing) → (asked ≡ true → passes (given work b) ≡ true)
      → by (if_sound sound (verdict_of k (with_support (asked && not (offered && supported)) c)))
      ≡ cond ((asked && not offered) && passes (by (if_sound sound (verdict_of k (with_support (asked && not supported) c))))) four
      (by (if_sound sound (verdict_of k (with_support (asked && not supported) c))))
  at_features false offered supported sound k c goes = refl
  at_features true true supported sound k c goes = refl
  at_features true false supported sound k c goes =
      rw (overruled_is k c (not supported)) (turned_soundly (goes refl) sound k (with_support (not supported) c))

-- TA's comparison answers 0 or 10, and IA and MA go to step 1
matched-passes : (same : Bool) (next : ReaderState) (b : List ℕ) → passes (given (said (matched same next)) b) ≡ true
unfolding matched
matched-passes true next b = refl
matched-passes false next b = refl

work-passes : (x : Bool) (r : ReaderState) (l : List Bool) (b : List ℕ) → passes (given (said (answered_by (cond x Work.Compare Work.Answer) r l)) b) ≡ true
unfolding answered_by compare_of answer_of
work-passes true r l b = matched-passes _ _ b
work-passes false r l b = refl

pub asked_passes : (r : ReaderState) (f : ReaderFace) (status : ℕ) (l : List Bool) (b : List ℕ) → (stage_row f.stage).asked ≡ true
    → passes (given (said (answered_by (reply_work f status) r l)) b) ≡ true
unfolding reply_work
asked_passes r f status l b e = rw e (work-passes (eqb f.method 0) r l b)

pub moved : Moved
unfolding replied_of reply_verdict
moved r slice count b =
    let f = reader_face_of r in
    let p = reply_shown slice count (length b) in
    let l = bits_of_bytes slice in
    at_features r (said (answered_by (reply_work f (status_in l)) r l)) b (stage_row f.stage).asked (offers (heard_in slice) f.method)
    (supports (heard_in slice) f.options) (reader_sound r) (reply_keeping (stage_row f.stage) p) (reply_closing (stage_row f.stage) f p)
    (asked_passes r f (status_in l) l b)

-- where the features offer the method, and at every other response, nothing moved
pub as_before : (r : ReaderState) (slice : List ℕ) (count : ℕ) (b : List ℕ) → lacks r slice ≡ false
    → our_reader.replied r slice count b ≡ method_unheld.replied r slice count b
as_before r slice count b e = moved r slice count b ∙ rw e refl
