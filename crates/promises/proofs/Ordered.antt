-- What a verdict of `rules` gives is by the demand's own order: the number of the first check that refuses, and the state that the
-- table says. Assumes nothing.
use mathlib.Core.Path.{◌≡◌, refl, sym, ap, ◌∙◌}
use mathlib.Core.Bool.{Bool, true, false, not, cond, beq, ◌&&◌, true≢false}
use mathlib.Core.List.{List, []}
use Prim.Native.Nat.{ℕ, ◌*◌, ◌≤◌}
use native.Mathlib.Omega.{arith}
use lib.Dec.{eqb}
use lib.ListN.{length}
use Rattle.std.specs.declared.result.Result.TheVariants.{Ok, Err}
use Rattle.bits.specs.Area.{area_of}
use Rattle.bits.proofs.Bools.{and_left, and_right, never, of-cond, cond_same}
use Rattle.rules.specs.declared.Answer.TheVariants.{Mismatch}
use Rattle.rules.specs.declared.Closing.{Closing}
use Rattle.rules.specs.declared.Keeping.{Keeping}
use Rattle.rules.specs.declared.Refused.{Refused}
use Rattle.rules.specs.Answers.{Verdict, number_of, verdict_of, closing_of, if_sound}
use Rattle.rules.specs.Results.{Result, refused_by, decided}
use Rattle.promises.specs.Ours.{given}
use Rattle.promises.specs.Order.{Checks, first_of, closes, Leads, Worked, Answered}

-- ---- the number of a verdict

-- the number of a refusal, and else n
abbrev pub number_in : Verdict → ℕ → ℕ
number_in (Err r) n = number_of r.answer
number_in (Ok tt) n = n

-- the same checks, as `rules` has them
abbrev pub checks_of : Bool → Keeping → Closing → Bool → Checks
checks_of sound k c status = record {
  state = not sound;
  buffer = k.buffer;
  argument = k.argument;
  book = k.book;
  error = k.error;
  work = k.work;
  kind = c.kind;
  length = c.length;
  step = c.step;
  key = c.key;
  support = c.support;
  status = status;
}

pub first_is : (sound : Bool) (k : Keeping) (c : Closing) (status : Bool)
    → first_of (checks_of sound k c status) ≡ number_in (if_sound sound (verdict_of k c)) (cond status 10 0)
unfolding first_of if_sound verdict_of closing_of
first_is true k c status = sym (simp (of-cond (λ (v : Verdict). number_in v (cond status 10 0))))
first_is false k c status = refl

-- a refusal has a number, and closes where the table says so
abbrev pub right : Verdict → Bool
right (Err r) = beq r.closes (closes (number_of r.answer)) && not (eqb (number_of r.answer) 0)
right (Ok tt) = true

pub always_right : (sound : Bool) (k : Keeping) (c : Closing) → right (if_sound sound (verdict_of k c)) ≡ true
unfolding if_sound verdict_of closing_of
always_right true k c = simp (of-cond right, cond_same)
always_right false k c = refl

pub not_true : (x : Bool) → not x ≡ true → x ≡ false
not_true true h = absurd (true≢false (sym h))
not_true false h = refl

pub refuses : (r : Refused) → right (Err r) ≡ true → number_of r.answer ≡ 0 → ⊥
refuses r h e = never (eqb (number_of r.answer) 0) (not_true _ (and_right (beq r.closes (closes (number_of r.answer))) _ h)) (ap (λ (n : ℕ). eqb n 0) e)

-- ---- a call, by its verdict

module _ {S F : Type 0} (face : S → F) (is_sound : S → Bool) (p : Leads F) (s closed : S) (b : List ℕ) where
  -- what is claimed of a result, shown in the buffer
  abbrev pub Says : Checks → Result S → Type 0
  Says checks r = Answered face is_sound checks p s closed b (given r b)

  -- what is asked of the work behind the checks
  pub record Works (r : Result S) : Type 0 where
    pub fits : length r.reply ≤ 8 * area_of b
    pub worked : is_sound r.next ≡ true → Worked face is_sound p (given r b) r.reply

  refusal : (checks : Checks) (r : Refused) → first_of checks ≡ number_of r.answer → right (Err r) ≡ true
      → Says checks (refused_by (cond r.closes closed s) r.answer)
  refusal checks r e h = record {
    reply = [];
    count = refl;
    fits = omega arith;
    area = refl;
    refused = λ n. record { answer = sym e; next = rw (e, beq_same r.closes _ (and_left _ _ h)) refl; none = refl };
    worked = λ z. absurd (refuses r h (sym e ∙ z));
  }
    where
      beq_same : (x y : Bool) → beq x y ≡ true → x ≡ y
      beq_same true true h = refl
      beq_same true false h = absurd (true≢false (sym h))
      beq_same false true h = absurd (true≢false (sym h))
      beq_same false false h = refl

  -- a refusal that the order says; a status 1, which closes; or the work, done from a sound state where every check has passed
  pub called : (checks : Checks) (status : Bool) (v : Verdict) (work : Result S) → first_of checks ≡ number_in v (cond status 10 0) → right v ≡ true
      → (v ≡ Ok tt → is_sound (decided v s closed work).next ≡ true) → (v ≡ Ok tt → status ≡ true → work ≡ refused_by closed Mismatch)
      → (v ≡ Ok tt → status ≡ false → Works work) → Says checks (decided v s closed work)
  unfolding decided
  called checks status (Err r) work e h good fails go = refusal checks r e h
  called checks true (Ok tt) work e h good fails go = rw (fails refl refl) (refusal checks (record { closes = true; answer = Mismatch }) e refl)
  called checks false (Ok tt) work e h good fails go =
      let w = go refl refl in
      record { reply = work.reply; count = refl; fits = w.fits; area = refl; refused = λ n. absurd (n e); worked = λ z. w.worked (good refl) }
