-- What the one order says, and what both machines then do. Assumes nothing.
use mathlib.Core.Path.{◌≡◌, refl, sym, ap, ◌∙◌}
use mathlib.Core.Bool.{Bool, true, false, not, cond, ◌||◌, true≢false}
use lib.Dec.{eqb}
use Rattle.std.specs.declared.result.Result.TheVariants.{Ok, Err}
use Rattle.bits.proofs.Bools.{neither, of-cond, cond_same}
use Rattle.rules.specs.declared.Answer.{Answer}
use Rattle.rules.specs.declared.Answer.TheVariants.{BadState}
use Rattle.rules.specs.declared.Closing.{Closing}
use Rattle.rules.specs.declared.Keeping.{Keeping}
use Rattle.rules.specs.Answers.{Verdict, number_of, keep, close, verdict_of, closing_of, kept, if_sound}
use Rattle.rules.specs.Results.{Result, refused_by, decided}

-- ---- where the order goes, every check has passed

pub record Kept (k : Keeping) : Type 0 where
  pub buffer : k.buffer ≡ false
  pub argument : k.argument ≡ false
  pub book : k.book ≡ false
  pub error : k.error ≡ false
  pub work : k.work ≡ false

pub record Passed (k : Keeping) (c : Closing) : Type 0 where
  pub kept : Kept k
  pub kind : c.kind ≡ false
  pub length : c.length ≡ false
  pub step : c.step ≡ false
  pub key : c.key ≡ false
  pub support : c.support ≡ false

past : {A : Type 0} (f : A → Bool) (b : Bool) (x y : A) → f x ≡ true → f (cond b x y) ≡ false → (b ≡ false) × (f y ≡ false)
past f true x y h e = absurd (true≢false (sym h ∙ e))
past f false x y h e = (refl, e)

abbrev keeps_in : Verdict → Bool
keeps_in (Err r) = not r.closes
keeps_in (Ok tt) = false

abbrev refuses_in : Verdict → Bool
refuses_in (Err r) = true
refuses_in (Ok tt) = false

module _ (k : Keeping) (c : Closing) where
  -- what does not keep has passed the checks that do
  unkept : keeps_in (verdict_of k c) ≡ false → Kept k
  unfolding verdict_of
  unkept e =
      let a = past keeps_in k.buffer _ _ refl e in
      let b = past keeps_in k.argument _ _ refl a.1 in
      let d = past keeps_in k.book _ _ refl b.1 in
      let f = past keeps_in k.error _ _ refl d.1 in
      let g = past keeps_in k.work _ _ refl f.1 in
      record { buffer = a.0; argument = b.0; book = d.0; error = f.0; work = g.0 }

  closing_is : Kept k → verdict_of k c ≡ closing_of c
  unfolding verdict_of
  closing_is p = rw (p.buffer, p.argument, p.book, p.error, p.work)

  pub passed : verdict_of k c ≡ Ok tt → Passed k c
  unfolding closing_of
  passed e =
      let p = unkept (ap keeps_in e) in
      let a = past refuses_in c.kind _ _ refl (ap refuses_in (sym (closing_is p) ∙ e)) in
      let b = past refuses_in c.length _ _ refl a.1 in
      let d = past refuses_in c.step _ _ refl b.1 in
      let f = past refuses_in c.key _ _ refl d.1 in
      let g = past refuses_in c.support _ _ refl f.1 in
      record { kept = p; kind = a.0; length = b.0; step = d.0; key = f.0; support = g.0 }

  pub goes : Passed k c → verdict_of k c ≡ Ok tt
  unfolding closing_of
  goes p = closing_is p.kept ∙ rw (p.kind, p.length, p.step, p.key, p.support)

-- ---- the numbers that the order says

-- neither 0 nor 10: these are said elsewhere
pub record Plain (a : Answer) : Type 0 where
  pub zero : eqb (number_of a) 0 ≡ false
  pub ten : eqb (number_of a) 10 ≡ false

abbrev special : Answer → Bool
special a = eqb (number_of a) 0 || eqb (number_of a) 10

plain : (a : Answer) → special a ≡ false → Plain a
plain a e = let h = neither _ _ e in record { zero = h.0; ten = h.1 }

abbrev odd : Verdict → Bool
odd (Err r) = special r.answer
odd (Ok tt) = false

never_odd : (k : Keeping) (c : Closing) → odd (verdict_of k c) ≡ false
unfolding verdict_of closing_of
never_odd k c = simp (of-cond odd, cond_same)

-- what holds of each verdict holds of what the order says
pub by_order : (P : Verdict → Type 0) (k : Keeping) (c : Closing) → ((a : Answer) → Plain a → P (keep a))
    → ((a : Answer) → Plain a → Kept k → P (close a)) → (Passed k c → P (Ok tt)) → P (verdict_of k c)
by_order P k c kept closed go = at (verdict_of k c) refl (never_odd k c)
  where
    refused : (closes : Bool) (a : Answer) → verdict_of k c ≡ Err (record { closes = closes; answer = a }) → special a ≡ false
        → P (Err (record { closes = closes; answer = a }))
    refused false a e n = kept a (plain a n)
    refused true a e n = closed a (plain a n) (unkept k c (ap keeps_in e))

    at : (v : Verdict) → verdict_of k c ≡ v → odd v ≡ false → P v
    at (Err r) e n = refused r.closes r.answer e n
    at (Ok tt) e n = go (passed k c e)

-- ---- what both machines then do

-- what holds of each outcome holds of what is decided
pub by_decided : {S : Type 0} (G : Result S → Type 0) (k : Keeping) (c : Closing) (s closed : S) (work : Result S) → ((a : Answer) → Plain a → G (refused_by s a))
    → ((a : Answer) → Plain a → Kept k → G (refused_by closed a)) → (Passed k c → G work) → G (decided (verdict_of k c) s closed work)
unfolding decided
by_decided G k c s closed work kept shut go = by_order (λ (v : Verdict). G (decided v s closed work)) k c kept shut go

-- ---- 8

-- what holds of a refusal with 8, and of what is decided of a sound state, holds of both
pub by_sound : {S : Type 0} (G : Result S → Type 0) (b : Bool) (v : Verdict) (s closed : S) (work : Result S) → G (refused_by s BadState)
    → (b ≡ true → G (decided v s closed work)) → G (decided (if_sound b v) s closed work)
unfolding if_sound
by_sound G true v s closed work bad rest = rest refl
by_sound G false v s closed work bad rest = unfold decided in bad

pub soundly : (b : Bool) (v : Verdict) → b ≡ true → if_sound b v ≡ v
unfolding if_sound
soundly b v e = rw e

pub sound_goes : (b : Bool) (v : Verdict) → if_sound b v ≡ Ok tt → (b ≡ true) × (v ≡ Ok tt)
unfolding if_sound
sound_goes true v e = (refl, e)
sound_goes false v e = absurd (true≢false (ap refuses_in e))

-- what keeps at every refusal decides as where closing leaves the state
pub kept_decides : {S : Type 0} (b : Bool) (v : Verdict) (s closed : S) (work : Result S)
    → decided (if_sound b (kept v)) s closed work ≡ decided (if_sound b v) s s work
unfolding if_sound kept decided
kept_decides true (Err r) s closed work = rw cond_same
kept_decides true (Ok tt) s closed work = refl
kept_decides false v s closed work = refl

-- where every check has passed, a sound state does the work
pub works : {S : Type 0} (b : Bool) (k : Keeping) (c : Closing) (s closed : S) (work : Result S) → b ≡ true → Passed k c
    → decided (if_sound b (verdict_of k c)) s closed work ≡ work
unfolding decided
works b k c s closed work e p = rw (soundly b (verdict_of k c) e, goes k c p)
