-- A sound state of either machine stays sound, where each outcome of a call is so. Assumes nothing.
use mathlib.Core.Path.{◌≡◌}
use mathlib.Core.Bool.{Bool, true}
use mathlib.Core.List.{List}
use Rattle.bits.proofs.Bools.{either}
use Rattle.rules.specs.declared.Answer.TheVariants.{Mismatch}
use Rattle.rules.specs.declared.Closing.{Closing}
use Rattle.rules.specs.declared.Keeping.{Keeping}
use Rattle.rules.specs.Answers.{verdict_of, if_sound}
use Rattle.rules.specs.Results.{Result, done_by, refused_by, compared_by, decided}
use Rattle.rules.proofs.Verdicts.{Passed, by_decided, soundly}

module _ {S : Type 0} (sound : S → Bool) where
  -- what a call leaves is sound
  abbrev pub Good : Result S → Type 0
  Good r = sound r.next ≡ true

  pub compared_good : (same : Bool) (next closed : S) (reply : List Bool) → sound next ≡ true → sound closed ≡ true → Good (compared_by same next reply closed)
  unfolding compared_by
  compared_good same next closed reply h k = either Good same (done_by next reply) (refused_by closed Mismatch) h k

  pub decided_good : (k : Keeping) (c : Closing) (s closed : S) (work : Result S) → sound s ≡ true → sound closed ≡ true → (Passed k c → Good work)
      → Good (decided (if_sound (sound s) (verdict_of k c)) s closed work)
  decided_good k c s closed work h i go =
      rw (soundly (sound s) (verdict_of k c) h) (by_decided Good k c s closed work (λ a n. h) (λ a n p. i) go)
