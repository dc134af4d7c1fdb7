-- Document 01, "Replies and refusals": what a call of either machine gives. Assumes nothing.
use Rattle.std.specs.Prelude.{Bool, cond, List, [], ◌≡◌, ℕ, Ok, Err}
use Rattle.bits.specs.Area.{shown}
use Rattle.payloads.specs.declared.Payload.{Payload}
use Rattle.payloads.specs.Payloads.{layout_of}
use Rattle.rules.specs.declared.Answer.{Answer}
use Rattle.rules.specs.declared.Answer.TheVariants.{Done, Mismatch}
use Rattle.rules.specs.Answers.{Verdict}

-- a next state, an answer and a reply
pub record Result (S : Type 0) : Type 0 where
  pub next : S
  pub answer : Answer
  pub reply : List Bool

-- "0: done"
abbrev pub done_by : {S : Type 0} → S → List Bool → Result S
done_by s reply = record { next = s; answer = Done; reply = reply }

-- "Replies to refusals have no bits"
abbrev pub refused_by : {S : Type 0} → S → Answer → Result S
refused_by s a = record { next = s; answer = a; reply = [] }

-- a comparison's next state and reply, or 10, "comparison failed": closed, and nothing decrypted is left
unfoldable pub compared_by : {S : Type 0} → Bool → S → List Bool → S → Result S
compared_by same next reply closed = cond same (done_by next reply) (refused_by closed Mismatch)

-- ---- a step of an authentication

-- a next state, an answer, and a reply by its fields
pub record Outcome (S : Type 0) : Type 0 where
  pub next : S
  pub answer : Answer
  pub reply : Payload

-- the reply's bits are its payload's
abbrev pub said : {S : Type 0} → Outcome S → Result S
said o = record { next = o.next; answer = o.answer; reply = layout_of o.reply }

-- "0: done"
abbrev pub reached : {S : Type 0} → S → Payload → Outcome S
reached s reply = record { next = s; answer = Done; reply = reply }

-- "10: comparison failed"
abbrev pub differed : {S : Type 0} → S → Payload → Outcome S
differed s reply = record { next = s; answer = Mismatch; reply = reply }

-- ---- the order of a call

-- the table's "kept" and "closed", from a state and what it is closed; "next" is the work's
unfoldable pub decided : {S : Type 0} → Verdict → S → S → Result S → Result S
decided (Ok tt) s closed work = work
decided (Err r) s closed work = refused_by (cond r.closes closed s) r.answer

-- "Every call writes all of it: the reply's bits, then zeros. Bytes beyond stay as found"; the step handed back is the result's
pub record Gives {S T : Type 0} (step_of : Result S → T) (r : Result S) (s : T) (before after : List ℕ) : Type 0 where
  pub step : s ≡ step_of r
  pub reply : after ≡ shown r.reply before
