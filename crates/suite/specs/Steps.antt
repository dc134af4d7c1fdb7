-- What the code of both machines hands back, for what `machines` says they give. Assumes nothing.
use Rattle.std.specs.Prelude.{length}
use Rattle.payloads.specs.Payloads.{layout_of}
use Rattle.rules.specs.Results.{Result}
use Rattle.authentication.specs.declared.Outcome.{Outcome}
use Rattle.suite.specs.declared.Step.{Step}

-- the step handed back says the reply's own length
abbrev pub step_of : {S : Type 0} → Result S → Step S
step_of r = record { next = record { state = r.next }; answer = r.answer; bits = length r.reply }

-- an authentication's result, its reply not yet written
abbrev pub outcome_of : {S : Type 0} → Outcome S → Result S
outcome_of o = record { next = o.next; answer = o.answer; reply = layout_of o.reply }
