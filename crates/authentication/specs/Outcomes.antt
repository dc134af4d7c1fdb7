-- What the code of an authentication's steps hands back, for what `machines` says they reach. Assumes nothing.
use Rattle.rules.specs.Results as Results
use Rattle.authentication.specs.declared.Outcome.{Outcome}

-- the struct of an outcome, at either machine
abbrev pub handed : {S : Type 0} → Results.Outcome S → Outcome S
handed o = record { next = o.next; answer = o.answer; reply = o.reply }
