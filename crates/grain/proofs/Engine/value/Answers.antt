use mathlib.Core.Path.{◌∙◌}
use mathlib.Core.Bool.{false}
use lib.Seq.{take_all}
use borrow.Author.Rules.{rules}
use Rattle.grain.specs.Stored.{state_of}
use Rattle.grain.proofs.Table.{value_fold, false_⊕}
use Rattle.grain.proofs.Engine.value.Goals as goal

pub returns : goal.returns
returns g c =
    let l = c.loop-taps in
    rw (take_all l.taps-index c.args.table.now (search rules)) at l.invariant ∙ value_fold c.args.table.now (state_of c.args.self) false ∙ false_⊕ _
