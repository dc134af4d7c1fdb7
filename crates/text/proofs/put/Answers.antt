use Rattle.std.proofs.Common.{rules}
use Rattle.std.proofs.lemmas.List.{take_more}
use Rattle.text.proofs.Writing.{behind}
use Rattle.text.proofs.put.Goals as goal

pub loop-b-preserved : goal.loop-b-preserved
loop-b-preserved c = rw (take_more c.args.text.now c.loop-b.b-index 0 (search rules)) (behind c.loop-b.invariant c.byte-next.ensures)
