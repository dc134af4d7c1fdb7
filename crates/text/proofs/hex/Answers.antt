use Rattle.std.proofs.Common.{rules, [], take}
use Rattle.std.proofs.lemmas.List.{take_more, flat_map_more}
use Rattle.text.specs.Text.{hex_byte, hex_of}
use Rattle.text.proofs.Writing.{empty, behind}
use Rattle.text.proofs.hex.Goals as goal

pub loop-b-init : goal.loop-b-init
unfolding hex_of
loop-b-init c = empty _ _

pub loop-b-preserved : goal.loop-b-preserved
unfolding hex_of
loop-b-preserved c =
    let shown = take c.min.result c.args.bytes.now in
    rw (take_more shown c.loop-b.b-index 0 (search rules), ← flat_map_more hex_byte []) (behind c.loop-b.invariant c.pair-next.ensures)
