-- `scan` meets its contract. Assumes nothing.
use mathlib.Core.Path.{sym}
use Rattle.std.proofs.Common.{rules}
use Rattle.counts.proofs.Counts.{count-within}
use Rattle.frames.proofs.scan.Goals as goal

pub frame_at-requires : goal.frame_at-requires
frame_at-requires c =
    count-within c.args.s.now 1 _ _ _ c.type_inv.s (sym c.in_ok-counted.ensures) (search rules)
