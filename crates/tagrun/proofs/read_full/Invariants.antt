-- `read_full` ends. The invariant: the place is within the buffer.
use Rattle.std.proofs.Common.{length, ◌-◌, ◌≤◌}
use Rattle.tagrun.proofs.read_full.Given as goal

abbrev pub invariant-loop-at : goal.invariant-loop-at
invariant-loop-at g l = l.at ≤ length l.buffer

abbrev pub decreases-loop-at : goal.decreases-loop-at
decreases-loop-at g l = length l.initial.buffer - l.at
