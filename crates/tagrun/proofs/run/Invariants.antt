-- `run` is safe and ends. The invariant: what is left are bytes, and each frame so far took a byte at least of the input.
use Rattle.std.proofs.Common.{length, ◌+◌, ◌≤◌}
use Rattle.bits.proofs.Bytes.{Octets}
use Rattle.tagrun.proofs.run.Given as goal

abbrev pub invariant-loop-rest : goal.invariant-loop-rest
invariant-loop-rest g l = Octets l.rest × (l.number + length l.rest ≤ length l.input)

abbrev pub decreases-loop-rest : goal.decreases-loop-rest
decreases-loop-rest g l = length l.rest
