-- `grain::Engine::start` meets its contract. The invariant: so many clocks are done.
use mathlib.Core.Path.{◌≡◌}
use Prim.Native.Nat.{◌≤◌}
use Rattle.grain.specs.Start.{starts}
use Rattle.grain.specs.Stored.{state_of, engine_of}
use Rattle.grain.proofs.Engine.start.Given as goal

abbrev pub invariant-loop : goal.invariant-loop
invariant-loop l = (l.counter ≤ 256) × (l.e ≡ engine_of (starts l.counter (state_of l.initial.e)))
