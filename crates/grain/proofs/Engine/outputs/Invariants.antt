-- `grain::Engine::outputs` meets its contract. The invariant: so many outputs are in the word.
use mathlib.Core.Path.{◌≡◌}
use Prim.Native.Nat.{◌≤◌}
use Rattle.bits.specs.Bits.{num_of}
use Rattle.grain.specs.Generator.{runs, outs}
use Rattle.grain.specs.Stored.{state_of, engine_of}
use Rattle.grain.proofs.Engine.outputs.Given as goal

abbrev pub invariant-loop : goal.invariant-loop
invariant-loop l = (l.counter ≤ l.w) × (l.word ≡ num_of (outs l.counter (state_of l.initial.e))) × (l.e ≡ engine_of (runs l.counter (state_of l.initial.e)))
