-- `grain::Engine::keystream` meets its contract. The invariant: so many keystream bits are in the word.
use mathlib.Core.Path.{◌≡◌}
use Prim.Native.Nat.{◌≤◌}
use Rattle.bits.specs.Bits.{num_of}
use Rattle.grain.specs.Mac.{keystream, pairs}
use Rattle.grain.specs.Stored.{state_of, engine_of}
use Rattle.grain.proofs.Engine.keystream.Given as goal

abbrev pub invariant-loop : goal.invariant-loop
invariant-loop l = (l.counter ≤ 64) × (l.word ≡ num_of (keystream l.counter (state_of l.initial.e))) × (l.e ≡ engine_of (pairs l.counter (state_of l.initial.e)))
