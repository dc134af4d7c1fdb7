-- `grain::Engine::value` meets its contract. The invariant: the sum so far.
use mathlib.Core.Path.{◌≡◌}
use mathlib.Core.Bool.{false}
use lib.ListN.{take}
use Rattle.std.specs.List.{fold}
use Rattle.bits.specs.Bits.{◌⊕◌}
use Rattle.grain.specs.Generator.{product}
use Rattle.grain.specs.Stored.{state_of, places}
use Rattle.grain.proofs.Engine.value.Given as goal

abbrev pub invariant-loop-taps : goal.invariant-loop-taps
invariant-loop-taps g l = l.sum ≡ fold (λ v p. v ⊕ product (state_of l.self) (places p)) false (take l.taps-index l.table)
