-- `grain::Engine::next_s` meets its contract.
use Rattle.grain.specs.Generator.{next_s}
use Rattle.grain.specs.Stored.{terms}
use Rattle.grain.proofs.Engine.next_s.Goals as goal

pub returns : goal.returns
unfolding next_s terms
returns c = c.value.ensures
