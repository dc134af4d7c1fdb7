-- `grain::Engine::next_b` meets its contract.
use Rattle.grain.specs.Generator.{next_b}
use Rattle.grain.specs.Stored.{terms}
use Rattle.grain.proofs.Table.{value_cat}
use Rattle.grain.proofs.Engine.next_b.Goals as goal

pub returns : goal.returns
unfolding next_b terms
returns c =
    rw (c.value-4.ensures, c.value-3.ensures, c.value-2.ensures, c.value.ensures, value_cat, value_cat, value_cat)
