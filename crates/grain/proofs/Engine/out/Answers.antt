-- `grain::Engine::out` meets its contract.
use Rattle.grain.specs.Generator.{out, output}
use Rattle.grain.specs.Stored.{terms}
use Rattle.grain.proofs.Table.{value_cat}
use Rattle.grain.proofs.Engine.out.Goals as goal

pub returns : goal.returns
unfolding out output terms
returns c =
    rw (c.value-3.ensures, c.value-2.ensures, c.value.ensures, value_cat, value_cat)
