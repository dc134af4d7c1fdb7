-- `grain::Engine::load` meets its contract.
use Rattle.grain.proofs.Loading.{load_engine}
use borrow.Author.Rules.{rules}
use Rattle.grain.proofs.Engine.load.Goals as goal

pub returns : goal.returns
returns c =
    let a = c.args in
    rw c.proving.ensures.value (load_engine a.key a.method a.reader a.tag (search rules) (search rules))
