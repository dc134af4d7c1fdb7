-- `grain::Session::authenticate` meets its contract.
use Rattle.grain.specs.Mac.{authenticated}
use Rattle.grain.specs.Stored.{width_of}
use Rattle.grain.proofs.Words.{width_small}
use Rattle.grain.proofs.Session.authenticate.Goals as goal

pub returns : goal.returns
unfolding authenticated
returns c =
    let a = c.args in
    let h = width_small a.width in
    rw (c.pad.ensures, c.absorb.ensures (width_of a.width) h.0 h.1)
