-- `grain::Session::encrypt` meets its contract.
use Rattle.grain.specs.Mac.{authenticated}
use Rattle.grain.specs.Stored.{width_of}
use Rattle.grain.proofs.Words.{width_small}
use Rattle.grain.proofs.Session.encrypt.Goals as goal

pub returns : goal.returns
unfolding authenticated
returns c =
    let h = width_small c.args.width in
    let e = c.cipher.ensures (width_of c.args.width) h.0 h.1 in
    (rw (c.pad.ensures, e.0), e.1)
