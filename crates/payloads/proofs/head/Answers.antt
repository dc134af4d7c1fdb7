-- `payloads::head` meets its contract.
use Rattle.payloads.proofs.Layouts.{head-bits}
use Rattle.payloads.proofs.head.Goals as goal

pub returns : goal.returns
returns c = head-bits c.args.method c.args.step c.args.options c.requires
