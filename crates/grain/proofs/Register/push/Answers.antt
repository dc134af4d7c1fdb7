-- `grain::Register::push` meets its contract.
use Rattle.grain.proofs.Words.{register-push}
use borrow.Author.Rules.{rules}
use Rattle.grain.proofs.Register.push.Goals as goal

pub returns : goal.returns
returns c = register-push c.args.self c.args.x (search rules)
