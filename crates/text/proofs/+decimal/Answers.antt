-- `decimal` meets its contract. Where the number has one digit, the law that its attribute names is enough. Assumes nothing.
use Rattle.std.proofs.Common.{arith}
use Rattle.text.proofs.Digits.{decimal_more}
use Rattle.text.proofs.Writing.{behind}
use Rattle.text.proofs.+decimal.Goals as goal

pub returns : goal.returns
returns t c = rw (decimal_more c.args.n (omega arith), ← c.digit-2.ensures) (behind c.decimal-next.ensures c.byte-2.ensures)
