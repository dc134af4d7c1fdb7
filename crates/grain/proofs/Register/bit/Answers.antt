-- `grain::Register::bit` meets its contract.
use mathlib.Core.Path.{sym, ◌∙◌}
use mathlib.Core.Bool.{false}
use native.Mathlib.Omega.{arith}
use lib.ListN.{get_or-eq_default}
use Rattle.bits.specs.Bits.{bits_of}
use Rattle.bits.proofs.Lists.{get_d_left, get_d_right}
use Rattle.bits.proofs.Numbers.{length-bits_of}
use Rattle.grain.specs.Stored.{bits_r}
use Rattle.grain.proofs.Words.{length-bits_r}
use borrow.Author.Rules.{rules}
use Rattle.grain.proofs.Register.bit.Goals as goal

pub returns-in-0-to-63 : goal.returns-in-0-to-63
unfolding bits_r
returns-in-0-to-63 c =
    let a = c.args in
    c.word_bit.ensures ∙ sym (get_d_left (bits_of 64 a.self.first) (bits_of 64 a.self.last) 64 a.place (length-bits_of 64 a.self.first) false (search rules))

pub returns-in-64-to-127 : goal.returns-in-64-to-127
unfolding bits_r
returns-in-64-to-127 c =
    let a = c.args in
    c.word_bit-in-64-to-127.ensures ∙ sym (get_d_right (bits_of 64 a.self.first) (bits_of 64 a.self.last) 64 a.place (length-bits_of 64 a.self.first) false (search rules))

pub returns-in_default : goal.returns-in_default
returns-in_default c = sym (get_or-eq_default (bits_r c.args.self) false (omega (arith, length-bits_r c.args.self)))
