-- `states::session::receive` meets its contract. Bits that are not secured stay as they are.
use Rattle.std.proofs.Common.{rules}
use mathlib.Core.Path.{sym}
use Rattle.states.specs.Sessions.{after_message, data_of}
use Rattle.bits.proofs.Replies.{put_back}
use Rattle.states.proofs.session.receive.Goals as goal

pub returns-then-secure : goal.returns-then-secure
unfolding after_message data_of
returns-then-secure c = rw c.if-secure.true c.decrypt.ensures

pub returns : goal.returns
unfolding after_message data_of
returns c =
    let a = c.args in
    rw c.if-secure.false (c.authenticate.ensures, sym (put_back a.count a.bytes.now (search rules)))
