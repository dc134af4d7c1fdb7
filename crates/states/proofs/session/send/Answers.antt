-- `states::session::send` meets its contract. Bits that are not secured stay as they are.
use Rattle.std.proofs.Common.{rules}
use mathlib.Core.Path.{sym}
use Rattle.states.specs.Sessions.{after_message, body_of, sent_session}
use Rattle.bits.proofs.Replies.{put_back}
use Rattle.states.proofs.session.send.Goals as goal

pub returns-then-secure : goal.returns-then-secure
unfolding after_message body_of sent_session
returns-then-secure c = rw c.if-secure.true c.encrypt.ensures

pub returns : goal.returns
unfolding after_message body_of sent_session
returns c =
    let a = c.args in
    rw c.if-secure.false (c.authenticate.ensures, sym (put_back a.count a.bytes.now (search rules)))
