-- `suite::work::send` meets its contract. The reply shows the data, then the body in their place, then the message.
use Rattle.std.proofs.Common.{rules}
use mathlib.Core.Path.{◌≡◌, ◌∙◌}
use mathlib.Core.Bool.{Bool}
use mathlib.Core.List.{List, ◌++◌}
use Prim.Native.Nat.{ℕ, ◌+◌, ◌*◌, ◌≤◌}
use native.Mathlib.Omega.{arith}
use lib.ListN.{length, take, drop}
use lib.Seq.{sets}
use Rattle.bits.specs.Bits.{bits_of}
use Rattle.bits.specs.Bytes.{bits_of_bytes, bytes_of, word_bits}
use Rattle.bits.specs.Area.{shown}
use Rattle.bits.proofs.Bytes.{Octets}
use Rattle.bits.proofs.Replies.{length_first, shown-worked}
use Rattle.grain.specs.declared.Session.{Session}
use Rattle.grain.specs.declared.Width.{Width}
use Rattle.grain.specs.Stored.{width_of}
use Rattle.grain.proofs.Words.{width_small}
use Rattle.payloads.proofs.Layouts.{message-put}
use Rattle.rules.specs.declared.Answer.TheVariants.{Done}
use Rattle.rules.specs.Results.{Gives}
use Rattle.states.specs.Sessions.{body_of, sent_session, sent_bits}
use Rattle.states.specs.States.{with_session}
use Rattle.states.proofs.Sessions.{length-body_of, sent_bits_lem}
use Rattle.machines.specs.Messages.{sent}
use Rattle.suite.specs.Steps.{step_of}
use Rattle.suite.proofs.work.send.Goals as goal

sends : {S : Type 0} (moved : Session → S) (v : Width) (secure : Bool) (count : ℕ) (xs before : List ℕ) (s next : Session) (bits worked after : List ℕ)
    → Octets before → 265 ≤ length before → count ≤ 2048 → count ≤ 8 * length xs → bits ≡ shown (take count (bits_of_bytes xs)) before
    → (next ≡ sent_session v secure (take count (bits_of_bytes bits)) s)
    × (worked ≡ bytes_of (length bits) (body_of v secure (take count (bits_of_bytes bits)) s ++ drop count (bits_of_bytes bits)))
    → after ≡ bytes_of (length worked) (sets (bits_of_bytes worked) (count + 8) (bits_of (word_bits (width_of v)) next.acc))
    → Gives step_of (sent moved v secure (take count (bits_of_bytes xs)) s)
    (record { next = record { state = moved next }; answer = Done; bits = count + 8 + width_of v }) before after
unfolding sent_bits
sends moved v secure count xs before s next bits worked after octets roomy most within shows works puts =
    let ms : List Bool = take count (bits_of_bytes xs) in
    let n = length_first count xs within in
    let k = length-body_of v secure ms s ∙ n in
    let r =
    shown-worked ms count before bits worked next (λ (l : List Bool). sent_session v secure l s) (λ (l : List Bool). body_of v secure l s)
    octets n (omega arith) k shows works in
    let h = width_small v in
    record {
      step = rw (r.0, sent_bits_lem v secure count xs s within);
      reply = message-put _ count (width_of v) _ before _ _ octets k h.1 (omega arith) r.1 (rw r.0 at puts);
    }

pub returns : goal.returns
returns g c =
    let a = c.args in
    rw (← c.face.ensures, ← c.width.ensures, ← c.stored_width-width.ensures, ← c.session.ensures, c.with_session.ensures, c.bits-w.ensures)
    (sends (with_session a.state) _ a.secure a.count a.«data».now a.reply.now _ _ _ _ _ (search rules) c.requires.0 c.requires.1.0 c.requires.1.1
    c.show.ensures c.send-x.ensures (rw c.bits-w.ensures at c.put.ensures))
