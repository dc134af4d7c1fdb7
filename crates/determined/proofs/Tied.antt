-- What a public function of `suite` hands back is what the field of our machine gives: its own contract, `Post`, says so. A reference is
-- told by what it shows now, alone or in what a call is given; `after` is the reply buffer at exit. Assumes nothing.
use mathlib.Core.Path.{◌≡◌, ap, ap₂}
use mathlib.Core.List.{List}
use Prim.Native.Nat.{ℕ}
use contract.Lifetimes.{Lfts}
use denote.Ref.{Bor}
use denote.MutBor.{MutBor}
use Rattle.rules.specs.declared.calls.Begin.{Begin}
use Rattle.rules.specs.declared.calls.Command.{Command}
use Rattle.rules.specs.declared.calls.Message.{Message}
use Rattle.rules.specs.Answers.{number_of}
use Rattle.rules.specs.Calls.{lent_command, lent_message, lent_begin}
use Rattle.states.specs.TagStates.{TagState}
use Rattle.states.specs.ReaderStates.{ReaderState}
use Rattle.suite.specs.declared.Machine.{Machine}
use Rattle.suite.specs.declared.Step.{Step}
use Rattle.suite.proofs as Suite
use Rattle.promises.specs.Machines.{Given}
use Rattle.promises.specs.Ours.{our_tag, our_reader}

-- a step that is handed back, and the lent buffer as it is left
abbrev left : {S : Type 0} → Step S → List ℕ → Given S
left s buffer = record { next = s.next.state; answer = number_of s.answer; bits = s.bits; buffer = buffer }

-- ---- the tag

pub tag-reset_tied : (κs : Lfts 1) (reply after : MutBor (List ℕ)) (s : Step TagState)
    → Suite.Tag.reset.Reads.Post κs (reply, tt) s (after, tt) → left s after.now ≡ our_tag.reset reply.now
tag-reset_tied κs reply after s p = ap₂ left p.step p.reply

pub command_tied : (κs : Lfts 2) (t : Machine TagState) (c : Command) (reply after : MutBor (List ℕ)) (s : Step TagState)
    → Suite.Tag.command.Reads.Post κs (t, (c, (reply, tt))) s (t, (c, (after, tt)))
    → left s after.now ≡ our_tag.command t.state (lent_command c) reply.now
command_tied κs t c reply after s p = ap₂ left p.step p.reply

pub response_tied : (κs : Lfts 2) (t : Machine TagState) (m : Message) (reply after : MutBor (List ℕ)) (s : Step TagState)
    → Suite.Tag.response.Reads.Post κs (t, (m, (reply, tt))) s (t, (m, (after, tt)))
    → left s after.now ≡ our_tag.response t.state (lent_message m) reply.now
response_tied κs t m reply after s p = ap₂ left p.step p.reply

pub close_tied : (t r : Machine TagState) → Suite.Tag.close.Reads.Post tt (t, tt) r (t, tt) → r.state ≡ our_tag.close t.state
close_tied t r p = ap (λ (x : Machine TagState). x.state) p

pub error_type_tied : (t : Machine TagState) (r : ℕ) → Suite.Tag.error_type.Reads.Post tt (t, tt) r (t, tt) → r ≡ our_tag.error_type t.state
error_type_tied t r p = p

-- ---- the reader

pub reader-reset_tied : (κs : Lfts 1) (reply after : MutBor (List ℕ)) (s : Step ReaderState)
    → Suite.Reader.reset.Reads.Post κs (reply, tt) s (after, tt) → left s after.now ≡ our_reader.reset reply.now
reader-reset_tied κs reply after s p = ap₂ left p.step p.reply

pub begin_tied : (κs : Lfts 2) (r : Machine ReaderState) (b : Begin) (reply after : MutBor (List ℕ)) (s : Step ReaderState)
    → Suite.Reader.begin.Reads.Post κs (r, (b, (reply, tt))) s (r, (b, (after, tt)))
    → left s after.now ≡ our_reader.begin r.state (lent_begin b) reply.now
begin_tied κs r b reply after s p = ap₂ left p.step p.reply

pub replied_tied : (κs : Lfts 2) (r : Machine ReaderState) (payload : Bor (List ℕ)) (count : ℕ) (reply after : MutBor (List ℕ)) (s : Step ReaderState)
    → Suite.Reader.replied.Reads.Post κs (r, (payload, (count, (reply, tt)))) s (r, (payload, (count, (after, tt))))
    → left s after.now ≡ our_reader.replied r.state payload.now count reply.now
replied_tied κs r payload count reply after s p = ap₂ left p.step p.reply

pub send_tied : (κs : Lfts 2) (r : Machine ReaderState) (m : Message) (reply after : MutBor (List ℕ)) (s : Step ReaderState)
    → Suite.Reader.send.Reads.Post κs (r, (m, (reply, tt))) s (r, (m, (after, tt)))
    → left s after.now ≡ our_reader.send r.state (lent_message m) reply.now
send_tied κs r m reply after s p = ap₂ left p.step p.reply

pub receive_tied : (κs : Lfts 2) (r : Machine ReaderState) (m : Message) (reply after : MutBor (List ℕ)) (s : Step ReaderState)
    → Suite.Reader.receive.Reads.Post κs (r, (m, (reply, tt))) s (r, (m, (after, tt)))
    → left s after.now ≡ our_reader.receive r.state (lent_message m) reply.now
receive_tied κs r m reply after s p = ap₂ left p.step p.reply
