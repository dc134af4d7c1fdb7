-- `suite::work::receive` meets its contract. The reply shows the bits as they came, then the data in their place.
use Rattle.std.proofs.Common.{rules}
use mathlib.Core.Path.{◌≡◌, sym, ap, ◌∙◌}
use mathlib.Core.Bool.{Bool}
use mathlib.Core.List.{List, [], ◌++◌}
use Prim.Native.Nat.{ℕ, ◌+◌, ◌*◌, ◌≤◌}
use native.Mathlib.Omega.{arith}
use lib.Dec.{eqb}
use lib.ListN.{length, take, drop}
use borrow.Author.Tests.{eq-eqb, ne_eqb}
use Rattle.bits.specs.Bytes.{bits_of_bytes, bytes_of, field_of, word_bits}
use Rattle.bits.specs.Area.{shown}
use Rattle.bits.proofs.Area.{shown-shown}
use Rattle.bits.proofs.Bytes.{Octets}
use Rattle.bits.proofs.Replies.{length_first, shown-worked}
use Rattle.grain.specs.declared.Session.{Session}
use Rattle.grain.specs.declared.Width.{Width}
use Rattle.grain.specs.Stored.{width_of}
use Rattle.grain.proofs.Words.{width_small}
use Rattle.payloads.specs.Payloads.{data_bits}
use Rattle.rules.specs.declared.Answer.TheVariants.{Done, Mismatch}
use Rattle.rules.specs.Results.{Gives, refused_by, compared_by}
use Rattle.states.specs.Sessions.{after_message, data_of, same_mac}
use Rattle.states.specs.States.{with_session}
use Rattle.states.proofs.Sessions.{length-data_of, received_bits}
use Rattle.machines.specs.Messages.{received}
use Rattle.suite.specs.declared.Step.{Step}
use Rattle.suite.specs.Steps.{step_of}
use Rattle.suite.proofs.work.receive.Given.{Over}
use Rattle.suite.proofs.work.receive.Goals.{After-field-mac}
use Rattle.suite.proofs.work.receive.Goals as goal

module _ (v : Width) (secure : Bool) (count : ℕ) (xs before : List ℕ) (s : Session) where
  abbrev body : List Bool
  body = take (data_bits (width_of v) count) (bits_of_bytes xs)

  abbrev came : List Bool
  came = data_of v secure body s

  -- what is read of a message: the session after it, whether its MAC is right, its data and how many they are
  record Read (n mac : ℕ) (next : Session) (worked : List ℕ) : Type 0 where
    session : next ≡ after_message v body s
    verdict : eqb next.acc mac ≡ same_mac v (bits_of_bytes xs) count s
    amount : n ≡ length came
    shows : worked ≡ shown came before

  read : (n mac : ℕ) (next : Session) (bits worked : List ℕ) → Octets before → 265 ≤ length before → count ≤ 2120 → count ≤ 8 * length xs
      → n ≡ data_bits (width_of v) count → bits ≡ shown (take n (bits_of_bytes xs)) before
      → (next ≡ after_message v (take n (bits_of_bytes bits)) s)
      × (worked ≡ bytes_of (length bits) (data_of v secure (take n (bits_of_bytes bits)) s ++ drop n (bits_of_bytes bits)))
      → mac ≡ field_of (n + 8) (word_bits (width_of v)) (bits_of_bytes xs)
      → Read n mac next worked
  unfolding same_mac
  read n mac next bits worked octets roomy most within k shows works field =
      let h = width_small v in
      let z : word_bits (width_of v) ≡ width_of v = omega arith in
      let l = length_first n xs (omega arith) in
      let r =
      shown-worked (take n (bits_of_bytes xs)) n before bits worked next (λ (cs : List Bool). after_message v cs s) (λ (cs : List Bool). data_of v secure cs s)
      octets l (omega arith) (length-data_of v secure _ s ∙ l) shows works in
      record {
        session = rw k at r.0;
        verdict = rw (r.0, field, z, k);
        amount = k ∙ sym (received_bits v secure count xs s within);
        shows = rw k at r.1;
      }

  module _ {S : Type 0} (moved : Session → S) (closed : S) (n mac : ℕ) (next : Session) (worked : List ℕ) (e : Read n mac next worked) where
    accepted : next.acc ≡ mac
        → Gives step_of (received moved closed v secure count (bits_of_bytes xs) s)
        (record { next = record { state = moved next }; answer = Done; bits = n }) before worked
    unfolding compared_by
    accepted same = rw (← e.verdict, eq-eqb _ _ same) record { step = rw (e.session, e.amount); reply = e.shows }

    refused : (next.acc ≡ mac → ⊥) → (t : Step S) (after : List ℕ) → Gives step_of (refused_by closed Mismatch) t worked after
        → Gives step_of (received moved closed v secure count (bits_of_bytes xs) s) t before after
    unfolding compared_by
    refused differs t after left =
        rw (← e.verdict, ne_eqb _ _ differs) record { step = left.step; reply = left.reply ∙ ap (shown []) e.shows ∙ shown-shown [] came before }

-- what the code has read, before it looks at the verdict
found : (g : Over) (c : After-field-mac g) → let a = c.args in
    Read c.stored_width-width.result a.secure a.count a.payload.now a.reply.now c.session.result c.data_bits-n.result c.field-mac.result c.receive-x.result c.receive-x.new.bytes
found g c =
    let a = c.args in
    read c.stored_width-width.result a.secure a.count a.payload.now a.reply.now c.session.result _ _ _ _ _
    (search rules) c.requires.0 c.requires.1.1.0 c.requires.1.1.1
    (rw c.bits-w.ensures at c.data_bits-n.ensures) c.show.ensures c.receive-x.ensures (rw c.bits-w.ensures at c.field-mac.ensures)

pub returns-then-x-mac : goal.returns-then-x-mac
returns-then-x-mac g c =
    let a = c.args in
    rw (← c.face.ensures, ← c.width.ensures, ← c.stored_width-width.ensures, ← c.session.ensures, ← c.closed.ensures)
    (refused _ a.secure _ a.payload.now _ _ (with_session a.state) _ _ _ _ _ (found g (goal.at.returns-then-x-mac g c).After-field-mac) c.if-x-mac.true _ _ c.left.ensures)

pub returns : goal.returns
returns g c =
    let a = c.args in
    rw (← c.face.ensures, ← c.width.ensures, ← c.stored_width-width.ensures, ← c.session.ensures, c.with_session.ensures)
    (accepted _ a.secure _ a.payload.now _ _ (with_session a.state) _ _ _ _ _ (found g (goal.at.returns g c).After-field-mac) c.if-x-mac.false)
