-- Document 01, messages "at either end": what sending and taking in do to a state of either machine, and their replies. `moved` is the
-- state with another session. Assumes nothing.
use Rattle.std.specs.Prelude.{Bool, List, ℕ, take}
use Rattle.grain.specs.declared.Session.{Session}
use Rattle.grain.specs.declared.Width.{Width}
use Rattle.grain.specs.Stored.{width_of}
use Rattle.payloads.specs.Payloads.{data_bits}
use Rattle.rules.specs.Results.{Result, done_by, compared_by}
use Rattle.states.specs.Sessions.{after_message, data_of, sent_session, sent_bits, same_mac}

-- "0 to 2,048 data bits, eight zero bits, MAC of w bits"
abbrev pub sent : {S : Type 0} → (Session → S) → Width → Bool → List Bool → Session → Result S
sent moved v secure ms x = done_by (moved (sent_session v secure ms x)) (sent_bits v secure ms x)

-- a message "that is accepted, at either end, has its plain data bits as reply"; "the MAC is over the encrypted bits": those that came
abbrev pub received : {S : Type 0} → (Session → S) → S → Width → Bool → ℕ → List Bool → Session → Result S
received moved closed v secure count l x =
    let cs = take (data_bits (width_of v) count) l in
    compared_by (same_mac v l count x) (moved (after_message v cs x)) (data_of v secure cs x) closed
