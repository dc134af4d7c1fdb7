-- Demand 2 has force: a tag that hides something in its session is refuted, though it says nothing wrong. Assumes nothing.
use mathlib.Core.Path.{ap}
use mathlib.Core.Bool.{false}
use mathlib.Core.List.{[], ◌∷◌}
use native.Mathlib.Omega.{arith}
use Rattle.bits.specs.Bits.{num_of}
use Rattle.grain.specs.declared.Session.{Session}
use Rattle.payloads.specs.Payloads.{message}
use Rattle.payloads.proofs.Layouts.{length-message}
use Rattle.states.specs.TagStates.{with_session}
use Rattle.states.proofs.TagStates.{secrets_of_lem, secrets_open}
use Rattle.promises.specs.Machines.{ReaderMachine}
use Rattle.promises.specs.Demand2.{Talks, Demand2}
use Rattle.promises.specs.Audited.{hoards_inside}
use Rattle.promises.proofs.Refuted.{buffer, slice_of, carried, ta_talks, ours}
use Rattle.promises.proofs.Comparing.{nothing, allowed}
use Rattle.promises.proofs.Copied.{start, mac_after, whole-start, sends}

-- after a message of no data, whose number is 0
pub hoards-inside : (R : ReaderMachine) → Demand2 R hoards_inside → ⊥
unfolding Talks with_session num_of
hoards-inside R d =
    let l = message [] 32 (mac_after start) in
    let h = ((ta_talks R hoards_inside d (nothing false ∷ []) allowed
    ).takes buffer buffer (slice_of l) (omega arith) (omega arith) (carried l (rw length-message (omega arith)))).1.1 in
    let k = rw (ours, sends start whole-start, secrets_open, secrets_of_lem) at h in
    let e = ap (λ (x : Session). x.engine.b.first) k in
    omega (arith, e)
