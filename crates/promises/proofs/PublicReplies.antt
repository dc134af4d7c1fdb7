-- The public bits of a reply say nothing of keys, data or keystream. Assumes nothing.
use mathlib.Core.Path.{◌≡◌, refl, sym, ◌∙◌}
use mathlib.Core.Bool.{Bool, false}
use mathlib.Core.List.{List, ◌++◌, append_assoc}
use Prim.Native.Nat.{ℕ, ◌+◌, ◌-◌}
use native.Mathlib.Omega.{arith}
use lib.ListN.{length, take, drop, replicate}
use lib.Seq.{take_at, drop_at}
use Rattle.bits.specs.Bits.{bits_of}
use Rattle.bits.proofs.Numbers.{length-bits_of}
use Rattle.grain.specs.declared.Session.{Session}
use Rattle.grain.specs.declared.Width.{Width}
use Rattle.grain.specs.Stored.{width_of}
use Rattle.payloads.specs.declared.Payload.{Payload}
use Rattle.payloads.specs.declared.Payload.TheVariants.{TagProof, MutualProof}
use Rattle.payloads.specs.Payloads.{tag_proof, tag_challenge, mutual_proof, layout_of, message}
use Rattle.payloads.proofs.Layouts.{length_proof, length-challenge, length_mutual, length-message}
use Rattle.states.specs.Sessions.{body_of, sent_bits}
use Rattle.promises.specs.Demand3.{public_answer}

-- replies of an authentication that are as long, and the same in their public bits
pub record Publicly (p q : Payload) : Type 0 where
  pub count : length (layout_of p) ≡ length (layout_of q)
  pub bits : take (public_answer (length (layout_of p))) (layout_of p) ≡ take (public_answer (length (layout_of q))) (layout_of q)

-- of TA's 120 bits they are the 56 that IA and MA give at step 0
pub proof_public : (f n x y : ℕ) → Publicly (TagProof f n x) (TagProof f n y)
unfolding layout_of
proof_public f n x y = record { count = length_proof f n x ∙ sym (length_proof f n y); bits = first x ∙ sym (first y) }
  where
    first : (k : ℕ) → take (public_answer (length (tag_proof f n k))) (tag_proof f n k) ≡ tag_challenge f n
    first k = unfold tag_proof tag_challenge in
        rw (length_proof f n k, ← append_assoc (bits_of 8 f) (bits_of 48 n) (bits_of 64 k))
        (take_at (tag_challenge f n) (bits_of 64 k) 56 (length-challenge f n))

-- of MA's 65 bits it is the first
pub mutual_public : (x y : ℕ) → Publicly (MutualProof x) (MutualProof y)
unfolding layout_of
mutual_public x y = record { count = length_mutual x ∙ sym (length_mutual y); bits = first x ∙ sym (first y) }
  where
    first : (k : ℕ) → take (public_answer (length (mutual_proof k))) (mutual_proof k) ≡ bits_of 1 0
    first k = rw (length_mutual k) (unfold mutual_proof in take_at (bits_of 1 0) (bits_of 64 k) 1 (length-bits_of 1 0))

-- of a message that is sent they are eight zeros
message_public : (body : List Bool) (w mac : ℕ) → take 8 (drop (length (message body w mac) - (8 + w)) (message body w mac)) ≡ replicate 8 false
unfolding message
message_public body w mac =
    let n : length (message body w mac) - (8 + w) ≡ length body = rw (length-message body w mac) (omega arith) in
    rw (n, drop_at body (replicate 8 false ++ bits_of w mac) (length body) refl) (take_at (replicate 8 false) (bits_of w mac) 8 refl)

pub sent_public : (v : Width) (w : ℕ) → width_of v ≡ w → (secure : Bool) (ms : List Bool) (x : Session)
    → take 8 (drop (length (sent_bits v secure ms x) - (8 + w)) (sent_bits v secure ms x)) ≡ replicate 8 false
unfolding sent_bits
sent_public v w e secure ms x = rw (← e) (message_public (body_of v secure ms x) (width_of v) _)
