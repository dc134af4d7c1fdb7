-- `payloads::beyond` meets its contract.
use mathlib.Core.Path.{◌≡◌, sym, ◌∙◌}
use Prim.Native.Nat.{ℕ, ◌*◌, min}
use native.Mathlib.Omega.{arith}
use native.Mathlib.Decide.{dec_le}
use lib.Dec.{ltb}
use lib.ListN.{length, length-take}
use borrow.Author.Tests.{lt-ltb, le-ltb}
use Rattle.bits.proofs.Bytes.{length-bits_of_bytes}
use Rattle.payloads.proofs.beyond.Goals as goal

-- bits are missing exactly where the count goes past all there are
cut : (n m : ℕ) → ltb (min n m) n ≡ ltb m n
cut n m =
    elim (dec_le n m) [
      | yes h ↦ le-ltb (min n m) n (omega arith) ∙ sym (le-ltb m n h)
      | no h ↦ lt-ltb (min n m) n (omega arith) ∙ sym (lt-ltb m n (omega arith))
    ]

pub returns : goal.returns
returns c =
    let a = c.args in
    rw (c.bits_in.ensures, length-take, length-bits_of_bytes) (cut a.count (8 * length a.s.now))
