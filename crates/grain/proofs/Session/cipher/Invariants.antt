-- `grain::Session::cipher` meets its contract. The invariant: the bits before i are done, and the rest of the message gives the whole.
use mathlib.Core.Path.{◌≡◌}
use mathlib.Core.Bool.{not}
use mathlib.Core.List.{◌++◌}
use lib.Dec.{eqb}
use Prim.Native.Nat.{ℕ, ◌≤◌, ◌<◌, ◌-◌}
use lib.ListN.{length, take, drop}
use Rattle.bits.specs.Bytes.{bits_of_bytes, bytes_of}
use Rattle.grain.specs.Stored.{mac_of}
use Rattle.grain.proofs.Messages.{fed, turned}
use Rattle.grain.proofs.Session.cipher.Given as goal

abbrev pub invariant-loop-i : goal.invariant-loop-i
invariant-loop-i g l =
    (l.i ≤ l.n) × (length l.bytes ≡ length l.initial.bytes) × (l.bytes ≡ bytes_of (length l.bytes) (bits_of_bytes l.bytes))
    × ((w : ℕ) → 0 < w → w ≤ 64
    → (fed (not (eqb g.row.DECRYPTING 0)) (l.n - l.i) (drop l.i (bits_of_bytes l.bytes)) (mac_of w l.x) ≡ fed (not (eqb g.row.DECRYPTING 0)) l.n (bits_of_bytes l.initial.bytes) (mac_of w l.initial.x))
    × (take l.i (bits_of_bytes l.bytes) ++ turned (not (eqb g.row.DECRYPTING 0)) (l.n - l.i) (drop l.i (bits_of_bytes l.bytes)) (mac_of w l.x) ≡ turned (not (eqb g.row.DECRYPTING 0)) l.n (bits_of_bytes l.initial.bytes) (mac_of w l.initial.x)))
