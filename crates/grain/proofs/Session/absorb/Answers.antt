-- `grain::Session::absorb` meets its contract: after each bit, those so far have gone in.
use mathlib.Core.Path.{◌≡◌, refl, ◌∙◌}
use mathlib.Core.Bool.{false}
use mathlib.Core.List.{List, map}
use Prim.Native.Nat.{ℕ, ◌<◌, ◌≤◌}
use native.Mathlib.Omega.{arith}
use lib.ListN.{get_or, length-take}
use Rattle.std.proofs.Common.{rules}
use Rattle.std.specs.List.{range_with_len}
use Rattle.std.proofs.lemmas.List.{map_push}
use Rattle.std.proofs.lemmas.Fn.{fold_over}
use Rattle.std.proofs.lemmas.Iterator.{YieldsList-from_range}
use Rattle.std.proofs.iter.Yields.{nat_range_steps}
use Rattle.bits.specs.Bytes.{bits_of_bytes}
use Rattle.grain.specs.declared.Session.{Session}
use Rattle.grain.specs.Mac.{absorbed, taken}
use Rattle.grain.specs.Stored.{mac_of}
use Rattle.grain.proofs.Messages.{absorbed-push, bits_at, cut_short}
use Rattle.grain.proofs.Session.absorb.Goals as goal

pub returns : goal.returns
unfolding absorbed
returns c =
    λ w h h'.
    let a = c.args in
    let ms = bits_of_bytes a.bytes.now in
    let n = c.bits_in-n.result in
    let bit = λ (i : ℕ). get_or ms i false in
    let J : List ℕ → Session → Type 0 = λ is x. (w : ℕ) → 0 < w → w ≤ 64 → mac_of w x ≡ absorbed (map bit is) (mac_of w a.self) in
    let s = cut_short n a.count ms c.bits_in-n.ensures in
    let e = length-take a.count ms in
    fold_over nat_range_steps (λ i. i) _ J _
    (λ is x i b f' j k.
    let t : (w : ℕ) → 0 < w → w ≤ 64 → mac_of w b ≡ taken (bit i) (mac_of w x) = search rules in
    (λ w h h'. t w h h' ∙ rw (j w h h', map_push bit is i, absorbed-push) refl, search rules))
    (record { start = 0; end = n }) (range_with_len 0 n) a.self c.fold.result (YieldsList-from_range 0 n n refl (omega arith)).runs (λ w h h'. refl) c.fold.ensures.ran w h h'
    ∙ rw (bits_at ms n 0 (omega arith), s.0) refl
