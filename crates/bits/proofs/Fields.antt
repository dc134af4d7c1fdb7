-- The laws of fields: a field that lies in a part of a list is that part's. Assumes nothing.
use mathlib.Core.Path.{◌≡◌, refl, sym, ap, ◌∙◌}
use mathlib.Core.Bool.{Bool}
use mathlib.Core.List.{List, [], ◌++◌, append-nil}
use Prim.Native.Nat.{ℕ, ◌+◌, ◌-◌, ◌^◌, ◌≤◌, ◌<◌}
use native.Mathlib.Omega.{arith}
use lib.ListN.{length, take, drop}
use lib.Seq.{drop-append-add}
use Rattle.bits.specs.Bits.{bits_of, num_of}
use Rattle.bits.specs.Bytes.{padded, field_of}
use Rattle.bits.proofs.Lists.{drop-take}
use Rattle.bits.proofs.Numbers.{length-bits_of}
use Rattle.bits.proofs.Bytes.{padded-take, field_back}

-- within the first n bits
pub field-take : (at w n : ℕ) (l : List Bool) → at + w ≤ n → field_of at w (take n l) ≡ field_of at w l
unfolding field_of
field-take at w n l h =
    ap (λ (m : List Bool). num_of (padded w m)) (drop-take at n l) ∙ ap num_of (padded-take w (n - at) (drop at l) (omega arith))

-- of a list whose first n bits are known
pub field-of : (at w n : ℕ) (l m : List Bool) → take n l ≡ m → at + w ≤ n → field_of at w l ≡ field_of at w m
field-of at w n l m e h = sym (field-take at w n l h) ∙ ap (field_of at w) e

-- of two lists that have the same first n bits
pub field-same : (at w n : ℕ) (l m : List Bool) → at + w ≤ n → take n l ≡ take n m → field_of at w l ≡ field_of at w m
field-same at w n l m h e = field-of at w n l (take n m) e h ∙ field-take at w n m h

-- behind a part of a bits
pub field_skip : (a at w : ℕ) (p q : List Bool) → length p ≡ a → field_of (a + at) w (p ++ q) ≡ field_of at w q
unfolding field_of
field_skip a at w p q e = ap (λ (k : ℕ). num_of (padded w (drop (k + at) (p ++ q)))) (sym e) ∙ ap (λ (m : List Bool). num_of (padded w m)) (drop-append-add p q at)

-- behind a field of a bits
pub field_past : (a x at w : ℕ) (q : List Bool) → field_of (a + at) w (bits_of a x ++ q) ≡ field_of at w q
field_past a x at w q = field_skip a at w (bits_of a x) q (length-bits_of a x)

-- the first field
pub field_first : (w n : ℕ) (q : List Bool) → n < 2 ^ w → field_of 0 w (bits_of w n ++ q) ≡ n
field_first w n q h = field_back [] q 0 w n refl h

-- the only field
pub field-whole : (w n : ℕ) → n < 2 ^ w → field_of 0 w (bits_of w n) ≡ n
field-whole w n h = ap (field_of 0 w) (sym (append-nil (bits_of w n))) ∙ field_first w n [] h
