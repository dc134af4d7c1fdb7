-- A payload's bytes as bits: the number in its unused bits, that equal bits are equal bytes, and what is known of a payload that
-- is fine. Assumes nothing.
use Prim.Native.Nat.{ℕ, zero, suc, ◌+◌, ◌-◌, ◌*◌, ◌/◌, ◌%◌, ◌^◌, ◌≤◌, ◌<◌}
use mathlib.Core.Bool.{Bool, false}
use mathlib.Core.List.{List, [], ◌∷◌, ◌++◌, append-nil}
use mathlib.Core.Path.{◌≡◌, refl, ap, ap₂, sym, ◌∙◌, subst}
use native.Mathlib.Nat.{mod-one, zero-mod, zero-add, one-mul, sub-zero, zero-sub, suc-sub-suc}
use native.Mathlib.Omega.{arith}
use lib.Dec.{eqb, ltb, lit<}
use lib.ListN.{length, get_or, take, drop, replicate, length-append, length-drop, take-append-drop}
use lib.Pow.{shl_exact}
use lib.Seq.{length-take-le, take_at, take-nil, drop-nil, take-take, take-append-add, drop-append-add}
use borrow.Author.Tests.{le-ltb, ltb-false, eqb-true}
use Rattle.bits.proofs.Bytes.{Octets, length-bits_of_bytes, bytes_bits}
use Rattle.bits.proofs.Numbers.{length-bits_of, num_of-bits_of, bits_of-num_of, bits_of-zero}
use Rattle.bits.specs.Bits.{bits_of, num_of}
use Rattle.bits.specs.Bytes.{bits_of_bytes, bytes_of}
use Rattle.counts.specs.Payload.{size_of, unused_of, check_of}
use Rattle.std.specs.Prelude.{Result, Ok, OnOk}
use Rattle.counts.specs.declared.Refusal.{Refusal}
use Rattle.std.proofs.lemmas.Bool.{cond_both}

drop-bits_of : (w j n : ℕ) → drop j (bits_of w n) ≡ bits_of (w - j) n
unfolding bits_of
drop-bits_of w zero n = rw sub-zero
drop-bits_of zero (suc j) n = rw zero-sub
drop-bits_of (suc w) (suc j) n = rw suc-sub-suc (drop-bits_of w j n)

-- of q bytes and r bits, the unused bits are the lowest of byte q
unused_at : (q r : ℕ) (p : List ℕ) → r < 8
    → num_of (drop (q * 8 + r) (bits_of_bytes (take (q + (r + 7) / 8) p))) ≡ get_or p q 0 % 2 ^ ((8 - r) % 8)
unfolding bits_of_bytes num_of
unused_at q r [] h = rw (take-nil, drop-nil, zero-mod)
unused_at zero zero (x ∷ xs) h = sym (mod-one x)
unused_at zero (suc r) (x ∷ xs) h =
    let one : 0 + (suc r + 7) / 8 ≡ 1 = omega arith in
    let free : (8 - suc r) % 8 ≡ 8 - suc r = omega arith in
    rw (one, free, zero-add, append-nil, drop-bits_of 8 (suc r) x) (num_of-bits_of (8 - suc r) x)
unused_at (suc q) r (x ∷ xs) h =
    let more : suc q + (r + 7) / 8 ≡ suc (q + (r + 7) / 8) = omega arith in
    let past : suc q * 8 + r ≡ length (bits_of 8 x) + (q * 8 + r) = omega (arith, length-bits_of 8 x) in
    rw (more, past, drop-append-add) (unused_at q r xs h)

pub unused_is : (count : ℕ) (p : List ℕ) → get_or p (count / 8) 0 % 2 ^ ((8 - count % 8) % 8) ≡ unused_of count p
unfolding unused_of
unused_is count p =
    let bits : count / 8 * 8 + count % 8 ≡ count = omega arith in
    let size : count / 8 + (count % 8 + 7) / 8 ≡ size_of count = omega arith in
    sym (rw (bits, size) at (unused_at (count / 8) (count % 8) p (omega arith)))

-- a one that is shifted within its byte
pub shl_one : (u : ℕ) → u < 8 → 1 * 2 ^ u % 2 ^ 8 ≡ 2 ^ u
shl_one u h = shl_exact 1 u 8 (lit< tt) (omega arith) ∙ one-mul (2 ^ u)

-- ---- equal bits, and unused ones that are zero, are equal bytes

bits-take : (n : ℕ) (p : List ℕ) → bits_of_bytes (take n p) ≡ take (n * 8) (bits_of_bytes p)
unfolding bits_of_bytes
bits-take zero p = refl
bits-take (suc n) [] = sym (take-nil (suc n * 8))
bits-take (suc n) (x ∷ xs) =
    let past : suc n * 8 ≡ length (bits_of 8 x) + n * 8 = omega (arith, length-bits_of 8 x) in
    rw (past, take-append-add) (ap (λ (l : List Bool). bits_of 8 x ++ l) (bits-take n xs))

-- the payload's bytes hold its bits
pub front_bits : (count : ℕ) (p : List ℕ) → take count (bits_of_bytes (take (size_of count) p)) ≡ take count (bits_of_bytes p)
front_bits count p = rw (bits-take (size_of count) p) (take-take count (size_of count * 8) (bits_of_bytes p) (omega arith))

octets_take : (n : ℕ) (p : List ℕ) → Octets p → Octets (take n p)
octets_take zero p h i = omega arith
octets_take (suc n) [] h i = h i
octets_take (suc n) (x ∷ xs) h zero = h 0
octets_take (suc n) (x ∷ xs) h (suc i) = octets_take n xs (λ j. h (suc j)) i

-- the bits of a payload's bytes: its own, and zeros
own_bits : (count : ℕ) (p : List ℕ) → size_of count ≤ length p → unused_of count p ≡ 0
    → bits_of_bytes (take (size_of count) p) ≡ take count (bits_of_bytes p) ++ replicate (8 * size_of count - count) false
unfolding unused_of
own_bits count p long zeros =
    let n : ℕ = size_of count in
    let l : List Bool = bits_of_bytes (take n p) in
    let free : length (drop count l) ≡ 8 * n - count = rw (length-drop, length-bits_of_bytes (take n p), length-take-le n p long) in
    let rest = sym (rw (free, zeros, bits_of-zero) at (bits_of-num_of (drop count l))) in
    sym (take-append-drop count l) ∙ ap₂ (λ (a b : List Bool). a ++ b) (front_bits count p) rest

pub same-payload : (count : ℕ) (p q : List ℕ) → Octets p → Octets q → size_of count ≤ length p → size_of count ≤ length q
    → unused_of count p ≡ 0 → unused_of count q ≡ 0 → take count (bits_of_bytes p) ≡ take count (bits_of_bytes q)
    → take (size_of count) p ≡ take (size_of count) q
same-payload count p q g h lp lq zp zq e =
    let n : ℕ = size_of count in
    let same = own_bits count p lp zp ∙ ap (λ (l : List Bool). l ++ replicate (8 * n - count) false) e ∙ sym (own_bits count q lq zq) in
    let size : length (take n p) ≡ length (take n q) = rw (length-take-le n p lp, length-take-le n q lq) in
    sym (bytes_bits (take n p) (octets_take n p g)) ∙ ap₂ bytes_of size same ∙ bytes_bits (take n q) (octets_take n q h)

-- ---- a count and a payload that are fine

pub record Fit (limit count : ℕ) (payload : List ℕ) : Type 0 where
  pub small : count ≤ limit
  pub long : size_of count ≤ length payload
  pub zeros : unused_of count payload ≡ 0

pub fit_of : (limit count : ℕ) (payload : List ℕ) → check_of limit count payload ≡ Ok tt → Fit limit count payload
unfolding check_of
fit_of limit count payload e = subst P e told
  where
    P : Result (Unit {0}) Refusal → Type 0
    P r = OnOk r (Fit limit count payload)

    told : P (check_of limit count payload)
    told =
        cond_both (ltb limit count) _ _ P (λ _. tt)
        (λ c. cond_both (ltb (length payload) (size_of count)) _ _ P (λ _. tt)
        (λ l. cond_both (eqb (unused_of count payload) 0) _ _ P
        (λ z. record { small = ltb-false _ _ c; long = ltb-false _ _ l; zeros = eqb-true _ _ z }) (λ _. tt)))

pub fine_of : (limit count : ℕ) (payload : List ℕ) → Fit limit count payload → check_of limit count payload ≡ Ok tt
unfolding check_of
fine_of limit count payload f = simp (le-ltb _ _ f.small, le-ltb _ _ f.long, f.zeros)

-- only the payload's own bytes are looked at
pub fit_front : (limit count : ℕ) (p rest : List ℕ) → Fit limit count p → Fit limit count (take (size_of count) p ++ rest)
unfolding unused_of
fit_front limit count p rest f =
    let own : List ℕ = take (size_of count) p in
    let size : length own ≡ size_of count = length-take-le (size_of count) p f.long in
    record {
      small = f.small;
      long = rw length-append (omega arith);
      zeros = rw (take_at own rest (size_of count) size) f.zeros;
    }
