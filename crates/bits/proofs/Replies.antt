-- The laws of replies: fields that are put one behind the other, what is worked on where it stands, and what an area shows. Assumes
-- nothing.
use mathlib.Core.Path.{◌≡◌, refl, sym, ap, ap₂, ◌∙◌}
use mathlib.Core.Bool.{Bool}
use mathlib.Core.List.{List, [], ◌∷◌, ◌++◌, append_assoc, append-nil}
use Prim.Native.Nat.{ℕ, zero, suc, ◌+◌, ◌-◌, ◌*◌, ◌≤◌, min}
use native.Mathlib.Decide.{dec_le}
use native.Mathlib.Omega.{arith}
use lib.ListN.{length, take, drop, replicate, length-take, take-append-drop, drop_of_length-le}
use lib.Seq.{sets, take_at, take_all, drop_at}
use Rattle.bits.specs.Bits.{bits_of, num_of}
use Rattle.bits.specs.Bytes.{bits_of_bytes, bytes_of, padded, word_bits}
use Rattle.bits.specs.Area.{area_bytes, area_of, shown}
use Rattle.bits.proofs.Numbers.{length-bits_of}
use Rattle.bits.proofs.Bytes.{Octets, length-bits_of_bytes, length-bytes_of, padded_front, bytes_bits}
use Rattle.bits.proofs.Area.{beyond, length-shown, bits-shown, shown-bits, shown-put}

-- a field of a word at most, put behind what is shown
pub field_put : (l : List Bool) (at w n : ℕ) (xs ys zs : List ℕ) → Octets xs → length l ≡ at → w ≤ 64 → at + w ≤ 8 * area_bytes
    → ys ≡ shown l xs → zs ≡ bytes_of (length ys) (sets (bits_of_bytes ys) at (bits_of (word_bits w) n)) → zs ≡ shown (l ++ bits_of w n) xs
field_put l at w n xs ys zs o e s h p q =
    let k : word_bits w ≡ w = omega arith in
    q ∙ rw (p, k, ← e) (shown-put l (bits_of w n) xs o (rw (e, length-bits_of w n) h))

-- a list's first bits are taken out and put back
pub put_back : (n : ℕ) (xs : List ℕ) → Octets xs → bytes_of (length xs) (take n (bits_of_bytes xs) ++ drop n (bits_of_bytes xs)) ≡ xs
put_back n xs o = rw (take-append-drop n (bits_of_bytes xs)) (bytes_bits xs o)

-- a count that does not go past the slice
pub length_first : (n : ℕ) (xs : List ℕ) → n ≤ 8 * length xs → length (take n (bits_of_bytes xs)) ≡ n
length_first n xs h = simp (length-take, length-bits_of_bytes) (omega arith)

-- ---- what stands behind the n bits that a reply shows

abbrev rest : ℕ → List ℕ → List Bool
rest n xs = padded (8 * area_of xs - n) [] ++ bits_of_bytes (beyond xs)

front : (l : List Bool) (n : ℕ) (xs : List ℕ) → length l ≡ n → n ≤ 8 * area_of xs → padded (8 * area_of xs) l ++ bits_of_bytes (beyond xs) ≡ l ++ rest n xs
front l n xs e h =
    let k : ℕ = 8 * area_of xs - n in
    let g : 8 * area_of xs ≡ length l + k = omega arith in
    ap (λ (m : List Bool). m ++ bits_of_bytes (beyond xs)) (ap₂ padded g (sym (append-nil l)) ∙ padded_front l [] k)
    ∙ append_assoc l (padded k []) (bits_of_bytes (beyond xs))

-- a reply shows ms; its first n bits, which are ms, are worked on where they stand, and give r
pub shown-worked : {A : Type 0} (ms : List Bool) (n : ℕ) (xs ys zs : List ℕ) (r : A) (after : List Bool → A) (work : List Bool → List Bool)
    → Octets xs → length ms ≡ n → n ≤ 8 * area_of xs → length (work ms) ≡ n → ys ≡ shown ms xs
    → (r ≡ after (take n (bits_of_bytes ys))) × (zs ≡ bytes_of (length ys) (work (take n (bits_of_bytes ys)) ++ drop n (bits_of_bytes ys)))
    → (r ≡ after ms) × (zs ≡ shown (work ms) xs)
shown-worked ms n xs ys zs r after work o e h f s q =
    let b : bits_of_bytes ys ≡ ms ++ rest n xs = ap bits_of_bytes s ∙ bits-shown ms xs ∙ front ms n xs e h in
    let t : take n (bits_of_bytes ys) ≡ ms = rw b (take_at ms (rest n xs) n e) in
    let d : drop n (bits_of_bytes ys) ≡ rest n xs = rw b (drop_at ms (rest n xs) n e) in
    (rw t at q.0, q.1 ∙ rw (t, d, s, length-shown ms xs, ← front (work ms) n xs f h) (shown-bits (work ms) xs o))

-- ---- what an area shows

-- the reply itself, where it fits
pub take-shown : (l : List Bool) (xs : List ℕ) → length l ≤ 8 * area_of xs → take (length l) (bits_of_bytes (shown l xs)) ≡ l
take-shown l xs h = ap (take (length l)) (bits-shown l xs ∙ front l (length l) xs refl h) ∙ take_at l _ (length l) refl

area-shown : (l : List Bool) (b : List ℕ) → take area_bytes (shown l b) ≡ bytes_of (area_of b) l
unfolding shown
area-shown l b = elim (dec_le 265 (length b)) [ yes h ↦ long (omega arith) | no h ↦ short (omega arith) ]
  where
    long : area_of b ≡ 265 → take 265 (bytes_of (area_of b) l ++ drop (area_of b) b) ≡ bytes_of (area_of b) l
    long e = take_at (bytes_of (area_of b) l) (drop (area_of b) b) 265 (length-bytes_of (area_of b) l ∙ e)

    short : length b ≤ area_of b → take 265 (bytes_of (area_of b) l ++ drop (area_of b) b) ≡ bytes_of (area_of b) l
    short h = rw (drop_of_length-le b h, append-nil) (take_all 265 (bytes_of (area_of b) l) (rw length-bytes_of (omega arith)))

-- no bits: the area is zeros, and the bytes beyond it are as found
zero-bytes : (n : ℕ) → bytes_of n [] ≡ replicate n 0
unfolding bytes_of padded num_of
zero-bytes zero = refl
zero-bytes (suc n) = ap (λ (l : List ℕ). 0 ∷ l) (zero-bytes n)

pub shown-none : (b : List ℕ) → area_bytes ≤ length b → shown [] b ≡ replicate area_bytes 0 ++ drop area_bytes b
unfolding shown
shown-none b h =
    let e : area_of b ≡ area_bytes = omega arith in
    rw (e, zero-bytes)

-- of the buffer it depends on the length alone
pub area_same : (l : List Bool) (b e : List ℕ) → length b ≡ length e → take area_bytes (shown l b) ≡ take area_bytes (shown l e)
area_same l b e h = area-shown l b ∙ ap (λ (n : ℕ). bytes_of (min n area_bytes) l) h ∙ sym (area-shown l e)
