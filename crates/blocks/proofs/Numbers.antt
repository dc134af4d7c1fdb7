-- A block's parts: a number's eight bytes, and what is filled by parts in turn. Assumes nothing.
use mathlib.Core.Path.{◌≡◌, refl, sym, ap, ap₂, ◌∙◌}
use mathlib.Core.Bool.{Bool}
use mathlib.Core.List.{List, [], ◌∷◌, ◌++◌, append_assoc, append-nil}
use Prim.Native.Nat.{ℕ, zero, suc, ◌+◌, ◌*◌, ◌≤◌}
use native.Mathlib.Nat.{zero-add}
use native.Mathlib.Omega.{arith}
use lib.ListN.{length, get_or, take, drop, length-append}
use lib.Seq.{drop_at, drop-drop, drop-nil, drop-length, sets, sets-eq}
use borrow.Rule.Slice.PartMut.{put_mid}
use mir.Syntax.{w64}
use mir.Val.{bool_byte}
use Rattle.std.specs.Int.{to_be_bytes, from_be_bytes}
use Rattle.std.proofs.lemmas.Nat.{be_bytes_8}
use Rattle.bits.specs.Bits.{bits_of, num_of}
use Rattle.bits.specs.Bytes.{bits_of_bytes, bytes_of, padded, field_of}
use Rattle.bits.proofs.Numbers.{length-bits_of, num_of-bits, num_of-append, num_of-zeros, num_of-lt}
use Rattle.bits.proofs.Bytes.{Octets, length-padded, padded-add, padded_at, padded-nil, field-none, field_back, length-bits_of_bytes, length-bytes_of, bits-append, bits_back}
use Rattle.bits.proofs.Words.{byte-num}
use Rattle.bits.proofs.Lists.{sets-append}
use Rattle.grain.specs.declared.Session.{Session}
use Rattle.faces.specs.declared.Face.{Face}
use Rattle.faces.specs.declared.ReaderFace.{ReaderFace}
use Rattle.faces.specs.TagFaces.{name_number}
use Rattle.faces.specs.ReaderFaces.{stage_number}
use Rattle.blocks.specs.Blocks.{number_at, number_bytes, Word, session_bytes, tag_bytes, tag_head, reader_bytes, reader_head}

-- a byte is the field of its eight bits
byte-field : (m : List ℕ) (i : ℕ) → Octets m → num_of (padded 8 (drop (8 * i) (bits_of_bytes m))) ≡ get_or m i 0
unfolding bits_of_bytes
byte-field [] i h = rw (drop-nil (8 * i), padded-nil 8) (num_of-zeros 8)
byte-field (x ∷ m) zero h = ap num_of (padded_at (bits_of 8 x) (bits_of_bytes m) 8 (length-bits_of 8 x)) ∙ num_of-bits 8 (h 0).fits
byte-field (x ∷ m) (suc i) h =
    let e : 8 * suc i ≡ 8 + 8 * i = omega arith in
    rw (e, ← drop-drop (8 * i) 8 (bits_of 8 x ++ bits_of_bytes m), drop_at (bits_of 8 x) (bits_of_bytes m) 8 (length-bits_of 8 x)) (byte-field m i (λ j. h (suc j)))

-- a number with one byte more
pub field-byte : (m : List ℕ) (at k : ℕ) → Octets m → field_of (8 * at) (8 * (k + 1)) (bits_of_bytes m) ≡ field_of (8 * at) (8 * k) (bits_of_bytes m) * 256 + get_or m (at + k) 0
unfolding field_of
field-byte m at k h =
    let l : List Bool = drop (8 * at) (bits_of_bytes m) in
    let e : 8 * (k + 1) ≡ 8 * k + 8 = omega arith in
    let f : 8 * at + 8 * k ≡ 8 * (at + k) = omega arith in
    rw (e, padded-add (8 * k) 8 l, num_of-append, length-padded, drop-drop (8 * k) (8 * at) (bits_of_bytes m), f, byte-field m (at + k) h)

-- the eight bytes from a place on are the number there, the highest first
pub number_read : (m ys : List ℕ) (at : ℕ) → Octets m
    → get_or ys 0 0 ≡ get_or m (at + 0) 0 → get_or ys 1 0 ≡ get_or m (at + 1) 0 → get_or ys 2 0 ≡ get_or m (at + 2) 0 → get_or ys 3 0 ≡ get_or m (at + 3) 0
    → get_or ys 4 0 ≡ get_or m (at + 4) 0 → get_or ys 5 0 ≡ get_or m (at + 5) 0 → get_or ys 6 0 ≡ get_or m (at + 6) 0 → get_or ys 7 0 ≡ get_or m (at + 7) 0
    → from_be_bytes w64 ys ≡ number_at at m
unfolding number_at
number_read m ys at h a b c d e f g i =
    let begun : field_of (8 * at) 0 (bits_of_bytes m) ≡ 0 = field-none (8 * at) (bits_of_bytes m) in
    omega (
      arith,
      begun,
      field-byte m at 0 h,
      field-byte m at 1 h,
      field-byte m at 2 h,
      field-byte m at 3 h,
      field-byte m at 4 h,
      field-byte m at 5 h,
      field-byte m at 6 h,
      field-byte m at 7 h,
    )

pub length-number : (n : ℕ) → length (number_bytes n) ≡ 8
unfolding number_bytes
length-number n = length-bytes_of 8 (bits_of 64 n)

-- a number is read where it was put, whatever stands before and after it
pub number_back : (p q : List ℕ) (at n : ℕ) → length p ≡ at → Word n → number_at at (p ++ (number_bytes n ++ q)) ≡ n
unfolding number_at number_bytes
number_back p q at n e h =
    rw (bits-append p (bytes_of 8 (bits_of 64 n) ++ q), bits-append (bytes_of 8 (bits_of 64 n)) q, bits_back 8 (bits_of 64 n) (length-bits_of 64 n))
    (field_back (bits_of_bytes p) (bits_of_bytes q) (8 * at) 64 n (length-bits_of_bytes p ∙ ap (λ (k : ℕ). 8 * k) e) h)

-- what is filled with bits is bytes
octets_of : (n : ℕ) (l : List Bool) → Octets (bytes_of n l)
unfolding bytes_of
octets_of zero l i = record { fits = omega arith }
octets_of (suc n) l zero = record { fits = rw (length-padded 8 l) at (num_of-lt (padded 8 l)) }
octets_of (suc n) l (suc i) = octets_of n (drop 8 l) i

-- so its bytes are those that Rust reads
bytes_read : (n : ℕ) → Word n → from_be_bytes w64 (number_bytes n) ≡ n
unfolding number_bytes
bytes_read n h =
    let b : List ℕ = number_bytes n in
    number_read b b 0 (octets_of 8 (bits_of 64 n)) refl refl refl refl refl refl refl refl
    ∙ ap (number_at 0) (sym (append-nil b)) ∙ number_back [] [] 0 n refl h

-- and those that it puts
pub number_put : (n : ℕ) → Word n → to_be_bytes w64 n ≡ number_bytes n
unfolding number_bytes
number_put n h = be_bytes_8 (number_bytes n) n (length-number n) (λ i. (octets_of 8 (bits_of 64 n) i).fits) (sym (bytes_read n h))

-- a run of stores, as it is copied into a part of a list
pub run_copied : (l vs : List ℕ) (at k : ℕ) → length vs ≡ k → at + k ≤ length l → put_mid at k l vs ≡ sets l at vs
run_copied l vs at k e h =
    let fits : at + length vs ≤ length l = omega (arith, e) in
    rw (sets-eq vs l at fits, e, drop-drop k at l) (sym (append_assoc (take at l) vs (drop (at + k) l)))

-- a run that fills a list is the list
sets-all : (l p : List ℕ) → length l ≡ length p → sets l 0 p ≡ p
sets-all l p e =
    let k : 0 + length p ≡ length l = zero-add (length p) ∙ sym e in
    sets-eq p l 0 (omega (arith, e)) ∙ ap (λ (t : List ℕ). p ++ t) (ap (λ (i : ℕ). drop i l) k ∙ drop-length l) ∙ append-nil p

pub length-session : (x : Session) → length (session_bytes x) ≡ 48
unfolding session_bytes
length-session x = simp (length-append, length-number)

-- ---- a block is filled by its parts in turn

-- the head, and a session's six numbers, one after the other
pub front_put : (l h : List ℕ) (a b c d e f : ℕ) → length h ≡ 8 → 8 ≤ length l
    → sets (sets (sets (sets (sets (sets (h ++ drop 8 l) 8 (number_bytes a)) 16 (number_bytes b)) 24 (number_bytes c)) 32 (number_bytes d)) 40 (number_bytes e)) 48 (number_bytes f)
    ≡ sets l 0 (h ++ (number_bytes a ++ (number_bytes b ++ (number_bytes c ++ (number_bytes d ++ (number_bytes e ++ number_bytes f))))))
front_put l h a b c d e f k s = rw (run_copied l h 0 8 k s) (simp (sets-append, length-number, k))

pub tag_put : (l x : List ℕ) (f : Face) (s : Session) (n : ℕ) → length l ≡ tag_bytes → n ≡ name_number f.name
    → x ≡ sets l 0 (n ∷ bool_byte f.init ∷ bool_byte f.ta ∷ bool_byte f.ia ∷ bool_byte f.error ∷ f.keyid ∷ f.options ∷ f.width ∷ session_bytes s)
    → x ≡ tag_head f ++ session_bytes s
tag_put l x f s n size named front =
    let h : x ≡ sets l 0 (tag_head f ++ session_bytes s) = rw (named, byte-num, byte-num, byte-num, byte-num) at front in
    h ∙ sets-all l (tag_head f ++ session_bytes s) (rw (length-session s) size)

pub reader_put : (l x y : List ℕ) (f : ReaderFace) (s : Session) (n : ℕ) → length l ≡ reader_bytes → n ≡ stage_number f.stage
    → x ≡ sets l 0 (n ∷ f.method ∷ f.options ∷ f.keyid ∷ f.width ∷ 0 ∷ 0 ∷ 0 ∷ session_bytes s) → y ≡ sets x 56 (number_bytes f.number)
    → y ≡ reader_head f ++ (session_bytes s ++ number_bytes f.number)
reader_put l x y f s n size named front last =
    let p : List ℕ = reader_head f ++ session_bytes s in
    let m : List ℕ = number_bytes f.number in
    let k : length p ≡ 56 = rw (length-session s) in
    let h : x ≡ sets l 0 p = rw named at front in
    let w : length (p ++ m) ≡ 64 = length-append p m ∙ ap₂ (λ (i j : ℕ). i + j) k (length-number f.number) in
    last ∙ ap₂ (λ (t : List ℕ) (i : ℕ). sets t i m) h (sym k ∙ sym (zero-add (length p))) ∙ sym (sets-append l 0 p m)
    ∙ sets-all l (p ++ m) (size ∙ sym w)
