-- The layouts: what is said field by field, and how many bits it has. Assumes nothing.
use mathlib.Core.Path.{◌≡◌, refl, sym, ap, ap₂, ◌∙◌}
use mathlib.Core.Bool.{Bool, false}
use mathlib.Core.List.{List, [], ◌∷◌, ◌++◌, append_assoc, append-nil}
use Prim.Native.Nat.{ℕ, zero, suc, ◌+◌, ◌*◌, ◌%◌, ◌≤◌, ◌<◌}
use native.Mathlib.Nat.{mod-lt}
use native.Mathlib.Omega.{arith}
use lib.ListN.{length, take, get_or, replicate, length-append}
use lib.Seq.{sets}
use Rattle.std.specs.List.{All}
use Rattle.std.proofs.lemmas.List.{take_more}
use Rattle.std.proofs.lemmas.Grind.{flat_map-append}
use Rattle.bits.specs.Bits.{bits_of}
use Rattle.bits.specs.Bytes.{bits_of_bytes, bytes_of, word_bits}
use Rattle.bits.specs.Area.{area_bytes, shown}
use Rattle.bits.proofs.Numbers.{length-bits_of, bits_of-join, bits_of-mod}
use Rattle.bits.proofs.Bytes.{Octets}
use Rattle.bits.proofs.Area.{shown-zeros}
use Rattle.bits.proofs.Replies.{field_put}
use Rattle.payloads.specs.declared.Part.{Part}
use Rattle.payloads.specs.declared.Payload.{Payload}
use Rattle.payloads.specs.Parts.{bits_of_parts, Says}
use Rattle.payloads.specs.Payloads.{layout_of, step_zero, step_one, tag_proof, tag_challenge, status, mutual_proof, message}

none : (n : ℕ) → bits_of 0 n ≡ []
unfolding bits_of
none n = refl

-- two fields, where the third has no bits
two : (a x b y z : ℕ) → bits_of a x ++ (bits_of b y ++ bits_of 0 z) ≡ bits_of a x ++ bits_of b y
two a x b y z = ap (λ (l : List Bool). bits_of a x ++ (bits_of b y ++ l)) (none z) ∙ ap (λ (l : List Bool). bits_of a x ++ l) (append-nil (bits_of b y))

pub said-challenge : (f n z : ℕ) → bits_of 8 f ++ (bits_of 48 n ++ bits_of 0 z) ≡ tag_challenge f n
unfolding tag_challenge
said-challenge f n z = two 8 f 48 n z

pub said_mutual : (k z : ℕ) → bits_of 1 0 ++ (bits_of 64 k ++ bits_of 0 z) ≡ mutual_proof k
unfolding mutual_proof
said_mutual k z = two 1 0 64 k z

pub said-status : (s y z : ℕ) → bits_of 1 s ++ (bits_of 0 y ++ bits_of 0 z) ≡ status s
unfolding status
said-status s y z = two 1 s 0 y z ∙ ap (λ (l : List Bool). bits_of 1 s ++ l) (none y) ∙ append-nil (bits_of 1 s)

pub said_nothing : (x y z : ℕ) → bits_of 0 x ++ (bits_of 0 y ++ bits_of 0 z) ≡ []
unfolding bits_of
said_nothing x y z = refl

pub said_proof : (f n k : ℕ) → bits_of 8 f ++ (bits_of 48 n ++ bits_of 64 k) ≡ tag_proof f n k
unfolding tag_proof
said_proof f n k = refl

pub length_proof : (f n k : ℕ) → length (tag_proof f n k) ≡ 120
unfolding tag_proof
length_proof f n k = simp (length-append, length-bits_of)

pub length-challenge : (f n : ℕ) → length (tag_challenge f n) ≡ 56
unfolding tag_challenge
length-challenge f n = simp (length-append, length-bits_of)

pub length-status : (s : ℕ) → length (status s) ≡ 1
unfolding status
length-status s = length-bits_of 1 s

pub length_mutual : (k : ℕ) → length (mutual_proof k) ≡ 65
unfolding mutual_proof
length_mutual k = simp (length-append, length-bits_of)

-- ---- the reader's commands, whose first byte is method, step and options

-- `(m * 4 + s) * 16 + o % 16`
pub head-bits : (m s o : ℕ) → s < 4 → bits_of 8 ((m * 4 + s) * 16 + o % 16) ≡ bits_of 2 m ++ (bits_of 2 s ++ bits_of 4 o)
head-bits m s o h =
    bits_of-join 4 4 (m * 4 + s) (mod-lt o (omega arith)) ∙ ap₂ (λ (k l : List Bool). k ++ l) (bits_of-join 2 2 m h) (bits_of-mod 4 0 o) ∙ append_assoc (bits_of 2 m) (bits_of 2 s) (bits_of 4 o)

regroup : (a b c r : List Bool) → (a ++ (b ++ c)) ++ r ≡ a ++ (b ++ (c ++ r))
regroup a b c r = append_assoc a (b ++ c) r ∙ ap (λ (l : List Bool). a ++ l) (append_assoc b c r)

pub said-zero : (h m o k n : ℕ) → bits_of 8 h ≡ bits_of 2 m ++ (bits_of 2 0 ++ bits_of 4 o) → bits_of 8 h ++ (bits_of 8 k ++ bits_of 48 n) ≡ step_zero m o k n
unfolding step_zero
said-zero h m o k n e = ap (λ (l : List Bool). l ++ (bits_of 8 k ++ bits_of 48 n)) e ∙ regroup (bits_of 2 m) (bits_of 2 0) (bits_of 4 o) (bits_of 8 k ++ bits_of 48 n)

pub said_one : (h m o k n : ℕ) → bits_of 8 h ≡ bits_of 2 m ++ (bits_of 2 1 ++ bits_of 4 o) → bits_of 8 h ++ (bits_of 8 k ++ bits_of 64 n) ≡ step_one m o k n
unfolding step_one
said_one h m o k n e = ap (λ (l : List Bool). l ++ (bits_of 8 k ++ bits_of 64 n)) e ∙ regroup (bits_of 2 m) (bits_of 2 1) (bits_of 4 o) (bits_of 8 k ++ bits_of 64 n)

pub length-zero : (m o k n : ℕ) → length (step_zero m o k n) ≡ 64
unfolding step_zero
length-zero m o k n = simp (length-append, length-bits_of)

pub length_one : (m o k n : ℕ) → length (step_one m o k n) ≡ 80
unfolding step_one
length_one m o k n = simp (length-append, length-bits_of)

-- ---- messages

pub length-message : (body : List Bool) (w mac : ℕ) → length (message body w mac) ≡ length body + 8 + w
unfolding message
length-message body w mac = simp (length-append, length-bits_of) (omega arith)

-- a message's MAC, put eight zero bits behind its body
pub message-put : (body : List Bool) (at w mac : ℕ) (xs ys zs : List ℕ) → Octets xs → length body ≡ at → w ≤ 64 → at + 8 + w ≤ 8 * area_bytes
    → ys ≡ shown body xs → zs ≡ bytes_of (length ys) (sets (bits_of_bytes ys) (at + 8) (bits_of (word_bits w) mac)) → zs ≡ shown (message body w mac) xs
unfolding message
message-put body at w mac xs ys zs o e s h p q =
    let z : List Bool = replicate 8 false in
    let f : length (body ++ z) ≡ at + 8 = length-append body z ∙ ap (λ (k : ℕ). k + 8) e in
    field_put (body ++ z) (at + 8) w mac xs ys zs o f s h (p ∙ sym (shown-zeros body 8 xs o)) q
    ∙ ap (λ (l : List Bool). shown l xs) (append_assoc body z (bits_of w mac))

-- ---- a payload as its fields

-- three fields that are written one behind the other say a payload
pub says : (p : Payload) (f g h : Part) → bits_of f.bits f.value ++ (bits_of g.bits g.value ++ bits_of h.bits h.value) ≡ layout_of p
    → f.bits ≤ 64 → g.bits ≤ 64 → h.bits ≤ 64 → Says p (f ∷ g ∷ h ∷ [])
says p f g h e a b c = record {
  bits = ap (λ (l : List Bool). bits_of f.bits f.value ++ (bits_of g.bits g.value ++ l)) (append-nil (bits_of h.bits h.value)) ∙ e;
  words = words;
}
  where
    words : All (λ (x : Part). x.bits ≤ 64) (f ∷ g ∷ h ∷ [])
    words zero d l = a
    words (suc zero) d l = b
    words (suc (suc zero)) d l = c
    words (suc (suc (suc k))) d l = absurd (omega arith)

-- one field more
pub parts_more : (fs : List Part) (i : ℕ) (d : Part) → i < length fs
    → bits_of_parts (take (i + 1) fs) ≡ bits_of_parts (take i fs) ++ bits_of (get_or fs i d).bits (get_or fs i d).value
parts_more fs i d h =
    let f : Part → List Bool = λ x. bits_of x.bits x.value in
    rw (take_more fs i d h, flat_map-append) (ap (λ (l : List Bool). bits_of_parts (take i fs) ++ l) (append-nil (f (get_or fs i d))))
