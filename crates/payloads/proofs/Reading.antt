-- Payloads delivered in any slice that begins with their bits: their fields are what was put there. Assumes nothing.
use mathlib.Core.Path.{◌≡◌, refl, sym, ap, ◌∙◌}
use mathlib.Core.Bool.{Bool, false}
use mathlib.Core.List.{List, ◌++◌}
use Prim.Native.Nat.{ℕ, ◌+◌, ◌^◌, ◌≤◌, ◌<◌}
use native.Mathlib.Nat.{add-zero}
use native.Mathlib.Omega.{arith}
use lib.ListN.{length, take, replicate}
use lib.Seq.{take_at, take-take}
use Rattle.bits.specs.Bits.{bits_of}
use Rattle.bits.specs.Bytes.{field_of}
use Rattle.bits.proofs.Numbers.{bits_of-zero}
use Rattle.bits.proofs.Fields.{field-of, field_skip, field_past, field_first, field-whole}
use Rattle.payloads.specs.Payloads.{step_zero, step_one, tag_proof, tag_challenge, status, mutual_proof, message, method_in, step_in, options_in, key_id_in, features_in, tag_number_in, tag_keystream_in, status_in, mutual_keystream_in}

-- ---- the commands' fields, step 0 and step 1 alike: method, step, options, KeyID, and the last field of v bits

module _ (m s o k v n : ℕ) where
  abbrev headed : List Bool
  headed = bits_of 2 m ++ (bits_of 2 s ++ (bits_of 4 o ++ (bits_of 8 k ++ bits_of v n)))

  pub record Fields (l : List Bool) : Type 0 where
    pub method : method_in l ≡ m
    pub step : step_in l ≡ s
    pub options : options_in l ≡ o
    pub keyid : key_id_in l ≡ k
    pub last : field_of 16 v l ≡ n

  headed_method : m < 4 → method_in headed ≡ m
  headed_method h = field_first 2 m _ h

  headed_step : s < 4 → step_in headed ≡ s
  headed_step h = field_past 2 m 0 2 _ ∙ field_first 2 s _ h

  headed_options : o < 16 → options_in headed ≡ o
  headed_options h = field_past 2 m 2 4 _ ∙ field_past 2 s 0 4 _ ∙ field_first 4 o _ h

  headed_key : k < 256 → key_id_in headed ≡ k
  headed_key h = field_past 2 m 6 8 _ ∙ field_past 2 s 4 8 _ ∙ field_past 4 o 0 8 _ ∙ field_first 8 k _ h

  headed_last : n < 2 ^ v → field_of 16 v headed ≡ n
  headed_last h = field_past 2 m 14 v _ ∙ field_past 2 s 12 v _ ∙ field_past 4 o 8 v _ ∙ field_past 8 k 0 v _ ∙ field-whole v n h

  headed_fields : (l : List Bool) → take (16 + v) l ≡ headed → m < 4 → s < 4 → o < 16 → k < 256 → n < 2 ^ v → Fields l
  headed_fields l e a b c d f = record {
    method = field-of 0 2 (16 + v) l _ e (omega arith) ∙ headed_method a;
    step = field-of 2 2 (16 + v) l _ e (omega arith) ∙ headed_step b;
    options = field-of 4 4 (16 + v) l _ e (omega arith) ∙ headed_options c;
    keyid = field-of 8 8 (16 + v) l _ e (omega arith) ∙ headed_key d;
    last = field-of 16 v (16 + v) l _ e (omega arith) ∙ headed_last f;
  }

pub zero_fields : (m o k n : ℕ) (l : List Bool) → take 64 l ≡ step_zero m o k n → m < 3 → o < 4 → k < 256 → n < 2 ^ 48 → Fields m 0 o k 48 n l
unfolding step_zero
zero_fields m o k n l e a c d f = headed_fields m 0 o k 48 n l e (omega arith) (omega arith) (omega arith) d f

pub one_fields : (m o k n : ℕ) (l : List Bool) → take 80 l ≡ step_one m o k n → m < 3 → o < 4 → k < 256 → n < 2 ^ 64 → Fields m 1 o k 64 n l
unfolding step_one
one_fields m o k n l e a c d f = headed_fields m 1 o k 64 n l e (omega arith) (omega arith) (omega arith) d f

-- ---- the responses' fields

pub proof_features : (f n k : ℕ) → f < 256 → features_in (tag_proof f n k) ≡ f
unfolding tag_proof
proof_features f n k h = field_first 8 f _ h

pub proof_number : (f n k : ℕ) → n < 2 ^ 48 → tag_number_in (tag_proof f n k) ≡ n
unfolding tag_proof
proof_number f n k h = field_past 8 f 0 48 _ ∙ field_first 48 n _ h

pub proof_keystream : (f n k : ℕ) → k < 2 ^ 64 → tag_keystream_in (tag_proof f n k) ≡ k
unfolding tag_proof
proof_keystream f n k h = field_past 8 f 48 64 _ ∙ field_past 48 n 0 64 _ ∙ field-whole 64 k h

pub challenge-features : (f n : ℕ) → f < 256 → features_in (tag_challenge f n) ≡ f
unfolding tag_challenge
challenge-features f n h = field_first 8 f _ h

pub challenge-number : (f n : ℕ) → n < 2 ^ 48 → tag_number_in (tag_challenge f n) ≡ n
unfolding tag_challenge
challenge-number f n h = field_past 8 f 0 48 _ ∙ field-whole 48 n h

pub status-bit : status_in (status 0) ≡ 0
unfolding status
status-bit = field-whole 1 0 (omega arith)

pub mutual_status : (k : ℕ) → status_in (mutual_proof k) ≡ 0
unfolding mutual_proof
mutual_status k = field_first 1 0 _ (omega arith)

pub mutual_keystream : (k : ℕ) → k < 2 ^ 64 → mutual_keystream_in (mutual_proof k) ≡ k
unfolding mutual_proof
mutual_keystream k h = field_past 1 0 0 64 _ ∙ field-whole 64 k h

-- ---- messages

module _ (body : List Bool) (n w mac : ℕ) (e : length body ≡ n) where
  zeros_are : replicate 8 false ≡ bits_of 8 0
  zeros_are = sym (bits_of-zero 8)

  pub message-zeros : field_of n 8 (message body w mac) ≡ 0
  unfolding message
  message-zeros =
      ap (λ (k : ℕ). field_of k 8 (body ++ (replicate 8 false ++ bits_of w mac))) (sym (add-zero n))
      ∙ field_skip n 0 8 body _ e ∙ ap (λ (z : List Bool). field_of 0 8 (z ++ bits_of w mac)) zeros_are ∙ field_first 8 0 _ (omega arith)

  pub message-mac : mac < 2 ^ w → field_of (n + 8) w (message body w mac) ≡ mac
  unfolding message
  message-mac h = field_skip n 8 w body _ e ∙ field_skip 8 0 w (replicate 8 false) _ refl ∙ field-whole w mac h

  pub message_body : (l : List Bool) (c : ℕ) → n ≤ c → take c l ≡ message body w mac → take n l ≡ body
  unfolding message
  message_body l c h d = sym (take-take n c l h) ∙ ap (take n) d ∙ take_at body _ n e
