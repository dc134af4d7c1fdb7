-- The records, as the code goes over them; what is found; what depends on the KeyIDs alone. Assumes nothing.
use mathlib.Core.Path.{◌≡◌, refl, sym, ap, ◌∙◌}
use mathlib.Core.Bool.{Bool, true, false, cond, and-false}
use mathlib.Core.List.{List, [], ◌∷◌, map}
use Prim.Native.Nat.{ℕ, zero, suc, ◌+◌, ◌*◌, ◌<◌}
use native.Mathlib.Nat.{suc-add}
use native.Mathlib.Omega.{arith}
use native.Mathlib.Decide.{dec_le}
use denote.Ref.{Bor}
use lib.Dec.{ltb, eqb}
use lib.ListN.{length, get_or, take, drop, length-take, length-drop}
use lib.Seq.{take-take, drop-drop}
use borrow.Author.Tests.{ltb-true, lt-ltb, le-ltb}
use Rattle.std.specs.List.{find, AllAdjacentBelow, IsAllAdjacentAnswer}
use Rattle.std.specs.Prelude.{Option, Some, None, is_some, option_map, unwrap_or}
use Rattle.std.specs.Option.{option_copied}
use Rattle.std.specs.Simd.{first_chunks}
use Rattle.book.specs.Book.{records_of, key_ids, ids_of, rising, sound_of, place_in, known_of, key_of, found_of}

-- ---- the records, as the code goes over them

-- whether a record stands under a KeyID
abbrev pub under : ℕ → List ℕ → Bool
under id r = eqb (get_or r 0 0) id

first_byte : (b : List ℕ) → get_or (take 17 b) 0 0 ≡ get_or b 0 0
first_byte [] = refl
first_byte (x ∷ b) = refl

key_part : (b : List ℕ) → take 16 (drop 1 (take 17 b)) ≡ take 16 (drop 1 b)
key_part [] = refl
key_part (x ∷ b) = take-take 16 16 b (omega arith)

module _ (id : ℕ) where
  -- the first record under a KeyID has the key that stands at the KeyID's place
  found_among : (n : ℕ) (b : List ℕ)
      → option_map (λ r. take 16 (drop 1 r)) (find (under id) (first_chunks 17 n b))
      ≡ cond (ltb (place_in id (key_ids n b)) n) (Some (take 16 (drop (17 * place_in id (key_ids n b) + 1) b))) None
  unfolding key_ids place_in
  found_among zero b = refl
  found_among (suc n) b = rw (first_byte b) (by (eqb (get_or b 0 0) id) _ (found_among n (drop 17 b)))
    where
      p : ℕ
      p = place_in id (key_ids n (drop 17 b))

      below : ltb p n ≡ ltb (suc p) (suc n)
      below = elim (dec_le n p) [ yes h ↦ le-ltb p n h ∙ sym (le-ltb (suc p) (suc n) (omega arith)) | no h ↦ lt-ltb p n (omega arith) ∙ sym (lt-ltb (suc p) (suc n) (omega arith)) ]

      next : 17 + (17 * p + 1) ≡ 17 * suc p + 1
      next = omega arith

      by : (t : Bool) (o : Option (List ℕ)) → option_map (λ r. take 16 (drop 1 r)) o ≡ cond (ltb p n) (Some (take 16 (drop (17 * p + 1) (drop 17 b)))) None
          → option_map (λ r. take 16 (drop 1 r)) (cond t (Some (take 17 b)) o)
          ≡ cond (ltb (cond t 0 (suc p)) (suc n)) (Some (take 16 (drop (17 * cond t 0 (suc p) + 1) b))) None
      by true o e = rw (lt-ltb 0 (suc n) (omega arith)) (ap Some (key_part b))
      by false o e = e ∙ rw (drop-drop, next, below) refl

  pub found-first : (b : List ℕ) → option_map (λ r. take 16 (drop 1 r)) (find (under id) (first_chunks 17 (records_of b) b)) ≡ found_of id b
  unfolding found_of key_of known_of ids_of
  found-first b = found_among (records_of b) b ∙ by (ltb (place_in id (key_ids (records_of b) b)) (records_of b)) _
    where
      by : (k : Bool) (l : List ℕ) → cond k (Some l) None ≡ cond k (Some (cond k l [])) None
      by true l = refl
      by false l = refl

-- ---- whether they rise

module _ {X : Type 0} (h : X → ℕ) where
  rise : (xs : List X) → AllAdjacentBelow (λ x y. true ≡ ltb (h x) (h y)) xs (length xs) → true ≡ rising (map h xs)
  unfolding rising
  rise [] g = refl
  rise (x ∷ []) g = refl
  rise (x ∷ y ∷ xs) g = rw (← g 0 x (omega arith)) (rise (y ∷ xs) (λ k d l. rw (suc-add k 1) at (g (suc k) d (omega arith))))

  fall : (xs : List X) (k : ℕ) → k + 1 < length xs → ((d : X) → false ≡ ltb (h (get_or xs k d)) (h (get_or xs (k + 1) d))) → false ≡ rising (map h xs)
  unfolding rising
  fall [] k l g = absurd (omega arith)
  fall (x ∷ []) k l g = absurd (omega arith)
  fall (x ∷ y ∷ xs) zero l g = rw (← g x) refl
  fall (x ∷ y ∷ xs) (suc k) l g = rw (← fall (y ∷ xs) k (omega arith) (λ d. rw (suc-add k 1) at (g d))) (sym (and-false (ltb (h x) (h y))))

  pub rising-answer : (xs : List X) (r : Bool) → IsAllAdjacentAnswer (λ x y t. t ≡ ltb (h x) (h y)) xs r → r ≡ rising (map h xs)
  rising-answer xs true g = rise xs g
  rising-answer xs false g = fall xs g.0 g.1 g.2

pub ids-records : (n : ℕ) (b : List ℕ) → map (λ r. get_or r 0 0) (first_chunks 17 n b) ≡ key_ids n b
unfolding key_ids
ids-records zero b = refl
ids-records (suc n) b = rw (first_byte b, ids-records n (drop 17 b)) refl

-- "an empty book is sound"
pub empty-sound : sound_of [] ≡ true
unfolding sound_of ids_of key_ids rising
empty-sound = refl

module _ (x y : List ℕ) (len : length x ≡ length y) (ids : ids_of x ≡ ids_of y) where
  pub sound-same : sound_of x ≡ sound_of y
  unfolding sound_of
  sound-same = cc

  pub known_same : (id : ℕ) → known_of id x ≡ known_of id y
  unfolding known_of
  known_same id = cc

module _ (id : ℕ) (b : List ℕ) where
  known_place : known_of id b ≡ true → place_in id (ids_of b) < records_of b
  unfolding known_of
  known_place k = ltb-true _ _ k

  pub known_key : known_of id b ≡ true → length (key_of id b) ≡ 16
  unfolding key_of
  known_key k = rw k (simp (length-take, length-drop) (omega (arith, known_place k)))

  -- one is found exactly where the KeyID is in the book, and it is the key there
  pub found-some : is_some (found_of id b) ≡ known_of id b
  unfolding found_of
  found-some = by (known_of id b)
    where
      by : (k : Bool) → is_some (cond k (Some (key_of id b)) None) ≡ k
      by true = refl
      by false = refl

  pub found_key : unwrap_or (found_of id b) [] ≡ key_of id b
  unfolding found_of key_of
  found_key = by (known_of id b) _
    where
      by : (k : Bool) (l : List ℕ) → unwrap_or (cond k (Some (cond k l [])) None) [] ≡ cond k l []
      by true l = refl
      by false l = refl

-- ---- the same of a part of the book that is handed on

module _ (o : Option (Bor (List ℕ))) where
  pub some-copied : is_some o ≡ is_some (option_copied o)
  some-copied = elim o as (λ o. is_some o ≡ is_some (option_copied o)) [ None ↦ refl | Some x ↦ refl ]

  pub or-copied : (d : Bor (List ℕ)) → (unwrap_or o d).now ≡ unwrap_or (option_copied o) d.now
  or-copied d = elim o as (λ o. (unwrap_or o d).now ≡ unwrap_or (option_copied o) d.now) [ None ↦ refl | Some x ↦ refl ]
