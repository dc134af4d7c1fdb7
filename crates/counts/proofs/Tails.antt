-- Runs of stores, and tails that are lent for them. Assumes nothing.
use Prim.Native.Nat.{ℕ, suc, ◌+◌, ◌-◌, ◌≤◌}
use mathlib.Core.List.{List, [], ◌∷◌, append-nil}
use mathlib.Core.Path.{◌≡◌, refl, ap, sym, ◌∙◌}
use native.Mathlib.Nat.{add-zero, add-suc}
use native.Mathlib.Omega.{arith}
use lib.ListN.{length, take, drop, set, length-drop, take-append-drop, drop_of_length-le}
use lib.Seq.{sets, take-set-le, drop-set-add}
use Rattle.std.proofs.lemmas.Slice.{between_to_end}
use borrow.Rule.Slice.PartMut.{mid_of, put_mid}

take-sets : (n : ℕ) (l : List ℕ) (i : ℕ) (ys : List ℕ) → n ≤ i → take n (sets l i ys) ≡ take n l
take-sets n l i [] h = refl
take-sets n l i (y ∷ ys) h = take-sets n (set l i y) (suc i) ys (omega arith) ∙ take-set-le n l i y h

drop-sets : (n : ℕ) (l : List ℕ) (i : ℕ) (ys : List ℕ) → drop n (sets l (n + i) ys) ≡ sets (drop n l) i ys
drop-sets n l i [] = refl
drop-sets n l i (y ∷ ys) =
    ap (λ (k : ℕ). drop n (sets (set l (n + i) y) k ys)) (sym (add-suc n i)) ∙ drop-sets n (set l (n + i) y) (suc i) ys
    ∙ ap (λ (t : List ℕ). sets t (suc i) ys) (drop-set-add n l i y)

-- what stands from the place of a run on
pub drop-run : (l : List ℕ) (at : ℕ) (ys : List ℕ) → drop at (sets l at ys) ≡ sets (drop at l) 0 ys
drop-run l at ys = ap (λ (k : ℕ). drop at (sets l k ys)) (sym (add-zero at)) ∙ drop-sets at l 0 ys

tail_none : (xs : List ℕ) (a : ℕ) → drop (length xs - a) (drop a xs) ≡ []
tail_none xs a =
    let size : length (drop a xs) ≤ length xs - a = rw length-drop (omega arith) in
    drop_of_length-le (drop a xs) size

-- a run of stores in a lent tail is one in the whole
pub lent : (xs ys l : List ℕ) (a : ℕ) → l ≡ sets (mid_of a (length xs - a) xs) 0 ys → put_mid a (length xs - a) xs l ≡ sets xs a ys
lent xs ys l a q =
    let all : take (length xs - a) (drop a xs) ≡ drop a xs = between_to_end xs a (length xs) (omega arith) in
    rw (tail_none xs a, append-nil, q, all, ← drop-run xs a ys, ← take-sets a xs a ys (omega arith))
    (take-append-drop a (sets xs a ys))

-- a run of stores behind the first element
pub behind : (ys l : List ℕ) (x i : ℕ) → sets (x ∷ l) (suc i) ys ≡ x ∷ sets l i ys
behind [] l x i = refl
behind (y ∷ ys) l x i = behind ys (set l i y) x (suc i)
