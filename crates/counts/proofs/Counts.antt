-- The laws of a count in groups of seven bits: a count that is written reads back, and a count that is read was written so.
-- Assumes nothing.
use Prim.Native.Nat.{ℕ, zero, suc, ◌+◌, ◌-◌, ◌*◌, ◌/◌, ◌%◌, ◌≤◌, ◌<◌}
use mathlib.Core.Bool.{Bool, true, false, cond}
use mathlib.Core.List.{List, [], ◌∷◌, ◌++◌}
use mathlib.Core.Path.{◌≡◌, refl, ap, sym, subst}
use native.Mathlib.Numerals.{add-one}
use native.Mathlib.Omega.{arith}
use lib.Dec.{eqb, ltb}
use lib.ListN.{length, get_or, drop, length-append, length-drop, drop_of_length-le}
use lib.Seq.{get_or-drop, drop-cons}
use borrow.Author.Tests.{lt-ltb, le-ltb, ne_eqb, ltb-true, ltb-false, eqb-false}
use Rattle.bits.proofs.Bytes.{Octets}
use Rattle.counts.specs.Count.{group, groups_of, count_bytes, up_to, joined, count_from, count_at}
use Rattle.std.specs.Prelude.{Result, Ok, Err, IfOk}
use Rattle.counts.specs.declared.Refusal.{Refusal}
use Rattle.counts.specs.declared.Refusal.TheVariants.{Short, Count}
use Rattle.counts.specs.declared.Counted.{Counted}
use Rattle.std.proofs.lemmas.Bool.{cond_both}

-- ---- a count's bytes, group by group

groups_one : (more n : ℕ) → n < group → groups_of more n ≡ n ∷ []
unfolding groups_of
groups_one zero n h = refl
groups_one (suc more) n h = simp (lt-ltb _ _ h)

enough : (j k n : ℕ) → n ≤ j → n ≤ k → groups_of j n ≡ groups_of k n
unfolding groups_of
enough zero k n p q = sym (groups_one k n (omega arith))
enough (suc j) zero n p q = groups_one (suc j) n (omega arith)
enough (suc j) (suc k) n p q =
    ap (λ (l : List ℕ). cond (ltb n group) (n ∷ []) ((n % group + group) ∷ l)) (enough j k (n / group) (omega arith) (omega arith))

pub count_one : (n : ℕ) → n < group → count_bytes n ≡ n ∷ []
unfolding count_bytes
count_one n h = groups_one n n h

pub count_more : (n : ℕ) → group ≤ n → count_bytes n ≡ (n % group + group) ∷ count_bytes (n / group)
unfolding count_bytes groups_of
count_more zero h = absurd (omega arith)
count_more (suc n) h =
    let m : ℕ = suc n / group in
    simp (le-ltb _ _ h) (ap (λ (l : List ℕ). (suc n % group + group) ∷ l) (enough n m m (omega arith) (omega arith)))

-- what holds of one group, and of a count if it holds of the groups above its lowest, holds of every count
pub count_ind : (P : ℕ → Type 0) → ((n : ℕ) → n < group → P n) → ((n : ℕ) → group ≤ n → P (n / group) → P n) → (n : ℕ) → P n
count_ind P one more n = go n n (omega arith)
  where
    either : (m : ℕ) (b : Bool) → ltb m group ≡ b → (group ≤ m → P (m / group)) → P m
    either m true e f = one m (ltb-true _ _ e)
    either m false e f = let h : group ≤ m = ltb-false _ _ e in more m h (f h)

    go : (k m : ℕ) → m ≤ k → P m
    go zero m h = one m (omega arith)
    go (suc k) m h = either m (ltb m group) refl (λ l. go k (m / group) (omega arith))

-- so few bytes that a sum with their number fits a word
pub count_few : (n : ℕ) → length (count_bytes n) ≤ n / group + 1
count_few =
    count_ind (λ (n : ℕ). length (count_bytes n) ≤ n / group + 1)
    (λ n h. rw (count_one n h) (omega arith)) (λ n h few. rw (count_more n h) (omega arith))

-- ---- a count that is read, group by group

pub count-step : (s : List ℕ) (at most : ℕ) → at < length s
    → count_at s at most ≡
    cond (ltb (get_or s at 0) group) (up_to most (get_or s at 0) (at + 1))
    (cond (ltb most group) (Err Count)
    (joined most (get_or s at 0 - group) (count_at s (at + 1) (most / group))))
unfolding count_at count_from
count-step s at most h = rw (drop-cons s at 0 h, add-one at)

-- a slice that ends before it
pub count_past : (s : List ℕ) (at most : ℕ) → length s ≤ at → count_at s at most ≡ Err Short
unfolding count_at count_from
count_past s at most h = rw (drop_of_length-le s h)

-- a last group
pub count_last : (s : List ℕ) (at most : ℕ) → at < length s → get_or s at 0 < group
    → count_at s at most ≡ up_to most (get_or s at 0) (at + 1)
count_last s at most h k = rw (count-step s at most h) (simp (lt-ltb _ _ k))

-- a high bit set promises a group more: 21 where the limit has no room for it, also where the slice ends behind that byte
pub count_over : (s : List ℕ) (at most : ℕ) → at < length s → group ≤ get_or s at 0 → most < group → count_at s at most ≡ Err Count
count_over s at most h k l = rw (count-step s at most h) (simp (le-ltb _ _ k, lt-ltb _ _ l))

-- a group, and what follows it
pub count_higher : (s : List ℕ) (at most : ℕ) → at < length s → group ≤ get_or s at 0 → group ≤ most
    → count_at s at most ≡ joined most (get_or s at 0 - group) (count_at s (at + 1) (most / group))
count_higher s at most h k l = rw (count-step s at most h) (simp (le-ltb _ _ k, le-ltb _ _ l))

-- those four are all that reading a count does
pub ruleset count_steps = (count_past, count_last, count_over, count_higher)

-- a second count byte with its high bit set is 21, where the limit has two groups
pub second_high : (at most b d : ℕ) (rest : List ℕ) → group ≤ b → group ≤ d → most < group * group
    → count_from at most (b ∷ d ∷ rest) ≡ Err Count
unfolding count_from joined
second_high at most b d rest h k l =
    let m : most / group < group = omega arith in
    simp (le-ltb _ _ h, le-ltb _ _ k, lt-ltb _ _ m)
    (cond_both (ltb most group) _ _ (λ (r : Result Counted Refusal). r ≡ Err Count) (λ _. refl) (λ _. refl))

-- ---- there and back

front_back : (n at most : ℕ) (rest : List ℕ) → n ≤ most
    → count_from at most (count_bytes n ++ rest) ≡ Ok (record { count = n; next = at + length (count_bytes n) })
unfolding count_from joined up_to
front_back n at most rest = count_ind Back one more n at most
  where
    Back : ℕ → Type 0
    Back n = (at most : ℕ) → n ≤ most → count_from at most (count_bytes n ++ rest) ≡ Ok (record { count = n; next = at + length (count_bytes n) })

    one : (n : ℕ) → n < group → Back n
    one n h at most l = rw (count_one n h) (simp (lt-ltb _ _ h, le-ltb _ _ l))

    more : (n : ℕ) → group ≤ n → Back (n / group) → Back n
    more n h back at most l =
        let sum : n % group + group - group + n / group * group ≡ n = omega arith in
        let some : n / group ≡ 0 → ⊥ = omega arith in
        let high : group ≤ n % group + group = omega arith in
        let again = back (at + 1) (most / group) (omega arith) in
        rw (count_more n h)
        (simp (le-ltb _ _ high, le-ltb most group (omega arith), again, ne_eqb _ _ some, sum, le-ltb _ _ l)
        (ap (λ (k : ℕ). Ok (record { count = n; next = k })) (omega arith)))

-- a count that is written reads back, wherever it stands and whatever follows it
pub count_back : (s : List ℕ) (at most n : ℕ) (rest : List ℕ) → drop at s ≡ count_bytes n ++ rest → n ≤ most
    → count_at s at most ≡ Ok (record { count = n; next = at + length (count_bytes n) })
unfolding count_at
count_back s at most n rest e h = rw e (front_back n at most rest h)

-- that n was read from a list that begins at `at`, with `next` behind it: these are n's bytes, and n is within its limit
pub record CountRead (at most n next : ℕ) (l : List ℕ) : Type 0 where
  pub bytes : l ≡ count_bytes n ++ drop (length (count_bytes n)) l
  pub place : next ≡ at + length (count_bytes n)
  pub small : n ≤ most

abbrev ReadIf : ℕ → ℕ → List ℕ → Result Counted Refusal → Type 0
ReadIf at most l r = IfOk r (λ c. CountRead at most c.count c.next l)

read-joined : (at most b : ℕ) (bs : List ℕ) (r : Result Counted Refusal) → b < 256 → group ≤ b → ReadIf (at + 1) (most / group) bs r
    → ReadIf at most (b ∷ bs) (joined most (b - group) r)
unfolding joined up_to
read-joined at most b bs (Err why) h k t = tt
read-joined at most b bs (Ok c) h k t =
    let high : ℕ = c.count in
    let n : ℕ = b - group + high * group in
    let P : Result Counted Refusal → Type 0 = ReadIf at most (b ∷ bs) in
    cond_both (eqb high 0) _ _ P (λ _. tt) (λ z. cond_both (ltb most n) _ _ P (λ _. tt) (λ s.
    let some : high ≡ 0 → ⊥ = eqb-false _ _ z in
    let low : n % group + group ≡ b = omega arith in
    let up : n / group ≡ high = omega arith in
    let e : count_bytes n ≡ b ∷ count_bytes high = rw (low, up) at (count_more n (omega arith)) in
    record {
      bytes = rw e (ap (λ (l : List ℕ). b ∷ l) t.bytes);
      place = rw e (omega (arith, t.place));
      small = ltb-false _ _ s;
    }))

read_from : (l : List ℕ) (at most : ℕ) → Octets l → ReadIf at most l (count_from at most l)
unfolding count_from up_to
read_from [] at most h = tt
read_from (b ∷ bs) at most h =
    let P : Result Counted Refusal → Type 0 = ReadIf at most (b ∷ bs) in
    cond_both (ltb b group) _ _ P
    (λ t. cond_both (ltb most b) _ _ P (λ _. tt) (λ s.
    let e : count_bytes b ≡ b ∷ [] = count_one b (ltb-true _ _ t) in
    record { bytes = rw e; place = rw e; small = ltb-false _ _ s }))
    (λ f. cond_both (ltb most group) _ _ P (λ _. tt) (λ _.
    read-joined at most b bs (count_from (at + 1) (most / group) bs) (h 0).fits (ltb-false _ _ f)
    (read_from bs (at + 1) (most / group) (λ i. h (suc i)))))

module _ (s : List ℕ) (at most n next : ℕ) (b : Octets s) (e : count_at s at most ≡ Ok (record { count = n; next = next })) where
  -- a count that is read was written so
  pub count-read : CountRead at most n next (drop at s)
  unfolding count_at
  count-read =
      subst (ReadIf at most (drop at s)) e (read_from (drop at s) at most (λ i. rw (get_or-drop at s i 0) (b (at + i))))

  -- and its place is within the slice
  pub count-within : at ≤ length s → next ≤ length s
  count-within h =
      omega (arith, count-read.place, length-drop at s, rw length-append at (ap length count-read.bytes))
