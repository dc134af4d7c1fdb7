-- A count in groups of seven bits (document 01, "Host frames"), for any limit. Assumes nothing.
use Rattle.std.specs.Prelude.{ℕ, zero, suc, ◌+◌, ◌-◌, ◌*◌, ◌/◌, ◌%◌, cond, List, [], ◌∷◌, Result, Ok, Err, eqb, ltb, drop}
use Rattle.counts.specs.declared.Refusal.{Refusal}
use Rattle.counts.specs.declared.Refusal.TheVariants.{Short, Count}
use Rattle.counts.specs.declared.Counted.{Counted}

-- what a group of seven bits is below, and a byte's high bit
abbrev pub group : ℕ
group = 128

-- groups of seven bits, lowest first, the high bit set on all but the last, shortest form; at most `more` follow the first
unfoldable pub groups_of : ℕ → ℕ → List ℕ
groups_of zero n = n ∷ []
groups_of (suc more) n = cond (ltb n group) (n ∷ []) ((n % group + group) ∷ groups_of more (n / group))

-- a count's bytes: no more than n groups follow the first of n
unfoldable pub count_bytes : ℕ → List ℕ
count_bytes n = groups_of n n

-- 21 over the limit
unfoldable pub up_to : ℕ → ℕ → ℕ → Result Counted Refusal
up_to most n next = cond (ltb most n) (Err Count) (Ok (record { count = n; next = next }))

-- 21 not shortest: what follows a group with its high bit set is 0
unfoldable pub joined : ℕ → ℕ → Result Counted Refusal → Result Counted Refusal
joined most low (Err why) = Err why
joined most low (Ok high) = cond (eqb high.count 0) (Err Count) (up_to most (low + high.count * group) high.next)

-- the count at the front of what stands from `at` on. One that ends inside the count is 20. A high bit set promises a group more:
-- where that is over the limit, as on the second byte of a count up to 2,120, it is 21
unfoldable pub count_from : ℕ → ℕ → List ℕ → Result Counted Refusal
count_from at most [] = Err Short
count_from at most (b ∷ bs) =
    cond (ltb b group) (up_to most b (at + 1))
    (cond (ltb most group) (Err Count)
    (joined most (b - group) (count_from (at + 1) (most / group) bs)))

-- the count that begins at a place of a slice
unfoldable pub count_at : List ℕ → ℕ → ℕ → Result Counted Refusal
count_at s at most = count_from at most (drop at s)
