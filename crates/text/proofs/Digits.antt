-- A number's decimal digits. Assumes nothing.
use Rattle.std.proofs.Common.{◌≡◌, ℕ, zero, suc, ◌/◌, ◌%◌, ◌<◌, ◌≤◌, [], ◌∷◌, ◌++◌, map, ap, ◌∙◌, refl, arith}
use borrow.Author.Tests.{ne_eqb}
use Rattle.std.specs.Int.Digits.{digits_of}
use Rattle.std.proofs.lemmas.List.{map-append}
use Rattle.std.proofs.lemmas.Int.Digits.{digits_of_step}
use Rattle.text.specs.Text.{digit, decimal_of}

positive : (n : ℕ) → 0 < n → decimal_of n ≡ map digit (digits_of 10 n)
unfolding decimal_of
positive n h = rw (ne_eqb n 0 (λ e. omega (arith, e)))

-- the digits before the last, and the last
parts : (n : ℕ) → 0 < n → decimal_of n ≡ map digit (digits_of 10 (n / 10)) ++ (digit (n % 10) ∷ [])
parts n h =
    positive n h ∙ ap (map digit) (digits_of_step 10 n (omega arith) h) ∙ map-append digit (digits_of 10 (n / 10)) (n % 10 ∷ [])

alone : (n : ℕ) → n < 10 → map digit (digits_of 10 (n / 10)) ++ (digit (n % 10) ∷ []) ≡ digit n ∷ []
alone n h =
    let before : n / 10 ≡ 0 = omega arith in
    let last : n % 10 ≡ n = omega arith in
    rw (before, last)

pub decimal_one : (n : ℕ) → n < 10 → decimal_of n ≡ digit n ∷ []
unfolding decimal_of
decimal_one zero h = refl
decimal_one (suc n) h = parts (suc n) (omega arith) ∙ alone (suc n) h

pub decimal_more : (n : ℕ) → 10 ≤ n → decimal_of n ≡ decimal_of (n / 10) ++ (digit (n % 10) ∷ [])
decimal_more n h = rw (positive (n / 10) (omega arith)) (parts n (omega arith))
