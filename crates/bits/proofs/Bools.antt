-- Laws of tests, and of what is chosen by one. Assumes nothing.
use mathlib.Core.Path.{◌≡◌, refl, sym, ◌∙◌}
use mathlib.Core.Bool.{Bool, true, false, not, cond, ◌&&◌, ◌||◌, true≢false}
use borrow.Author.Tests.{not-false}

pub and_left : (a b : Bool) → (a && b) ≡ true → a ≡ true
and_left true b e = refl
and_left false b e = absurd (true≢false (sym e))

pub and_right : (a b : Bool) → (a && b) ≡ true → b ≡ true
and_right true b e = e
and_right false b e = absurd (true≢false (sym e))

pub neither : (a b : Bool) → (a || b) ≡ false → (a ≡ false) × (b ≡ false)
neither true b e = absurd (true≢false e)
neither false b e = (refl, e)

-- what is asked where a does not hold
pub unless : (a b : Bool) → a ≡ false → (not a && not b) ≡ false → b ≡ true
unless true b h e = absurd (true≢false h)
unless false b h e = not-false b e

-- one of two that is not the second
pub only : (a b : Bool) → b ≡ false → (a || b) ≡ true → a ≡ true
only true b h e = refl
only false b h e = absurd (true≢false (sym e ∙ h))

-- what is false demands nothing
pub never : {A : Type 0} (b : Bool) → b ≡ false → b ≡ true → A
never b f t = absurd (true≢false (sym t ∙ f))

-- what cannot be false
pub holds : (b : Bool) → (b ≡ false → true ≡ false) → b ≡ true
holds true f = refl
holds false f = absurd (true≢false (f refl))

-- ---- choices

-- what holds of both holds of the one that is chosen
pub either : {A : Type 0} (P : A → Type 0) (b : Bool) (x y : A) → P x → P y → P (cond b x y)
either P true x y p q = p
either P false x y p q = q

-- the same of two that one test chooses
pub both : {A B : Type 0} (P : A → B → Type 0) (b : Bool) {x y : A} {u v : B} → P x u → P y v → P (cond b x y) (cond b u v)
both P true p q = p
both P false p q = q

-- a function goes into each choice
pub of-cond : {A B : Type 0} (f : A → B) (b : Bool) (x y : A) → f (cond b x y) ≡ cond b (f x) (f y)
of-cond f true x y = refl
of-cond f false x y = refl

pub cond_same : {A : Type 0} (b : Bool) (x : A) → cond b x x ≡ x
cond_same true x = refl
cond_same false x = refl
