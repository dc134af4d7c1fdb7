-- `book::find` meets its contract.
use mathlib.Core.Path.{◌≡◌, refl, ap, ◌∙◌}
use mathlib.Core.List.{List}
use Prim.Native.Nat.{ℕ}
use denote.Ref.{Bor}
use lib.ListN.{take, drop}
use Rattle.std.proofs.Common.{rules, tests, Option, Some, None, MatchOption, IsSomeAnd, option_map}
use Rattle.std.proofs.lemmas.Iterator.{YieldsList-from_slice}
use Rattle.std.proofs.lemmas.Iterator.Search.{find_from_yields_List}
use Rattle.book.proofs.Laws.{under, found-first}
use Rattle.book.proofs.find.Goals as goal

-- what is made of the bytes behind a reference, if there is one
mapped : (f : List ℕ → List ℕ) (o r : Option (Bor (List ℕ))) (P : Bor (List ℕ) → Bor (List ℕ) → Type 0)
    → MatchOption o (r ≡ None) (λ x. IsSomeAnd r (P x)) → ((x y : Bor (List ℕ)) → P x y → y.now ≡ f x.now)
    → option_map (λ y. y.now) r ≡ option_map f (option_map (λ x. x.now) o)
mapped f None r P h is = rw h refl
mapped f (Some x) None P h is = absurd h
mapped f (Some x) (Some y) P h is = ap Some (is x y h)

pub returns : goal.returns
returns c =
    let a = c.args in
    let records = c.as_chunks.result.0.now in
    let f = find_from_yields_List (under a.id) _ _ c.find.result c.find.ensures.ran (YieldsList-from_slice records cc) (λ x b q k. search (rules, tests)) in
    mapped (λ r. take 16 (drop 1 r)) c.find.result c.map.result _ c.map.ensures.cases (λ x y h. search rules) ∙ rw (f, c.as_chunks.ensures.front) (found-first a.id a.book.now)
