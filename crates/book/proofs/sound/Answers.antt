-- `book::sound` meets its contract.
use mathlib.Core.Path.{refl}
use mathlib.Core.List.{List}
use Prim.Native.Nat.{ℕ}
use lib.Dec.{ltb}
use lib.ListN.{get_or}
use Rattle.std.proofs.Common.{rules, tests}
use Rattle.std.proofs.lemmas.List.Sorted.{answers_always}
use Rattle.book.specs.Book.{ids_of, sound_of}
use Rattle.book.proofs.Laws.{ids-records, rising-answer}
use Rattle.book.proofs.sound.Goals as goal

pub returns : goal.returns
unfolding sound_of ids_of
returns c =
    let chunks = c.as_chunks in
    let first : List ℕ → ℕ = λ r. get_or r 0 0 in
    let h = rising-answer first chunks.result.0.now _ (c.is_sorted_by.ensures.cases (λ x y. ltb (first x) (first y)) (answers_always _ _ _ (λ f a r g k. search (rules, tests)))) in
    rw (h, c.is_empty.ensures, chunks.ensures.back_len, chunks.ensures.front_len, chunks.ensures.front, ids-records) refl
