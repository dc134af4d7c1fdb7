-- The law `sized` of both blocks: an impl's law can cite nothing of `proofs/`. Assumes nothing.
use Rattle.std.specs.Prelude.{true, List, ◌≡◌, ℕ, length}
use borrow.Author.Tests.{eqb-true}
use Rattle.bits.proofs.Bools.{and_left}
use Rattle.blocks.specs.Blocks.{tag_bytes, spells_tag, reader_bytes, spells_reader}

-- a block that spells a state has its length
pub tag_sized : (block : List ℕ) → spells_tag block ≡ true → length block ≡ tag_bytes
unfolding spells_tag
tag_sized block e = eqb-true _ _ (and_left _ _ (and_left _ _ (and_left _ _ (and_left _ _ (and_left _ _ e)))))

pub reader_sized : (block : List ℕ) → spells_reader block ≡ true → length block ≡ reader_bytes
unfolding spells_reader
reader_sized block e = eqb-true _ _ (and_left _ _ (and_left _ _ (and_left _ _ (and_left _ _ e))))
