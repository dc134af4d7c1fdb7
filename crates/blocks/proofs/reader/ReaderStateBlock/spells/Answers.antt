-- `blocks::reader::ReaderStateBlock::spells` meets its contract.
use Rattle.blocks.specs.Blocks.{spells_reader}
use Rattle.blocks.proofs.reader.ReaderStateBlock.spells.Goals as goal

pub returns : goal.returns
unfolding spells_reader
returns c = rw (c.small-4.ensures, c.small-3.ensures, c.small-2.ensures, c.small.ensures)
