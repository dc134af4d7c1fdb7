-- `blocks::tag::TagStateBlock::spells` meets its contract.
use Rattle.blocks.specs.Blocks.{spells_tag}
use Rattle.blocks.proofs.tag.TagStateBlock.spells.Goals as goal

pub returns : goal.returns
unfolding spells_tag
returns c = rw (c.small-5.ensures, c.small-4.ensures, c.small-3.ensures, c.small-2.ensures, c.small.ensures)
