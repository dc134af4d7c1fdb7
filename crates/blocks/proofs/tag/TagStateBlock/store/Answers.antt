-- `blocks::tag::TagStateBlock::store` meets its contract.
use borrow.Author.Tests.{eq-eqb}
use Rattle.blocks.specs.Blocks.{tag_block}
use Rattle.blocks.proofs.Numbers.{tag_put}
use Rattle.blocks.proofs.tag.TagStateBlock.store.Goals as goal

pub returns : goal.returns
unfolding tag_block
returns c =
    rw (eq-eqb _ _ c.if-block-ne-BYTES.false, ← c.face-face.ensures, ← c.session.ensures)
    (tag_put c.args.block.now _ c.face-face.result _ _ c.if-block-ne-BYTES.false c.from.ensures c.put_front.ensures)
