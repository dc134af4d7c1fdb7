-- `blocks::reader::ReaderStateBlock::store` meets its contract.
use borrow.Author.Tests.{eq-eqb}
use Rattle.blocks.specs.Blocks.{reader_block}
use Rattle.blocks.proofs.Numbers.{reader_put}
use Rattle.blocks.proofs.reader.ReaderStateBlock.store.Goals as goal

pub returns : goal.returns
unfolding reader_block
returns c =
    rw (eq-eqb _ _ c.if-block-ne-BYTES.false, ← c.face-face.ensures, ← c.session.ensures)
    (reader_put c.args.block.now _ _ c.face-face.result _ _ c.if-block-ne-BYTES.false c.from.ensures c.put_front.ensures c.put_number.ensures)
