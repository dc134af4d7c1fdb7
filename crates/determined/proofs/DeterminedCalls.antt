-- Every public function of `blocks` and `capi`, by its own name: two outcomes that meet its contract are equal. Assumes nothing.
use mathlib.Core.Path.{◌≡◌, refl, sym, ap, ◌∙◌}
use mathlib.Core.List.{List}
use Prim.Native.Nat.{ℕ}
use lib.ListN.{get_or}
use Rattle.blocks.proofs as Blocks
use Rattle.blocks.specs.contracts as BlocksContracts
use Rattle.capi.proofs as Capi
use Rattle.capi.specs.contracts as CapiContracts
use Rattle.capi.specs.Calls.{Called, Leaves}
use Rattle.determined.specs.Determined.{Determines}
use Rattle.determined.proofs.Determined.{part, Past, after, past}

-- ---- blocks

pub spells-tag : Determines BlocksContracts.tag.TagStateBlock.spells.ended Blocks.tag.TagStateBlock.spells.Reads.Post
spells-tag κs a x y p q = part p q refl

pub read-tag : Determines BlocksContracts.tag.TagStateBlock.read.ended Blocks.tag.TagStateBlock.read.Reads.Post
read-tag κs a x y p q = part p q refl

pub spelled-tag : Determines BlocksContracts.tag.TagStateBlock.spelled.ended Blocks.tag.TagStateBlock.spelled.Reads.Post
spelled-tag κs a x y p q = part p q refl

pub store-tag : Determines BlocksContracts.tag.TagStateBlock.store.ended Blocks.tag.TagStateBlock.store.Reads.Post
store-tag κs a x y p q = part refl refl (past 1 _ (part p q refl))

pub spells-reader : Determines BlocksContracts.reader.ReaderStateBlock.spells.ended Blocks.reader.ReaderStateBlock.spells.Reads.Post
spells-reader κs a x y p q = part p q refl

pub read-reader : Determines BlocksContracts.reader.ReaderStateBlock.read.ended Blocks.reader.ReaderStateBlock.read.Reads.Post
read-reader κs a x y p q = part p q refl

pub spelled-reader : Determines BlocksContracts.reader.ReaderStateBlock.spelled.ended Blocks.reader.ReaderStateBlock.spelled.Reads.Post
spelled-reader κs a x y p q = part p q refl

pub store-reader : Determines BlocksContracts.reader.ReaderStateBlock.store.ended Blocks.reader.ReaderStateBlock.store.Reads.Post
store-reader κs a x y p q = part refl refl (past 1 _ (part p q refl))

-- ---- capi

-- the reply buffer and the bit count are the last of the parameters
replied : (n : ℕ) {c : Called} {stored stored' b : List ℕ} {x y : ℕ × Past n (List ℕ × (ℕ × Unit {0}))}
    → Leaves c x.0 (after n _ x.1).1.0 stored b (after n _ x.1).0
    → Leaves c y.0 (after n _ y.1).1.0 stored' b (after n _ y.1).0
    → x ≡ y
replied n p q =
    part p.answered q.answered (past n _ (part p.replied q.replied (part p.counted q.counted refl)))

-- the block is the first
leaves : (n : ℕ) {c : Called} {b : List ℕ} {x y : ℕ × (List ℕ × Past n (List ℕ × (ℕ × Unit {0})))}
    → Leaves c x.0 (after n _ x.1.1).1.0 x.1.0 b (after n _ x.1.1).0
    → Leaves c y.0 (after n _ y.1.1).1.0 y.1.0 b (after n _ y.1.1).0
    → x ≡ y
leaves n p q =
    part p.answered q.answered
    (part p.stored q.stored (past n _ (part p.replied q.replied (part p.counted q.counted refl))))

-- ---- the tag

pub tag-reset : Determines CapiContracts.kusarehyon_tag_reset.ended Capi.kusarehyon_tag_reset.Reads.Post
tag-reset κs a x y p q = leaves 0 p q

pub tag-command : Determines CapiContracts.kusarehyon_tag_command.ended Capi.kusarehyon_tag_command.Reads.Post
tag-command κs a x y p q = leaves 6 p q

pub tag-response : Determines CapiContracts.kusarehyon_tag_response.ended Capi.kusarehyon_tag_response.Reads.Post
tag-response κs a x y p q = leaves 3 p q

pub tag-close : Determines CapiContracts.kusarehyon_tag_close.ended Capi.kusarehyon_tag_close.Reads.Post
tag-close κs a x y p q = part p.0 q.0 (part p.1 q.1 refl)

pub tag-error_type : Determines CapiContracts.kusarehyon_tag_error_type.ended Capi.kusarehyon_tag_error_type.Reads.Post
tag-error_type κs a x y p q = part p q refl

-- ---- the reader

pub reader-reset : Determines CapiContracts.kusarehyon_reader_reset.ended Capi.kusarehyon_reader_reset.Reads.Post
reader-reset κs a x y p q = leaves 0 p q

pub reader-begin : Determines CapiContracts.kusarehyon_reader_begin.ended Capi.kusarehyon_reader_begin.Reads.Post
reader-begin κs a x y p q = leaves 5 p q

pub reader-replied : Determines CapiContracts.kusarehyon_reader_replied.ended Capi.kusarehyon_reader_replied.Reads.Post
reader-replied κs a x y p q = leaves 2 p q

pub reader-send : Determines CapiContracts.kusarehyon_reader_send.ended Capi.kusarehyon_reader_send.Reads.Post
reader-send κs a x y p q = leaves 3 p q

pub reader-receive : Determines CapiContracts.kusarehyon_reader_receive.ended Capi.kusarehyon_reader_receive.Reads.Post
reader-receive κs a x y p q = leaves 3 p q

-- ---- book and frames

pub book-sound : Determines CapiContracts.kusarehyon_book_sound.ended Capi.kusarehyon_book_sound.Reads.Post
book-sound κs a x y p q = part p q refl

-- a call with no block: none before, none after
pub book-find : Determines CapiContracts.kusarehyon_book_find.ended Capi.kusarehyon_book_find.Reads.Post
book-find κs a x y p q = replied 2 p q

-- numbers that stand in one list are each determined by it
at : (i : ℕ) {l m n : List ℕ} → l ≡ n → m ≡ n → get_or l i 0 ≡ get_or m i 0
at i e f = ap (λ (k : List ℕ). get_or k i 0) (e ∙ sym f)

-- answer, kind, count, start, end
pub frame_scan : Determines CapiContracts.kusarehyon_frame_scan.ended Capi.kusarehyon_frame_scan.Reads.Post
frame_scan κs a x y p q =
    part (at 0 p q) refl
    (past 1 _ (part (at 1 p q) refl (part (at 2 p q) refl (part (at 3 p q) refl (part (at 4 p q) refl refl)))))

-- answer and next place; the buffer
pub frame_write : Determines CapiContracts.kusarehyon_frame_write.ended Capi.kusarehyon_frame_write.Reads.Post
frame_write κs a x y p q = part (at 0 p.0 q.0) refl (part p.1 q.1 (past 4 _ (part (at 1 p.0 q.0) refl refl)))
