-- `capi::kusarehyon_book_find` meets its contract.
use borrow.Author.Tests.{lt-ltb, le-ltb}
use Rattle.capi.specs.Calls.{find_called}
use Rattle.capi.proofs.Calls.{denied, granted, refused, known, key-given}
use Rattle.capi.proofs.kusarehyon_book_find.Goals as goal

pub returns-then-reply-lt-AREA_BYTES : goal.returns-then-reply-lt-AREA_BYTES
unfolding find_called
returns-then-reply-lt-AREA_BYTES c =
    rw (lt-ltb _ _ c.if-reply-lt-AREA_BYTES.true) (refused _ _ _ _ _ _ c.refused.ensures)

pub returns-then-not-sound : goal.returns-then-not-sound
unfolding find_called
returns-then-not-sound c =
    rw (le-ltb _ _ c.if-reply-lt-AREA_BYTES.false, denied _ c.sound.ensures c.if-not-sound.true) (refused _ _ _ _ _ _ c.refused-then-not-sound.ensures)

pub returns-in_default : goal.returns-in_default
unfolding find_called
returns-in_default c =
    rw (le-ltb _ _ c.if-reply-lt-AREA_BYTES.false, granted _ c.sound.ensures c.if-not-sound.false, known _ _ _ c.in_default.ensures)
    (refused _ _ _ _ _ _ c.refused-in_default.ensures)

pub returns : goal.returns
unfolding find_called
returns c =
    rw (le-ltb _ _ c.if-reply-lt-AREA_BYTES.false, granted _ c.sound.ensures c.if-not-sound.false, known _ _ _ c.in-Some.ensures)
    (key-given _ _ _ c.in-Some.ensures _ _ _ c.from.ensures c.show.ensures)
