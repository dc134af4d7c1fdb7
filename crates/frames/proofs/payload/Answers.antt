-- `payload` meets its contract. Assumes nothing.
use Prim.Native.Nat.{◌≤◌}
use mathlib.Core.Path.{sym}
use lib.ListN.{length}
use Rattle.frames.proofs.Answers.{frame_read, frame_within}
use Rattle.frames.proofs.payload.Goals as goal
use Rattle.frames.proofs.payload.Goals.{In-Ok}

-- a frame lies within its slice
inside : (c : In-Ok) → (c.in-Ok.frame.start ≤ c.in-Ok.frame.end) × (c.in-Ok.frame.end ≤ length c.args.s.now)
inside c =
    let s = c.args.s.now in
    frame_within s _ _ _ _ (frame_read s _ _ _ _ c.type_inv.s (sym c.in-Ok.ensures))

pub slice_bounds-result-count : goal.slice_bounds-result-count
slice_bounds-result-count c = (inside (goal.at.slice_bounds-result-count c).In-Ok).0

pub slice_bounds-result-start : goal.slice_bounds-result-start
slice_bounds-result-start c = (inside (goal.at.slice_bounds-result-start c).In-Ok).0

pub slice_bounds-result-end-in-Ok : goal.slice_bounds-result-end-in-Ok
slice_bounds-result-end-in-Ok c = (inside (goal.at.slice_bounds-result-end-in-Ok c).In-Ok).1
