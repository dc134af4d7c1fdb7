-- `write` meets its contract. Assumes nothing.
use Prim.Native.Nat.{ℕ, ◌-◌, ◌≤◌}
use mathlib.Core.Path.{◌≡◌, sym}
use native.Mathlib.Omega.{arith}
use lib.ListN.{length, take, drop, length-drop}
use Rattle.std.proofs.lemmas.Slice.{between_to_end}
use Rattle.counts.proofs.Tails.{lent}
use Rattle.frames.specs.Frame.{frame_of, changed, out_after}
use Rattle.frames.proofs.Answers.{FrameWritten, frame_written, frame_length}
use Rattle.frames.proofs.write.Goals as goal
use Rattle.frames.proofs.write.Goals.{In_ok-end}

-- a frame that may be written begins within the buffer
done : (c : In_ok-end) → (let a = c.args in FrameWritten (length a.out.now) a.at a.kind a.count a.payload.now c.in_ok-end.end)
done c = let a = c.args in frame_written _ a.at a.kind a.count a.payload.now _ (sym c.in_ok-end.ensures)

inside : (c : In_ok-end) → c.args.at ≤ length c.args.out.now
inside c = omega (arith, (done c).ends, (done c).room)

pub slice_bounds-put_frame-count : goal.slice_bounds-put_frame-count
slice_bounds-put_frame-count c = inside c

pub slice_bounds-put_frame-start : goal.slice_bounds-put_frame-start
slice_bounds-put_frame-start c = inside (goal.at.slice_bounds-put_frame-start c).In_ok-end

pub put_frame-requires : goal.put_frame-requires
put_frame-requires c =
    let a = c.args in
    let w = done (goal.at.put_frame-requires c).In_ok-end in
    let n : ℕ = length a.out.now in
    let tail : take (n - a.at) (drop a.at a.out.now) ≡ drop a.at a.out.now = between_to_end a.out.now a.at n (omega arith) in
    (w.fit.long, rw (tail, length-drop) (omega (arith, w.ends, w.room, frame_length a.kind a.count a.payload.now w.fit.long)))

pub returns-clause-out_after : goal.returns-clause-out_after
unfolding out_after changed
returns-clause-out_after c =
    let a = c.args in
    rw (← c.in_ok-end.ensures) (lent a.out.now (frame_of a.kind a.count a.payload.now) c.put_frame.new.out a.at c.put_frame.ensures)
