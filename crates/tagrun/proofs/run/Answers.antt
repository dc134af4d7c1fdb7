-- `run` is safe and ends. Assumes nothing.
use Prim.Native.Nat.{ℕ, ◌+◌, ◌-◌, ◌≤◌, ◌<◌}
use mathlib.Core.List.{List}
use mathlib.Core.Path.{◌≡◌, sym}
use native.Mathlib.Omega.{arith}
use lib.ListN.{length, take, drop, length-drop}
use lib.Seq.{get_or-drop}
use Rattle.std.specs.Prelude.{Ok}
use Rattle.std.proofs.lemmas.Slice.{between_to_end}
use Rattle.bits.proofs.Bytes.{Octets}
use Rattle.frames.specs.Frame.{scan_of}
use Rattle.frames.specs.declared.Frame.{Frame}
use Rattle.frames.proofs.Answers.{FrameRead, frame_read, frame_within}
use Rattle.tagrun.proofs.run.Goals as goal

-- a frame has a byte at least, and lies inside what is left; and what is left behind it are bytes
pub record Inside (s : List ℕ) (end : ℕ) : Type 0 where
  pub some : 0 < end
  pub within : end ≤ length s
  pub left : take (length s - end) (drop end s) ≡ drop end s
  pub size : length (drop end s) ≡ length s - end
  pub bytes : Octets (drop end s)

inside : (s : List ℕ) (f : Frame) → Octets s → Ok f ≡ scan_of s → Inside s f.end
inside s f b e =
    let r : FrameRead s f.kind f.count f.start f.end = frame_read s f.kind f.count f.start f.end b (sym e) in
    record {
      some = omega (arith, r.starts, r.ends);
      within = (frame_within s f.kind f.count f.start f.end r).1;
      left = between_to_end s f.end (length s) (omega arith);
      size = length-drop f.end s;
      bytes = λ i. rw (get_or-drop f.end s i 0) (b (f.end + i));
    }

pub slice_bounds-rest-count : goal.slice_bounds-rest-count
slice_bounds-rest-count g c = (inside c.loop-rest.rest.now c.in-Ok.frame c.loop-rest.invariant.0 c.in-Ok.ensures).within

pub slice_bounds-rest-start : goal.slice_bounds-rest-start
slice_bounds-rest-start g c = (inside c.loop-rest.rest.now c.in-Ok.frame c.loop-rest.invariant.0 c.in-Ok.ensures).within

pub loop-rest-smaller : goal.loop-rest-smaller
loop-rest-smaller g c =
    let h = inside c.loop-rest.rest.now c.in-Ok.frame c.loop-rest.invariant.0 c.in-Ok.ensures in
    rw (h.left) (omega (arith, h.some, h.within, h.size))

pub loop-rest-preserved : goal.loop-rest-preserved
loop-rest-preserved g c =
    let h = inside c.loop-rest.rest.now c.in-Ok.frame c.loop-rest.invariant.0 c.in-Ok.ensures in
    rw (h.left) (h.bytes, omega (arith, h.some, h.within, h.size))
