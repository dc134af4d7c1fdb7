-- `put_frame` meets its contract: a run of stores in the tail from each part's place. Assumes nothing.
use Prim.Native.Nat.{◌+◌}
use mathlib.Core.Path.{◌∙◌}
use lib.ListN.{take, set}
use Rattle.counts.specs.Count.{count_bytes}
use Rattle.frames.proofs.Answers.{frame_runs}
use Rattle.frames.proofs.Runs.{two-runs}
use Rattle.frames.proofs.put_frame.Goals as goal

pub returns : goal.returns
returns c =
    let m = c.size in
    let a = c.args in
    two-runs (set a.out.now 0 a.kind) c.put.new.out c.put_payload.new.out (count_bytes a.count) (take m.result a.payload.now)
    1 (1 + c.groups-p.result) c.put.ensures c.put_payload.ensures
    ∙ rw (m.ensures, c.groups-p.ensures) (frame_runs a.out.now 0 a.kind a.count a.payload.now)
