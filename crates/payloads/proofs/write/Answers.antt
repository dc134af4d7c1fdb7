use mathlib.Core.Path.{sym, ap}
use Prim.Native.Nat.{◌+◌, ◌≤◌, ◌<◌}
use native.Mathlib.Omega.{arith}
use lib.ListN.{length, get_or, take, length-append}
use borrow.Author.Rules.{rules}
use Rattle.bits.proofs.Numbers.{length-bits_of}
use Rattle.bits.proofs.Replies.{field_put}
use Rattle.payloads.specs.declared.Part.{Part}
use Rattle.payloads.specs.Parts.{bits_of_parts}
use Rattle.payloads.proofs.Layouts.{parts_more}
use Rattle.payloads.proofs.write.Goals as goal

pub loop-part-preserved : goal.loop-part-preserved
loop-part-preserved c =
    let l = c.loop-part in
    let fs = c.parts_of-part-items.result in
    let d : Part = record { bits = 0; value = 0 } in
    let n : l.part-index < length fs = search rules in
    let f = get_or fs l.part-index d in
    let w : f.bits ≤ 64 = c.parts_of-part-items.ensures.words l.part-index d n in
    let more = parts_more fs l.part-index d n in
    let put = field_put (bits_of_parts (take l.part-index fs)) l.at f.bits f.value c.args.out.now l.out _ c.slice_known-1.given (sym l.invariant.place) w (omega arith) l.invariant.area c.put.ensures in
    record {
      small = omega arith;
      place = rw more (simp (length-append, length-bits_of) (ap (λ n. n + f.bits) l.invariant.place));
      area = rw more put;
    }
