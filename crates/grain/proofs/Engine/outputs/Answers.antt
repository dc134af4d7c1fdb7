use mathlib.Core.Path.{◌≡◌, refl, sym, ap, ◌∙◌}
use Prim.Native.Nat.{◌<◌, ◌^◌}
use native.Mathlib.Nat.{lt_of_lt_of_le}
use native.Mathlib.Omega.{arith}
use native.Mathlib.Numerals.{add-one}
use lib.Pow.{pow_mono}
use Rattle.bits.specs.Bits.{num_of}
use Rattle.bits.proofs.Numbers.{num_of-lt}
use Rattle.grain.specs.Generator.{run, runs, outs}
use Rattle.grain.specs.Stored.{state_of, outputs_of, pair_of}
use Rattle.grain.proofs.Words.{sized_state_of, state_of-engine_of, engine_of-state_of, word_more}
use Rattle.grain.proofs.Runs.{sized_runs, runs_snoc, outs_snoc, length-outs}
use borrow.Author.Rules.{rules}
use Rattle.grain.proofs.Engine.outputs.Goals as goal

pub loop-init : goal.loop-init
unfolding outs runs num_of
loop-init c = (search rules, refl, sym (engine_of-state_of c.args.self (search rules) (search rules) (search rules) (search rules)))

pub loop-preserved : goal.loop-preserved
unfolding run pair_of
loop-preserved c =
    let st = state_of c.args.self in
    let l = c.loop in
    let k = l.counter in
    let e : state_of l.e ≡ runs k st = ap state_of l.invariant.2 ∙ state_of-engine_of (runs k st) (sized_runs k st (sized_state_of c.args.self)) in
    let small : num_of (outs k st) < 2 ^ 63 = lt_of_lt_of_le (rw (length-outs k st) at (num_of-lt (outs k st))) (pow_mono {j = 63} (omega arith)) in (
      search rules,
      rw (l.invariant.1, c.out.ensures, e, add-one, outs_snoc k st) (word_more (outs k st) _ small),
      rw (c.clock-e.ensures, e, add-one, runs_snoc k st),
    )

pub returns : goal.returns
unfolding outputs_of
returns c =
    let e : c.loop.counter ≡ c.word_bits-w.result = omega arith in
    rw (c.loop.invariant.1, c.loop.invariant.2, e, c.word_bits-w.ensures)
