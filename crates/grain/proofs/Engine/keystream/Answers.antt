use mathlib.Core.Path.{◌≡◌, refl, sym, ap, ◌∙◌}
use Prim.Native.Nat.{◌<◌, ◌^◌}
use native.Mathlib.Nat.{lt_of_lt_of_le}
use native.Mathlib.Omega.{arith}
use native.Mathlib.Numerals.{add-one}
use lib.Pow.{pow_mono}
use Rattle.bits.specs.Bits.{num_of}
use Rattle.bits.proofs.Numbers.{num_of-lt}
use Rattle.grain.specs.Generator.{run}
use Rattle.grain.specs.Mac.{keystream, pairs}
use Rattle.grain.specs.Stored.{state_of, keystream_of, pair_of}
use Rattle.grain.proofs.Words.{sized_state_of, state_of-engine_of, engine_of-state_of, word_more}
use Rattle.grain.proofs.Runs.{sized_pairs, pairs_snoc, keystream_snoc, length-keystream}
use borrow.Author.Rules.{rules}
use Rattle.grain.proofs.Engine.keystream.Goals as goal

pub loop-init : goal.loop-init
unfolding keystream pairs num_of
loop-init c = (search rules, refl, sym (engine_of-state_of c.args.self (search rules) (search rules) (search rules) (search rules)))

pub loop-preserved : goal.loop-preserved
unfolding run pair_of
loop-preserved c =
    let st = state_of c.args.self in
    let l = c.loop in
    let k = l.counter in
    let e : state_of l.e ≡ pairs k st = ap state_of l.invariant.2 ∙ state_of-engine_of (pairs k st) (sized_pairs k st (sized_state_of c.args.self)) in
    let small : num_of (keystream k st) < 2 ^ 63 = lt_of_lt_of_le (rw (length-keystream k st) at (num_of-lt (keystream k st))) (pow_mono {j = 63} (omega arith)) in
    let p = c.pair-p.ensures in (
      search rules,
      rw (l.invariant.1, p, e, add-one, keystream_snoc k st) (word_more (keystream k st) _ small),
      rw (p, e, add-one, pairs_snoc k st),
    )

pub returns : goal.returns
unfolding keystream_of
returns c =
    let e : c.loop.counter ≡ 64 = omega arith in
    rw (c.loop.invariant.1, c.loop.invariant.2, e)
