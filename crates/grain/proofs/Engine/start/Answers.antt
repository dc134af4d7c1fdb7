use mathlib.Core.Path.{◌≡◌, sym, ap, ◌∙◌}
use native.Mathlib.Omega.{arith}
use native.Mathlib.Numerals.{add-one}
use Rattle.grain.specs.Start.{starts, started}
use Rattle.grain.specs.Stored.{state_of}
use Rattle.grain.proofs.Words.{sized_state_of, state_of-engine_of, engine_of-state_of}
use Rattle.grain.proofs.Runs.{sized_starts}
use borrow.Author.Rules.{rules}
use Rattle.grain.proofs.Engine.start.Goals as goal

pub loop-init : goal.loop-init
unfolding starts
loop-init c = (search rules, sym (engine_of-state_of c.args.self (search rules) (search rules) (search rules) (search rules)))

pub loop-preserved : goal.loop-preserved
unfolding starts
loop-preserved c =
    let st = state_of c.args.self in
    let l = c.loop in
    let e : state_of l.e ≡ starts l.counter st = ap state_of l.invariant.1 ∙ state_of-engine_of (starts l.counter st) (sized_starts l.counter st (sized_state_of c.args.self)) in
    (search rules, rw (add-one, c.clock-e.ensures, c.out.ensures, e))

pub returns : goal.returns
unfolding started
returns c =
    let e : c.loop.counter ≡ 256 = omega arith in
    rw e at c.loop.invariant.1
