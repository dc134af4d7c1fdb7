-- `read` meets its contract. Assumes nothing.
use Prim.Native.Nat.{◌+◌, ◌/◌, ◌<◌}
use mathlib.Core.Path.{◌≡◌, sym}
use native.Mathlib.Omega.{arith}
use lib.ListN.{length, get_or}
use Rattle.std.proofs.Common.{rules}
use Rattle.std.proofs.lemmas.Grind.{common_steps}
use Rattle.std.proofs.lemmas.Result.{err_from_is_err_and}
use Rattle.counts.specs.Count.{joined}
use Rattle.counts.proofs.Counts.{count-read, count_higher}
use Rattle.counts.proofs.+read.Goals as goal

pub join-requires : goal.join-requires
join-requires t c =
    let a = c.args in
    let byte : c.from-group.result ≡ get_or a.s.now a.at 0 = grind (arith, common_steps) in
    (omega (arith, c.type_inv.s a.at), (count-read a.s.now (a.at + 1) (a.most / 128) _ _ c.type_inv.s (sym c.in_ok-high.ensures)).small)

pub returns-in_err-high : goal.returns-in_err-high
unfolding joined
returns-in_err-high t c =
    let a = c.args in
    let p = err_from_is_err_and c.from_residual.result c.from_residual.ensures.1 in
    let inside : a.at < length a.s.now = search rules in
    let byte : c.from-group.result ≡ get_or a.s.now a.at 0 = grind (arith, common_steps) in
    rw (p.1, p.2, count_higher a.s.now a.at a.most inside (omega arith) (omega arith), ← c.in_err-high.ensures)
