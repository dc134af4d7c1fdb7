-- `put` meets its contract. Assumes nothing.
use Prim.Native.Nat.{◌+◌, ◌/◌, ◌%◌}
use mathlib.Core.List.{◌∷◌}
use mathlib.Core.Path.{◌≡◌, sym, ap, ◌∙◌}
use Rattle.std.proofs.Common.{◌≤◌, rules}
use lib.ListN.{length}
use Rattle.bits.proofs.Lists.{sets-out}
use Rattle.counts.specs.Count.{group, count_bytes}
use Rattle.counts.proofs.Counts.{count_more}
use Rattle.counts.proofs.Tails.{behind}
use Rattle.counts.proofs.+put.Goals as goal

pub returns-in_default : goal.returns-in_default
returns-in_default t c =
    let none : length c.args.out.now ≤ 0 = search rules in
    sym (sets-out c.args.out.now 0 (count_bytes c.args.count) none)

pub returns : goal.returns
returns t c =
    let n = c.args.count in
    let l = c.in-Some.rest.now in
    let whole : c.args.out.now ≡ c.in-Some.first.now ∷ l = search rules in
    rw (count_more n c.if-count-lt-GROUP.false, whole)
    (ap (λ r. (n % group + group) ∷ r) c.put.ensures ∙ sym (behind (count_bytes (n / group)) l (n % group + group) 0))
