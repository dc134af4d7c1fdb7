-- the count, which every call divides by 128
use Rattle.counts.proofs.+groups.Given as goal

abbrev pub decreases-groups : goal.decreases-groups
decreases-groups l = l.count
