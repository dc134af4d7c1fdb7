-- the count, which every call divides by 128
use Rattle.counts.proofs.+put.Given as goal

abbrev pub decreases-put : goal.decreases-put
decreases-put l = l.count
