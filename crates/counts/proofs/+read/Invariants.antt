-- the limit, which every call divides by 128
use Rattle.counts.proofs.+read.Given as goal

abbrev pub decreases-read : goal.decreases-read
decreases-read l = l.most
