use Rattle.ref_clear.proofs.heap.notices.+count_listed.Given as goal

abbrev pub decreases-count_listed : goal.decreases-count_listed
decreases-count_listed g l = l.max
