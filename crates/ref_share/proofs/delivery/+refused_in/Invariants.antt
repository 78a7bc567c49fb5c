use Rattle.ref_share.proofs.Common.{length}
use Rattle.ref_share.proofs.delivery.+refused_in.Given as goal

abbrev pub decreases-refused_in : goal.decreases-refused_in
decreases-refused_in l = length l.done.now
