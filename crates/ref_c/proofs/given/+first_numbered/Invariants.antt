use Rattle.std.proofs.Common.{length}
use Rattle.ref_c.proofs.given.+first_numbered.Given as goal

abbrev pub decreases-first_numbered : goal.decreases-first_numbered
decreases-first_numbered l = length l.faults.now
