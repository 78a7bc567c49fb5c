use Rattle.std.proofs.Common.{length}
use Rattle.ref_c.proofs.given.+first_added.Given as goal

abbrev pub decreases-first_added : goal.decreases-first_added
decreases-first_added l = length l.list.now
