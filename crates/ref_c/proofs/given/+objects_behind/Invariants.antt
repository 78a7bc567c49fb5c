use Rattle.std.proofs.Common.{length}
use Rattle.ref_c.proofs.given.+objects_behind.Given as goal

abbrev pub decreases-objects_behind : goal.decreases-objects_behind
decreases-objects_behind l = length l.list.now
