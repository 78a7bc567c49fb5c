use Rattle.std.proofs.Common.{length}
use Rattle.ref_c.proofs.given.+outs_behind.Given as goal

abbrev pub decreases-outs_behind : goal.decreases-outs_behind
decreases-outs_behind l = length l.list.now
