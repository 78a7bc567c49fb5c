use Rattle.std.proofs.Common.{length}
use Rattle.ref_c.proofs.list.+list_outs.Given as goal

abbrev pub decreases-list_outs : goal.decreases-list_outs
decreases-list_outs l = length l.done.now
