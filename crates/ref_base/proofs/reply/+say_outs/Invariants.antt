use Rattle.ref_base.proofs.Common.{length}
use Rattle.ref_base.proofs.reply.+say_outs.Given as goal

abbrev pub decreases-say_outs : goal.decreases-say_outs
decreases-say_outs g l = length l.done.now
