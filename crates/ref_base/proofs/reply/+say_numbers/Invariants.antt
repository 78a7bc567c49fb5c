use Rattle.ref_base.proofs.Common.{length}
use Rattle.ref_base.proofs.reply.+say_numbers.Given as goal

abbrev pub decreases-say_numbers : goal.decreases-say_numbers
decreases-say_numbers g l = length l.numbers.now
