use Rattle.std.proofs.Common.{arith, append_assoc}
use Rattle.std.proofs.lemmas.List.{take_more}
use Rattle.ref_judge.proofs.PutNumbers.{linked-more}
use Rattle.ref_judge.proofs.judge.queueing.put_in.Goals as goal

pub loop-no-preserved : goal.loop-no-preserved
loop-no-preserved g c = grind (arith, linked-more, take_more, append_assoc)
