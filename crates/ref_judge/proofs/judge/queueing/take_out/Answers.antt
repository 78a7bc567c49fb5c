use Rattle.std.proofs.Common.{arith}
use Rattle.ref_judge.proofs.TakenNumbers.{remove-first, without-all, lacks-next}
use Rattle.ref_judge.proofs.judge.queueing.take_out.Goals as goal

pub returns-then-eq : goal.returns-then-eq
returns-then-eq g c = grind (arith, remove-first)

pub loop-place-preserved : goal.loop-place-preserved
loop-place-preserved g c = grind (arith, lacks-next)

pub returns : goal.returns
returns g c = grind (arith, without-all)
