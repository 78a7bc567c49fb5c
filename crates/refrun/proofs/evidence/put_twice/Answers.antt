use Rattle.refrun.proofs.Common.{sym, arith}
use Rattle.refrun.proofs.NoEvidence.{next_distinct, next_lacks, none_distinct}
use Rattle.refrun.proofs.evidence.put_twice.Goals as goal

pub loop-again-init : goal.loop-again-init
loop-again-init c = none_distinct

pub loop-first-preserved : goal.loop-first-preserved
loop-first-preserved c =
    next_lacks _ _ _ (omega arith) c.index-enqueued-first.is _ c.loop-first.invariant (sym c.if-eq.ensures)

pub loop-again-preserved : goal.loop-again-preserved
loop-again-preserved c = grind (arith, next_distinct)
