use Rattle.refrun.proofs.Common.{◌≡◌, false, sym, ◌∙◌, arith, has}
use Rattle.refrun.proofs.NoEvidence.{has-any, next_of_all}
use Rattle.refrun.proofs.evidence.number_of_both.Goals as goal

pub loop-number-preserved : goal.loop-number-preserved
loop-number-preserved c =
    next_of_all c.args.list.now c.loop-number.number-index c.number-item.result (omega arith) c.number-item.is
    (λ n. has c.args.others.now n ≡ false) c.loop-number.invariant
    (has-any c.args.others.now c.number-item.result ∙ sym c.if-contains.ensures.value)
