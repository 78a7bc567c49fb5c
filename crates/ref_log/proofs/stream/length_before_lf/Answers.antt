use Rattle.std.proofs.Common.{arith, length}
use Rattle.ref_log.proofs.FirstLines.{none_before}
use Rattle.ref_log.proofs.stream.length_before_lf.Goals as goal

pub returns-in-Some-clause-none : goal.returns-in-Some-clause-none
returns-in-Some-clause-none c =
    none_before c.args.bytes.now c.in-Some.length (λ k below. c.in-Some.ensures.0.before k (omega arith) below)

pub returns-in-None-clause-none : goal.returns-in-None-clause-none
returns-in-None-clause-none c =
    none_before c.args.bytes.now (length c.args.bytes.now) (λ k below. c.in-None.ensures k (omega arith) below)
