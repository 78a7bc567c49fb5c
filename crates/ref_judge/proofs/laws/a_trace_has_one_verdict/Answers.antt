use Rattle.ref_judge.proofs.Verdicts.{one_verdict}
use Rattle.ref_judge.proofs.laws.a_trace_has_one_verdict.Goals as goal

pub returns : goal.returns
returns c = one_verdict
