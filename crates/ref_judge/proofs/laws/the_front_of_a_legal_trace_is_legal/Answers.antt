use Rattle.ref_judge.proofs.Verdicts.{front_is_legal}
use Rattle.ref_judge.proofs.laws.the_front_of_a_legal_trace_is_legal.Goals as goal

pub returns : goal.returns
returns c = front_is_legal
