use Rattle.ref_judge.proofs.Loosening.{traces_looser, any_order}
use Rattle.ref_judge.proofs.laws.any_order_only_adds_traces.Goals as goal

pub returns : goal.returns
returns c = λ profile config rows is. traces_looser profile _ (any_order profile is) config rows
