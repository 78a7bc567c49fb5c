use Rattle.ref_judge.proofs.Loosening.{traces_looser, keeping_more}
use Rattle.ref_judge.proofs.laws.keeping_more_only_adds_traces.Goals as goal

pub returns : goal.returns
returns c = λ profile. traces_looser profile _ (keeping_more profile)
