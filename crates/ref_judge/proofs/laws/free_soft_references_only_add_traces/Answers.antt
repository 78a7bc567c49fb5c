use Rattle.ref_judge.proofs.Loosening.{traces_looser, free_soft}
use Rattle.ref_judge.proofs.laws.free_soft_references_only_add_traces.Goals as goal

pub returns : goal.returns
returns c = λ profile. traces_looser profile _ (free_soft profile)
