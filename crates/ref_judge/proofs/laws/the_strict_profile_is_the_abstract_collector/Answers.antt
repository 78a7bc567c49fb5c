use Rattle.ref_judge.proofs.StrictRows.{strict_traces}
use Rattle.ref_judge.proofs.laws.the_strict_profile_is_the_abstract_collector.Goals as goal

pub returns : goal.returns
returns c = strict_traces
