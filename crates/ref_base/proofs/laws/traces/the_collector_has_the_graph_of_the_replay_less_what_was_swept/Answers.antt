use Rattle.ref_base.proofs.OutTraces.{legal_agrees}
use Rattle.ref_base.proofs.laws.traces.the_collector_has_the_graph_of_the_replay_less_what_was_swept.Goals as goal

pub returns : goal.returns
returns c = legal_agrees
