use Rattle.ref_base.proofs.OutTraces.{legal_others}
use Rattle.ref_base.proofs.laws.traces.the_hands_and_queues_of_the_replay_are_those_of_the_state.Goals as goal

pub returns : goal.returns
returns c = legal_others
