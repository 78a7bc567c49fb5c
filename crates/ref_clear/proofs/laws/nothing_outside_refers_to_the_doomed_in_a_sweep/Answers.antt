use Rattle.ref_clear.proofs.FoundFacts.{nothing_refers_to_the_doomed}
use Rattle.ref_clear.proofs.laws.nothing_outside_refers_to_the_doomed_in_a_sweep.Goals as goal

pub returns : goal.returns
returns c = nothing_refers_to_the_doomed
