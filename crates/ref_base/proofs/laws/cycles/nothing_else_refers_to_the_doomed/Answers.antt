use Rattle.ref_base.proofs.OutTraces.{doomed_out}
use Rattle.ref_base.proofs.laws.cycles.nothing_else_refers_to_the_doomed.Goals as goal

pub returns : goal.returns
returns c = doomed_out
