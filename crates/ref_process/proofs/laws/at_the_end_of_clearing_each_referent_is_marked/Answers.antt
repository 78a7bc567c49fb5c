use Rattle.ref_process.proofs.RunEnds.{ends_marked}
use Rattle.ref_process.proofs.laws.at_the_end_of_clearing_each_referent_is_marked.Goals as goal

pub returns : goal.returns
returns c = ends_marked
