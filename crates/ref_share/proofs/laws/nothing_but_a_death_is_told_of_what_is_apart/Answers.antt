use Rattle.ref_share.proofs.ApartRuns.{apart_given}
use Rattle.ref_share.proofs.laws.nothing_but_a_death_is_told_of_what_is_apart.Goals as goal

pub returns : goal.returns
returns c = apart_given
