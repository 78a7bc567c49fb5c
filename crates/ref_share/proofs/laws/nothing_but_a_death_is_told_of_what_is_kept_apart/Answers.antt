use Rattle.ref_share.proofs.KeptRuns.{kept_given}
use Rattle.ref_share.proofs.laws.nothing_but_a_death_is_told_of_what_is_kept_apart.Goals as goal

pub returns : goal.returns
returns c = kept_given
