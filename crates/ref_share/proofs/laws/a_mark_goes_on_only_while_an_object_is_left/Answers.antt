use Rattle.ref_share.proofs.ScannedRuns.{refused_left}
use Rattle.ref_share.proofs.laws.a_mark_goes_on_only_while_an_object_is_left.Goals as goal

pub returns : goal.returns
returns c = refused_left
