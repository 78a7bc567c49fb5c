use Rattle.ref_share.proofs.QueueRuns.{nothing_after_close}
use Rattle.ref_share.proofs.laws.nothing_is_put_in_behind_a_close.Goals as goal

pub returns : goal.returns
returns c = nothing_after_close
