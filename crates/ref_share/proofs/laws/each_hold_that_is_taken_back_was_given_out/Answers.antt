use Rattle.ref_share.proofs.HeldRuns.{spent_was_minted}
use Rattle.ref_share.proofs.laws.each_hold_that_is_taken_back_was_given_out.Goals as goal

pub returns : goal.returns
returns c = spent_was_minted
