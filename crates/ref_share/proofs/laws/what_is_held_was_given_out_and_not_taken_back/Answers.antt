use Rattle.ref_share.proofs.HeldRuns.{held_is_minted}
use Rattle.ref_share.proofs.laws.what_is_held_was_given_out_and_not_taken_back.Goals as goal

pub returns : goal.returns
returns c = held_is_minted
