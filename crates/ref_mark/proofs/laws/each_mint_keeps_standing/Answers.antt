use Rattle.ref_mark.proofs.HoldRows.{each_mint}
use Rattle.ref_mark.proofs.laws.each_mint_keeps_standing.Goals as goal

pub returns : goal.returns
returns c = each_mint
