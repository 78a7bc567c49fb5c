use Rattle.std.proofs.Common.{ap, false}
use Rattle.ref_space.proofs.BitLemmas.{bits_of-all}
use Rattle.ref_space.proofs.page.Page.fresh.Goals as goal

pub returns : goal.returns
returns c = ap (λ bs. record { address = c.args.address; frame = c.args.frame; chosen = false; free = bs }) bits_of-all
