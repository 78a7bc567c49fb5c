use Rattle.ref_space.proofs.PageLemmas.{fresh_address, length-fresh}
use Rattle.ref_space.proofs.laws.new_pages_have_addresses_that_follow.Goals as goal

pub returns : goal.returns
returns c = record { count = length-fresh; addresses = fresh_address }
