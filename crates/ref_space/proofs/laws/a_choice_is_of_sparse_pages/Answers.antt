use Rattle.ref_space.proofs.CallLemmas.{count_chosen}
use Rattle.ref_space.proofs.MoveLemmas.{none_chosen}
use Rattle.ref_space.proofs.laws.a_choice_is_of_sparse_pages.Goals as goal

pub returns-clause-count : goal.returns-clause-count
returns-clause-count c = λ ps none. count_chosen ps (none_chosen ps none)
