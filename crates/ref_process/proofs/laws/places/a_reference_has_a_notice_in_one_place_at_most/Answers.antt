use Rattle.ref_process.proofs.NoticeCounts.{placed_once}
use Rattle.ref_process.proofs.laws.places.a_reference_has_a_notice_in_one_place_at_most.Goals as goal

pub returns : goal.returns
returns c = λ o rows e run k none. placed_once rows o e run k none
