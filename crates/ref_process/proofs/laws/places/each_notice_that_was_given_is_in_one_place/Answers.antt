use Rattle.ref_process.proofs.NoticeCounts.{run_counts}
use Rattle.ref_process.proofs.laws.places.each_notice_that_was_given_is_in_one_place.Goals as goal

pub returns : goal.returns
returns c = λ o rows e run k. run_counts k rows o e run
