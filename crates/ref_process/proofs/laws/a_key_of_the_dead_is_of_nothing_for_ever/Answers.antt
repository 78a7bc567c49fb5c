use Rattle.ref_process.proofs.PlaceRounds.{past_none}
use Rattle.ref_process.proofs.RunKeys.{buries_past, run_past}
use Rattle.ref_process.proofs.laws.a_key_of_the_dead_is_of_nothing_for_ever.Goals as goal

pub returns : goal.returns
returns c = λ b k d buries rows e run. past_none e.desk.places k (run_past rows d e run k (buries_past b k d buries))
