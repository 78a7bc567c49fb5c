use Rattle.ref_share.proofs.RegisteredSeats.{found_dead_as_it_ran}
use Rattle.ref_share.proofs.laws.a_job_of_what_is_kept_apart_runs_once_its_object_was_found_dead.Goals as goal

pub returns : goal.returns
returns g c = found_dead_as_it_ran
