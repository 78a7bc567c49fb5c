-- What became of the jobs of a stress run, at worked states.
use Rattle.refrun.proofs.Common.{◌≡◌, ℕ, true, false, [], ◌∷◌, Some, None, refl, arith, IsFirstFailure}
use Rattle.refrun.specs.StressChecks.{ran_well}
use Rattle.refrun.specs.StressEvidence.{ShowsJobs}
use Rattle.refrun.specs.declared.evidence.Evidence.TheVariants as evidence
use Rattle.refrun.specs.declared.evidence.WrongRun.TheVariants.{Runs, Unasked}
use Rattle.refrun.specs.declared.outcomes.JobFate.{JobFate}

-- a job that was to run, and ran so often
abbrev runs_of : ℕ → JobFate
runs_of runs = record { is_due = true; runs = runs; is_early = false }

-- one that was taken out
abbrev taken_out : ℕ → JobFate
taken_out runs = record { is_due = false; runs = runs; is_early = false }

it_runs_once : (ran_well (runs_of 0) ≡ false) × (ran_well (runs_of 1) ≡ true) × (ran_well (runs_of 2) ≡ false)
it_runs_once = (refl, refl, refl)

it_never_runs_once_it_was_taken_out : (ran_well (taken_out 0) ≡ true) × (ran_well (taken_out 1) ≡ false)
it_never_runs_once_it_was_taken_out = (refl, refl)

it_does_not_run_while_its_object_lives : ran_well (record { is_due = true; runs = 1; is_early = true }) ≡ false
it_does_not_run_while_its_object_lives = refl

-- promise: check_lists: a job that never ran does not pass
a_job_that_never_ran_does_not_pass : ¬ (IsFirstFailure [] [] [] [] [] (runs_of 1 ∷ runs_of 0 ∷ []) None)
a_job_that_never_ran_does_not_pass passes = let ran = passes.5 1 (runs_of 1) (omega arith) in absurd cc

-- promise: check_lists: a job that ran twice does not pass
a_job_that_ran_twice_does_not_pass : ¬ (IsFirstFailure [] [] [] [] [] (runs_of 2 ∷ []) None)
a_job_that_ran_twice_does_not_pass passes = let ran = passes.5 0 (runs_of 1) (omega arith) in absurd cc

a_job_that_ran_twice_is_shown : ShowsJobs (runs_of 1 ∷ runs_of 2 ∷ []) (evidence.Job 1 (Runs 2))
a_job_that_ran_twice_is_shown = (runs_of 2, refl, (refl, refl, λ same. absurd (omega (arith, same))))

-- promise: evidence_of: that a job ran once shows nothing
a_job_that_ran_once_shows_nothing : ¬ (ShowsJobs (runs_of 1 ∷ []) (evidence.Job 0 (Runs 1)))
a_job_that_ran_once_shows_nothing (f, at, wrong) = grind arith

a_job_that_was_to_run_is_not_unasked : ¬ (ShowsJobs (runs_of 1 ∷ []) (evidence.Job 0 Unasked))
a_job_that_was_to_run_is_not_unasked (f, at, wrong) = grind arith
