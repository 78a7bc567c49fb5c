use Rattle.ref_share.proofs.Common.{◌≡◌, Some, subst}
use Rattle.ref_share.specs.Answers.{found, job_left_in}
use Rattle.ref_share.proofs.endings.run_tasks_left.Goals as goal

pub returns-in-Ok : goal.returns-in-Ok
returns-in-Ok g c =
    λ n hold job at. c.run_all_tasks.ensures n hold job
    (subst (λ f. job_left_in (found f) n ≡ Some (hold, job)) c.in-Ok.is at)

pub returns-in-Err-Some : goal.returns-in-Err-Some
returns-in-Err-Some g c =
    λ n hold job at. c.run_all_tasks-in-Err-Some.ensures n hold job
    (subst (λ t. job_left_in t n ≡ Some (hold, job)) c.in-Err-Some.field-0-is
    (subst (λ f. job_left_in (found f) n ≡ Some (hold, job)) c.in-Err-Some.is at))
