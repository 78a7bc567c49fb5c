use Rattle.std.proofs.lemmas.List.Elements.{All-rest}
use Rattle.refrun.specs.CleaningSeats.{IsCleanSeated}
use Rattle.refrun.proofs.SeatLists.{seated_more}
use Rattle.refrun.proofs.threads.task.tasks.Goals as goal

pub loop-cleaning-preserved : goal.loop-cleaning-preserved
loop-cleaning-preserved g c = (
  c.task_of.ensures.seats.0,
  c.task_of.ensures.seats.1,
  seated_more c.args.shared.now _ _ _ c.loop-cleaning.invariant.2 c.task_of.ensures.seated c.in_ok-push.ensures.items,
  All-rest (λ station. IsCleanSeated station) _ _ _ c.in-Some.ensures.steps.0 c.loop-cleaning.invariant.3,
)
