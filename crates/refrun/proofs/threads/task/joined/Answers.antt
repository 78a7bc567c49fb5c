use Rattle.std.proofs.lemmas.List.Elements.{All-rest}
use Rattle.refrun.specs.StressSeats.{IsLeftAt}
use Rattle.refrun.proofs.threads.task.joined.Goals as goal

pub loop-left-preserved : goal.loop-left-preserved
loop-left-preserved c = (
  c.join.ensures.seat,
  c.join-in-loop-left.ensures.seat,
  All-rest (IsLeftAt c.args.shared.now) _ _ _ c.in-Some.ensures.steps.0 c.loop-left.invariant.2,
)
