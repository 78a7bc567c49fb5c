use Rattle.refrun.proofs.Common.{◌≡◌, All, subst, sym, IsSeatedAt}
use Rattle.std.proofs.lemmas.List.Elements.{All-push, All-rest}
use Rattle.refrun.proofs.threads.making.all_made.Goals as goal

pub loop-task-preserved : goal.loop-task-preserved
loop-task-preserved g c = (
  All-rest (λ task. IsSeatedAt c.args.shared.now task) _ _ _ c.in-Some.ensures.steps.0 c.loop-task.invariant.0,
  subst (All (λ thread. thread.promise.0.now ≡ c.args.shared.now)) (sym c.in-Ok.ensures.items)
      (All-push (λ thread. thread.promise.0.now ≡ c.args.shared.now) _ _ c.loop-task.invariant.1
      c.in_ok-thread.ensures),
)
