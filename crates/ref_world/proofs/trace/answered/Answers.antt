use Rattle.ref_world.proofs.Common.{refl, arith}
use Rattle.ref_world.proofs.InsideHeaps.{each_more}
use Rattle.ref_world.proofs.RunLemmas.{step_taken, runs_more}
use Rattle.ref_world.proofs.trace.answered.Goals as goal

pub loop-step-init : goal.loop-step-init
loop-step-init g c = record {
  steps = rw c.in-Ok.ensures.items refl;
  run = rw c.in-Ok.ensures.items (λ a stands. (a, refl, stands));
  does = rw c.in-Ok.ensures.items refl;
  count = c.in-Ok.ensures.len;
  room = omega (arith, c.in-Ok.ensures.capacity, c.len.ensures);
}

pub loop-step-preserved : goal.loop-step-preserved
loop-step-preserved g c =
    let done = c.loop-step.invariant in
    record {
      steps =
          rw c.push_reserved.ensures.items
          (step_taken c.args.steps.items c.deref-step-items.result.now c.loop-step.step-index c.step-item.result
          c.loop-step.rows.items c.step-reply.result c.deref-step-items.ensures.value c.loop-step-test.true
          c.step-item.is done.steps);
      run =
          rw c.push_reserved.ensures.items
          (runs_more c.args.world c.loop-step.world c.step-reply.new.self c.loop-step.rows.items c.step-item.result
          c.step-reply.result done.run c.step-reply.ensures.row);
      does =
          rw c.push_reserved.ensures.items
          (each_more c.args.world c.loop-step.world c.step-reply.new.self c.loop-step.rows.items c.step-item.result
          c.step-reply.result done.does c.step-reply.ensures.row c.step-reply.ensures.does);
      count = omega (arith, c.push_reserved.ensures.len, done.count);
      room = omega (arith, c.push_reserved.ensures.capacity, done.room);
    }
