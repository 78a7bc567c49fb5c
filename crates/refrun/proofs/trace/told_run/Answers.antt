use Rattle.refrun.proofs.Common.{ap, arith, refl, jobs}
use Rattle.std.specs.Result.{is_ok}
use Rattle.ref_script.proofs.Printing.{stands_behind}
use Rattle.refrun.proofs.TraceLemmas.{tells_nothing_yet, tells_more}
use Rattle.refrun.proofs.trace.told_run.Goals as goal

pub loop-step-init : goal.loop-step-init
loop-step-init g c =
    let title =
    stands_behind (λ printed. printed) (λ w bs v e. e)
    (c.write_str.ensures.writes c.new-trace.ensures.plain (ap is_ok c.in-Ok.is)) in (
      rw (title.0, c.new-trace.ensures.writer, c.in_ok-text.ensures, c.trace_title.ensures)
          (tells_nothing_yet g.J.ScriptJob.number_of g.J.ScriptJob.note_of c.args.rule c.args.stage.now.world
          (jobs c.args.stage.now.table c.args.stage.now.left.items)),
      refl,
      title.1,
    )

pub loop-step-preserved : goal.loop-step-preserved
loop-step-preserved g c =
    let told = c.loop-step.invariant in (
      tells_more g.J.ScriptJob.number_of g.J.ScriptJob.note_of c.args.rule _ _ _ _ _ _ c.args.steps.now
          c.loop-step.step-index c.loop-step.number c.step-item.result _ _ told.0 told.1 c.loop-step-test.true
          c.step-item.is c.in-Ok-tell_step.ensures.row,
      omega (arith, told.1),
      c.in-Ok-tell_step.ensures.plain,
    )
