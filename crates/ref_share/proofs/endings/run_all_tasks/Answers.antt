use Rattle.ref_share.proofs.Common.{◌≡◌, []}
use Rattle.std.proofs.Common.{rules}
use Rattle.ref_share.proofs.JobsLeft.{one_more_run, all_were_run}
use Rattle.ref_share.proofs.endings.run_all_tasks.Goals as goal

pub loop-hold-preserved : goal.loop-hold-preserved
loop-hold-preserved g c =
    one_more_run _ c.args.table c.loop-hold.table c.take_any.new.self c.in-Some.field-0-0 c.in-Some.hold c.in-Some.task
    c.loop-hold.invariant c.in-Some.ensures.0 c.run.ensures.run

pub returns : goal.returns
returns g c =
    let none : c.loop-hold.table.jobs ≡ [] = search rules in
    all_were_run _ c.args.table c.loop-hold.table c.loop-hold.invariant none
