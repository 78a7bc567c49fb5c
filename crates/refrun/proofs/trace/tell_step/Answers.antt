use Rattle.refrun.proofs.Common.{jobs}
use Rattle.std.proofs.lemmas.Result.{on_ok_weaker}
use Rattle.ref_base.specs.declared.step.Step.TheVariants as steps
use Rattle.ref_script.proofs.Printing.{if_done}
use Rattle.refrun.proofs.TraceLemmas.{tells_world}
use Rattle.refrun.proofs.trace.tell_step.Goals as goal

pub returns-in-Some-clause-row : goal.returns-in-Some-clause-row
returns-in-Some-clause-row g c =
    let is = c.in-Some.ensures in
    let line = if_done (λ printed. printed) (λ w bs v e. e) c.say_line.result c.requires c.say_line.ensures in
    rw is
    (on_ok_weaker c.say_line.result
    (λ line.
    tells_world g.J.ScriptJob.number_of g.J.ScriptJob.note_of c.args.number c.args.stage.now.world c.ask.new.self
    (jobs c.args.stage.now.table c.args.stage.now.left.items) (steps.Plain c.in-Some.plain) c.ask.result
    c.reply.result _ _ c.ask.ensures.row c.reply.ensures line.0) (rw is at line))

pub returns-in-Some-clause-plain : goal.returns-in-Some-clause-plain
returns-in-Some-clause-plain g c =
    on_ok_weaker c.say_line.result (λ line. line.1)
    (if_done (λ printed. printed) (λ w bs v e. e) c.say_line.result c.requires c.say_line.ensures)
