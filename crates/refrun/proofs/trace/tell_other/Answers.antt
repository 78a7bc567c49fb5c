use Rattle.std.proofs.lemmas.Result.{on_ok_weaker}
use Rattle.ref_script.proofs.Printing.{if_done}
use Rattle.refrun.proofs.trace.tell_other.Goals as goal

pub returns-clause-row : goal.returns-clause-row
returns-clause-row g c =
    on_ok_weaker c.say_line.result (λ line. (c.step-reply.result, c.step-reply.ensures, line.0))
    (if_done (λ printed. printed) (λ w bs v e. e) c.say_line.result c.requires c.say_line.ensures)

pub returns-clause-plain : goal.returns-clause-plain
returns-clause-plain g c =
    on_ok_weaker c.say_line.result (λ line. line.1)
    (if_done (λ printed. printed) (λ w bs v e. e) c.say_line.result c.requires c.say_line.ensures)
