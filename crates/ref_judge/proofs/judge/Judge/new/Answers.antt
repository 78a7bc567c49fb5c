use Rattle.ref_judge.proofs.FirstJudges.{first_is}
use Rattle.ref_judge.proofs.judge.Judge.new.Goals as goal

pub returns-in-Ok-clause-stands : goal.returns-in-Ok-clause-stands
returns-in-Ok-clause-stands g c =
    rw (c.in-Ok.ensures, c.in_ok-objects.ensures.1) (first_is c.args.profile c.args.config)
