use Rattle.std.proofs.Common.{subst}
use Rattle.ref_judge.specs.Judged.{Judged}
use Rattle.ref_judge.specs.Standing.{IsLegalIn}
use Rattle.ref_judge.proofs.judge.Judge.first_legal.Goals as goal

pub returns-in-Ok : goal.returns-in-Ok
returns-in-Ok g c = (
  c.requires,
  subst (λ (j : Judged). IsLegalIn j c.args.step c.in-Some.reply) c.loop-at.invariant c.in-Ok.ensures,
)
