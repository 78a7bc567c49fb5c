use Rattle.ref_judge.proofs.FirstJudges.{first_sound}
use Rattle.ref_judge.proofs.judge.with_objects.Goals as goal

pub invariant_of-result : goal.invariant_of-result
invariant_of-result g c =
    rw (
      c.in_ok-hands.ensures,
      c.in_ok-lines.ensures,
      c.in_ok-workers.ensures,
      c.in_ok-grey.ensures,
      c.in_ok-doomed.ensures,
      c.requires,
    ) (first_sound c.args.profile c.args.config)
