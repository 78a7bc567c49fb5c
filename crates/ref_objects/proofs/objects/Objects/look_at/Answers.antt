use Rattle.ref_objects.proofs.Common.{arith}
use Rattle.ref_objects.proofs.LookLemmas.{look_seen, looked_seen}
use Rattle.ref_objects.proofs.SoundLemmas.{looked_sound}
use Rattle.ref_objects.proofs.objects.Objects.look_at.Goals as goal

pub invariant_of-self : goal.invariant_of-self
invariant_of-self g c =
    grind (arith, looked_sound c.self.invariant c.known.ensures.orderly.rising c.args.no c.args.cycle)

pub returns-clause-answer : goal.returns-clause-answer
returns-clause-answer g c =
    grind (arith, look_seen c.self.invariant.ground c.args.no c.known.ensures.orderly.rising)

pub returns-clause-after : goal.returns-clause-after
returns-clause-after g c =
    grind (arith, looked_seen c.self.invariant.ground c.args.no c.known.ensures.orderly.rising c.args.cycle)
