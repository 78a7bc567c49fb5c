use Rattle.ref_objects.proofs.Common.{arith}
use Rattle.ref_objects.proofs.MarkLemmas.{is_unmarked-tabled}
use Rattle.ref_objects.proofs.MarkedLemmas.{seen_marked}
use Rattle.ref_objects.proofs.SoundLemmas.{marked_sound}
use Rattle.ref_objects.proofs.objects.Objects.mark.Goals as goal

pub invariant_of-self : goal.invariant_of-self
invariant_of-self g c =
    rw c.mark.ensures.after (marked_sound c.self.invariant c.known.ensures.orderly.rising c.args.no)

pub returns-clause-answer : goal.returns-clause-answer
returns-clause-answer g c = grind (arith, is_unmarked-tabled)

pub returns-clause-after : goal.returns-clause-after
returns-clause-after g c =
    grind (arith, seen_marked c.self.invariant.ground c.known.ensures.orderly.rising c.args.no)
