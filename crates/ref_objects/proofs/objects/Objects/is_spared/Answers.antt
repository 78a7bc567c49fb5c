use Rattle.ref_objects.proofs.Common.{arith}
use Rattle.ref_space.proofs.TabledLemmas.{is_there-objects_of}
use Rattle.ref_objects.proofs.SoundLemmas.{marked_spared}
use Rattle.ref_objects.proofs.objects.Objects.is_spared.Goals as goal

pub returns-then-self : goal.returns-then-self
returns-then-self g c =
    grind (arith, marked_spared c.self.invariant c.known.ensures.orderly.rising c.args.no c.if-self.true)

pub returns-else-self : goal.returns-else-self
returns-else-self g c = grind (arith, is_there-objects_of)
