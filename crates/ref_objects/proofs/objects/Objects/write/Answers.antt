use Rattle.ref_objects.proofs.GroundLemmas.{seen_written}
use Rattle.ref_objects.proofs.SoundLemmas.{written_sound}
use Rattle.ref_objects.proofs.objects.Objects.write.Goals as goal

pub invariant_of-self : goal.invariant_of-self
invariant_of-self g c = rw c.change.ensures (written_sound c.self.invariant c.args.no c.args.change)

pub returns : goal.returns
returns g c =
    rw (c.change.ensures, ← c.self.view_is) (seen_written c.self.invariant.ground c.args.no c.args.change)
