use Rattle.ref_space.specs.declared.cell.Change.TheVariants.{Link}
use Rattle.ref_objects.proofs.GroundLemmas.{seen_written}
use Rattle.ref_objects.proofs.SoundLemmas.{written_sound}
use Rattle.ref_objects.proofs.objects.Objects.set_link_near.Goals as goal

pub invariant_of-self : goal.invariant_of-self
invariant_of-self g c = rw c.change_near.ensures (written_sound c.self.invariant c.args.entry.no (Link c.args.to))

pub returns : goal.returns
returns g c =
    rw (c.change_near.ensures, ← c.self.view_is) (seen_written c.self.invariant.ground c.args.entry.no (Link c.args.to))
