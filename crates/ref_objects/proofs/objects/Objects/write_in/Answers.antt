use Rattle.ref_objects.proofs.SlotLemmas.{written_in_sound, seen_written_in}
use Rattle.ref_objects.proofs.objects.Objects.write_in.Goals as goal

pub invariant_of-self : goal.invariant_of-self
invariant_of-self g c =
    rw c.change_in.ensures
    (written_in_sound c.self.invariant c.args.place c.args.no c.args.change c.self.view_is c.requires.own)

pub returns : goal.returns
returns g c =
    rw c.change_in.ensures
    (seen_written_in c.self.invariant c.args.place c.args.no c.args.change c.self.view_is c.requires.own)
