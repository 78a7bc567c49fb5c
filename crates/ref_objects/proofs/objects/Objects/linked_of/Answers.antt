use Rattle.ref_objects.proofs.LookLemmas.{linked_seen}
use Rattle.ref_objects.proofs.objects.Objects.linked_of.Goals as goal

pub returns : goal.returns
returns g c =
    rw (c.linked.ensures, ← c.self.view_is) (linked_seen c.self.invariant.ground c.args.no)
