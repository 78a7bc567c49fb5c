use Rattle.ref_objects.proofs.Common.{held_at}
use Rattle.ref_objects.proofs.SlotLemmas.{unmarked-held}
use Rattle.ref_objects.proofs.objects.Objects.refers_to_unmarked_at.Goals as goal

pub returns : goal.returns
returns g c =
    rw (c.refers_to_unmarked_in.ensures, ← c.self.view_is)
    (unmarked-held c.self.invariant c.known.ensures.orderly.rising (held_at c.self.inside.table c.args.place))
