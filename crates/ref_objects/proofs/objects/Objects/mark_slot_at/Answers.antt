use Rattle.ref_objects.proofs.Common.{held_at}
use Rattle.ref_objects.proofs.SlotLemmas.{anew_if-seen, marked_if-seen, marked_if-sound}
use Rattle.ref_objects.proofs.objects.Objects.mark_slot_at.Goals as goal

pub invariant_of-self : goal.invariant_of-self
invariant_of-self g c =
    rw c.mark_in.ensures.after
    (marked_if-sound c.self.invariant c.known.ensures.orderly.rising (held_at c.self.inside.table c.args.place))

pub returns-clause-answer : goal.returns-clause-answer
returns-clause-answer g c =
    rw (c.mark_in.ensures.answer, ← c.self.view_is)
    (anew_if-seen c.self.invariant c.known.ensures.orderly.rising (held_at c.self.inside.table c.args.place))

pub returns-clause-after : goal.returns-clause-after
returns-clause-after g c =
    rw (c.mark_in.ensures.after, ← c.self.view_is)
    (marked_if-seen c.self.invariant c.known.ensures.orderly.rising (held_at c.self.inside.table c.args.place))
