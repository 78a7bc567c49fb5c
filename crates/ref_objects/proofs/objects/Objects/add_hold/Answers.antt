use Rattle.ref_objects.proofs.Common.{arith}
use Rattle.ref_objects.proofs.SoundLemmas.{held_sound, held_seen, may_hold_spared}
use Rattle.ref_objects.proofs.objects.Objects.add_hold.Goals as goal

pub invariant_of-self : goal.invariant_of-self
invariant_of-self g c =
    rw c.add_hold-is_held.ensures.after
    (held_sound c.self.invariant c.known.ensures.orderly.rising c.args.no c.self.view_is
    c.add_hold-is_held.result c.add_hold-is_held.ensures.there c.from.ensures)

pub returns-clause-spared : goal.returns-clause-spared
returns-clause-spared g c = grind (arith, may_hold_spared c.self.invariant c.known.ensures.orderly.rising c.args.no)

pub returns-clause-after : goal.returns-clause-after
returns-clause-after g c =
    rw c.add_hold-is_held.ensures.after
    (held_seen c.self.invariant c.known.ensures.orderly.rising c.args.no c.self.view_is
    c.add_hold-is_held.result c.add_hold-is_held.ensures.there)
