use Rattle.ref_clear.proofs.Common.{arith, ◌≡◌, true, sym, ◌∙◌, rules, is_in, Clearing}
use Rattle.ref_clear.proofs.ChainedHeaps.{sound_clear_ended, does_clear_ended, closed_clear_ended, room_to_list}
use Rattle.ref_clear.proofs.heap.Heap.end_clear.Goals as goal

pub to_sweeping-requires-clause-closed : goal.to_sweeping-requires-clause-closed
to_sweeping-requires-clause-closed g c = grind (arith, closed_clear_ended c.self.invariant)

pub to_sweeping-requires-clause-room : goal.to_sweeping-requires-clause-room
to_sweeping-requires-clause-room g c = grind (arith, room_to_list c.self.invariant)

pub invariant_of-self : goal.invariant_of-self
invariant_of-self g c =
    let clearing : is_in c.self.inside.marker.phase Clearing ≡ true = search rules in
    sound_clear_ended c.self.invariant clearing (sym c.has_found.ensures ∙ c.if-has_found.false)
    c.to_sweeping.ensures.after c.to_sweeping.ensures.list

pub returns : goal.returns
returns g c = grind (arith, does_clear_ended c.self.invariant)
