use Rattle.ref_clear.proofs.Common.{◌≡◌, true, sym, ◌∙◌, rules, is_in, Sweeping}
use Rattle.ref_clear.proofs.ChainedHeaps.{sound_sweep_ended, healed_sweep_ended}
use Rattle.ref_clear.proofs.heap.Heap.end_sweep.Goals as goal

pub to_idle-requires-clause-healed : goal.to_idle-requires-clause-healed
to_idle-requires-clause-healed g c =
    let sweeping : is_in c.self.inside.marker.phase Sweeping ≡ true = search rules in
    healed_sweep_ended c.self.invariant sweeping (sym c.has_doomed.ensures ∙ c.if-has_doomed.false)

pub invariant_of-self : goal.invariant_of-self
invariant_of-self g c =
    let sweeping : is_in c.self.inside.marker.phase Sweeping ≡ true = search rules in
    sound_sweep_ended c.self.invariant sweeping (sym c.has_doomed.ensures ∙ c.if-has_doomed.false) c.to_idle.ensures
