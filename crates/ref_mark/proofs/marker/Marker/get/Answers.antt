use Rattle.ref_mark.proofs.Common.{sym, ap, ◌∙◌, CycleHeap, is_past_mark}
use Rattle.ref_mark.proofs.BarrierLemmas.{get_does}
use Rattle.ref_mark.proofs.marker.Marker.get.Goals as goal

pub returns : goal.returns
returns g c =
    rw (← c.self.view_is)
    (get_does c.args.mutator c.args.into c.args.reference c.self.invariant.lists c.known.ensures
    (c.is_past_mark-hide_doomed.ensures ∙ ap (λ (k : CycleHeap). is_past_mark k.phase) (sym c.self.view_is))
    c.in_ok-value.ensures.refused c.in_ok-value.ensures.answer c.in_ok-value.ensures.after c.bar.ensures)
