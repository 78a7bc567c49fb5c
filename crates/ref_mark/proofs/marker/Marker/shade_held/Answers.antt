use Rattle.ref_mark.proofs.Common.{arith, ◌≡◌, ℕ, ◌+◌, Option, Some, sym, ap, refl, subst, ◌∙◌, Heap, least_from}
use Rattle.ref_mark.proofs.Common.{IsInOrder, CycleHeap, shaded}
use Rattle.ref_mark.proofs.LoopLemmas.{IsHeldFrom, held_from_first, held_after_turn, fewer_after_turn, shaded_once-heap}
use Rattle.ref_mark.proofs.marker.Marker.shade_held.Goals as goal

pub loop-held-init : goal.loop-held-init
loop-held-init g c =
    let start : CycleHeap = c.args.self.now in
    let first : c.held_from-held.result ≡ least_from start.heap.holds 0 =
    subst (λ (k : CycleHeap). c.held_from-held.result ≡ least_from k.heap.holds 0) c.self.view_is
    c.held_from-held.ensures in
    let order : IsInOrder start.heap.holds =
    subst (λ (k : CycleHeap). IsInOrder k.heap.holds) c.self.view_is c.known.ensures.held in (
      subst (λ (next : Option ℕ). IsHeldFrom start start next start.heap.holds) (sym first)
          (held_from_first start start.heap.holds),
      refl,
      order,
    )

pub loop-held-smaller : goal.loop-held-smaller
loop-held-smaller g c = grind (arith, fewer_after_turn)

pub loop-held-preserved : goal.loop-held-preserved
loop-held-preserved g c =
    let start : CycleHeap = c.args.self.now in
    let k : CycleHeap = c.loop-held.self in
    let holds = start.heap.holds in
    let now : IsHeldFrom start k (Some c.in-Some.no) holds =
    subst (λ (next : Option ℕ). IsHeldFrom start k next holds) c.in-Some.is c.loop-held.invariant.0 in
    let heap : c.shade.new.self.heap ≡ start.heap =
    ap (λ (j : CycleHeap). j.heap) c.shade.ensures ∙ shaded_once-heap k c.in-Some.no ∙ c.loop-held.invariant.1 in
    let next : c.held_after-held.result ≡ least_from holds (c.in-Some.no + 1) =
    subst (λ (j : CycleHeap). c.held_after-held.result ≡ least_from j.heap.holds
    (c.in-Some.no + 1)) c.self-in-Some.view_is
    c.held_after-held.ensures ∙ ap (λ (h : Heap). least_from h.holds (c.in-Some.no + 1)) heap in (
      subst (λ (j : CycleHeap). IsHeldFrom start j c.held_after-held.result holds) (sym c.shade.ensures)
          (subst (λ (n : Option ℕ). IsHeldFrom start (shaded k c.in-Some.no) n holds) (sym next)
          (held_after_turn start k c.in-Some.no holds c.loop-held.invariant.2 now)),
      heap,
      c.loop-held.invariant.2,
    )
