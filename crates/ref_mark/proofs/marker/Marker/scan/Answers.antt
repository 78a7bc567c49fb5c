use Rattle.ref_mark.proofs.Common.{◌∙◌, sym, ap, targets_at, is_kept, CycleHeap, seen_marker, with_found}
use Rattle.ref_mark.proofs.Common.{Marking, is_in}
use Rattle.ref_mark.proofs.Passed.{work_passed}
use Rattle.ref_mark.specs.CycleHeaps.{cycle_healed}
use Rattle.ref_space.specs.Worklists.{entry_number}
use Rattle.ref_mark.proofs.MarkerLemmas.{may_grow, sound_scanned, sound_blackened, seen_blackened, refers_blackened}
use Rattle.ref_mark.proofs.MarkerLemmas.{shaded_greys, scan_may_find, scan_done, found_nothing}
use Rattle.ref_mark.proofs.marker.Marker.scan.Goals.{then-finds, else-finds}
use Rattle.ref_mark.proofs.SettledMoves.{marking_is_within, settled_scanned}
use Rattle.ref_mark.proofs.marker.Marker.scan.Goals as goal

pub scan-finds-requires-clause-tuned : goal.scan-finds-requires-clause-tuned
scan-finds-requires-clause-tuned g c =
    c.self.invariant.moves.tuned
    (marking_is_within c.self.inside.phase
    (ap (λ (k : CycleHeap). is_in k.phase Marking) c.self.view_is
    ∙ (work_passed c.args.self.now Marking c.args.worker c.in_ok-check_work.ensures).1))

pub scan-finds-requires-clause-room : goal.scan-finds-requires-clause-room
scan-finds-requires-clause-room g c = may_grow c.known.ensures
    (sound_scanned c.take_first.ensures.after c.self.invariant.lists)

pub invariant_of-self-then-finds : goal.invariant_of-self-then-finds
invariant_of-self-then-finds g c = record {
  lists =
      sound_blackened c.self.inside.policy c.in-Some.entry.no c.scan-finds.ensures.after c.scan-finds.ensures.listed
      (sound_scanned c.take_first.ensures.after c.self.invariant.lists) c.known-2.ensures;
  moves = settled_scanned (is_kept c.self.inside.policy) c.self.inside.objects _ c.in-Some.entry.no _ _
      c.scan-finds.ensures.after c.self.invariant.moves;
}

pub invariant_of-self-else-finds : goal.invariant_of-self-else-finds
invariant_of-self-else-finds g c = record {
  lists =
      sound_blackened c.self.inside.policy c.in-Some.entry.no c.scan-finds.ensures.after c.scan-finds.ensures.listed
      (sound_scanned c.take_first.ensures.after c.self.invariant.lists) c.known-2.ensures;
  moves = settled_scanned (is_kept c.self.inside.policy) c.self.inside.objects _ c.in-Some.entry.no _ _
      c.scan-finds.ensures.after c.self.invariant.moves;
}

pub list_found-requires-clause-white : goal.list_found-requires-clause-white
list_found-requires-clause-white g c =
    refers_blackened c.self.inside.policy c.in-Some.entry.no c.scan-finds.ensures.after c.scan-finds.ensures.listed
    (sound_scanned c.take_first.ensures.after c.self.invariant.lists) c.self.inside.cycle c.scan-finds.ensures.finds
    ∙ c.if-finds.true

pub list_found-requires-clause-may : goal.list_found-requires-clause-may
list_found-requires-clause-may g c =
    let k : CycleHeap = seen_marker c.self.inside.objects c.take_first.new.self c.self.inside.found.items
    c.self.inside.phase c.self.inside.policy c.self.inside.cycle in
    scan_may_find c.args.worker c.in-Some.entry.no c.self.view_is c.in_ok-check_work.ensures c.self.invariant.lists
    (sym c.take_first.ensures.answer ∙ ap entry_number c.in-Some.is) c.take_first.ensures.after
    (shaded_greys (cycle_healed k c.in-Some.entry.no) _
    (targets_at (is_kept k.policy) k.heap.objects c.in-Some.entry.no)
    (seen_blackened c.self.inside.policy c.in-Some.entry.no c.scan-finds.ensures.after c.scan-finds.ensures.listed
    (sound_scanned c.take_first.ensures.after c.self.invariant.lists) c.self.inside.cycle))

pub returns : goal.returns
returns g c =
    let then : CycleHeap = seen_marker c.scan-finds.new.self c.scan-finds.new.grey c.self.inside.found.items
    c.self.inside.phase c.self.inside.policy c.self.inside.cycle in
    let seen =
    seen_blackened c.self.inside.policy c.in-Some.entry.no c.scan-finds.ensures.after c.scan-finds.ensures.listed
    (sound_scanned c.take_first.ensures.after c.self.invariant.lists) c.self.inside.cycle in
    scan_done c.self.inside.objects c.self.inside.grey c.self.inside.found.items c.args.worker c.in-Some.entry.no
    c.self.view_is c.in_ok-check_work.ensures
    (sym c.take_first.ensures.answer ∙ ap entry_number c.in-Some.is) c.take_first.ensures.after
    (elim c.if-finds.branch [
      | then-finds w ↦
          w.self-is ∙ w.list_found.ensures
          ∙ ap (λ (k : CycleHeap). with_found k c.args.worker c.in-Some.entry.no) seen
      | else-finds w ↦
          w.self-is
          ∙ found_nothing then c.args.worker c.in-Some.entry.no
          (refers_blackened c.self.inside.policy c.in-Some.entry.no c.scan-finds.ensures.after
          c.scan-finds.ensures.listed (sound_scanned c.take_first.ensures.after c.self.invariant.lists)
          c.self.inside.cycle c.scan-finds.ensures.finds ∙ w.if-finds.false)
          ∙ ap (λ (k : CycleHeap). with_found k c.args.worker c.in-Some.entry.no) seen
    ])
