use Rattle.ref_base.proofs.Common.{◌≡◌, ℕ, ◌<◌, List, Option, None, ap, sym, subst, ◌∙◌, ◌∷◌, [], get_or, length}
use Rattle.ref_base.specs.Paths.{present}
use Rattle.ref_objects.specs.Grounds.{Ground}
use Rattle.ref_judge.proofs.SpreadLemmas.{shades_item, room_for_value, shades_value, shades_no_value, present-parts}
use Rattle.ref_judge.proofs.marks.shade_slots.Goals as goal
use Rattle.ref_judge.proofs.marks.shade_slots.Goals.{in-Some, in_default}

pub push-requires : goal.push-requires
push-requires g c =
    room_for_value c.loop-place.objects c.loop-place.grey c.loop-place.invariant.grows _ c.in-Some.entry.no
    c.mark_slot_at.new.self (sym c.in-Some.ensures.answer) c.in-Some.ensures.after c.known.ensures

pub loop-place-preserved : goal.loop-place-preserved
loop-place-preserved g c =
    let so_far = c.loop-place.invariant in
    let place : ℕ = c.loop-place.place in
    let slots : c.loop-place.objects.heap.slots ≡ c.args.objects.now.heap.slots =
    ap (λ (x : Ground). x.heap.slots) so_far.same in
    let within : place < length c.args.objects.now.heap.slots =
    subst (λ (k : ℕ). place < k) c.slot_count-place-end.ensures c.loop-place-test.true in
    shades_item present present-parts _ _ _ _ _ _ None _ _ _ within
    (ap (λ (vs : List (Option ℕ)). present (get_or vs place None ∷ [])) (sym slots)) so_far
    (elim c.match-mark_slot_at.branch [
      | in-Some w ↦
          shades_value c.loop-place.objects c.loop-place.grey so_far.grows _ w.in-Some.entry.no _ _
          (sym w.in-Some.ensures.answer) w.in-Some.ensures.after (w.grey-is ∙ w.push.ensures)
      | in_default w ↦
          shades_no_value c.loop-place.objects c.loop-place.grey so_far.grows _ _ _
          (sym w.in_default.ensures.answer) w.in_default.ensures.after w.grey-is
    ])
