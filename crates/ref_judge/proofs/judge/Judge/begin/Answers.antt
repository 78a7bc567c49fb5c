use Rattle.ref_base.proofs.Common.{◌≡◌, None, refl, sym, ap, subst, ◌∙◌}
use Rattle.ref_base.specs.Heaps.{with_clock}
use Rattle.ref_base.specs.Refusals.{begin_refusal}
use Rattle.ref_objects.specs.Grounds.{Ground, marks_begun, ground_with_heap}
use Rattle.ref_judge.specs.Judged.{Judged}
use Rattle.ref_judge.proofs.BegunJudges.{begun_ground, begun_kept, begun_more, made_does, made_sound}
use Rattle.ref_judge.proofs.judge.Judge.begin.Goals as goal
use Rattle.ref_judge.proofs.judge.Judge.begin.Goals.{then-not-self, else-not-self}

pub invariant_of-self : goal.invariant_of-self
invariant_of-self g c =
    let begun : c.begin_marks.new.self ≡ begun_ground c.self.inside.objects c.args.now =
    c.begin_marks.ensures ∙ ap (λ (x : Ground). marks_begun x c.of_cycle.result) c.set_clock.ensures
    ∙ ap (marks_begun (ground_with_heap c.self.inside.objects (with_clock c.self.inside.objects.heap c.args.now)))
    c.of_cycle.ensures in
    let next : c.next_no-self-inside.result ≡ c.self.inside.objects.next =
    c.next_no-self-inside.ensures ∙ ap (λ (x : Ground). x.next) c.set_clock.ensures in
    let none : begin_refusal c.self.inside.phase c.self.inside.objects.heap.clock c.self.inside.cycle c.args.now ≡ None
    =
    subst (λ (j : Judged). begin_refusal j.phase j.ground.heap.clock j.cycle c.args.now ≡ None) (sym c.self.view_is)
    c.in_ok-check_begin.ensures in
    elim c.if-not-self.branch [
      | then-not-self w ↦
          rw w.self-inside-is
          (made_sound _ c.self.invariant c.args.now c.args.urgency w.mark_kept.new.objects _ _ _ w.mark_kept.new.grey _
          (begun_kept _ _ _ c.begin_marks.new.self _ _ _ _ begun c.forget_found.ensures c.policy-self-inside.ensures
          w.policy_as-policy.ensures
          (rw (w.deref.ensures.value, w.deref-then-not-self.ensures.value) at w.mark_kept.ensures.kept))
          c.forget_found.ensures c.policy-self-inside.ensures next w.mark_kept.ensures.none w.mark_kept.ensures.room
          none (rw w.self-inside-is at c.is_any_left-self-inside.ensures))
      | else-not-self w ↦
          rw w.self-inside-is
          (made_sound _ c.self.invariant c.args.now c.args.urgency c.begin_marks.new.self _ _ _ _ _
          (begun_more _ _ _ _ begun w.if-not-self.false)
          c.forget_found.ensures c.policy-self-inside.ensures next c.self.invariant.settled.none_grey refl
          none (rw w.self-inside-is at c.is_any_left-self-inside.ensures))
    ]

pub returns : goal.returns
returns g c =
    let begun : c.begin_marks.new.self ≡ begun_ground c.self.inside.objects c.args.now =
    c.begin_marks.ensures ∙ ap (λ (x : Ground). marks_begun x c.of_cycle.result) c.set_clock.ensures
    ∙ ap (marks_begun (ground_with_heap c.self.inside.objects (with_clock c.self.inside.objects.heap c.args.now)))
    c.of_cycle.ensures in
    let next : c.next_no-self-inside.result ≡ c.self.inside.objects.next =
    c.next_no-self-inside.ensures ∙ ap (λ (x : Ground). x.next) c.set_clock.ensures in
    let none : begin_refusal c.self.inside.phase c.self.inside.objects.heap.clock c.self.inside.cycle c.args.now ≡ None
    =
    subst (λ (j : Judged). begin_refusal j.phase j.ground.heap.clock j.cycle c.args.now ≡ None) (sym c.self.view_is)
    c.in_ok-check_begin.ensures in
    elim c.if-not-self.branch [
      | then-not-self w ↦
          rw (← c.self.view_is, w.self-inside-is)
          (made_does _ c.self.invariant c.args.now c.args.urgency w.mark_kept.new.objects _ _ _ w.mark_kept.new.grey _
          (begun_kept _ _ _ c.begin_marks.new.self _ _ _ _ begun c.forget_found.ensures c.policy-self-inside.ensures
          w.policy_as-policy.ensures
          (rw (w.deref.ensures.value, w.deref-then-not-self.ensures.value) at w.mark_kept.ensures.kept))
          c.forget_found.ensures c.policy-self-inside.ensures next w.mark_kept.ensures.none w.mark_kept.ensures.room
          none (rw w.self-inside-is at c.is_any_left-self-inside.ensures))
      | else-not-self w ↦
          rw (← c.self.view_is, w.self-inside-is)
          (made_does _ c.self.invariant c.args.now c.args.urgency c.begin_marks.new.self _ _ _ _ _
          (begun_more _ _ _ _ begun w.if-not-self.false)
          c.forget_found.ensures c.policy-self-inside.ensures next c.self.invariant.settled.none_grey refl
          none (rw w.self-inside-is at c.is_any_left-self-inside.ensures))
    ]
