use Rattle.ref_objects.proofs.Common.{arith, ◌≡◌, ap, sym, ◌∙◌, Reference, reference_of, slot_at}
use Rattle.ref_base.specs.CollectorRows.{referent_got}
use Rattle.ref_base.specs.Paths.{is_soft}
use Rattle.ref_objects.specs.Grounds.{read_as}
use Rattle.ref_objects.proofs.SlotLemmas.{reference-held}
use Rattle.ref_objects.proofs.GotLemmas.{was, got_answer, emptied_sound, seen_emptied, soft_sound, seen_soft}
use Rattle.ref_objects.proofs.GotLemmas.{other_sound, seen_other}
use Rattle.ref_objects.proofs.objects.Objects.get.Goals.{then-is_none, else-is_none+then-is_soft}
use Rattle.ref_objects.proofs.objects.Objects.get.Goals.{else-is_none+else-is_soft}
use Rattle.ref_objects.proofs.objects.Objects.get.Goals as goal
use Rattle.ref_objects.proofs.objects.Objects.get.Given.{Over}

pub returns-in_default-clause-refused : goal.returns-in_default-clause-refused
returns-in_default-clause-refused g c = grind (arith, reference-held c.self.invariant)

pub gets-value-requires-clause-own : goal.gets-value-requires-clause-own
gets-value-requires-clause-own g c =
    rw c.in-Some.ensures.after (sym (reference-held c.self.invariant _) ∙ sym c.in-Some.ensures.answer)

pub invariant_of-self-then-is_none : goal.invariant_of-self-then-is_none
invariant_of-self-then-is_none g c =
    emptied_sound c.self.invariant c.in-Some.ensures.after c.in_ok-place.place c.empty_slot.ensures

pub invariant_of-self-then-is_soft : goal.invariant_of-self-then-is_soft
invariant_of-self-then-is_soft g c =
    soft_sound c.self.invariant c.in-Some.ensures.after c.in_ok-held.held c.in-Some.ensures.answer c.in_ok-place.place
    c.put_soft.ensures.after c.put_soft.ensures.left

pub invariant_of-self-else-is_soft : goal.invariant_of-self-else-is_soft
invariant_of-self-else-is_soft g c =
    other_sound c.self.invariant c.in-Some.ensures.after c.in_ok-held.held c.in-Some.ensures.answer c.in_ok-place.place
    c.get_referent.ensures.after c.get_referent.ensures.left

pub returns-clause-refused : goal.returns-clause-refused
returns-clause-refused g c = grind (arith, reference-held c.self.invariant)

answer : (g : Over) (c : goal.Joined-is_none g)
    → c.gets-value.result ≡ read_as (was c.self.invariant c.in-Some.ensures.after) c.args.hide_unmarked
    (referent_got (reference_of (was c.self.invariant c.in-Some.ensures.after).heap
    (slot_at (was c.self.invariant c.in-Some.ensures.after).heap c.args.mutator c.args.from)))
answer g c =
    got_answer c.self.invariant c.in-Some.ensures.after c.in_ok-held.held c.in-Some.ensures.answer c.args.hide_unmarked
    c.gets-value.result c.gets-value.ensures c.args.mutator c.args.from c.in_ok-held.ensures.place.1

pub returns-clause-answer : goal.returns-clause-answer
returns-clause-answer g c = rw (← c.self.view_is) (answer g c)

pub returns-clause-after : goal.returns-clause-after
returns-clause-after g c =
    rw (← c.self.view_is, ← answer g c)
    (elim c.if-is_none.branch [
      | then-is_none w ↦
          w.self-is
          ∙ seen_emptied c.self.invariant c.in-Some.ensures.after c.args.mutator c.args.into c.args.from
          c.in_ok-place.place c.gets-value.result w.empty_slot.ensures w.if-is_none.ensures
          c.in_ok-place.ensures.place.1
      | else-is_none+then-is_soft w ↦
          w.self-is
          ∙ seen_soft c.self.invariant c.in-Some.ensures.after c.in_ok-held.held c.in-Some.ensures.answer
          c.args.hide_unmarked c.gets-value.result c.gets-value.ensures c.args.mutator c.args.from
          c.in_ok-held.ensures.place.1 w.if-is_none.ensures c.args.into c.in_ok-place.place
          c.in_ok-place.ensures.place.1
          (ap (λ (r : Reference). is_soft r.strength) (sym c.reference.view_is) ∙ sym w.is_soft.ensures
          ∙ w.if-is_soft.true)
          w.put_soft.ensures.after w.put_soft.ensures.left
      | else-is_none+else-is_soft w ↦
          w.self-is
          ∙ seen_other c.self.invariant c.in-Some.ensures.after c.in_ok-held.held c.in-Some.ensures.answer
          c.args.hide_unmarked c.gets-value.result c.gets-value.ensures c.args.mutator c.args.from
          c.in_ok-held.ensures.place.1 w.if-is_none.ensures c.args.into c.in_ok-place.place
          c.in_ok-place.ensures.place.1
          (ap (λ (r : Reference). is_soft r.strength) (sym c.reference.view_is) ∙ sym w.is_soft.ensures
          ∙ w.if-is_soft.false)
          w.get_referent.ensures.after w.get_referent.ensures.left
    ])
