use Rattle.std.proofs.Common.{arith, ◌≡◌, ℕ, ◌∙◌, refl, sym, ap, Option, Some, None, is_some, if◌then◌else◌}
use Rattle.ref_base.specs.Graphs.{Reference}
use Rattle.ref_base.specs.Refusals.{holds_refusal}
use Rattle.std.proofs.lemmas.Result.{err_from_is_err_and}
use Rattle.ref_base.specs.declared.step.Step.TheVariants as steps
use Rattle.ref_judge.proofs.SoundJudges.{refused_does}
use Rattle.ref_judge.proofs.SpentNotices.{slot_fails}
use Rattle.ref_judge.proofs.FilledHands.{unhook_full, unhook_none, unhook_refused, unhooked_plain, unhooked_registered}
use Rattle.ref_judge.proofs.FilledHands.{holds_spent, config_cut}
use Rattle.ref_judge.proofs.StandingHands.{handed_sound}
use Rattle.ref_judge.proofs.judge.Judge.unhook.Goals as goal

no_queue : (o : Option ℕ) → ((q : ℕ) → o ≡ Some q → ⊥) → o ≡ None
no_queue None isnt = refl
no_queue (Some q) isnt = absurd (isnt q refl)

-- what is read of a reference is what it has
of_view : {r v : Reference} {q : Option ℕ} → v ≡ r → v.queue ≡ q → r.queue ≡ q
of_view view is = ap (λ (r : Reference). r.queue) (sym view) ∙ is

pub returns-in_err-slot_of : goal.returns-in_err-slot_of
returns-in_err-slot_of g c =
    let p = err_from_is_err_and c.from_residual.result c.from_residual.ensures.1 in
    rw (← c.self.view_is, p.1, p.2)
    (refused_does _ (steps.Unhook c.args.mutator c.args.slot) _
    (λ a stands. slot_fails _ a stands c.args.mutator c.args.slot _ _ c.in_err-slot_of.ensures.refused))

pub returns-in_err-check_empty : goal.returns-in_err-check_empty
returns-in_err-check_empty g c =
    let p = err_from_is_err_and c.from_residual-in_err-check_empty.result c.from_residual-in_err-check_empty.ensures.1
    in
    rw (← c.self.view_is, p.1, p.2)
    (refused_does _ (steps.Unhook c.args.mutator c.args.slot) _
    (λ a stands. unhook_full _ a stands c.args.mutator c.args.slot c.in_ok-slot_of.ensures.refused _
    c.in_err-check_empty.ensures))

pub returns-in_err-no : goal.returns-in_err-no
returns-in_err-no g c =
    let p = err_from_is_err_and c.from_residual-in_err-no.result c.from_residual-in_err-no.ensures.1 in
    rw (← c.self.view_is, p.1, p.2)
    (refused_does _ (steps.Unhook c.args.mutator c.args.slot) _
    (λ a stands. unhook_none _ a stands c.args.mutator c.args.slot c.in_ok-slot_of.ensures.refused _
    c.in_ok-check_empty.ensures c.in_err-no.ensures.refused))

pub invariant_of-self-in_default : goal.invariant_of-self-in_default
invariant_of-self-in_default g c = rw c.in_ok-cut_in.ensures.after
    (handed_sound _ _ _ _ _ _ _ (λ k. refl) c.self.invariant
    (unhooked_plain _ c.args.mutator c.args.slot _ _ c.in_ok-slot_of.ensures.refused c.in_ok-no.ensures.answer.0
    c.in_ok-no.ensures.answer.1 c.in_ok-check_empty.ensures (of_view c.reference.view_is
    (no_queue _ c.in_default.not-Some))) (config_cut _ c.args.mutator c.args.slot) refl)

pub returns-in_default : goal.returns-in_default
returns-in_default g c = rw (← c.self.view_is, c.in_ok-cut_in.ensures.after)
    (unhooked_plain _ c.args.mutator c.args.slot _ _ c.in_ok-slot_of.ensures.refused c.in_ok-no.ensures.answer.0
    c.in_ok-no.ensures.answer.1 c.in_ok-check_empty.ensures (of_view c.reference.view_is
    (no_queue _ c.in_default.not-Some)))

pub returns-then-self : goal.returns-then-self
returns-then-self g c =
    rw (← c.self.view_is)
    (refused_does _ (steps.Unhook c.args.mutator c.args.slot) _
    (λ a stands. unhook_refused _ a stands c.args.mutator c.args.slot c.in_ok-slot_of.ensures.refused _ _
    c.in_ok-no.ensures.answer.0 c.in_ok-no.ensures.answer.1 c.in_ok-check_empty.ensures
    ∙ ap (λ (q : Option ℕ). if is_some q then holds_refusal a.world.heap else None)
    (of_view c.reference.view_is c.in-Some.is)
    ∙ holds_spent _ a stands c.if-self.true))

pub invariant_of-self-2 : goal.invariant_of-self-2
invariant_of-self-2 g c = rw (c.in_ok-cut_in-2.ensures.after, c.fill_one.ensures)
    (handed_sound _ _ _ _ _ _ _ (λ k. refl) c.self.invariant
    (unhooked_registered _ c.args.mutator c.args.slot _ _ _ c.in_ok-slot_of.ensures.refused
    c.in_ok-no.ensures.answer.0 c.in_ok-no.ensures.answer.1 c.in_ok-check_empty.ensures
    (of_view c.reference.view_is c.in-Some.is)
    (let fits = c.self.ranges in grind (arith, c.if-self.false))) (config_cut _ c.args.mutator c.args.slot) refl)

pub returns : goal.returns
returns g c = rw (← c.self.view_is, c.in_ok-cut_in-2.ensures.after, c.fill_one.ensures)
    (unhooked_registered _ c.args.mutator c.args.slot _ _ _ c.in_ok-slot_of.ensures.refused
    c.in_ok-no.ensures.answer.0 c.in_ok-no.ensures.answer.1 c.in_ok-check_empty.ensures
    (of_view c.reference.view_is c.in-Some.is) (let fits = c.self.ranges in grind (arith, c.if-self.false)))
