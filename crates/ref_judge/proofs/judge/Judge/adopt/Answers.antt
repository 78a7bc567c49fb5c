use Rattle.std.proofs.Common.{◌∙◌, refl}
use Rattle.std.proofs.lemmas.Result.{err_from_is_err_and}
use Rattle.ref_base.proofs.RowForms.{unless_passes}
use Rattle.ref_base.specs.declared.actor.Actor.TheVariants.{Mutator}
use Rattle.ref_base.specs.declared.step.Step.TheVariants as steps
use Rattle.ref_judge.proofs.SoundJudges.{refused_does}
use Rattle.ref_judge.proofs.SpentNotices.{slot_fails, adopt_refusal, one_held, adopted}
use Rattle.ref_judge.proofs.StandingHands.{handed_sound}
use Rattle.ref_judge.proofs.judge.Judge.adopt.Goals as goal

pub returns-in_err-slot_of : goal.returns-in_err-slot_of
returns-in_err-slot_of g c =
    let p = err_from_is_err_and c.from_residual.result c.from_residual.ensures.1 in
    rw (← c.self.view_is, p.1, p.2)
    (refused_does _ (steps.Adopt c.args.mutator c.args.slot) _
    (λ a stands. slot_fails _ a stands c.args.mutator c.args.slot _ _ c.in_err-slot_of.ensures.refused))

pub returns-in_err-no : goal.returns-in_err-no
returns-in_err-no g c =
    let p = err_from_is_err_and c.from_residual-in_err-no.result c.from_residual-in_err-no.ensures.1 in
    rw (← c.self.view_is, p.1, p.2)
    (refused_does _ (steps.Adopt c.args.mutator c.args.slot) _
    (λ a stands. adopt_refusal _ a stands c.args.mutator c.args.slot c.in_ok-slot_of.ensures.refused
    ∙ c.in_err-no.ensures.refused))

pub overflow_sub-self : goal.overflow_sub-self
overflow_sub-self g c =
    one_held _ (Mutator c.args.mutator) _ c.self.invariant c.in_ok-no.ensures.refused c.in_ok-no.ensures.first

pub drop_first-requires : goal.drop_first-requires
drop_first-requires g c = (unless_passes _ _ _ c.in_ok-no.ensures.refused).0

pub invariant_of-self-2 : goal.invariant_of-self-2
invariant_of-self-2 g c = rw (c.in_ok-set_slot.ensures.after, c.drop_first.ensures)
    (handed_sound _ _ _ _ _ _ _ (λ k. refl) c.self.invariant
    (adopted _ c.args.mutator c.args.slot _ c.self.invariant.settled c.in_ok-slot_of.ensures.refused
    c.in_ok-no.ensures.refused c.in_ok-no.ensures.first) refl refl)

pub returns : goal.returns
returns g c = rw (← c.self.view_is, c.in_ok-set_slot.ensures.after, c.drop_first.ensures)
    (adopted _ c.args.mutator c.args.slot _ c.self.invariant.settled c.in_ok-slot_of.ensures.refused
    c.in_ok-no.ensures.refused c.in_ok-no.ensures.first)
