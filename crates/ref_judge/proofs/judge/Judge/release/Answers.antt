use Rattle.std.proofs.Common.{◌∙◌, refl}
use Rattle.std.proofs.lemmas.Result.{err_from_is_err_and}
use Rattle.ref_base.specs.declared.step.Step.TheVariants as steps
use Rattle.ref_judge.proofs.SoundJudges.{refused_does}
use Rattle.ref_judge.proofs.SpentNotices.{emptying_same, one_held, released}
use Rattle.ref_judge.proofs.StandingHands.{handed_sound}
use Rattle.ref_judge.proofs.judge.Judge.release.Goals as goal

pub returns-in_err-first_of : goal.returns-in_err-first_of
returns-in_err-first_of g c =
    let p = err_from_is_err_and c.from_residual.result c.from_residual.ensures.1 in
    rw (← c.self.view_is, p.1, p.2)
    (refused_does _ (steps.Release c.args.actor) _
    (λ a stands. emptying_same _ a stands c.args.actor ∙ c.in_err-first_of.ensures.refused))

pub overflow_sub-self : goal.overflow_sub-self
overflow_sub-self g c =
    one_held _ c.args.actor _ c.self.invariant c.in_ok-first_of.ensures.refused c.in_ok-first_of.ensures.first

pub invariant_of-self : goal.invariant_of-self
invariant_of-self g c = rw c.drop_first.ensures
    (handed_sound _ _ _ _ _ _ _ (λ k. refl) c.self.invariant
    (released _ c.args.actor _ c.in_ok-first_of.ensures.refused c.in_ok-first_of.ensures.first) refl refl)

pub returns : goal.returns
returns g c = rw (← c.self.view_is, c.drop_first.ensures)
    (released _ c.args.actor _ c.in_ok-first_of.ensures.refused c.in_ok-first_of.ensures.first)
