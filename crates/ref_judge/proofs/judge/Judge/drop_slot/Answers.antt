use Rattle.std.proofs.Common.{refl}
use Rattle.std.proofs.lemmas.Result.{err_from_is_err_and}
use Rattle.ref_base.specs.declared.plain_step.PlainStep.TheVariants as plain
use Rattle.ref_judge.proofs.StandingHeaps.{mutator_refused}
use Rattle.ref_judge.proofs.StandingRows.{changed_sound}
use Rattle.ref_judge.proofs.MutatorRows.{drops}
use Rattle.ref_judge.proofs.judge.Judge.drop_slot.Goals as goal

pub returns-in_err-drop_slot : goal.returns-in_err-drop_slot
returns-in_err-drop_slot g c =
    let p = err_from_is_err_and c.from_residual.result c.from_residual.ensures.1 in
    rw (← c.self.view_is, p.1, p.2, c.in_err-drop_slot.ensures.after)
    (mutator_refused _ (plain.Drop c.args.mutator c.args.slot) _ tt (λ a. c.in_err-drop_slot.ensures.refused))

pub invariant_of-self-2 : goal.invariant_of-self-2
invariant_of-self-2 g c =
    rw c.in_ok-drop_slot.ensures.after
    (changed_sound _ _ _ _ c.self.invariant (drops _ c.args.mutator c.args.slot c.in_ok-drop_slot.ensures.refused) refl)

pub returns : goal.returns
returns g c =
    rw (← c.self.view_is, c.in_ok-drop_slot.ensures.after)
    (drops _ c.args.mutator c.args.slot c.in_ok-drop_slot.ensures.refused)
