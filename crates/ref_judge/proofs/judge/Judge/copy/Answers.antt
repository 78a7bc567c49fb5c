use Rattle.std.proofs.Common.{refl}
use Rattle.std.proofs.lemmas.Result.{err_from_is_err_and}
use Rattle.ref_base.specs.declared.plain_step.PlainStep.TheVariants as plain
use Rattle.ref_judge.proofs.StandingHeaps.{mutator_refused}
use Rattle.ref_judge.proofs.StandingRows.{changed_sound}
use Rattle.ref_judge.proofs.MutatorRows.{copies}
use Rattle.ref_judge.proofs.judge.Judge.copy.Goals as goal

pub returns-in_err-value : goal.returns-in_err-value
returns-in_err-value g c =
    let p = err_from_is_err_and c.from_residual.result c.from_residual.ensures.1 in
    rw (← c.self.view_is, p.1, p.2, c.in_err-value.ensures.after)
    (mutator_refused _ (plain.Copy c.args.mutator c.args.slot c.args.source) _ tt (λ a. c.in_err-value.ensures.refused))

pub invariant_of-self-2 : goal.invariant_of-self-2
invariant_of-self-2 g c =
    rw c.in_ok-value.ensures.after
    (changed_sound _ _ _ _ c.self.invariant
    (copies _ c.args.mutator c.args.slot c.args.source c.in_ok-value.ensures.refused) refl)

pub returns : goal.returns
returns g c =
    rw (← c.self.view_is, c.value_reply.ensures, c.in_ok-value.ensures.answer, c.in_ok-value.ensures.after)
    (copies _ c.args.mutator c.args.slot c.args.source c.in_ok-value.ensures.refused)
