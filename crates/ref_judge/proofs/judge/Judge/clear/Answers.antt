use Rattle.std.proofs.Common.{refl}
use Rattle.std.proofs.lemmas.Result.{err_from_is_err_and}
use Rattle.ref_base.specs.declared.plain_step.PlainStep.TheVariants as plain
use Rattle.ref_judge.proofs.StandingHeaps.{mutator_refused}
use Rattle.ref_judge.proofs.StandingRows.{changed_sound}
use Rattle.ref_judge.proofs.MutatorRows.{clears}
use Rattle.ref_judge.proofs.judge.Judge.clear.Goals as goal

pub returns-in_err-cut_in : goal.returns-in_err-cut_in
returns-in_err-cut_in g c =
    let p = err_from_is_err_and c.from_residual.result c.from_residual.ensures.1 in
    rw (← c.self.view_is, p.1, p.2, c.in_err-cut_in.ensures.after)
    (mutator_refused _ (plain.Clear c.args.mutator c.args.reference) _ tt (λ a. c.in_err-cut_in.ensures.refused))

pub invariant_of-self-2 : goal.invariant_of-self-2
invariant_of-self-2 g c =
    rw c.in_ok-cut_in.ensures.after
    (changed_sound _ _ _ _ c.self.invariant
    (clears _ c.args.mutator c.args.reference c.in_ok-cut_in.ensures.refused) refl)

pub returns : goal.returns
returns g c =
    rw (← c.self.view_is, c.in_ok-cut_in.ensures.after)
    (clears _ c.args.mutator c.args.reference c.in_ok-cut_in.ensures.refused)
