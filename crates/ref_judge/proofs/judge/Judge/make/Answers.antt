use Rattle.std.proofs.Common.{refl}
use Rattle.std.proofs.lemmas.Result.{err_from_is_err_and}
use Rattle.ref_base.specs.declared.plain_step.PlainStep.TheVariants as plain
use Rattle.ref_judge.proofs.MadeRows.{makes, made_sound}
use Rattle.ref_judge.proofs.StandingHeaps.{mutator_refused}
use Rattle.ref_judge.proofs.judge.Judge.make.Goals as goal

pub returns-in_err-no : goal.returns-in_err-no
returns-in_err-no g c =
    let p = err_from_is_err_and c.from_residual.result c.from_residual.ensures.1 in
    rw (← c.self.view_is, p.1, p.2, c.in_err-no.ensures.after)
    (mutator_refused _ (plain.New c.args.mutator c.args.slot c.args.fields) _ tt (λ a. c.in_err-no.ensures.refused))

pub invariant_of-self : goal.invariant_of-self
invariant_of-self g c = rw c.in_err-no.ensures.after c.self.invariant

pub invariant_of-self-2 : goal.invariant_of-self-2
invariant_of-self-2 g c =
    rw (c.keep_made.ensures, c.in_ok-no.ensures.answer, c.in_ok-no.ensures.after)
    (made_sound _ _ _ _ _ _ c.self.invariant
    (makes _ c.self.invariant.settled c.object_count.ensures.well_formed
    c.args.mutator c.args.slot c.args.fields c.in_ok-no.ensures.refused) refl)

pub returns : goal.returns
returns g c =
    rw (← c.self.view_is, c.keep_made.ensures, c.in_ok-no.ensures.answer, c.in_ok-no.ensures.after)
    (makes _ c.self.invariant.settled c.object_count.ensures.well_formed
    c.args.mutator c.args.slot c.args.fields c.in_ok-no.ensures.refused)
