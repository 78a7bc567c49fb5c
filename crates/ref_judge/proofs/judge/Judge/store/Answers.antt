use Rattle.std.proofs.Common.{refl}
use Rattle.std.proofs.lemmas.Result.{err_from_is_err_and}
use Rattle.ref_base.specs.declared.plain_step.PlainStep.TheVariants as plain
use Rattle.ref_judge.proofs.StandingHeaps.{mutator_refused}
use Rattle.ref_judge.proofs.StandingRows.{changed_sound}
use Rattle.ref_judge.proofs.MutatorRows.{stores}
use Rattle.ref_judge.proofs.judge.Judge.store.Goals as goal

pub returns-in_err-store : goal.returns-in_err-store
returns-in_err-store g c =
    let p = err_from_is_err_and c.from_residual.result c.from_residual.ensures.1 in
    rw (← c.self.view_is, p.1, p.2, c.in_err-store.ensures.after)
    (mutator_refused _ (plain.Store c.args.mutator c.args.object c.args.field c.args.value) _ tt
    (λ a. c.in_err-store.ensures.refused))

pub invariant_of-self-2 : goal.invariant_of-self-2
invariant_of-self-2 g c =
    rw c.in_ok-store.ensures.after
    (changed_sound _ _ _ _ c.self.invariant
    (stores _ c.args.mutator c.args.object c.args.field c.args.value c.in_ok-store.ensures.refused) refl)

pub returns : goal.returns
returns g c =
    rw (← c.self.view_is, c.in_ok-store.ensures.after)
    (stores _ c.args.mutator c.args.object c.args.field c.args.value c.in_ok-store.ensures.refused)
