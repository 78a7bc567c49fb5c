use Rattle.std.proofs.lemmas.Result.{err_from_is_err_and}
use Rattle.std.proofs.Common.{arith, ◌∙◌, ◌≡◌}
use Rattle.ref_base.specs.CollectorRows.{is_same}
use Rattle.ref_base.specs.Heaps.{Heap}
use Rattle.ref_base.specs.declared.plain_step.PlainStep.TheVariants as plain
use Rattle.ref_judge.proofs.StandingHeaps.{mutator_refused}
use Rattle.ref_judge.proofs.MutatorRows.{compares, read_shown, other_refused, compare_refusal}
use Rattle.ref_judge.proofs.judge.Judge.refers_to.Goals as goal

pub returns-in_err-value : goal.returns-in_err-value
returns-in_err-value g c =
    let p = err_from_is_err_and c.from_residual.result c.from_residual.ensures.1 in
    let h : Heap = c.self.inside.objects.heap in
    rw (← c.self.view_is, p.1, p.2)
    (mutator_refused _ (plain.RefersTo c.args.mutator c.args.reference c.args.other) _ tt
    (λ a. other_refused h c.args.mutator c.args.reference c.args.other _ c.in_err-value.ensures.refused))

pub returns-in_err-referent : goal.returns-in_err-referent
returns-in_err-referent g c =
    let p = err_from_is_err_and c.from_residual-in_err-referent.result c.from_residual-in_err-referent.ensures.1 in
    let h : Heap = c.self.inside.objects.heap in
    rw (← c.self.view_is, p.1, p.2)
    (mutator_refused _ (plain.RefersTo c.args.mutator c.args.reference c.args.other) _ tt
    (λ a.
    compare_refusal h c.args.mutator c.args.reference c.args.other c.in_ok-value.ensures.refused
    ∙ c.in_err-referent.ensures.refused))

pub returns : goal.returns
returns g c =
    let same : c.eq.result ≡ is_same c.in_ok-referent.referent c.in_ok-value.value = grind arith in
    rw (← c.self.view_is, same, c.in_ok-referent.ensures.answer, c.in_ok-value.ensures.answer, read_shown)
    (compares _ c.args.mutator c.args.reference c.args.other c.in_ok-value.ensures.refused
    c.in_ok-referent.ensures.refused)
