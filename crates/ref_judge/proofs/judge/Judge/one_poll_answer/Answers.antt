use Rattle.std.proofs.Common.{None, refl, subst, sym, ◌∙◌, ◌≡◌}
use Rattle.ref_base.specs.declared.step.Step.TheVariants as steps
use Rattle.ref_judge.specs.Judged.{Judged, naming_refusal}
use Rattle.ref_judge.proofs.PollDone.{poll_called, poll_filled}
use Rattle.ref_judge.proofs.ToldRows.{err_refused, refused_alone, refusal_alone}
use Rattle.ref_judge.proofs.judge.Judge.one_poll_answer.Goals as goal

pub returns-in-Err : goal.returns-in-Err
returns-in-Err g c =
    refused_alone c.args.self.now (steps.Poll c.args.mutator c.args.queue) c.in-Err.fault
    (λ reply verdict told. poll_called c.args.self.now c.args.mutator c.args.queue c.in-Err.fault reply verdict
    c.in-Err.ensures told)

pub returns-in-Ok : goal.returns-in-Ok
returns-in-Ok g c =
    let none =
    subst (λ (j : Judged). naming_refusal j.config c.args.mutator c.args.queue ≡ None) (sym c.self.view_is)
    c.in-Ok.ensures in
    rw (← c.self.view_is)
    (refusal_alone _ (steps.Poll c.args.mutator c.args.queue) _ _ refl
    (λ f is reply verdict told. poll_filled _ c.args.mutator c.args.queue f reply verdict c.self.invariant none
    (err_refused _ c.check_empty.result f c.check_empty.ensures (sym c.err.ensures.value ∙ is)) told)
    c.refused.ensures)
