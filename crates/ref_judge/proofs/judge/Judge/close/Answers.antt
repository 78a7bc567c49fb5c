use Rattle.std.proofs.Common.{arith, ◌∙◌, ap, sym}
use Rattle.std.proofs.lemmas.Result.{err_from_is_err_and}
use Rattle.ref_base.specs.declared.step.Step.TheVariants as steps
use Rattle.ref_judge.specs.Judged.{Judged, Line, naming_refusal}
use Rattle.ref_judge.proofs.ClosedQueues.{calling_same, queue_there, closes_none, closes_one, closed_sound}
use Rattle.ref_judge.proofs.SoundJudges.{refused_does}
use Rattle.ref_judge.proofs.judge.Judge.close.Goals as goal

pub returns-in_err-check_poll : goal.returns-in_err-check_poll
returns-in_err-check_poll g c =
    let p = err_from_is_err_and c.from_residual.result c.from_residual.ensures.1 in
    rw (p.1, p.2)
    (refused_does _ (steps.Close c.args.mutator c.args.queue) _
    (λ a stands. calling_same _ a stands c.args.mutator c.args.queue ∙ c.in_err-check_poll.ensures))

pub index-requires : goal.index-requires
index-requires g c =
    let none = ap (λ (j : Judged). naming_refusal j.config c.args.mutator c.args.queue) c.self.view_is
    ∙ c.in_ok-check_poll.ensures in
    let there = queue_there _ c.args.mutator c.args.queue c.self.invariant none in
    let len = c.self.inside.lines.ok.0 in
    rw c.queue.view_is (omega (arith, there, len))

pub returns-then-index : goal.returns-then-index
returns-then-index g c =
    let none = ap (λ (j : Judged). naming_refusal j.config c.args.mutator c.args.queue) c.self.view_is
    ∙ c.in_ok-check_poll.ensures in
    rw (← c.self.view_is)
    (closes_none _ c.args.mutator c.args.queue none c.self.invariant _ c.queue.view_is _ c.index.ensures
    (ap (λ (l : Line). l.closed) (sym c.behind-self.view_is) ∙ c.if-index.true))

pub index_mut-requires : goal.index_mut-requires
index_mut-requires g c =
    let none = ap (λ (j : Judged). naming_refusal j.config c.args.mutator c.args.queue) c.self.view_is
    ∙ c.in_ok-check_poll.ensures in
    let there = queue_there _ c.args.mutator c.args.queue c.self.invariant none in
    let len = c.self.inside.lines.ok.0 in
    rw c.queue.view_is (omega (arith, there, len))

pub invariant_of-self : goal.invariant_of-self
invariant_of-self g c =
    let none = ap (λ (j : Judged). naming_refusal j.config c.args.mutator c.args.queue) c.self.view_is
    ∙ c.in_ok-check_poll.ensures in
    closed_sound _ c.args.mutator c.args.queue _ c.self.invariant
    (closes_one _ c.args.mutator c.args.queue none c.self.invariant _ c.queue.view_is _ c.index.ensures
    (ap (λ (l : Line). l.closed) (sym c.behind-self.view_is) ∙ c.if-index.false) _ _ c.behind-self-2.view_is
    c.index_mut.ensures.value)

pub returns : goal.returns
returns g c =
    let none = ap (λ (j : Judged). naming_refusal j.config c.args.mutator c.args.queue) c.self.view_is
    ∙ c.in_ok-check_poll.ensures in
    rw (← c.self.view_is)
    (closes_one _ c.args.mutator c.args.queue none c.self.invariant _ c.queue.view_is _ c.index.ensures
    (ap (λ (l : Line). l.closed) (sym c.behind-self.view_is) ∙ c.if-index.false) _ _ c.behind-self-2.view_is
    c.index_mut.ensures.value)
