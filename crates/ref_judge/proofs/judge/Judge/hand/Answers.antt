use Rattle.std.proofs.Common.{arith, ◌∙◌, refl, ap, sym, Some}
use Rattle.std.proofs.lemmas.Result.{err_from_is_err_and}
use Rattle.ref_base.specs.declared.actor.Actor.TheVariants.{Worker}
use Rattle.ref_base.specs.declared.step.Step.TheVariants as steps
use Rattle.ref_judge.proofs.FilledHands.{filling_fails}
use Rattle.ref_judge.proofs.HandedOn.{same_read, worker_there, hands_nothing, hands_spent, hands_one}
use Rattle.ref_judge.proofs.SoundJudges.{refused_does}
use Rattle.ref_judge.proofs.StandingHands.{handed_sound}
use Rattle.ref_judge.proofs.judge.Judge.hand.Goals as goal

pub returns-in_err-check_empty : goal.returns-in_err-check_empty
returns-in_err-check_empty g c =
    let p = err_from_is_err_and c.from_residual.result c.from_residual.ensures.1 in
    rw (← c.self.view_is, p.1, p.2)
    (refused_does _ (steps.Hand c.args.worker) _
    (λ a stands. filling_fails _ a stands (Worker c.args.worker) _ _ c.in_err-check_empty.ensures))

pub index-requires : goal.index-requires
index-requires g c =
    let there = worker_there _ c.args.worker c.self.invariant c.in_ok-check_empty.ensures in
    let len = c.self.inside.workers.ok.0 in
    rw c.worker.view_is (omega (arith, there, len))

pub returns-in_default : goal.returns-in_default
returns-in_default g c =
    rw (← c.self.view_is)
    (hands_nothing _ c.self.invariant c.args.worker _ c.worker.view_is c.in_ok-check_empty.ensures _ c.index.ensures _
    c.first_pending.ensures c.in_default.is)

pub returns-then-self : goal.returns-then-self
returns-then-self g c =
    rw (← c.self.view_is)
    (hands_spent _ c.self.invariant c.args.worker _ c.worker.view_is c.in_ok-check_empty.ensures _ c.index.ensures _
    c.first_pending.ensures _ c.in-Some.is c.if-self.true)

pub index_mut-requires : goal.index_mut-requires
index_mut-requires g c =
    let there = worker_there _ c.args.worker c.self.invariant c.in_ok-check_empty.ensures in
    let len = c.self.inside.workers.ok.0 in
    rw c.worker.view_is (omega (arith, there, len))

pub invariant_of-self : goal.invariant_of-self
invariant_of-self g c =
    rw (c.fill_one.ensures, c.drop_front.ensures)
    (handed_sound _ _ _ _ _ _ _
    (same_read _ c.args.worker _ c.worker.view_is c.self.invariant c.in_ok-check_empty.ensures _
    c.index_mut.ensures.value _)
    c.self.invariant
    (hands_one _ c.self.invariant c.args.worker _ c.worker.view_is c.in_ok-check_empty.ensures _ c.index.ensures _
    c.first_pending.ensures _ _ (c.in-Some.is ∙ ap Some (sym c.first.view_is)) c.index_mut.ensures.value
    (grind (arith, c.if-self.false))) refl refl)

pub returns : goal.returns
returns g c =
    rw (← c.self.view_is, c.fill_one.ensures, c.drop_front.ensures)
    (hands_one _ c.self.invariant c.args.worker _ c.worker.view_is c.in_ok-check_empty.ensures _ c.index.ensures _
    c.first_pending.ensures _ _ (c.in-Some.is ∙ ap Some (sym c.first.view_is)) c.index_mut.ensures.value
    (grind (arith, c.if-self.false)))
