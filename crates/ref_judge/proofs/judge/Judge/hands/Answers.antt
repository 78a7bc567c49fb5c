use Rattle.std.proofs.Common.{arith, ◌∙◌, refl, ap, map, take, length}
use Rattle.std.proofs.lemmas.Result.{err_from_is_err_and}
use Rattle.ref_base.specs.Refusals.{front_with}
use Rattle.ref_base.specs.Worlds.{Pending}
use Rattle.ref_base.specs.declared.actor.Actor.TheVariants.{Worker}
use Rattle.ref_base.specs.declared.step.Step.TheVariants as steps
use Rattle.ref_judge.specs.Judged.{Finder}
use Rattle.ref_judge.proofs.HandedBatches.{fitting_fails, hands_full, some_nothing, some_spent, some_given}
use Rattle.ref_judge.proofs.HandedOn.{same_read, worker_there}
use Rattle.ref_judge.proofs.SoundJudges.{refused_does}
use Rattle.ref_judge.proofs.StandingHands.{handed_sound}
use Rattle.ref_judge.proofs.judge.Judge.hands.Goals as goal

pub returns-in_err-check_fits : goal.returns-in_err-check_fits
returns-in_err-check_fits g c =
    let p = err_from_is_err_and c.from_residual.result c.from_residual.ensures.1 in
    rw (← c.self.view_is, p.1, p.2)
    (refused_does _ (steps.Hands c.args.worker c.args.max) _
    (λ a stands. fitting_fails _ a stands (Worker c.args.worker) c.args.max _ _ c.in_err-check_fits.ensures))

pub returns-in_err-check_empty : goal.returns-in_err-check_empty
returns-in_err-check_empty g c =
    let p = err_from_is_err_and c.from_residual-in_err-check_empty.result c.from_residual-in_err-check_empty.ensures.1
    in
    rw (← c.self.view_is, p.1, p.2)
    (refused_does _ (steps.Hands c.args.worker c.args.max) _
    (λ a stands. hands_full _ c.args.worker c.args.max c.in_ok-check_fits.ensures a stands _
    c.in_err-check_empty.ensures))

pub index-requires : goal.index-requires
index-requires g c =
    let there = worker_there _ c.args.worker c.self.invariant c.in_ok-check_empty.ensures in
    let len = c.self.inside.workers.ok.0 in
    rw c.worker.view_is (omega (arith, there, len))

pub returns-in_default : goal.returns-in_default
returns-in_default g c =
    rw (← c.self.view_is)
    (some_nothing _ c.self.invariant c.args.worker _ c.args.max c.worker.view_is c.in_ok-check_fits.ensures
    c.in_ok-check_empty.ensures _ c.index.ensures _ c.first_pending.ensures c.in_default.is)

pub index-requires-2 : goal.index-requires-2
index-requires-2 g c =
    let there = worker_there _ c.args.worker c.self.invariant c.in_ok-check_empty.ensures in
    let len = c.self.inside.workers.ok.0 in
    rw c.worker.view_is (omega (arith, there, len))

pub returns-then-self-count : goal.returns-then-self-count
returns-then-self-count g c =
    let told = c.first_batch-objects.ensures
    ∙ ap (λ (f : Finder). map (λ (x : Pending). x.object) (take c.args.max (front_with c.in-Some.first f.pending)))
    c.behind-self.view_is in
    rw (← c.self.view_is)
    (some_spent _ c.self.invariant c.args.worker _ c.args.max c.worker.view_is c.in_ok-check_fits.ensures
    c.in_ok-check_empty.ensures _ c.index.ensures _ c.first_pending.ensures _ c.in-Some.is _ c.index-2.ensures _ told
    (let n = ap length c.as_slice-count.ensures.numbers in grind (arith, n, c.if-self-count.true)) (grind arith))

pub index_mut-requires : goal.index_mut-requires
index_mut-requires g c =
    let there = worker_there _ c.args.worker c.self.invariant c.in_ok-check_empty.ensures in
    let len = c.self.inside.workers.ok.0 in
    rw c.worker.view_is (omega (arith, there, len))

pub invariant_of-self : goal.invariant_of-self
invariant_of-self g c =
    let told = c.first_batch-objects.ensures
    ∙ ap (λ (f : Finder). map (λ (x : Pending). x.object) (take c.args.max (front_with c.in-Some.first f.pending)))
    c.behind-self.view_is in
    let queue = ap (λ (p : Pending). p.queue) c.first.view_is in
    rw (c.fill.ensures, c.drop_front.ensures, queue, c.as_slice-count.ensures.numbers)
    (handed_sound _ _ _ _ _ _ _
    (same_read _ c.args.worker _ c.worker.view_is c.self.invariant c.in_ok-check_empty.ensures _
    c.index_mut.ensures.value _)
    c.self.invariant
    (some_given _ c.self.invariant c.args.worker _ c.args.max c.worker.view_is c.in_ok-check_fits.ensures
    c.in_ok-check_empty.ensures _ c.index.ensures _ c.first_pending.ensures _ c.in-Some.is _ c.index-2.ensures _ told
    _ c.index_mut.ensures.value
    (let n = ap length c.as_slice-count.ensures.numbers in grind (arith, n, c.if-self-count.false))) refl refl)

pub returns : goal.returns
returns g c =
    let told = c.first_batch-objects.ensures
    ∙ ap (λ (f : Finder). map (λ (x : Pending). x.object) (take c.args.max (front_with c.in-Some.first f.pending)))
    c.behind-self.view_is in
    let queue = ap (λ (p : Pending). p.queue) c.first.view_is in
    let cycle = ap (λ (p : Pending). p.cycle) c.first.view_is in
    rw (← c.self.view_is, c.fill.ensures, c.drop_front.ensures, queue, cycle, c.as_slice-count.ensures.numbers)
    (some_given _ c.self.invariant c.args.worker _ c.args.max c.worker.view_is c.in_ok-check_fits.ensures
    c.in_ok-check_empty.ensures _ c.index.ensures _ c.first_pending.ensures _ c.in-Some.is _ c.index-2.ensures _ told
    _ c.index_mut.ensures.value
    (let n = ap length c.as_slice-count.ensures.numbers in grind (arith, n, c.if-self-count.false)))
