use Rattle.std.proofs.Common.{◌∙◌, sym, ap}
use Rattle.ref_base.specs.declared.phase.Phase.TheVariants.{Sweeping}
use Rattle.ref_base.specs.Refusals.{work_refusal}
use Rattle.ref_judge.specs.Judged.{Judged}
use Rattle.ref_judge.proofs.SweptRows.{sweep_does, none_does, some_counted, sound_swept}
use Rattle.ref_judge.proofs.judge.Judge.sweep.Goals as goal
use Rattle.ref_judge.proofs.judge.Judge.sweep.Goals.{then-swept-eq0, else-swept-eq0}

pub invariant_of-self : goal.invariant_of-self
invariant_of-self g c =
    rw c.free_some-swept.ensures.after (rw c.free_some-swept.ensures.left
    (sound_swept _ c.args.worker
    (ap (λ (j : Judged). work_refusal j.ground.heap j.phase Sweeping c.args.worker) c.self.view_is ∙
    c.in_ok-check_work.ensures)
    c.self.invariant c.free_some-swept.ensures.well_formed))

pub returns : goal.returns
returns g c =
    let none =
    ap (λ (j : Judged). work_refusal j.ground.heap j.phase Sweeping c.args.worker) c.self.view_is
    ∙ c.in_ok-check_work.ensures in
    let swept = c.free_some-swept.ensures in
    rw (← c.self.view_is)
    (rw swept.after (rw swept.left (elim c.if-swept-eq0.branch [
      | then-swept-eq0 w ↦ rw w.reply-is (none_does _ c.args.worker none (sym swept.count ∙ w.if-swept-eq0.true))
      | else-swept-eq0 w ↦
          rw w.reply-is (rw swept.count (sweep_does _ c.args.worker none c.self.invariant.settled.condemning
          swept.well_formed (some_counted _ (λ zero. w.if-swept-eq0.false (swept.count ∙ zero)))))
    ])))
