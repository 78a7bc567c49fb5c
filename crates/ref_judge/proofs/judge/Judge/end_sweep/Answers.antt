use Rattle.std.proofs.Common.{◌∙◌, ap}
use Rattle.ref_judge.proofs.SweptRows.{end_refusal, end_does, end_sound}
use Rattle.ref_judge.proofs.judge.Judge.end_sweep.Goals as goal

pub invariant_of-self : goal.invariant_of-self
invariant_of-self g c =
    rw c.end_cycle.ensures (end_sound _ (ap end_refusal c.self.view_is ∙ c.in_ok-check_end_sweep.ensures)
    c.self.invariant)

pub returns : goal.returns
returns g c =
    rw (← c.self.view_is) (rw c.end_cycle.ensures
    (end_does _ (ap end_refusal c.self.view_is ∙ c.in_ok-check_end_sweep.ensures)))
