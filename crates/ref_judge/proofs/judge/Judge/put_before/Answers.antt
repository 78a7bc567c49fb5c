use Rattle.std.proofs.Common.{ℕ, ◌<◌, ◌^◌, subst, sym}
use Rattle.ref_judge.specs.Judged.{Judged, put_for}
use Rattle.ref_judge.proofs.PlacedBatches.{put_few}
use Rattle.ref_judge.proofs.judge.Judge.put_before.Goals as goal

pub returns-clause-few : goal.returns-clause-few
returns-clause-few g c =
    subst (λ (n : ℕ). n < 2 ^ 63) (sym c.put_for.ensures)
    (subst (λ (j : Judged). put_for j c.args.actor < 2 ^ 63) c.self.view_is (put_few _ c.self.invariant c.args.actor))
