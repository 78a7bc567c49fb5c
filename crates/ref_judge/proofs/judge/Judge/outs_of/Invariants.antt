use Rattle.std.specs.Prelude.{◌≤◌, length}
use Rattle.ref_judge.proofs.judge.Judge.outs_of.Given as goal

abbrev pub invariant-loop-place : goal.invariant-loop-place
invariant-loop-place g l = (length l.added ≤ l.place) × (length l.outs.done ≤ l.place)
