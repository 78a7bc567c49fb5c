use Rattle.std.specs.Prelude.{◌≤◌, length}
use Rattle.ref_judge.proofs.judge.candidates.next_in.Given as goal

abbrev pub invariant-loop-place : goal.invariant-loop-place
invariant-loop-place g l = length l.taken ≤ l.place
