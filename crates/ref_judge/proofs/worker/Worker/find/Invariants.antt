use Rattle.std.specs.Prelude.{◌≡◌, ◌-◌, length, drop}
use Rattle.ref_judge.specs.Finding.{found_from}
use Rattle.ref_judge.proofs.worker.Worker.find.Given as goal

abbrev pub invariant-loop-place : goal.invariant-loop-place
invariant-loop-place g l =
    found_from l.fn.no l.place (drop l.place l.fn.self.found)
    ≡ found_from l.fn.no l.fn.self.at (drop l.fn.self.at l.fn.self.found)

abbrev pub decreases-loop-place : goal.decreases-loop-place
decreases-loop-place g l = length l.fn.self.found - l.place
