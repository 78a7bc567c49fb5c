use Rattle.std.proofs.Common.{take}
use Rattle.ref_judge.proofs.JudgedRuns.{HasTaken}
use Rattle.ref_judge.proofs.traces.verdict.Given as goal

abbrev pub invariant-loop-place : goal.invariant-loop-place
invariant-loop-place g l = HasTaken l.fn.profile l.fn.config (take l.place l.fn.rows) l.judge
