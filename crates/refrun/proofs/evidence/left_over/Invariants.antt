use Rattle.refrun.proofs.Common.{◌≡◌, take}
use Rattle.refrun.proofs.evidence.left_over.Given as goal

abbrev pub invariant-loop-place : goal.invariant-loop-place
invariant-loop-place l = take l.place l.taken ≡ take l.place l.enqueued
