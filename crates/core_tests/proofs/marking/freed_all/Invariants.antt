use Rattle.core_tests.specs.Healing.{IsHealing}
use Rattle.core_tests.proofs.marking.freed_all.Given as goal

abbrev pub invariant-loop-place : goal.invariant-loop-place
invariant-loop-place l = IsHealing l.heap
