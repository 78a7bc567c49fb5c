use Rattle.core_tests.proofs.steps.agree.Given as goal

abbrev pub invariant-loop-row : goal.invariant-loop-row
invariant-loop-row g l = g.S.Steps.is_ready l.subject
