use Rattle.core_tests.proofs.steps.make_in.Given as goal

abbrev pub invariant-loop-no : goal.invariant-loop-no
invariant-loop-no g l = g.S.Steps.is_ready l.subject
