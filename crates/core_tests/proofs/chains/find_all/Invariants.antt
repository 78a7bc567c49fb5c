use Rattle.core_tests.proofs.chains.find_all.Given as goal

abbrev pub invariant-loop-no : goal.invariant-loop-no
invariant-loop-no g l = g.S.Steps.is_ready l.subject

abbrev pub invariant-loop-turn : goal.invariant-loop-turn
invariant-loop-turn g l = g.S.Steps.is_ready l.subject
