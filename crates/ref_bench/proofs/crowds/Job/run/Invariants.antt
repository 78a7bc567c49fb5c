use Rattle.ref_bench.proofs.crowds.Job.run.Given as goal

abbrev pub invariant-loop-letter : goal.invariant-loop-letter
invariant-loop-letter g l =
    (goal.iterator-loop-letter g).can_next l.letter-iterator
    × (goal.iterator-loop-letter g).is_finite l.letter-iterator × g.T.Till.is_ready l.till

abbrev pub invariant-loop : goal.invariant-loop
invariant-loop g l =
    (goal.iterator-loop g).can_next l.iterator' × (goal.iterator-loop g).is_finite l.iterator'
    × g.T.Till.is_ready l.till
