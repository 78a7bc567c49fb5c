use Rattle.ref_process.proofs.RunDeaths.{cycle_dead}
use Rattle.ref_process.proofs.laws.each_that_a_cycle_clears_was_dead_at_its_marks_end.Goals as goal

pub returns : goal.returns
returns c = λ p g marked promise span workers before d history clearing rows e run within k is.
    cycle_dead p g marked promise span workers before d history clearing rows e run within k is
