use Rattle.ref_world.proofs.Common.{◌≡◌, take, vec_len, vec_capacity, RunsFrom, steps_of}
use Rattle.std.proofs.Common.{◌≤◌}
use Rattle.ref_world.specs.InsideHeaps.{DoesEach}
use Rattle.ref_world.proofs.trace.answered.Given as goal

-- the steps so far have their rows, which are a run, and there is room for the others
abbrev pub invariant-loop-step : goal.invariant-loop-step
invariant-loop-step g l = record {
  steps : steps_of l.rows.items ≡ take l.step-index l.fn.steps.items;
  run : RunsFrom l.fn.world l.rows.items l.world;
  does : DoesEach l.fn.world l.rows.items l.world;
  count : vec_len l.rows ≡ l.step-index;
  room : vec_len l.fn.steps ≤ vec_capacity l.rows;
}
