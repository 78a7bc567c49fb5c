use Rattle.ref_world.proofs.Common.{◌≡◌, ◌+◌, ◌++◌, length}
use Rattle.std.proofs.Common.{◌≤◌, map}
use Rattle.std.specs.List.{AllByRecursion}
use Rattle.ref_world.specs.Cores.{as_notice, IsOfWorld}
use Rattle.ref_world.proofs.hand.Hand.fill_from.Given as goal

-- what the hand holds, followed by what is still in the batch, is what was in the batch
abbrev pub invariant-loop-notice : goal.invariant-loop-notice
invariant-loop-notice g l = record {
  whole : l.self-inside.notices ++ map as_notice l.batch ≡ map as_notice l.fn.batch;
  own : AllByRecursion IsOfWorld l.batch;
  room : length l.self-inside.notices + length l.batch ≤ 32;
}

-- what is still in the batch
abbrev pub decreases-loop-notice : goal.decreases-loop-notice
decreases-loop-notice g l = length l.batch
