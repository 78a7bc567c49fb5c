use Rattle.std.specs.Prelude.{◌≡◌, ◌≤◌, length, take, drop}
use Rattle.ref_judge.specs.FreedGrounds.{all_freed}
use Rattle.ref_judge.proofs.sweeping.free_some.Given as goal

abbrev pub invariant-loop-freed : goal.invariant-loop-freed
invariant-loop-freed g l =
    (l.objects ≡ all_freed l.fn.objects (take l.freed l.fn.doomed.stands))
    × (l.doomed ≡ record l.fn.doomed { stands = drop l.freed l.fn.doomed.stands })
    × (l.freed ≤ length l.fn.doomed.stands) × (l.freed ≤ 64)

abbrev pub decreases-loop-freed : goal.decreases-loop-freed
decreases-loop-freed g l = length l.doomed.stands
