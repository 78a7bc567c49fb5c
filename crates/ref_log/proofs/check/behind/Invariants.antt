use Rattle.std.proofs.Common.{◌≡◌, ◌≤◌, length, take}
use Rattle.ref_log.proofs.check.behind.Given as goal

abbrev pub invariant-loop-done : goal.invariant-loop-done
invariant-loop-done l =
    (l.moved ≡ record { before = l.before; done = take l.done-index l.done-items })
    × (l.done-items ≡ l.fn.outs.done) × (l.before ≡ l.fn.before) × (length l.done-items ≤ 32)
