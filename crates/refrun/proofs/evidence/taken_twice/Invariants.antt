use Rattle.refrun.proofs.Common.{◌≡◌, ℕ, true, false, nat_eq, take, flat_map, has}
use Rattle.std.specs.List.{IsDistinct}
use Rattle.refrun.proofs.evidence.taken_twice.Given as goal

abbrev pub invariant-loop-poller : goal.invariant-loop-poller
invariant-loop-poller g l = IsDistinct nat_eq (flat_map (λ v. v.items) (take l.poller l.lists))

abbrev pub invariant-loop-other : goal.invariant-loop-other
invariant-loop-other g l =
    (n : ℕ) → has l.list n ≡ true → has (flat_map (λ v. v.items) (take l.other l.lists)) n ≡ false
