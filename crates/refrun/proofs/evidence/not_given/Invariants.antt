use Rattle.refrun.proofs.Common.{◌≡◌, ℕ, true, take, flat_map, has}
use Rattle.refrun.proofs.evidence.not_given.Given as goal

abbrev pub invariant-loop-poller : goal.invariant-loop-poller
invariant-loop-poller g l =
    (n : ℕ) → has (flat_map (λ v. v.items) (take l.poller l.lists)) n ≡ true → has l.taken n ≡ true
