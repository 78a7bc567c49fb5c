use Rattle.refrun.proofs.Common.{◌≡◌, false, take, flat_map, has}
use Rattle.refrun.proofs.evidence.is_taken.Given as goal

abbrev pub invariant-loop-poller : goal.invariant-loop-poller
invariant-loop-poller g l = has (flat_map (λ v. v.items) (take l.poller l.lists)) l.number ≡ false
