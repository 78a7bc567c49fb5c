use Rattle.refrun.proofs.Common.{◌≡◌, true, take, All, is_subsequence}
use Rattle.refrun.proofs.evidence.out_of_order.Given as goal

abbrev pub invariant-loop-poller : goal.invariant-loop-poller
invariant-loop-poller g l = All (λ v. is_subsequence v.items l.enqueued ≡ true) (take l.poller l.lists)
