use Rattle.refrun.proofs.Common.{◌≡◌, drop, is_subsequence}
use Rattle.refrun.proofs.lists.is_in_order.Given as goal

abbrev pub invariant-loop-number : goal.invariant-loop-number
invariant-loop-number l =
    is_subsequence l.list l.enqueued ≡ is_subsequence l.rest (drop l.number-index l.enqueued)
