use Rattle.refrun.proofs.Common.{◌≡◌, true, take, is_subsequence}
use Rattle.refrun.proofs.evidence.place_out_of_order.Given as goal

abbrev pub invariant-loop-place : goal.invariant-loop-place
invariant-loop-place l = is_subsequence (take l.place l.list) l.enqueued ≡ true
