-- What the rows of worked traces say of the order of clearing and of what a cycle scanned.
use Rattle.ref_base.proofs.Common.{◌≡◌, false, [], ◌∷◌, take, refl, is_subsequence, added_of, scanned_in_cycle}
use Rattle.ref_base.proofs.Common.{clearing_order}
use Rattle.ref_base.proofs.WorkedTraces.{config_of, two_workers_in_clearing_order, two_enqueued_in_order}
use Rattle.ref_base.proofs.WorkedTraces.{soft_kept_within_the_span}

-- ---- two workers

worker_0_added_two : added_of (config_of 2) 0 0 two_workers_in_clearing_order ≡ 2 ∷ 6 ∷ []
worker_0_added_two = refl

worker_1_added_one : added_of (config_of 2) 1 0 two_workers_in_clearing_order ≡ 4 ∷ []
worker_1_added_one = refl

nothing_was_added_to_another_queue : added_of (config_of 2) 0 1 two_workers_in_clearing_order ≡ []
nothing_was_added_to_another_queue = refl

-- had worker 0 added its second first, that would have been out of order
the_other_order_is_out_of_order :
    is_subsequence (6 ∷ 2 ∷ []) (clearing_order two_workers_in_clearing_order 0 0) ≡ false
the_other_order_is_out_of_order = refl

both_workers_scanned : scanned_in_cycle two_workers_in_clearing_order ≡ 2 ∷ 4 ∷ 6 ∷ []
both_workers_scanned = refl

-- ---- a program's own calls

no_worker_added_any : added_of (config_of 1) 0 0 two_enqueued_in_order ≡ []
no_worker_added_any = refl

-- ---- three cycles

the_second_cycle_scanned_both : scanned_in_cycle (take 10 soft_kept_within_the_span) ≡ 2 ∷ 1 ∷ []
the_second_cycle_scanned_both = refl

the_third_scanned_one_again : scanned_in_cycle soft_kept_within_the_span ≡ 2 ∷ []
the_third_scanned_one_again = refl
