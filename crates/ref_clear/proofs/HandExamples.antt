-- What an unhook that is refused leaves, and what goes with another pending reference, worked, and what doesn't.
use Rattle.ref_clear.proofs.Common.{◌≡◌, ℕ, true, refl, ap, [], ◌∷◌, Some, Pending, Cycle, ClearHeap}
use Rattle.ref_clear.proofs.Common.{pending_at}
use Rattle.ref_base.specs.declared.fault.Fault.{Fault}
use Rattle.ref_base.specs.declared.heap_step.HeapStep.TheVariants as heap
use Rattle.ref_clear.specs.ClearCalls.{refusal_in, after_in}
use Rattle.ref_clear.specs.ClearViews.{front_count, stays_behind, HandsNext}
use Rattle.ref_base.specs.declared.reply.Reply.TheVariants.{Notice, Nothing}

-- promise: Heap::unhook: nothing is cleared where its hold can't be counted, or it is refused otherwise
a_refused_unhook_clears_nothing : (c : ClearHeap) (m s : ℕ) (fault : Fault)
    → refusal_in c (heap.Unhook m s) ≡ Some fault → after_in c (heap.Unhook m s) ≡ c
a_refused_unhook_clears_nothing c m s fault is = rw is refl

abbrev first : Pending
first = record { object = 3; queue = 0; cycle = 2 }

abbrev second : Pending
second = record { object = 5; queue = 0; cycle = 2 }

abbrev of_another_queue : Pending
of_another_queue = record { object = 7; queue = 1; cycle = 2 }

abbrev of_another_cycle : Pending
of_another_cycle = record { object = 9; queue = 0; cycle = 3 }

those_in_front_go : front_count first 32 (first ∷ second ∷ of_another_queue ∷ first ∷ []) ≡ 2
those_in_front_go = refl

and_no_more_than_are_asked_for : front_count first 1 (first ∷ second ∷ []) ≡ 1
and_no_more_than_are_asked_for = refl

one_of_another_cycle_stays : stays_behind (Some first) (of_another_cycle ∷ []) ≡ true
one_of_another_cycle_stays = refl

one_of_another_queue_is_not_handed_on : (c d : ClearHeap) (w : ℕ) → pending_at c w ≡ of_another_queue ∷ []
    → ¬ (HandsNext c w (Some first) (Notice 7 1 (Cycle 2 w)) d)
one_of_another_queue_is_not_handed_on c d w are does =
    let told : Notice 7 1 (Cycle 2 w) ≡ Nothing = (does.stays (ap (stays_behind (Some first)) are)).0 in cc
