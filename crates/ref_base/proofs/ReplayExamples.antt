-- What the replay of worked traces gives, as one reads it off their rows.
use Rattle.ref_base.proofs.Common.{◌≡◌, ℕ, List, [], ◌∷◌, take, Option, Some, None, inl, inr, refl, Graph, Object}
use Rattle.ref_base.proofs.Common.{plain_object, IsPath, soft_and_weak_referents, new_clears, FirstLeaves, slot_at}
use Rattle.ref_base.proofs.Common.{World, graph_of, hand_of, pending_numbers, replayed, put_into, taken_from}
use Rattle.ref_base.proofs.Common.{clearing_order, Weak, Own, Cycle, Mutator, Idle, Moving, Sweeping, Strength}
use Rattle.ref_base.specs.declared.strength.Strength.TheVariants.{Soft}
use Rattle.ref_base.specs.KeptPaths.{scaled_span}
use Rattle.ref_base.specs.Replay.{free_after}
use Rattle.ref_base.proofs.WorkedTraces.{scaled_config_of, soft_scaled_by_what_is_free}
use Rattle.ref_base.proofs.WorkedTraces.{config_of, two_enqueued_in_order, death_reported_after_a_cycle}
use Rattle.ref_base.proofs.WorkedTraces.{get_keeps_the_referent, two_workers_in_clearing_order}
use Rattle.ref_base.proofs.WorkedTraces.{soft_kept_within_the_span, cleared_for_every_mutator_at_once}
use Rattle.ref_base.proofs.WorkedTraces.{first_leaving_edge, objects_move_once_a_cycle}
use Rattle.ref_base.proofs.WorkedTraces.{two_workers_by_batches, memory_wants_within_a_batch}
use Rattle.ref_base.proofs.Common.{◌++◌, Worker}

-- a reference with no fields, registered with queue 0
abbrev reference : ℕ → Strength → Option ℕ → ℕ → Object
reference n strength referent stamp = record {
  no = n;
  fields = [];
  reference = Some (record { strength = strength; referent = referent; stamp = stamp; queue = Some 0 });
}

-- ---- two enqueued in order

abbrev enqueued : World
enqueued = replayed (config_of 1) two_enqueued_in_order

both_are_cleared_and_all_are_in_slots : graph_of enqueued ≡ record {
  objects = plain_object 1 [] ∷ reference 2 Weak None 0 ∷ reference 3 Weak None 0 ∷ [];
  roots = 1 ∷ 2 ∷ 3 ∷ [];
}
both_are_cleared_and_all_are_in_slots = refl

both_were_put_in : put_into 0 two_enqueued_in_order ≡ 2 ∷ 3 ∷ []
both_were_put_in = refl

both_were_taken : taken_from 0 two_enqueued_in_order ≡ 2 ∷ 3 ∷ []
both_were_taken = refl

the_hand_is_empty_again : hand_of enqueued (Mutator 0) ≡ []
the_hand_is_empty_again = refl

-- ---- a death, reported after a cycle

abbrev reported : World
reported = replayed (config_of 1) death_reported_after_a_cycle

the_reference_is_in_two_slots : graph_of reported ≡ record {
  objects = plain_object 1 [] ∷ reference 2 Weak None 0 ∷ [];
  roots = 2 ∷ 2 ∷ [];
}
the_reference_is_in_two_slots = refl

its_notice_was_put_in : put_into 0 death_reported_after_a_cycle ≡ 2 ∷ []
its_notice_was_put_in = refl

it_was_adopted : slot_at reported.heap 0 2 ≡ Some 2
it_was_adopted = refl

the_cycle_is_being_swept : reported.phase ≡ Sweeping
the_cycle_is_being_swept = refl

-- before it is handed on, the cleared reference is pending, and so a root
it_was_pending : pending_numbers (replayed (config_of 1) (take 9 death_reported_after_a_cycle)).pending ≡ 2 ∷ []
it_was_pending = refl

-- ---- a get keeps the referent

abbrev got_and_kept : World
got_and_kept = replayed (config_of 1) get_keeps_the_referent

the_referent_is_in_a_slot : graph_of got_and_kept ≡ record {
  objects = plain_object 1 [] ∷ reference 2 Weak (Some 1) 0 ∷ [];
  roots = 2 ∷ 1 ∷ [];
}
the_referent_is_in_a_slot = refl

-- ---- two workers

abbrev delivered : World
delivered = replayed (config_of 2) two_workers_in_clearing_order

worker_0_cleared_two : clearing_order two_workers_in_clearing_order 0 0 ≡ 2 ∷ 6 ∷ []
worker_0_cleared_two = refl

worker_1_cleared_one : clearing_order two_workers_in_clearing_order 1 0 ≡ 4 ∷ []
worker_1_cleared_one = refl

all_three_were_put_in : put_into 0 two_workers_in_clearing_order ≡ 2 ∷ 6 ∷ 4 ∷ []
all_three_were_put_in = refl

all_three_were_taken : taken_from 0 two_workers_in_clearing_order ≡ 2 ∷ 6 ∷ 4 ∷ []
all_three_were_taken = refl

the_last_notice_is_in_the_hand :
    hand_of delivered (Mutator 0) ≡ record { object = 4; queue = 0; cause = Cycle 1 1 } ∷ []
the_last_notice_is_in_the_hand = refl

what_is_held_is_a_root : (graph_of delivered).roots ≡ 2 ∷ 4 ∷ 6 ∷ 4 ∷ []
what_is_held_is_a_root = refl

-- ---- a soft reference within the span, and past it

abbrev soft_cleared : World
soft_cleared = replayed (config_of 1) soft_kept_within_the_span

its_stamp_is_the_clock_at_its_making : graph_of soft_cleared ≡ record {
  objects = plain_object 1 [] ∷ reference 2 Soft None 90 ∷ [];
  roots = 2 ∷ 2 ∷ [];
}
its_stamp_is_the_clock_at_its_making = refl

nothing_was_put_in : put_into 0 soft_kept_within_the_span ≡ []
nothing_was_put_in = refl

-- ---- a span scaled by what is free

abbrev scaled_after : ℕ → World
scaled_after count = replayed (scaled_config_of 1) (take count soft_scaled_by_what_is_free)

six_of_eight_are_free : (scaled_after 4).policy.span ≡ 7
six_of_eight_are_free = refl

it_stays_though_an_object_is_made : (scaled_after 8).policy.span ≡ 7
it_stays_though_an_object_is_made = refl

five_of_eight_are_free : (scaled_after 11).policy.span ≡ 6
five_of_eight_are_free = refl

-- three objects were made, and two were swept
what_is_swept_is_free_again : free_after (replayed (config_of 1) first_leaving_edge) ≡ 7
what_is_swept_is_free_again = refl

the_span_itself_where_all_is_free : scaled_span 10 8 8 ≡ 10
the_span_itself_where_all_is_free = refl

nothing_where_nothing_is_free : scaled_span 5 0 1 ≡ 0
nothing_where_nothing_is_free = refl

the_longest_span : scaled_span 18446744073709551615 1 65536 ≡ 281474976710655
the_longest_span = refl

-- ---- cleared for every mutator at once

abbrev cleared_at_once : World
cleared_at_once = replayed (config_of 2) cleared_for_every_mutator_at_once

the_programs_notice_comes_too_late :
    hand_of cleared_at_once (Mutator 0) ≡ record { object = 3; queue = 0; cause = Own } ∷ []
the_programs_notice_comes_too_late = refl

the_workers_notice_was_put_in : put_into 0 cleared_for_every_mutator_at_once ≡ 3 ∷ []
the_workers_notice_was_put_in = refl

one_is_pending_still : pending_numbers cleared_at_once.pending ≡ 2 ∷ []
one_is_pending_still = refl

-- ---- the first leaving edge: weak reference 3 to soft reference 2 to object 1, and only 3 is in a slot

abbrev at_the_marks_end : Graph
at_the_marks_end = graph_of (replayed (config_of 1) (take 8 first_leaving_edge))

abbrev doomed : List ℕ
doomed = 1 ∷ 2 ∷ []

a_path_leads_to_the_doomed : IsPath soft_and_weak_referents at_the_marks_end 1 (2 ∷ 3 ∷ [])
a_path_leads_to_the_doomed = (refl, refl, (refl, refl, (refl, refl)))

its_first_leaving_edge_is_from_3_to_2 : FirstLeaves doomed 1 (2 ∷ 3 ∷ []) 3 2
its_first_leaving_edge_is_from_3_to_2 = inr (inl (refl, refl, refl, refl))

and_3_is_the_one_that_is_cleared : new_clears at_the_marks_end.objects doomed ≡ 3 ∷ []
and_3_is_the_one_that_is_cleared = refl

-- ---- objects move, and the graph stays

-- the world after so many rows
abbrev after_rows : ℕ → World
after_rows count = replayed (config_of 1) (take count objects_move_once_a_cycle)

a_refused_choice_begins_no_move : (after_rows 4).phase ≡ Idle
a_refused_choice_begins_no_move = refl

then_objects_move : (after_rows 5).phase ≡ Moving
then_objects_move = refl

till_their_move_ends : (after_rows 12).phase ≡ Idle
till_their_move_ends = refl

each_object_stays_as_it_was : graph_of (after_rows 12) ≡ record {
  objects = plain_object 1 (Some 2 ∷ []) ∷ plain_object 2 [] ∷ plain_object 3 [] ∷ [];
  roots = 1 ∷ 2 ∷ 2 ∷ 3 ∷ [];
}
each_object_stays_as_it_was = refl

-- ---- two workers, by batches

abbrev delivered_at_once : World
delivered_at_once = replayed (config_of 2) two_workers_by_batches

the_programs_notice_was_put_in_first : put_into 0 two_workers_by_batches ≡ 2 ∷ 6 ∷ 4 ∷ []
the_programs_notice_was_put_in_first = refl

two_were_taken_at_once : taken_from 0 two_workers_by_batches ≡ 2 ∷ 6 ∷ 4 ∷ []
two_were_taken_at_once = refl

the_second_of_them_was_adopted : slot_at delivered_at_once.heap 0 4 ≡ Some 6
the_second_of_them_was_adopted = refl

all_hands_are_empty : delivered_at_once.mutator_hands ++ delivered_at_once.worker_hands ≡ [] ∷ [] ∷ [] ∷ []
all_hands_are_empty = refl

-- what finds no memory stays in the hand, behind nothing and in front of what wasn't tried
what_finds_no_memory_stays :
    hand_of (replayed (config_of 2) (take 18 memory_wants_within_a_batch)) (Worker 0)
    ≡ record { object = 6; queue = 0; cause = Cycle 1 0 } ∷ []
what_finds_no_memory_stays = refl

both_were_put_in_by_then : put_into 0 memory_wants_within_a_batch ≡ 2 ∷ 6 ∷ []
both_were_put_in_by_then = refl
