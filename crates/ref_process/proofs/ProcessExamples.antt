-- What the calls of a processor may answer and leave at worked states, and what they may not.
use Rattle.std.proofs.Common.{arith, ◌≡◌, ◌<◌, ℕ, Bool, true, false, List, [], ◌∷◌, Some, None, refl, sym, ◌==◌}
use Rattle.std.proofs.Common.{zero, suc, is_some, subst}
use Rattle.std.proofs.lemmas.Bool.Decides.{nat_tests}
use Rattle.std.proofs.lemmas.Bool.{true≢false, cases_eq}
use Rattle.ref_process.proofs.RunEnds.{same_handle}
use Rattle.ref_base.specs.Graphs.{Graph, empty_graph}
use Rattle.ref_base.specs.KeptPaths.{is_kept, IsKept}
use Rattle.ref_base.specs.Paths.{IsPath}
use Rattle.ref_base.specs.Members.{has}
use Rattle.ref_base.specs.declared.cause.Cause.TheVariants.{Own, Cycle}
use Rattle.ref_base.specs.declared.policy.Policy.{Policy}
use Rattle.ref_base.specs.declared.strength.Strength.{Strength}
use Rattle.ref_base.specs.declared.strength.Strength.TheVariants.{Soft, Weak, Phantom}
use Rattle.ref_base.specs.declared.urgency.Urgency.TheVariants.{Normal, Urgent}
use Rattle.ref_process.specs.CycleRows.{new_crew, RefersUnmarked, AreReported, IsOfTheDead, was_noticed, is_of_cycle}
use Rattle.ref_process.specs.DeskRows.{Crew, Looks, EndsMarking, Hands, IsDeskRow, IsDeskRun}
use Rattle.ref_process.specs.Desks.{Desk, FinderLists, RefusedFor, add_refusal, cycle_refusal, found_refusal}
use Rattle.ref_process.specs.Desks.{mark_end_refusal, taking_refusal, look_refusal, clear_end_refusal, key_refusal}
use Rattle.ref_process.specs.Desks.{death_refusal, finding_of, making, made_reference, after_death, owed_owners}
use Rattle.ref_process.specs.Looks.{got_of, after_get, refers_to, after_clear, look_first, after_look, lists_look}
use Rattle.ref_process.specs.Notices.{enqueued_of, handed_first, after_hand, after_spend}
use Rattle.ref_process.specs.Places.{AreVacant, is_new_key, is_vacancy, place_at, reference_under}
use Rattle.ref_process.specs.Promises.{MarksKept}
use Rattle.ref_process.specs.RowTallies.{IsBygone}
use Rattle.ref_process.specs.declared.fault.ProcessFault.TheVariants.{NoSuchReference, WrongPhase, ClockBack, NoMemory}
use Rattle.ref_process.specs.declared.fault.ProcessFault.TheVariants.{ClearingLeft, StillOut, NumbersSpent}
use Rattle.ref_process.specs.declared.finder.Pending.{Pending}
use Rattle.ref_process.specs.declared.found.Found.TheVariants.{Keep, Listed, Nothing}
use Rattle.ref_process.specs.declared.handed.Handed.TheVariants as handed
use Rattle.ref_process.specs.declared.key.Key.{Key}
use Rattle.ref_process.specs.declared.looked.Looked.TheVariants.{Cleared, Kept, Skipped}
use Rattle.ref_process.specs.declared.phase.Phase.{Phase}
use Rattle.ref_process.specs.declared.phase.Phase.TheVariants.{Idle, Marking, Clearing}
use Rattle.ref_process.specs.declared.place.Place.{Place}
use Rattle.ref_process.specs.declared.place.Reference.{Reference}

-- ---- a desk

-- a reference of object 1 to object 11, registered with queue 7
abbrev a_reference : Strength → Reference
a_reference strength = record {
  owner = Some 1;
  strength = strength;
  referent = Some 11;
  queue = Some 7;
  stamp = 0;
  is_told = false;
  is_pending = false;
  is_out = false;
}

-- it is cleared and pending; and its notice is out
abbrev pending_one : Reference
pending_one = record (a_reference Weak) { referent = None; is_pending = true }

abbrev told_one : Reference
told_one = record (a_reference Weak) { referent = None; is_told = true; is_out = true }

-- the first place is in round 3
abbrev first_key : Key
first_key = record { place = 0; round = 3 }

-- a place with a reference, a vacant one, and one whose rounds are spent
abbrev some_places : Reference → List Place
some_places r =
    record { round = 3; held = Some r } ∷ record { round = 2; held = None } ∷ record { round = 4294967295; held = None }
    ∷ []

-- cycle 4 began at clock 20, for a span of 10
abbrev a_desk : Phase → Reference → Desk
a_desk phase r = record {
  places = some_places r;
  made = [];
  listed = 1;
  phase = phase;
  policy = record { clock = 20; urgency = Normal; span = 10 };
  cycle = 4;
}

-- the first reference was found, and another key is pending, of the cycle before
abbrev one_pending : Pending
one_pending = record { key = record { place = 1; round = 0 }; cycle = 3 }

abbrev a_finder : FinderLists
a_finder = record { worker = 0; found = first_key ∷ []; pending = one_pending ∷ [] }

-- only object 1 is marked; only object 11 is; and both are
abbrev owner_marked : ℕ → Bool
owner_marked h = h == 1

abbrev referent_marked : ℕ → Bool
referent_marked h = h == 11

abbrev none_marked : ℕ → Bool
none_marked h = false

-- ---- places and keys

vacancies : (r : Reference) (n : ℕ) → has (1 ∷ []) n ≡ is_vacancy (some_places r) n
vacancies r zero = refl
vacancies r (suc zero) = refl
vacancies r (suc (suc zero)) = refl
vacancies r (suc (suc (suc n))) = grind (arith, nat_tests)

live_rounds : (r : Reference) (n : ℕ) → is_some (place_at (some_places r) n).held ≡ true
    → (place_at (some_places r) n).round < 4294967295
live_rounds r zero is = omega arith
live_rounds r (suc zero) is = absurd (true≢false (sym is))
live_rounds r (suc (suc zero)) is = absurd (true≢false (sym is))
live_rounds r (suc (suc (suc n))) is = absurd (true≢false (sym is))

the_vacant_place_alone_is_listed : (r : Reference) → AreVacant (some_places r) (1 ∷ [])
the_vacant_place_alone_is_listed r = record { all = vacancies r; once = grind arith; rounds = live_rounds r }

-- promise: Processor::dead: a place whose rounds are spent is used again
a_spent_place_is_not_vacant : (r : Reference) → ¬ (AreVacant (some_places r) (2 ∷ 1 ∷ []))
a_spent_place_is_not_vacant r vacant = true≢false (vacant.all 2)

a_vacant_place_is_taken_in_its_round :
    is_new_key (some_places (a_reference Weak)) (record { place = 1; round = 2 }) ≡ true
a_vacant_place_is_taken_in_its_round = refl

-- promise: Processor::add: there is a new place while one is vacant
no_new_place_while_one_is_vacant :
    is_new_key (some_places (a_reference Weak)) (record { place = 3; round = 0 }) ≡ false
no_new_place_while_one_is_vacant = refl

-- promise: Processor::add: a key is given again
no_key_is_given_again : is_new_key (some_places (a_reference Weak)) (record { place = 1; round = 1 }) ≡ false
no_key_is_given_again = refl

-- promise: Processor::dead: the round of the place stays
the_round_rises : IsBygone (after_death (a_desk Idle (a_reference Weak)) first_key).places first_key
the_round_rises = omega arith

the_dead_have_no_reference :
    reference_under (after_death (a_desk Idle (a_reference Weak)) first_key).places first_key ≡ None
the_dead_have_no_reference = refl

a_key_of_another_round_is_of_nothing :
    reference_under (some_places (a_reference Weak)) (record { place = 0; round = 2 }) ≡ None
a_key_of_another_round_is_of_nothing = refl

-- promise: Processor::dead: a pending reference is freed
what_is_pending_can_not_be_dead : death_refusal (a_desk Idle pending_one) first_key ≡ Some StillOut
what_is_pending_can_not_be_dead = refl

-- promise: Processor::dead: a reference whose notice is out is freed
what_is_out_can_not_be_dead : death_refusal (a_desk Idle told_one) first_key ≡ Some StillOut
what_is_out_can_not_be_dead = refl

what_is_neither_can : death_refusal (a_desk Idle (a_reference Weak)) first_key ≡ None
what_is_neither_can = refl

-- promise: Processor::roots: an owner of a pending reference is no root
the_owner_of_what_is_pending_is_a_root : owed_owners (some_places pending_one) ≡ 1 ∷ []
the_owner_of_what_is_pending_is_a_root = refl

the_owner_of_what_is_neither_is_none : owed_owners (some_places (a_reference Weak)) ≡ []
the_owner_of_what_is_neither_is_none = refl

-- ---- refusals

memory_may_be_wanting : RefusedFor (add_refusal (a_desk Idle (a_reference Weak))) NoMemory
memory_may_be_wanting = refl

-- promise: Processor::found: want of memory is told where the phase is wrong
memory_is_not_wanted_in_a_wrong_phase :
    ¬ (RefusedFor (found_refusal (a_desk Idle (a_reference Weak)) first_key) NoMemory)
memory_is_not_wanted_in_a_wrong_phase is = let fault = is in absurd cc

a_cycle_begins_where_none_runs : cycle_refusal (a_desk Idle (a_reference Weak)) 20 ≡ None
a_cycle_begins_where_none_runs = refl

-- promise: Processor::begin: the clock goes back
the_clock_does_not_go_back : cycle_refusal (a_desk Idle (a_reference Weak)) 19 ≡ Some ClockBack
the_clock_does_not_go_back = refl

no_cycle_begins_in_another : cycle_refusal (a_desk Clearing (a_reference Weak)) 20 ≡ Some WrongPhase
no_cycle_begins_in_another = refl

a_mark_ends_in_a_mark : mark_end_refusal (a_desk Marking (a_reference Weak)) ≡ None
a_mark_ends_in_a_mark = refl

no_mark_ends_twice : mark_end_refusal (a_desk Clearing (a_reference Weak)) ≡ Some WrongPhase
no_mark_ends_twice = refl

what_was_made_may_be_taken_in_each_phase : taking_refusal (a_desk Clearing (a_reference Weak)) ≡ None
what_was_made_may_be_taken_in_each_phase = refl

no_look_in_a_mark : look_refusal (a_desk Marking (a_reference Weak)) ≡ Some WrongPhase
no_look_in_a_mark = refl

-- promise: Processor::end_clear: a finder's list is left
a_finders_list_may_not_be_left : clear_end_refusal (a_desk Clearing (a_reference Weak)) ≡ Some ClearingLeft
a_finders_list_may_not_be_left = refl

-- promise: Processor::end_clear: what was made in the mark is left
nor_what_was_made :
    clear_end_refusal (record (a_desk Clearing (a_reference Weak)) { listed = 0; made = first_key ∷ [] })
    ≡ Some ClearingLeft
nor_what_was_made = refl

a_clearing_ends_where_nothing_is_left :
    clear_end_refusal (record (a_desk Clearing (a_reference Weak)) { listed = 0 }) ≡ None
a_clearing_ends_where_nothing_is_left = refl

an_old_key_is_refused :
    key_refusal (a_desk Idle (a_reference Weak)) (record { place = 0; round = 2 }) ≡ Some NoSuchReference
an_old_key_is_refused = refl

-- ---- making and finding

-- promise: Processor::add: what is made in a mark is listed by nobody
what_is_made_in_a_mark_is_listed : making (a_desk Marking (a_reference Weak)) (a_reference Weak) ≡ Listed
what_is_made_in_a_mark_is_listed = refl

what_is_made_elsewhere_is_not : making (a_desk Clearing (a_reference Weak)) (a_reference Weak) ≡ Nothing
what_is_made_elsewhere_is_not = refl

-- promise: Processor::add: a soft reference made in a mark tells nothing to keep
a_soft_one_made_in_a_mark_is_kept :
    making (a_desk Marking (a_reference Weak)) (made_reference (a_desk Marking (a_reference Weak)) None Soft 12 None)
    ≡ Keep 12
a_soft_one_made_in_a_mark_is_kept = refl

-- promise: Processor::found: a soft reference beyond its span is kept
a_soft_one_beyond_its_span_is_listed :
    finding_of (a_desk Marking (a_reference Soft)).policy (Some (a_reference Soft)) ≡ Listed
a_soft_one_beyond_its_span_is_listed = refl

-- promise: Processor::found: a soft reference within its span is listed
a_soft_one_within_it_is_kept :
    finding_of (a_desk Marking (a_reference Soft)).policy (Some (record (a_reference Soft) { stamp = 10 })) ≡ Keep 11
a_soft_one_within_it_is_kept = refl

-- promise: Processor::found: an urgent cycle keeps a soft reference
an_urgent_cycle_keeps_none :
    finding_of (record { clock = 20; urgency = Urgent; span = 10 }) (Some (record (a_reference Soft) { stamp = 20 }))
    ≡ Listed
an_urgent_cycle_keeps_none = refl

what_was_cleared_is_not_listed : finding_of (a_desk Marking pending_one).policy (Some pending_one) ≡ Nothing
what_was_cleared_is_not_listed = refl

-- ---- what is read

-- promise: Processor::get: what isn't marked is answered in Clearing
what_is_not_marked_reads_as_null :
    got_of owner_marked (a_desk Clearing (a_reference Weak)) (Some (a_reference Weak)) ≡ None
what_is_not_marked_reads_as_null = refl

what_is_marked_is_read : got_of referent_marked (a_desk Clearing (a_reference Weak)) (Some (a_reference Weak)) ≡ Some 11
what_is_marked_is_read = refl

-- promise: Processor::get: a mark in progress is asked
no_mark_in_progress_is_asked :
    got_of none_marked (a_desk Marking (a_reference Weak)) (Some (a_reference Weak)) ≡ Some 11
no_mark_in_progress_is_asked = refl

-- promise: Processor::get: a phantom reference answers
a_phantom_reads_as_null : got_of referent_marked (a_desk Idle (a_reference Phantom)) (Some (a_reference Phantom)) ≡ None
a_phantom_reads_as_null = refl

-- promise: Processor::get: the stamp of a soft reference is not renewed
a_soft_one_that_is_got_has_a_new_stamp :
    (after_get none_marked (a_desk Marking (a_reference Soft)) first_key (Some (a_reference Soft))).places
    ≡ some_places (record (a_reference Soft) { stamp = 20 })
a_soft_one_that_is_got_has_a_new_stamp = refl

a_phantom_refers_to_its_referent :
    refers_to none_marked (a_desk Idle (a_reference Phantom)) (Some (a_reference Phantom)) (Some 11) ≡ true
a_phantom_refers_to_its_referent = refl

what_is_not_marked_is_referred_to_by_none :
    refers_to none_marked (a_desk Clearing (a_reference Weak)) (Some (a_reference Weak)) (Some 11) ≡ false
what_is_not_marked_is_referred_to_by_none = refl

-- promise: Processor::clear: what reads as null already is cleared, and its notice lost
what_reads_as_null_stays :
    (after_clear none_marked (a_desk Clearing (a_reference Weak)) first_key (Some (a_reference Weak))).places
    ≡ some_places (a_reference Weak)
what_reads_as_null_stays = refl

-- ---- looks

-- promise: Processor::clear_next: what is marked is cleared
what_is_marked_is_kept :
    look_first referent_marked (some_places (a_reference Weak)) (first_key ∷ []) ≡ Some (Kept first_key)
what_is_marked_is_kept = refl

-- promise: Processor::clear_next: the mark of the reference itself is asked
the_owners_mark_is_not_asked :
    look_first owner_marked (some_places (a_reference Weak)) (first_key ∷ []) ≡ Some (Cleared first_key)
the_owners_mark_is_not_asked = refl

an_old_key_is_skipped :
    look_first none_marked (some_places (a_reference Weak)) (record { place = 0; round = 2 } ∷ [])
    ≡ Some (Skipped (record { place = 0; round = 2 }))
an_old_key_is_skipped = refl

what_is_cleared_is_pending :
    (after_look none_marked (a_desk Clearing (a_reference Weak)) (first_key ∷ [])).places ≡ some_places pending_one
what_is_cleared_is_pending = refl

-- promise: Processor::clear_next: what is cleared is pending in front of what was
it_is_pending_last :
    (lists_look none_marked (a_desk Clearing (a_reference Weak)) a_finder (first_key ∷ [])).pending
    ≡ one_pending ∷ record { key = first_key; cycle = 4 } ∷ []
it_is_pending_last = refl

-- ---- notices

its_own_call_gives_its_notice :
    enqueued_of first_key (Some (a_reference Weak)) ≡ Some (record { key = first_key; queue = 7; cause = Own })
its_own_call_gives_its_notice = refl

-- promise: Processor::enqueue: a second notice is given
no_second_notice : enqueued_of first_key (Some told_one) ≡ None
no_second_notice = refl

the_first_that_is_pending_is_handed_on :
    handed_first (some_places pending_one) 5 (record { key = first_key; cycle = 3 } ∷ one_pending ∷ [])
    ≡ handed.Notice (record { key = first_key; queue = 7; cause = Cycle 3 5 })
the_first_that_is_pending_is_handed_on = refl

-- promise: Processor::hand: what was told already is handed on
what_was_told_is_not_handed_on :
    handed_first (some_places told_one) 5 (record { key = first_key; cycle = 3 } ∷ []) ≡ handed.Already first_key
what_was_told_is_not_handed_on = refl

-- promise: Processor::hand: what is handed on and out is no longer owed
what_is_handed_on_is_out :
    (after_hand (a_desk Idle pending_one) (record { key = first_key; cycle = 3 } ∷ [])).places ≡ some_places told_one
what_is_handed_on_is_out = refl

-- promise: Processor::spend: what is pending is no root once its own notice is spent
what_is_spent_may_be_pending_yet :
    (after_spend (a_desk Idle (record told_one { is_pending = true })) first_key
    (Some (record told_one { is_pending = true }))).places
    ≡ some_places (record told_one { is_pending = true; is_out = false })
what_is_spent_may_be_pending_yet = refl

-- ---- rows

abbrev a_crew : Phase → Crew
a_crew phase = record { desk = a_desk phase (a_reference Weak); finders = a_finder ∷ [] }

a_look_is_a_row : IsDeskRow (a_crew Clearing) (Looks 0 (Cleared first_key) (Some 7)) (record {
  desk = after_look none_marked (a_desk Clearing (a_reference Weak)) (first_key ∷ []);
  finders = lists_look none_marked (a_desk Clearing (a_reference Weak)) a_finder (first_key ∷ []) ∷ [];
})
a_look_is_a_row = (none_marked, ((omega arith, refl, refl, refl), refl))

no_look_in_a_mark_is_a_row : (e : Crew) → ¬ (IsDeskRow (a_crew Marking) (Looks 0 (Cleared first_key) (Some 7)) e)
no_look_in_a_mark_is_a_row e leads = let refused = leads.1.0.1 in absurd cc

-- ---- the promise

-- a program whose one root is object 1
abbrev one_root : Graph
one_root = record { objects = record { no = 1; fields = []; reference = None } ∷ []; roots = 1 ∷ [] }

a_marking_that_keeps_it : (p : Policy) → MarksKept p one_root (λ n. true)
a_marking_that_keeps_it p = record { roots = λ n there root. refl; closed = λ m n there lives target. refl }

no_root_is_left_out : (p : Policy) → ¬ (MarksKept p one_root none_marked)
no_root_is_left_out p promise = true≢false (sym (promise.roots 1 refl refl))

-- ---- counts that are spent

no_more_cycles_than_numbers :
    cycle_refusal (record (a_desk Idle (a_reference Weak)) { cycle = 18446744073709551615 }) 20 ≡ Some NumbersSpent
no_more_cycles_than_numbers = refl

nor_more_keys_than_are_counted :
    found_refusal (record (a_desk Marking (a_reference Weak)) { listed = 18446744073709551615 }) first_key
    ≡ Some NumbersSpent
nor_more_keys_than_are_counted = refl

nor_by_what_was_made :
    taking_refusal (record (a_desk Marking (a_reference Weak)) { listed = 18446744073709551615; made = first_key ∷ [] })
    ≡ Some NumbersSpent
nor_by_what_was_made = refl

-- ---- runs, and what they show with the promise

a_mark_ends_and_a_look_follows :
    IsDeskRun (a_crew Marking) (EndsMarking ∷ Looks 0 (Cleared first_key) (Some 7) ∷ []) (record {
      desk = after_look none_marked (a_desk Clearing (a_reference Weak)) (first_key ∷ []);
      finders = lists_look none_marked (a_desk Clearing (a_reference Weak)) a_finder (first_key ∷ []) ∷ [];
    })
a_mark_ends_and_a_look_follows = (a_crew Clearing, (none_marked, (refl, refl)), (_, a_look_is_a_row, refl))

no_run_looks_in_a_mark :
    (e : Crew) → ¬ (IsDeskRun (a_crew Marking) (Looks 0 (Cleared first_key) (Some 7) ∷ EndsMarking ∷ []) e)
no_run_looks_in_a_mark e run = no_look_in_a_mark_is_a_row run.0 run.1

it_refers_to_what_is_not_marked : RefersUnmarked owner_marked (Some (a_reference Weak))
it_refers_to_what_is_not_marked = (11, refl, refl)

it_does_not_where_that_is_marked : ¬ (RefersUnmarked referent_marked (Some (a_reference Weak)))
it_does_not_where_that_is_marked refers =
    let same : 11 ≡ refers.0 = same_handle 11 refers.0 refers.1 in
    true≢false (subst (λ h. (h == 11) ≡ false) (sym same) refers.2)

nothing_is_left_to_report_where_nothing_is : AreReported none_marked (new_crew 5 [])
nothing_is_left_to_report_where_nothing_is k r h is refers white = absurd (grind (arith, cases_eq, is))

-- promise: Processor::end_clear: what nobody lists counts as reported
what_nobody_lists_is_not_reported : ¬ (AreReported none_marked (record (a_crew Clearing) { finders = [] }))
what_nobody_lists_is_not_reported reported = true≢false (sym (reported first_key (a_reference Weak) 11 refl refl refl))

no_path : (p : Policy) (before : List ℕ) → IsPath (is_kept p) empty_graph 11 before → ⊥
no_path p [] path = true≢false (sym path.0)
no_path p (m ∷ ms) path = true≢false (sym path.0)

it_is_dead_where_there_is_no_object : (p : Policy) → IsOfTheDead p empty_graph (Some (a_reference Weak))
it_is_dead_where_there_is_no_object p = (11, refl, λ kept. no_path p kept.0 kept.1)

what_a_root_is_does_not_count_as_dead :
    (p : Policy) → ¬ (IsOfTheDead p one_root (Some (record (a_reference Weak) { referent = Some 1 })))
what_a_root_is_does_not_count_as_dead p dead =
    let same : 1 ≡ dead.0 = same_handle 1 dead.0 dead.1 in
    dead.2 (subst (λ n. IsKept p one_root n) same ([], (refl, refl)))

a_notice_of_the_cycle_counts :
    was_noticed 3 first_key
    (Hands 0 (handed.Notice (record { key = first_key; queue = 7; cause = Cycle 3 5 })) ∷ EndsMarking ∷ [])
    ≡ true
a_notice_of_the_cycle_counts = refl

-- promise: Processor::enqueue: a reference's own notice names a cycle
its_own_notice_is_of_no_cycle : is_of_cycle 3 Own ≡ false
its_own_notice_is_of_no_cycle = refl
