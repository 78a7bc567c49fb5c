-- What handing on a batch leaves at worked states, and what it may not.
use Rattle.std.proofs.Common.{arith, ◌≡◌, ℕ, Bool, true, false, List, [], ◌∷◌, Some, None, refl, sym, subst}
use Rattle.ref_base.specs.declared.cause.Cause.TheVariants.{Own, Cycle}
use Rattle.ref_base.specs.declared.strength.Strength.TheVariants.{Weak}
use Rattle.ref_process.proofs.BatchRows.{batch_handed_on}
use Rattle.ref_process.specs.DeskRows.{Crew}
use Rattle.ref_process.specs.Desks.{Desk, FinderLists, new_desk}
use Rattle.ref_process.specs.HandBatches.{handing, next_queue, hand_next, handed_batch, AreHandedOn}
use Rattle.ref_process.specs.NoticeQueues.{AreFor}
use Rattle.ref_process.specs.declared.finder.Pending.{Pending}
use Rattle.ref_process.specs.declared.notice.Notice.{Notice}
use Rattle.ref_process.specs.declared.place.Place.{Place}

-- a cleared reference that is pending for this queue, and whether its notice was given
abbrev a_pending_place : ℕ → Bool → Place
a_pending_place queue is_told = record {
  round = 0;
  held =
      Some (record {
        owner = None;
        strength = Weak;
        referent = None;
        queue = Some queue;
        stamp = 0;
        is_told = is_told;
        is_pending = true;
        is_out = false;
      });
}

-- two for queue 7, of which the second was told, one more for it, and one for queue 8
abbrev pending_desk : Desk
pending_desk = record (new_desk 0) {
  places =
      a_pending_place 7 false ∷ a_pending_place 7 true ∷ a_pending_place 7 false ∷ a_pending_place 8 false ∷ [];
}

abbrev pends : ℕ → Pending
pends place = record { key = record { place = place; round = 0 }; cycle = 3 }

-- the finder of worker 5, to which these are left
abbrev left_to : List Pending → FinderLists
left_to xs = record { worker = 5; found = []; pending = xs }

-- all four are pending
abbrev four_pending : FinderLists
four_pending = left_to (pends 0 ∷ pends 1 ∷ pends 2 ∷ pends 3 ∷ [])

abbrev pending_notice : ℕ → ℕ → Notice
pending_notice place queue = record { key = record { place = place; round = 0 }; queue = queue; cause = Cycle 3 5 }

-- what a batch has already
abbrev an_old_notice : Notice
an_old_notice = record { key = record { place = 9; round = 0 }; queue = 8; cause = Own }

-- promise: Processor::next_queue: the queue of the last is answered
the_next_queue_is_that_of_the_first : next_queue pending_desk.places (pends 3 ∷ pends 0 ∷ []) ≡ Some 8
the_next_queue_is_that_of_the_first = refl

there_is_none_where_nothing_is_pending : next_queue pending_desk.places [] ≡ None
there_is_none_where_nothing_is_pending = refl

there_is_none_of_an_old_key :
    next_queue pending_desk.places (record { key = record { place = 0; round = 4 }; cycle = 3 } ∷ []) ≡ None
there_is_none_of_an_old_key = refl

-- promise: Processor::hand_batch: nothing is handed on, or less than all that are for the queue
all_for_the_queue_are_handed_on :
    (handed_batch 7 9 pending_desk four_pending (an_old_notice ∷ [])).notices
    ≡ an_old_notice ∷ pending_notice 0 7 ∷ pending_notice 2 7 ∷ []
all_for_the_queue_are_handed_on = refl

-- promise: Processor::hand_batch: what is for another queue is handed on
what_is_for_another_is_left : (handed_batch 7 9 pending_desk four_pending []).finder ≡ left_to (pends 3 ∷ [])
what_is_for_another_is_left = refl

-- promise: Processor::hand_batch: what is handed on isn't out
what_is_in_the_batch_is_out :
    (handed_batch 8 1 pending_desk (left_to (pends 3 ∷ [])) []).desk
    ≡ record pending_desk {
      places = a_pending_place 7 false ∷ a_pending_place 7 true ∷ a_pending_place 7 false
          ∷ record {
            round = 0;
            held =
                Some (record {
                  owner = None;
                  strength = Weak;
                  referent = None;
                  queue = Some 8;
                  stamp = 0;
                  is_told = true;
                  is_pending = false;
                  is_out = true;
                });
          } ∷ [];
    }
what_is_in_the_batch_is_out = refl

-- promise: Processor::hand_batch: more than so many are handed on
no_more_than_so_many : (handed_batch 7 2 pending_desk four_pending []).finder ≡ left_to (pends 2 ∷ pends 3 ∷ [])
no_more_than_so_many = refl

what_was_told_counts_and_has_no_notice :
    (handed_batch 7 2 pending_desk four_pending []).notices ≡ pending_notice 0 7 ∷ []
what_was_told_counts_and_has_no_notice = refl

-- promise: Processor::hand_batch: a later one is handed on before the first
nothing_is_handed_on_over_the_first :
    handed_batch 8 9 pending_desk four_pending [] ≡ handing pending_desk four_pending []
nothing_is_handed_on_over_the_first = refl

a_step_for_another_queue_changes_nothing :
    hand_next 8 (handing pending_desk four_pending []) ≡ handing pending_desk four_pending []
a_step_for_another_queue_changes_nothing = refl

-- ---- rows

abbrev pending_crew : Crew
pending_crew = record { desk = pending_desk; finders = four_pending ∷ [] }

a_batch_is_some_rows :
    AreHandedOn pending_crew 0 7 (an_old_notice ∷ []) (handed_batch 7 9 pending_desk four_pending (an_old_notice ∷ []))
a_batch_is_some_rows = batch_handed_on pending_crew 0 (omega arith) 7 9 (an_old_notice ∷ [])

-- a notice for another queue may not be in it
nothing_for_another_is_handed_on : (d : Desk) (f : FinderLists)
    → ¬ (AreHandedOn pending_crew 0 7 [] (handing d f (an_old_notice ∷ [])))
nothing_for_another_is_handed_on d f rows =
    let own : AreFor 7 (an_old_notice ∷ []) = subst (AreFor 7) (sym rows.2) rows.3 in
    let other : 8 ≡ 7 = own.0 in
    absurd (omega (arith, other))
