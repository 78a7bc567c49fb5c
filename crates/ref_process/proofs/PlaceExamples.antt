-- Where notices may be, after rows of a processor with its queues, and where they may not.
use Rattle.std.proofs.Common.{arith, ◌≡◌, ◌++◌, List, [], ◌∷◌, refl, ap, length}
use Rattle.std.proofs.Common.{length-append}
use Rattle.ref_base.specs.declared.cause.Cause.TheVariants.{Own}
use Rattle.ref_process.specs.CycleRows.{new_crew}
use Rattle.ref_process.specs.NoticePlaces.{Office, OfficeRow, OfQueue, IsLeftWithout, IsOfficeRow, IsOfficeRun}
use Rattle.ref_process.specs.NoticePlaces.{times_placed, times_spent, crew_rows}
use Rattle.ref_process.specs.NoticeQueues.{QueuedNotices, new_notices, after_putting}
use Rattle.ref_process.specs.NoticeRows.{PutsNotice, PollsNotice}
use Rattle.ref_process.specs.declared.key.Key.{Key}
use Rattle.ref_process.specs.declared.notice.Notice.{Notice}
use Rattle.ref_process.specs.declared.notice_queue.NoticePolled.TheVariants as polled
use Rattle.ref_process.specs.declared.notice_queue.NoticePut.TheVariants as put

abbrev key_2 : Key
key_2 = record { place = 2; round = 0 }

-- its notice, for queue 7
abbrev notice_2 : Notice
notice_2 = record { key = key_2; queue = 7; cause = Own }

-- queue 7 is this, and these are in hand
abbrev an_office : QueuedNotices → List Notice → Office
an_office q hand = record { crew = new_crew 0 (0 ∷ []); queues = q ∷ []; hand = hand }

-- queue 7 with the notice, and once it was taken
abbrev a_full_queue : QueuedNotices
a_full_queue = after_putting (new_notices 7) notice_2

abbrev an_empty_queue : QueuedNotices
an_empty_queue = record a_full_queue { stands = [] }

abbrev put_2 : OfficeRow
put_2 = OfQueue 0 (PutsNotice notice_2 (put.Added 0))

abbrev poll_2 : OfficeRow
poll_2 = OfQueue 0 (PollsNotice (polled.Took notice_2))

what_is_in_hand_may_be_put_in :
    IsOfficeRow (an_office (new_notices 7) (notice_2 ∷ [])) put_2 (an_office a_full_queue [])
what_is_in_hand_may_be_put_in =
    (a_full_queue, omega arith, ((refl, refl), refl), refl, refl, ([], ([], [], refl, refl), refl))

what_is_taken_is_in_hand : IsOfficeRow (an_office a_full_queue []) poll_2 (an_office an_empty_queue (notice_2 ∷ []))
what_is_taken_is_in_hand = (an_empty_queue, omega arith, (refl, refl), refl, refl, ([], refl, refl))

-- nothing can be taken out of an empty hand
nothing_is_left_of_nothing : (x : Notice) (left : List Notice) → ¬ (IsLeftWithout x [] left)
nothing_is_left_of_nothing x left is =
    let count : 0 ≡ length (is.0 ++ x ∷ is.1) = ap length is.2 in
    absurd (omega (arith, count, length-append is.0 (x ∷ is.1)))

-- promise: NoticeQueue::put: a notice is put in that nobody has
what_is_not_in_hand_may_not_be_put_in : (e : Office) → ¬ (IsOfficeRow (an_office (new_notices 7) []) put_2 e)
what_is_not_in_hand_may_not_be_put_in e leads = nothing_is_left_of_nothing notice_2 leads.5.0 leads.5.1

-- a put and a poll are a run, which leaves the notice in one place
abbrev put_and_poll : List OfficeRow
put_and_poll = put_2 ∷ poll_2 ∷ []

they_are_a_run :
    IsOfficeRun (an_office (new_notices 7) (notice_2 ∷ [])) put_and_poll (an_office an_empty_queue (notice_2 ∷ []))
they_are_a_run = (
  an_office a_full_queue [],
  what_is_in_hand_may_be_put_in,
  (
    an_office an_empty_queue (notice_2 ∷ []),
    what_is_taken_is_in_hand,
    refl,
  ),
)

it_is_in_one_place : times_placed key_2 (an_office a_full_queue []) ≡ 1
it_is_in_one_place = refl

in_hand_and_in_a_queue_it_would_be_in_two : times_placed key_2 (an_office a_full_queue (notice_2 ∷ [])) ≡ 2
in_hand_and_in_a_queue_it_would_be_in_two = refl

nothing_was_spent_or_given : (times_spent key_2 put_and_poll ≡ 0) × (crew_rows put_and_poll ≡ [])
nothing_was_spent_or_given = (refl, refl)
