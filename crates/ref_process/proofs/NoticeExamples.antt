-- What the calls of a queue of notices may answer and leave at worked states, and what they may not.
use Rattle.std.proofs.Common.{arith, ◌≡◌, ℕ, Bool, true, false, List, [], ◌∷◌, Some, None, refl, ap}
use Rattle.std.proofs.lemmas.Bool.{true≢false}
use Rattle.ref_base.specs.declared.cause.Cause.TheVariants.{Own, Cycle}
use Rattle.ref_process.specs.NoticeQueues.{QueuedNotices, new_notices, AreFor, putting_refusal, RefusesPutting}
use Rattle.ref_process.specs.NoticeQueues.{putting_of, after_putting, polling_of, after_polling, TakesFor}
use Rattle.ref_process.specs.NoticeQueues.{after_closing}
use Rattle.ref_process.specs.NoticeRows.{NoticeRow, PutsNotice, PollsNotice, ClosesNotices, IsNoticeRow, IsNoticeRun}
use Rattle.ref_process.specs.NoticeRows.{notices_added, notices_taken, positions_given, numbered_from}
use Rattle.ref_process.specs.declared.fault.ProcessFault.TheVariants.{WrongQueue, NumbersSpent, NoMemory}
use Rattle.ref_process.specs.declared.notice.Notice.{Notice}
use Rattle.ref_process.specs.declared.notice_queue.NoticePolled.{NoticePolled}
use Rattle.ref_process.specs.declared.notice_queue.NoticePolled.TheVariants as polled
use Rattle.ref_process.specs.declared.notice_queue.NoticePut.TheVariants as put

-- ---- a queue

-- a notice for queue 7, of the reference in this place
abbrev a_notice : ℕ → Notice
a_notice place = record { key = record { place = place; round = 0 }; queue = 7; cause = Cycle 3 0 }

-- and one for queue 8
abbrev another_notice : Notice
another_notice = record { key = record { place = 5; round = 0 }; queue = 8; cause = Own }

-- queue 7, into which four were put and of which two were taken
abbrev a_queue : Bool → QueuedNotices
a_queue closed = record { queue = 7; stands = a_notice 2 ∷ a_notice 3 ∷ []; count = 4; closed = closed }

-- the same queue, of which all were taken
abbrev a_drained_queue : Bool → QueuedNotices
a_drained_queue closed = record (a_queue closed) { stands = [] }

-- and one without a position for one more
abbrev a_spent_queue : Bool → QueuedNotices
a_spent_queue closed = record (a_queue closed) { count = 18446744073709551615 }

-- promise: NoticeQueue::new: a new queue is closed
a_new_queue_is_open : (new_notices 7).closed ≡ false
a_new_queue_is_open = refl

-- promise: NoticeQueue::new: positions begin at 1
its_first_position_is_0 : putting_of (new_notices 7) (a_notice 0) ≡ put.Added 0
its_first_position_is_0 = refl

what_stands_is_for_the_queue : AreFor 7 (a_queue false).stands
what_stands_is_for_the_queue = (refl, (refl, tt))

-- promise: NoticeQueue::end: a notice for another queue is given
a_notice_for_another_is_not : ¬ (AreFor 7 (a_notice 2 ∷ another_notice ∷ []))
a_notice_for_another_is_not own = let other : 8 ≡ 7 = own.1.0 in absurd (omega (arith, other))

-- ---- putting in

its_own_notice_is_put_in : putting_refusal (a_queue false) (a_notice 4) ≡ None
its_own_notice_is_put_in = refl

-- promise: NoticeQueue::put: a notice for another queue is put in
no_notice_for_another : putting_refusal (a_queue false) another_notice ≡ Some WrongQueue
no_notice_for_another = refl

-- promise: NoticeQueue::put: a closed queue takes a notice for another
nor_where_it_is_closed : putting_refusal (a_queue true) another_notice ≡ Some WrongQueue
nor_where_it_is_closed = refl

-- promise: NoticeQueue::put: a position is given twice once all are spent
no_notice_without_a_position : putting_refusal (a_spent_queue false) (a_notice 4) ≡ Some NumbersSpent
no_notice_without_a_position = refl

a_closed_queue_wants_no_position : putting_refusal (a_spent_queue true) (a_notice 4) ≡ None
a_closed_queue_wants_no_position = refl

the_last_position_is_given :
    putting_refusal (record (a_queue false) { count = 18446744073709551614 }) (a_notice 4) ≡ None
the_last_position_is_given = refl

memory_may_be_wanting_for_a_notice : RefusesPutting (a_queue false) (a_notice 4) NoMemory
memory_may_be_wanting_for_a_notice = (refl, λ is. refl)

-- promise: NoticeQueue::put: want of memory is told where the queue is closed
no_memory_is_wanted_by_a_closed_queue : ¬ (RefusesPutting (a_queue true) (a_notice 4) NoMemory)
no_memory_is_wanted_by_a_closed_queue is = true≢false (is.1 refl)

-- promise: NoticeQueue::put: want of memory is told where the notice is for another queue
nor_for_the_notice_of_another : ¬ (RefusesPutting (a_queue false) another_notice NoMemory)
nor_for_the_notice_of_another is = let fault = is.0 in absurd cc

its_position_is_the_count : putting_of (a_queue false) (a_notice 4) ≡ put.Added 4
its_position_is_the_count = refl

-- promise: NoticeQueue::put: a closed queue keeps the notice
it_comes_back_from_a_closed_queue : putting_of (a_queue true) (a_notice 4) ≡ put.Closed (a_notice 4)
it_comes_back_from_a_closed_queue = refl

-- promise: NoticeQueue::put: the notice stands in front
it_stands_last : (after_putting (a_queue false) (a_notice 4)).stands ≡ a_notice 2 ∷ a_notice 3 ∷ a_notice 4 ∷ []
it_stands_last = refl

-- promise: NoticeQueue::put: the position isn't counted
it_is_counted : (after_putting (a_queue false) (a_notice 4)).count ≡ 5
it_is_counted = refl

-- promise: NoticeQueue::put: a closed queue changes
a_closed_queue_stays : after_putting (a_queue true) (a_notice 4) ≡ a_queue true
a_closed_queue_stays = refl

-- ---- taking out, and the end

the_first_is_taken : polling_of (a_queue false) (a_queue false).stands ≡ polled.Took (a_notice 2)
the_first_is_taken = refl

-- promise: NoticeQueue::close: what stands is lost
a_closed_queue_gives_out_what_stands : polling_of (a_queue true) (a_queue true).stands ≡ polled.Took (a_notice 2)
a_closed_queue_gives_out_what_stands = refl

-- promise: NoticeQueue::poll: what was taken still stands
it_stands_no_more : (after_polling (a_queue false) (a_queue false).stands).stands ≡ a_notice 3 ∷ []
it_stands_no_more = refl

-- promise: NoticeQueue::poll: a position is free again once its notice was taken
its_position_is_not_given_again : (after_polling (a_queue false) (a_queue false).stands).count ≡ 4
its_position_is_not_given_again = refl

something_may_come_yet : polling_of (a_drained_queue false) [] ≡ polled.Empty
something_may_come_yet = refl

-- promise: NoticeQueue::poll: a closed queue reads as empty
nothing_comes_any_more : polling_of (a_drained_queue true) [] ≡ polled.Closed
nothing_comes_any_more = refl

its_notice_may_be_taken : TakesFor 7 (polled.Took (a_notice 2))
its_notice_may_be_taken = refl

-- promise: NoticeQueue::poll: a notice for another queue is taken
a_notice_for_another_may_not : ¬ (TakesFor 7 (polled.Took another_notice))
a_notice_for_another_may_not own = let other : 8 ≡ 7 = own in absurd (omega (arith, other))

-- promise: NoticeQueue::close: the queue stays open
a_queue_is_closed_by_a_close : after_closing (a_queue false) ≡ a_queue true
a_queue_is_closed_by_a_close = refl

-- promise: NoticeQueue::close: a close of a closed queue opens it
and_stays_so_by_another : after_closing (a_queue true) ≡ a_queue true
and_stays_so_by_another = refl

-- ---- rows

a_put_is_a_row :
    IsNoticeRow (a_queue false) (PutsNotice (a_notice 4) (put.Added 4)) (after_putting (a_queue false) (a_notice 4))
a_put_is_a_row = ((refl, refl), refl)

-- promise: NoticeQueue::put: a closed queue adds
no_put_adds_to_a_closed_queue : (e : QueuedNotices)
    → ¬ (IsNoticeRow (a_queue true) (PutsNotice (a_notice 4) (put.Added 4)) e)
no_put_adds_to_a_closed_queue e leads = let answer = leads.0.1 in absurd cc

-- the place of what was taken, and 9 where nothing was
abbrev place_taken : NoticePolled → ℕ
place_taken (polled.Took x) = x.key.place
place_taken polled.Empty = 9
place_taken polled.Closed = 9

-- promise: NoticeQueue::poll: the last that was put in is taken first
no_poll_takes_the_second : (e : QueuedNotices)
    → ¬ (IsNoticeRow (a_queue false) (PollsNotice (polled.Took (a_notice 3))) e)
no_poll_takes_the_second e leads =
    let place : 3 ≡ 2 = ap place_taken leads.0 in
    absurd (omega (arith, place))

-- promise: NoticeQueue::close: a second close says that the queue was open
no_second_close_finds_it_open : (e : QueuedNotices) → ¬ (IsNoticeRow (a_queue true) (ClosesNotices true) e)
no_second_close_finds_it_open e leads = true≢false leads.0

-- a put, a poll, a close, a put that comes back, the last poll, and one that finds nothing
abbrev some_rows : List NoticeRow
some_rows =
    PutsNotice (a_notice 1) (put.Added 0) ∷ PutsNotice (a_notice 2) (put.Added 1)
    ∷ PollsNotice (polled.Took (a_notice 1)) ∷ ClosesNotices true ∷ PutsNotice (a_notice 3) (put.Closed (a_notice 3))
    ∷ PollsNotice (polled.Took (a_notice 2)) ∷ PollsNotice polled.Closed ∷ []

-- queue 7 as it is closed, with these standing and two put in
abbrev closed_with : List Notice → QueuedNotices
closed_with xs = record { queue = 7; stands = xs; count = 2; closed = true }

some_rows_are_a_run : IsNoticeRun (new_notices 7) some_rows (closed_with [])
some_rows_are_a_run = (
  after_putting (new_notices 7) (a_notice 1),
  ((refl, refl), refl),
  (
    after_putting (after_putting (new_notices 7) (a_notice 1)) (a_notice 2),
    ((refl, refl), refl),
    (
      record (closed_with (a_notice 2 ∷ [])) { closed = false },
      (refl, refl),
      (
        closed_with (a_notice 2 ∷ []),
        (refl, refl),
        (
          closed_with (a_notice 2 ∷ []),
          ((refl, refl), refl),
          (closed_with [], (refl, refl), (closed_with [], (refl, refl), refl)),
        ),
      ),
    ),
  ),
)

what_they_put_in : notices_added some_rows ≡ a_notice 1 ∷ a_notice 2 ∷ []
what_they_put_in = refl

what_they_took : notices_taken some_rows ≡ a_notice 1 ∷ a_notice 2 ∷ []
what_they_took = refl

the_positions_they_gave : positions_given some_rows ≡ numbered_from 0 (a_notice 1 ∷ a_notice 2 ∷ [])
the_positions_they_gave = refl
