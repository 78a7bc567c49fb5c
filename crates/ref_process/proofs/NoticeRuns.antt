-- What the rows of a queue of notices put in and take.
use Rattle.std.proofs.Common.{arith, ◌≡◌, ◌∷◌, ◌++◌, ◌+◌, [], refl, subst, sym, append_assoc, ℕ, Bool, true, false}
use Rattle.std.proofs.Common.{List, length, length-append, if◌then◌else◌, Option, None, ◌==◌, ap, ◌∙◌}
use Rattle.std.proofs.lemmas.Bool.{eqb-true}
use Rattle.std.proofs.lemmas.List.{append-nil}
use Rattle.ref_base.proofs.BatchParts.{all_joined}
use Rattle.ref_process.specs.Desks.{unless_met}
use Rattle.ref_process.specs.NoticeQueues.{QueuedNotices, new_notices, AreFor, with_notice}
use Rattle.ref_process.specs.NoticeQueues.{polling_of, after_polling}
use Rattle.ref_process.specs.NoticeRows.{NoticeRow, PutsNotice, PollsNotice, ClosesNotices, IsAnsweredBy}
use Rattle.ref_process.specs.NoticeRows.{after_notice_row, IsNoticeRow, IsNoticeRun, if_added, added_by_row}
use Rattle.ref_process.specs.NoticeRows.{notices_added, if_took, taken_by_row, notices_taken, if_position}
use Rattle.ref_process.specs.NoticeRows.{position_by_row, positions_given, numbered_from}
use Rattle.ref_process.specs.declared.fault.ProcessFault.{ProcessFault}
use Rattle.ref_process.specs.declared.fault.ProcessFault.TheVariants.{WrongQueue}
use Rattle.ref_process.specs.declared.notice.Notice.{Notice}
use Rattle.ref_process.specs.declared.notice_queue.NoticePolled.TheVariants as polled
use Rattle.ref_process.specs.declared.notice_queue.NoticePut.TheVariants as put

-- ---- in order

-- what a put adds stands last
put_stands : (q : QueuedNotices) (x : Notice) (closed : Bool)
    → (if closed then q else with_notice q x).stands
    ≡ q.stands ++ if_added x (if closed then put.Closed x else put.Added q.count)
put_stands q x true = grind (arith, append-nil)
put_stands q x false = refl

-- nothing is taken where nothing stands
none_taken : (closed : Bool) → if_took (if closed then polled.Closed else polled.Empty) ≡ []
none_taken true = refl
none_taken false = refl

-- what a poll takes stood first
poll_stands : (q : QueuedNotices) (xs : List Notice) → q.stands ≡ xs
    → if_took (polling_of q xs) ++ (after_polling q xs).stands ≡ q.stands
poll_stands q [] is = grind (arith, none_taken q.closed)
poll_stands q (x ∷ xs) is = sym is

pub row_in_order : (q : QueuedNotices) (row : NoticeRow) → IsAnsweredBy q row
    → taken_by_row row ++ (after_notice_row q row).stands ≡ q.stands ++ added_by_row row
row_in_order q (PutsNotice x answer) is = grind (arith, put_stands q x q.closed, is)
row_in_order q (PollsNotice answer) is = grind (arith, append-nil, poll_stands q q.stands refl, is)
row_in_order q (ClosesNotices was_open) is = grind (arith, append-nil)

pub run_in_order : (rows : List NoticeRow) (q r : QueuedNotices) → IsNoticeRun q rows r
    → notices_taken rows ++ r.stands ≡ q.stands ++ notices_added rows
run_in_order [] q r run = grind (arith, append-nil, run)
run_in_order (row ∷ rest) q r run =
    grind (arith, append_assoc, row_in_order q row run.1.0, run.1.1, run_in_order rest run.0 r run.2)

-- ---- behind a close

-- a closed queue adds nothing, and stays closed
closed_adds_nothing : (q : QueuedNotices) (row : NoticeRow) → IsAnsweredBy q row → q.closed ≡ true
    → added_by_row row ≡ []
closed_adds_nothing q (PutsNotice x answer) is closed = grind (arith, is, closed)
closed_adds_nothing q (PollsNotice answer) is closed = refl
closed_adds_nothing q (ClosesNotices was_open) is closed = refl

poll_keeps_closed : (q : QueuedNotices) (xs : List Notice) → (after_polling q xs).closed ≡ q.closed
poll_keeps_closed q [] = refl
poll_keeps_closed q (x ∷ xs) = refl

stays_closed : (q : QueuedNotices) (row : NoticeRow) → q.closed ≡ true → (after_notice_row q row).closed ≡ true
stays_closed q (PutsNotice x answer) closed = grind (arith, closed)
stays_closed q (PollsNotice answer) closed = grind (arith, poll_keeps_closed q q.stands, closed)
stays_closed q (ClosesNotices was_open) closed = refl

pub run_adds_nothing : (rows : List NoticeRow) (q r : QueuedNotices) → q.closed ≡ true → IsNoticeRun q rows r
    → notices_added rows ≡ []
run_adds_nothing [] q r closed run = refl
run_adds_nothing (row ∷ rest) q r closed run =
    let later : run.0.closed ≡ true = rw run.1.1 (stays_closed q row closed) in
    grind (arith, closed_adds_nothing q row run.1.0 closed, run_adds_nothing rest run.0 r later run.2)

-- a poll is answered Closed where nothing stands, in a closed queue
polled_closed : (q : QueuedNotices) (xs : List Notice) → polled.Closed ≡ polling_of q xs
    → (q.closed ≡ true) × (xs ≡ [])
polled_closed q [] is = (shut q.closed is, refl)
  where
    shut : (closed : Bool) → polled.Closed ≡ (if closed then polled.Closed else polled.Empty) → closed ≡ true
    shut true is = refl
    shut false is = absurd cc
polled_closed q (x ∷ xs) is = absurd cc

no_front : (xs ys : List Notice) → xs ++ ys ≡ [] → xs ≡ []
no_front [] ys is = refl
no_front (x ∷ xs) ys is = absurd cc

pub run_takes_nothing : (rows : List NoticeRow) (q r : QueuedNotices) → q.closed ≡ true → q.stands ≡ []
    → IsNoticeRun q rows r → notices_taken rows ≡ []
run_takes_nothing rows q r closed none run =
    no_front (notices_taken rows) r.stands
    (grind (arith, run_in_order rows q r run, none, run_adds_nothing rows q r closed run))

pub nothing_behind : (q d : QueuedNotices) → IsNoticeRow q (PollsNotice polled.Closed) d
    → (rows : List NoticeRow) (r : QueuedNotices) → IsNoticeRun d rows r → notices_taken rows ≡ []
nothing_behind q d leads rows r run =
    let over = polled_closed q q.stands leads.0 in
    let same : d ≡ q = leads.1 ∙ ap (after_polling q) over.1 in
    run_takes_nothing rows d r (rw same over.0) (rw same over.1) run

-- ---- positions

put_position : (q : QueuedNotices) (x : Notice) (closed : Bool)
    → if_position (if closed then put.Closed x else put.Added q.count)
    ≡ numbered_from q.count (if_added x (if closed then put.Closed x else put.Added q.count))
put_position q x true = refl
put_position q x false = refl

row_position : (q : QueuedNotices) (row : NoticeRow) → IsAnsweredBy q row
    → position_by_row row ≡ numbered_from q.count (added_by_row row)
row_position q (PutsNotice x answer) is = rw is.1 (put_position q x q.closed)
row_position q (PollsNotice answer) is = refl
row_position q (ClosesNotices was_open) is = refl

put_count : (q : QueuedNotices) (x : Notice) (closed : Bool)
    → (if closed then q else with_notice q x).count
    ≡ q.count + length (if_added x (if closed then put.Closed x else put.Added q.count))
put_count q x true = omega arith
put_count q x false = omega arith

poll_count : (q : QueuedNotices) (xs : List Notice) → (after_polling q xs).count ≡ q.count
poll_count q [] = refl
poll_count q (x ∷ xs) = refl

row_count : (q : QueuedNotices) (row : NoticeRow) → IsAnsweredBy q row
    → (after_notice_row q row).count ≡ q.count + length (added_by_row row)
row_count q (PutsNotice x answer) is = rw is.1 (put_count q x q.closed)
row_count q (PollsNotice answer) is = omega (arith, poll_count q q.stands)
row_count q (ClosesNotices was_open) is = omega arith

numbered_joined : (n : ℕ) (xs ys : List Notice)
    → numbered_from n (xs ++ ys) ≡ numbered_from n xs ++ numbered_from (n + length xs) ys
numbered_joined n [] ys = grind arith
numbered_joined n (x ∷ xs) ys = grind (arith, numbered_joined (n + 1) xs ys)

pub run_count : (rows : List NoticeRow) (q r : QueuedNotices) → IsNoticeRun q rows r
    → r.count ≡ q.count + length (notices_added rows)
run_count [] q r run = grind (arith, run)
run_count (row ∷ rest) q r run =
    grind (
      arith,
      row_count q row run.1.0,
      run.1.1,
      run_count rest run.0 r run.2,
      length-append (added_by_row row) (notices_added rest),
    )

pub run_positions : (rows : List NoticeRow) (q r : QueuedNotices) → IsNoticeRun q rows r
    → positions_given rows ≡ numbered_from q.count (notices_added rows)
run_positions [] q r run = refl
run_positions (row ∷ rest) q r run =
    grind (
      arith,
      row_position q row run.1.0,
      row_count q row run.1.0,
      run.1.1,
      run_positions rest run.0 r run.2,
      numbered_joined q.count (added_by_row row) (notices_added rest),
    )

-- ---- for this queue

-- a put that is not refused is for the queue
put_own : (q : QueuedNotices) (x : Notice) (own : Bool) (later : Option ProcessFault)
    → unless_met own WrongQueue later ≡ None → own ≡ true
put_own q x true later is = refl
put_own q x false later is = absurd cc

if_added_own : (q : QueuedNotices) (x : Notice) (closed : Bool) → x.queue ≡ q.queue
    → AreFor q.queue (if_added x (if closed then put.Closed x else put.Added q.count))
if_added_own q x true own = tt
if_added_own q x false own = (own, tt)

row_own : (q : QueuedNotices) (row : NoticeRow) → IsAnsweredBy q row → AreFor q.queue (added_by_row row)
row_own q (PutsNotice x answer) is =
    let own : x.queue ≡ q.queue = eqb-true x.queue q.queue (put_own q x (x.queue == q.queue) _ is.0) in
    rw is.1 (if_added_own q x q.closed own)
row_own q (PollsNotice answer) is = tt
row_own q (ClosesNotices was_open) is = tt

put_keeps_queue : (q : QueuedNotices) (x : Notice) (closed : Bool)
    → (if closed then q else with_notice q x).queue ≡ q.queue
put_keeps_queue q x true = refl
put_keeps_queue q x false = refl

poll_keeps_queue : (q : QueuedNotices) (xs : List Notice) → (after_polling q xs).queue ≡ q.queue
poll_keeps_queue q [] = refl
poll_keeps_queue q (x ∷ xs) = refl

keeps_queue : (q : QueuedNotices) (row : NoticeRow) → (after_notice_row q row).queue ≡ q.queue
keeps_queue q (PutsNotice x answer) = put_keeps_queue q x q.closed
keeps_queue q (PollsNotice answer) = poll_keeps_queue q q.stands
keeps_queue q (ClosesNotices was_open) = refl

run_own : (rows : List NoticeRow) (q r : QueuedNotices) → IsNoticeRun q rows r → AreFor q.queue (notices_added rows)
run_own [] q r run = tt
run_own (row ∷ rest) q r run =
    let same : run.0.queue ≡ q.queue = rw run.1.1 (keeps_queue q row) in
    all_joined (λ (x : Notice). x.queue ≡ q.queue) (added_by_row row) (notices_added rest) (row_own q row run.1.0)
    (subst (λ n. AreFor n (notices_added rest)) same (run_own rest run.0 r run.2))

front_own : (n : ℕ) (xs ys : List Notice) → AreFor n (xs ++ ys) → AreFor n xs
front_own n [] ys all = tt
front_own n (x ∷ xs) ys all = (all.0, front_own n xs ys all.1)

pub taken_own : (n : ℕ) (rows : List NoticeRow) (r : QueuedNotices) → IsNoticeRun (new_notices n) rows r
    → AreFor n (notices_taken rows)
taken_own n rows r run =
    front_own n (notices_taken rows) r.stands
    (subst (AreFor n) (sym (run_in_order rows (new_notices n) r run)) (run_own rows (new_notices n) r run))
