-- How many notices of a reference there are, as rows of a processor and of its queues go by.
use Rattle.std.proofs.Common.{arith, ◌≡◌, ◌≤◌, ◌+◌, ◌∷◌, ◌++◌, [], refl, subst, sym, ap, ◌∙◌, ℕ, List, Option}
use Rattle.std.proofs.Common.{Some, None, if◌then◌else◌}
use Rattle.std.proofs.lemmas.List.Sums.{sum_by-set}
use Rattle.ref_process.proofs.NoticeRuns.{row_in_order}
use Rattle.ref_process.proofs.RunNotices.{told_once}
use Rattle.ref_process.specs.DeskRows.{DeskRow, Adds, Begins, Finds, EndsMarking, TakesMade, Looks, EndsClearing}
use Rattle.ref_process.specs.DeskRows.{Gets, Clears, Enqueues, Hands, Spends, Buries, Relocates, IsDeskRun}
use Rattle.ref_process.specs.HandBatches.{if_notice}
use Rattle.ref_process.specs.NoticePlaces.{Office, OfficeRow, OfCrew, OfQueue, office_queue, if_given, hand_given}
use Rattle.ref_process.specs.NoticePlaces.{IsLeftWithout, IsLeftBy, IsOfficeRow, IsOfficeRun, crew_rows}
use Rattle.ref_process.specs.NoticePlaces.{times_in, times_placed, spent_of, times_spent}
use Rattle.ref_process.specs.NoticeQueues.{QueuedNotices, new_notices}
use Rattle.ref_process.specs.NoticeRows.{NoticeRow, PutsNotice, PollsNotice, ClosesNotices, IsNoticeRow}
use Rattle.ref_process.specs.NoticeRows.{added_by_row, taken_by_row}
use Rattle.ref_process.specs.RowTallies.{one_of, one_if_handed, told_by, times_told, same_key}
use Rattle.ref_process.specs.declared.handed.Handed.{Handed}
use Rattle.ref_process.specs.declared.handed.Handed.TheVariants as handed
use Rattle.ref_process.specs.declared.key.Key.{Key}
use Rattle.ref_process.specs.declared.notice.Notice.{Notice}
use Rattle.ref_process.specs.declared.notice_queue.NoticePut.TheVariants as put

module _ (k : Key) where
  times_joined : (xs ys : List Notice) → times_in k (xs ++ ys) ≡ times_in k xs + times_in k ys
  times_joined [] ys = omega arith
  times_joined (x ∷ xs) ys = omega (arith, times_joined xs ys)

  times_without : (x : Notice) (xs left : List Notice) → IsLeftWithout x xs left
      → one_of k (Some x) + times_in k left ≡ times_in k xs
  times_without x xs left is =
      grind (arith, is.2, is.3, times_joined is.0 is.1, times_joined is.0 (x ∷ is.1))

  -- ---- by a row of the processor

  given_once : (o : Option Notice) → times_in k (if_given o) ≡ one_of k o
  given_once None = refl
  given_once (Some x) = omega arith

  handed_once : (x : Handed) → times_in k (if_notice x) ≡ one_if_handed k x
  handed_once (handed.Notice x) = omega arith
  handed_once (handed.Already j) = refl
  handed_once handed.Nothing = refl

  crew_gives : (row : DeskRow) → times_in k (hand_given (OfCrew row)) ≡ told_by k row
  crew_gives (Adds j owner strength referent queue x) = refl
  crew_gives (Begins now u n) = refl
  crew_gives (Finds i j x) = refl
  crew_gives EndsMarking = refl
  crew_gives (TakesMade i) = refl
  crew_gives (Looks i l q) = refl
  crew_gives EndsClearing = refl
  crew_gives (Gets j got) = refl
  crew_gives (Clears j) = refl
  crew_gives (Enqueues j x) = given_once x
  crew_gives (Hands i x) = handed_once x
  crew_gives (Spends j) = refl
  crew_gives (Buries j) = refl
  crew_gives (Relocates to) = refl

  spends_one : (j : Key) (x : Notice) → x.key ≡ j → spent_of k (OfCrew (Spends j)) ≡ one_of k (Some x)
  spends_one j x is = ap (λ i. if same_key k i then 1 else 0) (sym is)

  crew_leaves : (row : DeskRow) (hand left : List Notice) → IsLeftBy (OfCrew row) hand left
      → spent_of k (OfCrew row) + times_in k left ≡ times_in k hand
  crew_leaves (Adds j owner strength referent queue x) hand left is = grind (arith, is)
  crew_leaves (Begins now u n) hand left is = grind (arith, is)
  crew_leaves (Finds i j x) hand left is = grind (arith, is)
  crew_leaves EndsMarking hand left is = grind (arith, is)
  crew_leaves (TakesMade i) hand left is = grind (arith, is)
  crew_leaves (Looks i l q) hand left is = grind (arith, is)
  crew_leaves EndsClearing hand left is = grind (arith, is)
  crew_leaves (Gets j got) hand left is = grind (arith, is)
  crew_leaves (Clears j) hand left is = grind (arith, is)
  crew_leaves (Enqueues j x) hand left is = grind (arith, is)
  crew_leaves (Hands i x) hand left is = grind (arith, is)
  crew_leaves (Spends j) hand left is =
      ap (λ n. n + times_in k left) (spends_one j is.0 is.1) ∙ times_without is.0 hand left is.2
  crew_leaves (Buries j) hand left is = grind (arith, is)
  crew_leaves (Relocates to) hand left is = grind (arith, is)

  -- ---- by a row of a queue

  queue_leaves : (i : ℕ) (row : NoticeRow) (hand left : List Notice) → IsLeftBy (OfQueue i row) hand left
      → times_in k (added_by_row row) + times_in k left ≡ times_in k hand
  queue_leaves i (PutsNotice x (put.Added position)) hand left is = omega (arith, times_without x hand left is)
  queue_leaves i (PutsNotice x (put.Closed back)) hand left is = grind (arith, is)
  queue_leaves i (PollsNotice answer) hand left is = grind (arith, is)
  queue_leaves i (ClosesNotices was_open) hand left is = grind (arith, is)

  queue_keeps : (q : QueuedNotices) (row : NoticeRow) (r : QueuedNotices) → IsNoticeRow q row r
      → times_in k (taken_by_row row) + times_in k r.stands ≡ times_in k q.stands + times_in k (added_by_row row)
  queue_keeps q row r leads =
      sym (times_joined (taken_by_row row) r.stands)
      ∙ ap (times_in k) (rw leads.1 (row_in_order q row leads.0)) ∙ times_joined q.stands (added_by_row row)

  -- ---- along a run

  crew_row : (o : Office) (row : DeskRow) (e : Office) → IsOfficeRow o (OfCrew row) e
      → spent_of k (OfCrew row) + times_placed k e ≡ times_placed k o + told_by k row
  crew_row o row e leads =
      let hand = leads.2 in
      grind (
        arith,
        leads.1,
        hand.2,
        times_joined hand.0 (hand_given (OfCrew row)),
        crew_gives row,
        crew_leaves row o.hand hand.0 hand.1,
      )

  queue_row : (o : Office) (i : ℕ) (row : NoticeRow) (e : Office) → IsOfficeRow o (OfQueue i row) e
      → times_placed k e ≡ times_placed k o
  queue_row o i row e leads =
      let hand = leads.5 in
      grind (
        arith,
        leads.3,
        hand.2,
        times_joined hand.0 (hand_given (OfQueue i row)),
        queue_leaves i row o.hand hand.0 hand.1,
        queue_keeps (office_queue o i) row leads.0 leads.2,
        sum_by-set (λ (q : QueuedNotices). times_in k q.stands) o.queues i leads.0 (new_notices 0) leads.1,
      )

  pub run_counts : (rows : List OfficeRow) (o e : Office) → IsOfficeRun o rows e
      → times_spent k rows + times_placed k e ≡ times_placed k o + times_told k (crew_rows rows)
  run_counts [] o e run = grind (arith, run)
  run_counts (OfCrew row ∷ rest) o e run =
      omega (arith, crew_row o row run.0 run.1, run_counts rest run.0 e run.2)
  run_counts (OfQueue i row ∷ rest) o e run =
      omega (arith, queue_row o i row run.0 run.1, run_counts rest run.0 e run.2)

-- the processor's own rows are a run of it
crew_run : (rows : List OfficeRow) (o e : Office) → IsOfficeRun o rows e → IsDeskRun o.crew (crew_rows rows) e.crew
crew_run [] o e run = ap (λ (x : Office). x.crew) run
crew_run (OfCrew row ∷ rest) o e run = (run.0.crew, run.1.0, crew_run rest run.0 e run.2)
crew_run (OfQueue i row ∷ rest) o e run =
    subst (λ c. IsDeskRun c (crew_rows rest) e.crew) run.1.4 (crew_run rest run.0 e run.2)

pub placed_once : (rows : List OfficeRow) (o e : Office) → IsOfficeRun o rows e → (k : Key) → times_placed k o ≡ 0
    → times_spent k rows + times_placed k e ≤ 1
placed_once rows o e run k none =
    omega (arith, none, run_counts k rows o e run, told_once (crew_rows rows) o.crew e.crew (crew_run rows o e run) k)
