-- A processor with its finders, queues of notices, and the notices that the program has in hand. A notice can't be
-- copied, so a row that puts one in or spends it takes it out of the hand. One that the program lets go counts as in
-- hand.
use Rattle.std.specs.Prelude.{◌≡◌, ℕ, ◌+◌, ◌<◌, if◌then◌else◌, List, [], ◌∷◌, ◌++◌, length, slice_index_or, slice_set}
use Rattle.std.specs.Prelude.{sum_by, Option, Some, None}
use Rattle.ref_base.specs.Runs.{LeadsThrough}
use Rattle.ref_process.specs.DeskRows.{Crew, DeskRow, Enqueues, Hands, Spends, IsDeskRow}
use Rattle.ref_process.specs.HandBatches.{if_notice}
use Rattle.ref_process.specs.NoticeQueues.{QueuedNotices, new_notices}
use Rattle.ref_process.specs.NoticeRows.{NoticeRow, PutsNotice, IsNoticeRow, taken_by_row}
use Rattle.ref_process.specs.RowTallies.{same_key, one_of}
use Rattle.ref_process.specs.declared.key.Key.{Key}
use Rattle.ref_process.specs.declared.notice.Notice.{Notice}
use Rattle.ref_process.specs.declared.notice_queue.NoticePut.TheVariants as put

pub record Office : Type 0 where
  pub crew : Crew
  pub queues : List QueuedNotices
  pub hand : List Notice

-- a call of the processor, or of a queue by its place in the list
pub data OfficeRow : Type 0 where
  OfCrew : DeskRow → OfficeRow
  OfQueue : ℕ → NoticeRow → OfficeRow

abbrev pub office_queue : Office → ℕ → QueuedNotices
office_queue o i = slice_index_or o.queues i (new_notices 0)

-- ---- the hand

-- the notice, where there is one
abbrev pub if_given : Option Notice → List Notice
if_given None = []
if_given (Some x) = x ∷ []

-- what a call gives into the hand
abbrev pub hand_given : OfficeRow → List Notice
hand_given (OfCrew (Enqueues k x)) = if_given x
hand_given (OfCrew (Hands i x)) = if_notice x
hand_given (OfCrew row) = []
hand_given (OfQueue i row) = taken_by_row row

-- these are left of the notices where one of x is taken out
abbrev pub IsLeftWithout : Notice → List Notice → List Notice → Type 0
IsLeftWithout x xs left =
    (front : List Notice) × (back : List Notice) × (xs ≡ front ++ x ∷ back) × (left ≡ front ++ back)

-- these are left in the hand once a call has its notice: the one that it adds to a queue, or one of the key it spends
abbrev pub IsLeftBy : OfficeRow → List Notice → List Notice → Type 0
IsLeftBy (OfCrew (Spends k)) hand left = (x : Notice) × (x.key ≡ k) × IsLeftWithout x hand left
IsLeftBy (OfQueue i (PutsNotice x (put.Added position))) hand left = IsLeftWithout x hand left
IsLeftBy row hand left = left ≡ hand

-- a call has its notice out of the one hand, and the other hand has what it gives too
abbrev pub PassesHand : OfficeRow → List Notice → List Notice → Type 0
PassesHand row hand after = (left : List Notice) × IsLeftBy row hand left × (after ≡ left ++ hand_given row)

-- ---- rows

-- the row leads from the one to the other, whatever the marker answers
abbrev pub IsOfficeRow : Office → OfficeRow → Office → Type 0
IsOfficeRow o (OfCrew row) e =
    IsDeskRow o.crew row e.crew × (e.queues ≡ o.queues) × PassesHand (OfCrew row) o.hand e.hand
IsOfficeRow o (OfQueue i row) e =
    (q : QueuedNotices) × (i < length o.queues) × IsNoticeRow (office_queue o i) row q
    × (e.queues ≡ slice_set o.queues i q) × (e.crew ≡ o.crew) × PassesHand (OfQueue i row) o.hand e.hand

-- the rows do
abbrev pub IsOfficeRun : Office → List OfficeRow → Office → Type 0
IsOfficeRun = LeadsThrough IsOfficeRow

-- the rows of the processor alone
abbrev pub crew_rows : List OfficeRow → List DeskRow
crew_rows [] = []
crew_rows (OfCrew row ∷ rest) = row ∷ crew_rows rest
crew_rows (OfQueue i row ∷ rest) = crew_rows rest

-- ---- how many notices of a key there are

abbrev pub times_in : Key → List Notice → ℕ
times_in k [] = 0
times_in k (x ∷ xs) = one_of k (Some x) + times_in k xs

-- in the hand and in all queues
abbrev pub times_placed : Key → Office → ℕ
times_placed k o = times_in k o.hand + sum_by (λ (q : QueuedNotices). times_in k q.stands) o.queues

abbrev pub spent_of : Key → OfficeRow → ℕ
spent_of k (OfCrew (Spends j)) = if same_key k j then 1 else 0
spent_of k row = 0

-- how many of the key the rows spend
abbrev pub times_spent : Key → List OfficeRow → ℕ
times_spent k [] = 0
times_spent k (row ∷ rest) = spent_of k row + times_spent k rest
