-- The rows of a queue of notices: each is a call that was not refused, with its answer. What a run put in and took.
use Rattle.std.specs.Prelude.{◌≡◌, ℕ, ◌+◌, Bool, not, List, [], ◌∷◌, ◌++◌, None}
use Rattle.ref_base.specs.Runs.{LeadsThrough}
use Rattle.ref_process.specs.NoticeQueues.{QueuedNotices, putting_refusal, putting_of, after_putting}
use Rattle.ref_process.specs.NoticeQueues.{polling_of, after_polling, after_closing}
use Rattle.ref_process.specs.declared.notice.Notice.{Notice}
use Rattle.ref_process.specs.declared.notice_queue.NoticePolled.{NoticePolled}
use Rattle.ref_process.specs.declared.notice_queue.NoticePolled.TheVariants as polled
use Rattle.ref_process.specs.declared.notice_queue.NoticePut.{NoticePut}
use Rattle.ref_process.specs.declared.notice_queue.NoticePut.TheVariants as put

-- a call with its answer
pub data NoticeRow : Type 0 where
  PutsNotice : Notice → NoticePut → NoticeRow
  PollsNotice : NoticePolled → NoticeRow
  -- whether it was open
  ClosesNotices : Bool → NoticeRow

-- the call is not refused, and this is its answer
abbrev pub IsAnsweredBy : QueuedNotices → NoticeRow → Type 0
IsAnsweredBy q (PutsNotice x answer) = (putting_refusal q x ≡ None) × (answer ≡ putting_of q x)
IsAnsweredBy q (PollsNotice answer) = answer ≡ polling_of q q.stands
IsAnsweredBy q (ClosesNotices was_open) = was_open ≡ not q.closed

-- what the call leaves
abbrev pub after_notice_row : QueuedNotices → NoticeRow → QueuedNotices
after_notice_row q (PutsNotice x answer) = after_putting q x
after_notice_row q (PollsNotice answer) = after_polling q q.stands
after_notice_row q (ClosesNotices was_open) = after_closing q

-- the row leads from the one to the other
abbrev pub IsNoticeRow : QueuedNotices → NoticeRow → QueuedNotices → Type 0
IsNoticeRow q row r = IsAnsweredBy q row × (r ≡ after_notice_row q row)

-- the rows do
abbrev pub IsNoticeRun : QueuedNotices → List NoticeRow → QueuedNotices → Type 0
IsNoticeRun = LeadsThrough IsNoticeRow

-- ---- what a run put in and took

abbrev pub if_added : Notice → NoticePut → List Notice
if_added x (put.Added position) = x ∷ []
if_added x (put.Closed back) = []

abbrev pub added_by_row : NoticeRow → List Notice
added_by_row (PutsNotice x answer) = if_added x answer
added_by_row (PollsNotice answer) = []
added_by_row (ClosesNotices was_open) = []

-- the notices that were put in, in order
abbrev pub notices_added : List NoticeRow → List Notice
notices_added [] = []
notices_added (row ∷ rest) = added_by_row row ++ notices_added rest

abbrev pub if_took : NoticePolled → List Notice
if_took (polled.Took x) = x ∷ []
if_took polled.Empty = []
if_took polled.Closed = []

abbrev pub taken_by_row : NoticeRow → List Notice
taken_by_row (PutsNotice x answer) = []
taken_by_row (PollsNotice answer) = if_took answer
taken_by_row (ClosesNotices was_open) = []

-- the notices that were taken, in order
abbrev pub notices_taken : List NoticeRow → List Notice
notices_taken [] = []
notices_taken (row ∷ rest) = taken_by_row row ++ notices_taken rest

abbrev pub if_position : NoticePut → List ℕ
if_position (put.Added position) = position ∷ []
if_position (put.Closed back) = []

abbrev pub position_by_row : NoticeRow → List ℕ
position_by_row (PutsNotice x answer) = if_position answer
position_by_row (PollsNotice answer) = []
position_by_row (ClosesNotices was_open) = []

-- the positions that puts answered, in order
abbrev pub positions_given : List NoticeRow → List ℕ
positions_given [] = []
positions_given (row ∷ rest) = position_by_row row ++ positions_given rest

-- for each of these a number, from this one on, rising by one
abbrev pub numbered_from : ℕ → List Notice → List ℕ
numbered_from n [] = []
numbered_from n (x ∷ xs) = n ∷ numbered_from (n + 1) xs
