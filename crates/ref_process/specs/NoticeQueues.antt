-- A queue of notices, as plain data: first in, first out, and nothing is remembered of what was taken. What its calls
-- answer and leave.
use Rattle.std.specs.Prelude.{◌≡◌, ℕ, ◌+◌, Bool, true, false, ◌||◌, ◌==◌, if◌then◌else◌, nat_lt}
use Rattle.std.specs.Prelude.{List, [], ◌∷◌, ◌++◌, Option, None}
use Rattle.std.specs.List.{AllByRecursion}
use Rattle.ref_process.specs.Desks.{unless_met, RefusedFor}
use Rattle.ref_process.specs.declared.fault.ProcessFault.{ProcessFault}
use Rattle.ref_process.specs.declared.fault.ProcessFault.TheVariants.{WrongQueue, NumbersSpent, NoMemory}
use Rattle.ref_process.specs.declared.notice.Notice.{Notice}
use Rattle.ref_process.specs.declared.notice_queue.NoticePolled.{NoticePolled}
use Rattle.ref_process.specs.declared.notice_queue.NoticePolled.TheVariants as polled
use Rattle.ref_process.specs.declared.notice_queue.NoticePut.{NoticePut}
use Rattle.ref_process.specs.declared.notice_queue.NoticePut.TheVariants as put

-- a queue: its number, what stands in it, first first, how many were ever put in, and whether it is closed
pub record QueuedNotices : Type 0 where
  pub queue : ℕ
  pub stands : List Notice
  pub count : ℕ
  pub closed : Bool

-- the queue of a number, into which nothing was ever put
abbrev pub new_notices : ℕ → QueuedNotices
new_notices q = record { queue = q; stands = []; count = 0; closed = false }

-- each of these is for the queue of this number
abbrev pub AreFor : ℕ → List Notice → Type 0
AreFor q xs = AllByRecursion (λ x. x.queue ≡ q) xs

-- ---- putting in

-- why a notice may not be put in: it is for another queue, or no position is left in a queue that is open
abbrev pub putting_refusal : QueuedNotices → Notice → Option ProcessFault
putting_refusal q x =
    unless_met (x.queue == q.queue) WrongQueue
    (unless_met (q.closed || nat_lt q.count 18446744073709551615) NumbersSpent None)

-- a put was refused so: for its reason, and for want of memory only where there is none and the queue is open
abbrev pub RefusesPutting : QueuedNotices → Notice → ProcessFault → Type 0
RefusesPutting q x fault = RefusedFor (putting_refusal q x) fault × (fault ≡ NoMemory → q.closed ≡ false)

-- what a put answers where it is not refused: the notice comes back from a closed queue, and else has its position
abbrev pub putting_of : QueuedNotices → Notice → NoticePut
putting_of q x = if q.closed then put.Closed x else put.Added q.count

-- the queue with one more notice, at the end
abbrev pub with_notice : QueuedNotices → Notice → QueuedNotices
with_notice q x = record q { stands = q.stands ++ x ∷ []; count = q.count + 1 }

abbrev pub after_putting : QueuedNotices → Notice → QueuedNotices
after_putting q x = if q.closed then q else with_notice q x

-- ---- taking out, and the end

-- what a poll answers, by what stands: the first, or else whether something may come yet
abbrev pub polling_of : QueuedNotices → List Notice → NoticePolled
polling_of q [] = if q.closed then polled.Closed else polled.Empty
polling_of q (x ∷ xs) = polled.Took x

abbrev pub after_polling : QueuedNotices → List Notice → QueuedNotices
after_polling q [] = q
after_polling q (x ∷ xs) = record q { stands = xs }

-- what was taken, if anything, is for the queue of this number
abbrev pub TakesFor : ℕ → NoticePolled → Type 0
TakesFor q (polled.Took x) = x.queue ≡ q
TakesFor q polled.Empty = Unit {0}
TakesFor q polled.Closed = Unit {0}

abbrev pub after_closing : QueuedNotices → QueuedNotices
after_closing q = record q { closed = true }
