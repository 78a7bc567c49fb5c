-- What a program of one thread uses (this project's profile).
use Rattle.std.specs.Prelude.{◌≡◌, ℕ, Option, Some, Result, IfOk, IfErr}
use Rattle.ref_base.specs.declared.config.Config.{Config}
use Rattle.ref_base.specs.declared.heap_step.HoldName.{HoldName}
use Rattle.ref_turn.specs.Seats.{IsLeftOpen}
use Rattle.ref_share.specs.Answers.{found, count_standing, job_left_in}
use Rattle.ref_share.specs.CleanMachines.{IsCleanTurn}
use Rattle.ref_share.specs.CleanSeats.{Jobs, CleanSeat, IsCleanSeat, IsFirstCleanSeat, LeavesTable, clean_view}
use Rattle.ref_share.specs.HeapSeats.{IsHeapSeat, IsNewHeap}
use Rattle.ref_share.specs.QueueMachines.{IsQueueTurn}
use Rattle.ref_share.specs.QueueSeats.{SharedQueue, QueueSeat, IsQueueSeat, IsNewQueue, LeavesQueue, queue_view}
use Rattle.ref_share.specs.QueueStates.{NoticeLists}
use Rattle.ref_share.specs.Selves.{IsItself}
use Rattle.ref_share.specs.declared.cleaned_heap.CleanedHeap.{CleanedHeap}

-- its seats are those of its heap, its queue and its cleaner
abbrev pub HasSeats : {J : Type 0} → CleanedHeap J → Type 0
HasSeats h = IsHeapSeat h.heap h.heap_seat × IsQueueSeat h.queue h.queue_seat × IsCleanSeat h.cleaner h.clean_seat

-- A new cleaned heap: heap and queue have the number 0, the cleaner is told by this queue, and each of the three has
-- its first seat, by which nothing was called.
pub record IsNewCleanedHeap {J : Type 0} (config : Config) (h : CleanedHeap J) : Type 0 where
  pub heap : IsNewHeap h.heap config 0 0 h.heap_seat
  pub queue : IsNewQueue h.queue 0 0 h.queue_seat
  pub told_by : h.cleaner.frame ≡ 0
  pub cleaner : IsFirstCleanSeat h.cleaner 0 h.clean_seat

-- A queue and a cleaner were ended: of what the queue was left with so many notices stood, and each job of what the
-- cleaner was left with was run.
pub record AreEnded {J A : Type 0} (WasRun : J → Type 0) (q : SharedQueue A) (queue_seat : QueueSeat)
    (clean_seat : CleanSeat J) (notices : ℕ) : Type 0 where
  pub queue : Result NoticeLists (Option NoticeLists)
  pub queue_left : IfOk queue (λ left. LeavesQueue q (queue_view queue_seat) left)
  pub queue_open : IfErr queue (λ _. IsLeftOpen IsItself IsQueueTurn (queue_view queue_seat))
  pub count : notices ≡ count_standing (found queue)
  pub table : Result (Jobs J) (Option (Jobs J))
  pub table_left : IfOk table (λ t. LeavesTable (clean_view clean_seat) t)
  pub table_open : IfErr table (λ _. IsLeftOpen IsItself IsCleanTurn (clean_view clean_seat))
  pub run : (n : ℕ) (hold : HoldName) (job : J) → job_left_in (found table) n ≡ Some (hold, job) → WasRun job

-- the queue and the cleaner of a program of one thread were ended, as `AreEnded` says
abbrev pub IsEnded : {J : Type 0} → (J → Type 0) → CleanedHeap J → (notices : ℕ) → Type 0
IsEnded WasRun h notices = AreEnded WasRun h.queue h.queue_seat h.clean_seat notices
