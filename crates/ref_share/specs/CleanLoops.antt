-- What a cleaner's thread has called, round by round (this project's profile; `java.lang.ref.Cleaner` of Java SE 17).
use Rattle.std.specs.Prelude.{◌≡◌, ℕ, ◌+◌, ◌⊎◌, List, [], ◌∷◌, ◌++◌, length, Option, Some, None, Result, Ok, Err}
use Rattle.ref_base.specs.declared.heap_step.HeapStep.TheVariants as heap
use Rattle.ref_base.specs.declared.heap_step.HoldName.{HoldName}
use Rattle.ref_base.specs.declared.reply.Reply.TheVariants as told
use Rattle.ref_base.specs.HeapSteps.{HeldNotice}
use Rattle.ref_queue.specs.declared.queue.Polled.TheVariants as found
use Rattle.ref_turn.specs.Seats.{entry}
use Rattle.ref_world.specs.declared.heap_machine.HeapReply.TheVariants as replies
use Rattle.ref_share.specs.CleanSeats.{CleanView, CleanEntry}
use Rattle.ref_share.specs.Cleanings.{CleansDead}
use Rattle.ref_share.specs.HeapSeats.{HeapView, HeapEntry}
use Rattle.ref_share.specs.QueueCalls.{PollsOnce, PollsUntil, empty_polls, polled}
use Rattle.ref_share.specs.QueueSeats.{QueueView, QueueEntry}
use Rattle.ref_share.specs.SeatCalls.{Made}
use Rattle.ref_share.specs.declared.answers.Polled.{Polled}
use Rattle.ref_share.specs.declared.answers.Polled.TheVariants.{Took, Closed}
use Rattle.ref_share.specs.declared.answers.ShareFault.{ShareFault}
use Rattle.ref_share.specs.declared.clean_loop.Polling.{Polling}
use Rattle.ref_share.specs.declared.clean_loop.Polling.TheVariants.{Waits, Once}
use Rattle.ref_share.specs.declared.clean_machine.CleanStep.TheVariants as steps
use Rattle.ref_share.specs.declared.clean_machine.CleanReply.TheVariants as answers

-- one round: how many polls found nothing, the notice that one found, and the job of its reference, if there was one
pub record Round (J : Type 0) : Type 0 where
  pub empties : ℕ
  pub notice : HeldNotice
  pub taken : Option (HoldName × J)

-- what each round gives, one after the other
abbrev pub all_of : {R T : Type 0} → (R → List T) → List R → List T
all_of part [] = []
all_of part (r ∷ rs) = part r ++ all_of part rs

-- the call that gives a hold back
abbrev pub released : HeapView → HoldName → HeapEntry
released v hold = entry v.number (heap.Release hold) (replies.Told told.Done)

-- a poll of a thread that waits is never without an answer
abbrev pub PollsBy : Polling → QueueView → Option (Result Polled ShareFault) → QueueView → Type 0
PollsBy Waits v (Some answer) w = PollsUntil v answer w
PollsBy Waits v None w = ⊥
PollsBy Once v answer w = PollsOnce v answer w

-- a poll, told by the notice that it took: without one nothing stood, or the queue is closed
abbrev pub PollsFor : Polling → QueueView → Result (Option HeldNotice) ShareFault → QueueView → Type 0
PollsFor polling v (Ok (Some notice)) w = PollsBy polling v (Some (Ok (Took notice))) w
PollsFor polling v (Ok None) w = PollsBy polling v None w ⊎ PollsBy polling v (Some (Ok Closed)) w
PollsFor polling v (Err fault) w = PollsBy polling v (Some (Err fault)) w

module _ {J : Type 0} where
  -- the calls of a round: the polls of its queue; the release of the notice and, where there was a job, of its hold;
  -- the take
  abbrev pub polls_in : QueueView → Round J → List QueueEntry
  polls_in q r = empty_polls q r.empties ++ polled q (found.Took r.notice) ∷ []

  abbrev pub job_released : HeapView → Option (HoldName × J) → List HeapEntry
  job_released v None = []
  job_released v (Some (hold, job)) = released v hold ∷ []

  abbrev pub releases_in : HeapView → Round J → List HeapEntry
  releases_in v r = released v r.notice.hold ∷ job_released v r.taken

  abbrev pub takes_in : CleanView J → Round J → List (CleanEntry J)
  takes_in c r = entry c.number (steps.Take r.notice.hold.object) (answers.Taken r.taken) ∷ []

  -- the job that was run in it
  abbrev pub job_in : Option (HoldName × J) → List J
  job_in None = []
  job_in (Some (hold, job)) = job ∷ []

  -- how many jobs were run in these rounds
  abbrev pub jobs_run : List (Round J) → ℕ
  jobs_run rs = length (all_of (λ r. job_in r.taken) rs)

  -- how many polls found nothing in them
  abbrev pub polls_in_vain : List (Round J) → ℕ
  polls_in_vain [] = 0
  polls_in_vain (r ∷ rs) = r.empties + polls_in_vain rs

  -- where it does not wait, no poll but the last found nothing
  abbrev pub IsQuiet : Polling → List (Round J) → Type 0
  IsQuiet Waits rs = Unit {0}
  IsQuiet Once rs = polls_in_vain rs ≡ 0

  module _ (q : QueueView) (v : HeapView) (c : CleanView J) where
    -- the three seats have made just the calls of these rounds
    abbrev pub HasGone : List (Round J) → QueueView → HeapView → CleanView J → Type 0
    HasGone rs q' v' c' =
        Made q (all_of (polls_in q) rs) q' × Made v (all_of (releases_in v) rs) v' × Made c (all_of (takes_in c) rs) c'

    -- Rounds were gone through, and then a poll found nothing, or that the queue is closed: the answer is how many jobs
    -- were run. Or a poll was refused, or what follows a notice was: then the answer is that fault.
    abbrev pub GoesBy : Polling → Result ℕ ShareFault → QueueView → HeapView → CleanView J → Type 0
    GoesBy polling (Ok count) q' v' c' =
        (rs : List (Round J)) × (last : QueueView) × HasGone rs last v' c' × IsQuiet polling rs
        × PollsFor polling last (Ok None) q' × (count ≡ jobs_run rs)
    GoesBy polling (Err fault) q' v' c' =
        (rs : List (Round J)) × (last : QueueView) × (u : HeapView) × (d : CleanView J) × HasGone rs last u d
        × IsQuiet polling rs
        × ((PollsBy polling last (Some (Err fault)) q' × (v' ≡ u) × (c' ≡ d))
        ⊎ ((notice : HeldNotice) × PollsBy polling last (Some (Ok (Took notice))) q'
        × CleansDead notice u d (Err fault) v' c'))

    -- the rounds of a thread that waits for each notice, until the queue is closed
    abbrev pub GoesRound : Result ℕ ShareFault → QueueView → HeapView → CleanView J → Type 0
    GoesRound = GoesBy Waits

    -- the rounds of a thread that takes those that stand
    abbrev pub GoesOn : Result ℕ ShareFault → QueueView → HeapView → CleanView J → Type 0
    GoesOn = GoesBy Once
