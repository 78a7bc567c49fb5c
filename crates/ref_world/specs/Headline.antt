-- The headline, clause by clause, of the rows of a trace and of the world that they give by replay (package
-- `java.lang.ref` of Java SE 17: a reference is enqueued at most once, with its own queue, by its own call or once its
-- referent is no longer reachable; order, cycles, kept paths and closed queues: this project's profile).
use Rattle.std.specs.Prelude.{◌≡◌, ℕ, ◌+◌, true, nat_eq, List, [], ◌∷◌, ◌++◌, length, map, Option, Some, None}
use Rattle.std.specs.List.{IsDistinct}
use Rattle.ref_base.specs.ClearingOrder.{added_of}
use Rattle.ref_base.specs.CollectorRows.{is_subsequence}
use Rattle.ref_base.specs.MarkEnds.{MarkEnded}
use Rattle.ref_base.specs.Outs.{Outs}
use Rattle.ref_base.specs.Provenance.{has_row, unhooks}
use Rattle.ref_base.specs.QueueBatches.{added_among}
use Rattle.ref_base.specs.QueueLists.{enqueued}
use Rattle.ref_base.specs.QueueRows.{put_into, taken_from, was_closed}
use Rattle.ref_base.specs.Replay.{replayed}
use Rattle.ref_base.specs.ScannedRows.{scanned_in_cycle}
use Rattle.ref_base.specs.WorkerOrder.{is_registered, clearing_order}
use Rattle.ref_base.specs.Worlds.{Notice, hand_of, object_of}
use Rattle.ref_base.specs.declared.actor.Actor.{Actor}
use Rattle.ref_base.specs.declared.cause.Cause.TheVariants.{Own, Cycle}
use Rattle.ref_base.specs.declared.config.Config.{Config}
use Rattle.ref_base.specs.declared.out.Done.TheVariants.{Added}
use Rattle.ref_base.specs.declared.reply.Reply.{Reply}
use Rattle.ref_base.specs.declared.reply.Reply.TheVariants as replies
use Rattle.ref_base.specs.declared.row.Row.{Row}
use Rattle.ref_base.specs.declared.step.Step.{Step}
use Rattle.ref_base.specs.declared.step.Step.TheVariants as steps
use Rattle.ref_world.specs.Cores.{Core, core_queue_at}

-- what a put of one that was added tells of the hand's notices, from the first on, and what a put of all tells: how
-- many were put into the queue before, and what became of each that was tried
abbrev pub told_of_one : Actor → Reply → Option (Actor × Outs)
told_of_one who (replies.Added position) = Some (who, record { before = position; done = Added ∷ [] })
told_of_one who reply = None

abbrev pub told_of_all : Actor → Reply → Option (Actor × Outs)
told_of_all who (replies.Outs outs) = Some (who, outs)
told_of_all who reply = None

abbrev pub told_by_put : Step → Reply → Option (Actor × Outs)
told_by_put (steps.Put who) reply = told_of_one who reply
told_by_put (steps.Puts who) reply = told_of_all who reply
told_by_put step reply = None

-- Behind these front rows of a trace comes a put, of one or of all, that adds the notice, which is there in the actor's
-- hand. It adds those notices of the hand in front of it, and tells this as its position.
pub record Adds (config : Config) (rows front : List Row) (before : List Notice) (position : ℕ) (notice : Notice)
    : Type 0 where
  pub row : Row
  pub behind : List Row
  pub is_here : front ++ row ∷ behind ≡ rows
  pub who : Actor
  pub outs : Outs
  pub is_put : told_by_put row.step row.reply ≡ Some (who, outs)
  pub later : List Notice
  pub in_hand : added_among (hand_of (replayed config front) who) outs.done ≡ before ++ notice ∷ later
  pub told : position ≡ outs.before + length before

-- P holds of each notice that is added, and of the rows in front of the put
abbrev pub OfAdded : Config → List Row → (List Row → Notice → Type 0) → Type 0
OfAdded config rows P =
    (front : List Row) (before : List Notice) (position : ℕ) (notice : Notice)
    → Adds config rows front before position notice → P front notice

-- what was taken from a queue, followed by what stands in it, is what was put in
abbrev pub TakenThenStanding : List Row → Core → Type 0
TakenThenStanding rows last =
    (q : ℕ) → taken_from q rows ++ map object_of (core_queue_at last q).stands ≡ put_into q rows

-- the lists that a queue keeps are those of the rows
pub record QueuesTell (rows : List Row) (last : Core) : Type 0 where
  pub enqueued : (q : ℕ) → enqueued object_of (core_queue_at last q) ≡ put_into q rows
  pub taken : (q : ℕ) → (core_queue_at last q).taken ≡ taken_from q rows

-- an added notice is told how many were put into its queue before: by the rows in front, and by its own put
abbrev pub Positions : Config → List Row → Type 0
Positions config rows =
    (front : List Row) (before : List Notice) (position : ℕ) (notice : Notice)
    → Adds config rows front before position notice
    → position ≡ length (put_into notice.queue front) + length before

-- what was put into a queue of what a worker cleared is in the order in which it cleared it
abbrev pub InClearingOrder : Config → List Row → Type 0
InClearingOrder config rows =
    (worker q : ℕ) → is_subsequence (added_of config worker q rows) (clearing_order rows worker q) ≡ true

-- a reference is put in at most once
abbrev pub AtMostOnce : List Row → Type 0
AtMostOnce rows = (q : ℕ) → IsDistinct nat_eq (put_into q rows)

-- only into its own queue, which the row that made it names, and into no other
pub record OwnQueue (config : Config) (rows : List Row) : Type 0 where
  pub named : OfAdded config rows (λ front notice. is_registered front notice.object notice.queue ≡ true)
  pub one : (n q other : ℕ) → is_registered rows n q ≡ true → is_registered rows n other ≡ true → q ≡ other

-- where its notice is its own: after its own enqueue call, an unhook that gave a notice of it
abbrev pub OwnEnqueueCall : Config → List Row → Type 0
OwnEnqueueCall config rows =
    OfAdded config rows (λ front notice. notice.cause ≡ Own → has_row (unhooks notice.object) front ≡ true)

-- where its notice is a cycle's: after that cycle's mark ended, with its referent outside every kept path
abbrev pub AfterAMarkEnded : Config → List Row → Type 0
AfterAMarkEnded config rows =
    OfAdded config rows (λ front notice.
    (cycle worker : ℕ) → notice.cause ≡ Cycle cycle worker → MarkEnded config front cycle notice.object)

-- nothing is put in after a close that was accepted
abbrev pub NothingAfterClose : List Row → Type 0
NothingAfterClose rows =
    (q : ℕ) (front behind : List Row) → front ++ behind ≡ rows → was_closed q front ≡ true
    → put_into q front ≡ put_into q rows

-- no object is scanned twice in a cycle, in whatever front of the rows
abbrev pub ScannedOnce : List Row → Type 0
ScannedOnce rows =
    (front behind : List Row) → front ++ behind ≡ rows → IsDistinct nat_eq (scanned_in_cycle front)
