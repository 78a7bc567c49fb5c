-- Where a notice comes from, read off the rows alone: which row made its reference, and which one is its cause
-- (package `java.lang.ref` of Java SE 17 for what registers a reference and what enqueues it; cycles and workers: this
-- project's profile).
use Rattle.std.specs.Prelude.{◌≡◌, ℕ, Bool, true, false, ◌&&◌, ◌==◌, if◌then◌else◌, List, [], ◌∷◌}
use Rattle.std.specs.List.{AllByRecursion}
use Rattle.ref_base.specs.Worlds.{World, Notice, hand_of, queue_at}
use Rattle.ref_base.specs.WorkerOrder.{is_registered}
use Rattle.ref_base.specs.declared.actor.Actor.{Actor}
use Rattle.ref_base.specs.declared.cause.Cause.{Cause}
use Rattle.ref_base.specs.declared.cause.Cause.TheVariants.{Own, Cycle}
use Rattle.ref_base.specs.declared.plain_step.PlainStep.TheVariants as plain
use Rattle.ref_base.specs.declared.step.Step.{Step}
use Rattle.ref_base.specs.declared.step.Step.TheVariants as steps
use Rattle.ref_base.specs.declared.reply.Reply.{Reply}
use Rattle.ref_base.specs.declared.reply.Reply.TheVariants as replies
use Rattle.ref_base.specs.declared.row.Row.{Row}

-- whether one of the rows is of this kind
abbrev pub has_row : (Step → Reply → Bool) → List Row → Bool
has_row is [] = false
has_row is (row ∷ rows) = if is row.step row.reply then true else has_row is rows

-- whether the row is an unhook that gave a notice of reference n
abbrev pub unhooks : ℕ → Step → Reply → Bool
unhooks n (steps.Unhook m s) (replies.Notice o q Own) = o == n
unhooks n step reply = false

-- whether the row cleared reference n for worker k
abbrev pub clears : ℕ → ℕ → Step → Reply → Bool
clears k n (steps.Plain (plain.ClearNext w)) (replies.Cleared o) = (w == k) && (o == n)
clears k n step reply = false

-- the cycle after one more row, where it was this one before: a begin answers the number of the next
abbrev pub cycle_after : ℕ → Step → Reply → ℕ
cycle_after now (steps.Plain (plain.Begin clock how)) (replies.Cycle n) = n
cycle_after now step reply = now

-- whether one of the rows cleared reference n for worker k in this cycle, where it is cycle now at first
abbrev pub cleared_from : ℕ → ℕ → ℕ → ℕ → List Row → Bool
cleared_from now cycle k n [] = false
cleared_from now cycle k n (row ∷ rows) =
    if (now == cycle) && clears k n row.step row.reply then true
    else cleared_from (cycle_after now row.step row.reply) cycle k n rows

-- whether worker k cleared reference n in this cycle, in a whole trace: cycles are numbered from 1
abbrev pub was_cleared : ℕ → ℕ → ℕ → List Row → Bool
was_cleared cycle k n rows = cleared_from 0 cycle k n rows

-- the cause of a notice of reference n stands in the rows: where it is the reference's own call, an unhook gave a
-- notice of it; where it is a cycle, the worker that is named cleared it in that cycle
abbrev pub IsCause : List Row → ℕ → Cause → Type 0
IsCause rows n Own = has_row (unhooks n) rows ≡ true
IsCause rows n (Cycle cycle k) = was_cleared cycle k n rows ≡ true

-- a notice comes from the rows: one of them made its reference, registered with the notice's queue; and its cause is
-- there
pub record IsProven (rows : List Row) (notice : Notice) : Type 0 where
  pub own_queue : is_registered rows notice.object notice.queue ≡ true
  pub own_cause : IsCause rows notice.object notice.cause

-- each notice that is out, in a hand or in a queue, comes from the rows
pub record AreProven (rows : List Row) (w : World) : Type 0 where
  pub hands : (who : Actor) → AllByRecursion (IsProven rows) (hand_of w who)
  pub queues : (q : ℕ) → AllByRecursion (IsProven rows) (queue_at w q).stands

-- whether the step may give notices: an unhook, or a worker that hands some on
abbrev pub gives_notices : Step → Bool
gives_notices (steps.Unhook m s) = true
gives_notices (steps.Hand k) = true
gives_notices (steps.Hands k max) = true
gives_notices step = false
