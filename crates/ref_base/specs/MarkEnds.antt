-- What a mark's end has shown of a reference that a cycle clears (package `java.lang.ref` of Java SE 17: a reference is
-- cleared, and enqueued, once its referent is no longer reachable; cycles and kept paths: this project's profile).
use Rattle.std.specs.Prelude.{◌≡◌, ℕ, true, false, List, ◌∷◌, ◌++◌, Some}
use Rattle.std.specs.List.{AllByRecursion}
use Rattle.ref_base.specs.Members.{has}
use Rattle.ref_base.specs.Graphs.{Graph, is_there}
use Rattle.ref_base.specs.Paths.{any_referent, targets_at}
use Rattle.ref_base.specs.KeptPaths.{IsKept}
use Rattle.ref_base.specs.Heaps.{reference_at}
use Rattle.ref_base.specs.Worlds.{World, Notice, graph_of, hand_of, queue_at}
use Rattle.ref_base.specs.Replay.{replayed}
use Rattle.ref_base.specs.CollectorRows.{referent_of}
use Rattle.ref_base.specs.declared.config.Config.{Config}
use Rattle.ref_base.specs.declared.actor.Actor.{Actor}
use Rattle.ref_base.specs.declared.cause.Cause.{Cause}
use Rattle.ref_base.specs.declared.cause.Cause.TheVariants.{Own, Cycle}
use Rattle.ref_base.specs.declared.plain_step.PlainStep.TheVariants as plain
use Rattle.ref_base.specs.declared.step.Step.TheVariants as steps
use Rattle.ref_base.specs.declared.reply.Reply.TheVariants as replies
use Rattle.ref_base.specs.declared.row.Row.{Row}

-- n is an object to which no kept path leads
pub record IsDead (w : World) (n : ℕ) : Type 0 where
  pub there : is_there w.heap.objects n ≡ true
  pub not_kept : ¬ (IsKept w.policy (graph_of w) n)

-- One of the rows is the end of this cycle's mark; and in the world that the rows before it give by replay, n is a
-- reference, and its referent is dead.
pub record MarkEnded (config : Config) (rows : List Row) (cycle n : ℕ) : Type 0 where
  pub before : List Row
  pub count : ℕ
  pub behind : List Row
  pub is_earlier : before ++ record { step = steps.Plain plain.EndMark; reply = replies.Doomed count } ∷ behind ≡ rows
  pub of_cycle : (replayed config before).cycle ≡ cycle
  pub referent : ℕ
  pub referred : referent_of (reference_at (replayed config before).heap n) ≡ Some referent
  pub dead : IsDead (replayed config before) referent

-- One of the rows is a mark's end; and in the world that the rows before it give by replay, n is dead.
pub record WasDoomed (config : Config) (rows : List Row) (n : ℕ) : Type 0 where
  pub before : List Row
  pub count : ℕ
  pub behind : List Row
  pub is_earlier : before ++ record { step = steps.Plain plain.EndMark; reply = replies.Doomed count } ∷ behind ≡ rows
  pub dead : IsDead (replayed config before) n

-- no root is one of these, and no other object refers to one of them, by a field or as a reference
pub record AreOutOfReach (these : List ℕ) (g : Graph) : Type 0 where
  pub roots : (n : ℕ) → has g.roots n ≡ true → has these n ≡ false
  pub others :
      (m n : ℕ) → has these m ≡ false → has (targets_at any_referent g.objects m) n ≡ true → has these n ≡ false

-- where the cause of a notice of reference n is a cycle, that cycle's mark ended before, and showed this of n
abbrev pub IsAfterMark : Config → List Row → ℕ → Cause → Type 0
IsAfterMark config rows n Own = Unit {0}
IsAfterMark config rows n (Cycle cycle k) = MarkEnded config rows cycle n

-- where the cause of one of these notices is a cycle, that cycle's mark ended before, and showed this of its reference
abbrev pub AllAfterMarks : Config → List Row → List Notice → Type 0
AllAfterMarks config rows = AllByRecursion (λ notice. IsAfterMark config rows notice.object notice.cause)

-- and so it is of each notice that is out, in a hand or in a queue
pub record AreAfterMarks (config : Config) (rows : List Row) (w : World) : Type 0 where
  pub hands : (who : Actor) → AllAfterMarks config rows (hand_of w who)
  pub queues : (q : ℕ) → AllAfterMarks config rows (queue_at w q).stands
