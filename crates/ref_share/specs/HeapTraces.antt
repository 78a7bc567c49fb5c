-- What the history of a heap tells as a trace does, read off its entries alone (package `java.lang.ref` of Java SE 17:
-- a reference is cleared, and enqueued, once its referent is no longer reachable; the rest is this project's profile).
use Rattle.std.specs.Prelude.{◌≡◌, ℕ, List, [], ◌∷◌, ◌++◌, drop, length, map, Option, Some, None}
use Rattle.ref_base.specs.ClearingOrder.{all_worked}
use Rattle.ref_base.specs.CollectorRows.{referent_of}
use Rattle.ref_base.specs.Heaps.{reference_at}
use Rattle.ref_base.specs.HeapSteps.{HeldNotice, NamedStep}
use Rattle.ref_base.specs.MarkEnds.{IsDead}
use Rattle.ref_base.specs.Replay.{after_heap}
use Rattle.ref_base.specs.Worlds.{World, first_world_of}
use Rattle.ref_base.specs.declared.config.Config.{Config}
use Rattle.ref_base.specs.declared.heap_step.HeapStep.TheVariants as heap
use Rattle.ref_base.specs.declared.reply.Reply.{Reply}
use Rattle.ref_base.specs.declared.reply.Reply.TheVariants as told
use Rattle.ref_base.specs.declared.row.Row.{Row}
use Rattle.ref_base.specs.declared.plain_step.PlainStep.TheVariants as plain
use Rattle.ref_base.specs.declared.step.Step.{Step}
use Rattle.ref_base.specs.declared.step.Step.TheVariants as steps
use Rattle.ref_turn.specs.Seats.{entry}
use Rattle.ref_world.specs.Cores.{as_notice}
use Rattle.ref_world.specs.HeapReplies.{told_reply}
use Rattle.ref_world.specs.HeapReplies.{HeapAnswer}
use Rattle.ref_world.specs.declared.heap_machine.HeapReply.TheVariants as replies
use Rattle.ref_share.specs.HeapSeats.{HeapEntry}

-- ---- its rows

-- the step of the world of the same name: none for a step that takes or names a hold, since a world has hands for these
abbrev pub world_step : NamedStep → Option Step
world_step (heap.Plain step) = Some (steps.Plain step)
world_step (heap.Unhook m s) = Some (steps.Unhook m s)
world_step (heap.Hold m s) = None
world_step (heap.Adopt m d hold) = None
world_step (heap.Release hold) = None
world_step (heap.Hand k) = Some (steps.Hand k)
world_step (heap.Hands k max batch) = Some (steps.Hands k max)

abbrev pub row_of : Option Step → Reply → List Row
row_of None reply = []
row_of (Some step) reply = record { step = step; reply = reply } ∷ []

-- the rows that tell what the calls tell, but for those that take or name a hold
abbrev pub rows_of : List HeapEntry → List Row
rows_of [] = []
rows_of (call ∷ calls) = row_of (world_step call.step) (told_reply call.reply) ++ rows_of calls

-- ---- its replay

-- the world after some calls of its heap
abbrev pub heap_replayed_from : World → List HeapEntry → World
heap_replayed_from w [] = w
heap_replayed_from w (call ∷ calls) = heap_replayed_from (after_heap w call.step (told_reply call.reply)) calls

-- the world after a history of a heap of this number, whose hands and queues are empty
abbrev pub heap_replayed : Config → ℕ → List HeapEntry → World
heap_replayed config number calls = heap_replayed_from (first_world_of config number) calls

-- One of the calls is the end of this cycle's mark; and in the world that the calls before it give by replay, n is a
-- reference, and its referent is dead.
pub record HeapMarkEnded (config : Config) (number : ℕ) (calls : List HeapEntry) (cycle n : ℕ) : Type 0 where
  pub before : List HeapEntry
  pub by : ℕ
  pub count : ℕ
  pub behind : List HeapEntry
  pub is_earlier : before ++ entry by (heap.Plain plain.EndMark) (replies.Told (told.Doomed count)) ∷ behind ≡ calls
  pub of_cycle : (heap_replayed config number before).cycle ≡ cycle
  pub referent : ℕ
  pub referred : referent_of (reference_at (heap_replayed config number before).heap n) ≡ Some referent
  pub dead : IsDead (heap_replayed config number before) referent

-- ---- what it gives

-- what calls tell, one after the other
abbrev pub gathered : (NamedStep → HeapAnswer → List ℕ) → List HeapEntry → List ℕ
gathered told_by [] = []
gathered told_by (call ∷ calls) = told_by call.step call.reply ++ gathered told_by calls

-- the notices that one call of a worker's hand gives, first first: into a batch they come behind what stands there
abbrev pub notices_of_hand : NamedStep → HeapAnswer → List HeldNotice
notices_of_hand (heap.Hand k) (replies.Notice notice) = notice ∷ []
notices_of_hand (heap.Hands k max batch) (replies.Handed reply after) = drop (length batch) after
notices_of_hand step reply = []

-- and those that any call gives: an unhook gives one too
abbrev pub notices_given : NamedStep → HeapAnswer → List HeldNotice
notices_given (heap.Unhook m s) (replies.Notice notice) = notice ∷ []
notices_given step reply = notices_of_hand step reply

-- the references whose notices one call of a hand gives
abbrev pub handed_by : NamedStep → HeapAnswer → List ℕ
handed_by step reply = map (λ notice. notice.hold.object) (notices_of_hand step reply)

-- the references whose notices the calls of hands give, in order
abbrev pub all_handed_on : List HeapEntry → List ℕ
all_handed_on calls = gathered handed_by calls

-- and of these the ones that worker k cleared and that are for queue q
abbrev pub handed_of : ℕ → ℕ → NamedStep → HeapAnswer → List ℕ
handed_of k q step reply = all_worked k q (map as_notice (notices_of_hand step reply))

abbrev pub handed_in : ℕ → ℕ → List HeapEntry → List ℕ
handed_in k q calls = gathered (handed_of k q) calls
