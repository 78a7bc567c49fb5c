-- The heap that a trace leaves, by the rows alone (this project's profile).
use Rattle.std.specs.Prelude.{◌≡◌, ℕ, Bool, true, List}
use Rattle.ref_base.specs.AgreeingWorlds.{heap_under}
use Rattle.ref_base.specs.Collectors.{joined}
use Rattle.ref_base.specs.Forgetting.{heap_but}
use Rattle.ref_base.specs.MarkEnds.{WasDoomed}
use Rattle.ref_base.specs.Members.{has}
use Rattle.ref_base.specs.Refusals.{is_in}
use Rattle.ref_base.specs.Replay.{replayed}
use Rattle.ref_base.specs.declared.config.Config.{Config}
use Rattle.ref_base.specs.declared.phase.Phase.TheVariants.{Clearing}
use Rattle.ref_base.specs.declared.row.Row.{Row}
use Rattle.ref_mark.specs.Standing.{shown_heap, unsaid}
use Rattle.ref_world.specs.Cores.{Core}
use Rattle.ref_world.specs.WorldHeaps.{cycles_of}

-- The heap, as mutators read it, is that of the rows by replay, slots, holds and clock alike, less what was swept: some
-- objects are gone, and a mark's end found each of them dead. While references are cleared, some that a worker has
-- still to look at read as cleared already. While a sweep goes on, nothing is said of what the doomed refer to.
pub record HeapTells (config : Config) (rows : List Row) (last : Core) : Type 0 where
  pub gone : List ℕ
  pub waiting : ℕ → Bool
  pub heap :
      heap_but (unsaid (cycles_of last.heap)) (shown_heap (cycles_of last.heap))
      ≡ heap_but (unsaid (cycles_of last.heap)) (heap_under gone waiting (replayed config rows).heap)
  pub were_doomed : (n : ℕ) → has gone n ≡ true → WasDoomed config rows n
  pub are_found :
      (n : ℕ) → waiting n ≡ true
      → (is_in (cycles_of last.heap).phase Clearing ≡ true) × (has (joined (cycles_of last.heap).found) n ≡ true)
