-- A new heap stands for the first state.
use Rattle.ref_mark.proofs.Common.{◌≡◌, ℕ, zero, suc, refl, arith, [], replicate, length-replicate, pending_numbers}
use Rattle.ref_mark.proofs.Common.{Config, Start, first_cycle_heap, MarkStands}
use Rattle.ref_mark.specs.MarkRows.{starting_state}
use Rattle.ref_mark.proofs.RootFacts.{root_cases}
use Rattle.ref_mark.proofs.ObjectRows.{has-present_nulls}

none_pending : (workers : ℕ) → pending_numbers (replicate workers []) ≡ []
none_pending zero = refl
none_pending (suc workers) = none_pending workers

pub first_stands : (config : Config) (heap_no : ℕ) (start : Start)
    → MarkStands (first_cycle_heap config heap_no start) (starting_state config heap_no start.obj start.cycle)
first_stands config heap_no start = grind (arith, length-replicate, root_cases, has-present_nulls, none_pending)
