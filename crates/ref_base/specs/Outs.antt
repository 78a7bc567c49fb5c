-- What became of a batch that was put in, item by item (this project's profile).
use Rattle.std.specs.Prelude.{◌≡◌, ℕ, ◌+◌, Bool, true, false, if◌then◌else◌, nat_lt, List, [], ◌∷◌, length, take}
use Rattle.std.specs.Prelude.{Option, Some, None, slice_index_or}
use Rattle.std.specs.List.{count_by}
use Rattle.ref_base.specs.declared.fault.Fault.TheVariants.{NoMemory}
use Rattle.ref_base.specs.declared.out.Done.{Done}
use Rattle.ref_base.specs.declared.out.Done.TheVariants.{Added, Already, Closed, Refused}
use Rattle.ref_base.specs.declared.out.Out.{Out}
use Rattle.ref_base.specs.declared.out.Out.TheVariants as out

-- how many were ever put into the queue before the batch, and what became of each item that was tried, in order
pub record Outs : Type 0 where
  pub before : ℕ
  pub done : List Done

-- what became of an item, where so many were put in before it
abbrev pub out_of : ℕ → Done → Out
out_of before Added = out.Added before
out_of before Already = out.Already
out_of before Closed = out.Closed
out_of before (Refused fault) = out.Refused fault

-- whether it was refused
abbrev pub is_refused : Done → Bool
is_refused Added = false
is_refused Already = false
is_refused Closed = false
is_refused (Refused fault) = true

-- only the last of them was refused, if one was, and that for want of memory
abbrev pub IsWantedLast : List Done → Type 0
IsWantedLast [] = Unit {0}
IsWantedLast (Refused fault ∷ ds) = (fault ≡ NoMemory) × (ds ≡ [])
IsWantedLast (d ∷ ds) = IsWantedLast ds

-- whether it was added, and how many were
abbrev pub is_added : Done → Bool
is_added Added = true
is_added Already = false
is_added Closed = false
is_added (Refused fault) = false

abbrev pub added_in : List Done → ℕ
added_in ds = count_by is_added ds

-- what became of each, where so many were put in before them
abbrev pub outs_of : ℕ → List Done → List Out
outs_of before [] = []
outs_of before (d ∷ ds) = out_of before d ∷ outs_of (if is_added d then before + 1 else before) ds

-- what became of the item at a place, if it was tried: those that were added stand one behind the other
abbrev pub out_at : Outs → ℕ → Option Out
out_at o place =
    if nat_lt place (length o.done)
    then Some (out_of (o.before + added_in (take place o.done)) (slice_index_or o.done place Added))
    else None
