-- A run goes on by one more step.
use Rattle.ref_world.proofs.Common.{◌≡◌, ℕ, ◌+◌, ◌<◌, List, [], ◌∷◌, ◌++◌, length, take, arith, Reply, Row, Step, Core}
use Rattle.ref_world.proofs.Common.{RunsFrom, steps_of, IsRowOf}
use Rattle.std.specs.Prelude.{slice_index_or as get_or}
use Rattle.std.proofs.lemmas.List.{take_more, map-append}
use Rattle.ref_base.proofs.RunLaws.{run_more}

-- the steps that have their rows are one more
pub step_taken : (items seen : List Step) (i : ℕ) (next : Step) (rows : List Row) (reply : Reply) → seen ≡ items
    → i < length seen → next ≡ get_or seen i next → steps_of rows ≡ take i items
    → steps_of (rows ++ record { step = next; reply = reply } ∷ []) ≡ take (i + 1) items
step_taken items seen i next rows reply same within is so_far = grind (arith, map-append, take_more)

pub runs_more : (old mid new : Core) (rows : List Row) (step : Step) (reply : Reply) → RunsFrom old rows mid
    → IsRowOf mid step reply new → RunsFrom old (rows ++ record { step = step; reply = reply } ∷ []) new
runs_more old mid new rows step reply runs row a stands = grind (arith, run_more)
