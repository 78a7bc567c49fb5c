-- What is known of the objects behind the rows of a trace (this project's).
use Rattle.std.specs.Prelude.{◌≡◌, ℕ, Bool, List}
use Rattle.ref_base.specs.Collectors.{State, first_state}
use Rattle.ref_base.specs.Graphs.{is_there}
use Rattle.ref_base.specs.declared.config.Config.{Config}
use Rattle.ref_base.specs.declared.row.Row.{Row}
use Rattle.ref_judge.specs.ProfiledRows.{IsRunAs}
use Rattle.ref_judge.specs.declared.profile.Profile.{Profile}

-- Wherever these rows lead, these objects are there, and the next one has this number.
pub record TellsObjects (profile : Profile) (config : Config) (rows : List Row) (there : ℕ → Bool) (next : ℕ) : Type 0
  where
    pub objects :
        (s : State) → IsRunAs profile (first_state config) rows s
        → (n : ℕ) → there n ≡ is_there s.world.heap.objects n
    pub number : (s : State) → IsRunAs profile (first_state config) rows s → s.next ≡ next
