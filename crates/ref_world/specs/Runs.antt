-- What a list of rows is (this project's profile).
use Rattle.std.specs.Prelude.{List, map}
use Rattle.ref_base.specs.Collectors.{State}
use Rattle.ref_base.specs.CollectorRows.{IsRun}
use Rattle.ref_base.specs.declared.row.Row.{Row}
use Rattle.ref_base.specs.declared.step.Step.{Step}
use Rattle.ref_world.specs.Cores.{Core}
use Rattle.ref_world.specs.Standing.{Stands}

abbrev pub steps_of : List Row → List Step
steps_of rows = map (λ row. row.step) rows

-- from each state that the world stands for, the rows are a run of the abstract collector, to a state for which what is
-- left stands
abbrev pub RunsFrom : Core → List Row → Core → Type 0
RunsFrom old rows new = (a : State) → Stands old a → (b : State) × IsRun a rows b × Stands new b
