-- Legal traces (this project's profile).
use Rattle.std.specs.Prelude.{List}
use Rattle.ref_base.specs.Collectors.{State, first_state}
use Rattle.ref_base.specs.CollectorRows.{IsRun}
use Rattle.ref_base.specs.declared.config.Config.{Config}
use Rattle.ref_base.specs.declared.row.Row.{Row}

-- a trace is legal where it is a run of the abstract collector from its first state
abbrev pub IsLegal : Config → List Row → Type 0
IsLegal config rows = (last : State) × IsRun (first_state config) rows last
