-- How one shows of a concrete trace that it is legal for a profile, row by row.
use Rattle.ref_base.proofs.Common.{refl, List, [], ◌∷◌, State, first_state}
use Rattle.ref_base.specs.declared.config.Config.{Config}
use Rattle.ref_base.specs.declared.row.Row.{Row}
use Rattle.ref_judge.specs.ProfiledRows.{IsRowAs, IsRunAs, IsLegalAs}
use Rattle.ref_judge.specs.declared.profile.Profile.{Profile}

infixr 20 ◌⨾◌
-- rows, one after the other
pub data RowsAs (p : Profile) : State → List Row → State → Type 0 where
  stop : {a : State} → RowsAs p a [] a
  ◌⨾◌ : {a b c : State} {row : Row} {rows : List Row} → IsRowAs p a row b → RowsAs p b rows c
      → RowsAs p a (row ∷ rows) c

pub run_as : {p : Profile} {a c : State} {rows : List Row} → RowsAs p a rows c → IsRunAs p a rows c
run_as stop = refl
run_as (first ⨾ rest) = (_, first, run_as rest)

pub legal_as : (p : Profile) (config : Config) (rows : List Row) {last : State}
    → RowsAs p (first_state config) rows last → IsLegalAs p config rows
legal_as p config rows {last} run = (last, run_as run)
