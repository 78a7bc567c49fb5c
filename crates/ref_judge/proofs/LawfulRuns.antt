-- What each row of a collector of a profile keeps, and holds at first, holds of each state to which rows lead.
use Rattle.ref_base.proofs.Common.{[], ◌∷◌, ◌++◌, State, first_state}
use Rattle.ref_base.proofs.RunLaws.{one_on, holds_after}
use Rattle.ref_base.specs.declared.config.Config.{Config}
use Rattle.ref_base.specs.declared.row.Row.{Row}
use Rattle.ref_judge.specs.ProfiledRows.{IsRowAs}
use Rattle.ref_judge.specs.Standing.{Lawful}
use Rattle.ref_judge.specs.declared.profile.Profile.{Profile}

-- one row more
pub lawful_row : (p : Profile) (config : Config) (a b : State) (row : Row) → Lawful p config a → IsRowAs p a row b
    → Lawful p config b
lawful_row p config a b row lawful h =
    (lawful.0 ++ row ∷ [], one_on (IsRowAs p) (first_state config) lawful.0 a b row lawful.1 h)

module _ (p : Profile) (config : Config) (Q : State → Type 0) where
  pub lawful_holds : Q (first_state config)
      → ((a b : State) (row : Row) → Lawful p config a → Q a → IsRowAs p a row b → Q b)
      → (a : State) → Lawful p config a → Q a
  lawful_holds first keeps a lawful =
      holds_after (IsRowAs p) (first_state config) (λ past x. Q x)
      (λ past x row y run holds h. keeps x y row (past, run) holds h) first lawful.0 a lawful.1
