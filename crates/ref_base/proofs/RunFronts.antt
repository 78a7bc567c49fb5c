-- What holds at first and is kept by each row holds after every legal trace.
use Rattle.ref_base.proofs.Common.{List, [], ◌∷◌, ◌++◌, refl, ◌≡◌, State, first_state, IsRow, IsRun, after, World}
use Rattle.ref_base.proofs.Common.{Config, Row, replayed_from}
use Rattle.ref_base.proofs.RunLaws.{holds_after}

-- the replay goes on row by row
pub replayed_last : (w : World) (past : List Row) (row : Row)
    → replayed_from w (past ++ row ∷ []) ≡ after (replayed_from w past) row.step row.reply
replayed_last w [] row = refl
replayed_last w (other ∷ past) row = replayed_last (after w other.step other.reply) past row

pub legal_holds : (config : Config) (Q : List Row → State → Type 0)
    → ((past : List Row) (a : State) (row : Row) (b : State) → IsRun (first_state config) past a → Q past a
    → IsRow a row b → Q (past ++ row ∷ []) b)
    → Q [] (first_state config) → (rows : List Row) (b : State) → IsRun (first_state config) rows b → Q rows b
legal_holds config = holds_after IsRow (first_state config)
