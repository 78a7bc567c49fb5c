-- In every legal trace a notice of a cycle comes after the end of that cycle's mark, which showed what it had to.
use Rattle.ref_base.proofs.Common.{arith, ℕ, List, [], ◌∷◌, ◌++◌, replayed, State, first_state, IsRow, IsRun, MarkEnded}
use Rattle.ref_base.proofs.Common.{WasDoomed, Config, Row}
use Rattle.ref_base.specs.MarkEnds.{AreAfterMarks}
use Rattle.ref_base.proofs.RunLaws.{cut}
use Rattle.ref_base.proofs.RunFronts.{legal_holds}
use Rattle.ref_base.proofs.CarryLaws.{AnyCycle}
use Rattle.ref_base.proofs.CarryRows.{row_carries, hand_carries}
use Rattle.ref_base.proofs.CountedTraces.{legal_counted}
use Rattle.ref_base.proofs.HeapTurns.{row_turn}
use Rattle.ref_base.proofs.MarkShows.{ended_more}
use Rattle.ref_base.proofs.MarkedTurns.{AnyObject, any_lasts, IsMarked, AreMarked, first_marked, row_mints, more_marked}
use Rattle.ref_base.proofs.OutTraces.{legal_out}
use Rattle.ref_base.specs.declared.plain_step.PlainStep.TheVariants as plain
use Rattle.ref_base.specs.declared.step.Step.TheVariants as steps
use Rattle.ref_base.specs.declared.reply.Reply.TheVariants as replies

-- what a worker cleared, the end of the cycle's mark showed to be out of reach
pub cleared_shown : (config : Config) (front back : List Row) (k n : ℕ) (b : State) → IsRun (first_state config)
    (front ++ record { step = steps.Plain (plain.ClearNext k); reply = replies.Cleared n } ∷ back) b
    → MarkEnded config front (replayed config front).cycle n
cleared_shown config front back k n b run = grind (arith, cut, legal_out)

row_marked : (config : Config) (past : List Row) (a : State) (row : Row) (b : State)
    → IsRun (first_state config) past a → AreMarked (MarkEnded config past) a.world → IsRow a row b
    → AreMarked (MarkEnded config (past ++ row ∷ [])) b.world
row_marked config past a row b run marked h =
    let Shown : ℕ → ℕ → Type 0 = MarkEnded config past in
    let known = legal_out config past a run in
    more_marked Shown (MarkEnded config (past ++ row ∷ [])) b.world (ended_more config past (row ∷ []))
    (row_carries AnyObject (IsMarked Shown) AnyCycle any_lasts a row b
    (row_mints Shown (WasDoomed config past) known.0 a b known.2 row.step row.reply
    (row_turn a row b (legal_counted config past a run) h)) marked h)

pub legal_marked : (config : Config) (rows : List Row) (b : State) → IsRun (first_state config) rows b
    → AreAfterMarks config rows b.world
legal_marked config rows b run =
    let Shown : ℕ → ℕ → Type 0 = MarkEnded config rows in
    let marked = legal_holds config (λ past a. AreMarked (MarkEnded config past) a.world) (row_marked config)
    (first_marked (MarkEnded config []) config) rows b run in
    record {
      hands = λ who. hand_carries AnyObject (IsMarked Shown) AnyCycle b.world who marked;
      queues = marked.stands;
    }
