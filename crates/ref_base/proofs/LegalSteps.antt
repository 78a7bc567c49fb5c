-- How one shows of a concrete trace that it is legal, row by row.
use Rattle.ref_base.proofs.Common.{◌≡◌, ℕ, true, false, refl, List, [], ◌∷◌, ◌++◌, length, false≢true, State}
use Rattle.ref_base.proofs.Common.{first_state}
use Rattle.ref_base.proofs.Common.{IsLegal, Config, has, new_clears, MayDoom, graph_of, joined, EndsMark, AreFound}
use Rattle.ref_base.proofs.Common.{mark_ended, doomed_at, IsRow, IsRun, Row}
use Rattle.ref_base.specs.declared.reply.Reply.TheVariants.{Doomed}

-- where none is said to be left
pub none_left : {T : Type 0} → false ≡ true → T
none_left said = absurd (false≢true said)

-- a mark ends, and the workers found these
pub mark_ends : (a : State) (found : List (List ℕ)) → MayDoom a.world.policy (graph_of a.world) a.moments (doomed_at a)
    → AreFound a.world.heap.objects a.scanned found
    → ((n : ℕ) → has (new_clears a.world.heap.objects (doomed_at a)) n ≡ true → has (joined found) n ≡ true)
    → EndsMark a (Doomed (length (doomed_at a))) (mark_ended a (doomed_at a) found)
mark_ends a found may are all = search

infixr 20 ◌⨾◌
-- rows, one after the other
pub data Rows : State → List Row → State → Type 0 where
  stop : {a : State} → Rows a [] a
  ◌⨾◌ : {a b c : State} {row : Row} {rows : List Row} → IsRow a row b → Rows b rows c → Rows a (row ∷ rows) c

infixr 10 ◌and_then◌
-- some rows, and then more
pub ◌and_then◌ : {a b c : State} {rows more : List Row} → Rows a rows b → Rows b more c → Rows a (rows ++ more) c
stop and_then more = more
(first ⨾ rest) and_then more = first ⨾ (rest and_then more)

pub run_of : {a c : State} {rows : List Row} → Rows a rows c → IsRun a rows c
run_of stop = refl
run_of (first ⨾ rest) = (_, first, run_of rest)

pub legal : (config : Config) (rows : List Row) {last : State} → Rows (first_state config) rows last
    → IsLegal config rows
legal config rows {last} run = (last, run_of run)
