-- In every legal trace no object is scanned twice in a cycle, and a mark goes on only while an object is left to scan.
use Rattle.ref_base.proofs.Common.{arith, ◌≡◌, ℕ, ◌<◌, Bool, true, false, not, List, [], ◌∷◌, ◌++◌, length, Option}
use Rattle.ref_base.proofs.Common.{Some, None, refl, sym, ◌∙◌, subst, nat_eq, false≢true, length-set, length-replicate}
use Rattle.ref_base.proofs.Common.{IsDistinct-push, has, Notice, hand_of, NamedStep, heap_step, spending, State}
use Rattle.ref_base.proofs.Common.{first_state, joined, first_state_of, unless, heap_refusal, is_in, IsLeft, emptied}
use Rattle.ref_base.proofs.Common.{IsHeapAnswer, IsHeapRow, IsRow, IsRun, IsLegal, scanned_in_cycle, Config, Mutator}
use Rattle.ref_base.proofs.Common.{WrongPhase, GreyLeft, Marking, Step, Reply, Row, World, HoldName, hold_of}
use Rattle.ref_base.proofs.Common.{HeapAccepts}
use Rattle.std.specs.List.{IsDistinct}
use Rattle.ref_base.specs.ScannedRows.{scanned_with, scanned_from}
use Rattle.ref_base.proofs.HasLaws.{has-list_any, has-cases}
use Rattle.ref_base.proofs.FoundLists.{has-with_last, length-emptied}
use Rattle.ref_base.proofs.CountedTraces.{legal_counted}
use Rattle.ref_base.proofs.LeftObjects.{LeftMeans}
use Rattle.ref_base.proofs.HeapTurns.{IsTurn, row_turn}
use Rattle.ref_base.proofs.RunFronts.{legal_holds}
use Rattle.ref_base.proofs.LegalQueues.{distinct_nil}
use Rattle.ref_base.proofs.RowChanges.{scanned_after, Changes, heap_tells, row_changes}
use Rattle.ref_base.specs.declared.heap_step.HeapStep.TheVariants as heap
use Rattle.ref_base.specs.declared.plain_step.PlainStep.TheVariants as plain
use Rattle.ref_base.specs.declared.step.Step.TheVariants as steps
use Rattle.ref_base.specs.declared.reply.Reply.TheVariants as replies

-- ---- a mark goes on only while an object is left

legal_left : (config : Config) (rows : List Row) (b : State) → IsRun (first_state config) rows b → LeftMeans b
legal_left config rows b run =
    legal_holds config (λ past a. LeftMeans a)
    (λ past a row c before means h. (row_changes a row c (legal_counted config past a before) h).left means)
    (λ _ said. absurd (false≢true said)) rows b run

grey : (a b : State) (marks left : Bool)
    → IsHeapAnswer a (unless marks WrongPhase (unless (not left) GreyLeft None)) (heap.Plain plain.EndMark)
    (replies.Refused GreyLeft)
    b → (marks ≡ true) × (left ≡ true)
grey a b true true row = (refl, refl)
grey a b true false row = let no = row.answer in absurd cc
grey a b false left row = let no = row.0 in absurd cc

-- a mark's end that a heap refuses since an object is left is refused rightly
pub left_if_grey : (a b : State) → LeftMeans a
    → IsHeapRow a (heap.Plain plain.EndMark) (replies.Refused GreyLeft) b → (n : ℕ) × IsLeft a n
left_if_grey a b means row =
    let both = grey a b (is_in a.world.phase Marking) a.left row in means both.0 both.1

-- and so it is in a world
pub refused_left : (config : Config) (front : List Row) (a b : State) → IsRun (first_state config) front a
    → IsRow a (record { step = steps.Plain plain.EndMark; reply = replies.Refused GreyLeft }) b → (n : ℕ) × IsLeft a n
refused_left config front a b run row = grind (arith, legal_left)

-- ---- no object is scanned twice

-- the rows tell of no object twice, and the state has each; and it has a list for each worker
pub record HasScanned (ns : List ℕ) (a : State) : Type 0 where
  pub distinct : IsDistinct nat_eq ns
  pub there : (n : ℕ) → has ns n ≡ true → has (joined a.scanned) n ≡ true
  pub workers : length a.scanned ≡ a.world.heap.config.workers

still_scanned : (ns : List ℕ) (a b : State) → HasScanned ns a → b.scanned ≡ a.scanned
    → b.world.heap.config ≡ a.world.heap.config → HasScanned ns b
still_scanned ns a b scanned same config = grind arith

-- what a scan's row tells: the worker is there, and what it scanned wasn't scanned before
abbrev pub ScansAnew : State → ℕ → ℕ → Type 0
ScansAnew a k n = (k < a.world.heap.config.workers) × (has (joined a.scanned) n ≡ false)

pub scan_tells : (a b : State) (k n : ℕ) → heap_refusal a (heap.Plain (plain.Scan k)) ≡ None
    → HeapAccepts a (heap.Plain (plain.Scan k)) (replies.Scanned n) b → ScansAnew a k n
scan_tells a b k n none row = grind arith

one_more : (ns : List ℕ) (a b : State) (k n : ℕ) → HasScanned ns a
    → ScansAnew a k n → b.scanned ≡ scanned_after a.scanned (Some (heap.Plain (plain.Scan k))) (replies.Scanned n)
    → b.world.heap.config ≡ a.world.heap.config → HasScanned (ns ++ n ∷ []) b
one_more ns a b k n scanned tells is config =
    grind (arith, has-with_last, IsDistinct-push, has-list_any, has-cases, length-set)

begins : (ns : List ℕ) (a b : State) → HasScanned ns a → b.scanned ≡ emptied a.scanned
    → b.world.heap.config ≡ a.world.heap.config → HasScanned [] b
begins ns a b scanned is config = grind (arith, distinct_nil, length-emptied)

-- what the cycle scanned after a turn
abbrev pub scanned_then : List ℕ → Option NamedStep → Reply → List ℕ
scanned_then ns (Some (heap.Plain (plain.Begin now how))) (replies.Cycle n) = []
scanned_then ns (Some (heap.Plain (plain.Scan k))) (replies.Scanned n) = ns ++ n ∷ []
scanned_then ns asked reply = ns

taken_scanned : (ns : List ℕ) (a b : State) (step : NamedStep) (reply : Reply) → heap_refusal a step ≡ None
    → HeapAccepts a step reply b → Changes a (Some step) reply b → HasScanned ns a
    → HasScanned (scanned_then ns (Some step) reply) b
taken_scanned ns a b (heap.Plain (plain.Scan k)) (replies.Scanned n) none row changes scanned =
    one_more ns a b k n scanned (scan_tells a b k n none row) changes.scanned changes.config
taken_scanned ns a b (heap.Plain (plain.Begin now how)) (replies.Cycle n) none row changes scanned =
    begins ns a b scanned changes.scanned changes.config
taken_scanned ns a b step reply none row changes scanned = still_scanned ns a b scanned changes.scanned changes.config

pub turn_scanned : (ns : List ℕ) (a b : State) (asked : Option NamedStep) (reply : Reply) → IsTurn a asked reply b
    → HasScanned ns a → HasScanned (scanned_then ns asked reply) b
turn_scanned ns a b asked reply turn scanned = grind (arith, heap_tells, taken_scanned ns a)

-- what spends a hold scans nothing
spent_then : (ns : List ℕ) (w : World) (step : HoldName → NamedStep) (hand : List Notice) (reply : Reply)
    → ((hold : HoldName) → scanned_then ns (Some (step hold)) reply ≡ ns)
    → scanned_then ns (spending w step hand) reply ≡ ns
spent_then ns w step [] reply none = refl
spent_then ns w step (notice ∷ rest) reply none = none (hold_of w notice)

row_then : (ns : List ℕ) (w : World) (step : Step) (reply : Reply)
    → scanned_then ns (heap_step w step) reply ≡ scanned_with ns step reply
row_then ns w (steps.Plain (plain.Begin now how)) (replies.Cycle n) = refl
row_then ns w (steps.Plain (plain.Scan k)) (replies.Scanned n) = refl
row_then ns w (steps.Adopt m d) reply =
    spent_then ns w (λ hold. heap.Adopt m d hold) (hand_of w (Mutator m)) reply (λ hold. refl)
row_then ns w (steps.Release who) reply =
    spent_then ns w (λ hold. heap.Release hold) (hand_of w who) reply (λ hold. refl)
row_then ns w step reply = refl

scanned_last : (ns : List ℕ) (past : List Row) (row : Row)
    → scanned_from ns (past ++ row ∷ []) ≡ scanned_with (scanned_from ns past) row.step row.reply
scanned_last ns [] row = refl
scanned_last ns (other ∷ past) row = scanned_last (scanned_with ns other.step other.reply) past row

pub first_scanned : (config : Config) (number : ℕ) → HasScanned [] (first_state_of config number)
first_scanned config number = grind (arith, distinct_nil, length-replicate)

-- no object is scanned twice in a cycle
pub legal_scanned_once : (config : Config) (rows : List Row) → IsLegal config rows
    → IsDistinct nat_eq (scanned_in_cycle rows)
legal_scanned_once config rows legal =
    let scanned = legal_holds config (λ past a. HasScanned (scanned_in_cycle past) a)
    (λ past a row b before scanned h.
    subst (λ ns. HasScanned ns b)
    (row_then (scanned_in_cycle past) a.world row.step row.reply ∙ sym (scanned_last [] past row))
    (turn_scanned (scanned_in_cycle past) a b (heap_step a.world row.step) row.reply
    (row_turn a row b (legal_counted config past a before) h) scanned))
    (first_scanned config 0) rows legal.0 legal.1 in
    scanned.distinct
