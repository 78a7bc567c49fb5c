-- The history of a heap: no object is scanned twice in a cycle, and a mark goes on only while an object is left to
-- scan.
use Rattle.ref_share.proofs.Common.{◌≡◌, ℕ, List, [], ◌∷◌, ◌++◌, Some, inl, inr, refl, sym, ap, ◌∙◌, subst, nat_eq}
use Rattle.ref_share.proofs.Common.{IsDistinct, false≢true, NamedStep, scanned_in_cycle, Config, Reply, Row, told_reply}
use Rattle.ref_share.proofs.Common.{State, IsHeapTurn, HeapEntry, IsHeapRun, world_step, row_of, rows_of}
use Rattle.ref_base.specs.CollectorRows.{IsLeft}
use Rattle.ref_base.specs.ScannedRows.{scanned_with, scanned_from}
use Rattle.ref_base.specs.declared.fault.Fault.TheVariants.{GreyLeft}
use Rattle.ref_base.proofs.LeftObjects.{LeftMeans, heap_left}
use Rattle.ref_base.proofs.HeapTurns.{heap_kind}
use Rattle.ref_base.proofs.ScannedOnce.{HasScanned, first_scanned, scanned_then, turn_scanned, left_if_grey}
use Rattle.ref_share.proofs.HeapRows.{rows_last}
use Rattle.ref_share.proofs.HeapRuns.{IsCall, as_turn, run_holds}
use Rattle.ref_base.specs.declared.heap_step.HeapStep.TheVariants as heap
use Rattle.ref_base.specs.declared.plain_step.PlainStep.TheVariants as plain
use Rattle.ref_base.specs.declared.reply.Reply.TheVariants as told
use Rattle.ref_world.specs.declared.heap_machine.HeapReply.TheVariants as replies

-- ---- a mark goes on only while an object is left

call_left : (x : State) (call : HeapEntry) (y : State) → LeftMeans x → IsCall x call y
    → LeftMeans y
call_left x call y means turn =
    elim (heap_kind x y call.step (told_reply call.reply) turn.row) [
      | inl of ↦ rw of.2 means
      | inr of ↦ heap_left x y call.step (told_reply call.reply) of.1 means
    ]

pub refused_left : (config : Config) (number : ℕ) (front : List HeapEntry) (a b : State)
    → IsHeapRun config number front a → IsHeapTurn a (heap.Plain plain.EndMark) (replies.Told (told.Refused GreyLeft)) b
    → (n : ℕ) × IsLeft a n
refused_left config number front a b run turn =
    let means = run_holds config number (λ past x. LeftMeans x)
    (λ past x call y before is h. call_left x call y is h)
    (λ _ said. absurd (false≢true said)) front a run in
    left_if_grey a b means turn.row

-- ---- no object is scanned twice

-- a call scans what its row tells
call_then : (ns : List ℕ) (step : NamedStep) (reply : Reply)
    → scanned_then ns (Some step) reply ≡ scanned_from ns (row_of (world_step step) reply)
call_then ns (heap.Plain (plain.Begin now how)) (told.Cycle n) = refl
call_then ns (heap.Plain (plain.Scan k)) (told.Scanned n) = refl
call_then ns step reply = refl

scanned_append : (ns : List ℕ) (rows more : List Row)
    → scanned_from ns (rows ++ more) ≡ scanned_from (scanned_from ns rows) more
scanned_append ns [] more = refl
scanned_append ns (row ∷ rows) more = scanned_append (scanned_with ns row.step row.reply) rows more

call_scanned : (past : List HeapEntry) (x : State) (call : HeapEntry) (y : State)
    → HasScanned (scanned_in_cycle (rows_of past)) x → IsHeapTurn x call.step call.reply y
    → HasScanned (scanned_in_cycle (rows_of (past ++ call ∷ []))) y
call_scanned past x call y scanned turn =
    let ns : List ℕ = scanned_in_cycle (rows_of past) in
    let more : List Row = row_of (world_step call.step) (told_reply call.reply) in
    subst (λ ms. HasScanned ms y)
    (call_then ns call.step (told_reply call.reply)
    ∙ sym (ap scanned_in_cycle (rows_last past call) ∙ scanned_append [] (rows_of past) more))
    (turn_scanned ns x y (Some call.step) (told_reply call.reply)
    (as_turn x y call.step call.reply turn) scanned)

pub run_scanned : (config : Config) (number : ℕ) (calls : List HeapEntry) (last : State)
    → IsHeapRun config number calls last → HasScanned (scanned_in_cycle (rows_of calls)) last
run_scanned config number =
    run_holds config number (λ past x. HasScanned (scanned_in_cycle (rows_of past)) x)
    (λ past x call y before is turn. call_scanned past x call y is turn) (first_scanned config number)

pub scanned_once : (config : Config) (number : ℕ) (calls : List HeapEntry) (last : State)
    → IsHeapRun config number calls last → IsDistinct nat_eq (scanned_in_cycle (rows_of calls))
scanned_once config number calls last run =
    (run_scanned config number calls last run).distinct
