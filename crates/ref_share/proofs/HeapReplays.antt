-- After every history of a heap the collector has the world of its replay, but for what was swept and for what waits to
-- be cleared; what is gone or doomed is out of reach; and a mark's end has shown what it cleared.
use Rattle.ref_share.proofs.Common.{arith, ◌≡◌, ℕ, List, [], ◌∷◌, ◌++◌, Some, inl, inr, refl, append_assoc, State}
use Rattle.ref_share.proofs.Common.{NamedStep, World, graph_of, Config, Fault, Reply, entry, told_reply, HeapAnswer}
use Rattle.ref_share.proofs.Common.{GivesOut}
use Rattle.ref_share.proofs.Common.{IsHeapTurn, HeapEntry, IsHeapRun, first_state_of, heap_replayed, HeapMarkEnded}
use Rattle.ref_base.specs.MarkEnds.{AreOutOfReach}
use Rattle.ref_base.specs.Replay.{after_heap}
use Rattle.ref_share.specs.HeapTraces.{heap_replayed_from}
use Rattle.ref_base.proofs.AgreeHeaps.{Agreeing}
use Rattle.ref_base.proofs.AgreeRuns.{heap_agrees, first_agrees, gone_next}
use Rattle.ref_base.proofs.HeapTurns.{IsIdle, IsRefusedOrAccepted, heap_kind}
use Rattle.ref_base.proofs.MarkShows.{RefersToDead}
use Rattle.ref_base.proofs.OutHeaps.{AreOutBy}
use Rattle.ref_base.proofs.OutRuns.{idle_gone, turn_out}
use Rattle.ref_base.proofs.OutTraces.{first_out, out_of_reach}
use Rattle.ref_share.proofs.HeapRuns.{as_turn, run_holds}
use Rattle.ref_base.specs.declared.heap_step.HeapStep.TheVariants as heap
use Rattle.ref_base.specs.declared.plain_step.PlainStep.TheVariants as plain
use Rattle.ref_base.specs.declared.reply.Reply.TheVariants as told
use Rattle.ref_world.specs.declared.heap_machine.HeapReply.TheVariants as replies

-- ---- the replay goes on call by call

pub replayed_last : (w : World) (past : List HeapEntry) (call : HeapEntry)
    → heap_replayed_from w (past ++ call ∷ []) ≡ after_heap (heap_replayed_from w past) call.step
    (told_reply call.reply)
replayed_last w [] call = refl
replayed_last w (other ∷ past) call = replayed_last (after_heap w other.step (told_reply other.reply)) past call

-- and a refusal leaves it
pub heap_refused : (w : World) (step : NamedStep) (fault : Fault) → after_heap w step (told.Refused fault) ≡ w
heap_refused w (heap.Plain plain.EndMark) fault = refl
heap_refused w step fault = refl

-- what a mark's end showed stays shown
pub shown_more : (config : Config) (number : ℕ) (calls more : List HeapEntry) (cycle n : ℕ)
    → HeapMarkEnded config number calls cycle n
    → HeapMarkEnded config number (calls ++ more) cycle n
shown_more config number calls more cycle n is = grind (arith, append_assoc)

-- ---- what is known after a history

abbrev Anything : ℕ → Type 0
Anything n = Unit {0}

abbrev pub IsOut : Config → ℕ → List HeapEntry → List ℕ → State → Type 0
IsOut config number past gone a = AreOutBy Anything (HeapMarkEnded config number past) gone a

-- where these are gone
abbrev pub IsKnownBut : Config → ℕ → List HeapEntry → List ℕ → State → Type 0
IsKnownBut config number past gone x =
    Agreeing gone (heap_replayed config number past) x × IsOut config number past gone x

abbrev pub IsKnown : Config → ℕ → List HeapEntry → State → Type 0
IsKnown config number past x = (gone : List ℕ) × IsKnownBut config number past gone x

-- a call that is a mark's end shows what it has to
end_shows : (config : Config) (number : ℕ) (past : List HeapEntry) (by heap_no : ℕ)
    (step : NamedStep) (reply : HeapAnswer) (count : ℕ) → GivesOut heap_no step reply
    → Some step ≡ Some (heap.Plain plain.EndMark) → told_reply reply ≡ told.Doomed count → (n : ℕ)
    → RefersToDead (heap_replayed config number past) n
    → HeapMarkEnded config number (past ++ entry by step reply ∷ []) (heap_replayed config number past).cycle n
end_shows config number past by heap_no (heap.Plain plain.EndMark) (replies.Told (told.Doomed k)) count gives asks is n
    refers =
    grind arith
end_shows config number past by heap_no (heap.Plain plain.EndMark) (replies.Told reply) count gives asks is n refers =
    absurd cc
end_shows config number past by heap_no (heap.Plain plain.EndMark) reply count gives asks is n refers = absurd gives
end_shows config number past by heap_no step reply count gives asks is n refers = absurd cc

agrees_then : (gone : List ℕ) (w : World) (a b : State) (step : NamedStep) (reply : Reply) → Agreeing gone w a
    → IsRefusedOrAccepted a step reply b
    → Agreeing (gone_next a gone (Some step) reply) (after_heap w step reply) b
agrees_then gone w a b step reply is (inl of) =
    let idle : IsIdle a (Some step) reply a = record { tells = inr (of.0, of.1); after = refl } in
    rw (idle_gone gone a a (Some step) reply idle, of.1, heap_refused w step of.0, of.2) is
agrees_then gone w a b step reply is (inr of) = heap_agrees gone w a b step reply is of.0 of.1

pub call_known_but : (config : Config) (number : ℕ) (past : List HeapEntry) (gone : List ℕ) (x : State)
    (call : HeapEntry) (y : State) → IsKnownBut config number past gone x → IsHeapTurn x call.step call.reply y
    → IsKnownBut config number (past ++ call ∷ [])
    (gone_next x gone (Some call.step) (told_reply call.reply)) y
call_known_but config number past gone x call y known turn =
    search (
      replayed_last,
      agrees_then,
      heap_kind,
      turn_out,
      shown_more,
      as_turn,
      end_shows config number past call.by x.world.heap.no call.step call.reply,
    )

call_known : (config : Config) (number : ℕ) (past : List HeapEntry) (x : State) (call : HeapEntry) (y : State)
    → IsKnown config number past x → IsHeapTurn x call.step call.reply y → IsKnown config number (past ++ call ∷ []) y
call_known config number past x call y known turn =
    search (call_known_but config number past known.0 x call y known.1 turn)

first_known : (config : Config) (number : ℕ) → IsKnown config number [] (first_state_of config number)
first_known config number =
    ([], (first_agrees config number, first_out Anything (HeapMarkEnded config number []) config number))

pub run_known : (config : Config) (number : ℕ) (calls : List HeapEntry) (last : State)
    → IsHeapRun config number calls last → IsKnown config number calls last
run_known config number calls last run =
    run_holds config number (IsKnown config number)
    (λ past x call y before is turn. call_known config number past x call y is turn)
    (first_known config number) calls last run

-- what is doomed, and not swept yet, is out of reach of all else that is there
pub doomed_unreached : (config : Config) (number : ℕ) (calls : List HeapEntry) (last : State)
    → IsHeapRun config number calls last → AreOutOfReach last.doomed (graph_of last.world)
doomed_unreached config number calls last run = search (out_of_reach, run_known config number calls last run)
