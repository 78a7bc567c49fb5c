-- What each call of a heap keeps holds after every history.
use Rattle.ref_share.proofs.Common.{◌≡◌, ℕ, List, [], ◌∷◌, ◌++◌, Some, None, NamedStep, Config, told_reply, HeapAnswer}
use Rattle.ref_share.proofs.Common.{State, IsHeapTurn, HeapEntry, HeapAccepts, heap_refusal, IsHeapRun, first_state_of}
use Rattle.ref_base.proofs.HeapTurns.{IsTurn, heap_turn}
use Rattle.ref_base.proofs.RunLaws.{holds_after}

-- a call is a turn at the heap
pub as_turn : (x y : State) (step : NamedStep) (reply : HeapAnswer) → IsHeapTurn x step reply y
    → IsTurn x (Some step) (told_reply reply) y
as_turn x y step reply turn = heap_turn x y step (told_reply reply) turn.row

-- one that isn't refused
abbrev pub IsAccepted : State → NamedStep → HeapAnswer → State → Type 0
IsAccepted x step reply y =
    (heap_refusal x step ≡ None)
    × HeapAccepts x step (told_reply reply) y

abbrev pub IsCall : State → HeapEntry → State → Type 0
IsCall x call y = IsHeapTurn x call.step call.reply y

module _ (config : Config) (number : ℕ) (Q : List HeapEntry → State → Type 0)
    (step : (past : List HeapEntry) (x : State) (call : HeapEntry) (y : State)
    → IsHeapRun config number past x → Q past x → IsCall x call y → Q (past ++ call ∷ []) y) where
  -- what each call keeps, and holds at first, holds after every history
  pub run_holds : Q [] (first_state_of config number) → (calls : List HeapEntry) (last : State)
      → IsHeapRun config number calls last → Q calls last
  run_holds = holds_after IsCall (first_state_of config number) Q step
