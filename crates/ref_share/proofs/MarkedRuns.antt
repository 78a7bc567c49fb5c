-- The history of a heap: a notice of a cycle comes after the end of that cycle's mark, which showed what it had to.
use Rattle.ref_share.proofs.Common.{◌≡◌, ℕ, Bool, true, false, List, [], ◌∷◌, ◌++◌, inl, inr, refl, sym, subst, State}
use Rattle.ref_share.proofs.Common.{NamedStep, Cycle, Config, Reply, HeldNotice, told_reply, HeapEntry, IsHeapRun}
use Rattle.ref_share.proofs.Common.{HeapMarkEnded, AllByRecursion, HeapAccepts, HeapAnswer, IsHeapRow, IsHeapTurn}
use Rattle.ref_share.proofs.Common.{as_notice, false≢true, first_state_of, notices_given, notices_of_hand, told_notices}
use Rattle.ref_base.specs.Heaps.{slot_at}
use Rattle.ref_base.specs.declared.cause.Cause.{Cause}
use Rattle.ref_base.proofs.GivenNotices.{one_given, some_given, unhooked}
use Rattle.ref_share.proofs.HandedNotices.{all_given, one_is_told, some_are_told}
use Rattle.ref_base.proofs.CarryHeaps.{heap_carries}
use Rattle.ref_base.proofs.CarryLaws.{AnyCycle}
use Rattle.ref_base.proofs.HeapTurns.{heap_kind}
use Rattle.ref_base.proofs.MarkedTurns.{AnyObject, any_lasts, IsMarked, AreMarked, first_marked, turn_anew, more_marked}
use Rattle.ref_turn.proofs.Logs.{leads_cut}
use Rattle.ref_share.proofs.HeapReplays.{run_known, shown_more}
use Rattle.ref_share.proofs.HeapRuns.{IsCall, as_turn, run_holds}
use Rattle.ref_base.specs.declared.heap_step.HeapStep.TheVariants as heap
use Rattle.ref_world.specs.declared.heap_machine.HeapReply.TheVariants as replies

-- whether the step may give notices
abbrev gives_some : NamedStep → Bool
gives_some (heap.Unhook m s) = true
gives_some (heap.Hand k) = true
gives_some (heap.Hands k max batch) = true
gives_some step = false

call_marked : (config : Config) (number : ℕ) (past : List HeapEntry) (x : State) (call : HeapEntry) (y : State)
    → IsHeapRun config number past x → AreMarked (HeapMarkEnded config number past) x.world → IsCall x call y
    → AreMarked (HeapMarkEnded config number (past ++ call ∷ [])) y.world
call_marked config number past x call y run marked turn =
    let Shown : ℕ → ℕ → Type 0 = HeapMarkEnded config number past in
    let known = run_known config number past x run in
    let asked : NamedStep = call.step in
    let reply : Reply = told_reply call.reply in
    let anew = turn_anew Shown (λ n. Unit {0}) known.0 x y known.1.1 asked reply
    (as_turn x y call.step call.reply turn) in
    more_marked Shown (HeapMarkEnded config number (past ++ call ∷ [])) y.world
    (shown_more config number past (call ∷ []))
    (elim (heap_kind x y call.step reply turn.row) [
      | inl of ↦ subst (λ (a : State). AreMarked Shown a.world) (sym of.2) marked
      | inr of ↦
          heap_carries AnyObject (IsMarked Shown) AnyCycle any_lasts x y asked reply anew marked of.1
    ])

run_marked : (config : Config) (number : ℕ) (calls : List HeapEntry) (last : State)
    → IsHeapRun config number calls last → AreMarked (HeapMarkEnded config number calls) last.world
run_marked config number =
    run_holds config number (λ past x. AreMarked (HeapMarkEnded config number past) x.world) (call_marked config number)
    (first_marked (HeapMarkEnded config number []) config)

-- ---- what is given

module _ (Shown : ℕ → ℕ → Type 0) where
  -- what is marked comes after the mark's end of its cycle
  shown_of : (ns : List HeldNotice) → AllByRecursion (λ notice. IsMarked Shown (as_notice notice)) ns
      → AllByRecursion (λ notice. (cycle worker : ℕ) → notice.cause ≡ Cycle cycle worker
      → Shown cycle notice.hold.object) ns
  shown_of [] all = tt
  shown_of (notice ∷ ns) all = (
    λ cycle worker is.
        subst (λ (c : Cause). IsMarked Shown (record { object = notice.hold.object; queue = notice.queue; cause = c }))
        is all.0,
    shown_of ns all.1,
  )

  -- of a step that gives notices, those are marked that it tells
  module _ (x y : State) (marked : AreMarked Shown x.world) where
    told_marked : (step : NamedStep) (reply : Reply) → gives_some step ≡ true → IsHeapRow x step reply y
        → AllByRecursion (IsMarked Shown) (told_notices reply)
    told_marked step reply gives row =
        elim (heap_kind x y step reply row) [
          | inl of ↦ subst (λ (r : Reply). AllByRecursion (IsMarked Shown) (told_notices r)) (sym of.1) tt
          | inr of ↦ accepted step gives of.1
        ]
      where
        accepted : (step : NamedStep) → gives_some step ≡ true → HeapAccepts x step reply y
            → AllByRecursion (IsMarked Shown) (told_notices reply)
        accepted (heap.Unhook m s) gives row =
            unhooked AnyObject (IsMarked Shown) AnyCycle x y m s (slot_at x.world.heap m s) _ reply
            (λ n q is there. tt) refl row
        accepted (heap.Hand k) gives row = one_given (IsMarked Shown) x y k reply (marked.pendings k) row
        accepted (heap.Hands k max batch) gives row =
            some_given (IsMarked Shown) x y k max batch reply (marked.pendings k) row
        accepted step gives row = absurd (false≢true gives)

    given_marked : (step : NamedStep) (reply : HeapAnswer) → IsHeapTurn x step reply y
        → AllByRecursion (λ notice. IsMarked Shown (as_notice notice)) (notices_given step reply)
    given_marked (heap.Unhook m s) (replies.Notice notice) turn =
        told_marked (heap.Unhook m s) (told_reply (replies.Notice notice)) refl turn.row
    given_marked (heap.Hand k) reply turn =
        all_given (IsMarked Shown) (notices_of_hand (heap.Hand k) reply)
        (subst (AllByRecursion (IsMarked Shown)) (sym (one_is_told x.world.heap.no k reply turn.gives))
        (told_marked (heap.Hand k) (told_reply reply) refl turn.row))
    given_marked (heap.Hands k max batch) reply turn =
        all_given (IsMarked Shown) (notices_of_hand (heap.Hands k max batch) reply)
        (subst (AllByRecursion (IsMarked Shown)) (sym (some_are_told x.world.heap.no k max batch reply turn.gives))
        (told_marked (heap.Hands k max batch) (told_reply reply) refl turn.row))
    given_marked step reply turn = tt

-- what is given comes after that
pub given_after_mark : (config : Config) (number : ℕ) (front back : List HeapEntry) (call : HeapEntry) (last : State)
    → IsHeapRun config number (front ++ call ∷ back) last
    → AllByRecursion (λ notice. (cycle worker : ℕ) → notice.cause ≡ Cycle cycle worker
    → HeapMarkEnded config number front cycle notice.hold.object) (notices_given call.step call.reply)
given_after_mark config number front back call last run =
    let parts = leads_cut IsHeapTurn front (call ∷ back) (first_state_of config number) last run in
    shown_of (HeapMarkEnded config number front) (notices_given call.step call.reply)
    (given_marked (HeapMarkEnded config number front) parts.0 parts.2.0 (run_marked config number front parts.0 parts.1)
    call.step call.reply parts.2.1)
