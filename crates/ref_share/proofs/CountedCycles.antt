-- Cycle after cycle, by one worker for the same queues.
use Rattle.ref_share.proofs.Common.{◌≡◌, ◌+◌, ◌∙◌, ℕ, suc, List, Result, ShareFault, ap, arith, subst}
use Rattle.ref_share.proofs.Common.{HeapView, QueueSeat, SharedQueue}
use Rattle.ref_base.specs.declared.urgency.Urgency.TheVariants.{Normal}
use Rattle.ref_share.specs.Cycles.{CountedRepeats, CyclesAlone}
use Rattle.ref_share.specs.Users.{HeapUse}

-- what is so so often, and once more
pub repeats_once_more : {X : Type 0} (P : ℕ → X → X → Type 0) (n : ℕ) (x y z : X) → CountedRepeats P n x y → P n y z
    → CountedRepeats P (n + 1) x z
repeats_once_more P n x y z before step =
    let next : suc n ≡ n + 1 = omega arith in
    subst (λ (k : ℕ). CountedRepeats P k x z) next (y, before, step)

-- a cycle for what are the same queues, by the same worker
pub by_the_same : {A : Type 0} (own queues : List (SharedQueue A)) (acts worker now : ℕ) (v : HeapView)
    (seats : List QueueSeat) (result : Result (Unit {0}) ShareFault) (w : HeapView) (after : List QueueSeat)
    → own ≡ queues → acts ≡ worker → CyclesAlone own acts now Normal v seats result w after
    → CyclesAlone queues worker now Normal v seats result w after
by_the_same own queues acts worker now v seats result w after same does cycles =
    subst (λ k. CyclesAlone queues k now Normal v seats result w after) does
    (subst (λ qs. CyclesAlone qs acts now Normal v seats result w after) same cycles)

-- a user whose seat alone changed, and changed again, has changed in its seat alone
pub only_the_seat : {A : Type 0} (u v w : HeapUse A) → v ≡ record u { seat = v.seat } → w ≡ record v { seat = w.seat }
    → w ≡ record u { seat = w.seat }
only_the_seat {A = A} u v w first second = second ∙ ap (λ (z : HeapUse A). record z { seat = w.seat }) first
