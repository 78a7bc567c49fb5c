-- What the calls of a heap tell, call by call; and a call that tells a row, and isn't refused, is one of a world, whose
-- hands are empty.
use Rattle.ref_share.proofs.Common.{◌≡◌, ℕ, List, [], ◌∷◌, ◌++◌, Option, Some, None, refl, ◌∙◌, subst, append-nil}
use Rattle.ref_share.proofs.Common.{append_assoc, NamedStep, told_reply, HeapAnswer, HeapEntry, world_step, row_of}
use Rattle.ref_share.proofs.Common.{rows_of, gathered, State, World, Reply, Step, IsHeapRow, IsRow, with_handed}
use Rattle.ref_share.proofs.Common.{hand_of, Mutator, Worker, arith, true, sym, Fault, HeapAccepts, HeldNotice}
use Rattle.ref_share.proofs.Common.{heap_refusal}
use Rattle.ref_base.specs.CollectorRows.{IsHeapAnswer}
use Rattle.ref_base.specs.Refusals.{fits, refusal}
use Rattle.ref_base.specs.declared.actor.Actor.{Actor}
use Rattle.ref_base.proofs.HeapRowLaws.{carried_row, free_unhook, free_hand, row_others}
use Rattle.ref_base.proofs.SameOthers.{same_hand}
use Rattle.ref_base.specs.declared.heap_step.HeapStep.TheVariants as heap
use Rattle.ref_base.specs.declared.step.Step.TheVariants as steps

-- a call more tells its own row last, if it tells one
pub rows_last : (past : List HeapEntry) (call : HeapEntry)
    → rows_of (past ++ call ∷ []) ≡ rows_of past ++ row_of (world_step call.step) (told_reply call.reply)
rows_last [] call = append-nil (row_of (world_step call.step) (told_reply call.reply))
rows_last (other ∷ past) call = search (append_assoc, rows_last past call)

-- and what calls tell goes on call by call
pub gathered_last : (told_by : NamedStep → HeapAnswer → List ℕ) (past : List HeapEntry) (call : HeapEntry)
    → gathered told_by (past ++ call ∷ []) ≡ gathered told_by past ++ told_by call.step call.reply
gathered_last told_by [] call = append-nil (told_by call.step call.reply)
gathered_last told_by (other ∷ past) call = search (append_assoc, gathered_last told_by past call)

-- ---- as rows of a world

-- no hand has a notice
abbrev pub HandsFree : World → Type 0
HandsFree w = (who : Actor) → hand_of w who ≡ []

-- no call changes that
pub still_free : (a b : State) (step : NamedStep) (reply : Reply) → HandsFree a.world
    → IsHeapRow a step reply b → HandsFree b.world
still_free a b step reply free row who =
    same_hand a.world b.world who (row_others a b step reply row) ∙ free who

abbrev IsTold : State → State → Option Step → Reply → Type 0
IsTold a b None reply = Unit {0}
IsTold a b (Some step) reply = IsRow a (record { step = step; reply = reply }) (with_handed b step reply)

-- one that asks for more than a batch has room for asks for more than an empty hand has
fewer_fit : (max held : ℕ) → fits max held ≡ true → fits max 0 ≡ true
fewer_fit max held fit = grind arith

-- a hand of a batch is accepted where one into an empty hand is
hands_empty : (a : State) (k max : ℕ) (batch : List HeldNotice) → heap_refusal a (heap.Hands k max batch) ≡ None
    → heap_refusal a (heap.Hands k max []) ≡ None
hands_empty a k max batch none = grind (arith, fewer_fit)

free_hands : (a : State) (k max : ℕ) → hand_of a.world (Worker k) ≡ []
    → refusal a (steps.Hands k max) ≡ heap_refusal a (heap.Hands k max [])
free_hands a k max free = grind arith

as_row : (a b : State) (asked : NamedStep) (reply : Reply) → heap_refusal a asked ≡ None → HeapAccepts a asked reply b
    → IsHeapRow a asked reply b
as_row a b asked reply none row = subst (λ (o : Option Fault). IsHeapAnswer a o asked reply b) (sym none) row

is_told : (a b : State) (asked : NamedStep) (reply : Reply) → HandsFree a.world
    → heap_refusal a asked ≡ None → HeapAccepts a asked reply b → IsTold a b (world_step asked) reply
is_told a b (heap.Hold m s) reply free none row = tt
is_told a b (heap.Adopt m d hold) reply free none row = tt
is_told a b (heap.Release hold) reply free none row = tt
is_told a b (heap.Unhook m s) reply free none row =
    carried_row a b (heap.Unhook m s) (steps.Unhook m s) reply refl (free_unhook a m s (free (Mutator m)))
    (as_row a b (heap.Unhook m s) reply none row)
is_told a b (heap.Hand k) reply free none row =
    carried_row a b (heap.Hand k) (steps.Hand k) reply refl (free_hand a k (free (Worker k)))
    (as_row a b (heap.Hand k) reply none row)
is_told a b (heap.Hands k max batch) reply free none row =
    carried_row a b (heap.Hands k max []) (steps.Hands k max) reply refl (free_hands a k max (free (Worker k)))
    (as_row a b (heap.Hands k max []) reply (hands_empty a k max batch none) row)
is_told a b (heap.Plain step) reply free none row =
    carried_row a b (heap.Plain step) (steps.Plain step) reply refl refl
    (as_row a b (heap.Plain step) reply none row)

-- a call that tells a row, and isn't refused, is that row, in a world whose hands are empty
pub told_row : (a b : State) (asked : NamedStep) (step : Step) (reply : Reply)
    → world_step asked ≡ Some step → HandsFree a.world → heap_refusal a asked ≡ None → HeapAccepts a asked reply b
    → IsRow a (record { step = step; reply = reply }) (with_handed b step reply)
told_row a b asked step reply is free none row =
    subst (λ (o : Option Step). IsTold a b o reply) is (is_told a b asked reply free none row)
