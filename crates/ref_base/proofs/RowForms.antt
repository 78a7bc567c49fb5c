-- How a row of a heap is accepted or refused.
use Rattle.ref_base.proofs.Common.{◌≡◌, Bool, true, false, refl, sym, subst, Option, Some, None, inl, inr, cases_Bool}
use Rattle.ref_base.proofs.Common.{heap_refusal, unless, NamedStep, State, IsHeapRow, IsHeapAnswer, HeapAccepts, Fault}
use Rattle.ref_base.proofs.Common.{Reply, ticked, is_in, Marking}
use Rattle.ref_base.specs.declared.heap_step.HeapStep.TheVariants as heap
use Rattle.ref_base.specs.declared.plain_step.PlainStep.TheVariants as plain
use Rattle.ref_base.specs.declared.reply.Reply.TheVariants as replies

pub accepted_row : (a : State) (step : NamedStep) (reply : Reply) (b : State)
    → heap_refusal a step ≡ None → HeapAccepts a step reply b → IsHeapRow a step reply b
accepted_row a step reply b none accepted = subst (λ o. IsHeapAnswer a o step reply b) (sym none) accepted

pub refused_row : (a : State) (step : NamedStep) (fault : Fault)
    → heap_refusal a step ≡ Some fault → IsHeapRow a step (replies.Refused fault) a
refused_row a step fault refused =
    subst (λ o. IsHeapAnswer a o step (replies.Refused fault) a) (sym refused) (refl, refl)

-- where nothing is refused, the test holds, and what comes later isn't refused either
pub unless_passes : (test : Bool) (fault : Fault) (later : Option Fault) → unless test fault later ≡ None
    → (test ≡ true) × (later ≡ None)
unless_passes true fault later h = (refl, h)
unless_passes false fault later h = absurd cc

-- a moment of a mark, and whether an object is left, are no matter of the world
pub ticked_world : (c : State) → (ticked c).world ≡ c.world
ticked_world c =
    elim (cases_Bool (is_in c.world.phase Marking)) [ inl marks ↦ simp marks refl | inr other ↦ simp other refl ]

-- what a step asks of its heap, where it asks anything
abbrev pub asked_of : Option NamedStep → NamedStep
asked_of None = heap.Plain plain.EndMark
asked_of (Some asked) = asked
