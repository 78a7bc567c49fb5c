-- The holds that a row of a heap leaves are those that its answer tells.
use Rattle.ref_base.proofs.Common.{arith, ◌≡◌, ℕ, List, Option, Some, None, refl, ap, ◌∙◌, Object, Heap, slot_at}
use Rattle.ref_base.proofs.Common.{reference_at, registered_in, changed_in, with_reference, cleared, got_at, got, cut}
use Rattle.ref_base.proofs.Common.{one_more, World, NamedStep, pended, State, HeapAccepts, holds_after, Reply}
use Rattle.ref_base.proofs.Common.{[], ◌∷◌, Notice, told_notices, handed_each, handed_on, unhooked}
use Rattle.ref_base.specs.CountedHolds.{more_of_each, more_of_first}
use Rattle.ref_base.proofs.Outcomes.{outcome, heap_outcome}
use Rattle.ref_base.proofs.ReplayKeeps.{told_keeps, done_keeps}
use Rattle.ref_base.specs.declared.heap_step.HeapStep.TheVariants as heap
use Rattle.ref_base.specs.declared.plain_step.PlainStep.TheVariants as plain
use Rattle.ref_base.specs.declared.reply.Reply.TheVariants as replies

abbrev holds_of : World → List ℕ
holds_of w = w.heap.holds

holds-changed_in : (h : Heap) (held : Option ℕ) (f : Object → Object) → (changed_in h held f).holds ≡ h.holds
holds-changed_in h None f = refl
holds-changed_in h (Some n) f = refl

holds_cut : (h : Heap) (m s : ℕ) → (cut h m s).holds ≡ h.holds
holds_cut h m s = holds-changed_in h (slot_at h m s) (with_reference cleared)

holds_got : (h : Heap) (m d s : ℕ) (value : Option ℕ) → (got h m d s value).holds ≡ h.holds
holds_got h m d s None = refl
holds_got h m d s (Some n) = holds-changed_in h (slot_at h m s) (with_reference (got_at h.clock))

holds_pended : (w : World) (k n : ℕ) (queue : Option ℕ) → holds_of (pended w k n queue) ≡ holds_of w
holds_pended w k n None = refl
holds_pended w k n (Some q) = refl

holds_unhooked : (w : World) (m s : ℕ) (notices : List Notice)
    → holds_of (unhooked w m s notices) ≡ more_of_first (holds_of w) notices
holds_unhooked w m s [] = refl
holds_unhooked w m s (notice ∷ rest) = ap (λ hs. one_more hs notice.object) (holds_cut w.heap m s)

holds_handed : (w : World) (k : ℕ) (notices : List Notice)
    → holds_of (handed_each w k notices) ≡ more_of_each (holds_of w) notices
holds_handed w k [] = refl
holds_handed w k (notice ∷ rest) = holds_handed (handed_on w k notice.object) k rest

outcome_holds : (a : State) (step : NamedStep) (reply : Reply)
    → holds_of (outcome a step reply).world ≡ holds_after a.world.heap.holds step reply
outcome_holds a (heap.Unhook m s) replies.Nothing = holds_cut a.world.heap m s
outcome_holds a (heap.Unhook m s) reply = holds_unhooked a.world m s (told_notices reply)
outcome_holds a (heap.Hold m s) (replies.Object n) = refl
outcome_holds a (heap.Adopt m d hold) (replies.Object n) = refl
outcome_holds a (heap.Release hold) replies.Done = refl
outcome_holds a (heap.Plain (plain.ClearNext k)) (replies.Cleared n) =
    holds_pended a.world k n (registered_in (reference_at a.world.heap n))
outcome_holds a (heap.Plain (plain.ClearNext k)) (replies.Kept n) = refl
outcome_holds a (heap.Plain (plain.ClearNext k)) (replies.Skipped n) = refl
outcome_holds a (heap.Hand k) reply = holds_handed a.world k (told_notices reply)
outcome_holds a (heap.Hands k max batch) reply = holds_handed a.world k (told_notices reply)
outcome_holds a (heap.Plain (plain.Sweep k)) (replies.Swept count) = refl
outcome_holds a step reply = grind (arith, told_keeps, done_keeps, holds_got, holds_cut)

-- the holds that a row of a heap leaves are those that it tells
pub heap_holds : (a b : State) (step : NamedStep) (reply : Reply) → HeapAccepts a step reply b
    → b.world.heap.holds ≡ holds_after a.world.heap.holds step reply
heap_holds a b (heap.Plain plain.EndMark) reply row = ap (λ (s : State). s.world.heap.holds) row.after
heap_holds a b step reply row =
    ap (λ (s : State). s.world.heap.holds) (heap_outcome a b step reply tt row) ∙ outcome_holds a step reply
