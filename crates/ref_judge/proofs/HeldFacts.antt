-- That the numbers of objects end at 2^32.
use Rattle.ref_base.proofs.Common.{arith, ◌≡◌, ℕ, ◌+◌, ◌<◌, Option, Some, None, refl, sym, subst, inl, inr, State}
use Rattle.ref_base.proofs.Common.{NamedStep, heap_refusal, has_slot, nat_lt, ltb-true}
use Rattle.std.specs.Prelude.{◌≤◌, ◌^◌, nat_le}
use Rattle.ref_base.specs.Heaps.{Heap, slot_at}
use Rattle.ref_base.specs.Refusals.{object_refusal, has_slots, is_queue_or_none, unless_empty}
use Rattle.ref_base.specs.declared.config.Config.{Config}
use Rattle.ref_base.specs.declared.fault.Fault.{Fault}
use Rattle.ref_base.specs.declared.heap_step.HeapStep.TheVariants as heap
use Rattle.ref_base.specs.declared.plain_step.PlainStep.TheVariants as plain
use Rattle.ref_base.specs.declared.reply.Reply.{Reply}
use Rattle.ref_base.specs.declared.reply.Reply.TheVariants as replies
use Rattle.ref_base.proofs.Outcomes.{IsNoEnd, outcome, heap_outcome}
use Rattle.ref_base.proofs.RowForms.{unless_passes}
use Rattle.ref_judge.specs.Standing.{Lawful}
use Rattle.ref_judge.specs.declared.profile.Profile.{Profile}
use Rattle.ref_judge.proofs.LawfulRuns.{lawful_holds}
use Rattle.ref_judge.proofs.LawfulStates.{lawful_turn}
use Rattle.ref_judge.proofs.RowTurns.{IsTurnAs}

one_up : (n top : ℕ) → n < top → n + 1 ≤ top
one_up n top less = omega (arith, less)

-- an object is made only where its number is left
object_next : (h : Heap) (next k : ℕ) → object_refusal h next k ≡ None → next + 1 ≤ 2 ^ 32
object_next h next k none =
    let first = unless_passes (nat_le k 8) _ _ none in
    let second = unless_passes (nat_lt next (2 ^ 32)) _ _ first.1 in
    one_up next (2 ^ 32) (ltb-true next (2 ^ 32) second.0)

empty_passes : (held : Option ℕ) (later : Option Fault) → unless_empty held later ≡ None → later ≡ None
empty_passes None later none = absurd cc
empty_passes (Some n) later none = none

outcome_next : (a : State) (step : NamedStep) (reply : Reply) → IsNoEnd step → heap_refusal a step ≡ None
    → a.next ≤ 2 ^ 32 → (outcome a step reply).next ≤ 2 ^ 32
outcome_next a (heap.Plain (plain.New m d k)) reply no_end none most =
    object_next a.world.heap a.next k (unless_passes (has_slot a.world.heap m d) _ _ none).1
outcome_next a (heap.Plain (plain.Refer m strength d s q k)) reply no_end none most =
    let first = unless_passes (has_slots a.world.heap m d s) _ _ none in
    let second = unless_passes (is_queue_or_none a.world.heap q) _ _ first.1 in
    object_next a.world.heap a.next k (empty_passes (slot_at a.world.heap m s) _ second.1)
outcome_next a (heap.Plain plain.EndMark) reply no_end none most = absurd no_end
outcome_next a (heap.Plain (plain.ClearNext k)) (replies.Cleared n) no_end none most = most
outcome_next a (heap.Plain (plain.ClearNext k)) reply no_end none most = most
outcome_next a (heap.Plain (plain.Sweep k)) (replies.Swept count) no_end none most = most
outcome_next a (heap.Plain (plain.Sweep k)) reply no_end none most = most
outcome_next a step reply no_end none most = most

abbrev EndsThere : State → Type 0
EndsThere a = a.next ≤ 2 ^ 32

next_turn : (p : Profile) (a b : State) (reply : Reply) → IsTurnAs p a reply b → EndsThere a → EndsThere b
next_turn p a b reply (inl same) most = subst EndsThere (sym same) most
next_turn p a b reply (inr (inl of)) most =
    subst EndsThere (sym of.after)
    (subst EndsThere (sym (heap_outcome a of.left of.step reply of.no_end of.accepts))
    (outcome_next a of.step reply of.no_end of.passes most))
next_turn p a b reply (inr (inr (inl of))) most = subst EndsThere (sym of.after) most
next_turn p a b reply (inr (inr (inr of))) most =
    subst EndsThere (sym of.after) (subst EndsThere (sym of.ends.after) most)

pub lawful_next : (p : Profile) (config : Config) (a : State) → Lawful p config a → a.next ≤ 2 ^ 32
lawful_next p config =
    lawful_holds p config EndsThere (one_up 0 (2 ^ 32) (ltb-true 0 (2 ^ 32) refl))
    (λ a b row lawful most h. next_turn p a b row.reply (lawful_turn p config a b row lawful h) most)
