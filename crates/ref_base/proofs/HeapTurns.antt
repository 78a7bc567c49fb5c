-- A turn at a heap, by a row of its world or by a call from outside: nothing comes of it there, or the heap accepts
-- what is asked. Hands and queues are beside.
use Rattle.ref_base.proofs.Common.{arith, ◌≡◌, Option, Some, None, refl, ap, ◌∙◌, inl, inr, ◌⊎◌, heap_refusal}
use Rattle.ref_base.proofs.Common.{NamedStep, heap_step, State, with_world, HeapAccepts, IsHeapAnswer, IsHeapRow, IsRow}
use Rattle.ref_base.proofs.Common.{AreCounted, World, Fault, Reply, Row}
use Rattle.ref_base.proofs.OutcomeParts.{heap_number}
use Rattle.ref_base.proofs.Outcomes.{settled}
use Rattle.ref_base.proofs.ReplayKeeps.{but_hands, handed_keeps, queues_keep}
use Rattle.ref_base.proofs.RowKinds.{queues_lead, row_kind}
use Rattle.ref_base.specs.declared.reply.Reply.TheVariants as replies

-- a state but for hands, queues, the moments of its mark and whether it says that an object is left
abbrev pub at_rest : State → State
at_rest a = settled (with_world a (but_hands a.world))

-- nothing is asked of the heap, or it is refused
pub record IsIdle (a : State) (asked : Option NamedStep) (reply : Reply) (b : State) : Type 0 where
  pub tells : (asked ≡ None) ⊎ ((fault : Fault) × (reply ≡ replies.Refused fault))
  pub after : at_rest b ≡ at_rest a

-- the heap accepts what is asked
pub record IsTaken (a : State) (asked : Option NamedStep) (reply : Reply) (b : State) : Type 0 where
  pub step : NamedStep
  pub asks : asked ≡ Some step
  pub passes : heap_refusal a step ≡ None
  pub left : State
  pub accepts : HeapAccepts a step reply left
  pub after : at_rest b ≡ at_rest left

abbrev pub IsTurn : State → Option NamedStep → Reply → State → Type 0
IsTurn a asked reply b = IsIdle a asked reply b ⊎ IsTaken a asked reply b

-- what is asked and not refused is accepted
pub accepted : (a b : State) (step : NamedStep) (reply : Reply) → ((fault : Fault) → reply ≡ replies.Refused fault → ⊥)
    → IsTurn a (Some step) reply b
    → (left : State) × (heap_refusal a step ≡ None) × HeapAccepts a step reply left × (at_rest b ≡ at_rest left)
accepted a b step reply never turn = grind arith

-- ---- a row of the world

pub row_turn : (a : State) (row : Row) (b : State) → AreCounted a.world → IsRow a row b
    → IsTurn a (heap_step a.world row.step) row.reply b
row_turn a row b counted h =
    elim (row_kind a row b counted h) [
      | inl of ↦ inl (record { tells = inr (of.fault, of.answer); after = ap at_rest of.same })
      | inr others ↦ elim others [
        | inl of ↦ inl (record {
          tells = inl of.asks;
          after = ap (λ (s : State). with_world s (but_hands s.world)) (queues_lead of)
              ∙ ap (λ (w : World). settled (with_world a w)) (queues_keep a.world row.step row.reply);
        })
        | inr of ↦ inr (record {
          step = of.asked;
          asks = of.asks;
          passes = of.passes;
          left = of.left;
          accepts = of.accepts;
          after = ap at_rest of.after
              ∙ ap (λ (w : World). settled (with_world of.left w)) (handed_keeps of.left.world row.step row.reply);
        })
      ]
    ]

-- ---- a row of a heap

-- it is refused or accepted
abbrev pub IsRefusedOrAccepted : State → NamedStep → Reply → State → Type 0
IsRefusedOrAccepted a step reply b =
    ((fault : Fault) × (reply ≡ replies.Refused fault) × (b ≡ a))
    ⊎ ((heap_refusal a step ≡ None) × HeapAccepts a step reply b)

answered : (a b : State) (step : NamedStep) (reply : Reply) (fault : Option Fault) → heap_refusal a step ≡ fault
    → IsHeapAnswer a fault step reply b → IsRefusedOrAccepted a step reply b
answered a b step reply (Some fault) is row = inl (fault, row.0, row.1)
answered a b step reply None is row = inr (is, row)

pub heap_kind : (a b : State) (step : NamedStep) (reply : Reply) → IsHeapRow a step reply b
    → IsRefusedOrAccepted a step reply b
heap_kind a b step reply row = answered a b step reply (heap_refusal a step) refl row

pub heap_turn : (a b : State) (step : NamedStep) (reply : Reply) → IsHeapRow a step reply b
    → IsTurn a (Some step) reply b
heap_turn a b step reply row = grind (arith, heap_kind)

-- and leaves the heap its number
pub row_number : (a b : State) (step : NamedStep) (reply : Reply) → IsHeapRow a step reply b
    → b.world.heap.no ≡ a.world.heap.no
row_number a b step reply row = grind (arith, heap_kind, heap_number)
