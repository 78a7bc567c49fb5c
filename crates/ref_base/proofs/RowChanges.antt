-- What a row of the world does to the pending lists, to what was scanned and to the configuration; and that, where it
-- says in a mark that an object is left, one is.
use Rattle.ref_base.proofs.Common.{◌≡◌, ℕ, List, Option, Some, None, inl, inr, refl, sym, ap, ◌∙◌, subst}
use Rattle.ref_base.proofs.Common.{reference_at, registered_in, World, Pending, NamedStep, heap_step}
use Rattle.ref_base.proofs.Common.{told_notices, handed_each}
use Rattle.ref_base.proofs.Common.{pended, after_queues, State, emptied, with_world, with_handed}
use Rattle.ref_base.proofs.Common.{HeapAccepts, IsRow, AreCounted, Fault, Reply, Row}
use Rattle.ref_base.proofs.Outcomes.{scanned_by, outcome, heap_outcome, IsNoEnd}
use Rattle.ref_base.proofs.OutcomeParts.{mark_in, heap_config}
use Rattle.ref_base.proofs.LeftObjects.{LeftMeans, left_kept, left_becomes, heap_left}
use Rattle.ref_base.proofs.ReplayKeeps.{but_hands, queues_keep, handed_keeps, done_keeps, frame_pending}
use Rattle.ref_base.proofs.RowKinds.{IsOfQueues, queues_lead, IsOfHeap, row_kind}
use Rattle.ref_base.specs.declared.heap_step.HeapStep.TheVariants as heap
use Rattle.ref_base.specs.declared.plain_step.PlainStep.TheVariants as plain
use Rattle.ref_base.specs.declared.reply.Reply.TheVariants as replies

-- ---- what a row tells, by what it asks of its heap

-- the pending lists after a row
abbrev pub pending_after : World → Option NamedStep → Reply → List (List Pending)
pending_after w (Some (heap.Plain (plain.ClearNext k))) (replies.Cleared n) =
    (pended w k n (registered_in (reference_at w.heap n))).pending
pending_after w (Some (heap.Hand k)) reply = (handed_each w k (told_notices reply)).pending
pending_after w (Some (heap.Hands k max batch)) reply = (handed_each w k (told_notices reply)).pending
pending_after w asked reply = w.pending

-- what was scanned
abbrev pub scanned_after : List (List ℕ) → Option NamedStep → Reply → List (List ℕ)
scanned_after lists (Some (heap.Plain (plain.Scan k))) reply = scanned_by lists k reply
scanned_after lists (Some (heap.Plain (plain.Begin now how))) (replies.Cycle n) = emptied lists
scanned_after lists asked reply = lists

pub record Changes (a : State) (asked : Option NamedStep) (reply : Reply) (b : State) : Type 0 where
  pub pending : b.world.pending ≡ pending_after a.world asked reply
  pub scanned : b.scanned ≡ scanned_after a.scanned asked reply
  pub config : b.world.heap.config ≡ a.world.heap.config
  pub left : LeftMeans a → LeftMeans b

-- ---- rows of a heap

pending_told : (a : State) (step : NamedStep) (reply : Reply) → IsNoEnd step
    → (outcome a step reply).world.pending ≡ pending_after a.world (Some step) reply
pending_told a (heap.Plain (plain.ClearNext k)) (replies.Cleared n) no_end = refl
pending_told a (heap.Hand k) reply no_end = refl
pending_told a (heap.Hands k max batch) reply no_end = refl
pending_told a (heap.Plain (plain.Begin now how)) (replies.Cycle n) no_end = refl
pending_told a (heap.Plain (plain.Sweep k)) (replies.Swept n) no_end = refl
pending_told a step reply no_end = search (frame_pending a.world, done_keeps (λ (w : World). w.pending), refl)

scanned_told : (a b : State) (step : NamedStep) (reply : Reply) → IsNoEnd step → HeapAccepts a step reply b
    → (outcome a step reply).scanned ≡ scanned_after a.scanned (Some step) reply
scanned_told a b (heap.Plain (plain.Begin now how)) reply no_end row =
    sym (ap (λ (r : Reply). scanned_after a.scanned (Some (heap.Plain (plain.Begin now how))) r) row.0)
scanned_told a b (heap.Plain (plain.ClearNext k)) (replies.Cleared n) no_end row = refl
scanned_told a b (heap.Plain (plain.Sweep k)) (replies.Swept n) no_end row = refl
scanned_told a b step reply no_end row = refl

pub heap_tells : (a b : State) (step : NamedStep) (reply : Reply) → HeapAccepts a step reply b
    → Changes a (Some step) reply b
heap_tells a b (heap.Plain plain.EndMark) reply row = record {
  pending = ap (λ (s : State). s.world.pending) row.after;
  scanned = ap (λ (s : State). s.scanned) row.after;
  config = ap (λ (s : State). s.world.heap.config) row.after;
  left = heap_left a b (heap.Plain plain.EndMark) reply row;
}
heap_tells a b step reply row =
    let leads = heap_outcome a b step reply tt row in
    record {
      pending = ap (λ (s : State). s.world.pending) leads ∙ pending_told a step reply tt;
      scanned = ap (λ (s : State). s.scanned) leads ∙ scanned_told a b step reply tt row;
      config = heap_config a b step reply row;
      left = heap_left a b step reply row;
    }

-- ---- rows of the world

-- a refusal tells nothing of these
refused_changes : (a : State) (asked : Option NamedStep) (fault : Fault) → Changes a asked (replies.Refused fault) a
refused_changes a None fault = record { pending = refl; scanned = refl; config = refl; left = λ means. means }
refused_changes a (Some (heap.Plain (plain.RefersTo m s v))) fault =
    record { pending = refl; scanned = refl; config = refl; left = λ means. means }
refused_changes a (Some asked) fault =
    record { pending = refl; scanned = refl; config = refl; left = λ means. means }

queues_tell : (a : State) (row : Row) (b : State) → IsOfQueues a row b → Changes a None row.reply b
queues_tell a row b of =
    let v : World = after_queues a.world row.step row.reply in
    let leads = queues_lead of in
    let keeps : but_hands v ≡ but_hands a.world = queues_keep a.world row.step row.reply in
    record {
      pending = ap (λ (s : State). s.world.pending) leads ∙ ap (λ (w : World). w.pending) keeps;
      scanned = ap (λ (s : State). s.scanned) leads;
      config = ap (λ (s : State). s.world.heap.config) leads ∙ ap (λ (w : World). w.heap.config) keeps;
      left = λ means.
          left_becomes (with_world a v) b (left_kept a (with_world a v) (ap (mark_in a) keeps) means) of.becomes;
    }

asked_tells : (a : State) (row : Row) (b : State) → (of : IsOfHeap a row b) → Changes a (Some of.asked) row.reply b
asked_tells a row b of =
    let c : State = of.left in
    let tells = heap_tells a c of.asked row.reply of.accepts in
    let keeps = handed_keeps c.world row.step row.reply in
    record {
      pending = ap (λ (s : State). s.world.pending) of.after ∙ ap (λ (w : World). w.pending) keeps ∙ tells.pending;
      scanned = ap (λ (s : State). s.scanned) of.after ∙ tells.scanned;
      config = ap (λ (s : State). s.world.heap.config) of.after ∙ ap (λ (w : World). w.heap.config) keeps
          ∙ tells.config;
      left = λ means.
          subst LeftMeans (sym of.after)
          (left_kept c (with_handed c row.step row.reply) (ap (mark_in c) keeps) (tells.left means));
    }

-- a row does what it tells
pub row_changes : (a : State) (row : Row) (b : State) → AreCounted a.world → IsRow a row b
    → Changes a (heap_step a.world row.step) row.reply b
row_changes a row b counted h =
    let asks : Option NamedStep = heap_step a.world row.step in
    let asking : Option NamedStep → Type 0 = λ asked. Changes a asked row.reply b in
    elim (row_kind a row b counted h) [
      | inl of ↦
          subst (λ (r : Reply). Changes a asks r b) (sym of.answer)
          (subst (λ (s : State). Changes a asks (replies.Refused of.fault) s) (sym of.same)
          (refused_changes a asks of.fault))
      | inr others ↦ elim others [
        | inl of ↦ subst asking (sym of.asks) (queues_tell a row b of)
        | inr of ↦ subst asking (sym of.asks) (asked_tells a row b of)
      ]
    ]
