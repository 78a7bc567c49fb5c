-- Each number is given once, so in every legal trace a reference is registered with one queue.
use Rattle.ref_base.proofs.Common.{◌≡◌, ℕ, ◌+◌, ◌<◌, ◌≤◌, true, List, [], ◌∷◌, ◌++◌, Option, Some, None, ap, arith, inl}
use Rattle.ref_base.proofs.Common.{inr, ◌⊎◌, false≢true, NamedStep, State, first_state, HeapAccepts, IsAnswer, IsRow}
use Rattle.ref_base.proofs.Common.{IsRun, registers, is_registered, IsLegal, Config, Fault, Step, Reply, Row}
use Rattle.ref_base.proofs.CountedTraces.{legal_counted}
use Rattle.ref_base.proofs.Outcomes.{settled, outcome, heap_outcome}
use Rattle.ref_base.proofs.RowKinds.{queues_lead, IsRefused, IsOfQueues, IsOfHeap, row_kind}
use Rattle.ref_base.proofs.RunFronts.{legal_holds}
use Rattle.ref_base.specs.declared.heap_step.HeapStep.TheVariants as heap
use Rattle.ref_base.specs.declared.plain_step.PlainStep.TheVariants as plain
use Rattle.ref_base.specs.declared.step.Step.TheVariants as steps
use Rattle.ref_base.specs.declared.reply.Reply.TheVariants as replies

-- ---- the next number grows

outcome_next : (a : State) (step : NamedStep) (reply : Reply) → a.next ≤ (outcome a step reply).next
outcome_next a (heap.Plain (plain.New m d k)) reply = omega arith
outcome_next a (heap.Plain (plain.Refer m strength d s q k)) reply = omega arith
outcome_next a (heap.Plain (plain.ClearNext k)) (replies.Cleared n) = omega arith
outcome_next a (heap.Plain (plain.ClearNext k)) reply = omega arith
outcome_next a (heap.Plain (plain.Sweep k)) (replies.Swept count) = omega arith
outcome_next a (heap.Plain (plain.Sweep k)) reply = omega arith
outcome_next a step reply = omega arith

next_by : (a b c : State) → settled b ≡ settled c → a.next ≤ c.next → a.next ≤ b.next
next_by a b c leads grows = let same = ap (λ (s : State). s.next) leads in omega (arith, same, grows)

pub next_heap : (a b : State) (step : NamedStep) (reply : Reply) → HeapAccepts a step reply b → a.next ≤ b.next
next_heap a b (heap.Plain plain.EndMark) reply row =
    let same = ap (λ (s : State). s.next) row.after in omega (arith, same)
next_heap a b step reply row =
    next_by a b (outcome a step reply) (heap_outcome a b step reply tt row) (outcome_next a step reply)

pub next_grows : (a : State) (row : Row) (b : State)
    → IsRefused a row b ⊎ (IsOfQueues a row b ⊎ IsOfHeap a row b) → a.next ≤ b.next
next_grows a row b (inl refused) = let same = ap (λ (s : State). s.next) refused.same in omega (arith, same)
next_grows a row b (inr (inl of)) = let same = ap (λ (s : State). s.next) (queues_lead of) in omega (arith, same)
next_grows a row b (inr (inr of)) = grind (arith, next_heap)

-- ---- what is made has the next number

-- a row that made a reference gave it the next number, and the one after comes next
registers_next : (a b : State) (step : Step) (reply : Reply) (fault : Option Fault) (n q : ℕ)
    → IsAnswer a fault step reply b → registers n q step reply ≡ true → (n ≡ a.next) × (b.next ≡ a.next + 1)
registers_next a b (steps.Plain (plain.Refer m strength d s (Some k) f)) (replies.Object o) (Some x) n q h makes =
    let no_fault = h.0 in absurd cc
registers_next a b (steps.Plain (plain.Refer m strength d s (Some k) f)) (replies.Object o) None n q h makes =
    grind arith
registers_next a b step reply fault n q h makes = absurd (false≢true makes)

-- ---- rows

-- what is registered after one row more was so before, or that row registers it
registered_cases : (rows : List Row) (row : Row) (n q : ℕ) → is_registered (rows ++ row ∷ []) n q ≡ true
    → (is_registered rows n q ≡ true) ⊎ (registers n q row.step row.reply ≡ true)
registered_cases [] row n q h = grind arith
registered_cases (first ∷ rows) row n q h = grind (arith, registered_cases rows row n q)

-- each registered reference has a number below the next, and one queue
pub record AreRegistered (rows : List Row) (a : State) : Type 0 where
  pub below : (n q : ℕ) → is_registered rows n q ≡ true → n < a.next
  pub one : (n q r : ℕ) → is_registered rows n q ≡ true → is_registered rows n r ≡ true → q ≡ r

registered_last : (config : Config) (past : List Row) (a : State) (row : Row) (b : State)
    → IsRun (first_state config) past a → AreRegistered past a → IsRow a row b → AreRegistered (past ++ row ∷ []) b
registered_last config past a row b run are h =
    grind (arith, next_grows, legal_counted, registers_next, registered_cases, row_kind a row b)

pub one_queue : (config : Config) (rows : List Row) (n q r : ℕ) → IsLegal config rows
    → is_registered rows n q ≡ true → is_registered rows n r ≡ true → q ≡ r
one_queue config rows n q r legal first second =
    let none : AreRegistered [] (first_state config) = record {
      below = λ i j there. absurd (false≢true there);
      one = λ i j k there also. absurd (false≢true there);
    } in
    (legal_holds config AreRegistered (registered_last config) none rows legal.0 legal.1).one n q r first second
