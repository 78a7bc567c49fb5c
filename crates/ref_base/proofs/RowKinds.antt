-- A row is refused, or one of queues, or one of its heap with what the step leaves in the hands.
use Rattle.ref_base.proofs.Common.{arith, ◌≡◌, ℕ, if◌then◌else◌, Bool, true, false, List, [], ◌∷◌, Option, Some, None}
use Rattle.ref_base.proofs.Common.{refl, inl, inr, ◌⊎◌, Notice, hand_of, queue_at, NamedStep, heap_step, spending}
use Rattle.ref_base.proofs.Common.{after_queues, closed_queue, State, refusal, heap_refusal, has_slot, with_world}
use Rattle.ref_base.proofs.Common.{with_handed, HeapAccepts, QueuesAccept, AcceptsAsking, IsAnswer, IsRow, Puts}
use Rattle.ref_base.proofs.Common.{PutsInto, Polls, Closes, Gives, AreCounted, Actor, Mutator, Fault, HoldName, Step}
use Rattle.ref_base.proofs.Common.{Reply, Row, eq-eqb}
use Rattle.ref_base.proofs.Common.{sym, ap, map, take, object_of, took, told_taken, PutsAll, one_taken, ◌∙◌}
use Rattle.ref_base.proofs.BatchParts.{told_one}
use Rattle.ref_base.specs.Refusals.{is_counted}
use Rattle.ref_base.proofs.RowForms.{unless_passes}
use Rattle.ref_base.proofs.CountedWorlds.{holding_hand, counted_hand}
use Rattle.ref_base.proofs.Outcomes.{Becomes, settled, settled_becomes}
use Rattle.ref_base.specs.declared.heap_step.HeapStep.TheVariants as heap
use Rattle.ref_base.specs.declared.step.Step.TheVariants as steps
use Rattle.ref_base.specs.declared.reply.Reply.TheVariants as replies

pub record IsRefused (a : State) (row : Row) (b : State) : Type 0 where
  pub fault : Fault
  pub answer : row.reply ≡ replies.Refused fault
  pub same : b ≡ a

pub record IsOfQueues (a : State) (row : Row) (b : State) : Type 0 where
  pub asks : heap_step a.world row.step ≡ None
  pub becomes : Becomes (with_world a (after_queues a.world row.step row.reply)) b

-- in one equation
pub queues_lead : {a : State} {row : Row} {b : State} → IsOfQueues a row b
    → settled b ≡ settled (with_world a (after_queues a.world row.step row.reply))
queues_lead of = settled_becomes _ _ of.becomes

pub record IsOfHeap (a : State) (row : Row) (b : State) : Type 0 where
  pub asked : NamedStep
  pub asks : heap_step a.world row.step ≡ Some asked
  pub passes : heap_refusal a asked ≡ None
  pub left : State
  pub accepts : HeapAccepts a asked row.reply left
  pub after : b ≡ with_handed left row.step row.reply

-- ---- what the world doesn't refuse its heap doesn't either

-- a hand's notice is a hold that the heap counts
spent_passes : (a : State) (who : Actor) (step : HoldName → NamedStep) (hand : List Notice) (asked : NamedStep)
    → AreCounted a.world → hand_of a.world who ≡ hand → spending a.world step hand ≡ Some asked
    → ((hold : HoldName) → is_counted a.world.heap hold ≡ true → heap_refusal a (step hold) ≡ None)
    → heap_refusal a asked ≡ None
spent_passes a who step [] asked counted is asks passes = absurd cc
spent_passes a who step (notice ∷ rest) asked counted is asks passes = grind (arith, eq-eqb, counted_hand, holding_hand)

heap_passes : (a : State) (step : Step) (asked : NamedStep) → AreCounted a.world → heap_step a.world step ≡ Some asked
    → refusal a step ≡ None → heap_refusal a asked ≡ None
heap_passes a (steps.Adopt m d) asked counted asks none =
    let first = unless_passes (has_slot a.world.heap m d) _ _ none in
    let there : has_slot a.world.heap m d ≡ true = first.0 in
    spent_passes a (Mutator m) (λ hold. heap.Adopt m d hold) (hand_of a.world (Mutator m)) asked counted refl asks
    (λ hold counts. simp (there, counts) refl)
heap_passes a step asked counted asks none = grind (arith, unless_passes, spent_passes)

-- ---- rows of queues

abbrev pub LeadsQueues : State → Step → Reply → State → Type 0
LeadsQueues a step reply b = Becomes (with_world a (after_queues a.world step reply)) b

given : (a c b : State) (step : Step) (answer reply : Reply) → Gives answer c reply b
    → c ≡ with_world a (after_queues a.world step answer) → LeadsQueues a step reply b
given a c b step answer reply row leads = grind arith

puts_into : (a b : State) (who : Actor) (notice : Notice) (rest : List Notice) (again shut : Bool) (reply : Reply)
    → PutsInto again shut a who notice rest reply b → LeadsQueues a (steps.Put who) reply b
puts_into a b who notice rest true shut reply row = given a a b (steps.Put who) replies.Already reply row refl
puts_into a b who notice rest false true reply row = given a a b (steps.Put who) replies.Closed reply row refl
puts_into a b who notice rest false false reply row = grind arith

puts : (a b : State) (who : Actor) (hand : List Notice) (reply : Reply) → Puts a who hand reply b
    → LeadsQueues a (steps.Put who) reply b
puts a b who [] reply row = absurd row
puts a b who (notice ∷ rest) reply row = puts_into a b who notice rest _ _ reply row

puts_all : (a b : State) (who : Actor) (hand : List Notice) (reply : Reply) → PutsAll a who hand reply b
    → LeadsQueues a (steps.Puts who) reply b
puts_all a b who [] reply row = absurd row
puts_all a b who (notice ∷ rest) reply row = given a _ b (steps.Puts who) (replies.Outs row.0) reply row.3 refl

polls_none : (a b : State) (step : Step) (shut : Bool) (reply : Reply)
    → after_queues a.world step replies.Closed ≡ a.world → after_queues a.world step replies.Empty ≡ a.world
    → Gives (if shut then replies.Closed else replies.Empty) a reply b → LeadsQueues a step reply b
polls_none a b step true reply closed empty row =
    given a a b step replies.Closed reply row (ap (with_world a) (sym closed))
polls_none a b step false reply closed empty row =
    given a a b step replies.Empty reply row (ap (with_world a) (sym empty))

polls : (a b : State) (m q : ℕ) (step : Step) (tell : List ℕ → Reply) (taken : List Notice) (reply : Reply)
    → ((r : Reply) → after_queues a.world step r ≡ took a.world m q (told_taken r))
    → told_taken (tell (map object_of taken)) ≡ map object_of taken → Polls a m q tell taken reply b
    → LeadsQueues a step reply b
polls a b m q step tell [] reply takes told row =
    polls_none a b step (queue_at a.world q).closed reply (takes replies.Closed) (takes replies.Empty) row
polls a b m q step tell (notice ∷ rest) reply takes told row =
    let ns : List ℕ = map object_of (notice ∷ rest) in
    given a (with_world a (took a.world m q ns)) b step (tell ns) reply row
    (ap (with_world a) (sym (takes (tell ns) ∙ ap (took a.world m q) told)))

closes : (a b : State) (m q : ℕ) (shut : Bool) (reply : Reply) → Closes a q shut reply b
    → LeadsQueues a (steps.Close m q) reply b
closes a b m q true reply row = given a a b (steps.Close m q) replies.Closed reply row refl
closes a b m q false reply row =
    given a (with_world a (closed_queue a.world q)) b (steps.Close m q) replies.Done reply row refl

-- a row of queues leaves the queues that its answer says
pub queues_become : (a b : State) (step : Step) (reply : Reply) → QueuesAccept a step reply b
    → LeadsQueues a step reply b
queues_become a b (steps.Put who) reply row = puts a b who (hand_of a.world who) reply row
queues_become a b (steps.Puts who) reply row = puts_all a b who (hand_of a.world who) reply row
queues_become a b (steps.Poll m q) reply row =
    let stands : List Notice = (queue_at a.world q).stands in
    polls a b m q (steps.Poll m q) one_taken (take 1 stands) reply (λ _. refl) (told_one stands) row
queues_become a b (steps.Polls m q max) reply row =
    polls a b m q (steps.Polls m q max) replies.TookSome _ reply (λ _. refl) refl row
queues_become a b (steps.Close m q) reply row = closes a b m q (queue_at a.world q).closed reply row
queues_become a b step reply row = absurd row

-- ---- rows

accepted : (a b : State) (row : Row) (asked : Option NamedStep) → AreCounted a.world → refusal a row.step ≡ None
    → heap_step a.world row.step ≡ asked → AcceptsAsking a asked row.step row.reply b
    → IsOfQueues a row b ⊎ IsOfHeap a row b
accepted a b row None counted none is accepts =
    inl (record { asks = is; becomes = queues_become a b row.step row.reply accepts })
accepted a b row (Some asked) counted none is accepts = grind (arith, heap_passes)

answered : (a b : State) (row : Row) (fault : Option Fault) → AreCounted a.world → refusal a row.step ≡ fault
    → IsAnswer a fault row.step row.reply b → IsRefused a row b ⊎ (IsOfQueues a row b ⊎ IsOfHeap a row b)
answered a b row (Some fault) counted is h = inl (record { fault = fault; answer = h.0; same = h.1 })
answered a b row None counted is h = inr (accepted a b row (heap_step a.world row.step) counted is refl h)

pub row_kind : (a : State) (row : Row) (b : State) → AreCounted a.world → IsRow a row b
    → IsRefused a row b ⊎ (IsOfQueues a row b ⊎ IsOfHeap a row b)
row_kind a row b counted h = answered a b row (refusal a row.step) counted refl h
