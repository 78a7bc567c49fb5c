-- Where a step of the world is refused before its heap or a queue is asked.
use Rattle.ref_world.proofs.Common.{arith, ◌≡◌, ℕ, ◌<◌, [], length, Bool, true, false, Option, Some, None}
use Rattle.ref_world.proofs.Common.{refl, sym, ap, subst, ◌∙◌, hand_of, unless, empty_hand_refusal, has_slot}
use Rattle.ref_world.proofs.Common.{is_actor, drop_refusal, heap_refusal, refusal, State, Actor, Mutator, Worker}
use Rattle.ref_world.proofs.Common.{Config, Fault, NoSuchActor, Step, Core, filling_refusal, filling_some_refusal}
use Rattle.ref_world.proofs.Common.{emptying_refusal}
use Rattle.ref_world.proofs.Common.{calling_refusal, Stands, IsReached, IsRowOf, model_heap}
use Rattle.std.specs.Prelude.{nat_lt}
use Rattle.ref_base.specs.Refusals.{unless_full, is_mutator, is_queue, fits}
use Rattle.ref_base.specs.declared.fault.Fault.TheVariants.{BadConfig, BadQueue}
use Rattle.ref_world.specs.Cores.{queue_refusal}
use Rattle.ref_base.proofs.RowForms.{unless_passes}
use Rattle.ref_world.proofs.ReachedCores.{same_config, same_hand, same_actors, queue_count}
use Rattle.ref_base.specs.declared.heap_step.HeapStep.TheVariants as heap
use Rattle.ref_base.specs.declared.reply.Reply.TheVariants as replies
use Rattle.ref_base.specs.declared.step.Step.TheVariants as steps

-- ---- tests

-- a mutator and a queue come before what is later
called : (mutator queue : Bool) (told : Fault) (later : Option Fault)
    → unless mutator NoSuchActor (unless queue BadQueue None) ≡ Some told
    → unless mutator NoSuchActor (unless queue BadQueue later) ≡ Some told
called true true told later is = absurd cc
called true false told later is = is
called false queue told later is = is

-- ---- what the state refuses as the core does

module _ (c : Core) (a : State) (stands : Stands c a) where
  pub same_mutators : (m : ℕ) → is_mutator a.world.heap m ≡ is_mutator (model_heap c.heap) m
  same_mutators m = ap (λ (f : Config). nat_lt m f.mutators) (same_config c a stands)

  pub same_queues : (q : ℕ) → is_queue a.world.heap q ≡ is_queue (model_heap c.heap) q
  same_queues q = ap (λ (f : Config). nat_lt q f.queues) (same_config c a stands)

  pub same_actor : (who : Actor) → is_actor a.world.heap who ≡ is_actor (model_heap c.heap) who
  same_actor (Mutator m) = same_mutators m
  same_actor (Worker k) = ap (λ (f : Config). nat_lt k f.workers) (same_config c a stands)

-- ---- rows of refused steps

-- a step that each state refuses is a row that changes nothing
pub refused_row : (c : Core) (step : Step) (fault : Fault)
    → ((a : State) → Stands c a → refusal a step ≡ Some fault) → IsRowOf c step (replies.Refused fault) c
refused_row c step fault refuses a stands = (a, rw (refuses a stands) (refl, refl), stands)

module _ (c : Core) (reached : IsReached c) where
  -- by an actor that isn't there, or a hand that is full
  filling : (who : Actor) (fault : Fault) → filling_refusal c.hands who ≡ Some fault → (later : Option Fault)
      → (a : State) → Stands c a
      → unless (is_actor a.world.heap who) NoSuchActor (unless_full (hand_of a.world who) later) ≡ Some fault
  filling who fault refused later a stands = grind (arith, same_actors)

  -- or one that is asked to take none, or more than it has room for
  filling_some : (who : Actor) (max : ℕ) (fault : Fault) → filling_some_refusal c.hands who max ≡ Some fault
      → (later : Option Fault) → (a : State) → Stands c a
      → unless (is_actor a.world.heap who) NoSuchActor
      (unless (fits max (length (hand_of a.world who))) BadConfig (unless_full (hand_of a.world who) later))
      ≡ Some fault
  filling_some who max fault refused later a stands = grind (arith, same_actors)

  emptying : (who : Actor) (fault : Fault) → emptying_refusal c.hands who ≡ Some fault → (a : State) → Stands c a
      → unless (is_actor a.world.heap who) NoSuchActor (empty_hand_refusal (hand_of a.world who)) ≡ Some fault
  emptying who fault refused a stands =
      rw (same_actor c a stands who ∙ sym (same_actors c reached who), same_hand c a stands who) refused

  -- the mutator of a slot that is there
  with_slot : (m s : ℕ) → drop_refusal (model_heap c.heap) m s ≡ None → (a : State) → Stands c a
      → (has_slot a.world.heap m s ≡ true) × (is_mutator a.world.heap m ≡ true)
  with_slot m s slot a stands = grind arith

  pub full_at_unhook : (m s : ℕ) (fault : Fault) → drop_refusal (model_heap c.heap) m s ≡ None
      → filling_refusal c.hands (Mutator m) ≡ Some fault → IsRowOf c (steps.Unhook m s) (replies.Refused fault) c
  full_at_unhook m s fault slot refused =
      refused_row c (steps.Unhook m s) fault (λ a stands.
      let there = with_slot m s slot a stands in
      let later = heap_refusal a (heap.Unhook m s) in
      ap (λ test. unless test NoSuchActor (unless_full (hand_of a.world (Mutator m)) later)) there.0
      ∙ subst (λ test. unless test NoSuchActor (unless_full (hand_of a.world (Mutator m)) later) ≡ Some fault) there.1
      (filling (Mutator m) fault refused later a stands))

  pub full_at_hand : (k : ℕ) (fault : Fault) → filling_refusal c.hands (Worker k) ≡ Some fault
      → IsRowOf c (steps.Hand k) (replies.Refused fault) c
  full_at_hand k fault refused =
      refused_row c (steps.Hand k) fault (λ a stands.
      filling (Worker k) fault refused (heap_refusal a (heap.Hand k)) a stands)

  pub full_at_hands : (k max : ℕ) (fault : Fault) → filling_some_refusal c.hands (Worker k) max ≡ Some fault
      → IsRowOf c (steps.Hands k max) (replies.Refused fault) c
  full_at_hands k max fault refused =
      refused_row c (steps.Hands k max) fault (λ a stands.
      filling_some (Worker k) max fault refused (heap_refusal a (heap.Hands k max [])) a stands)

  pub full_at_poll : (m q : ℕ) (fault : Fault) → calling_refusal c m q ≡ None
      → filling_refusal c.hands (Mutator m) ≡ Some fault → IsRowOf c (steps.Poll m q) (replies.Refused fault) c
  full_at_poll m q fault called refused =
      refused_row c (steps.Poll m q) fault (λ a stands.
      let mutator = unless_passes (is_mutator (model_heap c.heap) m) NoSuchActor (queue_refusal c q) called in
      let queue = unless_passes (is_queue (model_heap c.heap) q) BadQueue None mutator.1 in
      let there : is_mutator a.world.heap m ≡ true = same_mutators c a stands m ∙ mutator.0 in
      rw (there, same_queues c a stands q ∙ queue.0)
      (subst (λ test. unless test NoSuchActor (unless_full (hand_of a.world (Mutator m)) None) ≡ Some fault) there
      (filling (Mutator m) fault refused None a stands)))

  pub full_at_polls : (m q max : ℕ) (fault : Fault) → calling_refusal c m q ≡ None
      → filling_some_refusal c.hands (Mutator m) max ≡ Some fault
      → IsRowOf c (steps.Polls m q max) (replies.Refused fault) c
  full_at_polls m q max fault called refused =
      refused_row c (steps.Polls m q max) fault (λ a stands.
      let mutator = unless_passes (is_mutator (model_heap c.heap) m) NoSuchActor (queue_refusal c q) called in
      let queue = unless_passes (is_queue (model_heap c.heap) q) BadQueue None mutator.1 in
      let there : is_mutator a.world.heap m ≡ true = same_mutators c a stands m ∙ mutator.0 in
      rw (there, same_queues c a stands q ∙ queue.0)
      (subst (λ test. unless test NoSuchActor (unless (fits max (length (hand_of a.world (Mutator m)))) BadConfig
      (unless_full (hand_of a.world (Mutator m)) None)) ≡ Some fault) there
      (filling_some (Mutator m) max fault refused None a stands)))

  -- the queue of an accepted call is there
  pub queue_within : (m q : ℕ) → calling_refusal c m q ≡ None → q < length c.queues
  queue_within m q called = grind (arith, queue_count)

  pub empty_at_adopt : (m d : ℕ) (fault : Fault) → drop_refusal (model_heap c.heap) m d ≡ None
      → emptying_refusal c.hands (Mutator m) ≡ Some fault → IsRowOf c (steps.Adopt m d) (replies.Refused fault) c
  empty_at_adopt m d fault slot refused =
      refused_row c (steps.Adopt m d) fault (λ a stands.
      let there = with_slot m d slot a stands in
      rw there.0
      (subst (λ test. unless test NoSuchActor (empty_hand_refusal (hand_of a.world (Mutator m))) ≡ Some fault) there.1
      (emptying (Mutator m) fault refused a stands)))

  pub empty_at_release : (who : Actor) (fault : Fault) → emptying_refusal c.hands who ≡ Some fault
      → IsRowOf c (steps.Release who) (replies.Refused fault) c
  empty_at_release who fault refused = refused_row c (steps.Release who) fault (emptying who fault refused)

  pub empty_at_put : (who : Actor) (fault : Fault) → emptying_refusal c.hands who ≡ Some fault
      → IsRowOf c (steps.Put who) (replies.Refused fault) c
  empty_at_put who fault refused = refused_row c (steps.Put who) fault (emptying who fault refused)

  pub empty_at_puts : (who : Actor) (fault : Fault) → emptying_refusal c.hands who ≡ Some fault
      → IsRowOf c (steps.Puts who) (replies.Refused fault) c
  empty_at_puts who fault refused = refused_row c (steps.Puts who) fault (emptying who fault refused)
