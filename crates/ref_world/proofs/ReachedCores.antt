-- What holds of every world to which a run from a new one leads.
use Rattle.ref_world.proofs.Common.{◌≡◌, ◌<◌, true, List, [], ◌∷◌, ◌++◌, length, ap, sym, subst, ◌∙◌, slice_index_or}
use Rattle.ref_world.proofs.Common.{has, Lists, Notice, hand_of, is_actor, State, Config, IsRow, Actor, Mutator, Worker}
use Rattle.ref_world.proofs.Common.{Reply, Step, Core, has_hand, hand_in, Stands, IsRowOf, IsReached, model_heap}
use Rattle.ref_base.specs.Heaps.{Heap}
use Rattle.ref_base.specs.CountedHolds.{AreCounted}
use Rattle.ref_base.proofs.CountedTraces.{row_counted}
use Rattle.ref_base.proofs.CountedWorlds.{counted_hand, first_counted}
use Rattle.ref_base.proofs.LegalQueues.{run_sound}
use Rattle.ref_base.proofs.RowLaws.{actor_has}
use Rattle.ref_base.proofs.RunLaws.{holds_after, run_more}
use Rattle.ref_base.proofs.SoundWorlds.{IsSound, NoticesBelow, first_sound}
use Rattle.ref_world.proofs.OneQueueHands.{OfOne, HandsOfOne, of_one_queue, row_of_one, none_of_one}
use Rattle.ref_mark.specs.MarkRows.{starting_state}
use Rattle.ref_objects.specs.declared.start.Start.{Start}

-- the heap as the state has it has the core's configuration and holds
pub same_config : (c : Core) (a : State) → Stands c a → a.world.heap.config ≡ (model_heap c.heap).config
same_config c a stands = ap (λ (h : Heap). h.config) stands.heap.mark.heap

pub same_holds : (c : Core) (a : State) → Stands c a → a.world.heap.holds ≡ (model_heap c.heap).holds
same_holds c a stands = ap (λ (h : Heap). h.holds) stands.heap.mark.heap

pub same_hand : (c : Core) (a : State) → Stands c a → (who : Actor) → hand_of a.world who ≡ hand_in c.hands who
same_hand c a stands (Mutator m) = ap (λ (hs : List (List Notice)). slice_index_or hs m []) stands.mutator_hands
same_hand c a stands (Worker k) = ap (λ (hs : List (List Notice)). slice_index_or hs k []) stands.worker_hands

-- ---- the state of a new world, whose numbers begin as they are told

abbrev state_at : Config → Start → State
state_at config start = starting_state config 0 start.obj start.cycle

start_hands : (config : Config) (start : Start) (who : Actor)
    → NoticesBelow config.queues (hand_of (state_at config start).world who)
start_hands config start (Mutator m) = (first_sound config).hands_below (Mutator m)
start_hands config start (Worker k) = (first_sound config).hands_below (Worker k)

-- it is sound, whatever its cycle
start_sound : (config : Config) (start : Start) → IsSound (state_at config start).world
start_sound config start =
    let sound = first_sound config in
    record {
      mutator_hands = sound.mutator_hands;
      worker_hands = sound.worker_hands;
      queues = sound.queues;
      objects_below = sound.objects_below;
      hands_below = start_hands config start;
      pending_below = sound.pending_below;
      own = sound.own;
    }

-- ---- rows

-- one more row leads further
pub reached_after : (old new : Core) (step : Step) (reply : Reply) → IsReached old → IsRowOf old step reply new
    → IsReached new
reached_after old new step reply reached row =
    let next = row reached.state reached.stands in
    record {
      config = reached.config;
      start = reached.start;
      rows = reached.rows ++ record { step = step; reply = reply } ∷ [];
      state = next.0;
      run = run_more (state_at reached.config reached.start) reached.rows reached.state next.0 _ reached.run next.1;
      stands = next.2;
    }

module _ (c : Core) (reached : IsReached c) where
  abbrev first : State
  first = state_at reached.config reached.start

  first_is : IsSound first.world
  first_is = start_sound reached.config reached.start

  sound : IsSound reached.state.world
  sound = run_sound first reached.rows reached.state first_is reached.run

  counted : AreCounted reached.state.world
  counted =
      holds_after IsRow first (λ past a. AreCounted a.world)
      (λ past a row b before is h. row_counted a row b (run_sound first past a first_is before) is h)
      (first_counted reached.config) reached.rows reached.state reached.run

  config : reached.state.world.heap.config ≡ (model_heap c.heap).config
  config = same_config c reached.state reached.stands

  -- there is a hand for each actor, and no other
  pub same_actors : (who : Actor) → has_hand c.hands who ≡ is_actor (model_heap c.heap) who
  same_actors (Mutator m) = search (sound, config)
  same_actors (Worker k) = search (sound, config)

  -- and each queue of the configuration
  pub queue_count : length c.queues ≡ (model_heap c.heap).config.queues
  queue_count = search (sound, config)

  -- the first notice in a hand is a hold that the heap counts, and is for a queue that is there
  pub hand_is_counted : (who : Actor) (notice : Notice) (rest : List Notice) → has_hand c.hands who ≡ true
      → hand_in c.hands who ≡ notice ∷ rest → has (model_heap c.heap).holds notice.object ≡ true
  hand_is_counted who notice rest there full =
      subst (λ ns. has ns notice.object ≡ true) (same_holds c reached.state reached.stands)
      (counted_hand reached.state.world who notice rest
      (actor_has reached.state.world who sound (rw config (sym (same_actors who) ∙ there)))
      (same_hand c reached.state reached.stands who ∙ full) counted)

  pub hand_has_queue : (who : Actor) (notice : Notice) (rest : List Notice) → hand_in c.hands who ≡ notice ∷ rest
      → notice.queue < length c.queues
  hand_has_queue who notice rest full =
      let below =
      subst (NoticesBelow reached.state.world.heap.config.queues) (same_hand c reached.state reached.stands who ∙ full)
      (sound.hands_below who) in
      subst (λ (qs : List (Lists Notice)). notice.queue < length qs) reached.stands.queues (rw sound.queues below.0)

  -- and all that a hand holds is for one queue
  of_one : HandsOfOne reached.state.world
  of_one =
      holds_after IsRow first (λ past a. HandsOfOne a.world)
      (λ past a row b before is h. row_of_one a row b (run_sound first past a first_is before) is h)
      (none_of_one reached.config) reached.rows reached.state reached.run

  pub hand_of_one : (who : Actor) → OfOne (hand_in c.hands who)
  hand_of_one who =
      subst OfOne (same_hand c reached.state reached.stands who) (of_one_queue reached.state.world who of_one)
