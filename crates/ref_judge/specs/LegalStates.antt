-- What holds in each state that a collector of any profile comes to (this project's).
use Rattle.std.specs.Prelude.{◌≡◌, ℕ, ◌<◌, ◌≤◌, true, false, ◌==◌, List, [], ◌∷◌, length, Some}
use Rattle.std.specs.List.{list_all, AllByRecursion}
use Rattle.ref_base.specs.Members.{has, AreDistinct}
use Rattle.ref_base.specs.Graphs.{is_there}
use Rattle.ref_base.specs.Paths.{targets_at, any_referent}
use Rattle.ref_base.specs.Heaps.{reference_at, registered_in}
use Rattle.ref_base.specs.CountedHolds.{AreCounted}
use Rattle.ref_base.specs.QueueLists.{enqueued}
use Rattle.ref_base.specs.Worlds.{World, Notice, Pending, graph_of, object_of, hand_of, queue_at, pending_of}
use Rattle.ref_base.specs.Refusals.{is_in}
use Rattle.ref_base.specs.Collectors.{State, joined}
use Rattle.ref_base.specs.declared.actor.Actor.{Actor}
use Rattle.ref_base.specs.declared.config.Config.{Config}
use Rattle.ref_base.specs.declared.phase.Phase.TheVariants.{Marking}
use Rattle.ref_judge.specs.Judged.{is_behind_mark}

-- the notices of a hand are all for one queue
abbrev pub AreOfOneQueue : List Notice → Type 0
AreOfOneQueue [] = Unit {0}
AreOfOneQueue (notice ∷ rest) = list_all (λ (x : Notice). x.queue == notice.queue) rest ≡ true

-- the reference that it reports is registered with the queue that it is for
abbrev pub IsRegistered : World → Notice → Type 0
IsRegistered w notice = registered_in (reference_at w.heap notice.object) ≡ Some notice.queue

abbrev pub IsRegisteredPending : World → Pending → Type 0
IsRegisteredPending w p = registered_in (reference_at w.heap p.object) ≡ Some p.queue

-- the sizes of a state are those of its configuration
pub record HasSizes (config : Config) (a : State) : Type 0 where
  pub config_is : a.world.heap.config ≡ config
  pub number : a.world.heap.no ≡ 0
  pub mutators : length a.world.mutator_hands ≡ config.mutators
  pub workers : length a.world.worker_hands ≡ config.workers
  pub queues : length a.world.queues ≡ config.queues
  pub pending : length a.world.pending ≡ config.workers
  pub scanned : length a.scanned ≡ config.workers

-- what roots and objects that aren't doomed name is there, and isn't doomed
pub record NamesLive (a : State) : Type 0 where
  pub roots :
      (n : ℕ) → has (graph_of a.world).roots n ≡ true
      → (is_there a.world.heap.objects n ≡ true) × (has a.doomed n ≡ false)
  pub targets :
      (m n : ℕ) → is_there a.world.heap.objects m ≡ true → has a.doomed m ≡ false
      → has (targets_at any_referent a.world.heap.objects m) n ≡ true
      → (is_there a.world.heap.objects n ≡ true) × (has a.doomed n ≡ false)
  pub doomed_there : (n : ℕ) → has a.doomed n ≡ true → is_there a.world.heap.objects n ≡ true
  pub none_doomed : is_behind_mark a.world.phase ≡ false → a.doomed ≡ []

-- numbers that were given are below the next
pub record NumbersRise (a : State) : Type 0 where
  pub below : (n : ℕ) → is_there a.world.heap.objects n ≡ true → n < a.next
  pub put_below : (q n : ℕ) → has (enqueued object_of (queue_at a.world q)) n ≡ true → n < a.next
  pub born : a.born ≤ a.next

-- what a cycle scanned, each once, was made before it, and is there till its sweep
pub record ScannedRight (a : State) : Type 0 where
  pub once : AreDistinct (joined a.scanned)
  pub old : (n : ℕ) → has (joined a.scanned) n ≡ true → n < a.born
  pub there :
      is_in a.world.phase Marking ≡ true → (n : ℕ) → has (joined a.scanned) n ≡ true
      → is_there a.world.heap.objects n ≡ true

-- what hands, queues and pending lists have
pub record NoticesRight (a : State) : Type 0 where
  pub one_queue : (who : Actor) → AreOfOneQueue (hand_of a.world who)
  pub few : (who : Actor) → length (hand_of a.world who) ≤ 32
  pub held : (who : Actor) → AllByRecursion (IsRegistered a.world) (hand_of a.world who)
  pub standing : (q : ℕ) → AllByRecursion (IsRegistered a.world) (queue_at a.world q).stands
  pub own : (q : ℕ) → list_all (λ (x : Notice). x.queue == q) (queue_at a.world q).stands ≡ true
  pub number : (q : ℕ) → (queue_at a.world q).queue ≡ q
  pub waiting : (k : ℕ) → AllByRecursion (IsRegisteredPending a.world) (pending_of a.world k)
  pub once : (q : ℕ) → AreDistinct (enqueued object_of (queue_at a.world q))
  pub counted : AreCounted a.world
  pub below :
      (who : Actor) → AllByRecursion (λ (x : Notice). x.queue < a.world.heap.config.queues) (hand_of a.world who)

pub record Facts (config : Config) (a : State) : Type 0 where
  pub sizes : HasSizes config a
  pub names : NamesLive a
  pub numbers : NumbersRise a
  pub scanned : ScannedRight a
  pub notices : NoticesRight a
