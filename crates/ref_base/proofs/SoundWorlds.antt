-- That every queue which a world names is one of its configuration's, and what keeps this so.
use Rattle.ref_base.proofs.Common.{◌≡◌, ℕ, ◌<◌, List, [], ◌∷◌, length, Option, Some, None, inl, inr, sym, ap, ◌∙◌}
use Rattle.ref_base.proofs.Common.{subst, arith, slice_index_or, AllByRecursion, cases_Bool, length-set}
use Rattle.ref_base.proofs.Common.{length-replicate, has, Object, Reference, object_at, is_soft, registered_in}
use Rattle.ref_base.proofs.Common.{reference_in, changed_reference, cleared, got_at, reference_at, Lists, new_queue}
use Rattle.ref_base.proofs.Common.{World, Notice, Pending, first_world, hand_of, queue_at, pending_of, with_hand}
use Rattle.ref_base.proofs.Common.{with_queue, SameOthers, reference_of, Config, Actor, Mutator, Worker}
use Rattle.ref_base.proofs.CarryLaws.{AnyCycle, Carries, Lasts}
use Rattle.ref_base.proofs.Places.{same_at, set_at, each_or}
use Rattle.ref_base.proofs.QueueChanges.{length-new_queues, new_queues_at}

-- ---- what is asked of each part, where there are so many queues

abbrev pub QueueBelow : ℕ → Option ℕ → Type 0
QueueBelow count None = Unit {0}
QueueBelow count (Some q) = q < count

abbrev pub ObjectBelow : ℕ → Object → Type 0
ObjectBelow count o = QueueBelow count (registered_in o.reference)

abbrev pub IsBelow : ℕ → Notice → Type 0
IsBelow count notice = notice.queue < count

abbrev pub NoticesBelow : ℕ → List Notice → Type 0
NoticesBelow count = AllByRecursion (IsBelow count)

abbrev pub PendingBelow : ℕ → Pending → Type 0
PendingBelow count p = p.queue < count

abbrev pub IsOwn : ℕ → Notice → Type 0
IsOwn q notice = notice.queue ≡ q

-- the hand is there
abbrev pub HasHand : World → Actor → Type 0
HasHand w (Mutator m) = m < length w.mutator_hands
HasHand w (Worker k) = k < length w.worker_hands

-- There are as many hands and queues as the configuration says; no object, hand or pending reference names another
-- queue; and what stands in a queue is for it.
pub record IsSound (w : World) : Type 0 where
  pub mutator_hands : length w.mutator_hands ≡ w.heap.config.mutators
  pub worker_hands : length w.worker_hands ≡ w.heap.config.workers
  pub queues : length w.queues ≡ w.heap.config.queues
  pub objects_below : AllByRecursion (ObjectBelow w.heap.config.queues) w.heap.objects
  pub hands_below : (who : Actor) → NoticesBelow w.heap.config.queues (hand_of w who)
  pub pending_below : (k : ℕ) → AllByRecursion (PendingBelow w.heap.config.queues) (pending_of w k)
  pub own : (q : ℕ) → AllByRecursion (IsOwn q) (queue_at w q).stands

-- ---- objects

cleared_below : (count : ℕ) (r : Option Reference) → QueueBelow count (registered_in r)
    → QueueBelow count (registered_in (changed_reference cleared r))
cleared_below count None below = below
cleared_below count (Some r) below = below

got_below : (count clock : ℕ) (r : Option Reference) → QueueBelow count (registered_in r)
    → QueueBelow count (registered_in (changed_reference (got_at clock) r))
got_below count clock None below = below
got_below count clock (Some r) below =
    elim (cases_Bool (is_soft r.strength)) [ inl soft ↦ simp soft below | inr other ↦ simp other below ]

object_below : (count : ℕ) (os : List Object) (n : ℕ) → AllByRecursion (ObjectBelow count) os
    → QueueBelow count (registered_in (reference_in (object_at os n)))
object_below count [] n all = tt
object_below count (o ∷ os) n all = grind (arith, object_below count os n all.1)

-- the queue of the reference of this number, or in this slot, is below the count
pub registered_below : (w : World) (n : ℕ) → IsSound w
    → QueueBelow w.heap.config.queues (registered_in (reference_at w.heap n))
registered_below w n sound = object_below w.heap.config.queues w.heap.objects n sound.objects_below

pub held_below : (w : World) (held : Option ℕ) → IsSound w
    → QueueBelow w.heap.config.queues (registered_in (reference_of w.heap held))
held_below w None sound = tt
held_below w (Some n) sound = registered_below w n sound

-- ---- what is carried

-- objects, notices and pending references name queues below the count
abbrev pub NamesBelow : ℕ → World → Type 0
NamesBelow count = Carries (ObjectBelow count) (IsBelow count) AnyCycle

pub below_lasts : (count : ℕ) → Lasts (ObjectBelow count)
below_lasts count = search (cleared_below, got_below)

all_own : (count q : ℕ) (ns : List Notice) → q < count → AllByRecursion (IsOwn q) ns → AllByRecursion (IsBelow count) ns
all_own count q [] within all = tt
all_own count q (notice ∷ ns) within all = grind (arith, all_own count q ns within all.1)

-- a sound world names no queue that isn't there
pub names_below : (w : World) → IsSound w → NamesBelow w.heap.config.queues w
names_below w sound =
    let count : ℕ = w.heap.config.queues in
    record {
      objects = sound.objects_below;
      pendings = sound.pending_below;
      of_mutators = λ m. sound.hands_below (Mutator m);
      of_workers = λ k. sound.hands_below (Worker k);
      stands = λ q.
          each_or (λ k (l : Lists Notice). AllByRecursion (IsOwn k) l.stands)
          (λ k (l : Lists Notice). AllByRecursion (IsBelow count) l.stands) w.queues new_queue
          (λ k within l own. all_own count k l.stands (omega (arith, within, sound.queues)) own) (λ k own. tt) q
          (sound.own q);
      goes_on = tt;
    }

hand_below : (count : ℕ) (w : World) → NamesBelow count w → (who : Actor) → NoticesBelow count (hand_of w who)
hand_below count w below (Mutator m) = below.of_mutators m
hand_below count w below (Worker k) = below.of_workers k

-- one that has its hands, queues and configuration, and names none either, is sound too
pub sound_again : (v w : World) → SameOthers v w → w.heap.config ≡ v.heap.config → IsSound v
    → NamesBelow v.heap.config.queues w → IsSound w
sound_again v w others config sound below =
    let here : NamesBelow w.heap.config.queues w =
    subst (λ (c : Config). NamesBelow c.queues w) (sym config) below in
    record {
      mutator_hands = ap (λ (hs : List (List Notice)). length hs) others.mutators ∙ sound.mutator_hands
          ∙ ap (λ (c : Config). c.mutators) (sym config);
      worker_hands = ap (λ (hs : List (List Notice)). length hs) others.workers ∙ sound.worker_hands
          ∙ ap (λ (c : Config). c.workers) (sym config);
      queues = ap (λ (qs : List (Lists Notice)). length qs) others.queues ∙ sound.queues
          ∙ ap (λ (c : Config). c.queues) (sym config);
      objects_below = here.objects;
      hands_below = hand_below w.heap.config.queues w here;
      pending_below = here.pendings;
      own = λ q.
          subst (λ (qs : List (Lists Notice)). AllByRecursion (IsOwn q) (slice_index_or qs q (new_queue q)).stands)
          (sym others.queues) (sound.own q);
    }

-- ---- changes of hands and queues

mutator_hand_below : (w : World) (m : ℕ) (hand : List Notice) → IsSound w → m < length w.mutator_hands
    → NoticesBelow w.heap.config.queues hand → (who : Actor)
    → NoticesBelow w.heap.config.queues (hand_of (with_hand w (Mutator m) hand) who)
mutator_hand_below w m hand sound has below (Mutator k) =
    set_at (λ _ h. NoticesBelow w.heap.config.queues h) w.mutator_hands m hand (λ _. []) has below
    (λ j _. sound.hands_below (Mutator j)) k
mutator_hand_below w m hand sound has below (Worker k) = sound.hands_below (Worker k)

worker_hand_below : (w : World) (m : ℕ) (hand : List Notice) → IsSound w → m < length w.worker_hands
    → NoticesBelow w.heap.config.queues hand → (who : Actor)
    → NoticesBelow w.heap.config.queues (hand_of (with_hand w (Worker m) hand) who)
worker_hand_below w m hand sound has below (Mutator k) = sound.hands_below (Mutator k)
worker_hand_below w m hand sound has below (Worker k) =
    set_at (λ _ h. NoticesBelow w.heap.config.queues h) w.worker_hands m hand (λ _. []) has below
    (λ j _. sound.hands_below (Worker j)) k

pub sound_hand : (w : World) (who : Actor) (hand : List Notice) → IsSound w → HasHand w who
    → NoticesBelow w.heap.config.queues hand → IsSound (with_hand w who hand)
sound_hand w (Mutator m) hand sound has below =
    assumption
    (length-set w.mutator_hands m hand ∙ sound.mutator_hands, mutator_hand_below w m hand sound has below, sound)
sound_hand w (Worker m) hand sound has below =
    assumption
    (length-set w.worker_hands m hand ∙ sound.worker_hands, worker_hand_below w m hand sound has below, sound)

pub sound_queue : (w : World) (q : ℕ) (lists : Lists Notice) → IsSound w → q < length w.queues
    → AllByRecursion (IsOwn q) lists.stands → IsSound (with_queue w q lists)
sound_queue w q lists sound within own = record {
  mutator_hands = sound.mutator_hands;
  worker_hands = sound.worker_hands;
  queues = length-set w.queues q lists ∙ sound.queues;
  objects_below = sound.objects_below;
  hands_below = sound.hands_below;
  pending_below = sound.pending_below;
  own = set_at (λ k (l : Lists Notice). AllByRecursion (IsOwn k) l.stands) w.queues q lists new_queue within own
      (λ k _. sound.own k);
}

-- ---- the first world

pub first_hand : (config : Config) (who : Actor) → hand_of (first_world config) who ≡ []
first_hand config (Mutator m) = same_at {X = List Notice} [] config.mutators m
first_hand config (Worker k) = same_at {X = List Notice} [] config.workers k

pub first_queue : (config : Config) (q : ℕ) → queue_at (first_world config) q ≡ new_queue q
first_queue config q = new_queues_at Notice 0 config.queues q q (omega arith)

pub first_pending : (config : Config) (k : ℕ) → pending_of (first_world config) k ≡ []
first_pending config k = same_at {X = List Pending} [] config.workers k

pub first_sound : (config : Config) → IsSound (first_world config)
first_sound config = search (length-replicate, length-new_queues, first_hand, first_pending, first_queue)
