-- The hands of a judge are those of a state that it stands for, but for why there are their notices.
use Rattle.ref_base.proofs.Common.{arith, ◌≡◌, ℕ, zero, suc, List, [], ◌∷◌, length, refl, sym, ap, ◌∙◌, Notice}
use Rattle.ref_base.proofs.Common.{slice_index_or, slice_set, World, State, hand_of, with_hand}
use Rattle.ref_base.proofs.Common.{is_actor, Option, object_of, map, rest_of, nat_lt, and_parts, with_rest, ◌==◌}
use Rattle.std.specs.List.{list_all}
use Rattle.ref_base.specs.Refusals.{unless_full, empty_hand_refusal}
use Rattle.ref_base.specs.declared.actor.Actor.{Actor}
use Rattle.ref_base.specs.declared.actor.Actor.TheVariants.{Mutator, Worker}
use Rattle.ref_base.specs.declared.fault.Fault.{Fault}
use Rattle.ref_judge.specs.Judged.{Judged, AllHands, no_hand, has_carrier, hand_at, with_hand_at, IsHand, AreHands}
use Rattle.ref_judge.specs.Judged.{with_rest_at, unless_carried, unless_nothing}
use Rattle.ref_judge.specs.Standing.{StandsFor, IsOfSomeState}
use Rattle.ref_judge.specs.declared.hand.Hand.{Hand}
use Rattle.ref_judge.proofs.LegalFacts.{legal_facts, HasSizes}

-- ---- lists of hands

pub hands_length : (hands : List Hand) (held : List (List Notice)) → AreHands hands held → length hands ≡ length held
hands_length [] [] are = refl
hands_length [] (notices ∷ held) are = absurd are
hands_length (hand ∷ hands) [] are = absurd are
hands_length (hand ∷ hands) (notices ∷ held) are = grind (arith, hands_length hands held are.1)

hand_alike_at : (hands : List Hand) (held : List (List Notice)) (i : ℕ) → AreHands hands held
    → IsHand (slice_index_or hands i no_hand) (slice_index_or held i [])
hand_alike_at [] [] i are = (refl, refl)
hand_alike_at [] (notices ∷ held) i are = absurd are
hand_alike_at (hand ∷ hands) [] i are = absurd are
hand_alike_at (hand ∷ hands) (notices ∷ held) zero are = are.0
hand_alike_at (hand ∷ hands) (notices ∷ held) (suc i) are = hand_alike_at hands held i are.1

set_alike : (hands : List Hand) (held : List (List Notice)) (i : ℕ) (hand : Hand) (notices : List Notice)
    → AreHands hands held → IsHand hand notices → AreHands (slice_set hands i hand) (slice_set held i notices)
set_alike [] [] i hand notices are is = tt
set_alike [] (other ∷ held) i hand notices are is = absurd are
set_alike (h ∷ hands) [] i hand notices are is = absurd are
set_alike (h ∷ hands) (other ∷ held) zero hand notices are is = (is, are.1)
set_alike (h ∷ hands) (other ∷ held) (suc i) hand notices are is =
    (are.0, set_alike hands held i hand notices are.1 is)

-- ---- everybody's

-- the hands are those of the world
pub record AreAlike (hands : AllHands) (w : World) : Type 0 where
  pub mutators : AreHands hands.mutators w.mutator_hands
  pub workers : AreHands hands.workers w.worker_hands

pub hand_is : (hands : AllHands) (w : World) (who : Actor) → AreAlike hands w
    → IsHand (hand_at hands who) (hand_of w who)
hand_is hands w (Mutator m) are = hand_alike_at hands.mutators w.mutator_hands m are.mutators
hand_is hands w (Worker k) are = hand_alike_at hands.workers w.worker_hands k are.workers

pub with_hand_alike : (hands : AllHands) (w : World) (who : Actor) (hand : Hand) (notices : List Notice)
    → AreAlike hands w → IsHand hand notices → AreAlike (with_hand_at hands who hand) (with_hand w who notices)
with_hand_alike hands w (Mutator m) hand notices are is = record {
  mutators = set_alike hands.mutators w.mutator_hands m hand notices are.mutators is;
  workers = are.workers;
}
with_hand_alike hands w (Worker k) hand notices are is = record {
  mutators = are.mutators;
  workers = set_alike hands.workers w.worker_hands k hand notices are.workers is;
}

-- without its first notice
rest_alike : (hand : Hand) (notices : List Notice) → IsHand hand notices
    → IsHand (record hand { objects = rest_of hand.objects }) (rest_of notices)
rest_alike hand [] is = (ap rest_of is.0, refl)
rest_alike hand (notice ∷ rest) is = (
  ap rest_of is.0,
  (and_parts (notice.queue == hand.queue) (list_all (λ (x : Notice). x.queue == hand.queue) rest)
      is.1).1,
)

pub with_rest_alike : (hands : AllHands) (w : World) (who : Actor) → AreAlike hands w
    → AreAlike (with_rest_at hands who) (with_rest w who)
with_rest_alike hands w who are =
    with_hand_alike hands w who (record (hand_at hands who) { objects = rest_of (hand_at hands who).objects })
    (rest_of (hand_of w who)) are (rest_alike (hand_at hands who) (hand_of w who) (hand_is hands w who are))

-- ---- refusals

pub carried_same : (hand : Hand) (notices : List Notice) (later : Option Fault) → IsHand hand notices
    → unless_full notices later ≡ unless_carried hand.objects later
carried_same hand [] later is = ap (λ ns. unless_carried ns later) is.0
carried_same hand (notice ∷ rest) later is = ap (λ ns. unless_carried ns later) is.0

pub nothing_same : (hand : Hand) (notices : List Notice) → IsHand hand notices
    → empty_hand_refusal notices ≡ unless_nothing hand.objects
nothing_same hand [] is = ap unless_nothing is.0
nothing_same hand (notice ∷ rest) is = ap unless_nothing is.0

count_objects : (notices : List Notice) → length (map object_of notices) ≡ length notices
count_objects [] = refl
count_objects (notice ∷ rest) = grind (arith, count_objects rest)

pub count_same : (hand : Hand) (notices : List Notice) → IsHand hand notices
    → length notices ≡ length hand.objects
count_same hand notices is = sym (count_objects notices) ∙ ap length is.0

-- ---- of a judge

module _ (j : Judged) (a : State) (stands : StandsFor j a) where
  pub are_alike : AreAlike j.hands a.world
  are_alike = record { mutators = stands.mutator_hands; workers = stands.worker_hands }

  pub sizes : HasSizes j.config a
  sizes = (legal_facts j.profile j.config a stands.lawful).sizes

  -- the same actors are there
  pub mutators_same : length j.hands.mutators ≡ a.world.heap.config.mutators
  mutators_same =
      hands_length j.hands.mutators a.world.mutator_hands stands.mutator_hands ∙ sizes.mutators
      ∙ sym (ap (λ c. c.mutators) sizes.config_is)

  pub workers_same : length j.hands.workers ≡ a.world.heap.config.workers
  workers_same =
      hands_length j.hands.workers a.world.worker_hands stands.worker_hands ∙ sizes.workers
      ∙ sym (ap (λ c. c.workers) sizes.config_is)

  pub actor_same : (who : Actor) → is_actor a.world.heap who ≡ has_carrier j.hands who
  actor_same (Mutator m) = ap (nat_lt m) (sym mutators_same)
  actor_same (Worker k) = ap (nat_lt k) (sym workers_same)

  -- and have the same hands
  pub hand_same : (who : Actor) → IsHand (hand_at j.hands who) (hand_of a.world who)
  hand_same who = hand_is j.hands a.world who are_alike

-- a judge has as many hands of mutators as its configuration says
pub sound_mutators : (j : Judged) → IsOfSomeState j → length j.hands.mutators ≡ j.config.mutators
sound_mutators j sound =
    mutators_same j sound.state sound.stands ∙ ap (λ c. c.mutators) (sizes j sound.state sound.stands).config_is
