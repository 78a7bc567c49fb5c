-- Rows that spend a hand's first notice: it is a hold that the heap counts, and a root.
use Rattle.ref_base.proofs.Common.{arith, Bool, ◌&&◌, nat_lt, if◌then◌else◌, ◌≡◌, ℕ, ◌-◌, ◌≤◌, true, false, List, []}
use Rattle.ref_base.proofs.Common.{◌∷◌, ◌++◌, length, map, Option}
use Rattle.ref_base.proofs.Common.{Some, None, refl, sym, ap, ◌∙◌, subst, has, true≢false, Heap, World, Notice, State}
use Rattle.ref_base.proofs.Common.{one_fewer, without_hold, with_slot, with_heap, hand_of, hold_of, spending}
use Rattle.ref_base.proofs.Common.{object_of, present, pending_numbers, is_actor, refusal, unless, has_slot}
use Rattle.ref_base.proofs.HasLaws.{has-left, has-right}
use Rattle.ref_base.proofs.CountedWorlds.{counted_hand, holding_hand}
use Rattle.ref_base.proofs.RowForms.{unless_passes}
use Rattle.ref_base.specs.Members.{first_of}
use Rattle.ref_base.specs.Refusals.{empty_hand_refusal, drop_refusal}
use Rattle.ref_base.specs.declared.actor.Actor.{Actor}
use Rattle.ref_base.specs.declared.actor.Actor.TheVariants.{Mutator, Worker}
use Rattle.ref_base.specs.declared.fault.Fault.{Fault}
use Rattle.ref_base.specs.declared.fault.Fault.TheVariants.{NoSuchActor}
use Rattle.ref_base.specs.declared.heap_step.HeapStep.TheVariants as heap
use Rattle.ref_base.specs.declared.reply.Reply.TheVariants as replies
use Rattle.ref_base.specs.declared.step.Step.TheVariants as steps
use Rattle.std.specs.Prelude.{Ok}
use Rattle.ref_judge.specs.Judged.{Judged, has_carrier, hand_at, with_rest_at, first_notice_refusal}
use Rattle.ref_judge.specs.Standing.{StandsFor, DoesAs, IsOfSomeState, IsSettled}
use Rattle.ref_judge.proofs.HandsAlike.{actor_same, hand_same, nothing_same, with_rest_alike}
use Rattle.ref_judge.proofs.LegalFacts.{legal_facts}
use Rattle.ref_judge.proofs.SameObjects.{SameObjects}
use Rattle.ref_judge.proofs.SparedRoots.{root_spared}
use Rattle.ref_objects.specs.Grounds.{spared_only}
use Rattle.ref_judge.proofs.StandingHands.{handing, HandsOn, hands_does}
use Rattle.ref_judge.proofs.StandingHeaps.{with_slot_same}

pub length-one_fewer : (ns : List ℕ) (n : ℕ) → has ns n ≡ true → length (one_fewer ns n) ≡ length ns - 1
length-one_fewer [] n within = absurd (true≢false (sym within))
length-one_fewer (m ∷ ns) n within = grind (arith, some_length, length-one_fewer ns n)
  where
    some_length : (ns : List ℕ) (n : ℕ) → has ns n ≡ true → 1 ≤ length ns
    some_length [] n within = absurd (true≢false (sym within))
    some_length (m ∷ ns) n within = omega arith

-- ---- a hand's first notice

pub record FirstHeld (a : State) (who : Actor) (n : ℕ) : Type 0 where
  pub notice : Notice
  pub rest : List Notice
  pub is : hand_of a.world who ≡ notice ∷ rest
  pub object : notice.object ≡ n
  pub there : is_actor a.world.heap who ≡ true
  pub held : has a.world.heap.holds n ≡ true

first_object : (hand : List ℕ) (notices : List Notice) (n : ℕ) → map object_of notices ≡ hand → first_of hand ≡ Some n
    → (notice : Notice) × (rest : List Notice) × (notices ≡ notice ∷ rest) × (notice.object ≡ n)
first_object hand [] n is first = absurd (none n (ap first_of is ∙ first))
  where
    none : (n : ℕ) → None ≡ Some n → ⊥
    none n same = absurd cc
first_object hand (notice ∷ rest) n is first = (notice, rest, refl, some (ap first_of is ∙ first))
  where
    some : Some notice.object ≡ Some n → notice.object ≡ n
    some same = cc

module _ (j : Judged) (a : State) (stands : StandsFor j a) (who : Actor) where
  -- a judge refuses it as the state does
  pub emptying_same : unless (is_actor a.world.heap who) NoSuchActor (empty_hand_refusal (hand_of a.world who))
      ≡ first_notice_refusal j.hands who
  emptying_same =
      ap (λ test. unless test NoSuchActor (empty_hand_refusal (hand_of a.world who))) (actor_same j a stands who)
      ∙ ap (unless (has_carrier j.hands who) NoSuchActor)
      (nothing_same (hand_at j.hands who) (hand_of a.world who) (hand_same j a stands who))

  -- what the hand's first notice reports is held
  pub first_held : (n : ℕ) → first_notice_refusal j.hands who ≡ None → first_of (hand_at j.hands who).objects ≡ Some n
      → FirstHeld a who n
  first_held n none first =
      let found = first_object (hand_at j.hands who).objects (hand_of a.world who) n (hand_same j a stands who).0 first
      in
      record {
        notice = found.0;
        rest = found.1;
        is = found.2;
        object = found.3;
        there = actor_same j a stands who ∙ (unless_passes (has_carrier j.hands who) NoSuchActor _ none).0;
        held =
            subst (λ m. has a.world.heap.holds m ≡ true) found.3
            (counted_hand a.world who found.0 found.1 (holding_hand a.world who found.0 found.1 found.2) found.2
            (legal_facts j.profile j.config a stands.lawful).notices.counted);
      }

-- so there is a hold
pub one_held : (j : Judged) (who : Actor) (n : ℕ) → IsOfSomeState j → first_notice_refusal j.hands who ≡ None
    → first_of (hand_at j.hands who).objects ≡ Some n → 1 ≤ j.holds
one_held j who n sound none first =
    let held = (first_held j sound.state sound.stands who n none first).held in
    subst (λ count. 1 ≤ count) (sym sound.stands.holds) (some sound.state.world.heap.holds n held)
  where
    some : (ns : List ℕ) (n : ℕ) → has ns n ≡ true → 1 ≤ length ns
    some [] n within = absurd (true≢false (sym within))
    some (m ∷ ns) n within = omega arith

-- ---- a release

pub same_held : (h : Heap) (ns : List ℕ) → SameObjects h (record h { holds = ns })
same_held h ns = record { there = λ n. refl; references = λ n. refl; registered = λ n. refl }

heap_hand : (w : World) (h : Heap) (who : Actor) → hand_of (with_heap w h) who ≡ hand_of w who
heap_hand w h (Mutator m) = refl
heap_hand w h (Worker k) = refl

pub released : (old : Judged) (who : Actor) (n : ℕ) → first_notice_refusal old.hands who ≡ None
    → first_of (hand_at old.hands who).objects ≡ Some n
    → DoesAs old (steps.Release who) (Ok replies.Done)
    (handing old old.ground.heap (old.holds - 1) (with_rest_at old.hands who) old.workers)
released old who n none first =
    hands_does old old.ground.heap (old.holds - 1) (with_rest_at old.hands who) old.workers (λ k. refl)
    (steps.Release who) replies.Done tt (λ a. refl) on
  where
    on : (a : State) → StandsFor old a
        → HandsOn old.ground.heap (old.holds - 1) (with_rest_at old.hands who) old.workers old.profile
        (steps.Release who) replies.Done a
    on a stands =
        let first_is = first_held old a stands who n none first in
        let h : Heap = without_hold a.world.heap first_is.notice.object in
        record {
          after = with_heap a.world h;
          asked = heap.Release (hold_of a.world first_is.notice);
          none = emptying_same old a stands who ∙ none;
          asks = ap (spending a.world (λ hold. heap.Release hold)) first_is.is;
          accepts = (refl, refl);
          passes = record {
            heap = stands.heap;
            same = same_held a.world.heap h.holds;
            count_is =
                ap (λ count. count - 1) stands.holds
                ∙ sym (length-one_fewer a.world.heap.holds n first_is.held)
                ∙ ap (λ m. length (one_fewer a.world.heap.holds m)) (sym first_is.object);
            pending = stands.finders.pending;
            queues = refl;
            phase = refl;
            cycle = refl;
            policy = refl;
          };
          alike =
              with_rest_alike old.hands (with_heap a.world h) who
              (record { mutators = stands.mutator_hands; workers = stands.worker_hands });
        }

-- ---- an adopt

passes_first : (x y : Bool) (fault : Fault) (later : Option Fault) → unless (x && y) fault None ≡ None
    → unless (x && y) fault later ≡ unless x fault later
passes_first true true fault later none = refl
passes_first true false fault later none = absurd cc
passes_first false y fault later none = absurd cc

fails_first : (x : Bool) (fault first : Fault) (later : Option Fault) → unless x fault None ≡ Some first
    → unless x fault later ≡ Some first
fails_first true fault first later fails = absurd cc
fails_first false fault first later fails = fails

module _ (j : Judged) (a : State) (stands : StandsFor j a) (m d : ℕ) where
  has_slot_same : has_slot j.ground.heap m d ≡ has_slot a.world.heap m d
  has_slot_same = ap (λ (h : Heap). has_slot h m d) stands.heap

  -- where there is no such slot
  pub slot_fails : (later : Option Fault) (fault : Fault) → drop_refusal j.ground.heap m d ≡ Some fault
      → unless (has_slot a.world.heap m d) NoSuchActor later ≡ Some fault
  slot_fails later fault fails =
      fails_first (has_slot a.world.heap m d) NoSuchActor fault later
      (ap (λ test. unless test NoSuchActor None) (sym has_slot_same) ∙ fails)

  -- and where there is
  pub slot_passes : (later : Option Fault) → drop_refusal j.ground.heap m d ≡ None
      → unless (has_slot a.world.heap m d) NoSuchActor later
      ≡ unless (is_actor a.world.heap (Mutator m)) NoSuchActor later
  slot_passes later passes =
      passes_first (is_actor a.world.heap (Mutator m)) (nat_lt d 16) NoSuchActor later
      (ap (λ test. unless test NoSuchActor None) (sym has_slot_same) ∙ passes)

  pub adopt_refusal : drop_refusal j.ground.heap m d ≡ None
      → refusal a (steps.Adopt m d) ≡ first_notice_refusal j.hands (Mutator m)
  adopt_refusal passes =
      slot_passes (empty_hand_refusal (hand_of a.world (Mutator m))) passes ∙ emptying_same j a stands (Mutator m)

-- the slot holds what the notice reports, which is spared
pub adopted : (old : Judged) (m d n : ℕ) → IsSettled old → drop_refusal old.ground.heap m d ≡ None
    → first_notice_refusal old.hands (Mutator m) ≡ None → first_of (hand_at old.hands (Mutator m)).objects ≡ Some n
    → DoesAs old (steps.Adopt m d) (Ok (replies.Object n))
    (handing old (with_slot old.ground.heap m d (spared_only old.ground (Some n))) (old.holds - 1)
    (with_rest_at old.hands (Mutator m)) old.workers)
adopted old m d n settled slot none first =
    hands_does old (with_slot old.ground.heap m d (spared_only old.ground (Some n))) (old.holds - 1)
    (with_rest_at old.hands (Mutator m)) old.workers (λ k. refl) (steps.Adopt m d) (replies.Object n) tt (λ a. refl) on
  where
    on : (a : State) → StandsFor old a
        → HandsOn (with_slot old.ground.heap m d (spared_only old.ground (Some n))) (old.holds - 1)
        (with_rest_at old.hands (Mutator m)) old.workers old.profile (steps.Adopt m d) (replies.Object n) a
    on a stands =
        let who : Actor = Mutator m in
        let first_is = first_held old a stands who n none first in
        let root = has-left (present a.world.heap.slots ++ a.world.heap.holds) (pending_numbers a.world.pending) n
        (has-right (present a.world.heap.slots) a.world.heap.holds n first_is.held) in
        let spared : spared_only old.ground (Some n) ≡ Some n =
        ap (λ test. if test then Some n else None) (root_spared old a stands settled n root) in
        let h : Heap = with_slot (without_hold a.world.heap n) m d (Some n) in
        record {
          after = with_heap a.world h;
          asked = heap.Adopt m d (record (hold_of a.world first_is.notice) { object = n });
          none = adopt_refusal old a stands m d slot ∙ none;
          asks =
              ap (spending a.world (λ hold. heap.Adopt m d hold)) first_is.is
              ∙ ap (λ k. Some (heap.Adopt m d (record (hold_of a.world first_is.notice) { object = k })))
              first_is.object;
          accepts = (refl, refl);
          passes = record {
            heap =
                ap (with_slot old.ground.heap m d) spared ∙ with_slot_same old a stands m d (Some n);
            same = record { there = λ k. refl; references = λ k. refl; registered = λ k. refl };
            count_is =
                ap (λ count. count - 1) stands.holds
                ∙ sym (length-one_fewer a.world.heap.holds n first_is.held);
            pending = stands.finders.pending;
            queues = refl;
            phase = refl;
            cycle = refl;
            policy = refl;
          };
          alike =
              with_rest_alike old.hands (with_heap a.world h) who
              (record { mutators = stands.mutator_hands; workers = stands.worker_hands });
        }
