-- Rows that fill an empty hand: what refuses them, and what is held then.
use Rattle.ref_base.proofs.Common.{arith, ◌≡◌, ℕ, ◌+◌, ◌-◌, ◌<◌, ◌==◌, ◌&&◌, Bool, if◌then◌else◌, true, false, List, []}
use Rattle.ref_base.proofs.Common.{◌∷◌, length, Option, Some, None, refl, sym, ap}
use Rattle.ref_base.proofs.Common.{◌∙◌, subst, one_more, Heap, World, Notice, State, hand_of, unless, unless_full}
use Rattle.ref_base.proofs.Common.{is_actor}
use Rattle.ref_base.proofs.Common.{has_slot, slot_at, reference_at, reference_of, registered_in, is_some, cut}
use Rattle.ref_base.proofs.Common.{with_hold, with_heap}
use Rattle.ref_base.proofs.Common.{minting_refusal, unhook_refusal, reference_refusal, holds_refusal, heap_refusal}
use Rattle.ref_base.proofs.Common.{refusal}
use Rattle.ref_base.proofs.Common.{Unhooks, HeapAccepts, changed_in, Object}
use Rattle.ref_base.specs.declared.cause.Cause.TheVariants.{Own}
use Rattle.std.specs.Prelude.{◌^◌}
use Rattle.ref_base.proofs.RowForms.{unless_passes}
use Rattle.ref_base.specs.Graphs.{Reference}
use Rattle.ref_base.specs.Heaps.{with_reference, cleared}
use Rattle.ref_base.specs.Refusals.{clear_refusal, drop_refusal}
use Rattle.ref_base.specs.declared.actor.Actor.{Actor}
use Rattle.ref_base.specs.declared.actor.Actor.TheVariants.{Mutator}
use Rattle.ref_base.specs.declared.fault.Fault.{Fault}
use Rattle.ref_base.specs.declared.fault.Fault.TheVariants.{NoSuchActor, NotAReference, NumbersSpent}
use Rattle.ref_base.specs.declared.heap_step.HeapStep.TheVariants as heap
use Rattle.ref_base.specs.declared.plain_step.PlainStep.TheVariants as plain
use Rattle.ref_base.specs.declared.reply.Reply.{Reply}
use Rattle.ref_base.specs.declared.reply.Reply.TheVariants as replies
use Rattle.ref_base.specs.declared.step.Step.TheVariants as steps
use Rattle.std.specs.Prelude.{Ok}
use Rattle.ref_judge.specs.Judged.{Judged, has_carrier, hand_at, with_hand_at, free_hand_refusal}
use Rattle.ref_judge.specs.Standing.{StandsFor, DoesAs}
use Rattle.ref_judge.proofs.HandsAlike.{actor_same, hand_same, carried_same, with_hand_alike}
use Rattle.ref_judge.proofs.SameObjects.{same_cut, holds_changed}
use Rattle.ref_judge.proofs.SpentNotices.{slot_passes}
use Rattle.ref_judge.proofs.StandingHands.{handing, HandsOn, hands_does}
use Rattle.ref_judge.proofs.StandingHeaps.{refusal_same, slot_same, reference_of_same, cut_same}

pub length-one_more : (ns : List ℕ) (n : ℕ) → length (one_more ns n) ≡ length ns + 1
length-one_more [] n = refl
length-one_more (m ∷ ms) n = grind (arith, length-one_more ms n)

-- ---- an empty hand

full_fails : (there : Bool) (hand : List Notice) (fault : Fault) (later : Option Fault)
    → unless there NoSuchActor (unless_full hand None) ≡ Some fault
    → unless there NoSuchActor (unless_full hand later) ≡ Some fault
full_fails true [] fault later fails = absurd cc
full_fails true (notice ∷ rest) fault later fails = fails
full_fails false hand fault later fails = fails

free_passes : (there : Bool) (hand : List Notice) (later : Option Fault)
    → unless there NoSuchActor (unless_full hand None) ≡ None
    → unless there NoSuchActor (unless_full hand later) ≡ later
free_passes true [] later passes = refl
free_passes true (notice ∷ rest) later passes = absurd cc
free_passes false hand later passes = absurd cc

module _ (j : Judged) (a : State) (stands : StandsFor j a) (who : Actor) (later : Option Fault) where
  filling_same : unless (is_actor a.world.heap who) NoSuchActor (unless_full (hand_of a.world who) None)
      ≡ free_hand_refusal j.hands who
  filling_same =
      ap (λ test. unless test NoSuchActor (unless_full (hand_of a.world who) None)) (actor_same j a stands who)
      ∙ ap (unless (has_carrier j.hands who) NoSuchActor)
      (carried_same (hand_at j.hands who) (hand_of a.world who) None (hand_same j a stands who))

  -- a hand that isn't empty is refused first
  pub filling_fails : (fault : Fault) → free_hand_refusal j.hands who ≡ Some fault
      → unless (is_actor a.world.heap who) NoSuchActor (unless_full (hand_of a.world who) later) ≡ Some fault
  filling_fails fault fails =
      full_fails (is_actor a.world.heap who) (hand_of a.world who) fault later (filling_same ∙ fails)

  -- and for an empty one that refuses which comes later
  pub filling_passes : free_hand_refusal j.hands who ≡ None
      → unless (is_actor a.world.heap who) NoSuchActor (unless_full (hand_of a.world who) later) ≡ later
  filling_passes passes =
      free_passes (is_actor a.world.heap who) (hand_of a.world who) later (filling_same ∙ passes)

-- ---- holds

module _ (j : Judged) (a : State) (stands : StandsFor j a) where
  -- as many holds are out
  pub holds_spent : j.holds ≡ 2 ^ 64 - 1 → holds_refusal a.world.heap ≡ Some NumbersSpent
  holds_spent spent = let same = stands.holds in grind (arith, same, spent)

  pub holds_left : j.holds < 2 ^ 64 - 1 → holds_refusal a.world.heap ≡ None
  holds_left left = let same = stands.holds in grind (arith, same, left)

-- ---- an unhook

minting_fails : (h : Heap) (r : Option Reference) (fault : Fault)
    → unless (is_some r) NotAReference None ≡ Some fault → minting_refusal h r ≡ Some fault
minting_fails h None fault fails = fails
minting_fails h (Some r) fault fails = absurd cc

unhook_fails : (h : Heap) (held : Option ℕ) (fault : Fault) → reference_refusal h held ≡ Some fault
    → unhook_refusal h held ≡ Some fault
unhook_fails h None fault fails = fails
unhook_fails h (Some n) fault fails = minting_fails h (reference_at h n) fault fails

slot_fails_too : (there : Bool) (first later : Option Fault) (fault : Fault)
    → (first ≡ Some fault → later ≡ Some fault) → unless there NoSuchActor first ≡ Some fault
    → unless there NoSuchActor later ≡ Some fault
slot_fails_too true first later fault too fails = too fails
slot_fails_too false first later fault too fails = fails

unhook_as : (h : Heap) (held : Option ℕ) (n : ℕ) (r : Reference) → held ≡ Some n → reference_of h held ≡ Some r
    → unhook_refusal h held ≡ (if is_some r.queue then holds_refusal h else None)
unhook_as h None n r is reference = absurd cc
unhook_as h (Some m) n r is reference = ap (minting_refusal h) reference

module _ (j : Judged) (a : State) (stands : StandsFor j a) (m s : ℕ) (slot : drop_refusal j.ground.heap m s ≡ None)
  where
    -- where the hand isn't empty
    pub unhook_full : (fault : Fault) → free_hand_refusal j.hands (Mutator m) ≡ Some fault
        → refusal a (steps.Unhook m s) ≡ Some fault
    unhook_full fault fails =
        slot_passes j a stands m s _ slot ∙ filling_fails j a stands (Mutator m) _ fault fails

    unhook_free : free_hand_refusal j.hands (Mutator m) ≡ None
        → refusal a (steps.Unhook m s) ≡ heap_refusal a (heap.Unhook m s)
    unhook_free passes = slot_passes j a stands m s _ slot ∙ filling_passes j a stands (Mutator m) _ passes

    -- where the slot has no reference
    pub unhook_none : (fault : Fault) → free_hand_refusal j.hands (Mutator m) ≡ None
        → clear_refusal j.ground.heap m s ≡ Some fault → refusal a (steps.Unhook m s) ≡ Some fault
    unhook_none fault passes fails =
        let h : Heap = a.world.heap in
        unhook_free passes
        ∙ slot_fails_too (has_slot h m s) (reference_refusal h (slot_at h m s)) (unhook_refusal h (slot_at h m s)) fault
        (unhook_fails h (slot_at h m s) fault) (sym (refusal_same j a stands (plain.Clear m s) tt) ∙ fails)

    module _ (n : ℕ) (r : Reference) (at : slot_at j.ground.heap m s ≡ Some n)
        (is : reference_at j.ground.heap n ≡ Some r) where
      pub held_at : slot_at a.world.heap m s ≡ Some n
      held_at = sym (slot_same j a stands m s) ∙ at

      pub reference_held : reference_of a.world.heap (slot_at a.world.heap m s) ≡ Some r
      reference_held =
          sym (reference_of_same j a stands m s) ∙ ap (reference_of j.ground.heap) at ∙ is

      pub unhook_refused : free_hand_refusal j.hands (Mutator m) ≡ None
          → refusal a (steps.Unhook m s) ≡ (if is_some r.queue then holds_refusal a.world.heap else None)
      unhook_refused passes =
          let h : Heap = a.world.heap in
          unhook_free passes
          ∙ ap (λ test. unless test NoSuchActor (unhook_refusal h (slot_at h m s)))
          (unless_passes (has_slot h m s) NoSuchActor None
          (sym (refusal_same j a stands (plain.Drop m s) tt) ∙ slot)).0
          ∙ unhook_as h (slot_at h m s) n r held_at reference_held

      unhooks : (queue : Option ℕ) (reply : Reply) (c : State) → r.queue ≡ queue → Unhooks a m s (Some n) queue reply c
          → HeapAccepts a (heap.Unhook m s) reply c
      unhooks queue reply c registered row =
          let h : Heap = a.world.heap in
          subst (λ (held : Option ℕ). Unhooks a m s held (registered_in (reference_of h (slot_at h m s))) reply c)
          (sym held_at)
          (subst (λ (q : Option ℕ). Unhooks a m s (Some n) q reply c)
          (sym (ap registered_in reference_held ∙ registered)) row)

config_changed : (h : Heap) (held : Option ℕ) (f : Object → Object) → (changed_in h held f).config ≡ h.config
config_changed h None f = refl
config_changed h (Some n) f = refl

pub config_cut : (h : Heap) (m s : ℕ) → (cut h m s).config ≡ h.config
config_cut h m s = config_changed h (slot_at h m s) (with_reference cleared)

-- of a reference without a queue
pub unhooked_plain : (old : Judged) (m s n : ℕ) (r : Reference) → drop_refusal old.ground.heap m s ≡ None
    → slot_at old.ground.heap m s ≡ Some n → reference_at old.ground.heap n ≡ Some r
    → free_hand_refusal old.hands (Mutator m) ≡ None → r.queue ≡ None
    → DoesAs old (steps.Unhook m s) (Ok replies.Nothing)
    (handing old (cut old.ground.heap m s) old.holds old.hands old.workers)
unhooked_plain old m s n r slot at is passes registered =
    hands_does old (cut old.ground.heap m s) old.holds old.hands old.workers (λ k. refl) (steps.Unhook m s)
    replies.Nothing tt (λ a. refl) (λ a stands. record {
      after = with_heap a.world (cut a.world.heap m s);
      asked = heap.Unhook m s;
      none =
          unhook_refused old a stands m s slot n r at is passes
          ∙ ap (λ (q : Option ℕ). if is_some q then holds_refusal a.world.heap else None) registered;
      asks = refl;
      accepts = unhooks old a stands m s slot n r at is None replies.Nothing _ registered (refl, refl);
      passes = record {
        heap = cut_same old a stands m s;
        same = same_cut a.world.heap m s;
        count_is =
            stands.holds ∙ sym (ap length (holds_changed a.world.heap (slot_at a.world.heap m s)
            (with_reference cleared)));
        pending = stands.finders.pending;
        queues = refl;
        phase = refl;
        cycle = refl;
        policy = refl;
      };
      alike = record { mutators = stands.mutator_hands; workers = stands.worker_hands };
    })

one_queue : (q : ℕ) → ((q == q) && true) ≡ true
one_queue q = grind arith

-- and of one with a queue, whose notice goes to the hand
pub unhooked_registered : (old : Judged) (m s n q : ℕ) (r : Reference) → drop_refusal old.ground.heap m s ≡ None
    → slot_at old.ground.heap m s ≡ Some n → reference_at old.ground.heap n ≡ Some r
    → free_hand_refusal old.hands (Mutator m) ≡ None → r.queue ≡ Some q → old.holds < 2 ^ 64 - 1
    → DoesAs old (steps.Unhook m s) (Ok (replies.Notice n q Own))
    (handing old (cut old.ground.heap m s) (old.holds + 1)
    (with_hand_at old.hands (Mutator m) (record { queue = q; objects = n ∷ [] })) old.workers)
unhooked_registered old m s n q r slot at is passes registered few =
    hands_does old (cut old.ground.heap m s) (old.holds + 1)
    (with_hand_at old.hands (Mutator m) (record { queue = q; objects = n ∷ [] })) old.workers (λ k. refl)
    (steps.Unhook m s) (replies.Notice n q Own) tt (λ a. refl) on
  where
    on : (a : State) → StandsFor old a
        → HandsOn (cut old.ground.heap m s) (old.holds + 1)
        (with_hand_at old.hands (Mutator m) (record { queue = q; objects = n ∷ [] })) old.workers old.profile
        (steps.Unhook m s) (replies.Notice n q Own) a
    on a stands =
        let h : Heap = cut a.world.heap m s in
        let same = same_cut a.world.heap m s in
        let w : World = with_heap a.world (with_hold h n) in
        record {
          after = w;
          asked = heap.Unhook m s;
          none =
              unhook_refused old a stands m s slot n r at is passes
              ∙ ap (λ (k : Option ℕ). if is_some k then holds_refusal a.world.heap else None) registered
              ∙ holds_left old a stands few;
          asks = refl;
          accepts =
              unhooks old a stands m s slot n r at is (Some q) (replies.Notice n q Own) _ registered (refl, refl);
          passes = record {
            heap = cut_same old a stands m s;
            same = record { there = same.there; references = same.references; registered = same.registered };
            count_is =
                ap (λ count. count + 1)
                (stands.holds
                ∙ sym (ap length (holds_changed a.world.heap (slot_at a.world.heap m s) (with_reference cleared))))
                ∙ sym (length-one_more h.holds n);
            pending = stands.finders.pending;
            queues = refl;
            phase = refl;
            cycle = refl;
            policy = refl;
          };
          alike =
              with_hand_alike old.hands w (Mutator m) (record { queue = q; objects = n ∷ [] })
              (record { object = n; queue = q; cause = Own } ∷ [])
              (record { mutators = stands.mutator_hands; workers = stands.worker_hands })
              (refl, one_queue q);
        }
