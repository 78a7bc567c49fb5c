-- What a call tells of slots: what holds of each slot's value holds after a call too, where it holds of what the call
-- puts into a slot, at that slot.
use Rattle.ref_share.proofs.Common.{◌≡◌, ℕ, ◌+◌, Bool, true, false, List, [], ◌∷◌, Option, Some, None, refl, sym}
use Rattle.ref_share.proofs.Common.{subst, slice_index_or, NamedStep, World, Reply, told_reply, GivesOut}
use Rattle.ref_share.proofs.Common.{HeapAnswer, told_notices}
use Rattle.std.proofs.Common.{◌*◌, if◌then◌else◌}
use Rattle.ref_base.specs.Graphs.{Object}
use Rattle.ref_base.specs.Heaps.{Heap, slot_at, with_slot, changed_in, with_changed, with_reference, got_at, cleared}
use Rattle.ref_base.specs.Heaps.{stored, cut, got, made, registered_in, reference_at, with_hold, without_hold}
use Rattle.ref_base.specs.Replay.{after_heap, if_told, adopted, unhooked, begun, pended, cleared_for, handed_each}
use Rattle.ref_base.specs.Replay.{handed_on, with_phase}
use Rattle.ref_base.specs.Told.{told_object, told_value, told_cycle, told_cleared, told_swept, is_nothing}
use Rattle.ref_base.specs.Worlds.{Notice, with_heap, with_swept}
use Rattle.ref_base.specs.declared.phase.Phase.{Phase}
use Rattle.ref_base.specs.declared.urgency.Urgency.{Urgency}
use Rattle.ref_share.specs.ApartHistories.{put_in_slot}
use Rattle.ref_base.proofs.Places.{set_each}
use Rattle.ref_base.specs.declared.heap_step.HeapStep.TheVariants as heap
use Rattle.ref_base.specs.declared.plain_step.PlainStep.TheVariants as plain
use Rattle.ref_base.specs.declared.reply.Reply.TheVariants as told
use Rattle.ref_world.specs.declared.heap_machine.HeapReply.TheVariants as replies

-- ---- what leaves the slots

changed_slots : (h : Heap) (held : Option ℕ) (f : Object → Object) → (changed_in h held f).slots ≡ h.slots
changed_slots h None f = refl
changed_slots h (Some n) f = refl

pended_slots : (w : World) (k n : ℕ) (queue : Option ℕ) → (pended w k n queue).heap.slots ≡ w.heap.slots
pended_slots w k n None = refl
pended_slots w k n (Some q) = refl

handed_slots : (w : World) (k : ℕ) (notices : List Notice) → (handed_each w k notices).heap.slots ≡ w.heap.slots
handed_slots w k [] = refl
handed_slots w k (notice ∷ rest) = handed_slots (handed_on w k notice.object) k rest

-- the place of the slot that a step puts into what it tells, if it is such a step
abbrev pub filled_by : NamedStep → Option ℕ
filled_by (heap.Plain (plain.New m d k)) = Some (16 * m + d)
filled_by (heap.Plain (plain.Refer m strength d s q k)) = Some (16 * m + d)
filled_by (heap.Plain (plain.Load m d s i)) = Some (16 * m + d)
filled_by (heap.Plain (plain.Copy m d s)) = Some (16 * m + d)
filled_by (heap.Plain (plain.Get m d s)) = Some (16 * m + d)
filled_by (heap.Adopt m d hold) = Some (16 * m + d)
filled_by step = None

module _ (P : ℕ → Option ℕ → Type 0) (empty : (i : ℕ) → P i None) where
  -- P holds of each place and what the slot there holds, as a record that search can see
  pub record OfSlots (w : World) : Type 0 where
    pub each : (i : ℕ) → P i (slice_index_or w.heap.slots i None)

  -- and of a place and the object that is put there, if one is
  abbrev pub OfPut : ℕ → Option ℕ → Type 0
  OfPut i put = (n : ℕ) → put ≡ Some n → P i (Some n)

  -- so of the place that the step fills
  abbrev pub OfFilled : NamedStep → Option ℕ → Type 0
  OfFilled step put = (i : ℕ) → filled_by step ≡ Some i → OfPut i put

  pub same_slots : (v w : World) → w.heap.slots ≡ v.heap.slots → OfSlots v → OfSlots w
  same_slots v w same of = record {
    each = λ i. subst (λ (slots : List (Option ℕ)). P i (slice_index_or slots i None)) (sym same) (of.each i);
  }

  module _ (w : World) (of : OfSlots w) where
    before : OfSlots w
    before = of

    sets : (m d : ℕ) (value : Option ℕ) → P (16 * m + d) value → OfSlots (with_heap w (with_slot w.heap m d value))
    sets m d value is = record { each = set_each P w.heap.slots (16 * m + d) value (λ _. None) is of.each }

    changes : (held : Option ℕ) (f : Object → Object) → OfSlots (with_heap w (changed_in w.heap held f))
    changes held f = same_slots w (with_heap w (changed_in w.heap held f)) (changed_slots w.heap held f) of

    stores : (m s i v : ℕ) → OfSlots (with_heap w (stored w.heap m s i v))
    stores m s i v = changes (slot_at w.heap m s) _

    cuts : (m s : ℕ) → OfSlots (with_heap w (cut w.heap m s))
    cuts m s = changes (slot_at w.heap m s) _

    holds : (n : ℕ) → OfSlots (with_heap w (with_hold w.heap n))
    holds n = record { each = of.each }

    releases : (n : ℕ) → OfSlots (with_heap w (without_hold w.heap n))
    releases n = record { each = of.each }

    begins : (free now : ℕ) (how : Urgency) (reply : Reply)
        → OfSlots (if_told (told_cycle reply) (λ n. begun w free now how n) w)
    begins free now how (told.Cycle n) = record { each = of.each }
    begins free now how reply = of

    counts : (reply : Reply) → OfSlots (if_told (told_swept reply) (λ count. with_swept w count) w)
    counts (told.Swept count) = record { each = of.each }
    counts reply = of

    phases : (phase : Phase) → OfSlots (with_phase w phase)
    phases phase = record { each = of.each }

    clears : (k : ℕ) (reply : Reply) → OfSlots (if_told (told_cleared reply) (λ n. cleared_for w k n) w)
    clears k (told.Cleared n) =
        let changed : World = with_heap w (with_changed w.heap n (with_reference cleared)) in
        same_slots w (cleared_for w k n) (pended_slots changed k n (registered_in (reference_at w.heap n))) of
    clears k reply = of

    done : (is : Bool) (u : World) → OfSlots u → OfSlots (if is then u else w)
    done true u after = after
    done false u after = of

    hands : (k : ℕ) (notices : List Notice) → OfSlots (handed_each w k notices)
    hands k notices = same_slots w (handed_each w k notices) (handed_slots w k notices) of

    unhooks : (m s : ℕ) (nothing : Bool) (notices : List Notice)
        → OfSlots (if nothing then with_heap w (cut w.heap m s) else unhooked w m s notices)
    unhooks m s true notices = cuts m s
    unhooks m s false [] = of
    unhooks m s false (notice ∷ rest) = record { each = (cuts m s).each }

    objects : (i : ℕ) (reply : Reply) (change : ℕ → World) → OfPut i (told_object reply)
        → ((n : ℕ) → P i (Some n) → OfSlots (change n)) → OfSlots (if_told (told_object reply) change w)
    objects i (told.Object n) change put after = after n (put n refl)
    objects i reply change put after = of

    values : (i : ℕ) (reply : Reply) (change : Option ℕ → World) → OfPut i (told_object reply)
        → ((value : Option ℕ) → P i value → OfSlots (change value)) → OfSlots (if_told (told_value reply) change w)
    values i (told.Object n) change put after = after (Some n) (put n refl)
    values i told.Null change put after = after None (empty i)
    values i reply change put after = of

    holds_told : (reply : Reply) → OfSlots (if_told (told_object reply) (λ n. with_heap w (with_hold w.heap n)) w)
    holds_told (told.Object n) = holds n
    holds_told reply = of

  module _ (w : World) (of : OfSlots w) where
    gets : (m d s : ℕ) (value : Option ℕ) → P (16 * m + d) value → OfSlots (with_heap w (got w.heap m d s value))
    gets m d s None is = sets w of m d None is
    gets m d s (Some n) is =
        let f : Object → Object = with_reference (got_at w.heap.clock) in
        let u : World = with_heap w (changed_in w.heap (slot_at w.heap m s) f) in
        record { each = (sets u (changes w of (slot_at w.heap m s) f) m d (Some n) is).each }

    makes : (m d : ℕ) (o : Object) → P (16 * m + d) (Some o.no) → OfSlots (with_heap w (made w.heap m d o))
    makes m d o is = record { each = (sets w of m d (Some o.no) is).each }

    adopts : (m d n : ℕ) → P (16 * m + d) (Some n) → OfSlots (with_heap w (adopted w.heap m d n))
    adopts m d n is = record { each = (sets w of m d (Some n) is).each }

    -- a step with this reply leaves it so, where it is so of what the reply names
    slots_told : (step : NamedStep) (reply : Reply) → OfFilled step (told_object reply)
        → OfSlots (after_heap w step reply)
    slots_told (heap.Plain (plain.Load m d s i)) reply put =
        values w of (16 * m + d) reply _ (put (16 * m + d) refl) (sets w of m d)
    slots_told (heap.Plain (plain.Copy m d s)) reply put =
        values w of (16 * m + d) reply _ (put (16 * m + d) refl) (sets w of m d)
    slots_told (heap.Plain (plain.Get m d s)) reply put =
        values w of (16 * m + d) reply _ (put (16 * m + d) refl) (gets m d s)
    slots_told (heap.Unhook m s) reply put = unhooks w of m s (is_nothing reply) (told_notices reply)
    slots_told (heap.Hand k) reply put = hands w of k (told_notices reply)
    slots_told (heap.Hands k max batch) reply put = hands w of k (told_notices reply)
    slots_told (heap.Plain (plain.New m d k)) reply put =
        objects w of (16 * m + d) reply _ (put (16 * m + d) refl) (λ n is. makes m d _ is)
    slots_told (heap.Plain (plain.Refer m strength d s q k)) reply put =
        objects w of (16 * m + d) reply _ (put (16 * m + d) refl) (λ n is. makes m d _ is)
    slots_told (heap.Hold m s) reply put = holds_told w of reply
    slots_told (heap.Adopt m d hold) reply put =
        objects w of (16 * m + d) reply _ (put (16 * m + d) refl) (adopts m d)
    slots_told (heap.Plain (plain.Begin now how)) reply put = begins w of _ now how reply
    slots_told (heap.Plain (plain.ClearNext k)) reply put = clears w of k reply
    slots_told (heap.Plain (plain.Sweep k)) reply put = counts w of reply
    slots_told step reply put = search (before, done, phases, stores, cuts, releases, sets, empty)

    -- so does a call
    pub slots_then : (number : ℕ) (step : NamedStep) (reply : HeapAnswer) → GivesOut number step reply
        → OfFilled step (put_in_slot reply) → OfSlots (after_heap w step (told_reply reply))
    slots_then number step (replies.Told reply) gives put = slots_told step reply put
    slots_then number step (replies.Notice notice) gives put =
        slots_told step (told_reply (replies.Notice notice)) (λ i fills n is. absurd cc)
    slots_then number (heap.Hold m s) (replies.Held hold) gives put = holds w of hold.object
    slots_then number step (replies.Held hold) gives put = absurd gives
    slots_then number step (replies.Back fault hold) gives put =
        slots_told step (told.Refused fault) (λ i fills n is. absurd cc)
    slots_then number (heap.Hands k max batch) (replies.Handed reply after) gives put =
        hands w of k (told_notices reply)
    slots_then number step (replies.Handed reply after) gives put = absurd gives
