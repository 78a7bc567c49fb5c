-- The heap that a look at a found reference leaves, and that it stands for what the row of the collector leaves.
use Rattle.ref_clear.proofs.Common.{arith, ◌≡◌, ℕ, true, false, ◌==◌, refl, sym, ap, subst, ◌∙◌, List, [], ◌∷◌, ◌++◌}
use Rattle.ref_clear.proofs.Common.{Option, Some, None, is_some, ◌⊎◌, inl, inr, slice_set, cases_Bool, or_cases}
use Rattle.ref_clear.proofs.Common.{or_left, or_right, eqb-true, false≢true, true≢false, length-set, has, Object}
use Rattle.ref_clear.proofs.Common.{Reference, object_at, is_there, Allowed, targets_of, targets_at}
use Rattle.ref_clear.proofs.Common.{soft_and_weak_referents, IsRising, is_kept, refers_into, reference_in, reference_at}
use Rattle.ref_clear.proofs.Common.{with_changed, changed_reference, cleared, Pending, graph_of, pending_numbers, State}
use Rattle.ref_clear.proofs.Common.{joined, is_in, list_at, Marking, Clearing, Sweeping, CycleHeap, is_white, is_black}
use Rattle.ref_clear.proofs.Common.{is_past_mark, doomed, MarkStands, shown_heap, Tag}
use Rattle.ref_base.specs.Paths.{allowed_referent}
use Rattle.ref_base.specs.Heaps.{changed_at}
use Rattle.ref_mark.specs.Standing.{InClearing}
use Rattle.ref_base.proofs.HasLaws.{has-left, has-cases}
use Rattle.ref_base.proofs.Lookups.{lookup-changed, numbers-changed}
use Rattle.ref_base.proofs.NewClears.{refers_into-same}
use Rattle.ref_mark.proofs.Agreeing.{agrees_next, unsaid_same}
use Rattle.ref_mark.proofs.DoomedLists.{doomed-changed, past_is_in_cycle}
use Rattle.ref_mark.proofs.Passed.{is_clearing}
use Rattle.ref_mark.proofs.RootFacts.{root_cases, slot_root, hold_root, pending_root}
use Rattle.ref_clear.proofs.FoundFacts.{black_parts}
use Rattle.ref_mark.proofs.DistinctLists.{has-taken, has-first_taken, AreDistinct-taken}

-- ---- one object changes

-- a look-up of that one finds what it becomes
pub changed_here : (P : Option Object → Type 0) (os : List Object) (n : ℕ) (f : Object → Object)
    → ((o : Object) → (f o).no ≡ o.no) → P None → ((o : Object) → object_at os n ≡ Some o → P (Some (f o)))
    → P (object_at (changed_at os n f) n)
changed_here P [] n f keeps none there = none
changed_here P (o ∷ os) n f keeps none there = grind (arith, changed_here P os n f keeps none)

-- and one of another what it did
changed_elsewhere : (os : List Object) (n m : ℕ) (f : Object → Object) → ((o : Object) → (f o).no ≡ o.no)
    → (n == m) ≡ false → object_at (changed_at os n f) m ≡ object_at os m
changed_elsewhere [] n m f keeps other = refl
changed_elsewhere (o ∷ os) n m f keeps other = grind (arith, changed_elsewhere os n m f keeps other)

-- and where it becomes what it is, nothing changes
pub changed_to_itself : (os : List Object) (n : ℕ) → changed_at os n (λ o. o) ≡ os
changed_to_itself [] n = refl
changed_to_itself (o ∷ os) n = grind (arith, changed_to_itself os n)

-- ---- what is cleared

-- it has no referent

-- and leads nowhere that it didn't lead
pub leads-cleared : (allow : Allowed) (fields : List ℕ) (r : Option Reference) (n : ℕ)
    → has (fields ++ allowed_referent allow (changed_reference cleared r)) n ≡ true
    → has (fields ++ allowed_referent allow r) n ≡ true
leads-cleared allow fields None n target = target
leads-cleared allow fields (Some r) n target = grind (arith, has-cases, has-left)

-- ---- the heap that a look leaves

-- an object may change so as it is looked at: it leads nowhere that it didn't lead, and refers to nothing white
pub record MayLook (k : CycleHeap) (o p : Object) : Type 0 where
  pub leads :
      (allow : Allowed) (n : ℕ) → has (targets_of allow (Some p)) n ≡ true
      → has (targets_of allow (Some o)) n ≡ true
  pub off : refers_into (is_white k) p.reference ≡ false

abbrev pub looked_heap : CycleHeap → ℕ → ℕ → List ℕ → (Object → Object) → List Tag → CycleHeap
looked_heap k w n rest f tags =
    record k { heap = with_changed k.heap n f; tags = tags; found = slice_set k.found w rest }

-- the state, where these are pending and found
abbrev pub state_with : State → List (List Pending) → List (List ℕ) → State
state_with a pss found = record a { world = record a.world { pending = pss }; found = found }

module _ (k : CycleHeap) (a : State) (w n : ℕ) (rest : List ℕ) (f : Object → Object) (tags : List Tag)
    (pss : List (List Pending))
    (stands : MarkStands k a) (clearing : is_in k.phase Clearing ≡ true) (is : list_at k.found w ≡ n ∷ rest)
    (keeps : (o : Object) → (f o).no ≡ o.no)
    (looks : (o : Object) → object_at k.heap.objects n ≡ Some o → MayLook k o (f o))
    (shows : shown_heap (looked_heap k w n rest f tags) ≡ shown_heap k)
    (pends : (m : ℕ) → has (pending_numbers pss) m ≡ true
    → (n ≡ m) ⊎ (has (pending_numbers a.world.pending) m ≡ true)) where
  past : is_past_mark k.phase ≡ true
  past = or_left (is_in k.phase Clearing) (is_in k.phase Sweeping) clearing

  holds : InClearing k a.found a.cleared
  holds = stands.clearing clearing

  -- what is there, and of which colour
  same_there : (m : ℕ) → is_there (changed_at k.heap.objects n f) m ≡ is_there k.heap.objects m
  same_there =
      lookup-changed (λ o p. is_some p ≡ is_some o) k.heap.objects n f keeps (λ o. refl) (λ o found. refl)

  same_white : (m : ℕ) → is_white (looked_heap k w n rest f tags) m ≡ is_white k m
  same_white m = rw (same_there m) refl

  same_black : (m : ℕ) → is_black (looked_heap k w n rest f tags) m ≡ is_black k m
  same_black m = rw (same_there m) refl

  -- what leads where, and what refers to what is white
  led_before : (allow : Allowed) (m i : ℕ) → has (targets_at allow (changed_at k.heap.objects n f) m) i ≡ true
      → has (targets_at allow k.heap.objects m) i ≡ true
  led_before allow m i =
      lookup-changed (λ o p. has (targets_of allow p) i ≡ true → has (targets_of allow o) i ≡ true) k.heap.objects n f
      keeps (λ o now. now) (λ o found. (looks o found).leads allow i) m

  refers_now : (m : ℕ)
      → refers_into (is_white (looked_heap k w n rest f tags)) (reference_at (looked_heap k w n rest f tags).heap m)
      ≡ refers_into (is_white k) (reference_at (looked_heap k w n rest f tags).heap m)
  refers_now m = search (refers_into-same, same_white)

  own_off : refers_into (is_white k) (reference_at (looked_heap k w n rest f tags).heap n) ≡ false
  own_off =
      changed_here (λ o. refers_into (is_white k) (reference_in o) ≡ false) k.heap.objects n f keeps refl
      (λ o found. (looks o found).off)

  others_same : (m : ℕ) → (n == m) ≡ false
      → refers_into (is_white (looked_heap k w n rest f tags)) (reference_at (looked_heap k w n rest f tags).heap m)
      ≡ refers_into (is_white k) (reference_at k.heap m)
  others_same m other = grind (arith, refers_now, changed_elsewhere)

  -- what is found still was found
  found_before : (m : ℕ) → has (joined (slice_set k.found w rest)) m ≡ true → has (joined k.found) m ≡ true
  found_before m found =
      has-taken k.found w n rest is m ∙ or_right (n == m) (has (joined (slice_set k.found w rest)) m) found

  -- a root then was one, or is that one
  roots_before : (m : ℕ) → has (graph_of (state_with a pss (slice_set a.found w rest)).world).roots m ≡ true
      → (n ≡ m) ⊎ (has (graph_of a.world).roots m ≡ true)
  roots_before m root = grind (arith, root_cases, slot_root, hold_root, pending_root)

  -- what holds in Clearing goes on holding
  looked_clearing : InClearing (looked_heap k w n rest f tags) (slice_set a.found w rest) a.cleared
  looked_clearing =
      let less = AreDistinct-taken k.found w n rest is holds.once in
      record {
        no_grey = holds.no_grey;
        same = ap (λ lists. slice_set lists w rest) holds.same;
        once = less.1;
        black = λ m found. same_black m ∙ holds.black m (found_before m found);
        cleared = λ m found.
            elim (cases_Bool (n == m)) [
              | inl same ↦
                  let taken : has (joined (slice_set k.found w rest)) m ≡ false =
                  subst (λ i. has (joined (slice_set k.found w rest)) i ≡ false) (eqb-true n m same) less.0 in
                  absurd (true≢false (sym found ∙ taken))
              | inr other ↦ holds.cleared m (found_before m found) ∙ sym (others_same m other)
            ];
        all_found = λ m black refers.
            elim (cases_Bool (n == m)) [
              | inl same ↦
                  let off : refers_into (is_white k) (reference_at (looked_heap k w n rest f tags).heap m) ≡ false =
                  subst (λ i. refers_into (is_white k) (reference_at (looked_heap k w n rest f tags).heap i) ≡ false)
                  (eqb-true n m same) own_off in
                  absurd (true≢false (sym refers ∙ refers_now m ∙ off))
              | inr other ↦
                  let found = holds.all_found m (sym (same_black m) ∙ black) (sym (others_same m other) ∙ refers) in
                  elim
                  (or_cases (n == m) (has (joined (slice_set k.found w rest)) m)
                  (sym (has-taken k.found w n rest is m) ∙ found)) [
                    | inl same ↦ absurd (true≢false (sym same ∙ other))
                    | inr left ↦ left
                  ]
            ];
      }

  -- it stands for the state
  pub looked_stands : MarkStands (looked_heap k w n rest f tags) (state_with a pss (slice_set a.found w rest))
  looked_stands =
      let j : CycleHeap = looked_heap k w n rest f tags in
      let phase = is_clearing k.phase clearing in
      let own = black_parts k n (holds.black n (has-first_taken k.found w n rest is)) in
      let facts = stands.facts (past_is_in_cycle k.phase past) in
      let same_doomed : doomed j ≡ doomed k = doomed-changed k n f keeps in
      record {
        heap =
            agrees_next k j a.world.heap (shown_heap k) (unsaid_same k j refl same_doomed) shows stands.heap;
        next = stands.next;
        policy = stands.policy;
        cycle = stands.cycle;
        phase = stands.phase;
        doomed = stands.doomed ∙ sym same_doomed;
        born = stands.born;
        orderly = record {
          rising = subst IsRising (sym (numbers-changed k.heap.objects n f keeps)) stands.orderly.rising;
          below = λ m there. stands.orderly.below m (sym (same_there m) ∙ there);
          slots = stands.orderly.slots;
        };
        scanners = stands.scanners;
        finders = length-set k.found w rest ∙ stands.finders;
        there = record {
          named = λ m root.
              same_there m
              ∙ elim (roots_before m root) [
                | inl same ↦ subst (λ i. is_there k.heap.objects i ≡ true) same own.0
                | inr before ↦ stands.there.named m before
              ];
          led = λ m i due target.
              let quiet : is_in k.phase Sweeping ≡ false = ap (λ p. is_in p Sweeping) phase in
              same_there i
              ∙ stands.there.led m i (simp quiet refl) (led_before soft_and_weak_referents m i target);
        };
        healed = λ m unhealed.
            let was = stands.healed m unhealed in
            (same_there m ∙ was.0, was.1, same_black m ∙ was.2);
        moved = stands.moved;
        facts = λ begun. record {
          rooted = λ m root.
              elim (roots_before m root) [
                | inl same ↦ inl (same_white m ∙ subst (λ i. is_white k i ≡ false) same own.1)
                | inr before ↦ elim (facts.rooted m before) [
                  | inl other ↦ inl (same_white m ∙ other)
                  | inr none ↦ absurd (false≢true none)
                ]
              ];
          closed = λ m i black target.
              elim (facts.closed m i (sym (same_black m) ∙ black) (led_before (is_kept k.policy) m i target)) [
                | inl other ↦ inl (same_white i ∙ other)
                | inr none ↦ absurd (false≢true none)
              ];
        };
        marking = λ marking. absurd (true≢false (sym marking ∙ ap (λ p. is_in p Marking) phase));
        clearing = λ again. looked_clearing;
        sweeping = λ sweeping. absurd (true≢false (sym sweeping ∙ ap (λ p. is_in p Sweeping) phase));
      }
