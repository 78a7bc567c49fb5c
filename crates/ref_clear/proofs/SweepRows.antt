-- A sweep of the abstract collector, and that the heap stands for the state that it leaves.
use Rattle.ref_clear.proofs.Common.{arith, ◌≡◌, ℕ, Bool, true, false, not, ◌&&◌, refl, sym, ap, subst, ◌∙◌, List, []}
use Rattle.ref_clear.proofs.Common.{◌∷◌, map, take, drop, Option, Some, None, is_some, ◌⊎◌, inl, inr, and_parts}
use Rattle.ref_clear.proofs.Common.{false≢true, true≢false, false_from_ne_true, has, Object, object_at, is_there}
use Rattle.ref_clear.proofs.Common.{numbers, Allowed, targets_of, targets_at, soft_and_weak_referents, is_kept}
use Rattle.ref_clear.proofs.Common.{refers_into, Heap, reference_at, reference_in, IsRising, graph_of, is_in, State}
use Rattle.ref_clear.proofs.Common.{HeapAccepts, without, shown, referent_of, forgotten, heap_but, Marking, Sweeping}
use Rattle.ref_clear.proofs.Common.{unmarked, CycleHeap, is_white, is_black, is_in_cycle, doomed, MarkStands, FactsBut}
use Rattle.ref_clear.proofs.Common.{unsaid, ReadsAs, shown_heap, ClearHeap, with_mark, swept_some, refusal_in}
use Rattle.ref_clear.proofs.Common.{HeapStands, ListWhite, MaySweep}
use Rattle.ref_clear.proofs.Common.{length}
use Rattle.std.proofs.Common.{◌||◌, min}
use Rattle.std.proofs.lemmas.Bool.{cond-true, not-true}
use Rattle.std.proofs.lemmas.List.{take-append-drop}
use Rattle.ref_base.specs.Worlds.{with_heap, with_swept}
use Rattle.ref_clear.specs.ClearCalls.{answer_of_sweep}
use Rattle.ref_base.specs.DoomedSets.{new_clears}
use Rattle.ref_base.specs.CollectorRows.{Sweeps}
use Rattle.ref_mark.specs.CycleHeaps.{is_due}
use Rattle.ref_mark.specs.Standing.{AreHealed, AreThere, InSweeping}
use Rattle.ref_base.proofs.HasLaws.{has-append, has-cases, has-left, has-first}
use Rattle.ref_base.proofs.NewClears.{has-new_clears, refers_into-same}
use Rattle.ref_mark.proofs.DoomedLists.{past_is_in_cycle, past_is_not_marking}
use Rattle.ref_objects.proofs.SparedLemmas.{has-unmarked}
use Rattle.ref_mark.proofs.Mutations.{leading_is_there}
use Rattle.ref_mark.proofs.MutatedStates.{ticked_other, sweeping_is_past}
use Rattle.ref_mark.proofs.Passed.{work_passed}
use Rattle.ref_mark.proofs.RootFacts.{hold_root}
use Rattle.ref_mark.proofs.SafeMarks.{marked_is_black}
use Rattle.ref_mark.proofs.Shading.{not_white_marked}
use Rattle.ref_clear.proofs.GoneObjects.{has_choice-left, without-none, has-take, object_at-gone, object_at-left}
use Rattle.ref_clear.proofs.GoneObjects.{left_from_there}
use Rattle.ref_clear.proofs.GoneObjects.{rising-without, unhealed-left}
use Rattle.ref_clear.proofs.SweepLoops.{doomed-so_many, doomed-sweeping, white_is_doomed}
use Rattle.ref_base.specs.declared.heap_step.HeapStep.TheVariants as heap
use Rattle.ref_base.specs.declared.plain_step.PlainStep.TheVariants as plain

-- ---- in a sweep mutators read the heap as it is

none_within : (ns : List ℕ) → ((n : ℕ) → has ns n ≡ true → ⊥) → ns ≡ []
none_within [] none = refl
none_within (n ∷ ns) none = absurd (none n (has-first n ns))

map-shown_no_clears : (d : List ℕ) (os : List Object) → new_clears os d ≡ [] → map (λ o. shown d o) os ≡ os
map-shown_no_clears d [] none = refl
map-shown_no_clears d (o ∷ os) none = grind (arith, map-shown_no_clears d os)

-- no black reference refers to a white object, so none is shown as cleared
shown-sweeping : (k : CycleHeap) → IsRising (numbers k.heap.objects) → InSweeping k
    → map (λ o. shown (unmarked k.heap.objects k.marked) o) k.heap.objects ≡ k.heap.objects
shown-sweeping k rising sweeps =
    let os = k.heap.objects in
    let d = unmarked os k.marked in
    map-shown_no_clears d os
    (none_within (new_clears os d)
    (λ n within.
    let test = not (has d n) && refers_into (has d) (reference_in (object_at os n)) in
    let parts = and_parts (is_there os n) test (sym (has-new_clears os d n rising) ∙ within) in
    let sides = and_parts (not (has d n)) (refers_into (has d) (reference_in (object_at os n))) parts.1 in
    let other : is_white k n ≡ false = sym (has-unmarked os k.marked n) ∙ not-true (has d n) sides.0 in
    let black : is_black k n ≡ true =
    marked_is_black k sweeps.no_grey n parts.0 (not_white_marked k n parts.0 other) in
    true≢false
    (sym sides.1 ∙ refers_into-same (has d) (is_white k) (has-unmarked os k.marked) (reference_at k.heap n)
    ∙ sweeps.none_left n black)))

-- ---- what goes need not be forgotten any more

forgotten-without : (d rest gone : List ℕ) (os : List Object)
    → ((n : ℕ) → has gone n ≡ false → has d n ≡ has rest n)
    → map (λ o. forgotten rest o) (without gone os) ≡ without gone (map (λ o. forgotten d o) os)
forgotten-without d rest gone [] split = refl
forgotten-without d rest gone (o ∷ os) split = grind (arith, forgotten-without d rest gone os split)

-- what agrees but for some agrees when some of these are gone, but for the rest
without_agrees : (d rest gone : List ℕ) (h g : Heap) → ((n : ℕ) → has gone n ≡ false → has d n ≡ has rest n)
    → heap_but d h ≡ heap_but d g
    → heap_but rest (record h { objects = without gone h.objects })
    ≡ heap_but rest (record g { objects = without gone g.objects })
without_agrees d rest gone h g split same =
    grind (arith, forgotten-without, forgotten-without d rest gone g.objects split)

-- ---- what is left

-- what an object leads to as a soft or weak reference, where it doesn't refer to what passes the test
soft_weak-cases : (allow : Allowed) (test : ℕ → Bool) (o : Option Object) (n : ℕ)
    → refers_into test (reference_in o) ≡ false → has (targets_of soft_and_weak_referents o) n ≡ true
    → (has (targets_of allow o) n ≡ true) ⊎ (test n ≡ false)
soft_weak-cases allow test None n unmet target = absurd (false≢true target)
soft_weak-cases allow test (Some o) n unmet target = grind (arith, has-cases, has-left)

-- the state with the 64 least of these swept, or all
abbrev state_swept : State → List ℕ → State
state_swept a ds = record a {
  world = with_swept
      (with_heap a.world (record a.world.heap { objects = without (take 64 ds) a.world.heap.objects }))
      (min 64 (length ds));
  doomed = drop 64 ds;
}

shown_heap-sweeping : (k : CycleHeap) → is_in k.phase Sweeping ≡ true → IsRising (numbers k.heap.objects)
    → InSweeping k → shown_heap k ≡ k.heap
shown_heap-sweeping k sweeping rising sweeps = search (doomed-sweeping, shown-sweeping)

black_is_not_white : (k : CycleHeap) (n : ℕ) → is_black k n ≡ true → is_white k n ≡ false
black_is_not_white k n black = grind arith

-- in a sweep
module _ (k : CycleHeap) (a : State) (stands : MarkStands k a) (sweeping : is_in k.phase Sweeping ≡ true) where
  abbrev os : List Object
  os = k.heap.objects

  abbrev gone : List ℕ
  gone = take 64 (doomed k)

  abbrev rest : List ℕ
  rest = drop 64 (doomed k)

  begun : is_in_cycle k.phase ≡ true
  begun = past_is_in_cycle k.phase (sweeping_is_past k.phase sweeping)

  -- what goes was white
  not_gone : (n : ℕ) → is_white k n ≡ false → has gone n ≡ false
  not_gone n other = has-take 64 (doomed k) n (white_is_doomed k sweeping n ∙ other)

  -- and what doesn't is doomed as before
  split : (n : ℕ) → has gone n ≡ false → has (doomed k) n ≡ has rest n
  split n left =
      ap (λ (d : List ℕ). has d n) (sym (take-append-drop 64 (doomed k))) ∙ has-append gone rest n
      ∙ ap (λ b. b || has rest n) left

  there_was : (n : ℕ) → is_there (without gone os) n ≡ true → is_there os n ≡ true
  there_was n there = sym (ap is_some (object_at-left gone os n (left_from_there gone os n there))) ∙ there

  there_still : (n : ℕ) → is_there os n ≡ true → is_white k n ≡ false → is_there (without gone os) n ≡ true
  there_still n there other = ap is_some (object_at-left gone os n (not_gone n other)) ∙ there

  white_was : (n : ℕ) → is_white (swept_some k) n ≡ true → is_white k n ≡ true
  white_was n white = grind (arith, there_was)

  still_not_white : (n : ℕ) → is_white k n ≡ false → is_white (swept_some k) n ≡ false
  still_not_white n other =
      false_from_ne_true (is_white (swept_some k) n) (λ white. true≢false (sym (white_was n white) ∙ other))

  black_was : (n : ℕ) → is_black (swept_some k) n ≡ true → is_black k n ≡ true
  black_was n black = grind (arith, there_was)

  leads_was : (allow : Allowed) (m n : ℕ) → has (targets_at allow (without gone os) m) n ≡ true
      → has (targets_at allow os m) n ≡ true
  leads_was allow m n target = grind (arith, leading_is_there, object_at-left, left_from_there)

  root_off : (n : ℕ) → has (graph_of a.world).roots n ≡ true → is_white k n ≡ false
  root_off n root =
      elim ((stands.facts begun).rooted n root) [ inl other ↦ other | inr none ↦ absurd (false≢true none) ]

  kept_off : (m n : ℕ) → is_black k m ≡ true → has (targets_at (is_kept k.policy) os m) n ≡ true
      → is_white k n ≡ false
  kept_off m n black target =
      elim ((stands.facts begun).closed m n black target) [ inl other ↦ other | inr none ↦ absurd (false≢true none) ]

  -- a black object leads to nothing white
  black_off : (m n : ℕ) → is_black k m ≡ true → has (targets_at soft_and_weak_referents os m) n ≡ true
      → is_white k n ≡ false
  black_off m n black target = grind (arith, soft_weak-cases, kept_off m n black)

  -- what isn't due stays, and is black
  stays_black : (m : ℕ) → is_there (without gone os) m ≡ true → is_due (swept_some k) m ≡ false → is_black k m ≡ true
  stays_black m there due = grind (arith, there_was)

  swept_there : AreThere (swept_some k) (graph_of a.world).roots
  swept_there = record {
    named = λ n root. there_still n (stands.there.named n root) (root_off n root);
    led = λ m n due target.
        let there : is_there (without gone os) m ≡ true =
        leading_is_there soft_and_weak_referents (without gone os) m n target in
        let black : is_black k m ≡ true = stays_black m there due in
        let was = leads_was soft_and_weak_referents m n target in
        let other : is_white k m ≡ false = black_is_not_white k m black in
        there_still n (stands.there.led m n (simp (sweeping, other) refl) was) (black_off m n black was);
  }

  swept_facts : FactsBut (swept_some k) (graph_of a.world).roots []
  swept_facts = record {
    rooted = λ n root. inl (still_not_white n (root_off n root));
    closed = λ m n black target.
        inl
        (still_not_white n
        (kept_off m n (black_was m black) (leads_was (is_kept k.policy) m n target)));
  }

  swept_sweeping : InSweeping (swept_some k)
  swept_sweeping = grind (arith, not_gone, object_at-left)

  swept_healed : AreHealed (swept_some k)
  swept_healed n unhealed = grind (arith, unhealed-left gone k.space n, object_at-left, black_was n)

  swept_rising : IsRising (numbers (without gone os))
  swept_rising = rising-without gone os stands.orderly.rising

  swept_doomed : doomed (swept_some k) ≡ rest
  swept_doomed = doomed-so_many k 64 sweeping stands.orderly.rising

  swept_agrees : ReadsAs (swept_some k) (state_swept a (doomed k)).world.heap
  swept_agrees =
      let h = (state_swept a (doomed k)).world.heap in
      let before : unsaid k ≡ doomed k = cond-true (is_in k.phase Sweeping) (doomed k) [] sweeping in
      let now : unsaid (swept_some k) ≡ rest =
      cond-true (is_in k.phase Sweeping) (doomed (swept_some k)) [] sweeping ∙ swept_doomed in
      let same : heap_but (doomed k) a.world.heap ≡ heap_but (doomed k) k.heap =
      subst (λ (d : List ℕ). heap_but d a.world.heap ≡ heap_but d (shown_heap k)) before stands.heap
      ∙ ap (heap_but (doomed k))
      (shown_heap-sweeping k sweeping stands.orderly.rising (stands.sweeping sweeping)) in
      subst (λ (d : List ℕ). heap_but d h ≡ heap_but d (shown_heap (swept_some k))) (sym now)
      (without_agrees (doomed k) rest gone a.world.heap k.heap split same
      ∙ sym (ap (heap_but rest) (shown_heap-sweeping (swept_some k) sweeping swept_rising swept_sweeping)))

  swept_stands : MarkStands (swept_some k) (state_swept a (doomed k))
  swept_stands =
      grind (
        arith,
        has_choice-left,
        swept_agrees,
        swept_doomed,
        swept_rising,
        there_was,
        swept_there,
        swept_healed,
        swept_facts,
        swept_sweeping,
      )

-- ---- rows

sweeps : (a : State) (ds : List ℕ) → a.doomed ≡ ds → is_in a.world.phase Marking ≡ false
    → Sweeps a ds (answer_of_sweep ds) (state_swept a ds)
sweeps a [] same quiet = grind (arith, without-none)
sweeps a (n ∷ ns) same quiet = (refl, sym (ticked_other (state_swept a (n ∷ ns)) quiet))

-- a reference without a referent has none once it is gone
referent-without : (gone : List ℕ) (os : List Object) (n : ℕ) → referent_of (reference_in (object_at os n)) ≡ None
    → referent_of (reference_in (object_at (without gone os) n)) ≡ None
referent-without gone os n none = grind (arith, object_at-gone, object_at-left)

pub sweep_row : (c : ClearHeap) (a : State) (w : ℕ) → HeapStands c a → refusal_in c (heap.Plain (plain.Sweep w)) ≡ None
    → (b : State) × HeapAccepts a (heap.Plain (plain.Sweep w)) (answer_of_sweep (doomed c.mark)) b
    × HeapStands (with_mark c (swept_some c.mark)) b
sweep_row c a w stands none =
    let k = c.mark in
    let ds = doomed k in
    let sweeping : is_in k.phase Sweeping ≡ true = (work_passed k Sweeping w none).1 in
    let quiet : is_in a.world.phase Marking ≡ false =
    ap (λ p. is_in p Marking) stands.mark.phase
    ∙ past_is_not_marking k.phase (sweeping_is_past k.phase sweeping) in
    let waiting = stands.waiting in (
      state_swept a ds,
      subst (λ (d : List ℕ). Sweeps a d (answer_of_sweep ds) (state_swept a ds)) (sym stands.mark.doomed)
          (sweeps a ds stands.mark.doomed quiet),
      record {
        mark = swept_stands k a stands.mark sweeping;
        pending = stands.pending;
        waiting = record {
          workers = waiting.workers;
          once = waiting.once;
          cleared = λ n within. referent-without (take 64 ds) k.heap.objects n (waiting.cleared n within);
        };
      },
    )

-- what is held is a root, so nothing white is
pub may_sweep : (c : ClearHeap) (a : State) (condemned : List ℕ) → HeapStands c a
    → is_in c.mark.phase Sweeping ≡ true → ListWhite c.mark condemned → MaySweep c.mark condemned
may_sweep c a condemned stands sweeping listed = grind (arith, hold_root)
