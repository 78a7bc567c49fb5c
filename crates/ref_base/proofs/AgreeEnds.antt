-- A mark's end, a worker's look at a reference and a sweep keep that the collector has the world of the replay, but for
-- what was swept and for what waits to be cleared.
use Rattle.ref_base.proofs.Common.{◌∷◌, [], Sweeps, ◌+◌, ◌-◌, length, length-map, Idle, Urgency, begun, HeapAccepts}
use Rattle.ref_base.proofs.Common.{false≢true}
use Rattle.ref_base.proofs.Common.{arith, ◌≡◌, ℕ, ◌<◌, Bool, true, false, ◌&&◌, ◌==◌, List, ◌++◌, map, take, drop}
use Rattle.ref_base.proofs.Common.{Option, Some, None, refl, sym, ap, ◌∙◌, subst, inl, inr, slice_set, cases_Bool}
use Rattle.ref_base.proofs.Common.{and_right, eq-eqb, take-append-drop, has, Object, is_there, numbers, IsRising}
use Rattle.ref_base.proofs.Common.{new_clears, reference_at, registered_in, with_reference, cleared, changed_at, World}
use Rattle.ref_base.proofs.Common.{with_heap, after_heap, with_phase, pended, State, joined, is_in, with_world, without}
use Rattle.ref_base.proofs.Common.{mark_ended, doomed_at, EndsMark, under, objects_under, is_waiting, Agrees}
use Rattle.ref_base.proofs.Common.{cleared_if, Phase, Marking, Clearing, Sweeping, Reply}
use Rattle.std.proofs.lemmas.List.{map-id}
use Rattle.std.proofs.Common.{min}
use Rattle.std.proofs.lemmas.List.{length-take}
use Rattle.ref_base.specs.Heaps.{with_changed}
use Rattle.ref_base.specs.Worlds.{with_swept}
use Rattle.ref_base.specs.Replay.{cleared_for, free_after}
use Rattle.ref_base.specs.CollectorRows.{free_cells}
use Rattle.ref_base.proofs.HasLaws.{has-left, has-right, has-cases}
use Rattle.ref_base.proofs.Outcomes.{settled, outcome, found_less, heap_outcome}
use Rattle.ref_base.proofs.ReplayKeeps.{numbers_of, numbers_same, numbers_pended, same_swept, stage_pended}
use Rattle.ref_base.proofs.SeenObjects.{without-changed_at, rising-without, seen_queue, seen_swept}
use Rattle.ref_base.proofs.WaitingClears.{shown-waiting, looked-waiting, has-found, Looks, new_clears-there}
use Rattle.ref_base.proofs.Subsequences.{Sub, sub_none}
use Rattle.ref_base.proofs.SweptLists.{unscanned-sub, numbers-shown, swept_front}
use Rattle.ref_base.proofs.AgreeHeaps.{Agreeing, AreBelow, there-numbers, there-without, unscanned-there}
use Rattle.ref_base.proofs.AgreeHeaps.{none_waits, not_in}
use Rattle.ref_base.specs.declared.heap_step.HeapStep.TheVariants as heap
use Rattle.ref_base.specs.declared.plain_step.PlainStep.TheVariants as plain
use Rattle.ref_base.specs.declared.reply.Reply.TheVariants as replies

-- ---- a mark's end

-- where nothing waits, the collector has the objects that aren't gone
pub as_there : (gone : List ℕ) (w : World) (a : State) (phase : Phase) → Agrees gone w a → a.world.phase ≡ phase
    → is_in phase Clearing ≡ false → a.world ≡ with_heap w (record w.heap { objects = without gone w.heap.objects })
as_there gone w a phase agrees is other =
    agrees ∙ ap (λ (these : ℕ → Bool). under gone these w) (none_waits a phase is other)
    ∙ ap (λ (os : List Object). with_heap w (record w.heap { objects = os })) (map-id (without gone w.heap.objects))

marks : (gone : List ℕ) (w : World) (a : State) (found : List (List ℕ)) → Agreeing gone w a → a.world.phase ≡ Marking
    → ((n : ℕ) → has (new_clears a.world.heap.objects (doomed_at a)) n ≡ true → has (joined found) n ≡ true)
    → Agreeing gone (with_phase w Clearing) (mark_ended a (doomed_at a) found)
marks gone w a found is marking all =
    let os : List Object = a.world.heap.objects in
    let d : List ℕ = doomed_at a in
    let c : State = mark_ended a d found in
    let there : a.world ≡ with_heap w (record w.heap { objects = without gone w.heap.objects }) =
    as_there gone w a Marking is.agrees marking refl in
    let objects : os ≡ without gone w.heap.objects = ap (λ (v : World). v.heap.objects) there in
    let rising : IsRising (numbers os) =
    subst (λ (ps : List Object). IsRising (numbers ps)) (sym objects) (rising-without gone w.heap.objects is.rising) in
    let known : (n : ℕ) → is_there os n ≡ true → (has gone n ≡ false) × (n < a.next) =
    λ n at.
    let both = there-without gone w.heap.objects n (subst (λ (ps : List Object). is_there ps n ≡ true) objects at) in
    (both.0, is.below n (there-numbers w.heap.objects n both.1)) in
    let waits : (n : ℕ) → is_there os n ≡ true → is_waiting c n ≡ has (new_clears os d) n =
    λ n at.
    elim (cases_Bool (has (new_clears os d) n)) [
      | inl new ↦ simp (new, all n new) refl
      | inr old ↦ and_right (has (joined found) n) (has (new_clears os d) n) old ∙ sym old
    ] in
    record {
      agrees = ap (λ (ps : List Object). with_phase (with_heap a.world (record a.world.heap { objects = ps })) Clearing)
          (shown-waiting os d (is_waiting c) rising waits)
          ∙ ap (λ (v : World). with_phase (with_heap v (record v.heap {
            objects = map (λ o. cleared_if (is_waiting c) o) v.heap.objects;
          })) Clearing) there;
      rising = is.rising;
      below = is.below;
      gone_below = is.gone_below;
      doomed_below = λ n in_d. (known n (unscanned-there os a.born (joined a.scanned) n in_d)).1;
      cleared_below = λ n new. (known n (new_clears-there os d n new)).1;
      cleared_stay = λ clearing n new. (known n (new_clears-there os d n new)).0;
      listed = subst (Sub d) (sym (numbers-shown os d)) (unscanned-sub os a.born (joined a.scanned));
      counted = is.counted ∙ ap (λ (ns : List ℕ). length ns + w.swept) (sym (numbers-shown os d));
    }

pub end_agrees : (gone : List ℕ) (w : World) (a c : State) (reply : Reply) → Agreeing gone w a
    → a.world.phase ≡ Marking → EndsMark a reply c → Agreeing gone (after_heap w (heap.Plain plain.EndMark) reply) c
end_agrees gone w a c reply is marking row = grind (arith, marks gone w a row.found is marking row.all_found)

-- ---- a begin

-- the collector has as many free cells as the replay counts
free_same : (gone : List ℕ) (w : World) (a : State) → Agreeing gone w a → free_cells a.world.heap ≡ free_after w
free_same gone w a is =
    let all : length (numbers_of w) ≡ length w.heap.objects = length-map w.heap.objects (λ o. o.no) in
    let here : length (numbers_of a.world) ≡ length a.world.heap.objects =
    length-map a.world.heap.objects (λ o. o.no) in
    let counted = is.counted in
    let left : length a.world.heap.objects ≡ length w.heap.objects - w.swept = omega (arith, all, here, counted) in
    ap (λ (u : World). u.heap.config.cells - length a.world.heap.objects) is.agrees
    ∙ ap (λ k. w.heap.config.cells - k) left

begins : (gone : List ℕ) (w : World) (a c : State) (now : ℕ) (how : Urgency) (n : ℕ) → Agreeing gone w a
    → a.world.phase ≡ Idle → settled c ≡ settled (outcome a (heap.Plain (plain.Begin now how)) (replies.Cycle n))
    → Agreeing gone (begun w (free_after w) now how n) c
begins gone w a c now how n is idle leads =
    let none : is_waiting a ≡ (λ n. false) = none_waits a Idle idle refl in
    let world : c.world ≡ begun a.world (free_cells a.world.heap) now how n = ap (λ (s : State). s.world) leads in
    let quiet : is_waiting c ≡ (λ n. false) = none_waits c Marking (ap (λ (u : World). u.phase) world) refl in
    let numbers : numbers_of c.world ≡ numbers_of a.world = ap numbers_of world in
    let next : a.next ≡ c.next = ap (λ (s : State). s.next) (sym leads) in
    record {
      agrees = world ∙ ap (λ (u : World). begun u (free_cells a.world.heap) now how n) is.agrees
          ∙ ap (λ free. under gone (is_waiting a) (begun w free now how n)) (free_same gone w a is)
          ∙ ap (λ (these : ℕ → Bool). under gone these (begun w (free_after w) now how n)) (none ∙ sym quiet);
      rising = is.rising;
      below = subst (λ k. AreBelow k (numbers_of w)) next is.below;
      gone_below = subst (λ k. AreBelow k gone) next is.gone_below;
      doomed_below = λ n there. absurd (false≢true (ap (λ (s : State). has s.doomed n) (sym leads) ∙ there));
      cleared_below = λ n there. absurd (false≢true (ap (λ (s : State). has s.cleared n) (sym leads) ∙ there));
      cleared_stay = λ clearing n there.
          absurd (false≢true (ap (λ (s : State). has s.cleared n) (sym leads) ∙ there));
      listed = subst (λ (d : List ℕ). Sub d (numbers_of c.world)) (ap (λ (s : State). s.doomed) (sym leads))
          (sub_none (numbers_of c.world));
      counted = is.counted ∙ ap (λ (ns : List ℕ). length ns + w.swept) (sym numbers);
    }

-- a cycle begins
pub begin_agrees : (gone : List ℕ) (w : World) (a c : State) (now : ℕ) (how : Urgency) (reply : Reply)
    → Agreeing gone w a → a.world.phase ≡ Idle → HeapAccepts a (heap.Plain (plain.Begin now how)) reply c
    → Agreeing gone (after_heap w (heap.Plain (plain.Begin now how)) reply) c
begin_agrees gone w a c now how reply is idle row =
    let n = a.world.cycle + 1 in
    subst (λ (r : Reply). Agreeing gone (after_heap w (heap.Plain (plain.Begin now how)) r) c) (sym row.0)
    (begins gone w a c now how n is idle
    (heap_outcome a c (heap.Plain (plain.Begin now how)) reply tt row
    ∙ ap (λ (r : Reply). settled (outcome a (heap.Plain (plain.Begin now how)) r)) row.0))

-- ---- a worker's look

-- it goes last in the pending list where it is registered
pended_under : (gone : List ℕ) (these : ℕ → Bool) (w : World) (k n : ℕ) (queue : Option ℕ)
    → pended (under gone these w) k n queue ≡ under gone these (pended w k n queue)
pended_under gone these w k n None = refl
pended_under gone these w k n (Some q) = refl

-- a row that takes the first off what a worker found, and leaves this world
module _ (gone : List ℕ) (w v : World) (a c : State) (k n : ℕ) (is : Agreeing gone w a)
    (clearing : a.world.phase ≡ Clearing) (phase : v.phase ≡ a.world.phase) (looks : Looks a k n)
    (leads : settled c ≡ settled (with_world (found_less a k) v)) where
  now_clearing : c.world.phase ≡ a.world.phase
  now_clearing = ap (λ (s : State). s.world.phase) leads ∙ phase

  -- the same waits but for n
  others_wait : (m : ℕ) → (n == m) ≡ false → is_waiting a m ≡ is_waiting c m
  others_wait m other =
      let left : c.found ≡ slice_set a.found k looks.rest =
      ap (λ (s : State). s.found) leads ∙ ap (λ (ns : List ℕ). slice_set a.found k (drop 1 ns)) looks.first in
      let found : has (joined a.found) m ≡ has (joined c.found) m =
      has-found a.found k n looks.rest m looks.first ∙ simp other refl
      ∙ ap (λ (ls : List (List ℕ)). has (joined ls) m) (sym left) in
      ap (λ (b : Bool). is_in a.world.phase Clearing && (b && has a.cleared m)) found
      ∙ ap (λ (ns : List ℕ). is_in a.world.phase Clearing && (has (joined c.found) m && has ns m))
      (ap (λ (s : State). s.cleared) (sym leads))
      ∙ ap (λ (p : Phase). is_in p Clearing && (has (joined c.found) m && has c.cleared m)) (sym now_clearing)

  -- and so it is kept, where the world agrees with one that has the same numbers
  looked_agrees : (next : World) → numbers_of next ≡ numbers_of w → next.swept ≡ w.swept
      → numbers_of v ≡ numbers_of a.world → Agrees gone next c → Agreeing gone next c
  looked_agrees next numbers swept here agrees =
      let old : numbers_of w ≡ numbers_of next = sym numbers in
      let after : a.next ≡ c.next = ap (λ (s : State). s.next) (sym leads) in
      let there : numbers_of a.world ≡ numbers_of c.world =
      sym (ap (λ (s : State). numbers_of s.world) leads ∙ here) in
      let doomed : a.doomed ≡ c.doomed = ap (λ (s : State). s.doomed) (sym leads) in
      let clears : a.cleared ≡ c.cleared = ap (λ (s : State). s.cleared) (sym leads) in
      record {
        agrees = agrees;
        rising = subst IsRising old is.rising;
        below = subst (λ m. AreBelow m (numbers_of next)) after (subst (AreBelow a.next) old is.below);
        gone_below = subst (λ m. AreBelow m gone) after is.gone_below;
        doomed_below = subst (λ m. AreBelow m c.doomed) after (subst (AreBelow a.next) doomed is.doomed_below);
        cleared_below = subst (λ m. AreBelow m c.cleared) after (subst (AreBelow a.next) clears is.cleared_below);
        cleared_stay = λ _ m cleared.
            is.cleared_stay clearing m (ap (λ (ns : List ℕ). has ns m) clears ∙ cleared);
        listed = subst (Sub c.doomed) there
            (subst (λ (d : List ℕ). Sub d (numbers_of a.world)) doomed is.listed);
        counted = ap length numbers ∙ is.counted ∙ ap (λ (ns : List ℕ). length ns + w.swept) there
            ∙ ap (λ m. length (numbers_of c.world) + m) (sym swept);
      }

-- a worker cleared n, which the mark's end had cleared
pub cleared_agrees : (gone : List ℕ) (w : World) (a c : State) (k n : ℕ) → Agreeing gone w a
    → a.world.phase ≡ Clearing → has a.cleared n ≡ true → Looks a k n
    → settled c ≡ settled (outcome a (heap.Plain (plain.ClearNext k)) (replies.Cleared n))
    → Agreeing gone (cleared_for w k n) c
cleared_agrees gone w a c k n is clearing clears looks leads =
    let os : List Object = w.heap.objects in
    let mine : Option ℕ = registered_in (reference_at a.world.heap n) in
    let queue : Option ℕ = registered_in (reference_at w.heap n) in
    let v : World = pended a.world k n mine in
    let phase : v.phase ≡ a.world.phase = ap (λ (u : World). u.phase) (stage_pended a.world k n mine) in
    let own : (n == n) ≡ true = eq-eqb n n refl in
    let found : has (joined a.found) n ≡ true =
    has-found a.found k n looks.rest n looks.first ∙ simp own refl in
    let waits : is_waiting a n ≡ true =
    ap (λ (p : Phase). is_in p Clearing && (has (joined a.found) n && has a.cleared n)) clearing
    ∙ simp (found, clears) refl in
    let these : ℕ → Bool = is_waiting c in
    let objects : objects_under gone (is_waiting a) os
    ≡ objects_under gone these (changed_at os n (with_reference cleared)) =
    looked-waiting (is_waiting a) these n (others_wait gone w v a c k n is clearing phase looks leads)
    (without gone os) (rising-without gone os is.rising) waits
    ∙ ap (map (λ o. cleared_if these o)) (sym (without-changed_at gone os n (with_reference cleared) (λ o. refl))) in
    let next : World = with_heap w (with_changed w.heap n (with_reference cleared)) in
    let same_queue : mine ≡ queue =
    ap (λ (u : World). registered_in (reference_at u.heap n)) is.agrees
    ∙ seen_queue (is_waiting a) gone os n (is.cleared_stay clearing n clears) in
    looked_agrees gone w v a c k n is clearing phase looks leads (cleared_for w k n)
    (numbers_same w (heap.Plain (plain.ClearNext k)) (replies.Cleared n) tt)
    (same_swept w (heap.Plain (plain.ClearNext k)) (replies.Cleared n) tt) (numbers_pended a.world k n mine)
    (ap (λ (s : State). s.world) leads ∙ ap (pended a.world k n) same_queue
    ∙ ap (λ (u : World). pended u k n queue)
    (is.agrees ∙ ap (λ (ps : List Object). with_heap w (record w.heap { objects = ps })) objects)
    ∙ pended_under gone these next k n queue)

-- a worker kept n or skipped it, which the mark's end hadn't cleared
pub passed_agrees : (gone : List ℕ) (w : World) (a c : State) (k n : ℕ) → Agreeing gone w a
    → a.world.phase ≡ Clearing → has a.cleared n ≡ false → Looks a k n
    → settled c ≡ settled (found_less a k) → Agreeing gone w c
passed_agrees gone w a c k n is clearing keeps looks leads =
    grind (arith, others_wait gone w a.world a c k n is clearing)

-- ---- a sweep

has-taken : (i : ℕ) (ns : List ℕ) (n : ℕ) → has (take i ns) n ≡ true → has ns n ≡ true
has-taken i ns n h =
    subst (λ ms. has ms n ≡ true) (take-append-drop i ns) (has-left (take i ns) (drop i ns) n h)

has-dropped : (i : ℕ) (ns : List ℕ) (n : ℕ) → has (drop i ns) n ≡ true → has ns n ≡ true
has-dropped i ns n h =
    subst (λ ms. has ms n ≡ true) (take-append-drop i ns) (has-right (take i ns) (drop i ns) n h)

-- a sweep answers how many it takes off the doomed
pub swept_count : (a c : State) (d : List ℕ) (count : ℕ) → Sweeps a d (replies.Swept count) c
    → count ≡ length (take 64 d)
swept_count a c [] count row = absurd cc
swept_count a c (n ∷ ns) count row =
    let told : count ≡ min 64 (length (n ∷ ns)) = cc in told ∙ sym (length-take 64 (n ∷ ns))

pub swept_agrees : (gone : List ℕ) (w : World) (a c : State) (k count : ℕ) → Agreeing gone w a
    → a.world.phase ≡ Sweeping → count ≡ length (take 64 a.doomed)
    → settled c ≡ settled (outcome a (heap.Plain (plain.Sweep k)) (replies.Swept count))
    → Agreeing (gone ++ take 64 a.doomed) (with_swept w count) c
swept_agrees gone w a c k count is sweeping told leads =
    let front = take 64 a.doomed in
    let back = drop 64 a.doomed in
    let os = a.world.heap.objects in
    let swept : World → World =
    λ u. with_swept (with_heap u (record u.heap { objects = without front u.heap.objects })) count in
    let next : a.next ≡ c.next = ap (λ (s : State). s.next) (sym leads) in
    let doomed : back ≡ c.doomed = ap (λ (s : State). s.doomed) (sym leads) in
    let clears : a.cleared ≡ c.cleared = ap (λ (s : State). s.cleared) (sym leads) in
    let world : c.world ≡ swept a.world = ap (λ (s : State). s.world) leads in
    let phase : c.world.phase ≡ Sweeping = ap (λ (u : World). u.phase) world ∙ sweeping in
    let none : is_waiting a ≡ (λ n. false) = none_waits a Sweeping sweeping refl in
    let quiet : is_waiting c ≡ (λ n. false) = none_waits c Sweeping phase refl in
    let rising : IsRising (numbers_of a.world) =
    subst IsRising (sym (ap numbers_of (as_there gone w a Sweeping is.agrees sweeping refl)))
    (rising-without gone w.heap.objects is.rising) in
    let left = swept_front front back os rising
    (subst (λ (d : List ℕ). Sub d (numbers os)) (sym (take-append-drop 64 a.doomed)) is.listed) in
    let there : numbers (without front os) ≡ numbers_of c.world = sym (ap numbers_of world) in
    let taken = left.1 in
    let counted = is.counted in
    record {
      agrees = world
          ∙ ap swept is.agrees
          ∙ ap (λ (ps : List Object). with_swept (with_heap w (record w.heap { objects = ps })) count)
          (seen_swept (is_waiting a) gone front w.heap.objects)
          ∙ ap (λ (these : ℕ → Bool). under (gone ++ front) these (with_swept w count)) (none ∙ sym quiet);
      rising = is.rising;
      below = subst (λ m. AreBelow m (numbers_of w)) next is.below;
      gone_below = λ n out.
          subst (λ m. n < m) next
          (elim (has-cases gone front n out) [
            | inl was ↦ is.gone_below n was
            | inr now ↦ is.doomed_below n (has-taken 64 a.doomed n now)
          ]);
      doomed_below = λ n there.
          subst (λ m. n < m) next
          (is.doomed_below n (has-dropped 64 a.doomed n (ap (λ (ns : List ℕ). has ns n) doomed ∙ there)));
      cleared_below = subst (λ m. AreBelow m c.cleared) next (subst (AreBelow a.next) clears is.cleared_below);
      cleared_stay = λ clearing n cleared. absurd (not_in c Sweeping phase refl clearing);
      listed = subst (Sub c.doomed) there
          (subst (λ (d : List ℕ). Sub d (numbers (without front os))) doomed left.0);
      counted =
          let here : length (numbers_of w) ≡ length (numbers (without front os)) + (w.swept + count) =
          omega (arith, counted, taken, told) in
          here ∙ ap (λ (ns : List ℕ). length ns + (w.swept + count)) there;
    }
