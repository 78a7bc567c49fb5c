-- Each row of a heap keeps that what a worker has cleared no worker clears again: it has no referent any more, and
-- doesn't wait to be cleared.
use Rattle.ref_share.proofs.Common.{arith, ◌≡◌, ℕ, ◌+◌, Bool, true, false, ◌==◌, List, [], ◌∷◌, Option, Some, None, inl}
use Rattle.ref_share.proofs.Common.{inr, refl, sym, ap, ◌∙◌, subst, slice_set, cases_Bool, false≢true, is_waiting}
use Rattle.ref_share.proofs.Common.{EndsMark, HeapAccepts, doomed_at, is_subsequence, referent_of, State, joined}
use Rattle.ref_share.proofs.Common.{new_clears, NamedStep, has, AreDistinct, heap_refusal, World, Reply}
use Rattle.std.proofs.Common.{◌&&◌, drop}
use Rattle.std.proofs.lemmas.Bool.{and_right, or_parts, or_right}
use Rattle.ref_base.specs.CollectorRows.{list_at, AreFound, references_among}
use Rattle.ref_base.specs.Graphs.{Object, Reference, numbers}
use Rattle.ref_base.specs.declared.phase.Phase.TheVariants.{Marking, Clearing, Idle, Moving, Sweeping}
use Rattle.ref_base.specs.DoomedSets.{any_is, refers_into}
use Rattle.ref_base.specs.Strengths.{IsRising}
use Rattle.ref_base.specs.Refusals.{is_in}
use Rattle.ref_base.specs.Replay.{handed_each, handed_on}
use Rattle.ref_base.specs.Worlds.{Notice}
use Rattle.ref_base.specs.declared.phase.Phase.{Phase}
use Rattle.ref_base.proofs.AgreeHeaps.{Agreeing, none_waits}
use Rattle.ref_base.proofs.ClearedOnwards.{StaysCleared, cleared_at, ended_cleared, heap_cleared}
use Rattle.ref_base.proofs.Outcomes.{IsNoEnd, heap_outcome, outcome}
use Rattle.ref_base.proofs.OutcomeParts.{outcome_phase}
use Rattle.ref_base.proofs.NewClears.{has-new_clears}
use Rattle.ref_base.proofs.OldNames.{old_objects, rising_objects}
use Rattle.ref_base.proofs.PhaseLaws.{of_phase}
use Rattle.ref_base.proofs.ReplayKeeps.{EndsNoPhase}
use Rattle.ref_base.proofs.Subsequences.{Sub, sub_none, sub_through, sub_behind, sub_before}
use Rattle.ref_base.proofs.WaitingClears.{Looks, Tells, look_tells}
use Rattle.ref_mark.proofs.DistinctLists.{AreDistinct-taken, has-taken, has-first_taken}
use Rattle.ref_base.specs.declared.heap_step.HeapStep.TheVariants as heap
use Rattle.ref_base.specs.declared.plain_step.PlainStep.TheVariants as plain
use Rattle.ref_base.specs.declared.reply.Reply.TheVariants as told

-- ---- what workers found stands once, as what they scanned does

sub_of : (ms ns : List ℕ) → is_subsequence ms ns ≡ true → Sub ms ns
sub_of [] ns sub = sub_none ns
sub_of (m ∷ ms) [] sub = absurd (false≢true sub)
sub_of (m ∷ ms) (n ∷ ns) sub = grind (arith, sub_of ms ns, sub_of (m ∷ ms) ns)

sub_references : (os : List Object) (ns : List ℕ) → Sub (references_among os ns) ns
sub_references os [] = refl
sub_references os (n ∷ ns) = grind (arith, sub_references os ns)

sub_found : (os : List Object) (scanned found : List (List ℕ)) → AreFound os scanned found
    → Sub (joined found) (joined scanned)
sub_found os [] [] are = refl
sub_found os [] (fs ∷ found) are = absurd are
sub_found os (ss ∷ scanned) [] are = absurd are
sub_found os (ss ∷ scanned) (fs ∷ found) are =
    search (sub_through, sub_of, sub_before, sub_found os scanned found are.1, sub_references os ss, sub_behind ss)

sub_has : (ms ns : List ℕ) (n : ℕ) → Sub ms ns → has ns n ≡ false → has ms n ≡ false
sub_has ms [] n sub none = ap (λ ns. has ns n) sub
sub_has ms (k ∷ ns) n sub none =
    let parts = or_parts (k == n) (has ns n) none in
    elim sub [
      | inl passed ↦ sub_has ms ns n passed parts.1
      | inr taken ↦
          let first : (k == n) ≡ false = parts.0 in
          ap (λ ls. has ls n) taken.1 ∙ simp first (sub_has taken.0 ns n taken.2 parts.1)
    ]

sub_distinct : (ms ns : List ℕ) → Sub ms ns → AreDistinct ns → AreDistinct ms
sub_distinct ms [] sub distinct = subst AreDistinct (sym sub) tt
sub_distinct ms (n ∷ ns) sub distinct =
    elim sub [
      | inl passed ↦ sub_distinct ms ns passed distinct.1
      | inr taken ↦
          subst AreDistinct (sym taken.1)
          (sub_has taken.0 ns n taken.2 distinct.0, sub_distinct taken.0 ns taken.2 distinct.1)
    ]

-- ---- what waits to be cleared

-- while references are cleared: each that is found stands once, and each that the mark's end cleared has no referent
pub record Waits (a : State) : Type 0 where
  pub once : a.world.phase ≡ Clearing → AreDistinct (joined a.found)
  pub cleared : a.world.phase ≡ Clearing → (n : ℕ) → has a.cleared n ≡ true → StaysCleared n a

-- n has no referent any more, and doesn't wait
abbrev pub IsPast : ℕ → State → Type 0
IsPast n a = StaysCleared n a × (is_waiting a n ≡ false)

module _ (a b : State) (step : NamedStep) (reply : Reply) (row : HeapAccepts a step reply b) where
  -- a row into a phase in which no reference is cleared
  module _ (phase : Phase) (into : b.world.phase ≡ phase) (other : is_in phase Clearing ≡ false) where
    turned_past : (n : ℕ) → IsPast n a → IsPast n b
    turned_past n is =
        (heap_cleared n a b step reply is.0 row, ap (λ (waits : ℕ → Bool). waits n) (none_waits b phase into other))

  -- a row that stays in the phase, and after which those are found that were found before
  module _ (phase : b.world.phase ≡ a.world.phase) (found : b.found ≡ a.found) (clears : b.cleared ≡ a.cleared) where
    still_waits : Waits a → Waits b
    still_waits waits = record {
      once = λ clearing.
          subst (λ (fs : List (List ℕ)). AreDistinct (joined fs)) (sym found) (waits.once (sym phase ∙ clearing));
      cleared = λ clearing n is.
          heap_cleared n a b step reply
          (waits.cleared (sym phase ∙ clearing) n (ap (λ ns. has ns n) (sym clears) ∙ is)) row;
    }

    still_past : (n : ℕ) → IsPast n a → IsPast n b
    still_past n is = grind (arith, heap_cleared n)

  -- a worker looks at the first that it found
  module _ (k n : ℕ) (looks : Looks a k n) (clearing : a.world.phase ≡ Clearing)
      (phase : b.world.phase ≡ a.world.phase) (found : b.found ≡ slice_set a.found k (drop 1 (list_at a.found k)))
      (clears : b.cleared ≡ a.cleared) (waits : Waits a) where
    left : b.found ≡ slice_set a.found k looks.rest
    left = found ∙ ap (λ (ns : List ℕ). slice_set a.found k (drop 1 ns)) looks.first

    taken : (has (joined (slice_set a.found k looks.rest)) n ≡ false)
        × AreDistinct (joined (slice_set a.found k looks.rest))
    taken = AreDistinct-taken a.found k n looks.rest looks.first (waits.once clearing)

    waits_after : (m : ℕ) → is_waiting b m ≡ (is_in a.world.phase Clearing
        && (has (joined (slice_set a.found k looks.rest)) m && has a.cleared m))
    waits_after m = search left

    looked_waits : Waits b
    looked_waits = record {
      once = λ _. subst (λ (fs : List (List ℕ)). AreDistinct (joined fs)) (sym left) taken.1;
      cleared = λ _ m is.
          heap_cleared m a b step reply
          (waits.cleared clearing m (ap (λ ns. has ns m) (sym clears) ∙ is)) row;
    }

    looked_past : (m : ℕ) → IsPast m a → IsPast m b
    looked_past m is =
        let later : Bool = has (joined (slice_set a.found k looks.rest)) m in (
          heap_cleared m a b step reply is.0 row,
          elim (cases_Bool later) [
            | inl there ↦
                let before : has (joined a.found) m ≡ true =
                has-taken a.found k n looks.rest looks.first m ∙ or_right (n == m) later there in
                let same : (later && has a.cleared m) ≡ (has (joined a.found) m && has a.cleared m) =
                ap (λ (t : Bool). t && has a.cleared m) (there ∙ sym before) in
                waits_after m ∙ ap (λ (t : Bool). is_in a.world.phase Clearing && t) same ∙ is.1
            | inr gone ↦
                waits_after m ∙ ap (λ (t : Bool). is_in a.world.phase Clearing && (t && has a.cleared m)) gone
                ∙ and_right (is_in a.world.phase Clearing) false refl
          ],
        )

    -- what it clears waited until then
    clears_waiting : has a.cleared n ≡ true → is_waiting a n ≡ true
    clears_waiting is = grind (arith, has-first_taken)

    clears_past : has a.cleared n ≡ true → IsPast n b
    clears_past is = (
      heap_cleared n a b step reply (waits.cleared clearing n is) row,
      waits_after n ∙ ap (λ (t : Bool). is_in a.world.phase Clearing && (t && has a.cleared n)) taken.0
          ∙ and_right (is_in a.world.phase Clearing) false refl,
    )

-- ---- a mark's end

refers_none : (d : List ℕ) (r : Option Reference) → referent_of r ≡ None → refers_into (has d) r ≡ false
refers_none d None none = refl
refers_none d (Some r) none = ap (any_is (has d)) none

-- a reference that has no referent is no new clear
no_new_clear : (a : State) (d : List ℕ) (n : ℕ) → IsRising (numbers a.world.heap.objects) → StaysCleared n a
    → has (new_clears a.world.heap.objects d) n ≡ false
no_new_clear a d n rising is = search (refers_none, cleared_at, has-new_clears, and_right)

module _ (gone : List ℕ) (w : World) (a b : State) (reply : Reply) (is : Agreeing gone w a)
    (row : EndsMark a reply b) where
  ended_waits : AreDistinct (joined a.scanned) → Waits b
  ended_waits distinct = record {
    once = λ _.
        subst (λ (s : State). AreDistinct (joined s.found)) (sym row.after)
        (sub_distinct (joined row.found) (joined a.scanned)
        (sub_found a.world.heap.objects a.scanned row.found row.are_found) distinct);
    cleared = λ _ n within.
        ended_cleared a b reply n (rising_objects gone w a is) (old_objects gone w a is) row
        (ap (λ (s : State). has s.cleared n) (sym row.after) ∙ within);
  }

  ended_past : (n : ℕ) → IsPast n a → IsPast n b
  ended_past n past = (
    heap_cleared n a b (heap.Plain plain.EndMark) reply past.0 row,
    and_right (is_in b.world.phase Clearing) _
        (and_right (has (joined b.found) n) (has b.cleared n)
        (ap (λ (s : State). has s.cleared n) row.after
        ∙ no_new_clear a (doomed_at a) n (rising_objects gone w a is) past.0)),
  )

-- ---- any row

-- the row begins no phase, and isn't a look
abbrev IsCalm : NamedStep → Type 0
IsCalm (heap.Plain (plain.ClearNext k)) = ⊥
IsCalm step = EndsNoPhase step

-- no hand ends a phase
handed_phase : (w : World) (k : ℕ) (notices : List Notice) → (handed_each w k notices).phase ≡ w.phase
handed_phase w k [] = refl
handed_phase w k (notice ∷ rest) = handed_phase (handed_on w k notice.object) k rest

-- it keeps what it keeps, where these three stay
module _ (gone : List ℕ) (w : World) (a b : State) (is : Agreeing gone w a) (distinct : AreDistinct (joined a.scanned))
    (waits : Waits a) where
  abbrev Keeps : Type 0
  Keeps = Waits b × ((n : ℕ) → IsPast n a → IsPast n b)

  calm_keeps : (step : NamedStep) (reply : Reply) → IsCalm step → HeapAccepts a step reply b → Keeps
  calm_keeps step reply calm row = grind (arith, heap_outcome, still_waits, still_past, handed_phase)

  turn_keeps : (step : NamedStep) (reply answer : Reply) (phase : Phase) → IsNoEnd step → HeapAccepts a step reply b
      → reply ≡ answer → (outcome a step answer).world.phase ≡ phase → is_in phase Clearing ≡ false → Keeps
  turn_keeps step reply answer phase no_end row told_as into other = grind (arith, heap_outcome, turned_past)

  -- a look at n, whichever answer tells of it
  looked_keeps : (k n : ℕ) (reply : Reply) → Looks a k n → heap_refusal a (heap.Plain (plain.ClearNext k)) ≡ None
      → (outcome a (heap.Plain (plain.ClearNext k)) reply).world.phase ≡ a.world.phase
      → (outcome a (heap.Plain (plain.ClearNext k)) reply).found ≡ slice_set a.found k (drop 1 (list_at a.found k))
      → (outcome a (heap.Plain (plain.ClearNext k)) reply).cleared ≡ a.cleared
      → HeapAccepts a (heap.Plain (plain.ClearNext k)) reply b → Keeps
  looked_keeps k n reply looks none phase found clears row =
      let step : NamedStep = heap.Plain (plain.ClearNext k) in
      let leads = heap_outcome a b step reply tt row in
      let now = ap (λ (s : State). s.world.phase) leads ∙ phase in
      let left = ap (λ (s : State). s.found) leads ∙ found in
      let same = ap (λ (s : State). s.cleared) leads ∙ clears in
      let clearing = of_phase a step none in (
        looked_waits a b step reply row k n looks clearing now left same waits,
        looked_past a b step reply row k n looks clearing now left same waits,
      )

  look_keeps : (k : ℕ) (reply : Reply) → heap_refusal a (heap.Plain (plain.ClearNext k)) ≡ None
      → HeapAccepts a (heap.Plain (plain.ClearNext k)) reply b → Keeps
  look_keeps k (told.Cleared n) none row = grind (arith, looked_keeps k n (told.Cleared n))
  look_keeps k (told.Kept n) none row = grind (arith, looked_keeps k n (told.Kept n))
  look_keeps k (told.Skipped n) none row = grind (arith, looked_keeps k n (told.Skipped n))
  look_keeps k reply none row = grind arith

  -- nothing changed
  same_keeps : b ≡ a → Keeps
  same_keeps same = (subst Waits (sym same) waits, λ n past. subst (λ (s : State). IsPast n s) (sym same) past)

  -- what waits stays as it should, and what is past stays so
  pub heap_keeps : (step : NamedStep) (reply : Reply) → heap_refusal a step ≡ None → HeapAccepts a step reply b
      → Keeps
  heap_keeps (heap.Plain plain.EndMark) reply none row =
      (ended_waits gone w a b reply is row distinct, ended_past gone w a b reply is row)
  heap_keeps (heap.Plain (plain.ClearNext k)) reply none row = look_keeps k reply none row
  heap_keeps (heap.Plain (plain.Begin now how)) reply none row =
      turn_keeps (heap.Plain (plain.Begin now how)) reply (told.Cycle (a.world.cycle + 1)) Marking tt row row.0 refl
      refl
  heap_keeps (heap.Plain plain.EndClear) reply none row =
      turn_keeps (heap.Plain plain.EndClear) reply told.Done Sweeping tt row row.0 refl refl
  heap_keeps (heap.Plain plain.EndSweep) reply none row =
      turn_keeps (heap.Plain plain.EndSweep) reply told.Done Idle tt row row.0 refl refl
  heap_keeps (heap.Plain plain.Select) reply none row =
      elim row [
        | inl chosen ↦
            turn_keeps (heap.Plain plain.Select) reply (told.Selected chosen.0) Moving tt (inl chosen)
            chosen.1.0 refl refl
        | inr refused ↦ same_keeps refused.1
      ]
  heap_keeps (heap.Plain plain.EndMove) reply none row =
      elim row [
        | inl ended ↦ turn_keeps (heap.Plain plain.EndMove) reply told.Done Idle tt (inl ended) ended.0 refl refl
        | inr refused ↦ same_keeps refused.1
      ]
  heap_keeps step reply none row = calm_keeps step reply tt row

  -- and what a worker clears waited, and is past then
  pub clears_once : (k n : ℕ) → heap_refusal a (heap.Plain (plain.ClearNext k)) ≡ None
      → HeapAccepts a (heap.Plain (plain.ClearNext k)) (told.Cleared n) b → (is_waiting a n ≡ true) × IsPast n b
  clears_once k n none row =
      let tells : Tells a k (told.Cleared n) = look_tells a b k (list_at a.found k) (told.Cleared n) refl row in
      let leads = heap_outcome a b (heap.Plain (plain.ClearNext k)) (told.Cleared n) tt row in
      let phase = ap (λ (s : State). s.world.phase) leads
      ∙ outcome_phase a (heap.Plain (plain.ClearNext k)) (told.Cleared n) tt in
      let found = ap (λ (s : State). s.found) leads in
      let clears = ap (λ (s : State). s.cleared) leads in
      let clearing = of_phase a (heap.Plain (plain.ClearNext k)) none in (
        clears_waiting a b (heap.Plain (plain.ClearNext k)) (told.Cleared n) row k n tells.1 clearing phase found clears
            waits
            tells.0,
        clears_past a b (heap.Plain (plain.ClearNext k)) (told.Cleared n) row k n tells.1 clearing phase found clears
            waits tells.0,
      )
