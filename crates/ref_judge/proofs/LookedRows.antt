-- What a judge tells of a worker that looks at the next reference that it found.
use Rattle.ref_base.proofs.Common.{arith, ◌≡◌, ◌≤◌, ℕ, ◌<◌, zero, suc, ◌==◌, Bool, true, false, List, [], ◌∷◌, ◌++◌}
use Rattle.ref_base.proofs.Common.{length, map, drop, Option, Some, None, refl, sym, ap, ◌∙◌, subst, inl, inr}
use Rattle.ref_base.proofs.Common.{cases_Bool, false≢true, true≢false, has, State, World, Heap, is_in, is_some}
use Rattle.ref_base.proofs.Common.{slice_index_or, slice_set, list_at, looked_at, pended, pending_of, IsRow, length-map}
use Rattle.ref_base.proofs.Common.{eqb-true, eq-eqb, joined, if◌then◌else◌, registered_in, reference_at}
use Rattle.ref_base.proofs.Common.{references_among, append-nil}
use Rattle.std.proofs.Common.{length-append, length-drop}
use Rattle.std.specs.Prelude.{Ok}
use Rattle.std.proofs.Math.Seq.{drop-nil}
use Rattle.std.proofs.lemmas.List.{drop-map, drop-drop, map-set, set-get_or, get_or_past}
use Rattle.ref_base.specs.CollectorRows.{referent_of}
use Rattle.ref_base.specs.Graphs.{Reference}
use Rattle.ref_base.specs.Members.{AreDistinct}
use Rattle.ref_base.specs.Refusals.{work_refusal}
use Rattle.ref_base.specs.Worlds.{Pending}
use Rattle.ref_base.specs.declared.phase.Phase.{Phase}
use Rattle.ref_base.specs.declared.phase.Phase.TheVariants.{Marking, Clearing}
use Rattle.ref_base.specs.declared.plain_step.PlainStep.TheVariants as plain
use Rattle.ref_base.specs.declared.reply.Reply.{Reply}
use Rattle.ref_base.specs.declared.reply.Reply.TheVariants as replies
use Rattle.ref_base.specs.declared.row.Row.{Row}
use Rattle.ref_base.proofs.Forgetting.{reference_of-but}
use Rattle.ref_base.proofs.FoundFits.{NoneOf}
use Rattle.ref_base.proofs.FoundLists.{references_among-has}
use Rattle.ref_base.proofs.FoundRows.{FitsFound, finding, looked_to, look_fits, fits_looked}
use Rattle.ref_base.proofs.FoundStates.{MayHaveFound, standing_with, some_fit}
use Rattle.ref_base.proofs.HasLaws.{has-first, has-left, has-right}
use Rattle.ref_base.proofs.MarkEndRows.{refs_of}
use Rattle.ref_base.proofs.PlainRows.{plain_row}
use Rattle.ref_judge.specs.Finding.{found_from, if_pending, looked_so, pending_so, IsLookAt}
use Rattle.ref_judge.specs.Judged.{Judged, Finder, finder_at, found_by, still_left, is_judging, unheld, AreToldCleared}
use Rattle.ref_judge.specs.ProfiledRows.{IsRowAs}
use Rattle.ref_judge.specs.Standing.{StandsFor, FitsIt, HasNone, Lawful, TellsOf, IsOfSomeState}
use Rattle.ref_judge.specs.declared.worker.Found.{Found}
use Rattle.ref_judge.proofs.ClearingRows.{found_fits, fits_found}
use Rattle.ref_judge.proofs.FoundNext.{GoesOn, objects, found_goes, unfound}
use Rattle.ref_judge.proofs.HandedOn.{finder_read, pending_same}
use Rattle.ref_judge.proofs.LegalFacts.{lawful_row}
use Rattle.ref_judge.proofs.PassedRows.{fits_refs, with_finder, finder_same, finder_other, in_clearing, within_workers}
use Rattle.ref_judge.proofs.PassedRows.{within_scanned, left_distinct}
use Rattle.ref_judge.proofs.ScannedSpared.{has_behind, lawful_spared}
use Rattle.ref_judge.proofs.SoundJudges.{sound_told}
use Rattle.ref_judge.proofs.TestedRows.{work_known}
use Rattle.ref_judge.proofs.UnchangedRows.{look_common}

-- ---- lists

-- what stands behind a number that stands once is one list
same_behind : (front back ahead behind : List ℕ) (n : ℕ) → AreDistinct (front ++ n ∷ back)
    → front ++ n ∷ back ≡ ahead ++ n ∷ behind → back ≡ behind
same_behind [] back [] behind n distinct is = cc
same_behind [] back (m ∷ ahead) behind n distinct is =
    let rest : back ≡ ahead ++ n ∷ behind = cc in
    absurd (false≢true
    (sym distinct.0 ∙ ap (λ (ns : List ℕ). has ns n) rest ∙ has-right ahead (n ∷ behind) n (has-first n behind)))
same_behind (f ∷ front) back [] behind n distinct is =
    let first : f ≡ n = cc in
    absurd (false≢true
    (sym distinct.0 ∙ ap (λ (m : ℕ). has (front ++ n ∷ back) m) first
    ∙ has-right front (n ∷ back) n (has-first n back)))
same_behind (f ∷ front) back (m ∷ ahead) behind n distinct is =
    let rest : front ++ n ∷ back ≡ ahead ++ n ∷ behind = cc in
    same_behind front back ahead behind n distinct.1 rest

-- what one list has, all have together
one_of_joined : (lists : List (List ℕ)) (k n : ℕ) → has (list_at lists k) n ≡ true → has (joined lists) n ≡ true
one_of_joined [] k n h = absurd (false≢true h)
one_of_joined (l ∷ lists) zero n h = has-left l (joined lists) n h
one_of_joined (l ∷ lists) (suc k) n h = has-right l (joined lists) n (one_of_joined lists k n h)

told_behind : (clears : List ℕ) (fs : List Found) (at : ℕ) → AreToldCleared clears fs
    → AreToldCleared clears (drop at fs)
told_behind clears [] zero told = tt
told_behind clears [] (suc at) told = tt
told_behind clears (f ∷ fs) zero told = told
told_behind clears (f ∷ fs) (suc at) told = told_behind clears fs at told.1

-- ---- answers

-- a look at a reference, by the state
so_looked : (is_cleared : Bool) (referent : Option ℕ) (n : ℕ) → looked_so is_cleared referent n
    ≡ (if is_cleared then replies.Cleared n else (if is_some referent then replies.Kept n else replies.Skipped n))
so_looked true referent n = refl
so_looked false (Some m) n = refl
so_looked false None n = refl

looked_is : (a : State) (k n : ℕ) → looked_at a k n
    ≡ looked_so (has a.cleared n) (referent_of (reference_at a.world.heap n)) n
looked_is a k n = sym (so_looked (has a.cleared n) (referent_of (reference_at a.world.heap n)) n)

-- it names the reference
so_names : (is_cleared : Bool) (referent : Option ℕ) (m n : ℕ) (reply : Reply) → IsLookAt reply n
    → reply ≡ looked_so is_cleared referent m → m ≡ n
so_names true referent m n reply (inl is) same = cc
so_names true referent m n reply (inr (inl is)) same = absurd cc
so_names true referent m n reply (inr (inr is)) same = absurd cc
so_names false (Some r) m n reply (inl is) same = absurd cc
so_names false (Some r) m n reply (inr (inl is)) same = cc
so_names false (Some r) m n reply (inr (inr is)) same = absurd cc
so_names false None m n reply (inl is) same = absurd cc
so_names false None m n reply (inr (inl is)) same = absurd cc
so_names false None m n reply (inr (inr is)) same = cc

no_nothing : (reply : Reply) (n : ℕ) → IsLookAt reply n → reply ≡ replies.Nothing → ⊥
no_nothing reply n (inl is) same = cc
no_nothing reply n (inr (inl is)) same = cc
no_nothing reply n (inr (inr is)) same = cc

-- what it adds to what is pending
looked_world : (w : World) (k n : ℕ) (is_cleared : Bool) (queue : Option ℕ)
    → (if is_cleared then pended w k n queue else w)
    ≡ record w {
      pending = slice_set w.pending k (pending_of w k ++ if_pending (pending_so is_cleared queue n w.cycle));
    }
looked_world w k n true (Some q) = refl
looked_world w k n true None = nothing_more w k
  where
    nothing_more : (w : World) (k : ℕ) → w ≡ record w { pending = slice_set w.pending k (pending_of w k ++ []) }
    nothing_more w k =
        ap (λ (all : List (List Pending)). record w { pending = all })
        (sym (ap (slice_set w.pending k) (append-nil (pending_of w k)) ∙ set-get_or w.pending k []))
looked_world w k n false queue =
    ap (λ (all : List (List Pending)). record w { pending = all })
    (sym (ap (slice_set w.pending k) (append-nil (pending_of w k)) ∙ set-get_or w.pending k []))

-- ---- the finders with another one

-- what holds of the one and of the others
each_finder : (j : Judged) (k : ℕ) (w : Finder) (P : ℕ → Finder → Type 0) → k < length j.workers → P k w
    → ((i : ℕ) → (i == k) ≡ false → P i (finder_at j i)) → (i : ℕ) → P i (finder_at (with_finder j k w) i)
each_finder j k w P within here others i =
    elim (cases_Bool (i == k)) [
      | inl same ↦
          subst (λ (m : ℕ). P m (finder_at (with_finder j k w) m)) (sym (eqb-true i k same))
          (subst (P k) (sym (finder_same j k w within)) here)
      | inr other ↦
          subst (P i) (sym (finder_other j k i w (λ same. true≢false (sym (eq-eqb i k same) ∙ other))))
          (others i other)
    ]

-- ---- a look

-- what the judge knows that a look at n answers, and what is pending then
abbrev pub answer_by : Judged → Bool → ℕ → Reply
answer_by j is_cleared n = looked_so is_cleared (referent_of (reference_at j.ground.heap n)) n

abbrev pub pending_by : Judged → Bool → ℕ → Option Pending
pending_by j is_cleared n = pending_so is_cleared (registered_in (reference_at j.ground.heap n)) n j.cycle

-- the worker then
abbrev pub gone_on : Finder → ℕ → Option Pending → Finder
gone_on w next more = record w { at = next; pending = w.pending ++ if_pending more }

-- worker k may look at a reference
abbrev pub MayLook : Judged → ℕ → Type 0
MayLook j k = work_refusal j.ground.heap j.phase Clearing k ≡ None

module _ (j : Judged) (k n : ℕ) (none : MayLook j k) (reply : Reply)
    (names : IsLookAt reply n) where
  abbrev pub look_row : Row
  look_row = plain_row (plain.ClearNext k) reply

  -- what the worker may look at still
  abbrev left_here : List Found
  left_here = drop (finder_at j k).at (finder_at j k).found

  left_is : objects left_here ≡ still_left j k
  left_is = sym (drop-map (λ (f : Found). f.object) (finder_at j k).at (finder_at j k).found)

  module _ (a : State) (stands : StandsFor j a) where
    told_here : AreToldCleared a.cleared left_here
    told_here =
        told_behind a.cleared (finder_at j k).found (finder_at j k).at
        (stands.finders.cleared (ap (λ (p : Phase). is_in p Clearing) (in_clearing j k none a stands)) k)

    -- it looks at m, in front of which there is no new clear
    abbrev LooksAt : State → ℕ → Type 0
    LooksAt t m =
        (front : List ℕ) × (back : List ℕ) × (reply ≡ looked_at a k m) × (still_left j k ≡ front ++ m ∷ back)
        × NoneOf a.cleared front × FitsFound (looked_to a k m) (standing_with (still_left j) k back) false t

    -- a state that fits has the row only where that is n
    looks : (s t : State) → FitsIt j a s → IsRowAs j.profile s look_row t → LooksAt t n
    looks s t fits h =
        elim (look_fits a t (still_left j) j.some_left k (sym (work_known j a stands Clearing k) ∙ none)
        (within_scanned j k none a stands) s reply (left_distinct j k none a stands)
        (found_fits j a stands (in_clearing j k none a stands) s fits) ((look_common j.profile s t k reply).0 h)) [
          | inl nothing ↦ absurd (no_nothing reply n names nothing.0)
          | inr at ↦
              subst (LooksAt t)
              (so_names (has a.cleared at.0) (referent_of (reference_at a.world.heap at.0)) at.0 n reply names
              (at.3 ∙ looked_is a k at.0))
              (at.1, at.2, at.3, at.4, at.5, at.6)
        ]

    -- a reference that it may look at isn't doomed
    spared : has (still_left j k) n ≡ true → has a.doomed n ≡ false
    spared left =
        lawful_spared j.profile j.config a stands.lawful n
        (one_of_joined a.scanned k n
        (references_among-has a.world.heap.objects (list_at a.scanned k) n
        (sym (ap (λ (ns : List ℕ). has ns n)
        (stands.finders.found (ap is_judging (in_clearing j k none a stands)) k))
        ∙ has_behind (finder_at j k).at (found_by j k) n left)))

    -- so the judge has it as it is
    reference_same : has (still_left j k) n ≡ true → reference_at j.ground.heap n ≡ reference_at a.world.heap n
    reference_same left =
        ap (λ (h : Heap). reference_at h n) stands.heap
        ∙ reference_of-but a.doomed (unheld a.world.heap) (Some n) (spared left)

  -- no state that fits has the row where the reference isn't found
  pub not_found : found_from n (finder_at j k).at left_here ≡ None → (a : State) → StandsFor j a → HasNone j look_row a
  not_found is a stands s t fits h =
      let at = looks a stands s t fits h in
      unfound a.cleared n (finder_at j k).at left_here at.0 at.1 (told_here a stands) is (left_is ∙ at.3) at.4

  module _ (next : ℕ) (is_cleared : Bool)
      (found : found_from n (finder_at j k).at left_here ≡ Some (next, is_cleared)) where
    abbrev answer : Reply
    answer = answer_by j is_cleared n

    abbrev more : Option Pending
    more = pending_by j is_cleared n

    abbrev looked_finder : Finder
    looked_finder = gone_on (finder_at j k) next more

    -- the judge then
    abbrev pub looked : Judged
    looked = record (with_finder j k looked_finder) { some_left = false }

    module _ (a : State) (stands : StandsFor j a) where
      goes : GoesOn a.cleared n (finder_at j k).at left_here next is_cleared
      goes = found_goes a.cleared n (finder_at j k).at next is_cleared left_here (told_here a stands) found

      here : still_left j k ≡ goes.front ++ n ∷ goes.back
      here = sym left_is ∙ goes.is

      is_left : has (still_left j k) n ≡ true
      is_left =
          ap (λ (ns : List ℕ). has ns n) here ∙ has-right goes.front (n ∷ goes.back) n (has-first n goes.back)

      answer_known : answer ≡ looked_at a k n
      answer_known =
          ap (λ (r : Option Reference). looked_so is_cleared (referent_of r) n) (reference_same a stands is_left)
          ∙ ap (λ (b : Bool). looked_so b (referent_of (reference_at a.world.heap n)) n) goes.cleared
          ∙ sym (looked_is a k n)

      more_known : more ≡ pending_so (has a.cleared n) (registered_in (reference_at a.world.heap n)) n a.world.cycle
      more_known =
          ap (λ (r : Option Reference). pending_so is_cleared (registered_in r) n j.cycle)
          (reference_same a stands is_left)
          ∙ ap (λ (b : Bool). pending_so b (registered_in (reference_at a.world.heap n)) n j.cycle) goes.cleared
          ∙ ap (λ (c : ℕ). pending_so (has a.cleared n) (registered_in (reference_at a.world.heap n)) n c) stands.cycle

      -- the state then, in which workers found these
      abbrev after : List (List ℕ) → State
      after lists = record a {
        world = record a.world { pending = slice_set a.world.pending k (pending_of a.world k ++ if_pending more) };
        found = lists;
      }

      looked_after : looked_to a k n ≡ after a.found
      looked_after =
          ap (λ (w : World). record a { world = w })
          (looked_world a.world k n (has a.cleared n) (registered_in (reference_at a.world.heap n))
          ∙ ap (λ (p : Option Pending).
          record a.world { pending = slice_set a.world.pending k (pending_of a.world k ++ if_pending p) })
          (sym more_known))

      -- ---- what is left then

      behind : drop next (found_by j k) ≡ goes.back
      behind =
          ap (λ (i : ℕ). drop i (found_by j k)) goes.next_is
          ∙ sym (drop-drop (suc (length goes.front)) (finder_at j k).at (found_by j k))
          ∙ ap (λ (ns : List ℕ). drop (suc (length goes.front)) ns) (sym left_is) ∙ sym goes.behind

      left_looked : (i : ℕ) → still_left looked i ≡ standing_with (still_left j) k goes.back i
      left_looked =
          each_finder j k looked_finder
          (λ i w. drop w.at (map (λ (f : Found). f.object) w.found) ≡ standing_with (still_left j) k goes.back i)
          (within_workers j k none a stands) (let own : (k == k) ≡ true = eq-eqb k k refl in simp own behind)
          (λ i other. simp other refl)

      fits_looked_on : (t : State) (lists : List (List ℕ))
          → FitsFound (looked_to a k n) (standing_with (still_left j) k goes.back) false t
          → FitsFound (after lists) (still_left looked) false t
      fits_looked_on t lists fits =
          subst (λ (u : State). FitsFound u (still_left looked) false t) looked_after
          (fits_refs (looked_to a k n) t (standing_with (still_left j) k goes.back) (still_left looked) false
          (λ i. sym (left_looked i)) fits)

      looked_on_fits : (t : State) (lists : List (List ℕ)) → FitsFound (after lists) (still_left looked) false t
          → FitsFound (looked_to a k n) (standing_with (still_left j) k goes.back) false t
      looked_on_fits t lists fits =
          fits_refs (looked_to a k n) t (still_left looked) (standing_with (still_left j) k goes.back) false left_looked
          (subst (λ (u : State). FitsFound u (still_left looked) false t) (sym looked_after) fits)

      -- ---- the state

      pending_looked : map (λ (w : Finder). w.pending) (slice_set j.workers k looked_finder)
          ≡ slice_set a.world.pending k (pending_of a.world k ++ if_pending more)
      pending_looked =
          map-set (λ (w : Finder). w.pending) j.workers k looked_finder
          ∙ ap (λ (all : List (List Pending)). slice_set all k looked_finder.pending) stands.finders.pending
          ∙ ap (λ (ps : List Pending). slice_set a.world.pending k (ps ++ if_pending more))
          (sym (pending_same j a stands k))

      within_looked : next ≤ length (finder_at j k).found
      within_looked =
          let lens = ap length here ∙ length-append goes.front (n ∷ goes.back) in
          let left = length-drop (finder_at j k).at (found_by j k) in
          let all = length-map (finder_at j k).found (λ (f : Found). f.object) in
          let is = goes.next_is in
          omega (arith, lens, left, all, is)

      in_phase : j.phase ≡ Clearing
      in_phase = in_clearing j k none a stands

      stands_looked : (lists : List (List ℕ)) → Lawful j.profile j.config (after lists)
          → StandsFor looked (after lists)
      stands_looked lists lawful =
          let s = stands in
          let told = s.finders in
          let there = within_workers j k none a s in
          record {
            lawful = lawful;
            heap = s.heap;
            next = s.next;
            holds = s.holds;
            mutator_hands = s.mutator_hands;
            worker_hands = s.worker_hands;
            lines = s.lines;
            phase = s.phase;
            cycle = s.cycle;
            policy = s.policy;
            born = s.born;
            count = s.count;
            chosen = s.chosen;
            doomed = s.doomed;
            kept = λ marks more_kept.
                absurd (false≢true (sym (ap (λ (p : Phase). is_in p Marking) in_phase) ∙ marks));
            live = s.live;
            tags = record { old = s.tags.old; scanned = s.tags.scanned; put = s.tags.put };
            finders = record {
              pending = pending_looked;
              within = each_finder j k looked_finder (λ i w. w.at ≤ length w.found) there within_looked
                  (λ i other. told.within i);
              found = λ judging.
                  each_finder j k looked_finder (λ i w. map (λ (f : Found). f.object) w.found ≡ refs_of a i) there
                  (told.found judging k) (λ i other. told.found judging i);
              cleared = λ clears.
                  each_finder j k looked_finder (λ i w. AreToldCleared a.cleared w.found) there
                  (told.cleared clears k) (λ i other. told.cleared clears i);
            };
          }

      -- ---- rows

      -- each that fits then comes from one that fits
      comes_from : reply ≡ answer → (t : State)
          → FitsFound (looked_to a k n) (standing_with (still_left j) k goes.back) false t
          → (s : State) × FitsIt j a s × IsRowAs j.profile s look_row t
      comes_from legal t fits =
          let from =
          fits_looked a t (still_left j) j.some_left k (sym (work_known j a stands Clearing k) ∙ none)
          (within_scanned j k none a stands) n goes.front goes.back here goes.none fits in (
            from.0,
            fits_found j a from.0 in_phase from.1,
            (look_common j.profile from.0 t k reply).1
                (subst (λ (r : Reply). IsRow from.0 (plain_row (plain.ClearNext k) r) t)
                (sym (legal ∙ answer_known)) from.2),
          )

      -- beyond the workers nothing is left
      left_beyond : (i : ℕ) → length a.scanned ≤ i → standing_with (still_left j) k goes.back i ≡ []
      left_beyond i beyond =
          elim (cases_Bool (i == k)) [
            | inl same ↦
                let is = eqb-true i k same in
                let within = within_scanned j k none a stands in
                absurd (omega (arith, is, within, beyond))
            | inr other ↦
                simp other
                (ap (λ (ns : List ℕ). drop (finder_at j i).at ns)
                (stands.finders.found (ap is_judging in_phase) i
                ∙ ap (λ (ns : List ℕ). references_among a.world.heap.objects ns) (get_or_past a.scanned i [] beyond))
                ∙ drop-nil (finder_at j i).at)
          ]

      -- some state fits then
      some_looked : (lists : List (List ℕ)) × (length lists ≡ length a.scanned)
          × MayHaveFound (standing_with (still_left j) k goes.back) a.cleared false lists
      some_looked =
          some_fit (standing_with (still_left j) k goes.back) a.cleared false (length a.scanned) left_beyond
          (λ said. absurd (false≢true said))

      fits_after : FitsFound (looked_to a k n) (standing_with (still_left j) k goes.back) false
          (finding (looked_to a k n) some_looked.0)
      fits_after = (some_looked.0, refl, some_looked.1, some_looked.2)

      -- what the row leaves is what stands behind n
      back_same : (front back : List ℕ) → still_left j k ≡ front ++ n ∷ back → back ≡ goes.back
      back_same front back is =
          sym (same_behind goes.front goes.back front back n
          (subst AreDistinct here (left_distinct j k none a stands)) (sym here ∙ is))

    -- no state that fits has another answer
    pub other_answer : (reply ≡ answer → ⊥) → (a : State) → StandsFor j a → HasNone j look_row a
    other_answer differ a stands s t fits h =
        differ ((looks a stands s t fits h).2 ∙ sym (answer_known a stands))

    pub looked_told : reply ≡ answer → TellsOf j look_row (Ok tt) looked
    looked_told legal = (
      refl,
      refl,
      λ a stands lawful.
          let lists : List (List ℕ) = (some_looked a stands).0 in
          let from = comes_from a stands legal (finding (looked_to a k n) lists) (fits_after a stands) in
          let b : State = after a stands lists in
          let is : finding (looked_to a k n) lists ≡ b =
          ap (λ (u : State). finding u lists) (looked_after a stands) in
          let next_stands : StandsFor looked b =
          stands_looked a stands lists
          (subst (λ (u : State). Lawful j.profile j.config u) is
          (lawful_row j.profile j.config from.0 (finding (looked_to a k n) lists) look_row (lawful from.0 from.1)
          from.2)) in
          record {
            state = b;
            stands = next_stands;
            on = λ s t fits h.
                let at = looks a stands s t fits h in
                fits_found looked b t (in_phase a stands)
                (fits_looked_on a stands t lists
                (subst (λ (back : List ℕ). FitsFound (looked_to a k n) (standing_with (still_left j) k back) false t)
                (back_same a stands at.0 at.1 at.3) at.5));
            back = λ t fits.
                comes_from a stands legal t
                (looked_on_fits a stands t lists (found_fits looked b next_stands (in_phase a stands) t fits));
          },
    )

    pub looked_sound : IsOfSomeState j → reply ≡ answer → IsOfSomeState looked
    looked_sound sound legal =
        let settled = sound.settled in
        sound_told j looked look_row sound (looked_told legal)
        (record {
          none_grey = settled.none_grey;
          grey_room = settled.grey_room;
          doomed_room = settled.doomed_room;
          config = settled.config;
          none_to_move = settled.none_to_move;
          none_chosen = settled.none_chosen;
          tuned = settled.tuned;
          colour = settled.colour;
          condemning = settled.condemning;
          may = settled.may;
          waits = λ is said. absurd (false≢true said);
        })

-- ---- other answers

so_answers : (is_cleared : Bool) (referent : Option ℕ) (n : ℕ) → IsLookAt (looked_so is_cleared referent n) n
so_answers true referent n = inl refl
so_answers false (Some m) n = inr (inl refl)
so_answers false None n = inr (inr refl)

-- a worker that is not refused tells that none is left for it, or looks at one
module _ (j : Judged) (k : ℕ) (none : MayLook j k) (reply : Reply) where
  pub no_answer : (reply ≡ replies.Nothing → ⊥) → ((n : ℕ) → IsLookAt reply n → ⊥) → (a : State) → StandsFor j a
      → HasNone j (plain_row (plain.ClearNext k) reply) a
  no_answer not_nothing no_look a stands s t fits h =
      elim (look_fits a t (still_left j) j.some_left k (sym (work_known j a stands Clearing k) ∙ none)
      (within_scanned j k none a stands) s reply (left_distinct j k none a stands)
      (found_fits j a stands (in_clearing j k none a stands) s fits) ((look_common j.profile s t k reply).0 h)) [
        | inl nothing ↦ not_nothing nothing.0
        | inr at ↦
            no_look at.0
            (subst (λ (r : Reply). IsLookAt r at.0) (sym (at.3 ∙ looked_is a k at.0))
            (so_answers (has a.cleared at.0) (referent_of (reference_at a.world.heap at.0)) at.0))
      ]

-- ---- the worker as it is read

-- what is written back as it was read changes nothing
pub unwritten : (ws : List Finder) (i : ℕ) (v new : Finder) → v ≡ slice_index_or ws i v → new ≡ v
    → slice_set ws i new ≡ ws
unwritten ws i v new read same = ap (λ (w : Finder). slice_set ws i w) (same ∙ read) ∙ set-get_or ws i v

module _ (j : Judged) (sound : IsOfSomeState j) (k i n : ℕ) (none : MayLook j k)
    (reply : Reply) (names : IsLookAt reply n) (same : i ≡ k) (w : Finder) (read : w ≡ slice_index_or j.workers i w)
    (found : Option (ℕ × Bool)) (finds : found ≡ found_from n w.at (drop w.at w.found)) where
  finder_is : (v : Finder) → v ≡ slice_index_or j.workers i v → v ≡ finder_at j k
  finder_is v read_so = finder_read j k i v same (within_workers j k none sound.state sound.stands) read_so

  found_is : found_from n (finder_at j k).at (drop (finder_at j k).at (finder_at j k).found) ≡ found
  found_is = ap (λ (v : Finder). found_from n v.at (drop v.at v.found)) (sym (finder_is w read)) ∙ sym finds

  pub none_tells : found ≡ None → (a : State) → StandsFor j a → HasNone j (plain_row (plain.ClearNext k) reply) a
  none_tells is = not_found j k n none reply names (found_is ∙ is)

  module _ (next : ℕ) (is_cleared : Bool) (is : found ≡ Some (next, is_cleared)) where
    pub other_tells : (answer_by j is_cleared n ≡ reply → ⊥) → (a : State) → StandsFor j a
        → HasNone j (plain_row (plain.ClearNext k) reply) a
    other_tells differ =
        other_answer j k n none reply names next is_cleared (found_is ∙ is) (λ so. differ (sym so))

    module _ (legal : answer_by j is_cleared n ≡ reply) (v : Finder) (read_too : v ≡ slice_index_or j.workers i v)
        (p : Option Pending) (pends : p ≡ pending_by j is_cleared n) (new : Finder) (goes_on : new ≡ gone_on v next p)
      where
        new_is : new ≡ gone_on (finder_at j k) next (pending_by j is_cleared n)
        new_is =
            goes_on ∙ ap (λ (q : Option Pending). gone_on v next q) pends
            ∙ ap (λ (u : Finder). gone_on u next (pending_by j is_cleared n)) (finder_is v read_too)

        next_is : looked j k n none reply names next is_cleared (found_is ∙ is)
            ≡ record j { workers = slice_set j.workers i new; some_left = false }
        next_is =
            ap (λ (ws : List Finder). record j { workers = ws; some_left = false })
            (ap (λ (u : Finder). slice_set j.workers k u) (sym new_is)
            ∙ ap (λ (m : ℕ). slice_set j.workers m new) (sym same))

        pub look_tells : TellsOf j (plain_row (plain.ClearNext k) reply) (Ok tt)
            (record j { workers = slice_set j.workers i new; some_left = false })
        look_tells =
            subst (λ (x : Judged). TellsOf j (plain_row (plain.ClearNext k) reply) (Ok tt) x) next_is
            (looked_told j k n none reply names next is_cleared (found_is ∙ is) (sym legal))

        pub look_sound : IsOfSomeState (record j { workers = slice_set j.workers i new; some_left = false })
        look_sound =
            subst IsOfSomeState next_is
            (looked_sound j k n none reply names next is_cleared (found_is ∙ is) sound (sym legal))
