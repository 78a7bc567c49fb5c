-- What a judge tells of a worker that has none left to look at.
use Rattle.ref_base.proofs.Common.{arith, ◌≡◌, ◌≤◌, ℕ, ◌<◌, ◌+◌, zero, suc, ◌==◌, Bool, true, false, List, [], ◌∷◌}
use Rattle.ref_base.proofs.Common.{length, map, take, drop, None, refl, sym, ap, ◌∙◌, subst, inl, inr}
use Rattle.ref_base.proofs.Common.{cases_Bool, true≢false, has, State, Heap, slice_index_or, slice_set, list_at}
use Rattle.ref_base.proofs.Common.{looked_at, length-map}
use Rattle.ref_base.proofs.Common.{get_or-set_same, take-append-drop, eqb-true, eq-eqb, ltb-true, if◌then◌else◌}
use Rattle.std.specs.Prelude.{Ok}
use Rattle.std.proofs.Math.ListN.{drop_of_length-le}
use Rattle.std.proofs.lemmas.List.{set-get_or}
use Rattle.ref_base.specs.Members.{AreDistinct}
use Rattle.ref_base.specs.Refusals.{work_refusal, is_empty, is_worker}
use Rattle.ref_base.specs.declared.heap_step.HeapStep.TheVariants as heap
use Rattle.ref_base.specs.declared.phase.Phase.TheVariants.{Clearing}
use Rattle.ref_base.specs.declared.plain_step.PlainStep.TheVariants as plain
use Rattle.ref_base.specs.declared.reply.Reply.TheVariants as replies
use Rattle.ref_base.specs.declared.row.Row.{Row}
use Rattle.ref_base.specs.CollectorRows.{referent_of}
use Rattle.ref_base.specs.Heaps.{reference_at}
use Rattle.std.specs.Prelude.{is_some}
use Rattle.ref_base.proofs.FoundFits.{NoneOf, MayFind}
use Rattle.ref_base.proofs.FoundRows.{FitsFound, look_fits, fits_none_looked}
use Rattle.ref_base.proofs.FoundStates.{standing_with, fit_some}
use Rattle.ref_base.proofs.MarkEndRows.{refs_distinct, distinct_behind}
use Rattle.ref_base.proofs.PhaseLaws.{of_phase}
use Rattle.ref_base.proofs.PlainRows.{plain_row}
use Rattle.ref_base.proofs.RowForms.{unless_passes}
use Rattle.ref_judge.specs.Finding.{has_cleared_left, others_from}
use Rattle.ref_judge.specs.Judged.{Judged, Finder, no_finder, finder_at, found_by, still_left, is_judging}
use Rattle.ref_judge.specs.Judged.{AreToldCleared}
use Rattle.ref_judge.specs.ProfiledRows.{IsRowAs}
use Rattle.ref_judge.specs.Standing.{StandsFor, FitsIt, HasNone, TellsOf, IsOfSomeState}
use Rattle.ref_judge.specs.declared.worker.Found.{Found}
use Rattle.ref_judge.proofs.ClearingRows.{found_fits, fits_found, none_cleared, cleared_none, more_left}
use Rattle.ref_judge.proofs.LegalFacts.{legal_facts}
use Rattle.ref_judge.proofs.OtherFinders.{some_other, no_other}
use Rattle.ref_judge.proofs.SoundJudges.{sound_told}
use Rattle.ref_judge.proofs.TestedRows.{work_known}
use Rattle.ref_judge.proofs.UnchangedRows.{look_common}

-- what stands for the workers is as good as what is the same for each
pub fits_refs : (a s : State) (refs others : ℕ → List ℕ) (some : Bool) → ((i : ℕ) → refs i ≡ others i)
    → FitsFound a refs some s → FitsFound a others some s
fits_refs a s refs others some same fits = (
  fits.0,
  fits.1,
  fits.2,
  record {
    each = λ i. subst (λ (l : List ℕ). MayFind l a.cleared (list_at fits.0 i)) (same i) (fits.3.each i);
    left = fits.3.left;
  },
)

-- the judge with another finder at this place
abbrev pub with_finder : Judged → ℕ → Finder → Judged
with_finder j k w = record j { workers = slice_set j.workers k w }

pub finder_same : (j : Judged) (k : ℕ) (w : Finder) → k < length j.workers → finder_at (with_finder j k w) k ≡ w
finder_same j k w within = get_or-set_same j.workers k w no_finder within

set_other : (ws : List Finder) (k i : ℕ) (w d : Finder) → (i ≡ k → ⊥)
    → slice_index_or (slice_set ws k w) i d ≡ slice_index_or ws i d
set_other [] k i w d apart = refl
set_other (v ∷ ws) zero zero w d apart = absurd (apart refl)
set_other (v ∷ ws) zero (suc i) w d apart = refl
set_other (v ∷ ws) (suc k) zero w d apart = refl
set_other (v ∷ ws) (suc k) (suc i) w d apart = set_other ws k i w d (λ same. apart (ap suc same))

pub finder_other : (j : Judged) (k i : ℕ) (w : Finder) → (i ≡ k → ⊥) → finder_at (with_finder j k w) i ≡ finder_at j i
finder_other j k i w apart = set_other j.workers k i w no_finder apart

-- what stands at a place is the same for each default
pub at_any : (ws : List Finder) (k : ℕ) (d e : Finder) → k < length ws → slice_index_or ws k d ≡ slice_index_or ws k e
at_any [] k d e within = absurd (omega (arith, within))
at_any (w ∷ ws) zero d e within = refl
at_any (w ∷ ws) (suc k) d e within = at_any ws k d e (omega (arith, within))

-- what is written where it was read changes nothing
pub set_back : (ws : List Finder) (k : ℕ) (w : Finder) → w ≡ slice_index_or ws k w → slice_set ws k w ≡ ws
set_back ws k w is = ap (slice_set ws k) is ∙ set-get_or ws k w

-- where what is pending stays
pub pending_kept : (ws : List Finder) (k : ℕ) (w : Finder) → w.pending ≡ (slice_index_or ws k no_finder).pending
    → map (λ (v : Finder). v.pending) (slice_set ws k w) ≡ map (λ (v : Finder). v.pending) ws
pending_kept [] k w same = refl
pending_kept (v ∷ ws) zero w same = ap (λ p. p ∷ map (λ (x : Finder). x.pending) ws) same
pending_kept (v ∷ ws) (suc k) w same = ap (λ l. v.pending ∷ l) (pending_kept ws k w same)

module _ (j : Judged) (k : ℕ) (none : work_refusal j.ground.heap j.phase Clearing k ≡ None) where
  pub in_clearing : (a : State) → StandsFor j a → j.phase ≡ Clearing
  in_clearing a stands =
      stands.phase ∙ of_phase a (heap.Plain (plain.ClearNext k)) (sym (work_known j a stands Clearing k) ∙ none)

  is_one : k < j.ground.heap.config.workers
  is_one = ltb-true k j.ground.heap.config.workers (unless_passes (is_worker j.ground.heap k) _ _ none).0

  pub within_config : (a : State) → StandsFor j a → k < j.config.workers
  within_config a stands =
      let is = ap (λ (h : Heap). h.config.workers) stands.heap in
      let sizes = (legal_facts j.profile j.config a stands.lawful).sizes in
      let config = ap (λ c. c.workers) sizes.config_is in
      let own = is_one in
      omega (arith, is, config, own)

  pub within_workers : (a : State) → StandsFor j a → k < length j.workers
  within_workers a stands =
      let sizes = (legal_facts j.profile j.config a stands.lawful).sizes in
      let pending = sizes.pending in
      let all = ap length stands.finders.pending in
      let same = length-map j.workers (λ (w : Finder). w.pending) in
      let own = within_config a stands in
      omega (arith, pending, all, same, own)

  pub within_scanned : (a : State) → StandsFor j a → k < length a.scanned
  within_scanned a stands =
      let scanned = (legal_facts j.profile j.config a stands.lawful).sizes.scanned in
      let own = within_config a stands in
      omega (arith, scanned, own)

  -- none stands twice in what is left
  pub left_distinct : (a : State) → StandsFor j a → AreDistinct (still_left j k)
  left_distinct a stands =
      let at : ℕ = (finder_at j k).at in
      let refs : List ℕ = found_by j k in
      let is = stands.finders.found (ap is_judging (in_clearing a stands)) k in
      let once = (legal_facts j.profile j.config a stands.lawful).scanned.once in
      distinct_behind (take at refs) (drop at refs)
      (subst AreDistinct (sym (take-append-drop at refs ∙ is)) (refs_distinct a k once))

  -- a look at one isn't a look at none
  no_look : (a : State) (n : ℕ) → replies.Nothing ≡ looked_at a k n → ⊥
  no_look a n is =
      elim (cases_Bool (has a.cleared n)) [
        | inl cleared ↦ let wrong : replies.Nothing ≡ replies.Cleared n = simp cleared at is in absurd cc
        | inr other ↦ of_referent (is_some (referent_of (reference_at a.world.heap n))) refl (simp other at is)
      ]
    where
      of_referent : (some : Bool) → is_some (referent_of (reference_at a.world.heap n)) ≡ some
          → replies.Nothing ≡ (if is_some (referent_of (reference_at a.world.heap n)) then replies.Kept n else
          replies.Skipped n) → ⊥
      of_referent true same is = let wrong : replies.Nothing ≡ replies.Kept n = simp same at is in absurd cc
      of_referent false same is = let wrong : replies.Nothing ≡ replies.Skipped n = simp same at is in absurd cc

  abbrev pub none_row : Row
  none_row = plain_row (plain.ClearNext k) replies.Nothing

  -- a state that fits tells that none is left only where the mark's end cleared none of it
  pub nothing_left : (a s t : State) → StandsFor j a → FitsIt j a s → IsRowAs j.profile s none_row t
      → NoneOf a.cleared (still_left j k) × FitsFound a (standing_with (still_left j) k []) j.some_left t
  nothing_left a s t stands fits h =
      elim (look_fits a t (still_left j) j.some_left k (sym (work_known j a stands Clearing k) ∙ none)
      (within_scanned a stands)
      s replies.Nothing (left_distinct a stands) (found_fits j a stands (in_clearing a stands) s fits)
      ((look_common j.profile s t k replies.Nothing).0 h)) [
        | inl nothing ↦ (nothing.1, nothing.2)
        | inr looks ↦ absurd (no_look a looks.0 looks.3)
      ]

  -- ---- the judge after it

  abbrev pub passed_finder : Finder
  passed_finder = record (finder_at j k) { at = length (finder_at j k).found }

  abbrev pub passed : Judged
  passed = with_finder j k passed_finder

  -- each has what it found
  module _ (a : State) (stands : StandsFor j a) (i : ℕ) where
    finder_passed : (i == k) ≡ true → finder_at passed i ≡ passed_finder
    finder_passed same =
        ap (λ (n : ℕ). finder_at passed n) (eqb-true i k same)
        ∙ finder_same j k passed_finder (within_workers a stands)

    apart_passed : (i == k) ≡ false → finder_at passed i ≡ finder_at j i
    apart_passed other =
        finder_other j k i passed_finder (λ same. true≢false (sym (eq-eqb i k same) ∙ other))

    found_passed : (finder_at passed i).found ≡ (finder_at j i).found
    found_passed =
        elim (cases_Bool (i == k)) [
          | inl same ↦
              ap (λ (w : Finder). w.found) (finder_passed same)
              ∙ ap (λ (n : ℕ). (finder_at j n).found) (sym (eqb-true i k same))
          | inr other ↦ ap (λ (w : Finder). w.found) (apart_passed other)
        ]

    within_passed : (finder_at passed i).at ≤ length (finder_at passed i).found
    within_passed =
        elim (cases_Bool (i == k)) [
          | inl same ↦
              subst (λ (w : Finder). w.at ≤ length w.found) (sym (finder_passed same))
              (let all : length (finder_at j k).found ≤ length (finder_at j k).found = omega arith in all)
          | inr other ↦
              subst (λ (w : Finder). w.at ≤ length w.found) (sym (apart_passed other)) (stands.finders.within i)
        ]

    left_passed : still_left passed i ≡ standing_with (still_left j) k [] i
    left_passed =
        elim (cases_Bool (i == k)) [
          | inl same ↦
              simp same
              (ap (λ (w : Finder). drop w.at (map (λ (f : Found). f.object) w.found)) (finder_passed same)
              ∙ drop_of_length-le (map (λ (f : Found). f.object) (finder_at j k).found)
              {i = length (finder_at j k).found} all_passed)
          | inr other ↦
              simp other
              (ap (λ (w : Finder). drop w.at (map (λ (f : Found). f.object) w.found)) (apart_passed other))
        ]
      where
        all_passed : length (map (λ (f : Found). f.object) (finder_at j k).found) ≤ length (finder_at j k).found
        all_passed = let is = length-map (finder_at j k).found (λ (f : Found). f.object) in omega (arith, is)

  stands_passed : (a : State) → StandsFor j a → StandsFor passed a
  stands_passed a s = record {
    lawful = s.lawful;
    heap = s.heap;
    next = s.next;
    holds = s.holds;
    mutator_hands = s.mutator_hands;
    worker_hands = s.worker_hands;
    lines = s.lines;
    phase = s.phase;
    cycle = s.cycle;
    policy = s.policy;
    born = s.born;
    count = s.count;
    chosen = s.chosen;
    doomed = s.doomed;
    kept = s.kept;
    live = s.live;
    tags = record { old = s.tags.old; scanned = s.tags.scanned; put = s.tags.put };
    finders = record {
      pending = pending_kept j.workers k passed_finder refl ∙ s.finders.pending;
      within = λ i. within_passed a s i;
      found = λ judging i.
          ap (λ (fs : List Found). map (λ (f : Found). f.object) fs) (found_passed a s i)
          ∙ s.finders.found judging i;
      cleared = λ clears i.
          subst (λ (fs : List Found). AreToldCleared a.cleared fs) (sym (found_passed a s i))
          (s.finders.cleared clears i);
    };
  }

  pub passed_told : has_cleared_left (finder_at j k) ≡ false → TellsOf j none_row (Ok tt) passed
  passed_told clean = (
    refl,
    refl,
    λ a stands lawful.
        let phase = in_clearing a stands in
        let after = stands_passed a stands in
        record {
          state = a;
          stands = after;
          on = λ s t fits h.
              fits_found passed a t phase
              (fits_refs a t (standing_with (still_left j) k []) (still_left passed) j.some_left
              (λ i. sym (left_passed a stands i)) (nothing_left a s t stands fits h).1);
          back = λ t fits.
              let from =
              fits_none_looked a t (still_left j) j.some_left k (sym (work_known j a stands Clearing k) ∙ none)
              (within_scanned a stands) (none_cleared j a stands phase k clean)
              (fits_refs a t (still_left passed) (standing_with (still_left j) k []) j.some_left
              (λ i. left_passed a stands i) (found_fits passed a after phase t fits)) in (
                from.0,
                fits_found j a from.0 phase from.1,
                (look_common j.profile from.0 t k replies.Nothing).1 from.2,
              );
        },
  )

  -- ---- where none of it is so

  pub some_cleared : has_cleared_left (finder_at j k) ≡ true → (a : State) → StandsFor j a → HasNone j none_row a
  some_cleared cleared a stands s t fits h =
      true≢false (sym cleared
      ∙ cleared_none j a stands (in_clearing a stands) k (nothing_left a s t stands fits h).0)

  -- it was said that one has one left, and no other may
  pub none_waits : j.some_left ≡ true → others_from k 0 j.workers ≡ false → (a : State) → StandsFor j a
      → HasNone j none_row a
  none_waits said others a stands s t fits h =
      let after =
      subst (λ (some : Bool). FitsFound a (standing_with (still_left j) k []) some t) said
      (nothing_left a s t stands fits h).1 in
      let at = fit_some (standing_with (still_left j) k []) a.cleared after.0 after.3 in
      elim (cases_Bool (at.0 == k)) [
        | inl same ↦ true≢false (ap (λ (b : Bool). is_empty (if b then [] else still_left j at.0)) (sym same) ∙ at.1)
        | inr other ↦
            let left : is_empty (still_left j at.0) ≡ false =
            ap (λ (b : Bool). is_empty (if b then [] else still_left j at.0)) (sym other) ∙ at.1 in
            true≢false
            (sym (more_left j at.0 left)
            ∙ no_other k 0 j.workers others at.0 (λ same. true≢false (sym (eq-eqb at.0 k (own at.0 same)) ∙ other)))
      ]
    where
      own : (i : ℕ) → (0 + i) ≡ k → i ≡ k
      own i same = omega (arith, same)

  pub passed_sound : IsOfSomeState j → has_cleared_left (finder_at j k) ≡ false
      → (j.some_left ≡ true → others_from k 0 j.workers ≡ true) → IsOfSomeState passed
  passed_sound sound clean waits =
      let settled = sound.settled in
      sound_told j passed none_row sound (passed_told clean)
      (record {
        none_grey = settled.none_grey;
        grey_room = settled.grey_room;
        doomed_room = settled.doomed_room;
        config = settled.config;
        none_to_move = settled.none_to_move;
        none_chosen = settled.none_chosen;
        tuned = settled.tuned;
        colour = settled.colour;
        condemning = settled.condemning;
        may = settled.may;
        waits = λ is said.
            let other = some_other k 0 j.workers (waits said) in (
              other.0,
              still other.0 other.1 (ltb-true (finder_at j other.0).at (length (finder_at j other.0).found)
                  other.2),
            );
      })
    where
      still : (i : ℕ) → ((0 + i) ≡ k → ⊥) → (finder_at j i).at < length (finder_at j i).found
          → (finder_at passed i).at < length (finder_at passed i).found
      still i apart below =
          subst (λ (w : Finder). w.at < length w.found)
          (sym (finder_other j k i passed_finder (λ same. apart (omega (arith, same))))) below
