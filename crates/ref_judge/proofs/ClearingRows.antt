-- What a judge tells of clearing: its end, and a worker that has none left.
use Rattle.ref_base.proofs.Common.{arith, ◌≡◌, ℕ, zero, suc, ◌<◌, ◌||◌, Bool, true, false, List, [], ◌∷◌, length, map}
use Rattle.ref_base.proofs.Common.{drop, Option, Some, None, refl, sym, ap, ◌∙◌, subst, inl, inr}
use Rattle.ref_base.proofs.Common.{cases_Bool, or_cases, false≢true, true≢false, has, State, is_in, slice_index_or}
use Rattle.ref_base.proofs.Common.{emptied, refusal, length-map, ltb-true}
use Rattle.std.specs.Prelude.{Ok}
use Rattle.std.specs.List.{list_any, AllByRecursion}
use Rattle.ref_base.specs.Refusals.{unless, is_empty}
use Rattle.ref_base.specs.declared.fault.Fault.{Fault}
use Rattle.ref_base.specs.declared.fault.Fault.TheVariants.{WrongPhase, ClearingLeft}
use Rattle.ref_base.specs.declared.phase.Phase.{Phase}
use Rattle.ref_base.specs.declared.phase.Phase.TheVariants.{Idle, Marking, Clearing, Sweeping, Moving}
use Rattle.ref_base.specs.declared.plain_step.PlainStep.TheVariants as plain
use Rattle.ref_base.specs.declared.reply.Reply.TheVariants as replies
use Rattle.ref_base.specs.declared.step.Step.TheVariants as steps
use Rattle.ref_base.proofs.FoundFits.{NoneOf}
use Rattle.ref_base.proofs.FoundRows.{FitsFound, finding, left_row, cleared_row, cleared_to, left_fits, fits_left}
use Rattle.ref_base.proofs.FoundRows.{cleared_fits, fits_cleared}
use Rattle.ref_base.proofs.FoundStates.{fit_some}
use Rattle.ref_base.proofs.FreeRows.{freed}
use Rattle.ref_judge.specs.Finding.{has_more_left, has_cleared_left}
use Rattle.ref_judge.specs.Judged.{Judged, Finder, no_finder, finder_at, still_left, is_behind_mark, is_going}
use Rattle.ref_judge.specs.Judged.{AreToldCleared}
use Rattle.ref_judge.specs.Standing.{StandsFor, FitsIn, FitsIt, HasNone, TellsOf, IsOfSomeState}
use Rattle.ref_judge.specs.ProfiledRows.{IsRowAs}
use Rattle.ref_judge.specs.declared.worker.Found.{Found}
use Rattle.ref_judge.proofs.LegalFacts.{lawful_row}
use Rattle.ref_judge.proofs.Rephasing.{rephased, state_rephased, stands_rephased, settled_rephased}
use Rattle.ref_judge.proofs.SoundJudges.{sound_told}
use Rattle.ref_judge.proofs.UnchangedRows.{clear_common}

-- ---- the phase

pub clearing_phase : (p : Phase) → unless (is_in p Clearing) WrongPhase None ≡ None → p ≡ Clearing
clearing_phase Idle none = absurd cc
clearing_phase Marking none = absurd cc
clearing_phase Clearing none = refl
clearing_phase Sweeping none = absurd cc
clearing_phase Moving none = absurd cc

-- what comes first is refused first
pub refused_first : (passes : Bool) (fault : Fault) (later : Option Fault) → unless passes WrongPhase None ≡ Some fault
    → unless passes WrongPhase later ≡ Some fault
refused_first true fault later is = absurd cc
refused_first false fault later is = is

pub end_refused : (j : Judged) (a : State) (fault : Fault) → StandsFor j a
    → unless (is_in j.phase Clearing) WrongPhase None ≡ Some fault → (left : Bool) (found : List (List ℕ))
    → refusal (freed a left found) (steps.Plain plain.EndClear) ≡ Some fault
end_refused j a fault stands is left found =
    refused_first (is_in a.world.phase Clearing) fault _
    (ap (λ (p : Phase). unless (is_in p Clearing) WrongPhase None) (sym stands.phase) ∙ is)

-- ---- workers by number

module _ (test : Finder → Bool) (nothing : test no_finder ≡ false) where
  pub any_worker : (ws : List Finder) → list_any test ws ≡ true
      → (k : ℕ) × (test (slice_index_or ws k no_finder) ≡ true)
  any_worker [] is = absurd (false≢true is)
  any_worker (w ∷ ws) is =
      elim (or_cases (test w) (list_any test ws) is) [
        | inl first ↦ (0, first)
        | inr later ↦ let at = any_worker ws later in (suc at.0, at.1)
      ]

  pub no_worker : (ws : List Finder) → list_any test ws ≡ false → (k : ℕ)
      → test (slice_index_or ws k no_finder) ≡ false
  no_worker [] none k = nothing
  no_worker (w ∷ ws) none zero = grind (arith, none)
  no_worker (w ∷ ws) none (suc k) = no_worker ws (grind (arith, none)) k

  pub worker_any : (ws : List Finder) (k : ℕ) → test (slice_index_or ws k no_finder) ≡ true → list_any test ws ≡ true
  worker_any ws k is =
      elim (cases_Bool (list_any test ws)) [
        | inl any ↦ any
        | inr none ↦ absurd (false≢true (sym (no_worker ws none k) ∙ is))
      ]

-- ---- what is left

some_behind : (ns : List ℕ) (at : ℕ) → is_empty (drop at ns) ≡ false → at < length ns
some_behind [] zero some = absurd (true≢false some)
some_behind [] (suc at) some = absurd (true≢false some)
some_behind (n ∷ ns) zero some = omega arith
some_behind (n ∷ ns) (suc at) some = let below = some_behind ns at some in omega (arith, below)

-- where something stands for a worker, it may have one left
pub more_left : (j : Judged) (k : ℕ) → is_empty (still_left j k) ≡ false → has_more_left (finder_at j k) ≡ true
more_left j k some =
    let w : Finder = finder_at j k in
    let below = some_behind (map (λ (f : Found). f.object) w.found) w.at some in
    let same = length-map w.found (λ (f : Found). f.object) in
    grind (arith, below, same)

-- each says whether the mark's end cleared it
abbrev is_told : List ℕ → Found → Type 0
is_told clears f = f.is_cleared ≡ has clears f.object

told_none : (clears : List ℕ) (fs : List Found) (at : ℕ) → AllByRecursion (is_told clears) fs
    → list_any (λ (f : Found). f.is_cleared) (drop at fs) ≡ false
    → NoneOf clears (drop at (map (λ (f : Found). f.object) fs))
told_none clears [] zero told none m h = absurd (false≢true h)
told_none clears [] (suc at) told none m h = absurd (false≢true h)
told_none clears (f ∷ fs) zero told none m h = grind (arith, told.0, none, told_none clears fs zero told.1)
told_none clears (f ∷ fs) (suc at) told none m h = told_none clears fs at told.1 none m h

none_told : (clears : List ℕ) (fs : List Found) (at : ℕ) → AllByRecursion (is_told clears) fs
    → NoneOf clears (drop at (map (λ (f : Found). f.object) fs))
    → list_any (λ (f : Found). f.is_cleared) (drop at fs) ≡ false
none_told clears [] zero told none = refl
none_told clears [] (suc at) told none = refl
none_told clears (f ∷ fs) zero told none =
    let own = none f.object (grind arith) in
    let rest = none_told clears fs zero told.1 (λ m h. none m (grind (arith, h))) in
    grind (arith, told.0, own, rest)
none_told clears (f ∷ fs) (suc at) told none = none_told clears fs at told.1 none

module _ (j : Judged) (a : State) (stands : StandsFor j a) (phase : j.phase ≡ Clearing) where
  pub clears : a.world.phase ≡ Clearing
  clears = sym stands.phase ∙ phase

  -- the states that fit are those of clearing
  pub found_fits : (s : State) → FitsIt j a s → FitsFound a (still_left j) j.some_left s
  found_fits s fits = subst (λ (p : Phase). FitsIn (is_in p Marking) (is_in p Clearing) j a s) phase fits

  told : (k : ℕ) → AreToldCleared a.cleared (finder_at j k).found
  told k = stands.finders.cleared (ap (λ (p : Phase). is_in p Clearing) phase) k

  -- the mark's end cleared none that is left where the judge knows none
  pub none_cleared : (k : ℕ) → has_cleared_left (finder_at j k) ≡ false → NoneOf a.cleared (still_left j k)
  none_cleared k none = told_none a.cleared (finder_at j k).found (finder_at j k).at (told k) none

  pub cleared_none : (k : ℕ) → NoneOf a.cleared (still_left j k) → has_cleared_left (finder_at j k) ≡ false
  cleared_none k none = none_told a.cleared (finder_at j k).found (finder_at j k).at (told k) none

-- and back
pub fits_found : (j : Judged) (a s : State) → j.phase ≡ Clearing → FitsFound a (still_left j) j.some_left s
    → FitsIt j a s
fits_found j a s phase fits =
    subst (λ (p : Phase). FitsIn (is_in p Marking) (is_in p Clearing) j a s) (sym phase) fits

-- ---- the end of clearing is refused

-- what is said of what is left is no part of a state
stands_said : (j : Judged) (a : State) (some : Bool) → StandsFor j a → StandsFor (record j { some_left = some }) a
stands_said j a some s = record {
  lawful = s.lawful;
  heap = s.heap;
  next = s.next;
  holds = s.holds;
  mutator_hands = s.mutator_hands;
  worker_hands = s.worker_hands;
  lines = s.lines;
  phase = s.phase;
  cycle = s.cycle;
  policy = s.policy;
  born = s.born;
  count = s.count;
  chosen = s.chosen;
  doomed = s.doomed;
  kept = s.kept;
  live = s.live;
  tags = record { old = s.tags.old; scanned = s.tags.scanned; put = s.tags.put };
  finders = record {
    pending = s.finders.pending;
    within = s.finders.within;
    found = s.finders.found;
    cleared = s.finders.cleared;
  };
}

module _ (j : Judged) (none : unless (is_in j.phase Clearing) WrongPhase None ≡ None) where
  phase : j.phase ≡ Clearing
  phase = clearing_phase j.phase none

  pub left_told : TellsOf j left_row (Ok tt) (record j { some_left = true })
  left_told = (
    refl,
    refl,
    λ a stands lawful. record {
      state = a;
      stands = stands_said j a true stands;
      on = λ s t fits h.
          fits_found (record j { some_left = true }) a t phase
          (left_fits a t (still_left j) (clears j a stands phase) s j.some_left (found_fits j a stands phase s fits)
          ((clear_common j.profile s t (replies.Refused ClearingLeft)).0 h));
      back = λ t fits.
          let from =
          fits_left a t (still_left j) (clears j a stands phase) j.some_left
          (found_fits (record j { some_left = true }) a (stands_said j a true stands) phase t fits) in (
            from.0,
            fits_found j a from.0 phase from.1,
            (clear_common j.profile from.0 t (replies.Refused ClearingLeft)).1 from.2,
          );
    },
  )

  -- where a worker may have one left
  pub left_sound : IsOfSomeState j → list_any has_more_left j.workers ≡ true
      → IsOfSomeState (record j { some_left = true })
  left_sound sound some =
      let settled = sound.settled in
      sound_told j (record j { some_left = true }) left_row sound left_told
      (record {
        none_grey = settled.none_grey;
        grey_room = settled.grey_room;
        doomed_room = settled.doomed_room;
        config = settled.config;
        none_to_move = settled.none_to_move;
        none_chosen = settled.none_chosen;
        tuned = settled.tuned;
        colour = settled.colour;
        condemning = settled.condemning;
        may = settled.may;
        waits = λ is said.
            let at = any_worker has_more_left refl j.workers some in
            (at.0, ltb-true (finder_at j at.0).at (length (finder_at j at.0).found) at.1);
      })

  -- where none may
  pub none_left : list_any has_more_left j.workers ≡ false → (a : State) → StandsFor j a → HasNone j left_row a
  none_left empty a stands s t fits h =
      let then =
      left_fits a t (still_left j) (clears j a stands phase) s j.some_left (found_fits j a stands phase s fits)
      ((clear_common j.profile s t (replies.Refused ClearingLeft)).0 h) in
      let at = fit_some (still_left j) a.cleared then.0 then.3 in
      true≢false (sym (more_left j at.0 at.1) ∙ no_worker has_more_left refl j.workers empty at.0)

  -- ---- it is done

  pub done_told : j.some_left ≡ false → list_any has_cleared_left j.workers ≡ false
      → TellsOf j cleared_row (Ok tt) (rephased j Sweeping j.was_chosen j.ground.condemning)
  done_told said clean = (
    refl,
    refl,
    λ a stands lawful.
        let b : State = state_rephased a Sweeping j.was_chosen (emptied a.scanned) in
        let is : b ≡ finding (cleared_to a) (emptied a.scanned) =
        ap (λ (chosen : Bool). state_rephased a Sweeping chosen (emptied a.scanned)) stands.chosen in
        let from =
        fits_cleared a b (still_left j) (clears j a stands phase)
        (λ k. none_cleared j a stands phase k (no_worker has_cleared_left refl j.workers clean k)) is in
        let fits : FitsIt j a from.0 =
        fits_found j a from.0 phase
        (subst (λ (some : Bool). FitsFound a (still_left j) some from.0) (sym said) from.1) in
        let row = (clear_common j.profile from.0 b replies.Done).1 from.2 in
        record {
          state = b;
          stands = stands_rephased j Sweeping j.was_chosen j.ground.condemning refl refl a (emptied a.scanned)
              (lawful_row j.profile j.config from.0 b cleared_row (lawful from.0 fits) row) stands
              (λ past. ap is_behind_mark phase);
          on = λ s t fit h.
              (cleared_fits a t (still_left j) (clears j a stands phase) s j.some_left
              (found_fits j a stands phase s fit) ((clear_common j.profile s t replies.Done).0 h)).2 ∙ sym is;
          back = λ t same.
              (from.0, fits, subst (λ (u : State). IsRowAs j.profile from.0 cleared_row u) (sym same) row);
        },
  )

  pub done_sound : IsOfSomeState j → j.some_left ≡ false → list_any has_cleared_left j.workers ≡ false
      → IsOfSomeState (rephased j Sweeping j.was_chosen j.ground.condemning)
  done_sound sound said clean =
      sound_told j (rephased j Sweeping j.was_chosen j.ground.condemning) cleared_row sound (done_told said clean)
      (settled_rephased j Sweeping j.was_chosen j.ground.condemning refl refl sound.settled
      (λ going. ap is_going phase) (ap (λ (p : Phase). is_in p Marking) phase)
      (sound.settled.condemning ∙ ap is_behind_mark phase))

  -- some are left
  pub not_done : (j.some_left || list_any has_cleared_left j.workers) ≡ true → (a : State) → StandsFor j a
      → HasNone j cleared_row a
  not_done some a stands s t fits h =
      let all =
      cleared_fits a t (still_left j) (clears j a stands phase) s j.some_left (found_fits j a stands phase s fits)
      ((clear_common j.profile s t replies.Done).0 h) in
      elim (or_cases j.some_left (list_any has_cleared_left j.workers) some) [
        | inl said ↦ true≢false (sym said ∙ all.0)
        | inr cleared ↦
            let at = any_worker has_cleared_left refl j.workers cleared in
            true≢false (sym at.1 ∙ cleared_none j a stands phase at.0 (all.1 at.0))
      ]
