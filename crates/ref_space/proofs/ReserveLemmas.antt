-- Where what is left in the chosen pages is to move: one place after another.
use Rattle.std.proofs.Common.{◌≡◌, ℕ, zero, suc, ◌+◌, ◌*◌, ◌<◌, ◌≤◌, Bool, true, false, refl, sym, ap, subst, ◌∙◌}
use Rattle.std.proofs.Common.{arith}
use Rattle.std.proofs.Common.{List, [], ◌∷◌, ◌++◌, length, get_or, take, Option, Some, None, if◌then◌else◌}
use Rattle.std.proofs.lemmas.Bool.{false≢true}
use Rattle.std.proofs.lemmas.List.{append-nil, append_assoc, take_more, take_all}
use Rattle.ref_space.specs.Pages.{Use, Pages, use_at, use_of, place_of, with_cell, chosen_frames, placing}
use Rattle.ref_space.specs.Pages.{after_placing}
use Rattle.ref_space.specs.Pages.{taken_places, taken_in, reserved, reserving, next_place, is_free_at}
use Rattle.ref_space.specs.Pages.{IsNextPlace, with_placed, AreWhole}
use Rattle.ref_space.proofs.NextPlaces.{is_next_place, length-with}
use Rattle.ref_space.proofs.LeftLemmas.{chosen-other}
use Rattle.ref_space.proofs.MoveLemmas.{chosen-with}
use Rattle.ref_space.proofs.PlaceUses.{chosen-at, place-with}
use Rattle.std.proofs.Common.{◌&&◌}
use Rattle.std.proofs.Common.{not}

-- ---- lists of what is left

pub taken_places-more : (place : ℕ) (bs : List Bool) (c : ℕ) → c < length bs
    → taken_places place (take (suc c) bs)
    ≡ taken_places place (take c bs) ++ (if get_or bs c false then [] else (place + c) ∷ [])
taken_places-more place [] c within = absurd (omega arith)
taken_places-more place (true ∷ bs) zero within = refl
taken_places-more place (false ∷ bs) zero within = let same : place ≡ place + 0 = omega arith in ap (λ n. n ∷ []) same
taken_places-more place (b ∷ bs) (suc c) within = grind (arith, taken_places-more (suc place) bs c)

taken_in-append : (ps : List Use) (fs gs : List ℕ) → taken_in ps (fs ++ gs) ≡ taken_in ps fs ++ taken_in ps gs
taken_in-append ps [] gs = refl
taken_in-append ps (f ∷ fs) gs = grind (arith, append_assoc, taken_in-append ps fs gs)

pub taken_in-more : (ps : List Use) (fs : List ℕ) (k : ℕ) → k < length fs
    → taken_in ps (take (k + 1) fs)
    ≡ taken_in ps (take k fs) ++ taken_places (64 * get_or fs k 0) (use_of ps (get_or fs k 0)).free
taken_in-more ps fs k within =
    ap (taken_in ps) (take_more fs k 0 within) ∙ taken_in-append ps (take k fs) (get_or fs k 0 ∷ [])
    ∙ ap (λ places. taken_in ps (take k fs) ++ places)
    (append-nil (taken_places (64 * get_or fs k 0) (use_of ps (get_or fs k 0)).free))

pub reserving-append : (state : Pages × List ℕ) (xs ys : List ℕ)
    → reserving state (xs ++ ys) ≡ reserving (reserving state xs) ys
reserving-append state [] ys = refl
reserving-append state (x ∷ xs) ys = reserving-append (reserved state x) xs ys

-- ---- what stays

-- the chosen pages are the same, with the same cells taken
pub record KeepsChosen (ps qs : List Use) : Type 0 where
  pub frames : chosen_frames qs ≡ chosen_frames ps
  pub size : length qs ≡ length ps
  pub flag : (frame : ℕ) → (use_of qs frame).chosen ≡ (use_of ps frame).chosen
  pub same : (frame : ℕ) → (use_of ps frame).chosen ≡ true → use_of qs frame ≡ use_of ps frame

pub keeps_all : (ps : List Use) → KeepsChosen ps ps
keeps_all ps = record { frames = refl; size = refl; flag = λ frame. refl; same = λ frame chosen. refl }

pub keeps_both : {ps qs rs : List Use} → KeepsChosen ps qs → KeepsChosen qs rs → KeepsChosen ps rs
keeps_both one other = record {
  frames = other.frames ∙ one.frames;
  size = other.size ∙ one.size;
  flag = λ frame. other.flag frame ∙ one.flag frame;
  same = λ frame chosen.
      other.same frame (ap (λ (p : Use). p.chosen) (one.same frame chosen) ∙ chosen) ∙ one.same frame chosen;
}

keeps_after : (ps : List Use) (at : Option (ℕ × ℕ)) → IsNextPlace ps at → KeepsChosen ps (after_placing ps at)
keeps_after ps None none = keeps_all ps
keeps_after ps (Some at) next = record {
  frames = chosen-with ps at.0 at.1 false;
  size = length-with ps at.0 at.1 false;
  flag = λ frame.
      ap (λ q. (use_at (with_cell ps at.0 at.1 false) q).chosen) (place-with ps at.0 at.1 false frame)
      ∙ chosen-at ps at.0 at.1 false (place_of ps frame);
  same = λ frame chosen. chosen-other ps at.0 at.1 false frame (stays (use_at ps at.0).chosen
      (is_free_at ps at.0 at.1) next.is_free) chosen;
}
  where
    stays : (chosen is_free : Bool) → (not chosen && is_free) ≡ true → chosen ≡ false
    stays true is_free is = absurd (false≢true is)
    stays false is_free is = refl

pub keeps_placing : (ps : List Use) → KeepsChosen ps (placing ps)
keeps_placing ps = keeps_after ps (next_place ps) (is_next_place ps)

pub pages_reserved : (state : Pages × List ℕ) (from : ℕ) → (reserved state from).0 ≡ with_placed state.0
pages_reserved state from = by (next_place state.0.uses) refl
  where
    by : (at : Option (ℕ × ℕ)) → next_place state.0.uses ≡ at → (reserved state from).0 ≡ with_placed state.0
    by None is = grind arith
    by (Some at) is = grind arith

pub keeps_reserved : (state : Pages × List ℕ) (from : ℕ) → KeepsChosen state.0.uses (reserved state from).0.uses
keeps_reserved state from =
    subst (λ (ps : Pages). KeepsChosen state.0.uses ps.uses) (sym (pages_reserved state from))
    (keeps_placing state.0.uses)

pub keeps_reserving : (state : Pages × List ℕ) (xs : List ℕ) → KeepsChosen state.0.uses (reserving state xs).0.uses
keeps_reserving state [] = keeps_all state.0.uses
keeps_reserving state (x ∷ xs) = keeps_both (keeps_reserved state x) (keeps_reserving (reserved state x) xs)

pub kept_by : (start now : Pages × List ℕ) (xs : List ℕ) → now ≡ reserving start xs
    → KeepsChosen start.0.uses now.0.uses
kept_by start now xs is =
    subst (λ (s : Pages × List ℕ). KeepsChosen start.0.uses s.0.uses) (sym is) (keeps_reserving start xs)

-- ---- the loops

whole_at : (ps : List Use) (page : ℕ) → AreWhole ps → (use_at ps page).chosen ≡ true → length (use_at ps page).free ≡ 64
whole_at [] page whole chosen = absurd (false≢true chosen)
whole_at (p ∷ ps) zero whole chosen = whole.0
whole_at (p ∷ ps) (suc page) whole chosen = whole_at ps page whole.1 chosen

pub whole_chosen : (ps : List Use) (frame : ℕ) → AreWhole ps → (use_of ps frame).chosen ≡ true
    → length (use_of ps frame).free ≡ 64
whole_chosen ps frame whole chosen = whole_at ps (place_of ps frame) whole chosen

-- one more cell of a chosen page was looked at
module _ (start now : Pages × List ℕ) (frame c : ℕ) (chosen : (use_of start.0.uses frame).chosen ≡ true)
    (whole : length (use_of start.0.uses frame).free ≡ 64) (below : c < 64)
    (so_far : now ≡ reserving start (taken_places (64 * frame) (take c (use_of start.0.uses frame).free))) where
  abbrev free : List Bool
  free = (use_of start.0.uses frame).free

  within : c < length free
  within = omega (arith, whole, below)

  kept : KeepsChosen start.0.uses now.0.uses
  kept = kept_by start now (taken_places (64 * frame) (take c free)) so_far

  pub passed_over : get_or free c false ≡ true
      → now ≡ reserving start (taken_places (64 * frame) (take (c + 1) free))
  passed_over is_free =
      so_far ∙ ap (reserving start)
      (sym (ap (λ n. taken_places (64 * frame) (take n free)) (let same : c + 1 ≡ suc c = omega arith in same)
      ∙ taken_places-more (64 * frame) free c within
      ∙ ap (λ b. taken_places (64 * frame) (take c free) ++ (if b then [] else (64 * frame + c) ∷ [])) is_free
      ∙ append-nil (taken_places (64 * frame) (take c free))))

  pub reserved_one : get_or free c false ≡ false → (after : Pages × List ℕ) → after ≡ reserved now (64 * frame + c)
      → after ≡ reserving start (taken_places (64 * frame) (take (c + 1) free))
  reserved_one taken after is =
      is ∙ ap (λ s. reserved s (64 * frame + c)) so_far
      ∙ sym (reserving-append start (taken_places (64 * frame) (take c free)) ((64 * frame + c) ∷ []))
      ∙ ap (reserving start)
      (sym (ap (λ n. taken_places (64 * frame) (take n free)) (let same : c + 1 ≡ suc c = omega arith in same)
      ∙ taken_places-more (64 * frame) free c within
      ∙ ap (λ b. taken_places (64 * frame) (take c free) ++ (if b then [] else (64 * frame + c) ∷ [])) taken))

pub all_looked_at : (start now : Pages × List ℕ) (frame c : ℕ) → length (use_of start.0.uses frame).free ≡ 64
    → 64 ≤ c
    → now ≡ reserving start (taken_places (64 * frame) (take c (use_of start.0.uses frame).free))
    → now ≡ reserving start (taken_places (64 * frame) (use_of start.0.uses frame).free)
all_looked_at start now frame c whole all so_far =
    so_far
    ∙ ap (λ bs. reserving start (taken_places (64 * frame) bs))
    (take_all c (use_of start.0.uses frame).free (omega (arith, whole, all)))

-- one more chosen page was
pub reserved_page : (start now after : Pages × List ℕ) (k frame : ℕ) → k < length (chosen_frames start.0.uses)
    → now ≡ reserving start (taken_in start.0.uses (take k (chosen_frames start.0.uses)))
    → frame ≡ get_or (chosen_frames now.0.uses) k 0 → (use_of now.0.uses frame).chosen ≡ true
    → after ≡ reserving now (taken_places (64 * frame) (use_of now.0.uses frame).free)
    → after ≡ reserving start (taken_in start.0.uses (take (k + 1) (chosen_frames start.0.uses)))
reserved_page start now after k frame within so_far at chosen_now does =
    let ps = start.0.uses in
    let fs = chosen_frames ps in
    let kept = kept_by start now (taken_in ps (take k fs)) so_far in
    let is = at ∙ ap (λ gs. get_or gs k 0) kept.frames in
    let chosen = sym (kept.flag frame) ∙ chosen_now in
    does
    ∙ ap (λ (p : Use). reserving now (taken_places (64 * frame) p.free)) (kept.same frame chosen)
    ∙ ap (λ s. reserving s (taken_places (64 * frame) (use_of ps frame).free)) so_far
    ∙ sym (reserving-append start (taken_in ps (take k fs)) (taken_places (64 * frame) (use_of ps frame).free))
    ∙ ap (λ f. reserving start (taken_in ps (take k fs) ++ taken_places (64 * f) (use_of ps f).free)) is
    ∙ ap (reserving start) (sym (taken_in-more ps fs k within))
