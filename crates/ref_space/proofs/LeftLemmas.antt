-- What is left in the chosen pages, and where it is to move.
use Rattle.std.proofs.Common.{◌≡◌, ℕ, zero, suc, ◌+◌, ◌*◌, ◌<◌, ◌≤◌, Bool, true, false, refl, sym, ap, subst, ◌∙◌}
use Rattle.std.proofs.Common.{arith}
use Rattle.std.proofs.Common.{List, [], ◌∷◌, ◌++◌, length, get_or, nat_lt, ltb-true, ltb-false, Option, Some, None, inl}
use Rattle.std.proofs.Common.{inr}
use Rattle.std.proofs.lemmas.Bool.{cases_Bool, false≢true}
use Rattle.std.specs.Option.{is_some, option_map}
use Rattle.std.proofs.lemmas.Option.{none-some, same_Some}
use Rattle.ref_space.specs.Bits.{first_clear, count_clear}
use Rattle.ref_space.specs.Pages.{Use, use_at, use_of, place_of, with_cell, AreFramed, chosen_frames}
use Rattle.ref_space.specs.Pages.{taken_places, taken_in, taken_cells}
use Rattle.ref_space.proofs.FrameLemmas.{frame_within, place-frame}
use Rattle.ref_space.proofs.RoomLemmas.{count_given_most}
use Rattle.ref_space.proofs.PlaceUses.{place-with}
use Rattle.ref_space.specs.PageViews.{NoneTaken}
use Rattle.ref_space.specs.Worklists.{first_in}

-- ---- the taken cells of a page

none_taken : (place : ℕ) (bs : List Bool) → count_clear bs ≡ 0 → taken_places place bs ≡ []
none_taken place [] none = refl
none_taken place (b ∷ bs) none = grind (arith, none_taken (suc place) bs)

record IsNext (at : Option ℕ) (r : ℕ) : Type 0 where
  pub before : ℕ
  pub there : at ≡ Some before
  pub is : suc before ≡ r

one_later : (at : Option ℕ) (r : ℕ) → option_map suc at ≡ Some r → IsNext at r
one_later None r is = absurd (none-some r is)
one_later (Some q) r is = record { before = q; there = refl; is = same_Some (suc q) r is }

first_taken : (place : ℕ) (bs : List Bool) (r : ℕ) → first_clear bs ≡ Some r
    → (rest : List ℕ) → first_in (taken_places place bs ++ rest) ≡ Some (place + r)
first_taken place [] r is rest = absurd (none-some r is)
first_taken place (false ∷ bs) r is rest = ap Some (let same = same_Some 0 r is in omega (arith, same))
first_taken place (true ∷ bs) r is rest =
    let next = one_later (first_clear bs) r is in
    first_taken (suc place) bs next.before next.there rest
    ∙ ap Some (let same = next.is in omega (arith, same))

-- ---- and of several

pub nothing_left : (ps : List Use) (fs : List ℕ) → NoneTaken ps fs (length fs) → taken_in ps fs ≡ []
nothing_left ps [] none = refl
nothing_left ps (f ∷ fs) none =
    ap (λ places. places ++ taken_in ps fs) (none_taken (64 * f) (use_of ps f).free (none 0 (omega arith)))
    ∙ nothing_left ps fs (λ at below. none (suc at) (omega (arith, below)))

pub first_is_left : (ps : List Use) (fs : List ℕ) (k frame r : ℕ) → NoneTaken ps fs k → k < length fs
    → frame ≡ get_or fs k 0 → first_clear (use_of ps frame).free ≡ Some r
    → first_in (taken_in ps fs) ≡ Some (64 * frame + r)
first_is_left ps [] k frame r none within at is = absurd (omega arith)
first_is_left ps (f ∷ fs) zero frame r none within at is =
    ap (λ g. first_in (taken_places (64 * g) (use_of ps g).free ++ taken_in ps fs)) (sym at)
    ∙ first_taken (64 * frame) (use_of ps frame).free r is (taken_in ps fs)
first_is_left ps (f ∷ fs) (suc k) frame r none within at is =
    ap (λ places. first_in (places ++ taken_in ps fs)) (none_taken (64 * f) (use_of ps f).free (none 0 (omega arith)))
    ∙ first_is_left ps fs k frame r (λ i below. none (suc i) (omega (arith, below))) (omega arith) at is

some_taken : (place : ℕ) (bs : List Bool) (rest : List ℕ) → 0 < count_clear bs
    → is_some (first_in (taken_places place bs ++ rest)) ≡ true
some_taken place [] rest some = absurd (omega (arith, some))
some_taken place (true ∷ bs) rest some = some_taken (suc place) bs rest some
some_taken place (false ∷ bs) rest some = refl

-- something is left where one of them has a taken cell
some_there : (ps : List Use) (fs : List ℕ) (k : ℕ) → NoneTaken ps fs k → k < length fs
    → 0 < taken_cells (use_of ps (get_or fs k 0)) → is_some (first_in (taken_in ps fs)) ≡ true
some_there ps [] k none within there = absurd (omega (arith, within))
some_there ps (f ∷ fs) zero none within there = some_taken (64 * f) (use_of ps f).free (taken_in ps fs) there
some_there ps (f ∷ fs) (suc k) none within there =
    ap (λ places. is_some (first_in (places ++ taken_in ps fs)))
    (none_taken (64 * f) (use_of ps f).free (none 0 (omega arith)))
    ∙ some_there ps fs k (λ i below. none (suc i) (omega (arith, below))) (omega (arith, within)) there

-- and just there
pub some_left : (ps : List Use) (fs : List ℕ) (k : ℕ) → k ≤ length fs → NoneTaken ps fs k
    → (k < length fs → 0 < taken_cells (use_of ps (get_or fs k 0)))
    → nat_lt k (length fs) ≡ is_some (first_in (taken_in ps fs))
some_left ps fs k most none there =
    elim (cases_Bool (nat_lt k (length fs))) [
      | inl before ↦
          let within = ltb-true k (length fs) before in
          before ∙ sym (some_there ps fs k none within (there within))
      | inr behind ↦
          let past = ltb-false k (length fs) behind in
          let all : k ≡ length fs = omega (arith, most, past) in
          behind
          ∙ ap (λ places. is_some (first_in places))
          (sym (nothing_left ps fs (subst (NoneTaken ps fs) all none)))
    ]

-- ---- the frames of chosen pages

pub record IsChosenFrame (ps : List Use) (frame : ℕ) : Type 0 where
  pub within : frame < length ps
  pub chosen : (use_of ps frame).chosen ≡ true

record IsChosenPage (ps : List Use) (frame : ℕ) : Type 0 where
  pub page : ℕ
  pub within : page < length ps
  pub chosen : (use_at ps page).chosen ≡ true
  pub is : (use_at ps page).frame ≡ frame

later_page : {p : Use} {ps : List Use} {frame : ℕ} → IsChosenPage ps frame → IsChosenPage (p ∷ ps) frame
later_page own = record {
  page = suc own.page;
  within = let h = own.within in omega (arith, h);
  chosen = own.chosen;
  is = own.is;
}

chosen_page : (ps : List Use) (k : ℕ) → k < length (chosen_frames ps) → IsChosenPage ps (get_or (chosen_frames ps) k 0)
chosen_page [] k within = absurd (omega arith)
chosen_page (p ∷ ps) k within =
    elim (cases_Bool p.chosen) [
      | inl chosen ↦ simp chosen (here p ps chosen k (simp chosen at within) (λ i less. chosen_page ps i less))
      | inr stays ↦ simp stays (later_page (chosen_page ps k (simp stays at within)))
    ]
  where
    here : (p : Use) (ps : List Use) → p.chosen ≡ true → (k : ℕ) → k < suc (length (chosen_frames ps))
        → ((i : ℕ) → i < length (chosen_frames ps) → IsChosenPage ps (get_or (chosen_frames ps) i 0))
        → IsChosenPage (p ∷ ps) (get_or (p.frame ∷ chosen_frames ps) k 0)
    here p ps chosen zero within rest = record { page = 0; within = omega arith; chosen = chosen; is = refl }
    here p ps chosen (suc k) within rest = later_page (rest k (omega arith))

pub chosen_frame : (ps : List Use) → AreFramed ps → (k : ℕ) → k < length (chosen_frames ps)
    → IsChosenFrame ps (get_or (chosen_frames ps) k 0)
chosen_frame ps framed k within =
    let own = chosen_page ps k within in
    record {
      within = subst (λ f. f < length ps) own.is (frame_within ps framed own.page own.within);
      chosen = ap (λ f. (use_of ps f).chosen) (sym own.is)
          ∙ ap (λ q. (use_at ps q).chosen) (place-frame ps framed own.page own.within) ∙ own.chosen;
    }

-- ---- a cell that was taken or given back

pub use-other : (ps : List Use) (page cell : ℕ) (is_free : Bool) (other : ℕ) → (other ≡ page → ⊥)
    → use_at (with_cell ps page cell is_free) other ≡ use_at ps other
use-other [] page cell is_free other apart = refl
use-other (p ∷ ps) zero cell is_free zero apart = absurd (apart refl)
use-other (p ∷ ps) zero cell is_free (suc other) apart = refl
use-other (p ∷ ps) (suc page) cell is_free zero apart = refl
use-other (p ∷ ps) (suc page) cell is_free (suc other) apart =
    use-other ps page cell is_free other (λ same. apart (ap suc same))

fewer_taken : (ps : List Use) (page cell other : ℕ)
    → taken_cells (use_at (with_cell ps page cell true) other) ≤ taken_cells (use_at ps other)
fewer_taken [] page cell other = omega arith
fewer_taken (p ∷ ps) zero cell zero = count_given_most p.free cell
fewer_taken (p ∷ ps) zero cell (suc other) = omega arith
fewer_taken (p ∷ ps) (suc page) cell zero = omega arith
fewer_taken (p ∷ ps) (suc page) cell (suc other) = fewer_taken ps page cell other

pub none_taken-given : (ps : List Use) (page cell : ℕ) (fs : List ℕ) (k : ℕ) → NoneTaken ps fs k
    → NoneTaken (with_cell ps page cell true) fs k
none_taken-given ps page cell fs k none at below =
    let same = place-with ps page cell true (get_or fs at 0) in
    let fewer = fewer_taken ps page cell (place_of ps (get_or fs at 0)) in
    let before = none at below in
    ap (λ q. taken_cells (use_at (with_cell ps page cell true) q)) same ∙ (omega (arith, fewer, before))

-- a frame of a chosen page has what it had as a cell of an open page is taken
pub chosen-other : (ps : List Use) (page cell : ℕ) (is_free : Bool) (frame : ℕ) → (use_at ps page).chosen ≡ false
    → (use_of ps frame).chosen ≡ true → use_of (with_cell ps page cell is_free) frame ≡ use_of ps frame
chosen-other ps page cell is_free frame stays chosen =
    ap (use_at (with_cell ps page cell is_free)) (place-with ps page cell is_free frame)
    ∙ use-other ps page cell is_free (place_of ps frame)
    (λ same. false≢true (sym stays ∙ ap (λ q. (use_at ps q).chosen) (sym same) ∙ chosen))

pub none_taken-placed : (ps : List Use) (page cell k : ℕ) → AreFramed ps → (use_at ps page).chosen ≡ false
    → k ≤ length (chosen_frames ps) → NoneTaken ps (chosen_frames ps) k
    → NoneTaken (with_cell ps page cell false) (chosen_frames ps) k
none_taken-placed ps page cell k framed stays within none at below =
    let own = chosen_frame ps framed at (omega (arith, within, below)) in
    ap taken_cells (chosen-other ps page cell false (get_or (chosen_frames ps) at 0) stays own.chosen) ∙ none at below
