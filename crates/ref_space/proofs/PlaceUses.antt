-- Cells of pages by place: each place is a cell of one page, whatever that page's place in the order.
use Rattle.std.proofs.Common.{◌≡◌, ℕ, zero, suc, ◌+◌, ◌*◌, ◌/◌, ◌%◌, ◌<◌, Bool, true, false, not, refl, sym, ap}
use Rattle.std.proofs.Common.{◌∙◌, arith, List, [], ◌∷◌, length, Option, Some, None, subst}
use Rattle.std.specs.Option.{option_map}
use Rattle.std.proofs.lemmas.Bool.{false≢true}
use Rattle.ref_space.specs.Pages.{Use, use_at, place_of, with_cell, AreWhole, AreFramed, page_at}
use Rattle.ref_space.specs.Pages.{is_chosen_place, is_free_place, is_free_at, with_place, next_place, next_cell}
use Rattle.ref_space.specs.Pages.{placing}
use Rattle.ref_space.specs.Pages.{in_frame, place_in_frame, after_placing, is_open_at}
use Rattle.ref_space.proofs.FrameLemmas.{framed_there, place-frame, frame_within, frame-place}
use Rattle.ref_space.proofs.NextPlaces.{is_next_place, is_free-with_same, is_free-with_other, use-with}
use Rattle.ref_space.proofs.FreeCells.{IsFreeCell, next_place_free}
use Rattle.std.proofs.Common.{◌&&◌}

-- ---- a cell that was taken or given back

pub place-with : (ps : List Use) (page cell : ℕ) (is_free : Bool) (frame : ℕ)
    → place_of (with_cell ps page cell is_free) frame ≡ place_of ps frame
place-with [] page cell is_free frame = refl
place-with (p ∷ ps) zero cell is_free frame = refl
place-with (p ∷ ps) (suc page) cell is_free frame = grind (arith, place-with ps page cell is_free frame)

pub chosen-at : (ps : List Use) (page cell : ℕ) (is_free : Bool) (other : ℕ)
    → (use_at (with_cell ps page cell is_free) other).chosen ≡ (use_at ps other).chosen
chosen-at = use-with (λ p. p.chosen) (λ cell is_free p. refl)

pub chosen_place-with : (ps : List Use) (page cell : ℕ) (is_free : Bool) (place : ℕ)
    → is_chosen_place (with_cell ps page cell is_free) place ≡ is_chosen_place ps place
chosen_place-with ps page cell is_free place =
    ap (λ own. (use_at (with_cell ps page cell is_free) own).chosen) (place-with ps page cell is_free (place / 64))
    ∙ chosen-at ps page cell is_free (page_at ps place)

pub chosen_place-placed : (ps : List Use) (at : Option (ℕ × ℕ)) (place : ℕ)
    → is_chosen_place (after_placing ps at) place ≡ is_chosen_place ps place
chosen_place-placed ps None place = refl
chosen_place-placed ps (Some at) place = chosen_place-with ps at.0 at.1 false place

module _ (ps : List Use) (framed : AreFramed ps) (whole : AreWhole ps) where
  pub page_within : (place : ℕ) → place < 64 * length ps → page_at ps place < length ps
  page_within place within = framed_there ps framed (place / 64) (omega (arith, within))

  frames_same : (one other : ℕ) → one < 64 * length ps → other < 64 * length ps
      → page_at ps one ≡ page_at ps other → one / 64 ≡ other / 64
  frames_same one other one_there other_there same =
      sym (frame-place ps (one / 64) (page_within one one_there))
      ∙ ap (λ own. (use_at ps own).frame) same ∙ frame-place ps (other / 64) (page_within other other_there)

  pub free_place-same : (place : ℕ) (is_free : Bool) → place < 64 * length ps
      → is_free_place (with_place ps place is_free) place ≡ is_free
  free_place-same place is_free within =
      ap (λ own. is_free_at (with_place ps place is_free) own (place % 64))
      (place-with ps (page_at ps place) (place % 64) is_free (place / 64))
      ∙ is_free-with_same ps (page_at ps place) (place % 64) is_free whole (page_within place within) (omega arith)

  pub free_place-other : (place other : ℕ) (is_free : Bool) → place < 64 * length ps → other < 64 * length ps
      → (other ≡ place → ⊥)
      → is_free_place (with_place ps place is_free) other ≡ is_free_place ps other
  free_place-other place other is_free within there apart =
      ap (λ own. is_free_at (with_place ps place is_free) own (other % 64))
      (place-with ps (page_at ps place) (place % 64) is_free (other / 64))
      ∙ is_free-with_other ps (page_at ps place) (place % 64) is_free (page_at ps other) (other % 64)
      (λ page cell.
      let frame = frames_same other place there within page in
      apart (omega (arith, frame, cell)))

-- ---- where the next object is placed

pub record IsNext (ps : List Use) (place : ℕ) : Type 0 where
  pub within : place < 64 * length ps
  pub stays : is_chosen_place ps place ≡ false
  pub is_free : is_free_place ps place ≡ true
  pub placed : placing ps ≡ with_place ps place false

abbrev or_zero : Option (ℕ × ℕ) → ℕ × ℕ
or_zero None = (0, 0)
or_zero (Some o) = o

module _ (ps : List Use) (framed : AreFramed ps) (whole : AreWhole ps) where
  next_in : (own : ℕ × ℕ) → next_place ps ≡ Some own
      → IsNext ps (place_in_frame ((use_at ps own.0).frame, own.1))
  next_in own next =
      let there : IsFreeCell ps own.0 own.1 = next_place_free ps own whole next in
      let frame : ℕ = (use_at ps own.0).frame in
      let small = frame_within ps framed own.0 there.page_there in
      let below = there.cell_there in
      let whose : (64 * frame + own.1) / 64 ≡ frame = omega (arith, below) in
      let which : (64 * frame + own.1) % 64 ≡ own.1 = omega (arith, below) in
      let page : page_at ps (64 * frame + own.1) ≡ own.0 =
      ap (place_of ps) whose ∙ place-frame ps framed own.0 there.page_there in
      record {
        within = omega (arith, small, below);
        stays = ap (λ q. (use_at ps q).chosen) page
            ∙ open_page (use_at ps own.0).chosen (is_free_at ps own.0 own.1) (is_next own next);
        is_free = ap (λ q. is_free_at ps q ((64 * frame + own.1) % 64)) page
            ∙ ap (is_free_at ps own.0) which ∙ there.is_free;
        placed = ap (after_placing ps) next
            ∙ ap (λ q. with_cell ps q own.1 false) (sym page)
            ∙ ap (λ c. with_cell ps (page_at ps (64 * frame + own.1)) c false) (sym which);
      }
    where
      open_page : (chosen is_free : Bool) → (not chosen && is_free) ≡ true → chosen ≡ false
      open_page true is_free is = absurd (false≢true is)
      open_page false is_free is = refl

      is_next : (own : ℕ × ℕ) → next_place ps ≡ Some own → is_open_at ps own.0 own.1 ≡ true
      is_next own next = grind (arith, is_next_place ps)

  pub next_is : (at : ℕ × ℕ) → next_cell ps ≡ Some at → IsNext ps (place_in_frame at)
  next_is at next = by (next_place ps) refl
    where
      by : (found : Option (ℕ × ℕ)) → next_place ps ≡ found → IsNext ps (place_in_frame at)
      by None is = absurd (cc)
      by (Some own) is =
          subst (λ (o : Option (ℕ × ℕ)). IsNext ps (place_in_frame (or_zero o)))
          (sym (ap (option_map (in_frame ps)) is) ∙ next) (next_in own is)

-- a place of a chosen page is one of a page
pub chosen_within : (ps : List Use) → AreFramed ps → (place : ℕ) → is_chosen_place ps place ≡ true
    → place / 64 < length ps
chosen_within ps framed place chosen =
    let there = chosen_there ps (page_at ps place) chosen in
    let own = frame-place ps (place / 64) there in
    let small = frame_within ps framed (page_at ps place) there in
    omega (arith, own, small)
  where
    chosen_there : (ps : List Use) (page : ℕ) → (use_at ps page).chosen ≡ true → page < length ps
    chosen_there [] page chosen = absurd (false≢true chosen)
    chosen_there (p ∷ ps) zero chosen = omega arith
    chosen_there (p ∷ ps) (suc page) chosen = let rest = chosen_there ps page chosen in omega (arith, rest)
