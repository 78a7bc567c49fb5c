-- Which cells are free, page by page: cell c of page p stands at place 64 * p + c.
use Rattle.std.proofs.Common.{◌≡◌, ℕ, zero, suc, ◌<◌, true, false, arith}
use Rattle.std.proofs.Common.{List, [], ◌∷◌, length, get_or, Some}
use Rattle.std.proofs.lemmas.Bool.{false≢true}
use Rattle.std.proofs.lemmas.List.{get_or_past}
use Rattle.ref_space.specs.Pages.{Use, is_free_at, next_place, AreWhole}
use Rattle.ref_space.proofs.NextPlaces.{is_next_place}

-- ---- the next place

-- it is a place of a cell, which is free
pub record IsFreeCell (ps : List Use) (page cell : ℕ) : Type 0 where
  pub page_there : page < length ps
  pub cell_there : cell < 64
  pub is_free : is_free_at ps page cell ≡ true

within_page : (p : Use) (cell : ℕ) → length p.free ≡ 64 → get_or p.free cell false ≡ true → cell < 64
within_page p cell whole is_free = grind (arith, get_or_past)

free_cell : (ps : List Use) (page cell : ℕ) → AreWhole ps → is_free_at ps page cell ≡ true → IsFreeCell ps page cell
free_cell [] page cell whole is_free = absurd (false≢true is_free)
free_cell (p ∷ ps) zero cell whole is_free =
    record { page_there = omega arith; cell_there = within_page p cell whole.0 is_free; is_free = is_free }
free_cell (p ∷ ps) (suc page) cell whole is_free = grind (arith, free_cell ps page cell whole.1 is_free)

pub next_place_free : (ps : List Use) (at : ℕ × ℕ) → AreWhole ps → next_place ps ≡ Some at → IsFreeCell ps at.0 at.1
next_place_free ps at whole is = grind (arith, is_next_place ps, free_cell ps at.0 at.1 whole)

-- ---- new pages
