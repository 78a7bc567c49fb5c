-- Which pages are chosen, and what a renumbering makes of them.
use Rattle.std.proofs.Common.{◌≡◌, ℕ, zero, suc, ◌+◌, ◌*◌, ◌<◌, ◌≤◌, Bool, true, false, refl, sym, ap, ◌∙◌, arith}
use Rattle.ref_space.specs.Pages.{with_cell, use_at}
use Rattle.std.proofs.lemmas.Bool.{false≢true}
use Rattle.std.proofs.Common.{List, [], ◌∷◌, ◌++◌, length, get_or, take, drop, set, nat_lt, if◌then◌else◌}
use Rattle.std.proofs.lemmas.List.{append-nil, append_assoc, take_more, map_more, length-take-le, drop_more, length-map}
use Rattle.std.proofs.lemmas.List.{get_or-append_right}
use Rattle.std.proofs.lemmas.List.Edits.{map_over_more}
use Rattle.std.proofs.lemmas.List.Sums.{sum_by-cons}
use Rattle.ref_space.specs.Pages.{Use, fresh_page, fresh_pages, empty_pages, is_sparse, taken_cells, sparse_cells}
use Rattle.ref_space.specs.Pages.{choosing, chosen_if_sparse, taken_if_sparse, chosen_frames, has_chosen, opened}

-- ---- chosen pages

pub chosen-append : (ps qs : List Use) → chosen_frames (ps ++ qs) ≡ chosen_frames ps ++ chosen_frames qs
chosen-append [] qs = refl
chosen-append (p ∷ ps) qs = grind (arith, chosen-append ps qs)

pub chosen-fresh : (first frame count : ℕ) → chosen_frames (fresh_pages first frame count) ≡ []
chosen-fresh first frame zero = refl
chosen-fresh first frame (suc count) = chosen-fresh (suc first) (suc frame) count

-- no open page is chosen
pub chosen-opened : (ps : List Use) → chosen_frames (opened ps) ≡ []
chosen-opened [] = refl
chosen-opened (p ∷ ps) = grind (arith, chosen-opened ps)

-- each page is open or chosen
pub opened_chosen : (ps : List Use) → length (opened ps) + length (chosen_frames ps) ≡ length ps
opened_chosen [] = refl
opened_chosen (p ∷ ps) = grind (arith, opened_chosen ps)

no_frames : (fs : List ℕ) → nat_lt 0 (length fs) ≡ false → fs ≡ []
no_frames [] none = refl
no_frames (f ∷ fs) none = grind arith

pub none_chosen : (ps : List Use) → has_chosen ps ≡ false → chosen_frames ps ≡ []
none_chosen ps none = no_frames (chosen_frames ps) none

-- a cell that is taken or given back changes none
pub chosen-with : (ps : List Use) (page cell : ℕ) (is_free : Bool)
    → chosen_frames (with_cell ps page cell is_free) ≡ chosen_frames ps
chosen-with [] page cell is_free = refl
chosen-with (p ∷ ps) zero cell is_free = refl
chosen-with (p ∷ ps) (suc page) cell is_free = grind (arith, chosen-with ps page cell is_free)

pub some_chosen : (ps : List Use) (page : ℕ) → (use_at ps page).chosen ≡ true → has_chosen ps ≡ true
some_chosen [] page chosen = absurd (false≢true chosen)
some_chosen (p ∷ ps) zero chosen = grind arith
some_chosen (p ∷ ps) (suc page) chosen = grind (arith, some_chosen ps page chosen)

-- where none is chosen all are open
pub opened_all : (ps : List Use) → chosen_frames ps ≡ [] → opened ps ≡ ps
opened_all [] none = refl
opened_all (p ∷ ps) none = grind (arith, opened_all ps)

-- ---- a loop that counts the cells of sparse pages

cells_one : (p : Use) → taken_if_sparse p ≤ 32
cells_one p = grind arith

cells_most : (ps : List Use) → sparse_cells ps ≤ 32 * length ps
cells_most [] = omega arith
cells_most (p ∷ ps) = let one = cells_one p in grind (arith, one, sum_by-cons taken_if_sparse p ps, cells_most ps)

pub cells_fit : (ps : List Use) (i cells taken : ℕ) (p : Use) → i < length ps → cells ≡ sparse_cells (take i ps)
    → taken ≡ taken_cells p → is_sparse p ≡ true → cells + taken ≤ 32 * length ps
cells_fit ps i cells taken p within so_far is sparse =
    let most = cells_most (take i ps) in
    let size = length-take-le i ps (omega (arith, within)) in
    let one : taken_cells p ≤ 32 = grind arith in
    omega (arith, most, size, one, so_far, is, within)

-- ---- a loop that chooses

pub chosen_most : (ps : List Use) → length (chosen_frames ps) ≤ length ps
chosen_most [] = omega arith
chosen_most (p ∷ ps) = grind (arith, chosen_most ps)

not_chosen : (ps : List Use) (i : ℕ) (d : Use) → i < length ps → chosen_frames ps ≡ [] → (get_or ps i d).chosen ≡ false
not_chosen [] i d within none = absurd (omega arith)
not_chosen (p ∷ ps) zero d within none = grind arith
not_chosen (p ∷ ps) (suc i) d within none = grind (arith, not_chosen ps i d)

abbrev frame_if : Bool → ℕ → List ℕ
frame_if sparse frame = if sparse then frame ∷ [] else []

chosen_one : (p : Use) → p.chosen ≡ false
    → chosen_frames (chosen_if_sparse p ∷ []) ≡ frame_if (is_sparse p) p.frame
chosen_one p open_page = grind arith

chosen_more : (ps : List Use) (i : ℕ) (p : Use) → i < length ps → chosen_frames ps ≡ [] → get_or ps i p ≡ p
    → chosen_frames (choosing (take (i + 1) ps))
    ≡ chosen_frames (choosing (take i ps)) ++ frame_if (is_sparse p) p.frame
chosen_more ps i p within none is =
    ap chosen_frames (map_more chosen_if_sparse ps i p within)
    ∙ chosen-append (choosing (take i ps)) (chosen_if_sparse (get_or ps i p) ∷ [])
    ∙ ap (λ (q : Use). chosen_frames (choosing (take i ps)) ++ chosen_frames (chosen_if_sparse q ∷ [])) is
    ∙ ap (λ fs. chosen_frames (choosing (take i ps)) ++ fs)
    (chosen_one p (ap (λ (q : Use). q.chosen) (sym is) ∙ not_chosen ps i p within none))

-- so many pages were looked at
module _ (old ps : List Use) (i : ℕ) (within : i < length old) (are : ps ≡ choosing (take i old) ++ drop i old)
    (p : Use) (read : p ≡ get_or ps i p) where
  front : length (choosing (take i old)) ≡ i
  front = length-map (take i old) chosen_if_sparse ∙ length-take-le i old (omega (arith, within))

  -- the next is as it was
  pub read_old : get_or old i p ≡ p
  read_old = grind (arith, front, get_or-append_right, drop_more old i p within)

  pub choosing_more : (q : Use) → q ≡ chosen_if_sparse p
      → set ps i q ≡ choosing (take (i + 1) old) ++ drop (i + 1) old
  choosing_more q is = ap (set ps i) is ∙ map_over_more chosen_if_sparse old ps i p within are read

  module _ (none : chosen_frames old ≡ []) (fs : List ℕ) (listed : fs ≡ chosen_frames (choosing (take i old))) where
    pub chosen_fits : length fs < length old
    chosen_fits =
        let most = chosen_most (choosing (take i old)) in
        let size = ap length listed in
        omega (arith, most, size, front, within)

    pub listed_more : is_sparse p ≡ true → (q : Use) → q ≡ chosen_if_sparse p → (frame : ℕ) → frame ≡ q.frame
        → (gs : List ℕ) → gs ≡ fs ++ frame ∷ [] → gs ≡ chosen_frames (choosing (take (i + 1) old))
    listed_more sparse q chosen frame is gs put = grind (arith, chosen_more old i p within none read_old)

    pub listed_still : is_sparse p ≡ false → fs ≡ chosen_frames (choosing (take (i + 1) old))
    listed_still full = grind (arith, append-nil, chosen_more old i p within none read_old)

-- ---- emptied pages

pub length-emptied : (first : ℕ) (fs : List ℕ) → length (empty_pages first fs) ≡ length fs
length-emptied first [] = refl
length-emptied first (f ∷ fs) = ap suc (length-emptied (suc first) fs)

emptied-suc : (first : ℕ) (fs : List ℕ) (frame : ℕ)
    → empty_pages first (fs ++ frame ∷ []) ≡ empty_pages first fs ++ fresh_page (first + length fs) frame ∷ []
emptied-suc first [] frame = let same : first ≡ first + 0 = omega arith in ap (λ a. fresh_page a frame ∷ []) same
emptied-suc first (f ∷ fs) frame = grind (arith, emptied-suc (suc first) fs frame)

-- one more is put behind
pub pushed_emptied : (first : ℕ) (fs : List ℕ) (i : ℕ) (old ps qs : List Use) (p : Use) → i < length fs
    → ps ≡ old ++ empty_pages first (take i fs) → p ≡ fresh_page (first + i) (get_or fs i 0) → qs ≡ ps ++ p ∷ []
    → qs ≡ old ++ empty_pages first (take (i + 1) fs)
pushed_emptied first fs i old ps qs p within are is put =
    let size : length (take i fs) ≡ i = length-take-le i fs (omega (arith, within)) in
    grind (arith, append_assoc, take_more fs i 0 within, emptied-suc first (take i fs) (get_or fs i 0), size)
