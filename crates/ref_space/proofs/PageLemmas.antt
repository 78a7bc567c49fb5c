-- Where the next object is placed, and what the calls on pages leave.
use Rattle.std.proofs.Common.{◌≡◌, ℕ, zero, suc, ◌+◌, ◌<◌, ◌≤◌, Bool, true, false, refl, sym, ap, subst, ◌∙◌, arith}
use Rattle.std.proofs.Common.{List, [], ◌∷◌, ◌++◌, length, get_or, set, take, Some, None}
use Rattle.std.proofs.lemmas.List.{length-set, get_or_read}
use Rattle.ref_space.specs.Bits.{first_set}
use Rattle.ref_space.specs.Pages.{Use, use_at, all_free, fresh_page, fresh_pages, with_free, with_cell, has_open_cell}
use Rattle.ref_space.specs.Pages.{in_first, page_later, next_place, after_placing, NoneHasRoom, AreWhole}

-- ---- new pages

fresh_pages-suc : (first frame count : ℕ)
    → fresh_pages first frame (suc count)
    ≡ fresh_pages first frame count ++ fresh_page (first + count) (frame + count) ∷ []
fresh_pages-suc first frame zero =
    let address : first ≡ first + 0 = omega arith in
    let same : frame ≡ frame + 0 = omega arith in
    (λ i. fresh_page (address i) (same i) ∷ [])
fresh_pages-suc first frame (suc count) = grind (arith, fresh_pages-suc (suc first) (suc frame) count)

-- the next new page is put behind those that are there
pub fresh_pages-next : (first count : ℕ) (ps qs : List Use) (p : Use) → qs ≡ ps ++ p ∷ []
    → ps ≡ fresh_pages first 0 count → p ≡ fresh_page (first + count) count → qs ≡ fresh_pages first 0 (count + 1)
fresh_pages-next first count ps qs p put are is = grind (arith, fresh_pages-suc)

pub length-fresh : (first frame count : ℕ) → length (fresh_pages first frame count) ≡ count
length-fresh first frame zero = refl
length-fresh first frame (suc count) = ap suc (length-fresh (suc first) (suc frame) count)

pub fresh_address : (first frame count page : ℕ) → page < count
    → (use_at (fresh_pages first frame count) page).address ≡ first + page
fresh_address first frame zero page below = absurd (omega arith)
fresh_address first frame (suc count) zero below = omega arith
fresh_address first frame (suc count) (suc page) below =
    let rest = fresh_address (suc first) (suc frame) count page (omega arith) in omega (arith, rest)

pub fresh_whole : (first frame count : ℕ) → AreWhole (fresh_pages first frame count)
unfolding all_free
fresh_whole first frame zero = tt
fresh_whole first frame (suc count) = (refl, fresh_whole (suc first) (suc frame) count)

pub whole_with : (ps : List Use) (page cell : ℕ) (is_free : Bool) → AreWhole ps
    → AreWhole (with_cell ps page cell is_free)
whole_with [] page cell is_free whole = tt
whole_with (p ∷ ps) zero cell is_free whole = (length-set p.free cell is_free ∙ whole.0, whole.1)
whole_with (p ∷ ps) (suc page) cell is_free whole = (whole.0, whole_with ps page cell is_free whole.1)

-- ---- pages in front that have no room

-- the place that a page has, which comes behind so many without room
found_at : (k : ℕ) (ps : List Use) (p : Use) (cell : ℕ) → NoneHasRoom (take k ps) → k < length ps
    → p ≡ get_or ps k p → has_open_cell p ≡ true → first_set p.free ≡ Some cell → next_place ps ≡ Some (k, cell)
found_at k [] p cell none within is room_there first = absurd (omega arith)
found_at zero (q ∷ ps) p cell none within is room_there first =
    subst (λ (o : Use). next_place (o ∷ ps) ≡ Some (0, cell)) is (simp room_there (ap in_first first))
found_at (suc k) (q ∷ ps) p cell none within is room_there first =
    simp (none.0) (ap page_later (found_at k ps p cell none.1 (omega arith) is room_there first))

pub nowhere : (ps : List Use) → NoneHasRoom ps → next_place ps ≡ None
nowhere [] none = refl
nowhere (p ∷ ps) none = simp (none.0) (ap page_later (nowhere ps none.1))

pub with_cell-set : (ps : List Use) (page cell : ℕ) (is_free : Bool) (p : Use) → p ≡ get_or ps page p
    → with_cell ps page cell is_free ≡ set ps page (with_free cell is_free p)
with_cell-set [] page cell is_free p is = refl
with_cell-set (q ∷ ps) zero cell is_free p is = ap (λ (o : Use). with_free cell is_free o ∷ ps) (sym is)
with_cell-set (q ∷ ps) (suc page) cell is_free p is = ap (λ os. q ∷ os) (with_cell-set ps page cell is_free p is)

-- a change at a page changes none in front
pub none_in_front : (k page : ℕ) (ps : List Use) (q : Use) → k ≤ page → NoneHasRoom (take k ps)
    → NoneHasRoom (take k (set ps page q))
none_in_front zero page ps q before none = tt
none_in_front (suc k) page [] q before none = none
none_in_front (suc k) zero (p ∷ ps) q before none = absurd (omega arith)
none_in_front (suc k) (suc page) (p ∷ ps) q before none = (none.0, none_in_front k page ps q (omega arith) none.1)

-- fewer in front
pub none_shorter : (j k : ℕ) (ps : List Use) → j ≤ k → NoneHasRoom (take k ps) → NoneHasRoom (take j ps)
none_shorter zero k ps fewer none = tt
none_shorter (suc j) zero ps fewer none = absurd (omega arith)
none_shorter (suc j) (suc k) [] fewer none = none
none_shorter (suc j) (suc k) (p ∷ ps) fewer none = (none.0, none_shorter j k ps (omega arith) none.1)

-- one more in front that has no room
none_longer : (k : ℕ) (ps : List Use) (p : Use) → k < length ps → p ≡ get_or ps k p → has_open_cell p ≡ false
    → NoneHasRoom (take k ps) → NoneHasRoom (take (suc k) ps)
none_longer k [] p within is full none = absurd (omega arith)
none_longer zero (q ∷ ps) p within is full none = (subst (λ (o : Use). has_open_cell o ≡ false) is full, tt)
none_longer (suc k) (q ∷ ps) p within is full none = (none.0, none_longer k ps p (omega arith) is full none.1)

pub none_up_to : (j k : ℕ) (ps : List Use) (p : Use) → j ≡ k + 1 → k < length ps → p ≡ get_or ps k p
    → has_open_cell p ≡ false → NoneHasRoom (take k ps) → NoneHasRoom (take j ps)
none_up_to j k ps p is within own full none =
    let next : suc k ≡ j = omega (arith, is) in
    subst (λ i. NoneHasRoom (take i ps)) next (none_longer k ps p within own full none)

-- ---- a place is taken, or given back

-- nothing in front of a page has room, and that it has is its lowest free cell
pub placed : (ps : List Use) (page : ℕ) (p : Use) (cell : ℕ) → NoneHasRoom (take page ps) → page < length ps
    → p ≡ get_or ps page p → has_open_cell (use_at ps page) ≡ true → first_set p.free ≡ Some cell
    → next_place ps ≡ Some (page, cell)
placed ps page p cell none within is there first = grind (arith, found_at, get_or_read)

pub placed_after : (ps : List Use) (page : ℕ) (p q : Use) (cell : ℕ) → next_place ps ≡ Some (page, cell)
    → p ≡ get_or ps page p → q ≡ with_free cell false p → set ps page q ≡ after_placing ps (next_place ps)
placed_after ps page p q cell at is taken =
    ap (λ (o : Use). set ps page o) taken ∙ sym (with_cell-set ps page cell false p is) ∙ ap (after_placing ps) (sym at)
