-- How many cells are taken: one more with each that is placed, and no place is left only where all are.
use Rattle.std.proofs.Common.{◌≡◌, ℕ, zero, suc, ◌*◌, ◌<◌, ◌≤◌, Bool, true, false, not, refl, sym, ap, subst, ◌∙◌}
use Rattle.std.proofs.Common.{arith}
use Rattle.std.proofs.Common.{List, [], ◌∷◌, length, get_or, set, Option, Some, None, is_some, inl, inr}
use Rattle.std.proofs.lemmas.Bool.{cases_Bool, and_parts, true≢false, false≢true}
use Rattle.ref_space.specs.Bits.{first_set, any_set, count_clear}
use Rattle.ref_space.specs.Pages.{Use, use_at, is_free_at, with_cell, next_place, after_placing, placing, has_open_cell}
use Rattle.ref_space.specs.Pages.{all_free, fresh_pages, NoneHasRoom, AreWhole, IsNextPlace, taken_of, Packed}
use Rattle.ref_space.specs.Pages.{opened, chosen_frames, in_first, page_later, AreFilled}
use Rattle.ref_space.proofs.NextPlaces.{is_next_place}
use Rattle.ref_space.proofs.MoveLemmas.{opened_all, chosen-opened, chosen-fresh}

-- ---- one page

pub none_clear : (bs : List Bool) → any_set bs ≡ false → count_clear bs ≡ length bs
none_clear [] none = refl
none_clear (true ∷ bs) none = absurd (true≢false none)
none_clear (false ∷ bs) none = ap suc (none_clear bs none)

count_cleared : (bs : List Bool) (i : ℕ) → get_or bs i false ≡ true
    → count_clear (set bs i false) ≡ suc (count_clear bs)
count_cleared [] i is_set = absurd (false≢true is_set)
count_cleared (true ∷ bs) zero is_set = refl
count_cleared (false ∷ bs) zero is_set = absurd (false≢true is_set)
count_cleared (true ∷ bs) (suc i) is_set = count_cleared bs i is_set
count_cleared (false ∷ bs) (suc i) is_set = ap suc (count_cleared bs i is_set)

count_given : (bs : List Bool) (i : ℕ) → i < length bs → get_or bs i false ≡ false
    → count_clear bs ≡ suc (count_clear (set bs i true))
count_given [] i within clear = absurd (omega arith)
count_given (true ∷ bs) zero within clear = absurd (true≢false clear)
count_given (false ∷ bs) zero within clear = refl
count_given (true ∷ bs) (suc i) within clear = count_given bs i (omega arith) clear
count_given (false ∷ bs) (suc i) within clear = ap suc (count_given bs i (omega arith) clear)

pub count_given_most : (bs : List Bool) (i : ℕ) → count_clear (set bs i true) ≤ count_clear bs
count_given_most [] i = omega arith
count_given_most (true ∷ bs) zero = omega arith
count_given_most (false ∷ bs) zero = omega arith
count_given_most (true ∷ bs) (suc i) = count_given_most bs i
count_given_most (false ∷ bs) (suc i) = let rest = count_given_most bs i in omega (arith, rest)

-- ---- all pages

-- a taken cell is one more
pub taken_more : (ps : List Use) (page cell : ℕ) → is_free_at ps page cell ≡ true
    → taken_of (with_cell ps page cell false) ≡ suc (taken_of ps)
taken_more [] page cell is_free = absurd (false≢true is_free)
taken_more (p ∷ ps) zero cell is_free = let more = count_cleared p.free cell is_free in omega (arith, more)
taken_more (p ∷ ps) (suc page) cell is_free =
    let more = taken_more ps page cell is_free in omega (arith, more)

-- one that is given back is one fewer
pub taken_fewer : (ps : List Use) (page cell : ℕ) → AreWhole ps → page < length ps → cell < 64
    → is_free_at ps page cell ≡ false → taken_of ps ≡ suc (taken_of (with_cell ps page cell true))
taken_fewer [] page cell whole within small taken = absurd (omega arith)
taken_fewer (p ∷ ps) zero cell whole within small taken = grind (arith, count_given)
taken_fewer (p ∷ ps) (suc page) cell whole within small taken =
    let fewer = taken_fewer ps page cell whole.1 (omega arith) small taken in omega (arith, fewer)

pub fresh_taken : (first frame count : ℕ) → taken_of (fresh_pages first frame count) ≡ 0
unfolding all_free
fresh_taken first frame zero = refl
fresh_taken first frame (suc count) = let none = fresh_taken (suc first) (suc frame) count in omega (arith, none)

-- ---- room

full_taken : (ps : List Use) → AreWhole ps → NoneHasRoom ps → taken_of (opened ps) ≡ 64 * length (opened ps)
full_taken [] whole none = omega arith
full_taken (p ∷ ps) whole none = grind (arith, none_clear, full_taken ps whole.1 none.1)

room-next : (ps : List Use) (at : Option (ℕ × ℕ)) → AreWhole ps → taken_of (opened ps) < 64 * length (opened ps)
    → IsNextPlace ps at → is_some at ≡ true
room-next ps None whole few none = let full = full_taken ps whole none in absurd (omega (arith, few, full))
room-next ps (Some at) whole few next = refl

pub always_room : (ps : List Use) → AreWhole ps → taken_of (opened ps) < 64 * length (opened ps)
    → is_some (next_place ps) ≡ true
always_room ps whole few = room-next ps (next_place ps) whole few (is_next_place ps)

taken-next : (ps : List Use) (at : Option (ℕ × ℕ)) → IsNextPlace ps at → is_some at ≡ true
    → taken_of (after_placing ps at) ≡ suc (taken_of ps)
taken-next ps None none there = absurd (false≢true there)
taken-next ps (Some at) next there =
    taken_more ps at.0 at.1 (and_parts (not (use_at ps at.0).chosen) (is_free_at ps at.0 at.1) next.is_free).1

pub taken_placing : (ps : List Use) → is_some (next_place ps) ≡ true → taken_of (placing ps) ≡ suc (taken_of ps)
taken_placing ps there = taken-next ps (next_place ps) (is_next_place ps) there

-- ---- placing passes over chosen pages

after-later : (p : Use) (ps : List Use) (at : Option (ℕ × ℕ))
    → after_placing (p ∷ ps) (page_later at) ≡ p ∷ after_placing ps at
after-later p ps None = refl
after-later p ps (Some at) = refl

placing-later : (p : Use) (ps : List Use) → has_open_cell p ≡ false → placing (p ∷ ps) ≡ p ∷ placing ps
placing-later p ps none = simp none (after-later p ps (next_place ps))

after-here : (p : Use) (ps : List Use) (cell : Option ℕ) → p.chosen ≡ false
    → opened (after_placing (p ∷ ps) (in_first cell)) ≡ after_placing (p ∷ opened ps) (in_first cell)
after-here p ps None stays = simp stays refl
after-here p ps (Some cell) stays = simp stays refl

opened-cons : (p : Use) (ps : List Use) → p.chosen ≡ false → opened (p ∷ ps) ≡ p ∷ opened ps
opened-cons p ps stays = simp stays refl

pub opened-placing : (ps : List Use) → opened (placing ps) ≡ placing (opened ps)
opened-placing [] = refl
opened-placing (p ∷ ps) =
    elim (cases_Bool p.chosen) [
      | inl chosen ↦
          ap opened (placing-later p ps (simp chosen refl)) ∙ simp chosen (opened-placing ps)
      | inr stays ↦
          elim (cases_Bool (any_set p.free)) [
            | inl any ↦ simp (stays, any) (after-here p ps (first_set p.free) stays)
            | inr none ↦
                let full : has_open_cell p ≡ false = simp (stays, none) refl in
                ap opened (placing-later p ps full) ∙ opened-cons p (placing ps) stays
                ∙ ap (λ us. p ∷ us) (opened-placing ps) ∙ sym (placing-later p (opened ps) full)
                ∙ ap placing (sym (opened-cons p ps stays))
          ]
    ]

some-later : (at : Option (ℕ × ℕ)) → is_some (page_later at) ≡ is_some at
some-later None = refl
some-later (Some at) = refl

pub some-opened : (ps : List Use) → is_some (next_place (opened ps)) ≡ is_some (next_place ps)
some-opened [] = refl
some-opened (p ∷ ps) = grind (arith, some-later, some-opened ps)

pub whole_opened : (ps : List Use) → AreWhole ps → AreWhole (opened ps)
whole_opened [] whole = tt
whole_opened (p ∷ ps) whole = grind (arith, whole_opened ps whole.1)

-- an object that is placed takes one more cell of an open page
pub open_taken : (ps : List Use) → is_some (next_place ps) ≡ true
    → taken_of (opened (placing ps)) ≡ suc (taken_of (opened ps))
open_taken ps there =
    ap taken_of (opened-placing ps) ∙ taken_placing (opened ps) (some-opened ps ∙ there)

-- ---- pages in front that have all taken cells

some_frame : (p : Use) (ps : List Use) → p.chosen ≡ true → chosen_frames (p ∷ ps) ≡ [] → ⊥
some_frame p ps chosen none = grind arith

packed_open : (c : ℕ) (ps : List Use) → AreWhole ps → chosen_frames ps ≡ [] → Packed c ps → taken_of ps < 64 * c
    → Packed c (placing ps)
packed_open zero ps whole open_all packed few = absurd (omega arith)
packed_open (suc c) [] whole open_all packed few = tt
packed_open (suc c) (p ∷ ps) whole open_all packed few =
    elim (cases_Bool p.chosen) [
      | inl chosen ↦ absurd (some_frame p ps chosen open_all)
      | inr stays ↦
          let rest : chosen_frames ps ≡ [] = simp stays at open_all in
          elim (cases_Bool (any_set p.free)) [
            | inl any ↦ simp (stays, any) (here (first_set p.free))
            | inr none ↦
                let full = none_clear p.free none in
                subst (Packed (suc c)) (sym (placing-later p ps (simp (stays, none) refl)))
                (packed_open c ps whole.1 rest packed (let size = whole.0 in omega (arith, few, full, size)))
          ]
    ]
  where
    here : (cell : Option ℕ) → Packed (suc c) (after_placing (p ∷ ps) (in_first cell))
    here None = packed
    here (Some cell) = packed

pub packed_placing : (c : ℕ) (ps : List Use) → AreWhole ps → Packed c (opened ps) → taken_of (opened ps) < 64 * c
    → Packed c (opened (placing ps))
packed_placing c ps whole packed few =
    subst (Packed c) (sym (opened-placing ps))
    (packed_open c (opened ps) (whole_opened ps whole) (chosen-opened ps) packed few)

packed_given : (c : ℕ) (ps : List Use) (page cell : ℕ) → Packed c ps → Packed c (with_cell ps page cell true)
packed_given c [] page cell packed = packed
packed_given zero (p ∷ ps) zero cell packed = grind (arith, count_given_most)
packed_given zero (p ∷ ps) (suc page) cell packed = (packed.0, packed_given zero ps page cell packed.1)
packed_given (suc c) (p ∷ ps) zero cell packed = packed
packed_given (suc c) (p ∷ ps) (suc page) cell packed = packed_given c ps page cell packed

pub packed_giving : (c : ℕ) (ps : List Use) (page cell : ℕ) → Packed c (opened ps)
    → Packed c (opened (with_cell ps page cell true))
packed_giving c [] page cell packed = packed
packed_giving c (p ∷ ps) zero cell packed =
    elim (cases_Bool p.chosen) [
      | inl chosen ↦ simp chosen (simp chosen at packed)
      | inr stays ↦ simp stays (packed_given c (p ∷ opened ps) 0 cell (simp stays at packed))
    ]
packed_giving zero (p ∷ ps) (suc page) cell packed = grind (arith, packed_giving zero ps page cell)
packed_giving (suc c) (p ∷ ps) (suc page) cell packed =
    grind (arith, packed_giving c ps page cell, packed_giving (suc c) ps page cell)

packed_new : (c first frame count : ℕ) → Packed c (fresh_pages first frame count)
unfolding all_free
packed_new c first frame zero = tt
packed_new zero first frame (suc count) = (refl, packed_new zero (suc first) (suc frame) count)
packed_new (suc c) first frame (suc count) = packed_new c (suc first) (suc frame) count

pub packed_fresh : (c first frame count : ℕ) → Packed c (opened (fresh_pages first frame count))
packed_fresh c first frame count =
    subst (Packed c)
    (sym (opened_all (fresh_pages first frame count) (chosen-fresh first frame count)))
    (packed_new c first frame count)

-- ---- pages that are filled one after another

filled_empty : (ps : List Use) → Packed 0 ps → AreFilled ps
filled_empty [] none = tt
filled_empty (p ∷ ps) none = inr none.1

pub filled_fresh : (first frame count : ℕ) → AreFilled (fresh_pages first frame count)
filled_fresh first frame count = filled_empty (fresh_pages first frame count) (packed_new 0 first frame count)

pub filled_placing : (ps : List Use) → chosen_frames ps ≡ [] → AreFilled ps → AreFilled (placing ps)
filled_placing [] open_all filled = tt
filled_placing (p ∷ ps) open_all filled =
    elim (cases_Bool p.chosen) [
      | inl chosen ↦ absurd (some_frame p ps chosen open_all)
      | inr stays ↦
          let rest : chosen_frames ps ≡ [] = simp stays at open_all in
          elim (cases_Bool (any_set p.free)) [
            | inl any ↦ simp (stays, any) (here any filled (first_set p.free))
            | inr none ↦
                subst AreFilled (sym (placing-later p ps (simp (stays, none) refl)))
                (inl (none, filled_placing ps rest (behind filled)))
          ]
    ]
  where
    behind : AreFilled (p ∷ ps) → AreFilled ps
    behind (inl full) = full.1
    behind (inr empty) = filled_empty ps empty

    here : any_set p.free ≡ true → AreFilled (p ∷ ps) → (cell : Option ℕ)
        → AreFilled (after_placing (p ∷ ps) (in_first cell))
    here any (inl full) cell = absurd (true≢false (sym any ∙ full.0))
    here any (inr empty) None = inr empty
    here any (inr empty) (Some cell) = inr empty

-- open pages don't tell of the cells of others
pub opened-chosen : (ps : List Use) (page cell : ℕ) (is_free : Bool) → (use_at ps page).chosen ≡ true
    → opened (with_cell ps page cell is_free) ≡ opened ps
opened-chosen [] page cell is_free chosen = refl
opened-chosen (p ∷ ps) zero cell is_free chosen = grind arith
opened-chosen (p ∷ ps) (suc page) cell is_free chosen = grind (arith, opened-chosen ps page cell is_free chosen)

-- a cell that is taken or given back opens no page
pub opened_with : (ps : List Use) (page cell : ℕ) (is_free : Bool)
    → length (opened (with_cell ps page cell is_free)) ≡ length (opened ps)
opened_with [] page cell is_free = refl
opened_with (p ∷ ps) zero cell is_free = grind arith
opened_with (p ∷ ps) (suc page) cell is_free = grind (arith, opened_with ps page cell is_free)

opened_after : (ps : List Use) (at : Option (ℕ × ℕ)) → length (opened (after_placing ps at)) ≡ length (opened ps)
opened_after ps None = refl
opened_after ps (Some at) = opened_with ps at.0 at.1 false

pub opened_pages : (ps : List Use) → length (opened (placing ps)) ≡ length (opened ps)
opened_pages ps = opened_after ps (next_place ps)

-- a cell of an open page that is given back is one fewer
pub open_given : (ps : List Use) (page cell : ℕ) → AreWhole ps → page < length ps → cell < 64
    → (use_at ps page).chosen ≡ false → is_free_at ps page cell ≡ false
    → taken_of (opened ps) ≡ suc (taken_of (opened (with_cell ps page cell true)))
open_given [] page cell whole within small stays taken = absurd (omega arith)
open_given (p ∷ ps) zero cell whole within small stays taken = grind (arith, count_given)
open_given (p ∷ ps) (suc page) cell whole within small stays taken =
    let rest = open_given ps page cell whole.1 (omega arith) small stays taken in grind (arith, rest)
