-- Where the next object is placed at worked pages, and where it isn't. Bitmaps of two cells stand for those of 64.
use Rattle.std.proofs.Common.{◌≡◌, ℕ, true, false, List, [], ◌∷◌, Some, None, refl, sym, ap, arith, inl, inr}
use Rattle.std.proofs.lemmas.Bool.{true≢false}
use Rattle.std.proofs.lemmas.Option.{same_Some}
use Rattle.ref_space.specs.Bits.{bits, first_set}
use Rattle.ref_space.specs.Pages.{Use, use_at, all_free, is_free_at, fresh_pages, with_cell, next_place}
use Rattle.ref_space.specs.Pages.{after_placing, AreFilled, AreWhole, IsFirstFree, IsNextPlace, taken_of, Packed}

-- ---- bitmaps

-- 6 is 110 in binary
the_lowest_bit_is_the_first : bits 3 6 ≡ false ∷ true ∷ true ∷ []
the_lowest_bit_is_the_first = refl

the_first_that_is_set : first_set (false ∷ true ∷ true ∷ []) ≡ Some 1
the_first_that_is_set = refl

no_later_one_is_the_first : ¬ (first_set (false ∷ true ∷ true ∷ []) ≡ Some 2)
no_later_one_is_the_first is = let which = same_Some 1 2 is in absurd (omega (arith, which))

-- ---- pages

abbrev full_page : Use
full_page = record { address = 7; frame = 0; chosen = false; free = false ∷ false ∷ [] }

abbrev half_page : Use
half_page = record { address = 8; frame = 1; chosen = false; free = false ∷ true ∷ [] }

abbrev empty_page : Use
empty_page = record { address = 9; frame = 2; chosen = false; free = true ∷ true ∷ [] }

abbrev three : List Use
three = full_page ∷ half_page ∷ empty_page ∷ []

the_first_page_with_room : next_place three ≡ Some (1, 1)
the_first_page_with_room = refl

-- promise: Pages::place: not the last page that has room
not_the_last_page_with_room : ¬ (next_place three ≡ Some (2, 0))
not_the_last_page_with_room is =
    let pages : 1 ≡ 2 = ap (λ (at : ℕ × ℕ). at.0) (same_Some (1, 1) (2, 0) is) in absurd (omega (arith, pages))

-- promise: Pages::place: no free cell is passed over
no_free_cell_is_passed_over : ¬ (IsFirstFree three 2 0)
no_free_cell_is_passed_over is = true≢false (is.in_front 1 1 (omega arith))

a_taken_cell_is_no_place : ¬ (IsFirstFree three 1 0)
a_taken_cell_is_no_place is = true≢false (sym is.is_free)

its_lowest_free_cell : ¬ (IsFirstFree (empty_page ∷ []) 0 1)
its_lowest_free_cell is = true≢false (is.below 0 (omega arith))

that_cell_is_taken_then : after_placing three (Some (1, 1))
    ≡ full_page ∷ record half_page { free = false ∷ false ∷ [] } ∷ empty_page ∷ []
that_cell_is_taken_then = refl

none_where_all_are_full : next_place (full_page ∷ full_page ∷ []) ≡ None
none_where_all_are_full = refl

-- promise: Pages::place: none only where all open pages are full
none_only_where_all_are_full : ¬ (IsNextPlace three None)
none_only_where_all_are_full none = true≢false none.1.0

a_cell_is_given_back : with_cell three 0 1 true
    ≡ record full_page { free = false ∷ true ∷ [] } ∷ half_page ∷ empty_page ∷ []
a_cell_is_given_back = refl

-- promise: Pages::give, Pages::place: a cell that was given back in an earlier page is the next place
and_is_the_next_place : next_place (with_cell three 0 1 true) ≡ Some (0, 1)
and_is_the_next_place = refl

a_cell_that_is_not_there_is_not_free : is_free_at three 3 0 ≡ false
a_cell_that_is_not_there_is_not_free = refl

-- ---- counts

-- promise: Pages::taken: three taken cells are three
three_are_taken : taken_of three ≡ 3
three_are_taken = refl

they_are_in_two_pages : Packed 2 three
they_are_in_two_pages = (refl, tt)

-- promise: Pages::place, Pages::give: what lies in two pages is not packed in one
they_are_not_in_one : ¬ (Packed 1 three)
they_are_not_in_one packed = let none = packed.0 in absurd (omega (arith, none))

a_page_of_two_cells_is_not_whole : ¬ (AreWhole three)
a_page_of_two_cells_is_not_whole whole = let size : 2 ≡ 64 = whole.0 in absurd (omega (arith, size))

a_new_page_is_whole : AreWhole (fresh_pages 5 0 2)
unfolding all_free
a_new_page_is_whole = (refl, (refl, tt))

its_address_follows_the_one_before : (use_at (fresh_pages 5 0 2) 1).address ≡ 6
its_address_follows_the_one_before = refl

-- promise: Pages::new: two pages are two
there_is_no_third : use_at (fresh_pages 5 0 2) 2 ≡ record { address = 0; frame = 0; chosen = false; free = [] }
there_is_no_third = refl

its_first_cell_is_the_next_place : next_place (fresh_pages 5 0 2) ≡ Some (0, 0)
unfolding all_free
its_first_cell_is_the_next_place = refl

-- ---- pages that are filled one after another

these_are_filled_in_turn : AreFilled three
these_are_filled_in_turn = inl (refl, inr (refl, tt))

-- promise: Pages::choose: pages that only fill are not both half full
no_two_pages_are_half_full : AreFilled (half_page ∷ half_page ∷ []) → ⊥
no_two_pages_are_half_full (inl full) = true≢false full.0
no_two_pages_are_half_full (inr empty) = let none = empty.0 in absurd (omega (arith, none))
