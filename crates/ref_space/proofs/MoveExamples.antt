-- Which pages are chosen, and what a renumbering leaves, at worked pages of 64 cells; and what neither is.
use Rattle.std.proofs.Common.{◌≡◌, ℕ, ◌-◌, ◌^◌, true, false, List, [], ◌∷◌, ◌++◌, replicate, Some}
use Rattle.std.proofs.Common.{None, Ok, zero, suc, refl, sym, arith}
use Rattle.std.proofs.lemmas.Bool.{true≢false}
use Rattle.ref_base.specs.declared.fault.Fault.TheVariants.{NoRoom, AddressesSpent}
use Rattle.ref_space.specs.Pages.{Use, Pages, place_of, all_free, next_place, next_cell}
use Rattle.ref_space.specs.Pages.{is_sparse, sparse_count, sparse_cells, choosing, chosen_frames}
use Rattle.ref_space.specs.Pages.{choose_refusal, choice, after_choice, renumbered, renumbered_uses}
use Rattle.ref_space.specs.Pages.{AreBetween, AreEmptied, AreFramed, IsFirstFree, IsRenumbered}
use Rattle.ref_space.specs.PageViews.{AreMapped}
use Rattle.ref_space.specs.Moves.{AreFree}

-- a page whose first cells are taken, so many
abbrev filled : ℕ → ℕ → ℕ → Use
filled address frame count = record {
  address = address;
  frame = frame;
  chosen = false;
  free = replicate count false ++ replicate (64 - count) true;
}

abbrev chosen_page : Use → Use
chosen_page p = record p { chosen = true }

-- ---- which are chosen

-- promise: Pages::choose: an empty page is not chosen
an_empty_page_is_not_sparse : is_sparse (filled 5 0 0) ≡ false
an_empty_page_is_not_sparse = refl

one_taken_cell_is_enough : is_sparse (filled 5 0 1) ≡ true
one_taken_cell_is_enough = refl

half_of_the_cells_are_few : is_sparse (filled 5 0 32) ≡ true
half_of_the_cells_are_few = refl

-- promise: Pages::choose: a page with 33 taken cells is not chosen
one_more_is_too_many : is_sparse (filled 5 0 33) ≡ false
one_more_is_too_many = refl

abbrev three : List Use
three = filled 5 0 32 ∷ filled 6 1 33 ∷ filled 7 2 5 ∷ []

abbrev chosen_three : List Use
chosen_three = chosen_page (filled 5 0 32) ∷ filled 6 1 33 ∷ chosen_page (filled 7 2 5) ∷ []

the_sparse_pages_are_chosen : choosing three ≡ chosen_three
the_sparse_pages_are_chosen = refl

their_frames : chosen_frames chosen_three ≡ 0 ∷ 2 ∷ []
their_frames = refl

their_count : sparse_count three ≡ 2
their_count = refl

their_cells : sparse_cells three ≡ 37
their_cells = refl

abbrev at_next : ℕ → List Use → Pages
at_next next ps = record { uses = ps; next = next }

a_choice_answers_their_cells : choice (at_next 8 three) ≡ Ok 37
a_choice_answers_their_cells = refl

-- ---- when a choice is refused

one_sparse_page_is_too_few : choose_refusal (at_next 7 (filled 5 0 32 ∷ filled 6 1 33 ∷ [])) ≡ Some NoRoom
one_sparse_page_is_too_few = refl

two_addresses_are_enough : choose_refusal (at_next (2 ^ 32 - 2) three) ≡ None
two_addresses_are_enough = refl

-- promise: Pages::choose: one address is too few for two pages
one_address_is_too_few : choose_refusal (at_next (2 ^ 32 - 1) three) ≡ Some AddressesSpent
one_address_is_too_few = refl

-- promise: Pages::choose: NoRoom comes before AddressesSpent
too_few_pages_come_first : choose_refusal (at_next (2 ^ 32) (filled 5 0 32 ∷ filled 6 1 33 ∷ [])) ≡ Some NoRoom
too_few_pages_come_first = refl

nothing_changes_then : after_choice (at_next (2 ^ 32) three) ≡ at_next (2 ^ 32) three
nothing_changes_then = refl

-- ---- where what is chosen moves

-- Objects lie in the first two cells of the chosen page, at places 0 and 1, and both were to move to place 66.
-- promise: Table::select: no two objects are to move to one cell
no_two_move_to_one_cell : ¬ (AreFree (false ∷ false ∷ replicate 126 true) (66 ∷ 66 ∷ replicate 126 0)
    (chosen_page (filled 5 0 2) ∷ filled 6 1 3 ∷ []))
no_two_move_to_one_cell are =
    let same : 0 ≡ 1 = are.apart 0 1 (refl, refl) (refl, refl) refl in absurd (omega (arith, same))

-- ---- where the next object is placed

a_chosen_page_is_passed_over : next_cell chosen_three ≡ Some (1, 33)
a_chosen_page_is_passed_over = refl

-- promise: Pages::place: nothing is placed in a chosen page
a_free_cell_of_it_is_no_place : ¬ (IsFirstFree chosen_three 0 32)
a_free_cell_of_it_is_no_place is = true≢false (sym is.is_free)

nowhere_where_all_are_chosen : next_place (chosen_page (filled 5 0 32) ∷ []) ≡ None
nowhere_where_all_are_chosen = refl

-- ---- a renumbering

abbrev emptied_three : List Use
emptied_three = chosen_page (filled 5 0 0) ∷ filled 6 1 33 ∷ chosen_page (filled 7 2 0) ∷ []

the_chosen_pages_come_last : renumbered (at_next 8 emptied_three)
    ≡ at_next 10 (filled 6 1 33 ∷ filled 8 0 0 ∷ filled 9 2 0 ∷ [])
unfolding all_free
the_chosen_pages_come_last = refl

a_frame_leads_to_its_page : place_of (renumbered_uses 8 emptied_three) 0 ≡ 1
a_frame_leads_to_its_page = refl

a_list_of_places : AreMapped 3 (renumbered_uses 8 emptied_three) (1 ∷ 0 ∷ 2 ∷ [])
a_list_of_places zero below = refl
a_list_of_places (suc zero) below = refl
a_list_of_places (suc (suc zero)) below = refl
a_list_of_places (suc (suc (suc page))) below = absurd (omega (arith, below))

-- promise: Pages::renumber: no other list tells where each frame's page stands
no_other_list : ¬ (AreMapped 3 (renumbered_uses 8 emptied_three) (0 ∷ 1 ∷ 2 ∷ []))
no_other_list mapped = let first : 1 ≡ 0 = mapped 0 (omega arith) in absurd (omega (arith, first))

a_page_with_taken_cells_is_not_emptied : ¬ (AreEmptied chosen_three)
a_page_with_taken_cells_is_not_emptied emptied =
    let none : 32 ≡ 0 = emptied.0 refl in absurd (omega (arith, none))

-- promise: Pages::renumber: an open page keeps its address
an_open_page_keeps_its_address : ¬ (IsRenumbered 8 (filled 6 1 33) 8)
an_open_page_keeps_its_address is = let same : 8 ≡ 6 = is.0 refl in absurd (omega (arith, same))

-- promise: Pages::renumber: an address is not used again
no_address_is_used_again : ¬ (IsRenumbered 8 (chosen_page (filled 5 0 0)) 5)
no_address_is_used_again is = let order = is.1 refl in absurd (omega (arith, order))

-- ---- addresses and frames

they_rise : AreBetween 5 three 8
they_rise = (omega arith, (omega arith, (omega arith, omega arith)))

none_is_at_the_next_address : ¬ (AreBetween 5 three 7)
none_is_at_the_next_address between = let last = between.1.1.1 in absurd (omega (arith, last))

-- promise: Pages::renumber: no two pages have one address
no_two_pages_have_one_address : ¬ (AreBetween 5 (filled 5 0 0 ∷ filled 5 1 0 ∷ []) 8)
no_two_pages_have_one_address between = let own = between.1.0 in absurd (omega (arith, own))

-- promise: Pages::new, Pages::len: no two pages have one frame
no_two_pages_have_one_frame : ¬ (AreFramed (filled 5 0 0 ∷ filled 6 0 0 ∷ []))
no_two_pages_have_one_frame framed = let times : 2 ≡ 1 = framed 0 in absurd (omega (arith, times))

-- promise: Pages::new, Pages::len: no frame is left out
no_frame_is_left_out : ¬ (AreFramed (filled 5 1 0 ∷ []))
no_frame_is_left_out framed = let times : 0 ≡ 1 = framed 0 in absurd (omega (arith, times))
