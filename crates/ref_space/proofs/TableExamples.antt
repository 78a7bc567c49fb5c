-- Worked and illegal examples of words that lead to objects, and of numbers that nothing names.
use Rattle.ref_space.specs.declared.word_name.WordName.{WordName}
use Rattle.ref_space.proofs.Common.{◌≡◌, ℕ, refl, true, false, false≢true, sym, [], ◌∷◌, Option, Some, None, List}
use Rattle.ref_space.proofs.Common.{Table}
use Rattle.ref_space.proofs.Common.{IsUnnamed, Tabled, leads_by, target_by}
use Rattle.ref_space.specs.ColouredWords.{word_in_colour, word_of_place, colour_number, coloured_word, are_in_colour}
use Rattle.ref_space.specs.declared.colour.Colour.{Colour}
use Rattle.std.proofs.lemmas.Option.{none-some}
use Rattle.ref_space.proofs.Common.{subst, ap, slice_index_or, ◌+◌, ◌*◌}
use Rattle.ref_space.specs.Naming.{IsWordHeld, bits_told, healed_word, way_from}
use Rattle.ref_space.specs.Moves.{Ways, ways_of}
use Rattle.ref_space.specs.Pages.{Use, fresh_page, use_of}
use Rattle.ref_space.proofs.Common.{zero, suc}
use Rattle.ref_space.specs.Tables.{with_occupant, without_occupant, LieOnce, RoundView, IfRead, word_name}
use Rattle.ref_space.specs.Tables.{made_entry, blanked_unless_marked, moved_from}
use Rattle.ref_space.proofs.Common.{◌==◌, eqb-true, ◌∙◌}
use Rattle.std.proofs.lemmas.Bool.{eq-eqb, true≢false}
use Rattle.ref_space.proofs.Common.{arith}
use Rattle.ref_space.specs.declared.colour.Colour.TheVariants.{A, R}

-- ---- the first two cells of frame 0, with objects 7 and none, and its page, at address 5

abbrev occupants : List (Option ℕ)
occupants = Some 7 ∷ None ∷ []

abbrev pages : List Use
pages = fresh_page 5 0 ∷ []

abbrev unmoved : Ways
unmoved = ways_of (record { uses = pages; next = 6 }) [] A true

-- promise: Word::of_place, Word::place: a word leads to the object in its cell
its_word_leads_to_object_7 : target_by unmoved occupants (word_of_place R 0) ≡ Some 7
its_word_leads_to_object_7 = refl

so_does_that_of_another_colour : target_by unmoved occupants (word_of_place A 0) ≡ Some 7
so_does_that_of_another_colour = refl

null_leads_nowhere : target_by unmoved occupants None ≡ None
null_leads_nowhere = refl

-- null may be held, and no word of a free cell, of another frame, or of no frame, in front of the first
null_may_be_held : leads_by R unmoved occupants true None ≡ true
null_may_be_held = refl

no_word_of_a_free_cell : leads_by R unmoved occupants false (word_of_place R 1) ≡ true → ⊥
no_word_of_a_free_cell leads = false≢true leads

-- promise: Word::of_place, Word::place: not to another frame
no_word_of_another_frame : leads_by R unmoved occupants false (word_of_place R 64) ≡ true → ⊥
no_word_of_another_frame leads = false≢true leads

-- promise: Word::place: no place in front of the first frame
no_word_in_front_of_the_first : leads_by R unmoved occupants false (word_in_colour R 0 63) ≡ true → ⊥
no_word_in_front_of_the_first leads = false≢true leads

-- it has to have the good colour where a slot or a healed object holds it
a_slot_may_hold_it : leads_by R unmoved occupants true (word_of_place R 0) ≡ true
a_slot_may_hold_it = refl

-- promise: Table::set_slot, Table::copy_slot, Table::load, Table::begin: a slot holds words of the good colour alone
no_slot_holds_it_in_another_colour : leads_by R unmoved occupants true (word_of_place A 0) ≡ true → ⊥
no_slot_holds_it_in_another_colour leads = false≢true leads

-- promise: Table::load: a word from before is healed in the good colour, by where its object lies
it_is_healed_by_the_good_colour : healed_word R unmoved occupants (word_of_place A 0) ≡ word_of_place R 0
it_is_healed_by_the_good_colour = refl

-- ---- its bits, in hexadecimal c000000000000140

abbrev page_in : Option (Colour × ℕ × ℕ) → ℕ
page_in None = 0
page_in (Some parts) = parts.1

abbrev cell_in : Option (Colour × ℕ × ℕ) → ℕ
cell_in None = 0
cell_in (Some parts) = parts.2

abbrev colour_in : Option (Colour × ℕ × ℕ) → ℕ
colour_in None = 0
colour_in (Some parts) = colour_number parts.0

its_bits : IsWordHeld R unmoved occupants true (Some 7) 13835058055282164032
its_bits = record {
  colour = R;
  frame = 0;
  cell = 0;
  parts = refl;
  lies = refl;
  healed = λ
      has_to. refl;
}

they_are_told : bits_told pages (word_of_place R 0) ≡ 13835058055282164032
they_are_told = refl

-- none of its frame in the place of the address, of another cell, of another colour where it has to have the good one,
-- or of null
no_bits_of_its_frame : bits_told pages (word_of_place R 0) ≡ 13835058055282163776 → ⊥
no_bits_of_its_frame same = absurd (omega (arith, same))

-- promise: Table::word_at: not the bits of another cell
no_bits_of_another_cell : IsWordHeld R unmoved occupants false (Some 7) 13835058055282164033 → ⊥
no_bits_of_another_cell is =
    let cell : 1 ≡ is.cell = ap cell_in is.parts in
    let address : 5 ≡ (use_of pages is.frame).address = ap page_in is.parts in
    at_odds is.frame is.cell address cell is.lies
  where
    at_odds : (frame cell : ℕ) → 5 ≡ (use_of pages frame).address → 1 ≡ cell
        → slice_index_or occupants (way_from unmoved occupants (64 * frame + cell)) None ≡ Some 7 → ⊥
    at_odds zero cell address one lies = none-some 7 (subst (λ c. slice_index_or occupants (way_from unmoved occupants
        (0 + c)) None ≡ Some 7) (sym one) lies)
    at_odds (suc frame) cell address one lies =
        let nowhere : (use_of pages (suc frame)).address ≡ 0 = grind arith in absurd (omega (arith, address, nowhere))

-- promise: Table::word_at: not the bits of another colour
no_bits_of_another_colour : IsWordHeld R unmoved occupants true (Some 7) 4611686018427388224 → ⊥
no_bits_of_another_colour is =
    let colour : 1 ≡ colour_number is.colour = ap colour_in is.parts in
    let good : colour_number is.colour ≡ 3 = ap colour_number (is.healed refl) in
    absurd (omega (arith, colour, good))

-- promise: Table::word_at: null is 0
null_has_no_word : IsWordHeld R unmoved occupants true None 13835058055282164032 → ⊥
null_has_no_word is = absurd (omega (arith, is))

-- ---- where objects lie

it_lies_where_it_is_placed : with_occupant (Some 7 ∷ None ∷ Some 8 ∷ None ∷ []) (Some (0, 1)) 9
    ≡ Some 7 ∷ Some 9 ∷ Some 8 ∷ None ∷ []
it_lies_where_it_is_placed = refl

and_nowhere_else : with_occupant (Some 7 ∷ None ∷ Some 8 ∷ None ∷ []) (Some
    (0, 1)) 9 ≡ Some 7 ∷ None ∷ Some 8 ∷ Some 9 ∷ [] → ⊥
and_nowhere_else same = none-some 9 (sym (ap (λ os. slice_index_or os 1 None) same))

its_cell_alone_is_given_back : without_occupant (Some 7 ∷ None ∷ Some 8 ∷ []) 8 ≡ Some 7 ∷ None ∷ None ∷ []
its_cell_alone_is_given_back = refl

-- ---- object 7, which a slot holds, and which refers to object 9

abbrev seven : Tabled
seven = record {
  object = record { no = 7; fields = None ∷ Some 9 ∷ []; reference = None };
  holds = 0;
  marked_in = 1;
  healed_in = 1;
  link = 0;
  cleared_in = 0;
}

abbrev table : Table
table = record {
  tabled = seven ∷ [];
  room = 1;
  last = 9;
  slots = None ∷ Some 7 ∷ [];
  ways = unmoved;
  occupants = occupants;
  round = record { number = 1; good = R; read = None };
}

-- promise: Table::push: a new object has null fields alone, whatever lay in its cell
a_new_object_has_null_fields : (made_entry 1 8 2 None false).object.fields ≡ None ∷ None ∷ []
a_new_object_has_null_fields = refl

-- in the next round, in which it isn't marked
-- promise: Table::condemn: what is condemned refers to nothing
what_is_condemned_refers_to_nothing : (blanked_unless_marked 2 seven).object.fields ≡ None ∷ None ∷ []
what_is_condemned_refers_to_nothing = refl

-- the object moves from place 0 to place 1, and words of the colour from before lead to the place that it left
-- promise: Table::move_next: a word to the old place leads to what moved
its_old_word_leads_to_it : target_by (ways_of (record { uses = pages; next = 6 }) (1 ∷ []) A true) (None ∷ Some 7 ∷ [])
    (word_of_place A 0) ≡ Some 7
its_old_word_leads_to_it = refl

-- promise: Table::move_next, Table::load: a move forgets no way from an old place
no_way_is_forgotten : (t : Table) (from : ℕ) → (moved_from t from).ways.forwards ≡ t.ways.forwards
no_way_is_forgotten t from = refl

number_8_is_unnamed : IsUnnamed table 8
number_8_is_unnamed = record { slots = refl; objects = (refl, tt) }

-- promise: Table::free: what a slot holds is named
what_a_slot_holds_is_named : IsUnnamed table 7 → ⊥
what_a_slot_holds_is_named unnamed = false≢true (sym unnamed.slots)

-- promise: Table::free: what a field holds is named
what_a_field_holds_is_named : IsUnnamed table 9 → ⊥
what_a_field_holds_is_named unnamed = false≢true (sym unnamed.objects.0)

-- ---- where objects lie

-- object 7 lies in the first cell alone
it_lies_once : LieOnce occupants (λ n. n == 7)
it_lies_once = record {
  lies = λ n is. (0, ap Some (sym (eqb-true n 7 is)));
  there = λ place n at. let own = first_alone place n at in eq-eqb n 7 own.1;
  once = λ one other n here there. (first_alone one n here).0 ∙ sym (first_alone other n there).0;
}
  where
    first_alone : (place n : ℕ) → slice_index_or occupants place None ≡ Some n → (place ≡ 0) × (n ≡ 7)
    first_alone zero n at = (refl, cc)
    first_alone (suc zero) n at = absurd (none-some n at)
    first_alone (suc (suc place)) n at = absurd (none-some n at)

-- promise: Table::len: no object lies in two cells
no_object_lies_twice : LieOnce (Some 7 ∷ Some 7 ∷ []) (λ n. n == 7) → ⊥
no_object_lies_twice laid = let same = laid.once 0 1 7 refl refl in absurd (omega (arith, same))

-- promise: Table::len: what lies in a cell is there
what_lies_there_is_there : LieOnce occupants (λ n. n == 8) → ⊥
what_lies_there_is_there laid = true≢false (sym (laid.there 0 7 refl))

-- ---- the word that was read last

-- the word of field 1 of object 7, in a round in which colour A is good
abbrev after_a_load : RoundView
after_a_load = record { number = 2; good = A; read = word_name (Some 7) (Some 1) }

-- it is null, or has that colour
null_was_read : IfRead after_a_load 7 (Some 1) (are_in_colour A 0)
null_was_read is = refl

a_good_word_was_read : IfRead after_a_load 7 (Some 1) (are_in_colour A (coloured_word A 5 3))
a_good_word_was_read is = refl

-- promise: Table::word_at, Table::word_of_referent, Table::load: a word of another colour wasn't read last
no_word_from_before_was_read : IfRead after_a_load 7 (Some 1) (are_in_colour A (coloured_word R 5 3)) → ⊥
no_word_from_before_was_read so = true≢false (sym (so refl))

-- of another word nothing is said
abbrev or_0 : Option ℕ → ℕ
or_0 None = 0
or_0 (Some n) = n

abbrev field_or_0 : Option WordName → ℕ
field_or_0 None = 0
field_or_0 (Some w) = or_0 w.field

another_word_was_not_read : IfRead after_a_load 7 (Some 0) (are_in_colour A (coloured_word R 5 3))
another_word_was_not_read is = let same : 1 ≡ 0 = ap field_or_0 is in absurd (omega (arith, same))
