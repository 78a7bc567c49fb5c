-- What is a coloured word at worked numbers, and what isn't.
use Rattle.std.proofs.Common.{◌≡◌, ℕ, ◌+◌, ◌-◌, ◌^◌, true, false, Some, None, refl, sym, arith}
use Rattle.std.proofs.lemmas.Bool.{true≢false}
use Rattle.std.proofs.lemmas.Option.{none-some}
use Rattle.ref_space.specs.ColouredWords.{IsCell, IsWordOf, coloured_word, is_coloured, parts_of}
use Rattle.ref_space.specs.declared.colour.Colour.{Colour}
use Rattle.ref_space.specs.declared.colour.Colour.TheVariants.{A, B, R}
use Rattle.ref_space.proofs.WordLemmas.{parts_of-word}

-- promise: word_of: page 1, cell 0 of colour A
-- the lowest cell of page 1 in colour A, in hexadecimal 4000000000000040
the_first_word : coloured_word A 1 0 ≡ 4611686018427387968
the_first_word = refl

its_parts : parts_of 4611686018427387968 ≡ Some (A, 1, 0)
its_parts = refl

-- promise: word_of: page 2, cell 5 of colour R
-- in hexadecimal c000000000000085
a_word_of_colour_r : coloured_word R 2 5 ≡ 13835058055282163845
a_word_of_colour_r = refl

and_its_parts : parts_of 13835058055282163845 ≡ Some (R, 2, 5)
and_its_parts = refl

the_last_cell_of_the_last_page : parts_of (coloured_word B (2 ^ 32 - 1) 63) ≡ Some (B, 2 ^ 32 - 1, 63)
the_last_cell_of_the_last_page = refl

null_has_no_parts : parts_of 0 ≡ None
null_has_no_parts = refl

-- promise: parts_of: a number with page 0 is no word
page_0_is_none : parts_of (2 ^ 62 + 5) ≡ None
page_0_is_none = refl

page_0_has_no_cell : ¬ (IsCell 0 5)
page_0_has_no_cell is = let low = is.0 in absurd (omega (arith, low))

a_word_has_a_colour : parts_of 64 ≡ None
a_word_has_a_colour = refl

bit_40_is_none_of_a_word : parts_of (4611686018427387968 + 2 ^ 40) ≡ None
bit_40_is_none_of_a_word = refl

-- promise: parts_of: a number with another bit is no word
a_number_with_bit_40_is_no_word : (parts : Colour × ℕ × ℕ) → ¬ (IsWordOf (4611686018427387968 + 2 ^ 40) parts)
a_number_with_bit_40_is_no_word parts is =
    none-some parts (parts_of-word (4611686018427387968 + 2 ^ 40) parts is)

-- promise: parts_of: cell 64 is none
a_cell_is_below_64 : ¬ (IsWordOf 4611686018427388032 (A, 1, 64))
a_cell_is_below_64 is = let small = is.0.2 in absurd (omega (arith, small))

it_has_its_own_colour : is_coloured 13835058055282163845 R ≡ true
it_has_its_own_colour = refl

-- promise: has_colour: a word has one colour
it_has_no_other_colour : ¬ (is_coloured 13835058055282163845 A ≡ true)
it_has_no_other_colour is = true≢false (sym is)

-- promise: has_colour: null has none
null_has_no_colour : (colour : Colour) → is_coloured 0 colour ≡ false
null_has_no_colour A = refl
null_has_no_colour B = refl
null_has_no_colour R = refl
