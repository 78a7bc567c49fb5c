-- A word has the parts that it was made of, and no other number has parts.
use Rattle.std.proofs.Common.{◌≡◌, ℕ, ◌==◌, ◌+◌, ◌*◌, arith, Some, None, Option, true, refl}
use Rattle.std.proofs.Common.{ap, ◌∙◌}
use Rattle.std.proofs.lemmas.Bool.{eq-eqb, false≢true}
use Rattle.std.specs.Option.{is_some}
use Rattle.ref_space.specs.ColouredWords.{colour_number, IsCell, coloured_word, is_coloured, IsWordOf, parts_of}
use Rattle.ref_space.specs.ColouredWords.{place_by, word_in_colour, is_word, has_colour, recoloured}
use Rattle.ref_space.specs.Naming.{IsInColour}
use Rattle.ref_space.specs.declared.colour.Colour.{Colour}

pub parts_of-coloured : (colour : Colour) (page cell : ℕ) → IsCell page cell
    → parts_of (coloured_word colour page cell) ≡ Some (colour, page, cell)
parts_of-coloured colour page cell at = grind arith

pub parts_of-word : (word : ℕ) (parts : Colour × ℕ × ℕ) → IsWordOf word parts → parts_of word ≡ Some parts
parts_of-word word (colour, page, cell) is = grind arith

pub is_word-parts_of : (word : ℕ) (parts : Colour × ℕ × ℕ) → parts_of word ≡ Some parts → IsWordOf word parts
is_word-parts_of word (colour, page, cell) is = grind arith

pub is_coloured-coloured : (own other : Colour) (page cell : ℕ) → IsCell page cell
    → is_coloured (coloured_word own page cell) other ≡ (colour_number own == colour_number other)
is_coloured-coloured own other page cell at = grind arith

-- words of other parts are other words
pub coloured-same : (c d : Colour) (page other cell own : ℕ) → IsCell page cell → IsCell other own
    → coloured_word c page cell ≡ coloured_word d other own → (c ≡ d) × (page ≡ other) × (cell ≡ own)
coloured-same c d page other cell own at there same = grind arith

-- ---- what is held

-- the cell's place
pub place_by-word : (colour : Colour) (frame cell : ℕ) → IsCell (1 + frame) cell
    → place_by (word_in_colour colour (1 + frame) cell) ≡ Some (64 * frame + cell)
place_by-word colour frame cell at = grind arith

-- it is the word of a cell, in this colour
pub record IsGood (colour : Colour) (value : Option ℕ) : Type 0 where
  pub word : is_word value ≡ true
  pub coloured : has_colour colour value ≡ true

pub word_is_good : (colour : Colour) (page cell : ℕ) → IsCell page cell
    → IsGood colour (word_in_colour colour page cell)
word_is_good colour page cell at = record {
  word = ap is_some (parts_of-coloured colour page cell at);
  coloured = is_coloured-coloured colour colour page cell at
      ∙ eq-eqb (colour_number colour) (colour_number colour) refl;
}

-- a word that gets a colour has it, and so has one that is of it
pub recoloured_has : (colour : Colour) (value : Option ℕ) → IsInColour colour (recoloured colour value)
recoloured_has colour None = refl
recoloured_has colour (Some word) = grind arith

pub coloured_has : (colour : Colour) (value : Option ℕ) → has_colour colour value ≡ true → IsInColour colour value
coloured_has colour None is = refl
coloured_has colour (Some word) is = is

some_parts : (word : ℕ) (parts : Option (Colour × ℕ × ℕ)) → parts_of word ≡ parts → is_some parts ≡ true
    → (own : Colour × ℕ × ℕ) × (parts_of word ≡ Some own)
some_parts word None is some = absurd (false≢true some)
some_parts word (Some own) is some = (own, is)

pub parts_of_word : (word : ℕ) → is_word (Some word) ≡ true
    → (own : Colour × ℕ × ℕ) × (parts_of word ≡ Some own)
parts_of_word word is = some_parts word (parts_of word) refl is
