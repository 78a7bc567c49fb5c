-- Coloured words, by which slots and fields name an object (JEP 333, ZGC: a pointer that has a colour in bits of its
-- own). Three colours, pages of 64 cells and where the bits stand are this project's profile.
use Rattle.std.specs.Prelude.{◌≡◌, ℕ, ◌+◌, ◌-◌, ◌*◌, ◌/◌, ◌%◌, ◌^◌, ◌<◌, ◌≤◌, ◌==◌, nat_lt, nat_le, Bool, false, ◌||◌}
use Rattle.std.specs.Prelude.{if◌then◌else◌}
use Rattle.std.proofs.Common.{ap, ap₂, sym, refl, ◌∙◌, inl, inr, lt_trans}
use Rattle.std.proofs.lemmas.Bool.{cases_Bool, eqb-true, ltb-true}
use Rattle.std.proofs.lemmas.Nat.{div-mul-add, mod-mul-add, mod_below, div-add-mod'}
use Rattle.std.specs.Prelude.{Option, Some, None}
use Rattle.std.specs.Option.{is_some, is_none}
use Rattle.ref_space.specs.declared.colour.Colour.{Colour}
use Rattle.ref_space.specs.declared.colour.Colour.TheVariants.{A, B, R}

-- the number of a colour, and the colour of a number
abbrev pub colour_number : Colour → ℕ
colour_number A = 1
colour_number B = 2
colour_number R = 3

abbrev pub colour_of : ℕ → Option Colour
colour_of n = if n == 1 then Some A else if n == 2 then Some B else if n == 3 then Some R else None

-- the colour that the begin of a cycle makes good
abbrev pub cycle_colour : ℕ → Colour
cycle_colour cycle = if cycle % 2 == 1 then A else B

-- an object's cell: the address of its page, from 1 on and below 2^32, and which of the page's 64 cells it is
abbrev pub IsCell : ℕ → ℕ → Type 0
IsCell page cell = (1 ≤ page) × (page < 2 ^ 32) × (cell < 64)

-- the word of a cell in a colour
abbrev pub coloured_word : Colour → ℕ → ℕ → ℕ
coloured_word colour page cell = colour_number colour * 2 ^ 62 + page * 64 + cell

-- the number is the word of these parts
abbrev pub IsWordOf : ℕ → Colour × ℕ × ℕ → Type 0
IsWordOf word (colour, page, cell) = IsCell page cell × (word ≡ coloured_word colour page cell)

-- the word has this colour, which the two highest bits tell
abbrev pub is_coloured : ℕ → Colour → Bool
is_coloured word colour = word / 2 ^ 62 == colour_number colour

-- a page and a cell in the colour of a number, where there are such
abbrev pub in_colour : Option Colour → ℕ → ℕ → Option (Colour × ℕ × ℕ)
in_colour None page cell = None
in_colour (Some colour) page cell = Some (colour, page, cell)

abbrev pub parts_by : ℕ → ℕ → ℕ → Option (Colour × ℕ × ℕ)
parts_by number page cell =
    if page == 0 then None else if nat_lt page (2 ^ 32) then in_colour (colour_of number) page cell else None

-- the parts of a word; none of null, which is 0, and of each other number that is no word
abbrev pub parts_of : ℕ → Option (Colour × ℕ × ℕ)
parts_of word = parts_by (word / 2 ^ 62) (word / 64 % 2 ^ 56) (word % 64)

-- ---- what a slot or a field holds

-- null, or a word: of these bits, and the bits of either
abbrev pub word_held : ℕ → Option ℕ
word_held bits = if bits == 0 then None else Some bits

abbrev pub bits_held : Option ℕ → ℕ
bits_held None = 0
bits_held (Some word) = word

-- what is held tells its bits
pub bits-word_held : (bits : ℕ) → bits_held (word_held bits) ≡ bits
bits-word_held bits =
    elim (cases_Bool (bits == 0)) [
      | inl null ↦ ap (λ b. bits_held (if b then None else Some bits)) null ∙ sym (eqb-true bits 0 null)
      | inr word ↦ ap (λ b. bits_held (if b then None else Some bits)) word
    ]

-- a heap keeps its own words in 32 bits, as no heap has 2^30 cells: the colour in the two highest of them
abbrev pub unpacked : ℕ → ℕ
unpacked bits = bits / 2 ^ 30 * 2 ^ 62 + bits % 2 ^ 30

abbrev pub packed : ℕ → ℕ
packed word = word / 2 ^ 62 * 2 ^ 30 + word % 2 ^ 62

-- what is unpacked tells its bits
pub packed-unpacked : (bits : ℕ) → packed (bits_held (word_held (unpacked bits))) ≡ bits
packed-unpacked bits =
    let colour : ℕ = bits / 2 ^ 30 in
    let place : ℕ = bits % 2 ^ 30 in
    let below : place < 2 ^ 62 =
    lt_trans (mod_below bits (2 ^ 30) (ltb-true 0 (2 ^ 30) refl)) (ltb-true (2 ^ 30) (2 ^ 62) refl) in
    ap packed (bits-word_held (unpacked bits))
    ∙ ap₂ (λ (c p : ℕ). c * 2 ^ 30 + p) (div-mul-add colour (2 ^ 62) place below)
    (mod-mul-add colour (2 ^ 62) place below)
    ∙ div-add-mod' bits (2 ^ 30)

-- a word, as what is held
abbrev pub word_in_colour : Colour → ℕ → ℕ → Option ℕ
word_in_colour colour page cell = Some (coloured_word colour page cell)

-- whether it is the word of a cell, and whether it has this colour
abbrev pub is_word : Option ℕ → Bool
is_word None = false
is_word (Some word) = is_some (parts_of word)

abbrev pub has_colour : Colour → Option ℕ → Bool
has_colour colour None = false
has_colour colour (Some word) = is_coloured word colour

-- whether it is null, or has this colour
abbrev pub is_in_colour : Colour → Option ℕ → Bool
is_in_colour colour value = is_none value || has_colour colour value

-- whether bits are those of null, or of a word of this colour
abbrev pub are_in_colour : Colour → ℕ → Bool
are_in_colour colour bits = bits == 0 || is_coloured bits colour

-- the word of the same cell in this colour
abbrev pub recoloured : Colour → Option ℕ → Option ℕ
recoloured colour None = None
recoloured colour (Some word) = Some (colour_number colour * 2 ^ 62 + word % 2 ^ 62)

-- A heap's own words tell a page by its frame, which it keeps while its address changes: frame 0 in the place of page
-- 1, so that no word is null. This is the word of the cell at a place, which is 64 * frame + cell.
abbrev pub word_of_place : Colour → ℕ → Option ℕ
word_of_place colour place = word_in_colour colour (1 + place / 64) (place % 64)

-- where the cell of a heap's own word lies: none of null
abbrev pub place_by : Option ℕ → Option ℕ
place_by None = None
place_by (Some word) = if nat_le 64 (word % 2 ^ 62) then Some (word % 2 ^ 62 - 64) else None

-- an index at which a place is looked up: behind all places where there is none
abbrev pub IsIndexOf : Option ℕ → ℕ → Type 0
IsIndexOf None index = 2 ^ 63 ≤ index
IsIndexOf (Some place) index = index ≡ place

-- the bits of what is held, with the address of a page in the place of its frame
abbrev pub bits_at : ℕ → Option ℕ → ℕ
bits_at address None = 0
bits_at address (Some word) = word / 2 ^ 62 * 2 ^ 62 + address * 64 + word % 64
