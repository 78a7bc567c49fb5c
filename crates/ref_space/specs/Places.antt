-- How the table lies in memory: cells by place, 64 a page, an index of places by number, and the cells that are free.
use Rattle.std.specs.Prelude.{◌≡◌, ℕ, suc, ◌+◌, ◌*◌, ◌/◌, ◌<◌, ◌≤◌, ◌^◌, Bool, true, false, ◌==◌, ◌&&◌, not}
use Rattle.std.specs.Prelude.{if◌then◌else◌, nat_lt, List, [], ◌∷◌, length, map, Option, Some, None, slice_index_or}
use Rattle.std.specs.Prelude.{slice_set}
use Rattle.std.specs.List.{filter}
use Rattle.std.specs.Borrow.{Bor}
use Rattle.ref_space.specs.Pages.{taken_of, opened, AreBetween, Packed, is_chosen_place}
use Rattle.ref_space.specs.Moves.{Ways, AreFree, NoneLeaves, forward_of}
use Rattle.std.specs.Option.{option_map, is_none, is_some}
use Rattle.ref_space.specs.declared.colour.Colour.{Colour}
use Rattle.ref_space.specs.ColouredWords.{place_by, is_in_colour}
use Rattle.ref_space.specs.Tables.{Tabled, Table, is_marked, marked_of, with_nothing_done, blanked_unless_marked}
use Rattle.ref_space.specs.Tables.{on_object}
use Rattle.ref_space.specs.Tables.{RoundView, IfRead, word_in}
use Rattle.ref_space.specs.Naming.{occupants_of, target_by, leads_by, by_number, word_there, Each, EachHeld}
use Rattle.ref_space.specs.declared.index.Entry.{Entry}

-- what the cell at a place holds: nothing where there is no such place
abbrev pub cell_at : List (Option Tabled) → ℕ → Option Tabled
cell_at cells place = slice_index_or cells place None

-- whether a cell holds the object of number n
abbrev pub is_of : Option Tabled → ℕ → Bool
is_of None n = false
is_of (Some k) n = k.object.no == n

-- whether a cell holds the object of number n, and that passes a test
abbrev pub is_passing : (Tabled → Bool) → Option Tabled → ℕ → Bool
is_passing passes None n = false
is_passing passes (Some k) n = k.object.no == n && passes k

-- whether a cell holds the object of number n, and that is held
abbrev pub is_held_as : Option Tabled → ℕ → Bool
is_held_as = is_passing (λ k. nat_lt 0 k.holds)

-- whether the cell that an entry names still holds the entry's object: if not, the entry is a gap
abbrev pub is_live : List (Option Tabled) → Entry → Bool
is_live cells e = is_of (cell_at cells e.place) e.no

-- whether it does, and the object is held
abbrev pub is_held : List (Option Tabled) → Entry → Bool
is_held cells e = is_held_as (cell_at cells e.place) e.no

-- the object in front, if the cell holds that of number n
abbrev pub before : Option Tabled → ℕ → List Tabled → List Tabled
before None n ks = ks
before (Some k) n ks = if k.object.no == n then k ∷ ks else ks

-- the objects that the index leads to, in its order
abbrev pub tabled_by : List (Option Tabled) → List Entry → List Tabled
tabled_by cells [] = []
tabled_by cells (e ∷ es) = before (cell_at cells e.place) e.no (tabled_by cells es)

-- the place that the index has for number n
abbrev pub place_in : List Entry → ℕ → Option ℕ
place_in [] n = None
place_in (e ∷ es) n = if e.no == n then Some e.place else place_in es n

-- that place, if its cell holds the object of number n
abbrev pub place_if_live : List (Option Tabled) → Option ℕ → ℕ → Option ℕ
place_if_live cells None n = None
place_if_live cells (Some place) n = if is_of (cell_at cells place) n then Some place else None

-- what a borrowed cell holds, if there is one
abbrev pub lent : Option (Bor (Option Tabled)) → Option Tabled
lent None = None
lent (Some cell) = cell.now

-- what the cell at a place holds, if there is a place
abbrev pub at_place : List (Option Tabled) → Option ℕ → Option Tabled
at_place cells None = None
at_place cells (Some place) = cell_at cells place

-- the place of a word, or that to which what lay there moved
abbrev pub moved_place : List (Option Tabled) → List ℕ → Option ℕ → Option ℕ
moved_place cells forwards None = None
moved_place cells forwards (Some place) =
    Some (if is_some (cell_at cells place) then place else forward_of forwards place)

-- what the cell there holds: nothing of null
abbrev pub cell_of_word : List (Option Tabled) → List ℕ → Option ℕ → Option Tabled
cell_of_word cells forwards value = at_place cells (moved_place cells forwards (place_by value))

-- a place, if its cell holds an object
abbrev pub place_if_taken : List (Option Tabled) → Option ℕ → Option ℕ
place_if_taken cells None = None
place_if_taken cells (Some place) = if is_some (cell_at cells place) then Some place else None

-- the place of the cell of a word, if an object lies there
abbrev pub place_of_word : List (Option Tabled) → List ℕ → Option ℕ → Option ℕ
place_of_word cells forwards value = place_if_taken cells (moved_place cells forwards (place_by value))

-- an object with its fields so
abbrev pub with_fields_by : (Option ℕ → Option ℕ) → Tabled → Tabled
with_fields_by f k = on_object (λ o. record o { fields = map f o.fields }) k

-- the fields of the object at a place are healed
abbrev pub with_fields_healed : Colour → List ℕ → List (Option Tabled) → ℕ → List (Option Tabled)
with_fields_healed colour forwards cells place =
    slice_set cells place (option_map
    (with_fields_by (λ v. word_there colour (place_of_word cells forwards v))) (cell_at cells place))

-- the entry of number n names another place
abbrev pub with_place_of : List Entry → ℕ → ℕ → List Entry
with_place_of [] n place = []
with_place_of (e ∷ es) n place =
    record e { place = if e.no == n then place else e.place } ∷ with_place_of es n place

-- how many entries in front are of numbers below n
abbrev pub count_below : List Entry → ℕ → ℕ
count_below [] n = 0
count_below (e ∷ es) n = if nat_lt e.no n then suc (count_below es n) else 0

-- the number of the first entry that passes a test
abbrev pub first_entry : (Entry → Bool) → List Entry → Option ℕ
first_entry passes [] = None
first_entry passes (e ∷ es) = if passes e then Some e.no else first_entry passes es

-- every entry's number is above n
abbrev pub AllAbove : ℕ → List Entry → Type 0
AllAbove n [] = Unit {0}
AllAbove n (e ∷ es) = (n < e.no) × AllAbove n es

-- no entry's number is above the last
abbrev pub NoneAbove : ℕ → List Entry → Type 0
NoneAbove last [] = Unit {0}
NoneAbove last (e ∷ es) = (e.no ≤ last) × NoneAbove last es

-- the numbers of the entries rise
abbrev pub Rises : List Entry → Type 0
Rises [] = Unit {0}
Rises (e ∷ es) = AllAbove e.no es × Rises es

-- the index as it is before one more entry: where it has this many already, its gaps are closed
abbrev pub with_room : ℕ → List (Option Tabled) → List Entry → List Entry
with_room most cells es = if length es == most then filter (is_live cells) es else es

-- each object has its entry, which names its cell
abbrev pub AreIndexed : List (Option Tabled) → List Entry → Type 0
AreIndexed cells index =
    (place : ℕ) (k : Tabled) → cell_at cells place ≡ Some k → place_in index k.object.no ≡ Some place

-- what holds of a table's cells, index and pages: each object has its entry, and each cell without one is free
pub record IsPlaced (cells : List (Option Tabled)) (index : List Entry) (ways : Ways) (last : ℕ) : Type 0 where
  pub rises : Rises index
  pub given : NoneAbove last index
  pub free : AreFree (map is_none cells) ways.forwards ways.pages.uses
  pub settled : ways.tuned ≡ true → NoneLeaves (map is_none cells) ways.pages.uses
  pub taken : taken_of (opened ways.pages.uses) ≡ length (tabled_by cells index)
  pub rising : AreBetween 1 ways.pages.uses ways.pages.next
  pub addressed : ways.pages.next ≤ 2 ^ 32
  pub small : length cells ≤ 2 ^ 17
  pub few : length index ≤ length cells

-- where a word of an object is the one that was read last, it is null or has the good colour
abbrev pub IsReadIn : RoundView → Tabled → Type 0
IsReadIn round k =
    (field : Option ℕ) → IfRead round k.object.no field (is_in_colour round.good (word_in field k.object))

-- what holds of a table's fields: that, there are twice as many pages as the objects fill that there may be, the first
-- half of the open ones has all of these, no push to the index ever takes memory, and the objects and the marked ones
-- are counted
pub record IsSoundTable (round : RoundView) (cells : List (Option Tabled)) (index : List Entry) (ways : Ways)
    (last room count index_room marked : ℕ) : Type 0 where
  pub placed : IsPlaced cells index ways last
  pub cells_fit : room ≤ length cells
  pub open_fit : room ≤ 64 * length (opened ways.pages.uses)
  pub twice : length ways.pages.uses ≡ 2 * ((room + 63) / 64)
  pub packed : Packed ((room + 63) / 64) (opened ways.pages.uses)
  pub counted : count ≡ length (tabled_by cells index)
  pub within : count ≤ room
  pub index_fits : length cells ≤ index_room
  pub marks_counted : marked ≡ length (marked_of round.number (tabled_by cells index))

-- what holds of words: each cell has one, each object has its entry, and each word that a slot or an object holds leads
-- to an object; those of slots and of healed objects have the good colour, which isn't that of words from before pages
-- were chosen that are still; and so has the word that was read last
pub record IsSoundNaming (round : RoundView) (ways : Ways) (cells : List (Option Tabled)) (index : List Entry)
    (slots : List (Option ℕ)) : Type 0 where
  pub listed : AreIndexed cells index
  pub rooted : Each (leads_by round.good ways (occupants_of cells) true) slots
  pub begun : 1 ≤ round.number
  pub apart : (place : ℕ) → is_chosen_place ways.pages.uses place ≡ true → ways.last ≡ round.good → ⊥
  pub led : EachHeld round.number (leads_by round.good ways (occupants_of cells)) (tabled_by cells index)
  pub read : (place : ℕ) (k : Tabled) → cell_at cells place ≡ Some k → IsReadIn round k

-- the objects that the index leads to, and what slots hold, with numbers in the place of words
abbrev pub named_tabled : Ways → List (Option Tabled) → List Entry → List Tabled
named_tabled ways cells index = map (by_number (target_by ways (occupants_of cells))) (tabled_by cells index)

abbrev pub named_slots : Ways → List (Option Tabled) → List (Option ℕ) → List (Option ℕ)
named_slots ways cells slots = map (target_by ways (occupants_of cells)) slots

-- what a contract sees of a table's fields
abbrev pub seen_table : RoundView → Ways → List (Option Tabled) → List Entry → List (Option ℕ) → ℕ → ℕ → Table
seen_table round ways cells index slots last room = record {
  tabled = named_tabled ways cells index;
  room = room;
  last = last;
  slots = named_slots ways cells slots;
  ways = ways;
  occupants = occupants_of cells;
  round = round;
}

-- ---- marks

-- whether a cell holds the object of number n, and that isn't marked
abbrev pub is_unmarked_as : ℕ → Option Tabled → ℕ → Bool
is_unmarked_as round = is_passing (λ k. not (is_marked round k))

-- what a cell holds, as if it had never been marked or healed
abbrev pub begun_cell : Option Tabled → Option Tabled
begun_cell = option_map with_nothing_done

-- what a cell holds, which refers to nothing unless it is marked
abbrev pub blanked_cell : ℕ → Option Tabled → Option Tabled
blanked_cell round = option_map (blanked_unless_marked round)

-- what a cell holds as the object of number n is condemned, where that lies there and isn't marked
abbrev pub condemned_cell : ℕ → ℕ → Option Tabled → Option Tabled
condemned_cell round n c = if is_unmarked_as round c n then blanked_cell round c else c

-- whether the object of an entry is condemned
abbrev pub condemns : ℕ → Entry → List (Option Tabled) → Bool
condemns round e cells = is_unmarked_as round (cell_at cells e.place) e.no

-- the cells as it is
abbrev pub condemned_at : ℕ → Entry → List (Option Tabled) → List (Option Tabled)
condemned_at round e cells = slice_set cells e.place (condemned_cell round e.no (cell_at cells e.place))
