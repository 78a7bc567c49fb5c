-- Which cells are free while objects move (this project's profile; ZGC, JEP 333, empties sparse pages so).
use Rattle.std.specs.Prelude.{◌≡◌, ℕ, ◌*◌, ◌/◌, ◌%◌, ◌<◌, Bool, true, false, List, length, replicate, slice_index_or}
use Rattle.std.specs.Prelude.{◌⊎◌}
use Rattle.ref_space.specs.declared.colour.Colour.{Colour}
use Rattle.ref_space.specs.declared.colour.Colour.TheVariants.{A}
use Rattle.ref_space.specs.Pages.{Pages, Use, new_pages, AreWhole, AreFramed, is_chosen_place, is_free_place}
use Rattle.ref_space.specs.Pages.{reserving, with_chosen, choosing, left_in, with_given, renumbered}

-- How words lead to places: the pages; of each place, where what lay there as pages were chosen moves; the colour of
-- the words from before that; and whether none was chosen since a round last began, so that what slots hold has its
-- colour
pub record Ways : Type 0 where
  pub pages : Pages
  pub forwards : List ℕ
  pub last : Colour
  pub tuned : Bool

abbrev pub ways_of : Pages → List ℕ → Colour → Bool → Ways
ways_of pages forwards last tuned =
    record { pages = pages; forwards = forwards; last = last; tuned = tuned }

-- Of each place it is told whether nothing lies there, and where what lay there as pages were chosen moves.
abbrev pub is_vacant : List Bool → ℕ → Bool
is_vacant bs place = slice_index_or bs place true

abbrev pub forward_of : List ℕ → ℕ → ℕ
forward_of fs place = slice_index_or fs place place

-- an object is still to move from a place: it lies in a chosen page
abbrev pub Leaves : List Bool → List Use → ℕ → Type 0
Leaves bs ps place = (is_chosen_place ps place ≡ true) × (is_vacant bs place ≡ false)

-- the place is reserved for one that is still to move
abbrev pub IsReserved : List Bool → List ℕ → List Use → ℕ → Type 0
IsReserved bs fs ps place = (from : ℕ) × Leaves bs ps from × (forward_of fs from ≡ place)

-- what may move there: a vacant cell of an open page, which is taken
pub record IsTarget (bs : List Bool) (ps : List Use) (place : ℕ) : Type 0 where
  pub within : place < length bs
  pub stays : is_chosen_place ps place ≡ false
  pub kept : is_free_place ps place ≡ false
  pub vacant : is_vacant bs place ≡ true

-- Each page has 64 cells, of its own frame. Of an open page those are free in which nothing lies, and which are
-- reserved for nothing, and of a chosen one those in which nothing lies any more. What is still to move has a place,
-- and no two have the same.
pub record AreFree (bs : List Bool) (fs : List ℕ) (ps : List Use) : Type 0 where
  pub whole : AreWhole ps
  pub framed : AreFramed ps
  pub sized : length bs ≡ 64 * length ps
  pub forwarded : length fs ≡ length bs
  pub free : (place : ℕ) → is_chosen_place ps place ≡ false → is_free_place ps place ≡ true
      → is_vacant bs place ≡ true
  pub taken : (place : ℕ) → place < length bs → is_chosen_place ps place ≡ false → is_free_place ps place ≡ false
      → (is_vacant bs place ≡ false) ⊎ IsReserved bs fs ps place
  pub left : (place : ℕ) → place < length bs → is_chosen_place ps place ≡ true
      → is_free_place ps place ≡ is_vacant bs place
  pub target : (place : ℕ) → Leaves bs ps place → IsTarget bs ps (forward_of fs place)
  pub apart : (one other : ℕ) → Leaves bs ps one → Leaves bs ps other → forward_of fs one ≡ forward_of fs other
      → one ≡ other

-- nothing is still to move
abbrev pub NoneLeaves : List Bool → List Use → Type 0
NoneLeaves bs ps = (place : ℕ) → is_chosen_place ps place ≡ true → is_vacant bs place ≡ true

-- a round began since pages were chosen
abbrev pub tuned : Ways → Ways
tuned ways = record ways { tuned = true }

-- pages are chosen, and what lies there is to move, one object after another, each to the next free cell; this is the
-- colour that was good
abbrev pub ways_by : Pages × List ℕ → Colour → Ways
ways_by state last = ways_of state.0 state.1 last false

abbrev pub ways_chosen : Ways → Colour → Ways
ways_chosen ways last =
    ways_by (reserving (with_chosen ways.pages, ways.forwards) (left_in (choosing ways.pages.uses))) last

-- the cell at a place of a chosen page is left
abbrev pub ways_left : Ways → ℕ → Ways
ways_left ways place = record ways { pages = with_given ways.pages (place / 64) (place % 64) }

-- the chosen pages are empty, and get new addresses
abbrev pub ways_renumbered : Ways → Ways
ways_renumbered ways = record ways { pages = renumbered ways.pages }

-- new pages, in which nothing ever moved
abbrev pub first_ways : ℕ → ℕ → Ways
first_ways first count = record {
  pages = new_pages first count;
  forwards = replicate (64 * count) 0;
  last = A;
  tuned = true;
}
