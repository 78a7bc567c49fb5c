-- What holds of the fields of the pages of a heap.
use Rattle.std.specs.Prelude.{◌≡◌, ℕ, ◌+◌, ◌^◌, ◌<◌, ◌≤◌, List, length, take, slice_index_or}
use Rattle.ref_space.specs.Pages.{Use, use_at, use_of, taken_cells, NoneHasRoom, AreWhole, AreBetween, AreFramed}
use Rattle.ref_space.specs.Pages.{chosen_frames}

-- the list of places has of the frame of each of the first k pages where that page stands
abbrev pub AreMapped : ℕ → List Use → List ℕ → Type 0
AreMapped k ps places = (page : ℕ) → page < k → slice_index_or places (use_at ps page).frame 0 ≡ page

-- no cell of the first k of these frames is taken
abbrev pub NoneTaken : List Use → List ℕ → ℕ → Type 0
NoneTaken ps fs k = (at : ℕ) → at < k → taken_cells (use_of ps (slice_index_or fs at 0)) ≡ 0

-- each page has 64 cells; none has room in front of the place from which the next free cell is looked for; frames lead
-- to pages; nothing is left in the chosen pages in front of that from which what is left is looked for; and addresses
-- rise, of which enough are left for the chosen pages
pub record ArePages (ps : List Use) (places chosen : List ℕ) (next first_open first_left room spare : ℕ) : Type 0 where
  pub whole : AreWhole ps
  pub within : first_open ≤ length ps
  pub full : NoneHasRoom (take first_open ps)
  pub framed : AreFramed ps
  pub sized : length places ≡ length ps
  pub mapped : AreMapped (length ps) ps places
  pub listed : chosen ≡ chosen_frames ps
  pub left_within : first_left ≤ length chosen
  pub emptied : NoneTaken ps chosen first_left
  pub rising : AreBetween 0 ps next
  pub addresses : next + length (chosen_frames ps) ≤ 2 ^ 32
  pub pages_fit : length ps ≤ room
  pub chosen_fit : length ps ≤ spare
