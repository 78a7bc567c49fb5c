-- Pages of 64 cells: which cells are free, where the next object is placed, and which pages a move empties (this
-- project's profile; ZGC, JEP 333, has pages of other sizes, and fills each in order of address).
use Rattle.std.specs.Prelude.{◌≡◌, ℕ, zero, suc, ◌+◌, ◌*◌, ◌/◌, ◌%◌, ◌^◌, ◌<◌, ◌≤◌, Bool, true, false, if◌then◌else◌}
use Rattle.std.specs.Prelude.{not, ◌&&◌}
use Rattle.std.specs.Prelude.{◌==◌, nat_lt, nat_le, List, [], ◌∷◌, ◌++◌, length, map, replicate, slice_set}
use Rattle.std.specs.Prelude.{slice_index_or, Option, Some, None, Result, Ok, Err, ◌⊎◌}
use Rattle.std.specs.List.{filter, count_by, sum_by}
use Rattle.std.specs.Option.{option_map}
use Rattle.ref_base.specs.declared.fault.Fault.{Fault}
use Rattle.ref_base.specs.declared.fault.Fault.TheVariants.{NoRoom, AddressesSpent}
use Rattle.ref_space.specs.Bits.{first_set, any_set, count_clear}

-- a page: its address; its frame, whose cell c is the page's cell c; whether it was chosen, so that its objects are to
-- move and none is placed in it; and of each cell whether it is free
pub record Use : Type 0 where
  pub address : ℕ
  pub frame : ℕ
  pub chosen : Bool
  pub free : List Bool

-- pages in order of address, and the next address that none ever had
pub record Pages : Type 0 where
  pub uses : List Use
  pub next : ℕ

abbrev pub no_use : Use
no_use = record { address = 0; frame = 0; chosen = false; free = [] }

abbrev pub use_at : List Use → ℕ → Use
use_at ps page = slice_index_or ps page no_use

-- the place in the order of the page of a frame, and that page
abbrev pub place_of : List Use → ℕ → ℕ
place_of [] frame = 0
place_of (p ∷ ps) frame = if p.frame == frame then 0 else suc (place_of ps frame)

abbrev pub use_of : List Use → ℕ → Use
use_of ps frame = use_at ps (place_of ps frame)

-- an open page with all cells free, and so many of them at addresses and frames that follow one another
unfoldable pub all_free : List Bool
all_free = replicate 64 true

abbrev pub fresh_page : ℕ → ℕ → Use
fresh_page address frame = record { address = address; frame = frame; chosen = false; free = all_free }

abbrev pub fresh_pages : ℕ → ℕ → ℕ → List Use
fresh_pages address frame zero = []
fresh_pages address frame (suc count) = fresh_page address frame ∷ fresh_pages (suc address) (suc frame) count

-- new pages from an address on
abbrev pub new_pages : ℕ → ℕ → Pages
new_pages address count = record { uses = fresh_pages address 0 count; next = address + count }

abbrev pub is_free_at : List Use → ℕ → ℕ → Bool
is_free_at ps page cell = slice_index_or (use_at ps page).free cell false

-- the cell is free now, or isn't: of a page, and of the page at a place
abbrev pub with_free : ℕ → Bool → Use → Use
with_free cell is_free p = record p { free = slice_set p.free cell is_free }

abbrev pub with_cell : List Use → ℕ → ℕ → Bool → List Use
with_cell [] page cell is_free = []
with_cell (p ∷ ps) zero cell is_free = with_free cell is_free p ∷ ps
with_cell (p ∷ ps) (suc page) cell is_free = p ∷ with_cell ps page cell is_free

-- ---- places

-- A place is a cell of a frame: cell c of frame f is place 64 * f + c. Where its page stands in the order, whether that
-- was chosen, and whether the pages have the cell as free.
abbrev pub place_in_frame : ℕ × ℕ → ℕ
place_in_frame at = 64 * at.0 + at.1

abbrev pub page_at : List Use → ℕ → ℕ
page_at ps place = place_of ps (place / 64)

abbrev pub is_chosen_place : List Use → ℕ → Bool
is_chosen_place ps place = (use_at ps (page_at ps place)).chosen

abbrev pub is_free_place : List Use → ℕ → Bool
is_free_place ps place = is_free_at ps (page_at ps place) (place % 64)

-- the pages, with that cell free or taken
abbrev pub with_place : List Use → ℕ → Bool → List Use
with_place ps place is_free = with_cell ps (page_at ps place) (place % 64) is_free

-- ---- placing

-- whether it is open and has a free cell
abbrev pub has_open_cell : Use → Bool
has_open_cell p = not p.chosen && any_set p.free

-- a cell of the first page, and the same cell where one more page stands in front
abbrev pub in_first : Option ℕ → Option (ℕ × ℕ)
in_first None = None
in_first (Some cell) = Some (0, cell)

abbrev pub page_later : Option (ℕ × ℕ) → Option (ℕ × ℕ)
page_later None = None
page_later (Some at) = Some (suc at.0, at.1)

-- where the next object is placed: the first open page that has a free cell, and its lowest free cell
abbrev pub next_place : List Use → Option (ℕ × ℕ)
next_place [] = None
next_place (p ∷ ps) = if has_open_cell p then in_first (first_set p.free) else page_later (next_place ps)

-- the frame of that page, and the cell
abbrev pub in_frame : List Use → ℕ × ℕ → ℕ × ℕ
in_frame ps at = ((use_at ps at.0).frame, at.1)

abbrev pub next_cell : List Use → Option (ℕ × ℕ)
next_cell ps = option_map (in_frame ps) (next_place ps)

-- the cell there is taken
abbrev pub after_placing : List Use → Option (ℕ × ℕ) → List Use
after_placing ps None = ps
after_placing ps (Some at) = with_cell ps at.0 at.1 false

-- an object is placed, and a cell of a frame is given back
abbrev pub placing : List Use → List Use
placing ps = after_placing ps (next_place ps)

abbrev pub with_placed : Pages → Pages
with_placed ps = record ps { uses = placing ps.uses }

abbrev pub with_given : Pages → ℕ → ℕ → Pages
with_given ps frame cell = record ps { uses = with_cell ps.uses (place_of ps.uses frame) cell true }

-- objects are placed, as many as the number says
abbrev pub placings : ℕ → List Use → List Use
placings zero ps = ps
placings (suc k) ps = placing (placings k ps)

-- no open page has a free cell
abbrev pub NoneHasRoom : List Use → Type 0
NoneHasRoom [] = Unit {0}
NoneHasRoom (p ∷ ps) = (has_open_cell p ≡ false) × NoneHasRoom ps

-- each page has 64 cells
abbrev pub AreWhole : List Use → Type 0
AreWhole [] = Unit {0}
AreWhole (p ∷ ps) = (length p.free ≡ 64) × AreWhole ps

-- whether a cell is free in an open page
abbrev pub is_open_at : List Use → ℕ → ℕ → Bool
is_open_at ps page cell = not (use_at ps page).chosen && is_free_at ps page cell

-- the cell is free in an open page, and comes before each other such cell
pub record IsFirstFree (ps : List Use) (page cell : ℕ) : Type 0 where
  pub is_free : is_open_at ps page cell ≡ true
  pub in_front : (other own : ℕ) → other < page → is_open_at ps other own ≡ false
  pub below : (own : ℕ) → own < cell → is_open_at ps page own ≡ false

-- the place is that of the first free cell of an open page, and none where no open page has one
abbrev pub IsNextPlace : List Use → Option (ℕ × ℕ) → Type 0
IsNextPlace ps None = NoneHasRoom ps
IsNextPlace ps (Some at) = IsFirstFree ps at.0 at.1

-- ---- room

-- how many cells are taken: of a page, and of all
abbrev pub taken_cells : Use → ℕ
taken_cells p = count_clear p.free

abbrev pub taken_of : List Use → ℕ
taken_of [] = 0
taken_of (p ∷ ps) = taken_cells p + taken_of ps

-- all taken cells are in the first c pages
abbrev pub Packed : ℕ → List Use → Type 0
Packed c [] = Unit {0}
Packed zero (p ∷ ps) = (taken_cells p ≡ 0) × Packed zero ps
Packed (suc c) (p ∷ ps) = Packed c ps

-- Pages that are filled one after another, and from which nothing goes: in front full ones, then one of which any cells
-- may be taken, and behind it empty ones.
abbrev pub AreFilled : List Use → Type 0
AreFilled [] = Unit {0}
AreFilled (p ∷ ps) = ((any_set p.free ≡ false) × AreFilled ps) ⊎ Packed zero ps

-- ---- moves

-- the pages that weren't chosen
abbrev pub is_open : Use → Bool
is_open p = not p.chosen

abbrev pub opened : List Use → List Use
opened ps = filter is_open ps

-- the frames of those that were
abbrev pub chosen_frames : List Use → List ℕ
chosen_frames [] = []
chosen_frames (p ∷ ps) = if p.chosen then p.frame ∷ chosen_frames ps else chosen_frames ps

abbrev pub has_chosen : List Use → Bool
has_chosen ps = nat_lt 0 (length (chosen_frames ps))

-- the taken cells of a frame by place, from that of the first of these cells on, and those of several frames
abbrev pub taken_places : ℕ → List Bool → List ℕ
taken_places place [] = []
taken_places place (b ∷ bs) =
    if b then taken_places (suc place) bs else place ∷ taken_places (suc place) bs

abbrev pub taken_in : List Use → List ℕ → List ℕ
taken_in ps [] = []
taken_in ps (f ∷ fs) = taken_places (64 * f) (use_of ps f).free ++ taken_in ps fs

-- what is left in the chosen pages, in order of address and of cell
abbrev pub left_in : List Use → List ℕ
left_in ps = taken_in ps (chosen_frames ps)

-- what lies at a place is to move to the next free cell, if there is one: of pages, and of a list that has of each
-- place where what lay there moves
abbrev pub reserved_to : Option (ℕ × ℕ) → ℕ → Pages × List ℕ → Pages × List ℕ
reserved_to None from state = state
reserved_to (Some at) from state = (with_placed state.0, slice_set state.1 from (place_in_frame at))

abbrev pub reserved : Pages × List ℕ → ℕ → Pages × List ℕ
reserved state from = reserved_to (next_cell state.0.uses) from state

-- and what lies at several, one after another
abbrev pub reserving : Pages × List ℕ → List ℕ → Pages × List ℕ
reserving state [] = state
reserving state (from ∷ rest) = reserving (reserved state from) rest

-- whether a page has some taken cells, and at most half
abbrev pub is_sparse : Use → Bool
is_sparse p = nat_lt 0 (taken_cells p) && nat_le (taken_cells p) 32

-- how many pages are such, and how many cells they have taken
abbrev pub sparse_count : List Use → ℕ
sparse_count ps = count_by is_sparse ps

abbrev pub taken_if_sparse : Use → ℕ
taken_if_sparse p = if is_sparse p then taken_cells p else 0

abbrev pub sparse_cells : List Use → ℕ
sparse_cells ps = sum_by taken_if_sparse ps

-- those are chosen
abbrev pub chosen_if_sparse : Use → Use
chosen_if_sparse p = if is_sparse p then record p { chosen = true } else p

abbrev pub choosing : List Use → List Use
choosing ps = map chosen_if_sparse ps

abbrev pub with_chosen : Pages → Pages
with_chosen ps = record ps { uses = choosing ps.uses }

-- why a choice is refused: it is worth nothing below two pages, and each chosen page needs a new address
abbrev pub choose_refusal : Pages → Option Fault
choose_refusal ps =
    if nat_lt (sparse_count ps.uses) 2 then Some NoRoom
    else if nat_lt (2 ^ 32) (ps.next + sparse_count ps.uses) then Some AddressesSpent
    else None

-- what a choice answers, and what it leaves
abbrev pub chosen_or : Option Fault → ℕ → Result ℕ Fault
chosen_or None cells = Ok cells
chosen_or (Some fault) cells = Err fault

abbrev pub choice : Pages → Result ℕ Fault
choice ps = chosen_or (choose_refusal ps) (sparse_cells ps.uses)

abbrev pub chosen_unless : Option Fault → Pages → Pages
chosen_unless None ps = with_chosen ps
chosen_unless (Some fault) ps = ps

abbrev pub after_choice : Pages → Pages
after_choice ps = chosen_unless (choose_refusal ps) ps

-- empty pages with these frames, at addresses that follow one another
abbrev pub empty_pages : ℕ → List ℕ → List Use
empty_pages address [] = []
empty_pages address (f ∷ fs) = fresh_page address f ∷ empty_pages (suc address) fs

-- the pages that weren't chosen, and behind them the others, empty and at new addresses
abbrev pub renumbered_uses : ℕ → List Use → List Use
renumbered_uses next ps = opened ps ++ empty_pages next (chosen_frames ps)

abbrev pub renumbered : Pages → Pages
renumbered ps = record {
  uses = renumbered_uses ps.next ps.uses;
  next = ps.next + length (chosen_frames ps.uses);
}

-- no cell of a chosen page is taken
abbrev pub AreEmptied : List Use → Type 0
AreEmptied [] = Unit {0}
AreEmptied (p ∷ ps) = (p.chosen ≡ true → taken_cells p ≡ 0) × AreEmptied ps

-- a page keeps its address where it wasn't chosen, and gets one from the next on where it was
abbrev pub IsRenumbered : ℕ → Use → ℕ → Type 0
IsRenumbered next p address = (p.chosen ≡ false → address ≡ p.address) × (p.chosen ≡ true → next ≤ address)

-- addresses rise from a least one on, and stay below another
abbrev pub AreBetween : ℕ → List Use → ℕ → Type 0
AreBetween least [] end = least ≤ end
AreBetween least (p ∷ ps) end = (least ≤ p.address) × AreBetween (suc p.address) ps end

-- how many pages have this frame
abbrev pub times_framed : List Use → ℕ → ℕ
times_framed [] frame = 0
times_framed (p ∷ ps) frame = if p.frame == frame then suc (times_framed ps frame) else times_framed ps frame

-- the frames below the count of pages are of one page each, and no page has another
abbrev pub AreFramed : List Use → Type 0
AreFramed ps = (frame : ℕ) → times_framed ps frame ≡ (if nat_lt frame (length ps) then 1 else 0)
