-- What one sees of the objects of a heap: the heap as plain data, what refuses its calls, and what they leave (package
-- `java.lang.ref` of Java SE 17 for what making a reference does; numbers, slots, holds and cells: this project's
-- profile). The functions of a heap are those of the model of the whole collector.
use Rattle.std.specs.Prelude.{◌≡◌, ℕ, ◌+◌, ◌*◌, ◌/◌, ◌^◌, ◌≤◌, Bool, true, false, ◌==◌, ◌&&◌, not, if◌then◌else◌}
use Rattle.std.specs.Prelude.{nat_le, nat_lt, List, [], ◌∷◌, ◌++◌, length, map, replicate, Option, Some, None, Result}
use Rattle.std.specs.Prelude.{Ok, Err}
use Rattle.ref_base.specs.Members.{has, without_first}
use Rattle.ref_base.specs.Graphs.{Object, Reference, is_there, numbers, object_at}
use Rattle.ref_base.specs.Forgetting.{heap_but}
use Rattle.ref_base.specs.Limits.{is_within_limits}
use Rattle.ref_base.specs.Orderly.{IsOrderly}
use Rattle.ref_base.specs.Heaps.{Heap, first_heap, slot_at, reference_at, with_hold, made, one_more, cut}
use Rattle.ref_base.specs.Heaps.{with_changed, with_reference, got_at, cleared, reference_in}
use Rattle.ref_base.specs.CollectorRows.{without, reference_of, referent_of}
use Rattle.ref_base.specs.DoomedSets.{refers_into}
use Rattle.ref_base.specs.Paths.{if_any, present}
use Rattle.ref_base.specs.Refusals.{unless, has_slot, holds_refusal, held_refusal, hold_refusal as returned_refusal}
use Rattle.ref_base.specs.declared.config.Config.{Config}
use Rattle.ref_base.specs.declared.fault.Fault.{Fault}
use Rattle.ref_base.specs.declared.fault.Fault.TheVariants.{BadConfig, NoSuchObject, NoMemory, NoSuchActor, NoRoom}
use Rattle.ref_base.specs.declared.fault.Fault.TheVariants.{AddressesSpent}
use Rattle.ref_base.specs.declared.heap_step.HoldName.{HoldName}
use Rattle.ref_space.specs.ColouredWords.{cycle_colour}
use Rattle.ref_space.specs.Naming.{IsWordHeld}
use Rattle.std.specs.Prelude.{slice_index_or}
use Rattle.std.specs.Prelude.{slice_set}
use Rattle.ref_space.specs.Pages.{next_cell, sparse_count, choosing, left_in}
use Rattle.std.specs.Option.{is_none}
use Rattle.ref_space.specs.Moves.{Ways, first_ways, forward_of, tuned, ways_chosen, ways_left, ways_renumbered}
use Rattle.ref_space.specs.Moves.{AreFree}
use Rattle.ref_space.specs.Tables.{Tag, fields_in, scanned_values, with_occupant, without_occupant, with_vacated}
use Rattle.ref_space.specs.Tables.{numbers_at, place_of_number, ways_placed, without_number, LieOnce}
use Rattle.ref_space.specs.Worklists.{Worklist}
use Rattle.ref_objects.specs.declared.start.Start.{Start}
use Rattle.ref_objects.specs.declared.kind.Kind.{Kind}
use Rattle.ref_objects.specs.declared.kind.Kind.TheVariants as kind
use Rattle.ref_objects.specs.declared.stage.Stage.{Stage}
use Rattle.ref_objects.specs.declared.stage.Stage.TheVariants.{Fresh, Tuned, Moved}
use Rattle.ref_space.specs.declared.colour.Colour.{Colour}
use Rattle.ref_space.specs.declared.colour.Colour.TheVariants.{R}
use Rattle.ref_space.specs.declared.linked.Linked.{Linked}
use Rattle.ref_space.specs.declared.linked.Look.{Look}

-- Where the objects lie, and how words name them: how words lead to places, by pages and by where what lay there moved;
-- of each cell the number of its object, 64 cells to the frame of a page, from frame 0 on; the good colour, that of the
-- last cycle that began (at first, of the count of cycles so far), and what last made a colour good; in order, the
-- objects that the cycle hasn't healed since its begin: where that was the last to make a colour good, just these may
-- hold a word of another. Then, in the order in which they are to move, the objects that were chosen to and haven't;
-- and whether some were chosen since a cycle last ended.
pub record Space : Type 0 where
  pub ways : Ways
  pub cells : List (Option ℕ)
  pub good : Colour
  pub last : Colour
  pub stage : Stage
  pub unhealed : List ℕ
  pub still_to_move : List ℕ
  pub has_choice : Bool

-- whether what slots hold has the good colour
abbrev pub is_tuned : Stage → Bool
is_tuned Fresh = true
is_tuned Tuned = true
is_tuned Moved = false

-- a heap, the number of its next object, the numbers of the objects that are marked, and the tag of each object, both
-- in order; whether the objects that aren't marked are condemned; and where the objects lie
pub record Ground : Type 0 where
  pub heap : Heap
  pub next : ℕ
  pub marked : List ℕ
  pub tags : List Tag
  pub condemning : Bool
  pub space : Space

-- ---- where objects lie

-- pages of 64 cells, twice as many as the cells fill
abbrev pub page_count : ℕ → ℕ
page_count cells = 2 * ((cells + 63) / 64)

-- no object lies there yet, where there are so many cells, and pages and cycles are numbered from these on: twice as
-- many pages as the cells fill, so that there is room for what moves
abbrev pub first_space : ℕ → Start → Space
first_space cells start = record {
  ways = first_ways start.page (page_count cells);
  cells = replicate (64 * page_count cells) None;
  good = R;
  last = cycle_colour start.cycle;
  stage = Fresh;
  unhealed = [];
  still_to_move = [];
  has_choice = false;
}

-- a new object lies in the first free cell, and is healed
abbrev pub occupied : Space → ℕ → Space
occupied s n =
    record s { ways = ways_placed s.ways; cells = with_occupant s.cells (next_cell s.ways.pages.uses) n }

-- the cell of one that goes is free
abbrev pub vacated : Space → ℕ → Space
vacated s n = record s {
  ways = with_vacated s.ways s.cells n;
  cells = without_occupant s.cells n;
  unhealed = without_number s.unhealed n;
}

-- a cycle makes another colour good, and the words of all these objects may have the colour that was
abbrev pub coloured_anew : Space → Colour → List ℕ → Space
coloured_anew s good all =
    record s { ways = tuned s.ways; good = good; last = good; stage = Tuned; unhealed = all }

-- each word of an object has the good colour
abbrev pub healed : Space → ℕ → Space
healed s n = record s { unhealed = without_number s.unhealed n }

-- ---- moves

-- how words lead to places, and of each cell the number of its object
pub record Lay : Type 0 where
  pub ways : Ways
  pub cells : List (Option ℕ)

abbrev pub laid : Space → Lay → Space
laid s lay = record s { ways = lay.ways; cells = lay.cells }

-- whether a choice of objects wins room: at least two pages have from 1 to 32 objects. Before the first cycle none
-- does, since nothing has died, and at most one page has neither no object nor 64.
unfoldable pub wins_room : Space → Bool
wins_room s = not (nat_lt (sparse_count s.ways.pages.uses) 2)

-- whether as many addresses of pages are left as it empties pages
unfoldable pub has_addresses : Space → Bool
has_addresses s = not (nat_lt (2 ^ 32) (s.ways.pages.next + sparse_count s.ways.pages.uses))

-- the objects that it chooses, which are those of these pages, in order of address and of cell
unfoldable pub chosen_objects : Space → List ℕ
chosen_objects s = numbers_at s.cells (left_in (choosing s.ways.pages.uses))

-- the lay once these pages are chosen: nothing is placed in them, and each of these objects has a free cell to move to
unfoldable pub lay_chosen : Space → Lay
lay_chosen s = record { ways = ways_chosen s.ways s.good; cells = s.cells }

-- the lay once object n has moved: it lies in a page that wasn't chosen
abbrev pub place_in : Space → ℕ → ℕ
place_in s n = place_of_number s.cells n

unfoldable pub lay_moved : Space → ℕ → Lay
lay_moved s n = record {
  ways = ways_left s.ways (place_in s n);
  cells = slice_set
      (slice_set s.cells (forward_of s.ways.forwards (place_in s n)) (slice_index_or s.cells (place_in s n) None))
      (place_in s n) None;
}

-- the lay once the chosen pages are open again, empty and at addresses that no page ever had
unfoldable pub lay_reopened : Space → Lay
lay_reopened s = record { ways = ways_renumbered s.ways; cells = s.cells }

-- a choice answers how many objects are to move, or why it chooses none
abbrev pub choice_in : Space → Result ℕ Fault
choice_in s =
    if not (wins_room s) then Err NoRoom
    else if not (has_addresses s) then Err AddressesSpent
    else Ok (length (chosen_objects s))

-- and leaves this: the colour of moves is good
abbrev pub with_choice_if : Space → Result ℕ Fault → Space
with_choice_if s (Ok count) = record (laid s (lay_chosen s)) {
  good = R;
  stage = Moved;
  still_to_move = chosen_objects s;
  has_choice = true;
}
with_choice_if s (Err fault) = s

abbrev pub with_choice : Space → Space
with_choice s = with_choice_if s (choice_in s)

-- an object has moved
abbrev pub moved_one : Space → ℕ → Space
moved_one s n = record (laid s (lay_moved s n)) { still_to_move = without_number s.still_to_move n }

-- an object that is still to move does so before it is handed out
abbrev pub brought : Space → Option ℕ → Space
brought s None = s
brought s (Some n) = if has s.still_to_move n then moved_one s n else s

-- a choice ends with its cycle: where objects lay before isn't told any more
abbrev pub with_choice_ended : Space → Space
with_choice_ended s = record (laid s (lay_reopened s)) { has_choice = false }

-- ---- a new heap

-- numbers begin at 1, and the addresses of the first pages are below 2^32
abbrev pub may_start : Config → Start → Bool
may_start config start =
    nat_le 1 start.obj && (nat_le 1 start.page && nat_le (start.page + page_count config.cells) (2 ^ 32))

abbrev pub starting_refusal : Config → Start → Option Fault
starting_refusal config start =
    if is_within_limits config && may_start config start then None else Some BadConfig

-- a heap in which nothing was made yet
abbrev pub first_ground : Config → ℕ → Start → Ground
first_ground config number start = record {
  heap = first_heap config number;
  next = start.obj;
  marked = [];
  tags = [];
  condemning = false;
  space = first_space config.cells start;
}

-- new is made, unless it is refused with just this fault, or memory isn't there
abbrev pub IsMade : {T : Type 0} → Option Fault → T → Result T Fault → Type 0
IsMade refusal new (Ok answer) = (refusal ≡ None) × (answer ≡ new)
IsMade None new (Err fault) = fault ≡ NoMemory
IsMade (Some first) new (Err fault) = fault ≡ first

-- ---- the condemned

-- whether there is such an object, and it isn't marked
abbrev pub is_unmarked : Ground → ℕ → Bool
is_unmarked g n = is_there g.heap.objects n && not (has g.marked n)

-- whether it is condemned
abbrev pub is_condemned : Ground → ℕ → Bool
is_condemned g n = g.condemning && is_unmarked g n

-- whether there is such an object, and it isn't condemned
abbrev pub is_spared : Ground → ℕ → Bool
is_spared g n = is_there g.heap.objects n && not (is_condemned g n)

-- a value names what is there and isn't condemned, if it names anything
abbrev pub IsSparedIfAny : Ground → Option ℕ → Type 0
IsSparedIfAny g None = Unit {0}
IsSparedIfAny g (Some n) = is_spared g n ≡ true

-- what an object names: what its fields hold, and its referent
abbrev pub named_in : Option Object → List ℕ
named_in o = present (fields_in o) ++ if_any (referent_of (reference_in o))

-- what a slot or a hold names passes a test, and so does what an object names that passes
pub record IsClosed (h : Heap) (passes : ℕ → Bool) : Type 0 where
  pub rooted : (n : ℕ) → has (present h.slots ++ h.holds) n ≡ true → passes n ≡ true
  pub closed : (m n : ℕ) → passes m ≡ true → has (named_in (object_at h.objects m)) n ≡ true → passes n ≡ true

-- what slots, holds and objects name is there, and isn't condemned
pub record NamesSpared (g : Ground) : Type 0 where
  pub rooted : (n : ℕ) → has (present g.heap.slots ++ g.heap.holds) n ≡ true → is_spared g n ≡ true
  pub named : (m n : ℕ) → has (named_in (object_at g.heap.objects m)) n ≡ true → is_spared g n ≡ true

-- ---- refusals

-- a call is refused with just this fault, or not at all
abbrev pub IsRefused : {T : Type 0} → Option Fault → Result T Fault → Type 0
IsRefused refusal (Ok answer) = refusal ≡ None
IsRefused refusal (Err fault) = refusal ≡ Some fault

-- a call that takes a hold is refused with just this fault, and gives the hold back, or not refused at all
abbrev pub GivesBack : {T : Type 0} → Option Fault → HoldName → Result T (Fault × HoldName) → Type 0
GivesBack refusal hold (Ok answer) = refusal ≡ None
GivesBack refusal hold (Err back) = (refusal ≡ Some back.0) × (back.1 ≡ hold)

-- there is such an object that isn't condemned, and its hold can be counted
abbrev pub mint_refusal : Ground → ℕ → Option Fault
mint_refusal g n = unless (is_spared g n) NoSuchObject (holds_refusal g.heap)

-- the slot holds an object, whose hold can be counted: none of a slot is condemned
abbrev pub holding_refusal : Ground → ℕ → ℕ → Option Fault
holding_refusal g m s = unless (has_slot g.heap m s) NoSuchActor (held_refusal g.heap (slot_at g.heap m s))

-- the hold is one of this heap, which counts it
abbrev pub release_refusal : Ground → HoldName → Option Fault
release_refusal g hold = returned_refusal g.heap hold

abbrev pub adopt_refusal : Ground → ℕ → ℕ → HoldName → Option Fault
adopt_refusal g m d hold = unless (has_slot g.heap m d) NoSuchActor (release_refusal g hold)

-- a hold of this heap, and of the object that is named
abbrev pub IsHoldOf : Ground → Option ℕ → HoldName → Type 0
IsHoldOf g named hold = (hold.heap_no ≡ g.heap.no) × (Some hold.object ≡ named)

-- ---- what is read

-- what an object is, by what it has as a reference
abbrev pub kind_by : Option Reference → Kind
kind_by None = kind.Plain
kind_by (Some r) = kind.Reference r.strength

-- what an object is, if there is one
abbrev pub kind_in : Option Object → Option Kind
kind_in None = None
kind_in (Some o) = Some (kind_by o.reference)

-- whether it is said that each word which object n holds has the good colour: a cycle was the last to make a colour
-- good, and has healed the object, or the object was made since
abbrev pub has_good_words : Space → ℕ → Bool
has_good_words s n = is_tuned s.stage && not (has s.unhealed n)

-- these are the bits of what field i of object n holds: of an object, a word of the cell in which that lies, or of that
-- from which it moved since a cycle last ended; it has the good colour where that is said
abbrev pub IsWordIn : Ground → ℕ → ℕ → ℕ → Type 0
IsWordIn g n i =
    IsWordHeld g.space.good g.space.ways g.space.cells (has_good_words g.space n)
    (slice_index_or (fields_in (object_at g.heap.objects n)) i None)

-- and these of what reference n has as its referent
abbrev pub IsWordOfReferent : Ground → ℕ → ℕ → Type 0
IsWordOfReferent g n =
    IsWordHeld g.space.good g.space.ways g.space.cells (has_good_words g.space n)
    (referent_of (reference_at g.heap n))

-- the clock at which a reference was made or last got, or 0
abbrev pub stamp_in : Option Reference → ℕ
stamp_in None = 0
stamp_in (Some r) = r.stamp

-- the cycle in which object n was cleared last: 0 where it never was, or isn't there
abbrev pub cleared_in_at : List Tag → ℕ → ℕ
cleared_in_at [] n = 0
cleared_in_at (t ∷ ts) n = if t.no == n then t.cleared_in else cleared_in_at ts n

-- the link of object n: 0 where it isn't there
abbrev pub link_at : List Tag → ℕ → ℕ
link_at [] n = 0
link_at (t ∷ ts) n = if t.no == n then t.link else link_at ts n

-- what a list has of object n
abbrev pub linked_in : Ground → ℕ → Linked
linked_in g n = record {
  no = n;
  reference = reference_at g.heap n;
  link = link_at g.tags n;
  cleared_in = cleared_in_at g.tags n;
}

-- the first of these numbers that is at least n: the least, where they are in order
abbrev pub least_from : List ℕ → ℕ → Option ℕ
least_from [] n = None
least_from (m ∷ ms) n = if nat_le n m then Some m else least_from ms n

-- every number is at least n
abbrev pub AllFrom : ℕ → List ℕ → Type 0
AllFrom n [] = Unit {0}
AllFrom n (m ∷ ms) = (n ≤ m) × AllFrom n ms

-- no number is less than one before it
abbrev pub IsInOrder : List ℕ → Type 0
IsInOrder [] = Unit {0}
IsInOrder (n ∷ ns) = AllFrom n ns × IsInOrder ns

-- ---- what calls leave

-- what is left after a call where it was accepted, and else what was there before
abbrev pub if_done : {T E S : Type 0} → Result T E → S → S → S
if_done (Ok answer) after before = after
if_done (Err fault) after before = before

abbrev pub ground_with_heap : Ground → Heap → Ground
ground_with_heap g heap = record g { heap = heap }

-- the tags with that of a new object n, which links to nothing and was never cleared
abbrev pub with_new_tag : List Tag → ℕ → List Tag
with_new_tag ts n = ts ++ record { no = n; link = 0; cleared_in = 0 } ∷ []

-- the tags but that of object n
abbrev pub without_tag : List Tag → ℕ → List Tag
without_tag = without_first (λ t. t.no)

-- the tags with that of object n changed
abbrev pub changed_tag : List Tag → ℕ → (Tag → Tag) → List Tag
changed_tag [] n change = []
changed_tag (t ∷ ts) n change = if t.no == n then change t ∷ ts else t ∷ changed_tag ts n change

-- object n was cleared in this cycle
abbrev pub with_cleared_tag : List Tag → ℕ → ℕ → List Tag
with_cleared_tag ts n cycle = changed_tag ts n (λ t. record t { cleared_in = cycle })

-- object n links to this
abbrev pub with_link : List Tag → ℕ → ℕ → List Tag
with_link ts n to = changed_tag ts n (λ t. record t { link = to })

-- the marks with that of a new object, which is marked from the start where what isn't is condemned
abbrev pub marks_with_new : Ground → ℕ → List ℕ
marks_with_new g n = if g.condemning then one_more g.marked n else g.marked

-- one more object, in the slot
abbrev pub with_new_object : Ground → ℕ → ℕ → Object → Ground
with_new_object g m d o = record g {
  heap = made g.heap m d o;
  next = g.next + 1;
  marked = marks_with_new g o.no;
  tags = with_new_tag g.tags o.no;
  space = occupied g.space o.no;
}

-- what is there and isn't condemned, and else null
abbrev pub spared_only : Ground → Option ℕ → Option ℕ
spared_only g None = None
spared_only g (Some n) = if is_spared g n then Some n else None

-- one more hold of what was minted
abbrev pub after_minting : Ground → Result HoldName Fault → Ground
after_minting g (Ok hold) = ground_with_heap g (with_hold g.heap hold.object)
after_minting g (Err fault) = g

-- ---- marks

-- the object of this number is marked, if there is one
abbrev pub ground_marked : Ground → ℕ → Ground
ground_marked g n = if is_unmarked g n then record g { marked = one_more g.marked n } else g

-- what a slot holds is marked, if it holds anything
abbrev pub ground_marked_if_any : Ground → Option ℕ → Ground
ground_marked_if_any g None = g
ground_marked_if_any g (Some n) = ground_marked g n

-- and what is marked anew so
abbrev pub newly_marked : Ground → Option ℕ → Option ℕ
newly_marked g None = None
newly_marked g (Some n) = if is_unmarked g n then Some n else None

-- what several slots hold is marked, in order
abbrev pub all_marked : Ground → List (Option ℕ) → Ground
all_marked g [] = g
all_marked g (value ∷ values) = all_marked (ground_marked_if_any g value) values

abbrev pub all_newly_marked : Ground → List (Option ℕ) → List ℕ
all_newly_marked g [] = []
all_newly_marked g (value ∷ values) =
    if_any (newly_marked g value) ++ all_newly_marked (ground_marked_if_any g value) values

-- what reads as null where it isn't marked, if that is to be hidden
abbrev pub read_as : Ground → Bool → Option ℕ → Option ℕ
read_as g hide None = None
read_as g hide (Some n) = if hide && is_unmarked g n then None else Some n

-- reference n answered this: if it is an object, that renews the stamp of a soft reference
abbrev pub renewed : Heap → ℕ → Option ℕ → Heap
renewed h n None = h
renewed h n (Some value) = with_changed h n (with_reference (got_at h.clock))

-- a reference is cleared, but one is spared whose referent isn't marked, if that is told
abbrev pub cut_but : Ground → Bool → ℕ → ℕ → Ground
cut_but g spare m s =
    if spare && refers_into (is_unmarked g) (reference_of g.heap (slot_at g.heap m s))
    then g
    else ground_with_heap g (cut g.heap m s)

-- a look at object n: it clears a reference to an object that isn't marked
abbrev pub look_of : Ground → ℕ → Look
look_of g n = record { was = linked_in g n; is_cleared = refers_into (is_unmarked g) (reference_at g.heap n) }

-- what it leaves, in this cycle
abbrev pub ground_looked_at : Ground → ℕ → ℕ → Ground
ground_looked_at g n cycle =
    if (look_of g n).is_cleared
    then record g {
      heap = with_changed g.heap n (with_reference cleared);
      tags = with_cleared_tag g.tags n cycle;
    }
    else g

-- a cycle begins: no object is marked, none condemned, this colour is good, and none is healed
abbrev pub marks_begun : Ground → Colour → Ground
marks_begun g good = record g {
  marked = [];
  condemning = false;
  space = coloured_anew g.space good (numbers g.heap.objects);
}

-- what is handed out has moved first, where it was still to move
abbrev pub ground_brought : Ground → Option ℕ → Ground
ground_brought g value = record g { space = brought g.space value }

-- each word of an object has the good colour
abbrev pub ground_healed : Ground → ℕ → Ground
ground_healed g n = record g { space = healed g.space n }

-- object n is scanned: what its fields hold is marked, and the referent that it keeps, and it is healed
abbrev pub ground_scanned : (Reference → Bool) → Ground → ℕ → Ground
ground_scanned keeps g n = ground_healed (all_marked g (scanned_values keeps (object_at g.heap.objects n))) n

-- a list has room for each object that there is, and no more stand in it than are marked
pub record MayGrow (g : Ground) (l : Worklist) : Type 0 where
  pub room : length g.heap.objects ≤ l.room
  pub marked : length l.stands ≤ length g.marked

-- the numbers of the objects that aren't marked, in order
abbrev pub unmarked : List Object → List ℕ → List ℕ
unmarked [] marked = []
unmarked (o ∷ os) marked = if has marked o.no then unmarked os marked else o.no ∷ unmarked os marked

-- what isn't marked is condemned: it reads as referring to nothing
abbrev pub with_condemned : Ground → Ground
with_condemned g =
    record g { heap = heap_but (unmarked g.heap.objects g.marked) g.heap; condemning = true }

-- nothing is condemned any more
abbrev pub with_none_condemned : Ground → Ground
with_none_condemned g = record g { condemning = false }

-- a condemned object goes, its tag with it, and its cell is free
abbrev pub after_freeing : Ground → ℕ → Ground
after_freeing g n =
    if is_condemned g n
    then record g {
      heap = record g.heap { objects = without (n ∷ []) g.heap.objects };
      tags = without_tag g.tags n;
      space = vacated g.space n;
    }
    else g

-- ---- what holds at all times

-- objects and slots are in order, and so are the holds; there are at most as many objects as cells, and marks as
-- objects; what is marked is there, and what is unhealed; each object has its tag; what slots, holds and objects name
-- is spared; each object lies in one cell and in no other; and of open pages just those cells are taken in which an
-- object lies, or which are reserved for one that is still to move, of chosen ones those in which an object lies
pub record IsWellFormed (g : Ground) : Type 0 where
  pub orderly : IsOrderly g.heap g.next
  pub held : IsInOrder g.heap.holds
  pub few : length g.heap.objects ≤ g.heap.config.cells
  pub marks : length g.marked ≤ length g.heap.objects
  pub marked : (n : ℕ) → has g.marked n ≡ true → is_there g.heap.objects n ≡ true
  pub unhealed : (n : ℕ) → has g.space.unhealed n ≡ true → is_there g.heap.objects n ≡ true
  pub tagged : map (λ t. t.no) g.tags ≡ numbers g.heap.objects
  pub closed : NamesSpared g
  pub lies : LieOnce g.space.cells (is_there g.heap.objects)
  pub free : AreFree (map is_none g.space.cells) g.space.ways.forwards g.space.ways.pages.uses
