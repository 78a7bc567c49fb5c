-- The heap's table of objects, as plain data, and the changes that calls make to it (package `java.lang.ref` of Java SE
-- 17; numbers, holds and a heap's room: this project's profile).
use Rattle.std.specs.Prelude.{◌≡◌, ℕ, suc, ◌+◌, ◌-◌, ◌*◌, ◌/◌, ◌%◌, ◌^◌, ◌≤◌, Bool, true, false, not, ◌==◌, ◌&&◌, ◌||◌}
use Rattle.std.specs.Prelude.{if◌then◌else◌}
use Rattle.std.specs.Prelude.{nat_le, nat_lt}
use Rattle.std.specs.Prelude.{List, [], ◌∷◌, ◌++◌, length, map, replicate, Option, Some, None}
use Rattle.std.specs.Prelude.{slice_index_or, slice_set}
use Rattle.std.specs.Int.{from_bool}
use Rattle.ref_base.specs.CollectorRows.{referent_of}
use Rattle.ref_base.specs.Paths.{if_any, present}
use Rattle.ref_space.specs.declared.kept.NewReference.{NewReference}
use Rattle.ref_base.specs.Members.{has, without_first}
use Rattle.ref_base.specs.Graphs.{Object, Reference, numbers}
use Rattle.ref_base.specs.Forgetting.{blanked}
use Rattle.ref_base.specs.DoomedSets.{refers_into}
use Rattle.ref_base.specs.Strengths.{IsRising}
use Rattle.ref_base.specs.Heaps.{reference_in, with_reference, with_stamp, cleared}
use Rattle.ref_space.specs.declared.cell.Change.{Change}
use Rattle.ref_space.specs.declared.colour.Colour.{Colour}
use Rattle.ref_space.specs.declared.round.Round.{Round}
use Rattle.ref_space.specs.declared.word_name.WordName.{WordName}
use Rattle.ref_space.specs.declared.colour.Colour.TheVariants.{R}
use Rattle.ref_space.specs.declared.cell.Change.TheVariants.{Cut, Stamp, ClearedIn, ClearIn, Link}
use Rattle.ref_space.specs.declared.linked.Linked.{Linked}
use Rattle.ref_space.specs.declared.linked.Look.{Look}
use Rattle.ref_base.specs.declared.fault.Fault.{Fault}
use Rattle.ref_space.specs.Pages.{with_placed, with_given, next_cell, place_in_frame, choose_refusal, left_in}
use Rattle.ref_space.specs.Moves.{Ways, first_ways, forward_of, ways_chosen, ways_left, ways_renumbered}
use Rattle.ref_space.specs.Worklists.{Worklist}
use Rattle.ref_space.specs.Moves.{tuned}
use Rattle.ref_space.specs.ColouredWords.{is_in_colour}

-- an object of the table, how many holds of it are out, the round in which it was marked last, and that in which it was
-- healed last, so that each word that it holds had the colour that was good then, 0 where it never was; its link, which
-- is the number of another object or 0, and the cycle in which a worker cleared it last, or 0
pub record Tabled : Type 0 where
  pub object : Object
  pub holds : ℕ
  pub marked_in : ℕ
  pub healed_in : ℕ
  pub link : ℕ
  pub cleared_in : ℕ

-- a round of a table: its number, the colour that is good in it, and the word that a load or a get read last. That one
-- is null or has the good colour where it stands, so it is none once a colour was made good, or a word was written that
-- may have another
pub record RoundView : Type 0 where
  pub number : ℕ
  pub good : Colour
  pub read : Option WordName

-- a round that goes on, with the word that was read last in it
abbrev pub round_of : Round → Option WordName → RoundView
round_of round read = record { number = round.number; good = round.good; read = read }

-- where this word of object n was read last, that of a field, or without one that of its referent, it passes a test
abbrev pub IfRead : RoundView → ℕ → Option ℕ → Bool → Type 0
IfRead round n field passes = round.read ≡ Some (record { no = n; field = field }) → passes ≡ true

-- the objects that there are, in order of number, how many there may be, the greatest number that was ever given, and
-- what each slot holds, an object or null; where the objects lie: the pages, and of each cell, by place, the number of
-- its object, the cells of frame f at the places from 64 * f on; and the round that goes on
pub record Table : Type 0 where
  pub tabled : List Tabled
  pub room : ℕ
  pub last : ℕ
  pub slots : List (Option ℕ)
  pub ways : Ways
  pub occupants : List (Option ℕ)
  pub round : RoundView

-- a table of no objects, with so many slots, each empty, in pages of 64 cells from this address on: twice as many as
-- the objects fill, so that there is room for what moves
abbrev pub empty_table : ℕ → ℕ → ℕ → Table
empty_table room slots first = record {
  tabled = [];
  room = room;
  last = 0;
  slots = replicate slots None;
  ways = first_ways first (2 * ((room + 63) / 64));
  occupants = replicate (64 * (2 * ((room + 63) / 64))) None;
  round = record { number = 1; good = R; read = None };
}

-- ---- what is read

-- whether an object is marked, and whether it is healed, in this round
abbrev pub is_marked : ℕ → Tabled → Bool
is_marked round k = k.marked_in == round

abbrev pub is_healed : ℕ → Tabled → Bool
is_healed round k = k.healed_in == round

-- what an object holds: its referent, and its fields
abbrev pub values_in : Tabled → List (Option ℕ)
values_in k = referent_of k.object.reference ∷ k.object.fields

-- the object of number n
abbrev pub tabled_at : List Tabled → ℕ → Option Tabled
tabled_at [] n = None
tabled_at (k ∷ ks) n = if k.object.no == n then Some k else tabled_at ks n

-- the objects without their holds
abbrev pub objects_of : List Tabled → List Object
objects_of = map (λ k. k.object)

-- each object's number as often as a count says, in order of number
abbrev pub numbers_by : (Tabled → ℕ) → List Tabled → List ℕ
numbers_by count [] = []
numbers_by count (k ∷ ks) = replicate (count k) k.object.no ++ numbers_by count ks

-- the count of an object: 0 where there is none
abbrev pub counted_in : (Tabled → ℕ) → Option Tabled → ℕ
counted_in count None = 0
counted_in count (Some k) = count k

-- each object's number as often as it is held, in order of number
abbrev pub holds_of : List Tabled → List ℕ
holds_of = numbers_by (λ k. k.holds)

-- an object of the table as a graph has it
abbrev pub object_in : Option Tabled → Option Object
object_in None = None
object_in (Some k) = Some k.object

-- the fields of an object, if there is one
abbrev pub fields_in : Option Object → List (Option ℕ)
fields_in None = []
fields_in (Some o) = o.fields

-- its fields, if there is one
abbrev pub tabled_fields : Option Tabled → List (Option ℕ)
tabled_fields k = fields_in (object_in k)

-- what the object has as a reference, if there is one and it is a reference
abbrev pub tabled_reference : Option Tabled → Option Reference
tabled_reference k = reference_in (object_in k)

-- whether there is an object that has field i
abbrev pub has_field : Option Tabled → ℕ → Bool
has_field None i = false
has_field (Some k) i = nat_lt i (length k.object.fields)

-- how often the object is held: 0 where there is none
abbrev pub holds_in : Option Tabled → ℕ
holds_in = counted_in (λ k. k.holds)

-- the first number from n on of an object that passes a test
abbrev pub first_where : (Tabled → Bool) → List Tabled → ℕ → Option ℕ
first_where passes [] n = None
first_where passes (k ∷ ks) n =
    if nat_le n k.object.no && passes k then Some k.object.no else first_where passes ks n

-- the first number from n on
abbrev pub first_from : List Tabled → ℕ → Option ℕ
first_from = first_where (λ k. true)

-- the first number from n on of an object that is held
abbrev pub held_from : List Tabled → ℕ → Option ℕ
held_from = first_where (λ k. nat_lt 0 k.holds)

-- no number is above the last
abbrev pub AllUpTo : ℕ → List ℕ → Type 0
AllUpTo last [] = Unit {0}
AllUpTo last (n ∷ ns) = (n ≤ last) × AllUpTo last ns

-- no object was marked or healed in a later round
abbrev pub AllDated : ℕ → List Tabled → Type 0
AllDated round [] = Unit {0}
AllDated round (k ∷ ks) = (k.marked_in ≤ round) × (k.healed_in ≤ round) × AllDated round ks

-- what holds of every table: the numbers rise, none is above the last that was given, the objects have room, and none
-- was marked or healed in a later round than the one that goes on, which has a number
pub record IsOrderlyTable (t : Table) : Type 0 where
  pub rising : IsRising (numbers (objects_of t.tabled))
  pub given : AllUpTo t.last (numbers (objects_of t.tabled))
  pub few : length t.tabled ≤ t.room
  pub begun : 1 ≤ t.round.number
  pub dated : AllDated t.round.number t.tabled

-- ---- what is changed

-- the objects with the one of number n changed
abbrev pub changed_tabled : List Tabled → ℕ → (Tabled → Tabled) → List Tabled
changed_tabled [] n f = []
changed_tabled (k ∷ ks) n f = if k.object.no == n then f k ∷ ks else k ∷ changed_tabled ks n f

-- the objects but the one of number n
abbrev pub without_tabled : List Tabled → ℕ → List Tabled
without_tabled = without_first (λ k. k.object.no)

-- a change of the object, and not of its holds
abbrev pub on_object : (Object → Object) → Tabled → Tabled
on_object f k = record k { object = f k.object }

-- one more hold
abbrev pub more_held : Tabled → Tabled
more_held k = record k { holds = k.holds + 1 }

-- whether there is an object, and it is marked where it has to be
abbrev pub may_hold : ℕ → Bool → Option Tabled → Bool
may_hold round if_marked None = false
may_hold round if_marked (Some k) = is_marked round k || not if_marked

-- one more hold then
abbrev pub more_held_if : ℕ → Bool → Tabled → Tabled
more_held_if round if_marked k = if is_marked round k || not if_marked then more_held k else k

-- one hold fewer, where there is one
abbrev pub less_held : Tabled → Tabled
less_held k = record k { holds = k.holds - 1 }

-- the table with the object of number n changed
abbrev pub changed : Table → ℕ → (Tabled → Tabled) → Table
changed t n f = record t { tabled = changed_tabled t.tabled n f }

-- whether a cell's object is that of number n
abbrev pub is_number : Option ℕ → ℕ → Bool
is_number None n = false
is_number (Some m) n = m == n

-- a new object gets the cell at which the next is placed, and the cell of one that goes is free
abbrev pub with_occupant : List (Option ℕ) → Option (ℕ × ℕ) → ℕ → List (Option ℕ)
with_occupant os None n = os
with_occupant os (Some at) n = slice_set os (place_in_frame at) (Some n)

abbrev pub without_occupant : List (Option ℕ) → ℕ → List (Option ℕ)
without_occupant [] n = []
without_occupant (o ∷ os) n = (if is_number o n then None else o) ∷ without_occupant os n

-- the place of the cell of the object of number n: how many there are where it lies nowhere
abbrev pub place_of_number : List (Option ℕ) → ℕ → ℕ
place_of_number [] n = 0
place_of_number (o ∷ os) n = if is_number o n then 0 else suc (place_of_number os n)

-- the pages once that cell is given back
abbrev pub with_vacated : Ways → List (Option ℕ) → ℕ → Ways
with_vacated ways os n =
    record ways { pages = with_given ways.pages (place_of_number os n / 64) (place_of_number os n % 64) }

-- and once an object was placed
abbrev pub ways_placed : Ways → Ways
ways_placed ways = record ways { pages = with_placed ways.pages }

-- the table without the object of number n
abbrev pub without_object : Table → ℕ → Table
without_object t n =
    record t {
      tabled = without_tabled t.tabled n;
      ways = with_vacated t.ways t.occupants n;
      occupants = without_occupant t.occupants n;
    }

-- an object that nobody holds, without a link, never cleared and of so many null fields: it is healed
abbrev pub made_entry : ℕ → ℕ → ℕ → Option Reference → Bool → Tabled
made_entry round n count reference marked = record {
  object = record { no = n; fields = replicate count None; reference = reference };
  holds = 0;
  marked_in = if marked then round else 0;
  healed_in = round;
  link = 0;
  cleared_in = 0;
}

-- the table with one more object, whose number is the greatest; the slot at this place holds it
abbrev pub with_tabled : Table → ℕ → Tabled → Table
with_tabled t into k = record t {
  tabled = t.tabled ++ k ∷ [];
  last = k.object.no;
  slots = slice_set t.slots into (Some k.object.no);
  ways = ways_placed t.ways;
  occupants = with_occupant t.occupants (next_cell t.ways.pages.uses) k.object.no;
}

-- ---- marks

-- whether there is an object, and it is marked
abbrev pub is_marked_in : ℕ → Option Tabled → Bool
is_marked_in round None = false
is_marked_in round (Some k) = is_marked round k

-- whether there is an object, and it isn't marked
abbrev pub is_unmarked_in : ℕ → Option Tabled → Bool
is_unmarked_in round None = false
is_unmarked_in round (Some k) = not (is_marked round k)

-- the number of an object that isn't marked
abbrev pub anew_in : ℕ → Option Tabled → Option ℕ
anew_in round None = None
anew_in round (Some k) = if is_marked round k then None else Some k.object.no

-- the numbers of the objects that are marked, in order
abbrev pub marked_of : ℕ → List Tabled → List ℕ
marked_of round = numbers_by (λ k. from_bool (is_marked round k))

-- and of those that aren't
abbrev pub unmarked_of : ℕ → List Tabled → List ℕ
unmarked_of round = numbers_by (λ k. from_bool (not (is_marked round k)))

-- marked in this round
abbrev pub with_marked : ℕ → Tabled → Tabled
with_marked round k = record k { marked_in = round }

-- healed in this round
abbrev pub with_healed : ℕ → Tabled → Tabled
with_healed round k = record k { healed_in = round }

-- whether there is an object, and it is healed
abbrev pub is_healed_in : ℕ → Option Tabled → Bool
is_healed_in round None = false
is_healed_in round (Some k) = is_healed round k

-- as if it had never been marked or healed
abbrev pub with_nothing_done : Tabled → Tabled
with_nothing_done k = record k { marked_in = 0; healed_in = 0 }

-- and of those that aren't healed
abbrev pub unhealed_of : ℕ → List Tabled → List ℕ
unhealed_of round = numbers_by (λ k. from_bool (not (is_healed round k)))

-- pages were chosen, and what lies there is to move: the colour of moves is good
abbrev pub selected_unless : Option Fault → Table → Table
selected_unless None t =
    record t { ways = ways_chosen t.ways t.round.good; round = record t.round { good = R; read = None } }
selected_unless (Some fault) t = t

abbrev pub table_selected : Table → Table
table_selected t = selected_unless (choose_refusal t.ways.pages) t

-- the chosen pages are empty, and get new addresses
abbrev pub table_renumbered : Table → Table
table_renumbered t = record t { ways = ways_renumbered t.ways }

-- the numbers without n
abbrev pub without_number : List ℕ → ℕ → List ℕ
without_number [] n = []
without_number (m ∷ ms) n = if m == n then without_number ms n else m ∷ without_number ms n

abbrev pub without_if_any : List ℕ → Option ℕ → List ℕ
without_if_any ms None = ms
without_if_any ms (Some n) = without_number ms n

-- the numbers of the objects at these places, in order
abbrev pub numbers_at : List (Option ℕ) → List ℕ → List ℕ
numbers_at os [] = []
numbers_at os (place ∷ places) = if_any (slice_index_or os place None) ++ numbers_at os places

-- those that are still to move, in order
abbrev pub left_of : Table → List ℕ
left_of t = numbers_at t.occupants (left_in t.ways.pages.uses)

-- what lies at this place has moved to where it was to go
abbrev pub moved_from : Table → ℕ → Table
moved_from t from = record t {
  ways = ways_left t.ways from;
  occupants = slice_set
      (slice_set t.occupants (forward_of t.ways.forwards from) (slice_index_or t.occupants from None)) from None;
}

-- an object that is still to move has moved
abbrev pub brought : Table → Option ℕ → Table
brought t None = t
brought t (Some n) = if has (left_of t) n then moved_from t (place_of_number t.occupants n) else t

-- the table as a round begins, in which this colour is good: numbers of rounds begin anew once they are spent
abbrev pub table_begun : Table → Colour → Table
table_begun t good =
    if nat_lt t.round.number (2 ^ 8 - 1)
    then record t { ways = tuned t.ways; round = record { number = t.round.number + 1; good = good; read = None } }
    else record t {
      tabled = map with_nothing_done t.tabled;
      ways = tuned t.ways;
      round = record { number = 1; good = good; read = None };
    }

-- the table without the object of number n, where that isn't marked
abbrev pub table_freed : Table → ℕ → Table
table_freed t n = if is_unmarked_in t.round.number (tabled_at t.tabled n) then without_object t n else t

-- an object that refers to nothing, unless it is marked
abbrev pub blanked_unless_marked : ℕ → Tabled → Tabled
blanked_unless_marked round k = if is_marked round k then k else on_object blanked k

-- the table with each object so
abbrev pub table_blanked : Table → Table
table_blanked t = record t { tabled = map (blanked_unless_marked t.round.number) t.tabled }

-- ---- tags

-- what a heap knows of an object that the model doesn't: of that of this number, its link, which is the number of the
-- object behind it in the list that it stands in, or 0, and the cycle in which a worker cleared it last, or 0
pub record Tag : Type 0 where
  pub no : ℕ
  pub link : ℕ
  pub cleared_in : ℕ

-- an object's tag
abbrev pub tag_of : Tabled → Tag
tag_of k = record { no = k.object.no; link = k.link; cleared_in = k.cleared_in }

-- the tag of each object, in order
abbrev pub tags_of : List Tabled → List Tag
tags_of = map tag_of

-- the cycle in which the object was cleared last: 0 where there is none
abbrev pub tabled_cleared_in : Option Tabled → ℕ
tabled_cleared_in None = 0
tabled_cleared_in (Some k) = k.cleared_in

-- the object's link: 0 where there is none
abbrev pub tabled_link : Option Tabled → ℕ
tabled_link None = 0
tabled_link (Some k) = k.link

-- what a list has of the object of number n
abbrev pub tabled_linked : ℕ → Option Tabled → Linked
tabled_linked n k = record {
  no = n;
  reference = tabled_reference k;
  link = tabled_link k;
  cleared_in = tabled_cleared_in k;
}

-- what is written of an object
abbrev pub change_of : Change → Tabled → Tabled
change_of Cut k = on_object (with_reference cleared) k
change_of (Stamp stamp) k = on_object (with_reference (with_stamp stamp)) k
change_of (ClearedIn cycle) k = record k { cleared_in = cycle }
change_of (ClearIn cycle) k = record k { object = with_reference cleared k.object; cleared_in = cycle }
change_of (Link to) k = record k { link = to }

-- ---- looks

-- whether there is an object of number n, and it isn't marked
abbrev pub is_unmarked_at : ℕ → List Tabled → ℕ → Bool
is_unmarked_at round ks n = is_unmarked_in round (tabled_at ks n)

-- a look at an object of this number: it clears a reference to an object that isn't marked
abbrev pub look_by : ℕ → List Tabled → ℕ → Option Tabled → Look
look_by round ks n k =
    record { was = tabled_linked n k; is_cleared = refers_into (is_unmarked_at round ks) (tabled_reference k) }

abbrev pub table_look : Table → ℕ → Look
table_look t n = look_by t.round.number t.tabled n (tabled_at t.tabled n)

-- what it leaves
abbrev pub table_looked_at : Table → ℕ → ℕ → Table
table_looked_at t n cycle =
    if (table_look t n).is_cleared then changed t n (change_of (ClearIn cycle)) else t

-- ---- slots

-- what the slot at this place holds
abbrev pub held_at : Table → ℕ → Option ℕ
held_at t place = slice_index_or t.slots place None

-- the slot at this place holds this
abbrev pub slotted : Table → ℕ → Option ℕ → Table
slotted t place value = record t { slots = slice_set t.slots place value }

-- the object of a number, if it is one
abbrev pub tabled_if : List Tabled → Option ℕ → Option Tabled
tabled_if ks None = None
tabled_if ks (Some n) = tabled_at ks n

-- the object that the slot at this place holds
abbrev pub tabled_held : Table → ℕ → Option Tabled
tabled_held t place = tabled_if t.tabled (held_at t place)

-- the table with the object of a number changed, if it is one
abbrev pub changed_if : Table → Option ℕ → (Tabled → Tabled) → Table
changed_if t None f = t
changed_if t (Some n) f = changed t n f

-- the table with the object changed that the slot at this place holds
abbrev pub changed_held : Table → ℕ → (Tabled → Tabled) → Table
changed_held t place f = changed_if t (held_at t place) f

-- what field i of an object holds: null where there is no such field
abbrev pub field_held : Option Tabled → ℕ → Option ℕ
field_held k i = slice_index_or (tabled_fields k) i None

-- what field i of an object holds, where there is such a field
abbrev pub field_in_cell : Option Tabled → ℕ → Option (Option ℕ)
field_in_cell k i = if has_field k i then Some (field_held k i) else None

-- ---- the word that was read last

-- the table in which it is this one
abbrev pub with_read : Table → Option WordName → Table
with_read t word = record t { round = record t.round { read = word } }

-- or none
abbrev pub with_none_read : Table → Table
with_none_read t = with_read t None

-- the name of a word of an object, if there is one: that of a field, or without one that of its referent
abbrev pub word_name : Option ℕ → Option ℕ → Option WordName
word_name None field = None
word_name (Some n) field = Some (record { no = n; field = field })

-- that word of an object: null where there is no such field
abbrev pub word_in : Option ℕ → Object → Option ℕ
word_in None o = referent_of o.reference
word_in (Some field) o = slice_index_or o.fields field None

-- what was read last once a word of this name is read: that word, if it is null or has the good colour
abbrev pub read_if_good : RoundView → Option WordName → Option (Option ℕ) → Option WordName
read_if_good round name None = round.read
read_if_good round name (Some value) = if is_in_colour round.good value then name else round.read

-- the referent of the reference that the slot at this place holds: null where it is cleared, or there is no reference
abbrev pub referent_held : Table → ℕ → Option ℕ
referent_held t place = referent_of (tabled_reference (tabled_held t place))

-- the table once another slot holds that: its object has moved, and its word is the one that was read last
abbrev pub table_got : Table → ℕ → ℕ → Table
table_got t into from =
    slotted (brought (with_read t (word_name (held_at t from) None)) (referent_held t from)) into (referent_held t from)

-- a new reference, by what slots hold
abbrev pub made_of : List (Option ℕ) → NewReference → Reference
made_of slots r =
    record { strength = r.strength; referent = slice_index_or slots r.from None; stamp = r.stamp; queue = r.queue }

-- ---- marks of several objects, in order

abbrev pub marked_if : Table → Option ℕ → Table
marked_if t value = changed_if t value (with_marked t.round.number)

-- what is marked anew so
abbrev pub anew_if : Table → Option ℕ → Option ℕ
anew_if t None = None
anew_if t (Some n) = if is_unmarked_in t.round.number (tabled_at t.tabled n) then Some n else None

abbrev pub marked_each : Table → List (Option ℕ) → Table
marked_each t [] = t
marked_each t (value ∷ values) = marked_each (marked_if t value) values

abbrev pub anew_each : Table → List (Option ℕ) → List ℕ
anew_each t [] = []
anew_each t (value ∷ values) = if_any (anew_if t value) ++ anew_each (marked_if t value) values

-- each word of the object of number n has the good colour
abbrev pub table_healed : Table → ℕ → Table
table_healed t n = changed t n (with_healed t.round.number)

-- what a reference has as its referent where it keeps that
abbrev pub kept_value : (Reference → Bool) → Option Reference → List (Option ℕ)
kept_value keeps None = []
kept_value keeps (Some r) = if keeps r then r.referent ∷ [] else []

-- what a scan of an object marks: what its fields hold, and the referent that it keeps
abbrev pub scanned_values : (Reference → Bool) → Option Object → List (Option ℕ)
scanned_values keeps o = fields_in o ++ kept_value keeps (reference_in o)

-- the object of number n is scanned: that is marked, and it is healed
abbrev pub table_scanned : (Reference → Bool) → Table → ℕ → Table
table_scanned keeps t n = table_healed (marked_each t (scanned_values keeps (object_in (tabled_at t.tabled n)))) n

-- a list has room for each object that there is, and no more stand in it than are marked
pub record MayList (t : Table) (l : Worklist) : Type 0 where
  pub room : length t.tabled ≤ l.room
  pub marked : length l.stands ≤ length (marked_of t.round.number t.tabled)

-- the object of number n lies at this place
abbrev pub LiesAt : Table → ℕ → ℕ → Type 0
LiesAt t n place = slice_index_or t.occupants place None ≡ Some n

-- Each object that is there lies in one cell and in no other, and what lies in a cell is there. Of each cell, by place,
-- the number of its object is told.
pub record LieOnce (os : List (Option ℕ)) (is_there : ℕ → Bool) : Type 0 where
  pub lies : (n : ℕ) → is_there n ≡ true → (place : ℕ) × (slice_index_or os place None ≡ Some n)
  pub there : (place n : ℕ) → slice_index_or os place None ≡ Some n → is_there n ≡ true
  pub once : (one other n : ℕ) → slice_index_or os one None ≡ Some n → slice_index_or os other None ≡ Some n
      → one ≡ other

-- ---- names

-- neither a slot nor an object, by a field or as its referent, names number n
abbrev pub NoneNames : List Tabled → ℕ → Type 0
NoneNames [] n = Unit {0}
NoneNames (k ∷ ks) n = (has (present (values_in k)) n ≡ false) × NoneNames ks n

pub record IsUnnamed (t : Table) (n : ℕ) : Type 0 where
  pub slots : has (present t.slots) n ≡ false
  pub objects : NoneNames t.tabled n
