-- Which object a word leads to (JEP 333, ZGC: a coloured pointer leads to its object's address), and objects that hold
-- words as objects that hold numbers.
use Rattle.std.specs.Prelude.{◌≡◌, ℕ, Bool, true, false, List, [], ◌∷◌, map, Option, Some, None, ◌||◌, ◌&&◌, not, ◌+◌}
use Rattle.std.specs.Prelude.{◌*◌, ◌/◌, ◌≤◌}
use Rattle.std.specs.Prelude.{slice_index_or, if◌then◌else◌}
use Rattle.std.specs.Option.{option_map, is_none, is_some}
use Rattle.ref_base.specs.Graphs.{Object, Reference}
use Rattle.ref_space.specs.ColouredWords.{place_by, parts_of, is_word, has_colour, word_of_place, bits_at}
use Rattle.ref_space.specs.ColouredWords.{is_in_colour}
use Rattle.ref_space.specs.declared.colour.Colour.{Colour}
use Rattle.ref_space.specs.Pages.{Use, use_of, is_chosen_place}
use Rattle.ref_space.specs.Moves.{Ways, forward_of}
use Rattle.ref_space.specs.Tables.{Tabled, Table, is_healed, on_object, values_in, tabled_if, changed_if}
use Rattle.ref_space.specs.Tables.{referent_held, held_at, with_read, word_name, read_if_good}

-- ---- cells

-- the number of the object that a cell holds
abbrev pub occupant_in : Option Tabled → Option ℕ
occupant_in None = None
occupant_in (Some k) = Some k.object.no

-- and of each cell, by place
abbrev pub occupants_of : List (Option Tabled) → List (Option ℕ)
occupants_of = map occupant_in

-- ---- what a word leads to

-- the number of the object at a place, if any
abbrev pub occupant_at : List (Option ℕ) → Option ℕ → Option ℕ
occupant_at os None = None
occupant_at os (Some place) = slice_index_or os place None

-- where what a place leads to lies: there, or where it moved
abbrev pub way_from : Ways → List (Option ℕ) → ℕ → ℕ
way_from ways os place =
    if is_some (slice_index_or os place None) then place else forward_of ways.forwards place

abbrev pub way_of : Ways → List (Option ℕ) → Option ℕ → Option ℕ
way_of ways os None = None
way_of ways os (Some place) = Some (way_from ways os place)

-- the number of the object that a word leads to: none of null. By the number of the object of each cell
abbrev pub target_by : Ways → List (Option ℕ) → Option ℕ → Option ℕ
target_by ways os value = occupant_at os (way_of ways os (place_by value))

abbrev pub target_of : Table → Option ℕ → Option ℕ
target_of t value = target_by t.ways t.occupants value

-- an object lies there that needn't move
abbrev pub stays_at : Ways → List (Option ℕ) → ℕ → Bool
stays_at ways os place =
    is_some (slice_index_or os place None) && not (is_chosen_place ways.pages.uses place)

-- or one that lay there when pages were chosen: it is still to move, or it has moved
abbrev pub moves_from : Ways → List (Option ℕ) → ℕ → Bool
moves_from ways os place =
    is_chosen_place ways.pages.uses place
    && (is_some (slice_index_or os place None) || stays_at ways os (forward_of ways.forwards place))

-- a word of a place leads to an object: one that has another colour than those from before pages were chosen leads to
-- it where it lies
abbrev pub leads_from : Ways → List (Option ℕ) → Bool → Option ℕ → Bool
leads_from ways os is_last None = false
leads_from ways os is_last (Some place) = stays_at ways os place || (is_last && moves_from ways os place)

-- the object that it leads to
abbrev pub tabled_of : Table → Option ℕ → Option Tabled
tabled_of t value = tabled_if t.tabled (target_of t value)

-- the table with that changed
abbrev pub changed_of : Table → Option ℕ → (Tabled → Tabled) → Table
changed_of t value f = changed_if t (target_of t value) f

-- the word of the place where what a word leads to lies, in this colour: null where nothing lies there
abbrev pub word_there : Colour → Option ℕ → Option ℕ
word_there colour None = None
word_there colour (Some place) = word_of_place colour place

abbrev pub taken_way : Ways → List (Option ℕ) → Option ℕ → Option ℕ
taken_way ways os None = None
taken_way ways os (Some place) =
    if is_some (slice_index_or os (way_from ways os place) None) then Some (way_from ways os place) else None

abbrev pub healed_word : Colour → Ways → List (Option ℕ) → Option ℕ → Option ℕ
healed_word colour ways os value = word_there colour (taken_way ways os (place_by value))

-- nothing is still to move
abbrev pub IsSettled : Ways → List (Option ℕ) → Type 0
IsSettled ways os =
    (place : ℕ) → is_chosen_place ways.pages.uses place ≡ true → is_some (slice_index_or os place None) ≡ false

-- whether it is null, or a word that leads to an object, and has the good colour where it has to
abbrev pub leads_by : Colour → Ways → List (Option ℕ) → Bool → Option ℕ → Bool
leads_by good ways os has_to value =
    is_none value
    || (leads_from ways os (has_colour ways.last value) (place_by value)
    && (is_word value && (not (has_to && ways.tuned) || has_colour good value)))

abbrev pub HasTarget : Table → Option ℕ → Type 0
HasTarget t value = leads_by t.round.good t.ways t.occupants false value ≡ true

-- the value is null, or leads to an object, and then has the good colour where the table is tuned
abbrev pub IsHealed : Table → Option ℕ → Type 0
IsHealed t value = leads_by t.round.good t.ways t.occupants true value ≡ true

-- a word was read of the reference in the slot at this place: it leads to the referent, or is null where that is none.
-- It is the one that was read last, where it is null or has the good colour
pub record IsReferentRead (t : Table) (place : ℕ) (word : Option ℕ) : Type 0 where
  pub led : HasTarget t word
  pub held : target_of t word ≡ referent_held t place
  pub read : t ≡ with_read t (read_if_good t.round (word_name (held_at t place) None) (Some word))

-- the value is null, or has this colour
abbrev pub IsInColour : Colour → Option ℕ → Type 0
IsInColour colour value = is_in_colour colour value ≡ true

-- these are the bits of a word of an object, of the cell in which it lies or of that from which it moved, 64 to the
-- frame of each page: with the address of that page, and of the good colour where it has to be
pub record IsWordOfObject (good : Colour) (ways : Ways) (os : List (Option ℕ)) (has_to : Bool) (n bits : ℕ)
    : Type 0 where
  pub colour : Colour
  pub frame : ℕ
  pub cell : ℕ
  pub parts : parts_of bits ≡ Some (colour, (use_of ways.pages.uses frame).address, cell)
  pub lies : slice_index_or os (way_from ways os (64 * frame + cell)) None ≡ Some n
  pub healed : (has_to && ways.tuned) ≡ true → colour ≡ good

-- the bits of what is held, an object or null
abbrev pub IsWordHeld : Colour → Ways → List (Option ℕ) → Bool → Option ℕ → ℕ → Type 0
IsWordHeld good ways os has_to None bits = bits ≡ 0
IsWordHeld good ways os has_to (Some n) bits = IsWordOfObject good ways os has_to n bits

-- the bits of what is held, with the address of its frame's page
abbrev pub frame_at : Option ℕ → ℕ
frame_at None = 0
frame_at (Some place) = place / 64

abbrev pub bits_told : List Use → Option ℕ → ℕ
bits_told pages value = bits_at (use_of pages (frame_at (place_by value))).address value

-- each of these passes a test
abbrev pub Each : (Option ℕ → Bool) → List (Option ℕ) → Type 0
Each passes [] = Unit {0}
Each passes (v ∷ vs) = (passes v ≡ true) × Each passes vs

-- ---- objects by number

abbrev pub reference_by_number : (Option ℕ → Option ℕ) → Reference → Reference
reference_by_number name r = record r { referent = name r.referent }

-- a reference with this referent
abbrev pub with_referent : Option ℕ → Reference → Reference
with_referent value r = record r { referent = value }

-- the object with this referent, where it is a reference, healed in this round
abbrev pub with_referent_healed : Option ℕ → ℕ → Tabled → Tabled
with_referent_healed referent round k = record k {
  object = record k.object { reference = option_map (with_referent referent) k.object.reference };
  healed_in = round;
}

abbrev pub object_by_number : (Option ℕ → Option ℕ) → Object → Object
object_by_number name o =
    record o { fields = map name o.fields; reference = option_map (reference_by_number name) o.reference }

abbrev pub by_number : (Option ℕ → Option ℕ) → Tabled → Tabled
by_number name k = on_object (object_by_number name) k

-- an object was marked and healed in rounds up to this one, and what it holds passes a test, which knows whether the
-- object is healed
abbrev pub IsHeldIn : ℕ → (Bool → Option ℕ → Bool) → Tabled → Type 0
IsHeldIn round passes k =
    (k.marked_in ≤ round) × (k.healed_in ≤ round) × Each (passes (is_healed round k)) (values_in k)

abbrev pub EachHeld : ℕ → (Bool → Option ℕ → Bool) → List Tabled → Type 0
EachHeld round passes [] = Unit {0}
EachHeld round passes (k ∷ ks) = IsHeldIn round passes k × EachHeld round passes ks
