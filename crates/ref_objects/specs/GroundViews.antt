-- What a contract sees of the fields of a heap's objects, and what holds of them.
use Rattle.std.specs.Prelude.{◌≡◌, ℕ, ◌+◌, ◌*◌, ◌^◌, ◌<◌, ◌≤◌, Bool, true, false, [], ◌∷◌, ◌++◌, length, Option, Some}
use Rattle.std.specs.Prelude.{slice_set}
use Rattle.ref_base.specs.Graphs.{Object, Reference}
use Rattle.ref_base.specs.Heaps.{Heap, nulls, with_changed, with_reference, with_stamp, cleared}
use Rattle.ref_base.specs.Limits.{is_within_limits}
use Rattle.ref_base.specs.declared.config.Config.{Config}
use Rattle.ref_space.specs.Pages.{has_chosen, AreFilled}
use Rattle.ref_space.specs.Moves.{Ways}
use Rattle.ref_space.specs.Tables.{Table, left_of, objects_of, holds_of, marked_of, tags_of, unhealed_of}
use Rattle.ref_objects.specs.declared.stage.Stage.TheVariants.{Fresh, Tuned, Moved}
use Rattle.ref_space.specs.declared.colour.Colour.TheVariants.{R}
use Rattle.ref_objects.specs.Grounds.{Ground, NamesSpared, Space, occupied, with_new_tag, marks_with_new}
use Rattle.ref_objects.specs.Grounds.{ground_with_heap, is_tuned}
use Rattle.ref_objects.specs.Grounds.{with_cleared_tag, with_link}
use Rattle.ref_objects.specs.declared.stage.Stage.{Stage}
use Rattle.ref_space.specs.declared.colour.Colour.{Colour}
use Rattle.ref_space.specs.declared.cell.Change.{Change}
use Rattle.ref_space.specs.declared.cell.Change.TheVariants.{Cut, Stamp, ClearedIn, ClearIn, Link}

-- what a heap's objects have in their fields: of the table what is seen of it, and the count of the holds that are out
pub record Stored : Type 0 where
  pub config : Config
  pub heap_no : ℕ
  pub table : Table
  pub holds : ℕ
  pub clock : ℕ
  pub next : ℕ
  pub condemning : Bool
  pub last : Colour
  pub stage : Stage
  pub has_choice : Bool

abbrev pub stored_fields : Config → ℕ → Table → ℕ → ℕ → ℕ → Bool → Colour → Stage → Bool → Stored
stored_fields config heap_no table holds clock next condemning last stage has_choice = record {
  config = config;
  heap_no = heap_no;
  table = table;
  holds = holds;
  clock = clock;
  next = next;
  condemning = condemning;
  last = last;
  stage = stage;
  has_choice = has_choice;
}

-- the heap that they are
abbrev pub heap_of : Stored → Heap
heap_of s = record {
  config = s.config;
  no = s.heap_no;
  objects = objects_of s.table.tabled;
  slots = s.table.slots;
  holds = holds_of s.table.tabled;
  clock = s.clock;
}

-- where they lie
abbrev pub space_of : Stored → Space
space_of s = record {
  ways = s.table.ways;
  cells = s.table.occupants;
  good = s.table.round.good;
  last = s.last;
  stage = s.stage;
  unhealed = unhealed_of s.table.round.number s.table.tabled;
  still_to_move = left_of s.table;
  has_choice = s.has_choice;
}

abbrev pub seen_ground : Stored → Ground
seen_ground s = record {
  heap = heap_of s;
  next = s.next;
  marked = marked_of s.table.round.number s.table.tabled;
  tags = tags_of s.table.tabled;
  condemning = s.condemning;
  space = space_of s;
}

-- The configuration is within its limits; there is a cell for each object that it allows, and a slot for each; holds
-- are counted; and each number that was given is below the next, which is at most 2^32.
pub record IsSoundGround (s : Stored) : Type 0 where
  pub within : is_within_limits s.config ≡ true
  pub room : s.table.room ≡ s.config.cells
  pub slot_count : length s.table.slots ≡ 16 * s.config.mutators
  pub counted : s.holds ≡ length (holds_of s.table.tabled)
  pub given : s.table.last < s.next
  pub bounded : s.next ≤ 2 ^ 32

-- What last changed the good colour tells whether what slots hold has it; a cycle makes one good that isn't that of
-- moves; pages are chosen just while a choice isn't ended, and those who choose them give words from before the colour
-- of the last cycle. A cycle condemns, and before the first one pages are filled one after another.
pub record IsSoundMoves (ways : Ways) (good last : Colour) (stage : Stage) (has_choice condemning : Bool) : Type 0 where
  pub choice : has_choice ≡ has_chosen ways.pages.uses
  pub settled : ways.tuned ≡ is_tuned stage
  pub fresh : stage ≡ Fresh → has_choice ≡ false
  pub filled : stage ≡ Fresh → AreFilled ways.pages.uses
  pub coloured : stage ≡ Tuned → (good ≡ last) × (good ≡ R → ⊥)
  pub moved : stage ≡ Moved → (has_choice ≡ true) × (ways.last ≡ last)
  pub condemns : condemning ≡ true → stage ≡ Tuned

abbrev pub AreSoundMoves : Stored → Type 0
AreSoundMoves s = IsSoundMoves s.table.ways s.table.round.good s.last s.stage s.has_choice s.condemning

-- the ground is sound, its moves are, and what slots, holds and objects name is there, and isn't condemned
pub record IsSoundObjects (s : Stored) : Type 0 where
  pub ground : IsSoundGround s
  pub moves : AreSoundMoves s
  pub closed : NamesSpared (seen_ground s)

-- an object of so many null fields is made, and the slot at this place holds it
abbrev pub made_at : Ground → ℕ → ℕ → Option Reference → Ground
made_at g place fields reference =
    let o : Object = record { no = g.next; fields = nulls fields; reference = reference } in
    record g {
      heap = record g.heap {
        objects = g.heap.objects ++ o ∷ [];
        slots = slice_set g.heap.slots place (Some g.next);
      };
      next = g.next + 1;
      marked = marks_with_new g g.next;
      tags = with_new_tag g.tags g.next;
      space = occupied g.space g.next;
    }

-- the slot at this place holds this
abbrev pub with_slot_at : Ground → ℕ → Option ℕ → Ground
with_slot_at g place value =
    ground_with_heap g (record g.heap { slots = slice_set g.heap.slots place value })

-- what is written of object n
abbrev pub written : Ground → ℕ → Change → Ground
written g n Cut = ground_with_heap g (with_changed g.heap n (with_reference cleared))
written g n (Stamp stamp) = ground_with_heap g (with_changed g.heap n (with_reference (with_stamp stamp)))
written g n (ClearedIn cycle) = record g { tags = with_cleared_tag g.tags n cycle }
written g n (ClearIn cycle) = record g {
  heap = with_changed g.heap n (with_reference cleared);
  tags = with_cleared_tag g.tags n cycle;
}
written g n (Link to) = record g { tags = with_link g.tags n to }
