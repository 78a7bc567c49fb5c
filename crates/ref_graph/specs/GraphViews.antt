-- What a contract sees of a graph's fields.
use Rattle.std.specs.Prelude.{ℕ, ◌+◌, ◌≤◌, List, [], ◌∷◌, map, take, drop, Option, Some, None}
use Rattle.ref_base.specs.Graphs.{Object, Reference, with_object}
use Rattle.ref_graph.specs.declared.stored.Link.{Link}
use Rattle.ref_graph.specs.declared.stored.Stored.{Stored}

-- what a stored link says of a reference: it was never got, and has no queue
abbrev pub linked_reference : Option Link → Option Reference
linked_reference None = None
linked_reference (Some l) = Some (record { strength = l.strength; referent = l.referent; stamp = 0; queue = None })

-- an object but for its number
pub record Held : Type 0 where
  pub fields : List (Option ℕ)
  pub link : Option Link

-- what an object is whose fields stand in this list of all fields
abbrev pub held_at : List (Option ℕ) → Stored → Held
held_at all s = record { fields = take s.count (drop s.start all); link = s.link }

-- what the objects are whose fields stand in this list of all fields
abbrev pub held_in : List (Option ℕ) → List (ℕ × Stored) → List (ℕ × Held)
held_in all es = map (λ e. (e.0, held_at all e.1)) es

-- the fields of each of these stand among the first n of all fields
abbrev pub HaveFieldsWithin : ℕ → List (ℕ × Stored) → Type 0
HaveFieldsWithin n [] = Unit {0}
HaveFieldsWithin n (e ∷ es) = (e.1.start + e.1.count ≤ n) × HaveFieldsWithin n es

-- the object at a number
abbrev pub stored_object : ℕ × Held → Object
stored_object e = record { no = e.0; fields = e.1.fields; reference = linked_reference e.1.link }

-- some objects and those that are stored, each of these put in its place by number
abbrev pub placed : List Object → List (ℕ × Held) → List Object
placed os [] = os
placed os (e ∷ es) = placed (with_object os (stored_object e)) es

-- the objects that are stored
abbrev pub objects_in : List (ℕ × Held) → List Object
objects_in es = placed [] es
