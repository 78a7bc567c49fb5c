-- A heap of which it isn't said what some of its objects refer to (this project's profile: while a sweep goes on,
-- nobody reads that of the doomed).
use Rattle.std.specs.Prelude.{ℕ, if◌then◌else◌, List, map, None}
use Rattle.ref_base.specs.Members.{has}
use Rattle.ref_base.specs.Graphs.{Object}
use Rattle.ref_base.specs.Heaps.{Heap, changed_reference, cleared}

-- the object with null fields, and cleared if it is a reference
abbrev pub blanked : Object → Object
blanked o = record o { fields = map (λ v. None) o.fields; reference = changed_reference cleared o.reference }

-- the object, blanked if it is one of these
abbrev pub forgotten : List ℕ → Object → Object
forgotten d o = if has d o.no then blanked o else o

-- the heap but for what these refer to
abbrev pub heap_but : List ℕ → Heap → Heap
heap_but d h = record h { objects = map (λ o. forgotten d o) h.objects }
