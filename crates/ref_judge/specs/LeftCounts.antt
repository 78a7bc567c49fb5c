-- How a judge counts whether an object is left to scan (this project's).
use Rattle.std.specs.Prelude.{ℕ, Bool, if◌then◌else◌, length}
use Rattle.ref_objects.specs.Grounds.{Ground, unmarked}

-- how many objects may not be kept: none where the collector keeps more, else those that aren't marked
abbrev pub unmarked_if : Bool → Ground → ℕ
unmarked_if keeps_more g = if keeps_more then 0 else length (unmarked g.heap.objects g.marked)
