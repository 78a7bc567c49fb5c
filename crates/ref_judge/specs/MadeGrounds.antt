-- What is made in a mark is marked (this project's).
use Rattle.std.specs.Prelude.{ℕ, if◌then◌else◌}
use Rattle.ref_base.specs.Refusals.{is_in}
use Rattle.ref_base.specs.declared.phase.Phase.{Phase}
use Rattle.ref_base.specs.declared.phase.Phase.TheVariants.{Marking}
use Rattle.ref_objects.specs.Grounds.{Ground, ground_marked}

abbrev pub kept_made : Phase → Ground → ℕ → Ground
kept_made phase g n = if is_in phase Marking then ground_marked g n else g
