-- Which references a search may go through.
use Rattle.std.specs.Prelude.{Bool, true, false, if◌then◌else◌}
use Rattle.ref_base.specs.Paths.{Allowed, is_soft, is_weak}
use Rattle.ref_base.specs.declared.strength.Strength.{Strength}
use Rattle.ref_graph.specs.declared.search.Allow.{Allow}
use Rattle.ref_graph.specs.declared.search.Allow.TheVariants as allow

-- whether a path may go through a reference of this strength
abbrev pub allows : Allow → Strength → Bool
allows allow.NoReferents s = false
allows allow.Soft s = is_soft s
allows allow.SoftAndWeak s = if is_soft s then true else is_weak s

-- whether a path may go through this reference
abbrev pub allowed : Allow → Allowed
allowed a r = allows a r.strength
