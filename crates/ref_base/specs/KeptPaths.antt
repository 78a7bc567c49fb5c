-- What a cycle keeps alive. Which soft references are kept is this project's profile: Java SE 17 (`java.lang.ref`,
-- SoftReference) leaves it to the collector.
use Rattle.std.specs.Prelude.{ℕ, ◌-◌, ◌*◌, ◌/◌, Bool, true, false, ◌&&◌, nat_le, List, [], ◌∷◌, ◌⊎◌}
use Rattle.ref_base.specs.Graphs.{Graph}
use Rattle.ref_base.specs.Paths.{Allowed, EndsPath, is_soft}
use Rattle.ref_base.specs.declared.config.Config.{Config}
use Rattle.ref_base.specs.declared.policy.Policy.{Policy}
use Rattle.ref_base.specs.declared.span_rule.SpanRule.{SpanRule}
use Rattle.ref_base.specs.declared.span_rule.SpanRule.TheVariants.{Fixed, Scaled}
use Rattle.ref_base.specs.declared.urgency.Urgency.{Urgency}
use Rattle.ref_base.specs.declared.urgency.Urgency.TheVariants.{Normal, Urgent}

-- a span scaled by how many of the cells are free, rounded down
abbrev pub scaled_span : ℕ → ℕ → ℕ → ℕ
scaled_span span free cells = span * free / cells

-- for how long a cycle keeps soft references that begins when so many cells are free
abbrev pub span_by : SpanRule → ℕ → ℕ → ℕ → ℕ
span_by Fixed span free cells = span
span_by Scaled span free cells = scaled_span span free cells

-- the policy of a cycle that begins at this clock, when so many cells are free; it stays as it is till the next begin
abbrev pub policy_from : Config → ℕ → ℕ → Urgency → Policy
policy_from config free now urgency =
    record { clock = now; urgency = urgency; span = span_by config.rule config.span free config.cells }

-- and before the first cycle, when nothing goes by it
abbrev pub first_policy : Config → Policy
first_policy config = record { clock = 0; urgency = Normal; span = config.span }

abbrev pub is_normal : Urgency → Bool
is_normal Normal = true
is_normal Urgent = false

-- the reference is soft, the cycle is normal, and the reference was made or last got at most the span before its clock
abbrev pub is_kept : Policy → Allowed
is_kept p r = is_soft r.strength && (is_normal p.urgency && nat_le (p.clock - r.stamp) p.span)

-- a kept path leads to n: one over strong fields and the referents of kept soft references
abbrev pub IsKept : Policy → Graph → ℕ → Type 0
IsKept p g n = EndsPath (is_kept p) g n

-- a kept path led to n at one of these moments of a mark
abbrev pub EverKept : Policy → List Graph → ℕ → Type 0
EverKept p [] n = ⊥
EverKept p (g ∷ gs) n = IsKept p g n ⊎ EverKept p gs n
