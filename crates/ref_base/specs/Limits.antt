-- The limits of a configuration (this project's profile).
use Rattle.std.specs.Prelude.{ℕ, Bool, ◌&&◌, nat_le}
use Rattle.ref_base.specs.declared.config.Config.{Config}
use Rattle.ref_base.specs.declared.span_rule.SpanRule.TheVariants.{Fixed}

-- n is between low and high, both of them allowed
abbrev pub is_between : ℕ → ℕ → ℕ → Bool
is_between low high n = nat_le low n && nat_le n high

-- each number of a configuration is within its limits; the span may be any number, and its rule either
abbrev pub is_within_limits : Config → Bool
is_within_limits c =
    is_between 1 8 c.mutators && is_between 1 8 c.workers && is_between 1 16 c.queues && is_between 1 65536 c.cells

-- one mutator, one worker and one queue, room for 1,024 objects, and a span of 0
abbrev pub default_config : Config
default_config = record { mutators = 1; workers = 1; queues = 1; cells = 1024; span = 0; rule = Fixed }
