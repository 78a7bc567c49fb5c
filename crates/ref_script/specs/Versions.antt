-- The versions of scripts and of their traces (this project's profile). A script of version 1 has a fixed span and up
-- to 4,096 cells, one of version 2 a scaled span and up to 65,536.
use Rattle.std.specs.Prelude.{ℕ, Bool, ◌&&◌, if◌then◌else◌, nat_le, List, Option, Some, None, codes}
use Rattle.ref_base.specs.Limits.{is_within_limits}
use Rattle.ref_base.specs.declared.config.Config.{Config}
use Rattle.ref_base.specs.declared.span_rule.SpanRule.{SpanRule}
use Rattle.ref_base.specs.declared.span_rule.SpanRule.TheVariants.{Fixed, Scaled}
use Rattle.ref_script.specs.ToldLines.{is_titled}

-- the rule of the span that the words of a header name by their version
abbrev pub header_rule : List (List ℕ) → Option SpanRule
header_rule words =
    if is_titled (codes "refscript") (codes "1") words then Some Fixed
    else if is_titled (codes "refscript") (codes "2") words then Some Scaled else None

abbrev pub most_cells : SpanRule → ℕ
most_cells Fixed = 4096
most_cells Scaled = 65536

-- a configuration is within its limits, and its cells are as many as its version has
abbrev pub is_in_version : Config → Bool
is_in_version config = is_within_limits config && nat_le config.cells (most_cells config.rule)

-- the header of a trace
abbrev pub trace_title : SpanRule → List ℕ
trace_title Fixed = codes "reftrace 1"
trace_title Scaled = codes "reftrace 2"
