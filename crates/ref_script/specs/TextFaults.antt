-- The fault of a text that is no script, or no graph text (this project's profile).
use Rattle.std.specs.Prelude.{ℕ, ◌+◌, Bool, true, false, if◌then◌else◌, nat_le, List, [], ◌∷◌, length, Option, Some}
use Rattle.std.specs.Prelude.{None, is_some}
use Rattle.std.specs.List.{list_all}
use Rattle.std.specs.Char.{is_ascii}
use Rattle.ref_base.specs.declared.config.Config.{Config}
use Rattle.ref_base.specs.declared.span_rule.SpanRule.{SpanRule}
use Rattle.ref_base.specs.declared.span_rule.SpanRule.TheVariants.{Fixed}
use Rattle.ref_script.specs.DeclarationFaults.{declaration_fault, number_in, unless_double}
use Rattle.ref_script.specs.Declarations.{is_declared, with_declared_no}
use Rattle.ref_script.specs.GraphTexts.{is_graph_header}
use Rattle.ref_script.specs.Lines.{TextLine, lines_of, most_bytes}
use Rattle.ref_script.specs.Scripts.{config_of}
use Rattle.ref_script.specs.StepFaults.{step_fault}
use Rattle.ref_script.specs.ToldLines.{is_short, says_nothing, line_words}
use Rattle.ref_script.specs.Versions.{header_rule, is_in_version}
use Rattle.ref_text.specs.declared.fault.LineFault.{LineFault}
use Rattle.ref_text.specs.declared.fault.LineFault.TheVariants.{LineTooLong, NotAscii, BadHeader, BadConfig}
use Rattle.ref_text.specs.declared.fault.TextFault.{TextFault}
use Rattle.ref_text.specs.declared.fault.TextFault.TheVariants as texts

-- what is wanted of the next line that says something: of a script its header, its configuration, behind a header that
-- named this rule of the span, or a step; of a graph text its header, or a declaration where the objects of these
-- numbers are declared
pub data Place : Type 0 where
  ScriptHeader : Place
  Configuration : SpanRule → Place
  Steps : Place
  GraphHeader : Place
  Declarations : List ℕ → Place

-- the configuration is wanted behind a header, whatever its version
abbrev pub behind_header : Option SpanRule → Place
behind_header (Some rule) = Configuration rule
behind_header None = Configuration Fixed

-- what is wanted behind a line of these words
abbrev pub place_after : Place → List (List ℕ) → Place
place_after ScriptHeader words = behind_header (header_rule words)
place_after (Configuration rule) words = Steps
place_after Steps words = Steps
place_after GraphHeader words = Declarations []
place_after (Declarations seen) words = Declarations (with_declared_no seen (number_in words))

abbrev pub header_fault : Bool → Option LineFault
header_fault true = None
header_fault false = Some BadHeader

abbrev pub config_fault : Option Config → Option LineFault
config_fault (Some config) = if is_in_version config then None else Some BadConfig
config_fault None = Some BadConfig

-- the fault of a line that says something, at its place
abbrev pub place_fault : Place → List (List ℕ) → Option LineFault
place_fault ScriptHeader words = header_fault (is_some (header_rule words))
place_fault (Configuration rule) words = config_fault (config_of rule words)
place_fault Steps words = step_fault words
place_fault GraphHeader words = header_fault (is_graph_header words)
place_fault (Declarations seen) words =
    unless_double (declaration_fault words) (is_declared seen (number_in words))

-- a header or a configuration that never comes is a fault of the line after the last one
abbrev pub end_fault : Place → Option LineFault
end_fault ScriptHeader = Some BadHeader
end_fault (Configuration rule) = Some BadConfig
end_fault Steps = None
end_fault GraphHeader = Some BadHeader
end_fault (Declarations seen) = None

-- a fault of line k, or what comes later
abbrev pub fault_or : ℕ → Option LineFault → Option TextFault → Option TextFault
fault_or k (Some fault) later = Some (texts.Line k fault)
fault_or k None later = later

-- what is wrong with a line whatever it says
abbrev pub plain_fault : TextLine → Option LineFault
plain_fault line =
    if is_short line then (if list_all is_ascii line.bytes then None else Some NotAscii) else Some LineTooLong

-- the fault of the first faulty line, where the first of the lines has number k
abbrev pub first_fault : Place → ℕ → List TextLine → Option TextFault
first_fault place k [] = fault_or k (end_fault place) None
first_fault place k (line ∷ lines) =
    fault_or k (plain_fault line)
    (if says_nothing (line_words line) then first_fault place (k + 1) lines else
    fault_or k (place_fault place (line_words line)) (first_fault (place_after place (line_words line)) (k + 1) lines))

-- the fault of a text of which this is wanted first, if it has one
abbrev pub fault_at : Place → List ℕ → Option TextFault
fault_at place text =
    if nat_le (length text) most_bytes then first_fault place 1 (lines_of text) else Some texts.TooLong

-- the fault of a text as a script
abbrev pub script_fault : List ℕ → Option TextFault
script_fault text = fault_at ScriptHeader text

-- the fault of a text as a graph text
abbrev pub graph_fault : List ℕ → Option TextFault
graph_fault text = fault_at GraphHeader text
