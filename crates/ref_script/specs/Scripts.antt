-- The grammar of a script (this project's profile).
use Rattle.std.specs.Prelude.{◌≡◌, ℕ, ◌^◌, true, if◌then◌else◌, nat_le, List, [], ◌∷◌, length, Option, Some, None}
use Rattle.std.specs.Prelude.{codes}
use Rattle.std.specs.List.{list_all}
use Rattle.std.specs.Str.{bytes_eq}
use Rattle.ref_base.specs.declared.config.Config.{Config}
use Rattle.ref_base.specs.declared.span_rule.SpanRule.{SpanRule}
use Rattle.ref_script.specs.Lines.{TextLine, lines_of, most_bytes}
use Rattle.ref_script.specs.Numerals.{number_below}
use Rattle.ref_script.specs.Spelling.{SpellsScriptStep}
use Rattle.ref_script.specs.ToldLines.{is_plain_line, told}
use Rattle.ref_script.specs.Versions.{header_rule, is_in_version}
use Rattle.ref_script.specs.declared.script_step.ScriptStep.{ScriptStep}

-- the configuration that words spell, with this rule of the span
abbrev pub config_from : SpanRule → Option ℕ → Option ℕ → Option ℕ → Option ℕ → Option ℕ → Option Config
config_from rule (Some m) (Some w) (Some q) (Some c) (Some s) =
    Some (record { mutators = m; workers = w; queues = q; cells = c; span = s; rule = rule })
config_from rule m w q c s = None

abbrev pub config_of : SpanRule → List (List ℕ) → Option Config
config_of rule (name ∷ m ∷ w ∷ q ∷ c ∷ s ∷ []) =
    if bytes_eq name (codes "config") then
    config_from rule (number_below (2 ^ 32) m) (number_below (2 ^ 32) w) (number_below (2 ^ 32) q)
    (number_below (2 ^ 32) c) (number_below (2 ^ 64) s)
    else None
config_of rule other = None

-- each line spells its step
abbrev pub SpellSteps : List (List (List ℕ)) → List ScriptStep → Type 0
SpellSteps [] [] = Unit {0}
SpellSteps [] (step ∷ steps) = ⊥
SpellSteps (words ∷ lines) [] = ⊥
SpellSteps (words ∷ lines) (step ∷ steps) = SpellsScriptStep words step × SpellSteps lines steps

-- the header, the configuration, and the steps
abbrev pub SpellScript : List (List (List ℕ)) → Config → List ScriptStep → Type 0
SpellScript [] config steps = ⊥
SpellScript (header ∷ []) config steps = ⊥
SpellScript (header ∷ words ∷ lines) config steps =
    (header_rule header ≡ Some config.rule) × (config_of config.rule words ≡ Some config)
    × (is_in_version config ≡ true) × SpellSteps lines steps

-- the lines are those of a script of this configuration and these steps
pub record AreScript (lines : List TextLine) (config : Config) (steps : List ScriptStep) : Type 0 where
  pub plain : list_all is_plain_line lines ≡ true
  pub told : SpellScript (told lines) config steps

-- the text is such a script
pub record IsScript (text : List ℕ) (config : Config) (steps : List ScriptStep) : Type 0 where
  pub short : nat_le (length text) most_bytes ≡ true
  pub lines : AreScript (lines_of text) config steps
