-- How the reading of a script goes on by one line.
use Rattle.ref_script.proofs.Common.{arith, ◌≡◌, ℕ, ◌+◌, true, List, [], ◌∷◌, ◌++◌, Some, None, ◌∙◌, append_assoc}
use Rattle.ref_script.proofs.Common.{Bor}
use Rattle.ref_script.proofs.Common.{list_all, append-nil, words_of, SpellsScriptStep, Steps, first_fault}
use Rattle.ref_script.proofs.Common.{SpellSteps, is_plain_line, told, Finds, LinesLeft, TextFault}
use Rattle.ref_script.proofs.Common.{ScriptStep, Place, refl}
use Rattle.ref_script.proofs.Common.{config_of}
use Rattle.ref_script.proofs.Spelt.{spelt_without_fault}
use Rattle.ref_base.specs.declared.config.Config.{Config}
use Rattle.ref_base.specs.declared.span_rule.SpanRule.{SpanRule}
use Rattle.ref_script.specs.TextFaults.{Configuration, ScriptHeader}
use Rattle.ref_script.specs.Versions.{header_rule, is_in_version}

-- the steps so far, whatever spells what is left
pub record HasRead (before now : LinesLeft) (steps : List ScriptStep) : Type 0 where
  pub spelt : (more : List ScriptStep) → SpellSteps (told now.lines) more
      → SpellSteps (told before.lines) (steps ++ more)
  pub plain : list_all is_plain_line before.lines ≡ list_all is_plain_line now.lines
  pub fault : first_fault Steps (before.number + 1) before.lines ≡ first_fault Steps (now.number + 1) now.lines

-- one step more
pub has_read_more : (before now after : LinesLeft) (steps items : List ScriptStep) (c : Bor (List ℕ))
    (step : ScriptStep)
    → HasRead before now steps → Finds now (Some c) after → SpellsScriptStep (words_of c.now) step
    → items ≡ steps ++ step ∷ [] → HasRead before after items
has_read_more before now after steps items c step r f spells items_are =
    grind (arith, spelt_without_fault, append_assoc)

-- nothing is left
pub has_read_all : (before now after : LinesLeft) (steps : List ScriptStep)
    → HasRead before now steps → Finds now None after
    → SpellSteps (told before.lines) steps × (list_all is_plain_line before.lines ≡ true)
has_read_all before now after steps r f =
    let whole : SpellSteps (told before.lines) (steps ++ []) = r.spelt [] (rw (f.told, f.done) tt) in
    (rw append-nil at whole, r.plain ∙ f.plain ∙ rw f.done refl)

-- a fault of what is left is that of the text too
pub has_read_later_fault : (before now : LinesLeft) (steps : List ScriptStep) (e : TextFault)
    → HasRead before now steps
    → ((place : Place) → first_fault place (now.number + 1) now.lines ≡ Some e)
    → first_fault Steps (before.number + 1) before.lines ≡ Some e
has_read_later_fault before now steps e r later = r.fault ∙ later Steps

-- a fault behind the configuration is that of the text
pub behind_configuration : (text header config : LinesLeft) (first second : Bor (List ℕ)) (rule : SpanRule)
    (is : Config) → Finds text (Some first) header → header_rule (words_of first.now) ≡ Some rule
    → Finds header (Some second) config → config_of rule (words_of second.now) ≡ Some is
    → is_in_version is ≡ true
    → first_fault ScriptHeader (text.number + 1) text.lines ≡ first_fault Steps (config.number + 1) config.lines
behind_configuration text header config first second rule is f named g read fits =
    let headed : first_fault ScriptHeader (text.number + 1) text.lines
    ≡ first_fault (Configuration rule) (header.number + 1) header.lines = f.fault ScriptHeader ∙ rw named refl in
    headed ∙ g.fault (Configuration rule) ∙ rw (read, fits) refl
