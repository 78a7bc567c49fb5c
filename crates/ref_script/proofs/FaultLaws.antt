-- A text that spells a script, or declares a graph, has no fault.
use Rattle.ref_script.proofs.Common.{arith, ◌≡◌, ℕ, ◌+◌, true, List, [], ◌∷◌, Some, None, refl, inl, inr, Graph}
use Rattle.ref_script.proofs.Common.{Declared}
use Rattle.ref_script.proofs.Common.{NoneTwice, SpellAll, SpellGraph, DeclaresGraph, Declarations, Place, place_after}
use Rattle.ref_script.proofs.Common.{place_fault, graph_fault, Config, ScriptStep, TextLine, lines_of, Steps}
use Rattle.ref_script.proofs.Common.{plain_fault}
use Rattle.ref_script.proofs.Common.{first_fault, script_fault, is_plain_line, says_nothing, line_words, told}
use Rattle.ref_script.proofs.Common.{config_of}
use Rattle.ref_script.proofs.Common.{SpellSteps, SpellScript, IsScript, list_all, cases_Bool, and_parts, end_fault}
use Rattle.std.specs.Char.{is_ascii}
use Rattle.ref_script.specs.TextFaults.{GraphHeader, ScriptHeader, Configuration}
use Rattle.ref_script.specs.ToldLines.{is_short}
use Rattle.ref_base.specs.declared.span_rule.SpanRule.{SpanRule}
use Rattle.ref_script.specs.Versions.{is_in_version}
use Rattle.ref_script.proofs.DeclaredSpelt.{declared_without_fault, number_of_words}
use Rattle.ref_script.proofs.Spelt.{spelt_without_fault}

plain_without_fault : (line : TextLine) → is_plain_line line ≡ true → plain_fault line ≡ None
plain_without_fault line h = let p = and_parts (is_short line) (list_all is_ascii line.bytes) h in simp (p.0, p.1) refl

-- the configuration and the steps
abbrev SpellBody : SpanRule → List (List (List ℕ)) → Config → List ScriptStep → Type 0
SpellBody rule [] config steps = ⊥
SpellBody rule (words ∷ lines) config steps = (config_of rule words ≡ Some config) ×
    (is_in_version config ≡ true) × SpellSteps lines steps

-- from this place on, the lines that say something spell what is wanted
abbrev SpellFrom : Place → List (List (List ℕ)) → Type 0
SpellFrom ScriptHeader lines = (config : Config) × (steps : List ScriptStep) × SpellScript lines config steps
SpellFrom (Configuration rule) lines = (config : Config) × (steps : List ScriptStep) × SpellBody rule lines config steps
SpellFrom Steps lines = (steps : List ScriptStep) × SpellSteps lines steps
SpellFrom GraphHeader lines = (ds : List Declared) × SpellGraph lines ds × NoneTwice [] ds
SpellFrom (Declarations seen) lines = (ds : List Declared) × SpellAll lines ds × NoneTwice seen ds

-- where nothing is left, nothing is wanted
none_left : (place : Place) → SpellFrom place [] → end_fault place ≡ None
none_left ScriptHeader spelt = absurd spelt.2
none_left (Configuration rule) spelt = absurd spelt.2
none_left Steps spelt = refl
none_left GraphHeader spelt = absurd spelt.1
none_left (Declarations seen) spelt = refl

-- the first line has no fault, and the others spell what is wanted behind it
first_spelt : (place : Place) (words : List (List ℕ)) (lines : List (List (List ℕ))) → SpellFrom place (words ∷ lines)
    → (place_fault place words ≡ None) × SpellFrom (place_after place words) lines
first_spelt ScriptHeader words [] spelt = absurd spelt.2
first_spelt ScriptHeader words (line ∷ lines) spelt =
    simp spelt.2.0 (refl, (spelt.0, spelt.1, (spelt.2.1, spelt.2.2, spelt.2.3)))
first_spelt (Configuration rule) words lines spelt = (simp (spelt.2.0, spelt.2.1) refl, (spelt.1, spelt.2.2))
first_spelt Steps words lines spelt = first spelt.0 spelt.1
  where
    first : (steps : List ScriptStep) → SpellSteps (words ∷ lines) steps
        → (place_fault Steps words ≡ None) × SpellFrom Steps lines
    first [] h = absurd h
    first (step ∷ steps) h = (spelt_without_fault words step h.0, (steps, h.1))
first_spelt GraphHeader words lines spelt = (simp spelt.1.0 refl, (spelt.0, spelt.1.1, spelt.2))
first_spelt (Declarations seen) words lines spelt = first spelt.0 spelt.1 spelt.2
  where
    first : (ds : List Declared) → SpellAll (words ∷ lines) ds → NoneTwice seen ds
        → (place_fault (Declarations seen) words ≡ None) × SpellFrom (place_after (Declarations seen) words) lines
    first [] h twice = absurd h
    first (d ∷ ds) h twice =
        rw (number_of_words d words h.0, declared_without_fault d words h.0, twice.0) (refl, (ds, h.1, twice.1))

without_fault : (place : Place) (lines : List TextLine) (k : ℕ) → list_all is_plain_line lines ≡ true
    → SpellFrom place (told lines) → first_fault place k lines ≡ None
without_fault place [] k plain spelt = rw (none_left place spelt) refl
without_fault place (line ∷ lines) k plain spelt =
    let p = and_parts (is_plain_line line) (list_all is_plain_line lines) plain in
    let whole = plain_without_fault line p.0 in
    elim (cases_Bool (says_nothing (line_words line))) [
      | inl silent ↦
          let rest : SpellFrom place (told lines) = simp silent at spelt in
          simp (whole, silent) (without_fault place lines (k + 1) p.1 rest)
      | inr says ↦
          let all : SpellFrom place (line_words line ∷ told lines) = simp says at spelt in
          let first = first_spelt place (line_words line) (told lines) all in
          simp (whole, says, first.0) (without_fault (place_after place (line_words line)) lines (k + 1) p.1 first.1)
    ]

pub script_without_fault : (text : List ℕ) (config : Config) (steps : List ScriptStep) → IsScript text config steps
    → script_fault text ≡ None
script_without_fault text config steps h =
    simp h.short (without_fault ScriptHeader (lines_of text) 1 h.lines.plain (config, steps, h.lines.told))

pub graph_without_fault : (text : List ℕ) (graph : Graph) → DeclaresGraph text graph → graph_fault text ≡ None
graph_without_fault text graph h = grind (arith, without_fault)
