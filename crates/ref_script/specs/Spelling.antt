-- The grammar of a line: which words spell which step.
use Rattle.std.specs.Prelude.{◌≡◌, ℕ, ◌^◌, List, [], ◌∷◌, Some}
use Rattle.ref_base.specs.Texts.{Word, Letters, Numbered, Long}
use Rattle.ref_script.specs.ScriptSteps.{script_step_words}
use Rattle.ref_script.specs.declared.script_step.ScriptStep.{ScriptStep}
use Rattle.ref_script.specs.Numerals.{number_below, number_behind}

-- a word of a line spells a word of a step: the same letters, or the same number with any leading zeros
abbrev pub IsSpelt : List ℕ → Word → Type 0
IsSpelt word (Letters letters) = word ≡ letters
IsSpelt word (Numbered letters n) = number_behind letters word ≡ Some n
IsSpelt word (Long n) = number_below (2 ^ 64) word ≡ Some n

-- word by word
abbrev pub AreSpelt : List (List ℕ) → List Word → Type 0
AreSpelt [] [] = Unit {0}
AreSpelt [] (v ∷ vs) = ⊥
AreSpelt (w ∷ ws) [] = ⊥
AreSpelt (w ∷ ws) (v ∷ vs) = IsSpelt w v × AreSpelt ws vs

-- the words of a line spell a step of a script
abbrev pub SpellsScriptStep : List (List ℕ) → ScriptStep → Type 0
SpellsScriptStep words step = AreSpelt words (script_step_words step)
