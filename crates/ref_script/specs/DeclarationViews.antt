-- What the reading of a line of a graph text comes to.
use Rattle.std.specs.Prelude.{◌≡◌, ℕ, ◌≤◌, false, List, [], ◌++◌, length, take, Option, ◌⊎◌}
use Rattle.std.specs.List.{list_all}
use Rattle.ref_script.specs.DeclarationFaults.{is_object_or_none}
use Rattle.ref_script.specs.Declarations.{Declared, Root, Plain, Reference, SpellFields}
use Rattle.ref_script.specs.declared.declarations.Declaration.{Declaration}
use Rattle.ref_script.specs.declared.declarations.Declaration.TheVariants as lines
use Rattle.ref_text.specs.declared.fault.LineFault.{LineFault}
use Rattle.ref_text.specs.declared.fault.LineFault.TheVariants.{BadWord}

-- what a line of the program says, with the fields that were read
abbrev pub declared_by : Declaration → List (Option ℕ) → Declared
declared_by (lines.Root n) fields = Root n
declared_by (lines.Plain n) fields = Plain n fields
declared_by (lines.Reference n strength referent) fields = Reference n strength referent fields

-- the first words spell these fields, at most 8, and no word is left or 8 were read
pub record ReadsFields (words : List (List ℕ)) (fields : List (Option ℕ)) (rest : List (List ℕ)) : Type 0 where
  pub read : List (List ℕ)
  pub parts : words ≡ read ++ rest
  pub spelt : SpellFields read fields
  pub most : length read ≤ 8
  pub whole : (rest ≡ []) ⊎ (length read ≡ 8)

-- one of the first 8 words is no object's number and not `-`
abbrev pub IsBadField : List (List ℕ) → LineFault → Type 0
IsBadField words fault = (list_all is_object_or_none (take 8 words) ≡ false) × (fault ≡ BadWord)
