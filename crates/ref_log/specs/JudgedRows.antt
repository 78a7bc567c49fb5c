-- What a line of a log is behind the rows that a judge took (this project's).
use Rattle.std.specs.Prelude.{◌≡◌, ℕ, List, [], ◌∷◌, Option, Some, None, Result, Ok, Err}
use Rattle.ref_base.specs.Graphs.{is_there}
use Rattle.ref_base.specs.declared.row.Row.{Row}
use Rattle.ref_judge.specs.Judged.{Judged}
use Rattle.ref_judge.specs.Standing.{TakesRow}
use Rattle.ref_log.specs.LogRows.{SpellsRow, SpellsNoRow, row_fault}
use Rattle.ref_log.specs.NamedRows.{given_behind, names_behind, with_numbers}
use Rattle.ref_log.specs.Names.{Given, MeanAlike}
use Rattle.ref_log.specs.RowTexts.{IsPlacedRow}
use Rattle.ref_log.specs.declared.fault.LogFault.{LogFault}
use Rattle.ref_script.specs.WorldRows.{world_row}
use Rattle.ref_script.specs.declared.script_step.ScriptRow.{ScriptRow}

-- objects have names in both or in neither, and each means the same
abbrev pub AreSameNames : Option (List Given) → Option (List Given) → Type 0
AreSameNames None None = Unit {0}
AreSameNames (Some one) (Some other) = MeanAlike one other
AreSameNames one other = ⊥

-- the names behind a row, by the objects that the judge has
abbrev pub named_judged : Judged → List Given → List (List ℕ) → List Given
named_judged j names words = given_behind (λ n. is_there j.ground.heap.objects n) j.ground.next names words

abbrev pub names_judged : Judged → Option (List Given) → List (List ℕ) → Option (List Given)
names_judged j names words = names_behind (λ n. is_there j.ground.heap.objects n) j.ground.next names words

-- the words spell this row, or none and this is why
abbrev pub IsRowRead : List (List ℕ) → Result ScriptRow LogFault → Type 0
IsRowRead words (Ok row) = SpellsRow words row
IsRowRead words (Err fault) = SpellsNoRow words × (fault ≡ row_fault words)

-- behind the rows that the judge took a line's words spell that, and these are the names then
abbrev pub ReadsRow :
    Judged → Option (List Given) → List (List ℕ) → Result ScriptRow LogFault → Option (List Given) → Type 0
ReadsRow j names words read later =
    IsRowRead (with_numbers (names_judged j names words) words) read
    × AreSameNames (names_judged j names words) later

-- ---- the row of the collector

-- the rows of the collector that a row is: one, or none
abbrev pub part_of : Option Row → List Row
part_of None = []
part_of (Some row) = row ∷ []

-- the words spell a row that is these of the collector
abbrev pub SpellsSome : List (List ℕ) → List Row → Type 0
SpellsSome words part = (row : ScriptRow) × SpellsRow words row × (part ≡ world_row row.step row.reply)

-- the row is placed as the judge was told
abbrev pub IsPlacedPart : Judged → Option Row → Type 0
IsPlacedPart j None = Unit {0}
IsPlacedPart j (Some row) = IsPlacedRow j row

-- behind the rows that the judge took the words spell a row that is this one of the collector
pub record ReadsPart (j : Judged) (names : Option (List Given)) (words : List (List ℕ)) (row : Option Row)
    (later : Option (List Given))
    : Type 0
  where
    pub spelt : SpellsSome (with_numbers (names_judged j names words) words) (part_of row)
    pub placed : IsPlacedPart j row
    pub names_are : AreSameNames (names_judged j names words) later

-- or they spell none
pub record JudgesNone (j : Judged) (names : Option (List Given)) (words : List (List ℕ)) (fault : LogFault) : Type 0
  where
    pub none : SpellsNoRow (with_numbers (names_judged j names words) words)
    pub fault_is : fault ≡ row_fault (with_numbers (names_judged j names words) words)

-- the row is taken, if it is one
abbrev pub TakesPart : Judged → Option Row → Judged → Type 0
TakesPart old None new = new ≡ old
TakesPart old (Some row) new = TakesRow old row new
