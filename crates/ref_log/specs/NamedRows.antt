-- The rows of a collector that lines of a log spell, as objects are named there (this project's profile).
use Rattle.std.specs.Prelude.{◌≡◌, ℕ, ◌^◌, Bool, not, ◌||◌, if◌then◌else◌, nat_lt, List, [], ◌∷◌, ◌++◌}
use Rattle.std.specs.Prelude.{Option, Some, None}
use Rattle.ref_base.specs.declared.config.Config.{Config}
use Rattle.ref_base.specs.declared.row.Row.{Row}
use Rattle.ref_judge.specs.ObjectsBehind.{TellsObjects}
use Rattle.ref_judge.specs.declared.profile.Profile.{Profile}
use Rattle.ref_log.specs.LogRows.{SpellsRow, SpellsNoRow, row_fault}
use Rattle.ref_log.specs.Names.{Given, number_named, numbered_row, name_given, with_name}
use Rattle.ref_log.specs.declared.fault.LogFault.{LogFault}
use Rattle.ref_script.specs.WorldRows.{world_row}
use Rattle.ref_script.specs.declared.script_step.ScriptRow.{ScriptRow}

-- The name that a row gives to a new object. An object that is there keeps its name, and numbers end below 2^32.
abbrev pub free_name : (ℕ → Bool) → ℕ → List Given → Option (List ℕ) → Option (List ℕ)
free_name there next names None = None
free_name there next names (Some name) =
    if there (number_named names name) || not (nat_lt next (2 ^ 32)) then None else Some name

-- the names behind a row, where these objects are there and the next has this number
abbrev pub given_behind : (ℕ → Bool) → ℕ → List Given → List (List ℕ) → List Given
given_behind there next names words = with_name (free_name there next names (name_given words)) next names

-- if objects have names, and aren't spelled by their numbers
abbrev pub names_behind : (ℕ → Bool) → ℕ → Option (List Given) → List (List ℕ) → Option (List Given)
names_behind there next None words = None
names_behind there next (Some names) words = Some (given_behind there next names words)

-- the words of a row with numbers in the place of names
abbrev pub with_numbers : Option (List Given) → List (List ℕ) → List (List ℕ)
with_numbers None words = words
with_numbers (Some names) words = numbered_row names words

-- what the objects that are there behind the rows make of the names and of the words of one more row
pub record NamesBehind (profile : Profile) (config : Config) (rows : List Row) (names : Option (List Given))
    (words : List (List ℕ)) (later : Option (List Given))
    : Type 0
  where
    pub there : ℕ → Bool
    pub next : ℕ
    pub objects : TellsObjects profile config rows there next
    pub names_are : later ≡ names_behind there next names words

-- behind these rows the words spell a row, and that is these of the collector: one, or none where it is one of jobs
pub record SpellsPart (profile : Profile) (config : Config) (rows : List Row) (names : Option (List Given))
    (words : List (List ℕ)) (part : List Row) (later : Option (List Given))
    : Type 0
  where
    pub naming : NamesBehind profile config rows names words later
    pub row : ScriptRow
    pub spelt : SpellsRow (with_numbers later words) row
    pub part_is : part ≡ world_row row.step row.reply

-- the rows of the collector that lines of words spell behind others, and the names then
abbrev pub AreRowsBehind :
    Profile → Config → List Row → Option (List Given) → List (List (List ℕ)) → List Row → Option (List Given) → Type 0
AreRowsBehind profile config front names [] rows last = (rows ≡ []) × (last ≡ names)
AreRowsBehind profile config front names (words ∷ lines) rows last =
    (part : List Row) × (rest : List Row) × (later : Option (List Given))
    × (rows ≡ part ++ rest)
    × SpellsPart profile config front names words part later
    × AreRowsBehind profile config (front ++ part) later lines rest last

-- from the first on
abbrev pub AreRows :
    Profile → Config → Option (List Given) → List (List (List ℕ)) → List Row → Option (List Given) → Type 0
AreRows profile config names lines rows last = AreRowsBehind profile config [] names lines rows last

-- behind these rows the words spell none
pub record SpellsNone (profile : Profile) (config : Config) (rows : List Row) (names : Option (List Given))
    (words : List (List ℕ)) (fault : LogFault)
    : Type 0
  where
    pub later : Option (List Given)
    pub naming : NamesBehind profile config rows names words later
    pub none : SpellsNoRow (with_numbers later words)
    pub fault_is : fault ≡ row_fault (with_numbers later words)
