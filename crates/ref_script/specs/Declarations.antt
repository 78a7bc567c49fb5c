-- The grammar of a line of a graph text: which words declare which root or object, and what graph the declarations are
-- of (this project's profile).
use Rattle.std.specs.Prelude.{◌≡◌, ℕ, ◌^◌, ◌≤◌, Bool, false, List, [], ◌∷◌, length, Option, Some, None, codes}
use Rattle.ref_base.specs.Members.{has}
use Rattle.ref_base.specs.Graphs.{Graph, empty_graph, with_object, with_root, plain_object, reference_object}
use Rattle.ref_base.specs.declared.strength.Strength.{Strength}
use Rattle.ref_base.specs.Steps.{strength_name}
use Rattle.ref_script.specs.Numerals.{number_below}

-- what a line says: a root; a plain object, by its number and fields; or a reference, by its number, its strength, its
-- referent and its fields
pub data Declared : Type 0 where
  Root : ℕ → Declared
  Plain : ℕ → List (Option ℕ) → Declared
  Reference : ℕ → Strength → Option ℕ → List (Option ℕ) → Declared

-- ---- the words

-- a word spells an object's number, with any leading zeros
abbrev pub SpellsObject : List ℕ → ℕ → Type 0
SpellsObject word n = (number_below (2 ^ 32) word ≡ Some n) × (1 ≤ n)

-- a word spells an object's number, or is `-`
abbrev pub SpellsObjectOrNone : List ℕ → Option ℕ → Type 0
SpellsObjectOrNone word None = word ≡ codes "-"
SpellsObjectOrNone word (Some n) = SpellsObject word n

-- each word spells its field
abbrev pub SpellFields : List (List ℕ) → List (Option ℕ) → Type 0
SpellFields [] [] = Unit {0}
SpellFields [] (field ∷ fields) = ⊥
SpellFields (word ∷ words) [] = ⊥
SpellFields (word ∷ words) (field ∷ fields) = SpellsObjectOrNone word field × SpellFields words fields

-- the words of a line spell a root
abbrev pub SpellsRoot : List (List ℕ) → ℕ → Type 0
SpellsRoot (name ∷ word ∷ []) n = (name ≡ codes "root") × SpellsObject word n
SpellsRoot words n = ⊥

-- the words of a line spell a plain object, with at most 8 fields
abbrev pub SpellsPlain : List (List ℕ) → ℕ → List (Option ℕ) → Type 0
SpellsPlain (name ∷ word ∷ words) n fields =
    (name ≡ codes "plain") × SpellsObject word n × SpellFields words fields × (length fields ≤ 8)
SpellsPlain words n fields = ⊥

-- the words of a line spell a reference, with at most 8 fields
abbrev pub SpellsReference : List (List ℕ) → ℕ → Strength → Option ℕ → List (Option ℕ) → Type 0
SpellsReference (name ∷ word ∷ other ∷ words) n strength referent fields =
    (name ≡ strength_name strength) × SpellsObject word n × SpellsObjectOrNone other referent ×
    SpellFields words fields × (length fields ≤ 8)
SpellsReference words n strength referent fields = ⊥

-- the words of a line spell what it says
abbrev pub SpellsDeclared : List (List ℕ) → Declared → Type 0
SpellsDeclared words (Root n) = SpellsRoot words n
SpellsDeclared words (Plain n fields) = SpellsPlain words n fields
SpellsDeclared words (Reference n strength referent fields) = SpellsReference words n strength referent fields

-- ---- the numbers

-- the number of the object that a line declares, if it declares one
abbrev pub declared_no : Declared → Option ℕ
declared_no (Root n) = None
declared_no (Plain n fields) = Some n
declared_no (Reference n strength referent fields) = Some n

-- whether there is a number, and it is one of those that are declared
abbrev pub is_declared : List ℕ → Option ℕ → Bool
is_declared seen None = false
is_declared seen (Some n) = has seen n

-- the numbers that are declared, with one more if there is one
abbrev pub with_declared_no : List ℕ → Option ℕ → List ℕ
with_declared_no seen None = seen
with_declared_no seen (Some n) = n ∷ seen

-- no line declares an object of one of these numbers, or of a number that a line before it declares
abbrev pub NoneTwice : List ℕ → List Declared → Type 0
NoneTwice seen [] = Unit {0}
NoneTwice seen (d ∷ ds) =
    (is_declared seen (declared_no d) ≡ false) × NoneTwice (with_declared_no seen (declared_no d)) ds

-- ---- the graph

-- the graph with what a line says
abbrev pub with_declared : Graph → Declared → Graph
with_declared g (Root n) = record g { roots = with_root g.roots n }
with_declared g (Plain n fields) = record g { objects = with_object g.objects (plain_object n fields) }
with_declared g (Reference n strength referent fields) =
    record g { objects = with_object g.objects (reference_object n strength referent fields) }

-- the graph with what all lines say
abbrev pub with_all : Graph → List Declared → Graph
with_all g [] = g
with_all g (d ∷ ds) = with_all (with_declared g d) ds

-- the graph that the lines declare
abbrev pub declared_graph : List Declared → Graph
declared_graph ds = with_all empty_graph ds
