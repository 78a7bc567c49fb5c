-- The grammar of a graph text (this project's profile).
use Rattle.std.specs.Prelude.{◌≡◌, ℕ, Bool, true, nat_le, List, [], ◌∷◌, length, codes}
use Rattle.std.specs.List.{list_all}
use Rattle.ref_base.specs.Graphs.{Graph}
use Rattle.ref_script.specs.Declarations.{Declared, SpellsDeclared, NoneTwice, declared_graph}
use Rattle.ref_script.specs.Lines.{TextLine, lines_of, most_bytes}
use Rattle.ref_script.specs.ToldLines.{is_plain_line, told, is_titled}

-- the words of the header
abbrev pub is_graph_header : List (List ℕ) → Bool
is_graph_header words = is_titled (codes "refgraph") (codes "1") words

-- each line spells what it says
abbrev pub SpellAll : List (List (List ℕ)) → List Declared → Type 0
SpellAll [] [] = Unit {0}
SpellAll [] (d ∷ ds) = ⊥
SpellAll (words ∷ lines) [] = ⊥
SpellAll (words ∷ lines) (d ∷ ds) = SpellsDeclared words d × SpellAll lines ds

-- the header, and what each further line says
abbrev pub SpellGraph : List (List (List ℕ)) → List Declared → Type 0
SpellGraph [] ds = ⊥
SpellGraph (header ∷ lines) ds = (is_graph_header header ≡ true) × SpellAll lines ds

-- the lines say just these, and no object is declared twice
pub record SayAll (lines : List TextLine) (ds : List Declared) : Type 0 where
  pub plain : list_all is_plain_line lines ≡ true
  pub told : SpellGraph (told lines) ds
  pub none_twice : NoneTwice [] ds

-- the lines declare this graph
pub record DeclareGraph (lines : List TextLine) (graph : Graph) : Type 0 where
  pub declared : List Declared
  pub said : SayAll lines declared
  pub graph_is : graph ≡ declared_graph declared

-- the text declares this graph
pub record DeclaresGraph (text : List ℕ) (graph : Graph) : Type 0 where
  pub short : nat_le (length text) most_bytes ≡ true
  pub lines : DeclareGraph (lines_of text) graph
