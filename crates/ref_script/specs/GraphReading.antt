-- What the reading of a graph text has come to, line by line.
use Rattle.std.specs.Prelude.{◌≡◌, ℕ, Bool, false, not, List, [], Option, Some, None}
use Rattle.ref_base.specs.Graphs.{Graph, is_there}
use Rattle.ref_base.specs.Members.{has}
use Rattle.ref_script.specs.Declarations.{Declared, SpellsDeclared, declared_no, NoneTwice, with_declared}
use Rattle.ref_script.specs.Declarations.{declared_graph}
use Rattle.ref_script.specs.GraphTexts.{SpellAll}
use Rattle.ref_script.specs.LineReading.{FailsFor}
use Rattle.ref_script.specs.TextFaults.{Declarations, place_fault, fault_or}
use Rattle.ref_text.specs.declared.fault.TextFault.{TextFault}

-- the numbers are those of the graph's objects
abbrev pub AreNumbersOf : List ℕ → Graph → Type 0
AreNumbersOf seen g = (n : ℕ) → has seen n ≡ is_there g.objects n

-- whether there is a number, and an object of it
abbrev pub has_object : Graph → Option ℕ → Bool
has_object g None = false
has_object g (Some n) = is_there g.objects n

-- what a line says was added, or else its object was there
pub record AddsObject (g h : Graph) (d : Declared) (added : Bool) : Type 0 where
  pub answer : added ≡ not (has_object g (declared_no d))
  pub after : h ≡ with_declared g d

-- the words of a line spell what was added, and no object of its number was there
pub record AddsDeclared (words : List (List ℕ)) (g h : Graph) : Type 0 where
  pub declared : Declared
  pub spelt : SpellsDeclared words declared
  pub is_new : has_object g (declared_no declared) ≡ false
  pub after : h ≡ with_declared g declared

-- the lines spell what the graph has, and no object is declared twice
pub record AddsAll (lines : List (List (List ℕ))) (g : Graph) : Type 0 where
  pub declared : List Declared
  pub spelt : SpellAll lines declared
  pub none_twice : NoneTwice [] declared
  pub graph_is : g ≡ declared_graph declared

-- want of memory, or the fault of the line of number k behind those that this graph is of
abbrev pub FailsAfter : List (List ℕ) → ℕ → Graph → TextFault → Type 0
FailsAfter words k g e =
    (seen : List ℕ) → AreNumbersOf seen g → FailsFor e (fault_or k (place_fault (Declarations seen) words) None)
