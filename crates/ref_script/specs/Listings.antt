-- What a listing of strengths prints.
use Rattle.std.specs.Prelude.{◌≡◌, ℕ, List, [], ◌∷◌, ◌++◌, decimal, Option, Result}
use Rattle.ref_base.specs.Graphs.{Graph}
use Rattle.ref_base.specs.ReachNames.{name_of_reach}
use Rattle.ref_base.specs.Strengths.{AreStrengths}
use Rattle.ref_base.specs.declared.reach.ObjectReach.{ObjectReach}
use Rattle.ref_script.specs.Answers.{AnswersText}
use Rattle.ref_script.specs.GraphTexts.{DeclaresGraph}
use Rattle.ref_script.specs.TextFaults.{graph_fault}
use Rattle.ref_text.specs.declared.fault.TextFault.{TextFault}

-- the line of an object: its number, a space, and the name of its strength
abbrev pub listing_line : ObjectReach → List ℕ
listing_line l = decimal l.object ++ 32 ∷ name_of_reach l.reach ++ 10 ∷ []

-- a line for each object
abbrev pub listing_text : List ObjectReach → List ℕ
listing_text [] = []
listing_text (l ∷ ls) = listing_line l ++ listing_text ls

-- what is printed is the listing of the strengths of a graph's objects, by number
pub record ListsStrengths (graph : Graph) (printed : List ℕ) : Type 0 where
  pub listed : List ObjectReach
  pub strengths : AreStrengths graph listed
  pub is_text : printed ≡ listing_text listed

-- what is printed is the listing of the strengths of the graph that the text declares
pub record PrintsStrengths (text printed : List ℕ) : Type 0 where
  pub graph : Graph
  pub declares : DeclaresGraph text graph
  pub lists : ListsStrengths graph printed

-- What an answer says of the text that was read, and of what had gone out before the call and has now.
abbrev pub AnswersStrengths : {T : Type 0} → List ℕ → Option (List ℕ) → Option (List ℕ) → Result T TextFault → Type 0
AnswersStrengths text old new result = AnswersText (PrintsStrengths text) (graph_fault text) old new result
