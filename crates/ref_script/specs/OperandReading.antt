-- How the operands of a step are read, one by one: what is missing or not of its form is told at the end.
use Rattle.std.specs.Prelude.{◌≡◌, ℕ, Bool, true, false, not, ◌||◌, if◌then◌else◌, List, [], ◌∷◌, ◌++◌, Option, Some}
use Rattle.std.specs.Prelude.{None}
use Rattle.ref_base.specs.Texts.{Word, Letters}
use Rattle.ref_script.specs.Lines.{words_of}
use Rattle.ref_script.specs.ScriptSteps.{script_step_words}
use Rattle.ref_script.specs.Spelling.{AreSpelt}
use Rattle.ref_script.specs.StepFaults.{fits}
use Rattle.ref_script.specs.StepForms.{Operand, Form, operands_in}
use Rattle.ref_text.specs.declared.fault.LineFault.{LineFault}
use Rattle.ref_text.specs.declared.fault.LineFault.TheVariants.{MissingWord, BadWord, ExtraWord}
use Rattle.ref_script.specs.declared.operands.Operands.{Operands}
use Rattle.ref_script.specs.declared.script_step.ScriptStep.{ScriptStep}

-- the words that are left, whether one was missing, and whether one wasn't of its form
pub record Reading : Type 0 where
  pub words : List (List ℕ)
  pub is_missing : Bool
  pub is_bad : Bool

abbrev pub reading : Operands → Reading
reading o = record { words = words_of o.rest.now; is_missing = o.is_missing; is_bad = o.is_bad }

-- before any is taken
abbrev pub unread : List (List ℕ) → Reading
unread words = record { words = words; is_missing = false; is_bad = false }

abbrev pub first_of : List (List ℕ) → List ℕ
first_of [] = []
first_of (w ∷ ws) = w

abbrev pub behind_first : List (List ℕ) → List (List ℕ)
behind_first [] = []
behind_first (w ∷ ws) = ws

abbrev pub is_over : List (List ℕ) → Bool
is_over [] = true
is_over (w ∷ ws) = false

-- the next word is taken for this operand
abbrev pub taken : Operand → Reading → Reading
taken operand r = record {
  words = behind_first r.words;
  is_missing = r.is_missing || is_over r.words;
  is_bad = r.is_bad || not (fits operand (first_of r.words));
}

-- and the next words for these
abbrev pub all_taken : List Operand → Reading → Reading
all_taken [] r = r
all_taken (o ∷ operands) r = all_taken operands (taken o r)

-- what is wrong where no more is wanted
abbrev pub fault_at_end : Reading → Option LineFault
fault_at_end r =
    if r.is_missing then Some MissingWord else
    (if r.is_bad then Some BadWord else (if is_over r.words then None else Some ExtraWord))

-- nothing was wrong so far, and the words that are left spell these
pub record IsUnfaulted (r : Reading) (words : List Word) : Type 0 where
  pub is_enough : r.is_missing ≡ false
  pub is_good : r.is_bad ≡ false
  pub spelt : AreSpelt r.words words

-- from one reading to the other, words are taken for these operands; they spell these, unless something is wrong
pub record IsRead (operands : List Operand) (a b : Reading) (words : List Word) : Type 0 where
  pub taken : b ≡ all_taken operands a
  pub spelt : (more : List Word) → IsUnfaulted b more → IsUnfaulted a (words ++ more)

abbrev pub IsReadBy : Option (List Operand) → Reading → Reading → List Word → Type 0
IsReadBy None a b words = ⊥
IsReadBy (Some operands) a b words = IsRead operands a b words

-- behind a name stand the operands of its form, and behind an actor such a name
abbrev pub IsReadNamed : Option (List Operand) → List ℕ → Reading → Reading → List Word → Type 0
IsReadNamed operands name a b (Letters letters ∷ words) = (letters ≡ name) × IsReadBy operands a b words
IsReadNamed operands name a b other = ⊥

abbrev pub IsReadBehind : Option (List Operand) → Word → List ℕ → Reading → Reading → List Word → Type 0
IsReadBehind operands actor name a b [] = ⊥
IsReadBehind operands actor name a b (first ∷ words) = (first ≡ actor) × IsReadNamed operands name a b words

-- the step of an actor with a name, if it is one of these, and how its operands were read
abbrev pub IsReadAs : List Form → Word → List ℕ → Operands → Operands → Option ScriptStep → Type 0
IsReadAs forms actor name old new None = operands_in forms name ≡ None
IsReadAs forms actor name old new (Some step) =
    IsReadBehind (operands_in forms name) actor name (reading old) (reading new) (script_step_words step)
