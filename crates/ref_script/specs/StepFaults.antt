-- What is wrong with the words of a line that spell no step: the first of its faults by kind, and not by place.
use Rattle.std.specs.Prelude.{ℕ, ◌^◌, Bool, true, false, not, ◌&&◌, ◌||◌, if◌then◌else◌, nat_lt, List, [], ◌∷◌}
use Rattle.std.specs.Prelude.{length}
use Rattle.std.specs.Prelude.{Option, Some, None, is_some, codes}
use Rattle.std.specs.Str.{bytes_eq}
use Rattle.ref_script.specs.Numerals.{number_below, number_behind}
use Rattle.ref_script.specs.StepForms.{Operand, Slot, Queue, QueueOrNone, Number, Clock, UrgencyName, operands_in}
use Rattle.ref_script.specs.StepForms.{forms_of_letter, turn_forms}
use Rattle.ref_text.specs.declared.fault.LineFault.{LineFault}
use Rattle.ref_text.specs.declared.fault.LineFault.TheVariants.{UnknownStep, MissingWord, BadWord, ExtraWord}

-- the word is of the operand's form
abbrev pub fits : Operand → List ℕ → Bool
fits Slot word = is_some (number_behind (codes "s") word)
fits Queue word = is_some (number_behind (codes "q") word)
fits QueueOrNone word = bytes_eq word (codes "-") || is_some (number_behind (codes "q") word)
fits Number word = is_some (number_below (2 ^ 32) word)
fits Clock word = is_some (number_below (2 ^ 64) word)
fits UrgencyName word = bytes_eq word (codes "normal") || bytes_eq word (codes "urgent")

-- each operand has its word, of its form; more words may follow
abbrev pub all_fit : List Operand → List (List ℕ) → Bool
all_fit [] words = true
all_fit (o ∷ operands) [] = false
all_fit (o ∷ operands) (w ∷ words) = fits o w && all_fit operands words

-- the fault of words that are to be operands
abbrev pub operand_fault : List Operand → List (List ℕ) → Option LineFault
operand_fault operands words =
    if nat_lt (length words) (length operands) then Some MissingWord else
    (if not (all_fit operands words) then Some BadWord else
    (if nat_lt (length operands) (length words) then Some ExtraWord else None))

-- the fault of an actor's number and the words behind a name, by the operands of the step if the name is one of a step:
-- the actor's number is an operand too
abbrev pub named_fault : Option (List Operand) → List ℕ → List (List ℕ) → Option LineFault
named_fault None number words = Some UnknownStep
named_fault (Some operands) number words = operand_fault (Number ∷ operands) (number ∷ words)

-- the fault of an actor and the words behind it
abbrev pub actor_fault : List ℕ → List (List ℕ) → Option LineFault
actor_fault [] words = Some UnknownStep
actor_fault (letter ∷ number) [] = Some UnknownStep
actor_fault (letter ∷ number) (name ∷ words) = named_fault (operands_in (forms_of_letter letter) name) number words

-- the fault of the words behind the name of a turn, or of an actor and the words behind it
abbrev pub turn_or_actor_fault : Option (List Operand) → List ℕ → List (List ℕ) → Option LineFault
turn_or_actor_fault (Some operands) first words = operand_fault operands words
turn_or_actor_fault None first words = actor_fault first words

-- the fault of the words of a line, if it has one
abbrev pub step_fault : List (List ℕ) → Option LineFault
step_fault [] = Some UnknownStep
step_fault (first ∷ words) = turn_or_actor_fault (operands_in turn_forms first) first words
