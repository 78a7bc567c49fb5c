-- From what a call answered and wrote to what is told of a text.
use Rattle.std.proofs.Common.{◌≡◌, ℕ, ◌++◌, List, [], length, drop, Bool, true, false, Option, Some, arith, refl, sym}
use Rattle.std.proofs.Common.{subst}
use Rattle.std.specs.Prelude.{nat_le, if◌then◌else◌, Result, Ok, Err, IfSome}
use Rattle.ref_script.specs.Answers.{AnswersText}
use Rattle.ref_text.specs.declared.fault.TextFault.{TextFault}
use Rattle.ref_text.specs.declared.fault.TextFault.TheVariants as texts
use Rattle.ref_text_c.specs.GivenTexts.{TellsText, buffer_left, answer_told}
use Rattle.ref_text_c.specs.declared.answer.TextAnswer.TheVariants.{Printed, NoRoom}

-- what is said of what a reader has is said of this text
pub answers_of_text : (Answers : List ℕ → Type 0) (text : List ℕ) (read : Option (List ℕ)) → read ≡ Some text
    → IfSome read Answers → Answers text
answers_of_text Answers text read is_text answers = subst (λ r. IfSome r Answers) is_text answers

-- what is printed is told by whether there is room
tells_printed : (Prints : List ℕ → Type 0) (fault : Option TextFault) (printed buffer : List ℕ) → Prints printed
    → (fits : Bool) → nat_le (length printed) (length buffer) ≡ fits
    → TellsText Prints fault buffer (if fits then Printed (length printed) else NoRoom (length printed))
    (if fits then printed ++ drop (length printed) buffer else buffer)
tells_printed Prints fault printed buffer prints true fits = (printed, prints, refl, grind arith, refl)
tells_printed Prints fault printed buffer prints false fits = (printed, prints, refl, grind arith, refl)

-- what was written behind nothing is what the text prints
pub tells_text : {T : Type 0} (Prints : List ℕ → Type 0) (fault : Option TextFault) (done : Result T TextFault)
    (printed buffer : List ℕ) → AnswersText Prints fault (Some []) (Some printed) done
    → TellsText Prints fault buffer (answer_told done (length printed) (length buffer))
    (buffer_left done printed buffer)
tells_text Prints fault (Ok done) printed buffer answers =
    tells_printed Prints fault printed buffer (subst Prints (sym answers.2) answers.1) _ refl
tells_text Prints fault (Err (texts.Line k of_line)) printed buffer answers = (answers.0, refl)
tells_text Prints fault (Err texts.TooLong) printed buffer answers = (answers.0, refl)
tells_text Prints fault (Err texts.CannotRead) printed buffer answers = refl
tells_text Prints fault (Err texts.CannotWrite) printed buffer answers = refl
tells_text Prints fault (Err texts.NoMemory) printed buffer answers = refl
