-- What is told of a text that C gives, and what stands in its buffer then (this project's profile).
use Rattle.std.specs.Prelude.{ℕ, ◌≡◌, ◌<◌, ◌≤◌, nat_le, if◌then◌else◌, List, ◌++◌, length, drop, Option, Some, Result}
use Rattle.std.specs.Prelude.{Ok, Err}
use Rattle.ref_script.specs.Listings.{PrintsStrengths}
use Rattle.ref_script.specs.TextFaults.{graph_fault, script_fault}
use Rattle.ref_text.specs.declared.fault.LineFault.{LineFault}
use Rattle.ref_text.specs.declared.fault.LineFault.TheVariants as lines
use Rattle.ref_text.specs.declared.fault.TextFault.{TextFault}
use Rattle.ref_text.specs.declared.fault.TextFault.TheVariants as texts
use Rattle.refrun.specs.JobViews.{answering_jobs, plain_note, plain_number}
use Rattle.refrun.specs.Traces.{PrintsTrace}
use Rattle.ref_text_c.specs.declared.answer.RefText.{RefText}
use Rattle.ref_text_c.specs.declared.answer.TextAnswer.{TextAnswer}
use Rattle.ref_text_c.specs.declared.answer.TextAnswer.TheVariants.{Printed, NoRoom, Faulty, TooLong, NoMemory}

-- ---- numbers

abbrev pub line_fault_number : LineFault → ℕ
line_fault_number lines.LineTooLong = 1
line_fault_number lines.NotAscii = 2
line_fault_number lines.BadHeader = 3
line_fault_number lines.BadConfig = 4
line_fault_number lines.UnknownStep = 5
line_fault_number lines.UnknownLine = 6
line_fault_number lines.MissingWord = 7
line_fault_number lines.BadWord = 8
line_fault_number lines.ExtraWord = 9
line_fault_number lines.DoubleObject = 10

abbrev pub of_status : ℕ → RefText
of_status status = record { status = status; fault = 0; line = 0; length = 0 }

abbrev pub text_numbers : TextAnswer → RefText
text_numbers (Printed n) = record (of_status 0) { length = n }
text_numbers (NoRoom n) = record (of_status 1) { length = n }
text_numbers (Faulty k fault) = record (of_status 2) { fault = line_fault_number fault; line = k }
text_numbers TooLong = of_status 3
text_numbers NoMemory = of_status 4

-- ---- what is told

-- What is told of a text, by what it prints where it has no fault and by its fault where it has one, and what stands
-- in a buffer then.
abbrev pub TellsText : (List ℕ → Type 0) → Option TextFault → List ℕ → TextAnswer → List ℕ → Type 0
-- all that it prints is at the buffer's front
TellsText Prints fault buffer (Printed n) left =
    (printed : List ℕ) × Prints printed × (n ≡ length printed) × (n ≤ length buffer)
    × (left ≡ printed ++ drop n buffer)
-- it prints more than there is room for
TellsText Prints fault buffer (NoRoom n) left =
    (printed : List ℕ) × Prints printed × (n ≡ length printed) × (length buffer < n) × (left ≡ buffer)
-- it has a fault
TellsText Prints fault buffer (Faulty k of_line) left = (fault ≡ Some (texts.Line k of_line)) × (left ≡ buffer)
TellsText Prints fault buffer TooLong left = (fault ≡ Some texts.TooLong) × (left ≡ buffer)
TellsText Prints fault buffer NoMemory left = left ≡ buffer

-- a script, with the jobs of `refrun run`
abbrev pub RunsText : List ℕ → List ℕ → TextAnswer → List ℕ → Type 0
RunsText script = TellsText (PrintsTrace plain_number plain_note answering_jobs script) (script_fault script)

-- a graph
abbrev pub ListsText : List ℕ → List ℕ → TextAnswer → List ℕ → Type 0
ListsText graph = TellsText (PrintsStrengths graph) (graph_fault graph)

-- ---- what a call that was answered so tells

-- of so many bytes that are printed, where there is so much room
abbrev pub told_by_room : ℕ → ℕ → TextAnswer
told_by_room n room = if nat_le n room then Printed n else NoRoom n

-- what stands in the buffer then
abbrev pub buffer_by_room : List ℕ → List ℕ → List ℕ
buffer_by_room printed buffer =
    if nat_le (length printed) (length buffer) then printed ++ drop (length printed) buffer else buffer

module _ {T : Type 0} where
  abbrev pub answer_told : Result T TextFault → ℕ → ℕ → TextAnswer
  answer_told (Ok done) n room = told_by_room n room
  answer_told (Err (texts.Line k fault)) n room = Faulty k fault
  answer_told (Err texts.TooLong) n room = TooLong
  answer_told (Err texts.CannotRead) n room = NoMemory
  answer_told (Err texts.CannotWrite) n room = NoMemory
  answer_told (Err texts.NoMemory) n room = NoMemory

  abbrev pub buffer_left : Result T TextFault → List ℕ → List ℕ → List ℕ
  buffer_left (Ok done) printed buffer = buffer_by_room printed buffer
  buffer_left (Err fault) printed buffer = buffer
