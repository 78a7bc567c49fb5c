-- What an answer says, whatever the text that was read is to print.
use Rattle.std.specs.Prelude.{◌≡◌, ℕ, Bool, true, false, List, Option, Some, Result, Ok, Err, ◌⊎◌}
use Rattle.std.specs.Io.KnownBytes.{Keeps, Appends}
use Rattle.ref_text.specs.Streams.{AppendsPrefix}
use Rattle.ref_text.specs.declared.fault.TextFault.{TextFault}
use Rattle.ref_text.specs.declared.fault.TextFault.TheVariants.{Line, TooLong, CannotRead, CannotWrite, NoMemory}

-- What an answer says of the text that was read, by what it prints where it has no fault and by its fault where it has
-- one, and of what had gone out before the call and has now.
abbrev pub AnswersText : {T : Type 0} → (List ℕ → Type 0) → Option TextFault → Option (List ℕ) → Option (List ℕ)
    → Result T TextFault → Type 0
-- all that it prints has gone out
AnswersText Prints fault old new (Ok _) = (printed : List ℕ) × Prints printed × Appends old new printed
-- a prefix of it has
AnswersText Prints fault old new (Err CannotWrite) =
    (printed : List ℕ) × Prints printed × AppendsPrefix old new printed
-- nothing has, and this is the text's fault
AnswersText Prints fault old new (Err (Line k f)) = (fault ≡ Some (Line k f)) × Keeps old new
AnswersText Prints fault old new (Err TooLong) = (fault ≡ Some TooLong) × Keeps old new
-- nothing has
AnswersText Prints fault old new (Err CannotRead) = Keeps old new
AnswersText Prints fault old new (Err NoMemory) = Keeps old new

-- nothing goes out but at the end of a call that was not given up before
abbrev pub KeepsUnlessDone : {T : Type 0} → Option (List ℕ) → Option (List ℕ) → Result T TextFault → Type 0
KeepsUnlessDone old new (Ok _) = Unit {0}
KeepsUnlessDone old new (Err CannotWrite) = Unit {0}
KeepsUnlessDone old new (Err (Line k fault)) = Keeps old new
KeepsUnlessDone old new (Err TooLong) = Keeps old new
KeepsUnlessDone old new (Err CannotRead) = Keeps old new
KeepsUnlessDone old new (Err NoMemory) = Keeps old new

-- a faulty text is answered by its fault, unless reading failed or memory ran out
abbrev pub TellsFault : {T : Type 0} → TextFault → Result T TextFault → Type 0
TellsFault fault (Ok _) = ⊥
TellsFault fault (Err e) = (e ≡ fault) ⊎ ((e ≡ CannotRead) ⊎ (e ≡ NoMemory))

abbrev pub is_cannot_read : {T : Type 0} → Result T TextFault → Bool
is_cannot_read (Ok _) = false
is_cannot_read (Err (Line k fault)) = false
is_cannot_read (Err TooLong) = false
is_cannot_read (Err CannotRead) = true
is_cannot_read (Err CannotWrite) = false
is_cannot_read (Err NoMemory) = false

abbrev pub is_cannot_write : {T : Type 0} → Result T TextFault → Bool
is_cannot_write (Ok _) = false
is_cannot_write (Err (Line k fault)) = false
is_cannot_write (Err TooLong) = false
is_cannot_write (Err CannotRead) = false
is_cannot_write (Err CannotWrite) = true
is_cannot_write (Err NoMemory) = false
