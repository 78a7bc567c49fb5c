-- What the reading of a text answers.
use Rattle.std.specs.Prelude.{◌≡◌, ℕ, List, ◌++◌, length, Option, Some, Result, Ok, Err, Vec}
use Rattle.std.specs.Io.KnownBytes.{Consumes, IsAtEnd}
use Rattle.ref_script.specs.TextFaults.{Place, fault_at}
use Rattle.ref_text.specs.declared.fault.TextFault.{TextFault}
use Rattle.ref_text.specs.declared.fault.TextFault.TheVariants.{Line, TooLong, CannotRead, CannotWrite, NoMemory}

-- what reading answers of the text that was there to read
abbrev pub ReadsText : {A : Type 0} → List ℕ → Result (Vec ℕ A) TextFault → Type 0
ReadsText text (Ok bytes) = bytes.items ≡ text
ReadsText text (Err (Line k fault)) = ⊥
ReadsText text (Err TooLong) = (place : Place) → fault_at place text ≡ Some TooLong
ReadsText text (Err CannotRead) = Unit {0}
ReadsText text (Err CannotWrite) = ⊥
ReadsText text (Err NoMemory) = Unit {0}

abbrev pub IsReadingFault : TextFault → Type 0
IsReadingFault (Line k fault) = ⊥
IsReadingFault TooLong = Unit {0}
IsReadingFault CannotRead = Unit {0}
IsReadingFault CannotWrite = ⊥
IsReadingFault NoMemory = Unit {0}

-- one read failed, or memory did
abbrev pub IsReadingFailure : TextFault → Type 0
IsReadingFailure (Line k fault) = ⊥
IsReadingFailure TooLong = ⊥
IsReadingFailure CannotRead = Unit {0}
IsReadingFailure CannotWrite = ⊥
IsReadingFailure NoMemory = Unit {0}

-- one read: its bytes were the next of the reader, and are the last of the text; there are none only at the end
pub record ReadsMore (old new : Option (List ℕ)) (text longer : List ℕ) (n : ℕ) : Type 0 where
  pub more : List ℕ
  pub appended : longer ≡ text ++ more
  pub count : length more ≡ n
  pub consumed : Consumes old new more
  pub at_end : n ≡ 0 → IsAtEnd new
