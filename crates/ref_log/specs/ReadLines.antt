-- What of a log was read, and what of it is still to read.
use Rattle.std.specs.Prelude.{◌≡◌, ℕ, ◌+◌, ◌^◌, ◌<◌, Bool, true, false, List, [], ◌∷◌, ◌++◌, length, Option, Some}
use Rattle.std.specs.Prelude.{Result, Ok, Err}
use Rattle.ref_log.specs.Streams.{Streamed, line_in, most_in_line}
use Rattle.ref_log.specs.declared.failure.LogFailure.{LogFailure}
use Rattle.ref_log.specs.declared.failure.LogFailure.TheVariants.{Line, CutOff, CannotRead, NoMemory}
use Rattle.ref_log.specs.declared.fault.LogFault.{LogFault}
use Rattle.ref_log.specs.declared.fault.LogFault.TheVariants.{LineTooLong, NotAscii, BadHeader, BadConfig}
use Rattle.ref_log.specs.declared.fault.LogFault.TheVariants.{BadProfile, UnknownStep, MissingWord, BadWord}
use Rattle.ref_log.specs.declared.fault.LogFault.TheVariants.{ExtraWord, NoReply}
use Rattle.ref_script.specs.Lines.{TextLine, lines_of}
use Rattle.ref_script.specs.ToldLines.{told, line_words, says_nothing, is_ascii_line}

-- line number k has this of what stands in front of it and of itself
pub record AtLine (lines : List TextLine) (k : ℕ) (P : List TextLine → TextLine → Type 0) : Type 0 where
  pub front : List TextLine
  pub line : TextLine
  pub back : List TextLine
  pub parts : lines ≡ front ++ line ∷ back
  pub number : k ≡ length front + 1
  pub has : P front line

-- of the lines of a text these were read, and the others are left: in the stream, and in what the reader has still to
-- give
pub record HasRead (lines read : List TextLine) (left : Option (List ℕ)) (s : Streamed) : Type 0 where
  pub text : List ℕ
  pub lines_are : lines ≡ lines_of text
  pub rest : List ℕ
  pub left_is : left ≡ Some rest
  pub parts : lines ≡ read ++ lines_of (s.held ++ rest)
  pub number : s.number ≡ length read

-- one line more was read, whatever it says, or none is left
abbrev pub IsPast : List TextLine → List TextLine → Option (List ℕ) → Streamed → Bool → Type 0
IsPast lines read left s true = HasRead lines (read ++ line_in s ∷ []) left s
IsPast lines read left s false = (lines ≡ read) × (s.number ≡ length read)

-- the line behind these was read, and says something, or none is left
abbrev pub IsAt : List TextLine → List TextLine → Option (List ℕ) → Streamed → Bool → Type 0
IsAt lines read left s true =
    (says_nothing (line_words (line_in s)) ≡ false) × HasRead lines (read ++ line_in s ∷ []) left s
IsAt lines read left s false = (lines ≡ read) × (s.number ≡ length read)

-- the next line that says something was found, if there is one: those between say nothing
pub record FindsTold (lines read : List TextLine) (left : Option (List ℕ)) (s : Streamed) (is_told : Bool) : Type 0
  where
    pub between : List TextLine
    pub silent : told between ≡ []
    pub at : IsAt lines (read ++ between) left s is_told

-- what a line is that no line of a log may be, whatever it says
abbrev pub IsUnplain : LogFault → TextLine → Type 0
IsUnplain LineTooLong line = most_in_line < length line.bytes
IsUnplain NotAscii line = is_ascii_line line ≡ false
IsUnplain BadHeader line = ⊥
IsUnplain BadConfig line = ⊥
IsUnplain BadProfile line = ⊥
IsUnplain UnknownStep line = ⊥
IsUnplain MissingWord line = ⊥
IsUnplain BadWord line = ⊥
IsUnplain ExtraWord line = ⊥
IsUnplain NoReply line = ⊥

-- behind what was read a line was to be read and wasn't: it is too long, or not ASCII, and the lines between say
-- nothing; or the read failed, or memory did
abbrev pub IsStopped : List TextLine → List TextLine → LogFailure → Type 0
IsStopped lines read (Line k fault) = AtLine lines k (λ front line. IsUnplain fault line × (told front ≡ told read))
IsStopped lines read (CutOff rows line) = ⊥
IsStopped lines read CannotRead = Unit {0}
IsStopped lines read NoMemory = Unit {0}

-- each line that was read has a number that is greater than those before
abbrev pub CountsOn : ℕ → ℕ → Result Bool LogFailure → Type 0
CountsOn old new (Ok true) = (old < new) × (new < 2 ^ 64)
CountsOn old new (Ok false) = Unit {0}
CountsOn old new (Err failure) = Unit {0}
