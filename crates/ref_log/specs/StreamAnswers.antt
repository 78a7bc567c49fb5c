-- What the calls of a stream of lines answer.
use Rattle.std.specs.Prelude.{◌≡◌, ℕ, ◌+◌, ◌-◌, ◌^◌, ◌<◌, ◌≤◌, Bool, true, false, List, [], ◌∷◌, ◌++◌, length, Option}
use Rattle.std.specs.Prelude.{Some, Result, Ok, Err}
use Rattle.std.specs.Io.KnownBytes.{Keeps, IsAtEnd, prepend_known}
use Rattle.ref_script.specs.Lines.{TextLine, lines_of}
use Rattle.ref_log.specs.Streams.{Streamed, line_in, most_in_line, has_no_lf}
use Rattle.ref_log.specs.declared.stream.StreamFault.{StreamFault}
use Rattle.ref_log.specs.declared.stream.StreamFault.TheVariants.{TooLong, NumbersSpent, CannotRead, NoMemory}
use Rattle.ref_text.specs.declared.source.ReadError.{ReadError}
use Rattle.ref_text.specs.declared.source.ReadError.TheVariants as reads

-- the first line of a text is too long
pub record BeginsTooLong (text : List ℕ) : Type 0 where
  pub line : TextLine
  pub later : List TextLine
  pub lines : lines_of text ≡ line ∷ later
  pub too_long : most_in_line < length line.bytes

-- What an advance answers of the text that was there before it, held or still to read, where it is known; what the
-- reader has left then, and the stream.
abbrev pub Advances : List ℕ → Option (List ℕ) → Streamed → Result Bool StreamFault → Type 0
-- its first line was read, and the others are left
Advances text left new (Ok true) =
    (rest : List ℕ) × (left ≡ Some rest) × (lines_of text ≡ line_in new ∷ lines_of (new.held ++ rest))
-- it was empty, and is
Advances text left new (Ok false) = (text ≡ []) × (left ≡ Some []) × (new.held ≡ [])
Advances text left new (Err TooLong) = BeginsTooLong text
Advances text left new (Err NumbersSpent) = Unit {0}
Advances text left new (Err CannotRead) = Unit {0}
Advances text left new (Err NoMemory) = Unit {0}

-- The number of the line that was read last, before an advance and after it: each line that was begun has one more, and
-- behind the greatest number none is begun.
abbrev pub CountsLine : ℕ → ℕ → Result Bool StreamFault → Type 0
CountsLine old new (Ok true) = (new ≡ old + 1) × (new < 2 ^ 64)
CountsLine old new (Ok false) = new ≡ old
CountsLine old new (Err TooLong) = new ≡ old + 1
CountsLine old new (Err NumbersSpent) = old ≡ 2 ^ 64 - 1
CountsLine old new (Err CannotRead) = Unit {0}
CountsLine old new (Err NoMemory) = Unit {0}

-- the answer is that a read failed
abbrev pub is_reading_failed : {T : Type 0} → Result T StreamFault → Bool
is_reading_failed (Ok _) = false
is_reading_failed (Err TooLong) = false
is_reading_failed (Err NumbersSpent) = false
is_reading_failed (Err CannotRead) = true
is_reading_failed (Err NoMemory) = false

-- the fault of a stream to which a read gave nothing
abbrev pub stream_fault_of : ReadError → StreamFault
stream_fault_of reads.Failed = CannotRead
stream_fault_of reads.NoMemory = NoMemory

-- a read gave nothing
abbrev pub IsReadFault : StreamFault → Type 0
IsReadFault TooLong = ⊥
IsReadFault NumbersSpent = ⊥
IsReadFault CannotRead = Unit {0}
IsReadFault NoMemory = Unit {0}

-- a text that is held or still to read stays, and whether some of it is held now tells whether it is over
pub record HoldsSome (before now : List ℕ) (old new : Option (List ℕ)) (is_more : Bool) : Type 0 where
  pub text : Keeps (prepend_known before old) (prepend_known now new)
  pub some : is_more ≡ true → 0 < length now
  pub none : is_more ≡ false → (now ≡ []) × IsAtEnd new

-- the LF that was taken too, where one was
abbrev pub behind_lf : Bool → List ℕ → List ℕ
behind_lf true held = 10 ∷ held
behind_lf false held = held

-- what is held of a line went to the line, and its LF is taken where it was held too
pub record TakesPiece (old new : Streamed) (is_whole : Bool) : Type 0 where
  pub piece : List ℕ
  pub line : new.line ≡ old.line ++ piece
  pub no_lf : has_no_lf piece ≡ true
  pub held : old.held ≡ piece ++ behind_lf is_whole new.held
  pub is_ended : new.is_ended ≡ is_whole
  pub short : length new.line ≤ most_in_line
  pub more : is_whole ≡ false → 0 < length piece

-- what is held of a line is too much for it
pub record HoldsTooMuch (old : Streamed) : Type 0 where
  pub piece : List ℕ
  pub rest : List ℕ
  pub held : old.held ≡ piece ++ rest
  pub no_lf : has_no_lf piece ≡ true
  pub too_long : most_in_line < length (old.line ++ piece)
