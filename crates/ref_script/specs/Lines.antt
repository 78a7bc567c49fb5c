-- How a text falls into lines, and a line into words (this project's profile).
use Rattle.std.specs.Prelude.{ℕ, Bool, true, false, not, if◌then◌else◌, ◌==◌, List, [], ◌∷◌}

-- how many bytes a text has at most
abbrev pub most_bytes : ℕ
most_bytes = 4194304

-- a line: the bytes before its LF, and whether an LF ends it
pub record TextLine : Type 0 where
  pub bytes : List ℕ
  pub is_ended : Bool

-- a byte more in front of the first line
abbrev pub onto_line : ℕ → List TextLine → List TextLine
onto_line b [] = record { bytes = b ∷ []; is_ended = false } ∷ []
onto_line b (line ∷ lines) = record { bytes = b ∷ line.bytes; is_ended = line.is_ended } ∷ lines

-- the lines of a text: an LF ends a line and begins none
abbrev pub lines_of : List ℕ → List TextLine
lines_of [] = []
lines_of (b ∷ bs) = if b == 10 then record { bytes = []; is_ended = true } ∷ lines_of bs else onto_line b (lines_of bs)

-- without one CR at the end
abbrev pub without_cr : List ℕ → List ℕ
without_cr [] = []
without_cr (b ∷ []) = if b == 13 then [] else b ∷ []
without_cr (b ∷ c ∷ bs) = b ∷ without_cr (c ∷ bs)

-- the bytes that the words of a line stand in: a CR right before an LF belongs to the line's end
abbrev pub content_of : TextLine → List ℕ
content_of line = if line.is_ended then without_cr line.bytes else line.bytes

-- a word goes on behind this place
abbrev pub goes_on : List ℕ → Bool
goes_on [] = false
goes_on (b ∷ bs) = not (b == 32)

-- a byte more in front of the first word, or a word of its own
abbrev pub onto_word : Bool → ℕ → List (List ℕ) → List (List ℕ)
onto_word true b [] = (b ∷ []) ∷ []
onto_word true b (w ∷ ws) = (b ∷ w) ∷ ws
onto_word false b ws = (b ∷ []) ∷ ws

-- the words of a line, parted by spaces
abbrev pub words_of : List ℕ → List (List ℕ)
words_of [] = []
words_of (b ∷ bs) = if b == 32 then words_of bs else onto_word (goes_on bs) b (words_of bs)
