-- A stream of lines as its callers see it.
use Rattle.std.specs.Prelude.{ℕ, Bool, not, ◌==◌, List}
use Rattle.std.specs.List.{list_all}
use Rattle.ref_script.specs.Lines.{TextLine}

-- the bytes that were read and belong to later lines, and the line that was read last: its bytes without its LF,
-- whether an LF ended it, and its number, 0 before the first
pub record Streamed : Type 0 where
  pub held : List ℕ
  pub line : List ℕ
  pub is_ended : Bool
  pub number : ℕ

-- the line that was read last
abbrev pub line_in : Streamed → TextLine
line_in s = record { bytes = s.line; is_ended = s.is_ended }

-- how many bytes may stand in a line before its LF
abbrev pub most_in_line : ℕ
most_in_line = 1000

-- how many bytes are asked for at a time
abbrev pub chunk_size : ℕ
chunk_size = 65536

-- no byte is an LF
abbrev pub has_no_lf : List ℕ → Bool
has_no_lf bytes = list_all (λ b. not (b == 10)) bytes
