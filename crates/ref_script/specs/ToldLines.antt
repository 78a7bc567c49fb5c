-- What the lines of a text say, whether it is a script or a graph text (this project's profile).
use Rattle.std.specs.Prelude.{ℕ, Bool, true, false, ◌&&◌, if◌then◌else◌, ◌==◌, nat_le, List, [], ◌∷◌, length}
use Rattle.std.specs.List.{list_all}
use Rattle.std.specs.Char.{is_ascii}
use Rattle.std.specs.Str.{bytes_eq}
use Rattle.ref_script.specs.Lines.{TextLine, content_of, words_of}

-- at most 200 bytes, and each of them ASCII, whatever the line says
abbrev pub is_short : TextLine → Bool
is_short line = nat_le (length line.bytes) 200

abbrev pub is_ascii_line : TextLine → Bool
is_ascii_line line = list_all is_ascii line.bytes

abbrev pub is_plain_line : TextLine → Bool
is_plain_line line = is_short line && is_ascii_line line

-- a blank line, or one whose first word begins with `#`, says nothing
abbrev pub begins_remark : List ℕ → Bool
begins_remark [] = false
begins_remark (b ∷ bs) = b == 35

abbrev pub says_nothing : List (List ℕ) → Bool
says_nothing [] = true
says_nothing (word ∷ words) = begins_remark word

abbrev pub line_words : TextLine → List (List ℕ)
line_words line = words_of (content_of line)

-- the words of each line that says something
abbrev pub told : List TextLine → List (List (List ℕ))
told [] = []
told (line ∷ lines) = if says_nothing (line_words line) then told lines else line_words line ∷ told lines

-- the words of a header: this name, and this word as its version
abbrev pub is_titled : List ℕ → List ℕ → List (List ℕ) → Bool
is_titled title version (name ∷ word ∷ []) = bytes_eq name title && bytes_eq word version
is_titled title version other = false
