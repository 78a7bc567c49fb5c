-- What the reading of a text has come to, line by line.
use Rattle.std.specs.Prelude.{◌≡◌, ℕ, ◌+◌, List, [], ◌∷◌, Option, Some, None, IfNone}
use Rattle.std.specs.Borrow.{Bor}
use Rattle.std.specs.List.{list_all}
use Rattle.ref_script.specs.Lines.{TextLine, content_of, words_of}
use Rattle.ref_script.specs.TextFaults.{Place, place_after, place_fault, end_fault, fault_or, first_fault}
use Rattle.ref_script.specs.TextFaults.{plain_fault}
use Rattle.ref_script.specs.ToldLines.{is_plain_line, told}
use Rattle.ref_text.specs.declared.fault.TextFault.{TextFault}
use Rattle.ref_text.specs.declared.fault.TextFault.TheVariants as texts

-- want of memory, or the fault of the text
abbrev pub FailsFor : TextFault → Option TextFault → Type 0
FailsFor texts.NoMemory fault = Unit {0}
FailsFor (texts.Line k f) fault = fault ≡ Some (texts.Line k f)
FailsFor texts.TooLong fault = fault ≡ Some texts.TooLong
FailsFor texts.CannotRead fault = ⊥
FailsFor texts.CannotWrite fault = ⊥

-- the lines of a text that are still to read, and the number of the line that was read last
pub record LinesLeft : Type 0 where
  pub lines : List TextLine
  pub number : ℕ

-- the words of the line that was found, in front of those behind it
abbrev pub in_front : Option (Bor (List ℕ)) → List (List (List ℕ)) → List (List (List ℕ))
in_front None lines = lines
in_front (Some content) lines = words_of content.now ∷ lines

-- the fault of that line, or the first behind it
abbrev pub fault_from : Place → Option (Bor (List ℕ)) → LinesLeft → Option TextFault
fault_from place None left = fault_or (left.number + 1) (end_fault place) None
fault_from place (Some content) left =
    fault_or left.number (place_fault place (words_of content.now))
    (first_fault (place_after place (words_of content.now)) (left.number + 1) left.lines)

-- the next line was read, which is short enough and ASCII, and its words stand in this
pub record ReadsLine (before : LinesLeft) (content : List ℕ) (after : LinesLeft) : Type 0 where
  pub line : TextLine
  pub lines : before.lines ≡ line ∷ after.lines
  pub number : after.number ≡ before.number + 1
  pub plain : plain_fault line ≡ None
  pub content_is : content ≡ content_of line

-- the next line was read, as `ReadsLine` says, if there was one
abbrev pub ReadsAny : LinesLeft → Option (Bor (List ℕ)) → LinesLeft → Type 0
ReadsAny before None after = (before.lines ≡ []) × (after ≡ before)
ReadsAny before (Some content) after = ReadsLine before content.now after

-- of the lines that were left, one that says something was found, if there was one, and the others are left
pub record Finds (before : LinesLeft) (content : Option (Bor (List ℕ))) (after : LinesLeft) : Type 0 where
  pub told : told before.lines ≡ in_front content (told after.lines)
  pub plain : list_all is_plain_line before.lines ≡ list_all is_plain_line after.lines
  pub fault : (place : Place) → first_fault place (before.number + 1) before.lines ≡ fault_from place content after
  pub done : IfNone content (after.lines ≡ [])
