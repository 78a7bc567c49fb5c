-- How a line is read piece by piece.
use Rattle.ref_log.proofs.Common.{◌≡◌, ℕ, ◌+◌, ◌<◌, ◌≤◌, ◌^◌, Bool, true, false, List, [], ◌∷◌, ◌++◌, length}
use Rattle.ref_log.proofs.Common.{Option, Some, None, Ok, IfSome, refl, sym, ap, ◌∙◌, arith}
use Rattle.ref_log.proofs.Common.{append_assoc, append-nil, length-append, list_all-append}
use Rattle.ref_log.proofs.Common.{Consumes, Keeps, IsAtEnd, prepend_known, Streamed, has_no_lf, most_in_line}
use Rattle.ref_log.proofs.Common.{Advances, BeginsTooLong, HoldsSome, HoldsTooMuch, TakesPiece}
use Rattle.ref_log.proofs.FirstLines.{ended_line, last_line, begins_too_long}

-- a stream has read the front of the first line of a text, and the rest of the text is left
pub record IsInLine (before : List ℕ) (then : Option (List ℕ)) (s : Streamed) (now : Option (List ℕ)) : Type 0 where
  pub text : Consumes (prepend_known before then) (prepend_known s.held now) s.line
  pub no_lf : has_no_lf s.line ≡ true
  pub short : length s.line ≤ most_in_line

-- what holds between two pieces of a line: some of it is held, it has its number, and no read has failed
pub record IsReading (old s : Streamed) (then now : Option (List ℕ)) (failed_before failed_now : Bool) : Type 0 where
  pub line : IsInLine old.held then s now
  pub some : 0 < length s.held
  pub number : s.number ≡ old.number + 1
  pub fits : s.number < 2 ^ 64
  pub failed : failed_now ≡ failed_before

-- a line has one piece more
pub in_line_more : (before : List ℕ) (then : Option (List ℕ)) (s t : Streamed) (now : Option (List ℕ))
    → IsInLine before then s now → TakesPiece s t false → IsInLine before then t now
in_line_more before then s t now line takes = record {
  text = rw takes.line (grown before s.held t.held s.line takes.piece then now line.text takes.held);
  no_lf = rw takes.line (grind (arith, list_all-append, line.no_lf, takes.no_lf));
  short = takes.short;
}
  where
    grown : (before held held' bytes piece : List ℕ) (then now : Option (List ℕ))
        → Consumes (prepend_known before then) (prepend_known held now) bytes → held ≡ piece ++ held'
        → Consumes (prepend_known before then) (prepend_known held' now) (bytes ++ piece)
    grown before held held' bytes piece None now consumes held_is = tt
    grown before held held' bytes piece (Some rest) None consumes held_is = absurd consumes
    grown before held held' bytes piece (Some rest) (Some left) consumes held_is =
        consumes ∙ ap (λ (l : List ℕ). bytes ++ (l ++ left)) held_is
        ∙ ap (λ (l : List ℕ). bytes ++ l) (append_assoc piece held' left)
        ∙ sym (append_assoc bytes piece (held' ++ left))

-- and is longer
pub longer : (s t : Streamed) → TakesPiece s t false → length s.line < length t.line
longer s t takes = rw takes.line (omega (arith, takes.more refl, length-append s.line takes.piece))

-- what is held changes, and what is left doesn't
pub in_line_held : (before : List ℕ) (then : Option (List ℕ)) (s t : Streamed) (now later : Option (List ℕ))
    (is_more : Bool) → IsInLine before then s now → HoldsSome s.held t.held now later is_more → t.line ≡ s.line
    → IsInLine before then t later
in_line_held before then s t now later is_more line holds same = record {
  text = rw same (kept before s.held t.held s.line then now later line.text holds.text);
  no_lf = rw same line.no_lf;
  short = rw same line.short;
}
  where
    kept : (before held held' bytes : List ℕ) (then now later : Option (List ℕ))
        → Consumes (prepend_known before then) (prepend_known held now) bytes
        → Keeps (prepend_known held now) (prepend_known held' later)
        → Consumes (prepend_known before then) (prepend_known held' later) bytes
    kept before held held' bytes None now later consumes keeps = tt
    kept before held held' bytes (Some rest) None later consumes keeps = absurd consumes
    kept before held held' bytes (Some rest) (Some left) None consumes keeps = absurd keeps
    kept before held held' bytes (Some rest) (Some left) (Some more) consumes keeps =
        consumes ∙ ap (λ (l : List ℕ). bytes ++ l) (sym keeps)

-- it ends with an LF
pub read_whole : (before : List ℕ) (then : Option (List ℕ)) (s t : Streamed) (now : Option (List ℕ))
    → IsInLine before then s now → TakesPiece s t true
    → IfSome then (λ rest. Advances (before ++ rest) now t (Ok true))
read_whole before None s t now line takes = tt
read_whole before (Some rest) s t None line takes = absurd line.text
read_whole before (Some rest) s t (Some left) line takes =
    let no_lf : has_no_lf t.line ≡ true =
    rw takes.line (grind (arith, list_all-append, line.no_lf, takes.no_lf)) in
    let text : before ++ rest ≡ t.line ++ 10 ∷ (t.held ++ left) =
    line.text ∙ ap (λ (l : List ℕ). s.line ++ (l ++ left)) takes.held
    ∙ ap (λ (l : List ℕ). s.line ++ l) (append_assoc takes.piece (10 ∷ t.held) left)
    ∙ sym (append_assoc s.line takes.piece (10 ∷ (t.held ++ left)))
    ∙ ap (λ (l : List ℕ). l ++ 10 ∷ (t.held ++ left)) (sym takes.line) in
    (left, refl, rw (text, takes.is_ended) (ended_line t.line (t.held ++ left) no_lf))

-- it ends with the text
pub read_last : (before : List ℕ) (then : Option (List ℕ)) (t : Streamed) (now : Option (List ℕ))
    → IsInLine before then t now → 0 < length t.line → t.is_ended ≡ false → t.held ≡ [] → IsAtEnd now
    → IfSome then (λ rest. Advances (before ++ rest) now t (Ok true))
read_last before None t now line some ended none end = tt
read_last before (Some rest) t None line some ended none end = absurd line.text
read_last before (Some rest) t (Some left) line some ended none end =
    let text : before ++ rest ≡ t.line = line.text ∙ rw (none, end) (append-nil t.line) in
    (left, refl, rw (text, ended, none, end) (last_line t.line line.no_lf some))

-- it is too long
pub read_too_much : (before : List ℕ) (then : Option (List ℕ)) (s : Streamed) (now : Option (List ℕ))
    → IsInLine before then s now → HoldsTooMuch s → IfSome then (λ rest. BeginsTooLong (before ++ rest))
read_too_much before None s now line much = tt
read_too_much before (Some rest) s None line much = absurd line.text
read_too_much before (Some rest) s (Some left) line much =
    begins_too_long (before ++ rest) (s.line ++ much.piece) (much.rest ++ left)
    (line.text ∙ ap (λ (l : List ℕ). s.line ++ (l ++ left)) much.held
    ∙ ap (λ (l : List ℕ). s.line ++ l) (append_assoc much.piece much.rest left)
    ∙ sym (append_assoc s.line much.piece (much.rest ++ left)))
    (grind (arith, list_all-append, line.no_lf, much.no_lf)) much.too_long
