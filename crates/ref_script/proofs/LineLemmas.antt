-- How the reading of a text goes on by one line.
use Rattle.ref_script.proofs.Common.{◌≡◌, ℕ, suc, ◌+◌, ◌≤◌, Bool, true, false, List, [], ◌∷◌, length, Option, Some}
use Rattle.ref_script.proofs.Common.{None}
use Rattle.ref_script.proofs.Common.{refl, sym, ap, ◌∙◌, inl, inr, arith, list_all, cases_Bool, TextLine}
use Rattle.ref_script.proofs.Common.{lines_of, Place, place_after, place_fault, fault_or, plain_fault, first_fault}
use Rattle.ref_script.proofs.Common.{is_plain_line, says_nothing, line_words, told, FailsFor, LineFault, TextFault}
use Rattle.ref_script.proofs.Common.{end_fault, LinesLeft, is_ascii_line}
use Rattle.std.specs.Char.{is_ascii}
use Rattle.ref_script.specs.Lines.{onto_line}
use Rattle.std.proofs.lemmas.Bool.{false≢true}
use Rattle.ref_text.specs.declared.fault.TextFault.TheVariants as texts

-- a text's lines have the fault of a line and no other
is_of_line : Option TextFault → Bool
is_of_line None = true
is_of_line (Some (texts.Line k f)) = true
is_of_line (Some texts.TooLong) = false
is_of_line (Some texts.CannotRead) = false
is_of_line (Some texts.CannotWrite) = false
is_of_line (Some texts.NoMemory) = false

of_line_or : (k : ℕ) (fault : Option LineFault) (later : Option TextFault) → is_of_line later ≡ true
    → is_of_line (fault_or k fault later) ≡ true
unfolding is_of_line
of_line_or k None later h = h
of_line_or k (Some f) later h = refl

of_line : (place : Place) (k : ℕ) (lines : List TextLine) → is_of_line (first_fault place k lines) ≡ true
unfolding is_of_line
of_line place k [] = of_line_or k (end_fault place) None refl
of_line place k (line ∷ lines) =
    of_line_or k (plain_fault line) _ (elim (cases_Bool (says_nothing (line_words line))) [
      | inl silent ↦ simp silent (of_line place (k + 1) lines)
      | inr says ↦ simp says (of_line_or k (place_fault place (line_words line)) _ (of_line
          (place_after place (line_words line)) (k + 1) lines))
    ])

pub fails_for : (place : Place) (k : ℕ) (lines : List TextLine) (e : TextFault)
    → first_fault place k lines ≡ Some e → FailsFor e (first_fault place k lines)
unfolding is_of_line
fails_for place k lines texts.NoMemory h = tt
fails_for place k lines (texts.Line j f) h = h
fails_for place k lines texts.TooLong h = h
fails_for place k lines texts.CannotRead h = let no_line : is_of_line (first_fault place k lines) ≡ false =
    ap is_of_line h in absurd (false≢true (sym no_line ∙ of_line place k lines))
fails_for place k lines texts.CannotWrite h = let no_line : is_of_line (first_fault place k lines) ≡ false =
    ap is_of_line h in absurd (false≢true (sym no_line ∙ of_line place k lines))

-- the lines between say nothing, and nothing is wrong with them
pub record Skips (before now : LinesLeft) : Type 0 where
  pub told : told before.lines ≡ told now.lines
  pub plain : list_all is_plain_line before.lines ≡ list_all is_plain_line now.lines
  pub fault : (place : Place) → first_fault place (before.number + 1) before.lines ≡ first_fault place (now.number + 1)
      now.lines
  pub no_longer : length now.lines ≤ length before.lines

-- a byte more in front of the first line
onto_line-length : (b : ℕ) (lines : List TextLine) → length (onto_line b lines) ≤ suc (length lines)
onto_line-length b [] = omega arith
onto_line-length b (line ∷ lines) = omega arith

onto_line-ascii : (b : ℕ) (lines : List TextLine) → is_ascii b ≡ true → list_all is_ascii_line lines ≡ true
    → list_all is_ascii_line (onto_line b lines) ≡ true
onto_line-ascii b [] is all = grind arith
onto_line-ascii b (line ∷ lines) is all = grind arith

-- a text has no more lines than bytes
pub lines-le-length : (text : List ℕ) → length (lines_of text) ≤ length text
lines-le-length [] = omega arith
lines-le-length (b ∷ bs) = grind (arith, lines-le-length bs, onto_line-length)

-- its lines are ASCII where it is
pub ascii_lines : (text : List ℕ) → list_all is_ascii text ≡ true → list_all is_ascii_line (lines_of text) ≡ true
ascii_lines [] is = refl
ascii_lines (b ∷ bs) is = grind (arith, ascii_lines bs, onto_line-ascii)
