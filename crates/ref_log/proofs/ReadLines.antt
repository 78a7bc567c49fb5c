-- How the reading of a log goes on by one line.
use Rattle.std.proofs.Common.{◌≡◌, ℕ, ◌+◌, Bool, true, false, List, [], ◌∷◌, ◌++◌, Option, Some, None}
use Rattle.std.proofs.Common.{Ok, Err, IfSome, refl, sym, ap, ◌∙◌, subst, arith, append_assoc, append-nil}
use Rattle.std.proofs.Common.{length-append, inl, inr, ◌==◌, ◌&&◌}
use Rattle.std.proofs.lemmas.Bool.{cases_Bool, and_parts, false≢true}
use Rattle.ref_log.specs.ReadLines.{AtLine, HasRead, IsPast, IsStopped, FindsTold, IsUnplain}
use Rattle.ref_log.specs.StreamAnswers.{Advances, CountsLine}
use Rattle.ref_log.specs.Streams.{Streamed, line_in}
use Rattle.ref_log.specs.declared.failure.LogFailure.{LogFailure}
use Rattle.ref_log.specs.declared.failure.LogFailure.TheVariants.{Line, CutOff, CannotRead, NoMemory}
use Rattle.ref_log.specs.declared.fault.LogFault.TheVariants.{LineTooLong}
use Rattle.ref_log.specs.declared.stream.StreamFault.TheVariants.{TooLong}
use Rattle.ref_script.specs.Lines.{TextLine, lines_of, onto_line}
use Rattle.ref_script.specs.ToldLines.{told, line_words, says_nothing}

-- lines that say nothing were read, and the others are left
pub record HasPassed (lines read : List TextLine) (left : Option (List ℕ)) (s : Streamed) : Type 0 where
  pub between : List TextLine
  pub silent : told between ≡ []
  pub has : HasRead lines (read ++ between) left s

-- ---- what lines say, one after the other

pub told_append : (a b : List TextLine) → told (a ++ b) ≡ told a ++ told b
told_append [] b = refl
told_append (line ∷ a) b =
    elim (cases_Bool (says_nothing (line_words line))) [
      | inl silent ↦ simp silent (told_append a b)
      | inr says ↦ simp says (ap (λ l. line_words line ∷ l) (told_append a b))
    ]

pub told_one : (line : TextLine) → says_nothing (line_words line) ≡ false → told (line ∷ []) ≡ line_words line ∷ []
told_one line says = simp says

pub told_none : (line : TextLine) → says_nothing (line_words line) ≡ true → told (line ∷ []) ≡ []
told_none line silent = simp silent

pub told_silent : (read between : List TextLine) → told between ≡ [] → told (read ++ between) ≡ told read
told_silent read between silent = told_append read between ∙ ap (λ l. told read ++ l) silent ∙ append-nil (told read)

-- ---- one line

module _ (lines read : List TextLine) (left : Option (List ℕ)) (s : Streamed) (has : HasRead lines read left s)
    (later : Option (List ℕ)) (new : Streamed)
  where
    pub advance_past : IfSome left (λ rest. Advances (s.held ++ rest) later new (Ok true))
        → CountsLine s.number new.number (Ok true) → HasRead lines (read ++ line_in new ∷ []) later new
    advance_past advances counts =
        let a : Advances (s.held ++ has.rest) later new (Ok true) =
        subst (λ (o : Option (List ℕ)). IfSome o (λ rest. Advances (s.held ++ rest) later new (Ok true))) has.left_is
        advances in
        record {
          text = has.text;
          lines_are = has.lines_are;
          rest = a.0;
          left_is = a.1;
          parts = has.parts ∙ ap (λ (l : List TextLine). read ++ l) a.2
              ∙ sym (append_assoc read (line_in new ∷ []) (lines_of (new.held ++ a.0)));
          number = omega (arith, counts.0, has.number, length-append read (line_in new ∷ []));
        }

    pub advance_ends : IfSome left (λ rest. Advances (s.held ++ rest) later new (Ok false))
        → CountsLine s.number new.number (Ok false) → IsPast lines read later new false
    advance_ends advances counts =
        let a : Advances (s.held ++ has.rest) later new (Ok false) =
        subst (λ (o : Option (List ℕ)). IfSome o (λ rest. Advances (s.held ++ rest) later new (Ok false))) has.left_is
        advances in
        (has.parts ∙ ap (λ (text : List ℕ). read ++ lines_of text) a.0 ∙ append-nil read, counts ∙ has.number)

    pub advance_too_long : IfSome left (λ rest. Advances (s.held ++ rest) later new (Err TooLong))
        → CountsLine s.number new.number (Err TooLong)
        → AtLine lines new.number (λ front line. IsUnplain LineTooLong line × (told front ≡ told read))
    advance_too_long advances counts =
        let a : Advances (s.held ++ has.rest) later new (Err TooLong) =
        subst (λ (o : Option (List ℕ)). IfSome o (λ rest. Advances (s.held ++ rest) later new (Err TooLong)))
        has.left_is advances in
        record {
          front = read;
          line = a.line;
          back = a.later;
          parts = has.parts ∙ ap (λ (l : List TextLine). read ++ l) a.lines;
          number = counts ∙ ap (λ (n : ℕ). n + 1) has.number;
          has = (a.too_long, refl);
        }

-- the line that was read last is at its number
pub at_read : (lines read : List TextLine) (left : Option (List ℕ)) (s : Streamed)
    → HasRead lines (read ++ line_in s ∷ []) left s
    → (P : List TextLine → TextLine → Type 0) → P read (line_in s) → AtLine lines s.number P
at_read lines read left s has P is = record {
  front = read;
  line = line_in s;
  back = lines_of (s.held ++ has.rest);
  parts = has.parts ∙ append_assoc read (line_in s ∷ []) (lines_of (s.held ++ has.rest));
  number = omega (arith, has.number, length-append read (line_in s ∷ []));
  has = is;
}

-- ---- at first

pub if_some : {T : Type 0} (o : Option T) (P : T → Type 0) → ((x : T) → o ≡ Some x → P x) → IfSome o P
if_some None P all = tt
if_some (Some x) P all = all x refl

-- nothing was read of a text
pub none_read : (left : Option (List ℕ)) (s : Streamed) (text : List ℕ)
    → s ≡ record { held = []; line = []; is_ended = false; number = 0 } → left ≡ Some text
    → HasRead (lines_of text) [] left s
none_read left s text first is = record {
  text = text;
  lines_are = refl;
  rest = text;
  left_is = is;
  parts = ap (λ (t : Streamed). lines_of (t.held ++ text)) (sym first);
  number = ap (λ (t : Streamed). t.number) first;
}

-- ---- the last line

-- each line but the last is ended
ends_well : List TextLine → Bool
ends_well [] = true
ends_well (line ∷ []) = true
ends_well (line ∷ next ∷ later) = line.is_ended && ends_well (next ∷ later)

ends_well_behind : (lines : List TextLine) → ends_well lines ≡ true
    → ends_well (record { bytes = []; is_ended = true } ∷ lines) ≡ true
unfolding ends_well
ends_well_behind [] well = refl
ends_well_behind (line ∷ lines) well = well

ends_well_onto : (b : ℕ) (lines : List TextLine) → ends_well lines ≡ true → ends_well (onto_line b lines) ≡ true
unfolding ends_well
ends_well_onto b [] well = refl
ends_well_onto b (line ∷ []) well = refl
ends_well_onto b (line ∷ next ∷ later) well = well

lines_end_well : (text : List ℕ) → ends_well (lines_of text) ≡ true
unfolding ends_well
lines_end_well [] = refl
lines_end_well (b ∷ bs) =
    elim (cases_Bool (b == 10)) [
      | inl is ↦ simp is (ends_well_behind (lines_of bs) (lines_end_well bs))
      | inr isnt ↦ simp isnt (ends_well_onto b (lines_of bs) (lines_end_well bs))
    ]

none_behind_open : (front : List TextLine) (line : TextLine) (back : List TextLine)
    → ends_well (front ++ line ∷ back) ≡ true → line.is_ended ≡ false → back ≡ []
unfolding ends_well
none_behind_open [] line [] well open_ended = refl
none_behind_open [] line (next ∷ later) well open_ended =
    absurd (false≢true (sym open_ended ∙ (and_parts _ _ well).0))
none_behind_open (first ∷ []) line back well open_ended =
    none_behind_open [] line back (and_parts _ _ well).1 open_ended
none_behind_open (first ∷ second ∷ front) line back well open_ended =
    none_behind_open (second ∷ front) line back (and_parts _ _ well).1 open_ended

-- a line that no LF ends is the last
pub open_is_last : (lines read : List TextLine) (left : Option (List ℕ)) (s : Streamed)
    → HasRead lines (read ++ line_in s ∷ []) left s → s.is_ended ≡ false → lines ≡ read ++ line_in s ∷ []
open_is_last lines read left s has open_ended =
    let later = lines_of (s.held ++ has.rest) in
    let parts : lines ≡ read ++ line_in s ∷ later = has.parts ∙ append_assoc read (line_in s ∷ []) later in
    let none : later ≡ [] = none_behind_open read (line_in s) later
    (subst (λ (l : List TextLine). ends_well l ≡ true) (sym has.lines_are ∙ parts) (lines_end_well has.text))
    open_ended in
    parts ∙ ap (λ (l : List TextLine). read ++ line_in s ∷ l) none

-- ---- up to one that says something

-- lines that say nothing don't tell where the reading stopped
pub stopped_behind : (lines read between : List TextLine) → told between ≡ [] → (failure : LogFailure)
    → IsStopped lines (read ++ between) failure → IsStopped lines read failure
stopped_behind lines read between silent (Line k fault) stopped = record {
  front = stopped.front;
  line = stopped.line;
  back = stopped.back;
  parts = stopped.parts;
  number = stopped.number;
  has = (stopped.has.0, stopped.has.1 ∙ told_silent read between silent);
}
stopped_behind lines read between silent (CutOff rows line) stopped = absurd stopped
stopped_behind lines read between silent CannotRead stopped = tt
stopped_behind lines read between silent NoMemory stopped = tt

module _ (lines read : List TextLine) (left : Option (List ℕ)) (s : Streamed) (passed : HasPassed lines read left s)
    (later : Option (List ℕ)) (new : Streamed)
  where
    pub passed_more : IsPast lines (read ++ passed.between) later new true
        → says_nothing (line_words (line_in new)) ≡ true → HasPassed lines read later new
    passed_more past silent = record {
      between = passed.between ++ line_in new ∷ [];
      silent = told_append passed.between (line_in new ∷ [])
          ∙ ap (λ l. l ++ told (line_in new ∷ [])) passed.silent ∙ told_none (line_in new) silent;
      has = subst (λ (l : List TextLine). HasRead lines l later new)
          (append_assoc read passed.between (line_in new ∷ [])) past;
    }

    pub passed_found : IsPast lines (read ++ passed.between) later new true
        → says_nothing (line_words (line_in new)) ≡ false → FindsTold lines read later new true
    passed_found past says = record { between = passed.between; silent = passed.silent; at = (says, past) }

    pub passed_all : IsPast lines (read ++ passed.between) later new false → FindsTold lines read later new false
    passed_all past = record { between = passed.between; silent = passed.silent; at = past }
