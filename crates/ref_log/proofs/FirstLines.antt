-- What the bytes before the first LF of a text tell of its first line.
use Rattle.ref_log.proofs.Common.{◌≡◌, ℕ, suc, zero, ◌<◌, ◌≤◌, true, false, not, ◌==◌, List, [], ◌∷◌, ◌++◌}
use Rattle.ref_log.proofs.Common.{length, take, get_or, refl, ap, ◌∙◌, inl, inr, arith, cases_Bool, and_parts}
use Rattle.ref_log.proofs.Common.{TextLine, lines_of, onto_line, has_no_lf, most_in_line, BeginsTooLong}

-- no byte up to a place is an LF where each of them is another
pub none_before : (bytes : List ℕ) (n : ℕ) → ((k : ℕ) → k < n → (get_or bytes k 0 == 10) ≡ true → ⊥)
    → has_no_lf (take n bytes) ≡ true
none_before bytes zero none = refl
none_before [] (suc n) none = refl
none_before (b ∷ bs) (suc n) none =
    elim (cases_Bool (b == 10)) [
      | inl is ↦ absurd (none 0 (omega arith) is)
      | inr isnt ↦ simp isnt (none_before bs n (λ k below is. none (suc k) (omega arith) is))
    ]

-- a byte that is no LF is onto the first line
byte_onto : (b : ℕ) (bs : List ℕ) → has_no_lf (b ∷ bs) ≡ true → lines_of (b ∷ bs) ≡ onto_line b (lines_of bs)
byte_onto b bs none =
    elim (cases_Bool (b == 10)) [
      | inl is ↦ let one : has_no_lf (b ∷ bs) ≡ false = simp is refl in absurd cc
      | inr isnt ↦ simp isnt refl
    ]

none_later : (b : ℕ) (bs : List ℕ) → has_no_lf (b ∷ bs) ≡ true → has_no_lf bs ≡ true
none_later b bs none = (and_parts (not (b == 10)) (has_no_lf bs) none).1

none_first : (b : ℕ) (bs : List ℕ) → has_no_lf (b ∷ bs) ≡ true → (b == 10) ≡ false
none_first b bs none =
    elim (cases_Bool (b == 10)) [
      | inl is ↦ let one : has_no_lf (b ∷ bs) ≡ false = simp is refl in absurd cc
      | inr isnt ↦ isnt
    ]

-- bytes in front of an LF are the first line
pub ended_line : (line rest : List ℕ) → has_no_lf line ≡ true
    → lines_of (line ++ 10 ∷ rest) ≡ record { bytes = line; is_ended = true } ∷ lines_of rest
ended_line [] rest none = refl
ended_line (b ∷ bs) rest none =
    simp (none_first b bs none) (ap (onto_line b) (ended_line bs rest (none_later b bs none)))

-- a text without an LF is one line
pub last_line : (line : List ℕ) → has_no_lf line ≡ true → 0 < length line
    → lines_of line ≡ record { bytes = line; is_ended = false } ∷ []
last_line [] none some = absurd (omega arith)
last_line (b ∷ []) none some = simp (none_first b [] none) refl
last_line (b ∷ c ∷ bs) none some =
    byte_onto b (c ∷ bs) none ∙ ap (onto_line b) (last_line (c ∷ bs) (none_later b (c ∷ bs) none) (omega arith))

abbrev first_length : List TextLine → ℕ
first_length [] = 0
first_length (line ∷ lines) = length line.bytes

longer : (b : ℕ) (lines : List TextLine) → first_length (onto_line b lines) ≡ suc (first_length lines)
longer b [] = refl
longer b (line ∷ lines) = refl

-- bytes without an LF are at most the first line
at_least : (piece rest : List ℕ) → has_no_lf piece ≡ true → length piece ≤ first_length (lines_of (piece ++ rest))
at_least [] rest none = omega arith
at_least (b ∷ bs) rest none =
    simp (none_first b bs none)
    (let more = at_least bs rest (none_later b bs none) in
    let one = longer b (lines_of (bs ++ rest)) in omega (arith, more, one))

too_long_of : (text : List ℕ) (lines : List TextLine) → lines_of text ≡ lines → most_in_line < first_length lines
    → BeginsTooLong text
too_long_of text [] lines_are long = absurd (omega arith)
too_long_of text (line ∷ lines) lines_are long =
    record { line = line; later = lines; lines = lines_are; too_long = long }

-- a text that begins with many bytes without an LF begins with a line that is too long
pub begins_too_long : (text piece rest : List ℕ) → text ≡ piece ++ rest → has_no_lf piece ≡ true
    → most_in_line < length piece → BeginsTooLong text
begins_too_long text piece rest text_is none long =
    too_long_of text (lines_of (piece ++ rest)) (ap lines_of text_is)
    (let least = at_least piece rest none in omega (arith, least, long))
