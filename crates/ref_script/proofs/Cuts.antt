-- Where a text is cut into its first line and the rest, and a line into its first word and the rest.
use Rattle.ref_script.proofs.Common.{◌≡◌, ℕ, suc, ◌+◌, ◌<◌, ◌≤◌, true, false, not, ◌==◌, List, [], ◌∷◌, ◌++◌, length}
use Rattle.ref_script.proofs.Common.{take}
use Rattle.ref_script.proofs.Common.{drop, refl, sym, ap, ◌∙◌, inl, inr, arith, cases_Bool, take_all, prefix_len}
use Rattle.ref_script.proofs.Common.{TextLine}
use Rattle.ref_script.proofs.Common.{lines_of, content_of, words_of}
use Rattle.std.proofs.Common.{◌⊎◌, zero}
use Rattle.std.specs.List.{list_all}
use Rattle.std.proofs.lemmas.List.{nil_from_length, length-drop}
use Rattle.std.specs.Char.{is_ascii_digit}
use Rattle.ref_script.specs.Lines.{onto_line, without_cr, goes_on, onto_word}

-- no byte before the first LF
abbrev pub line_length : List ℕ → ℕ
line_length text = prefix_len (λ b. not (b == 10)) text

one_more : (n : ℕ) → 1 + n ≡ suc n
one_more n = omega arith

ended_line : (text : List ℕ) (x : ℕ) (behind : List ℕ) → drop (line_length text) text ≡ x ∷ behind
    → lines_of text ≡ record { bytes = take (line_length text) text; is_ended = true } ∷ lines_of behind
ended_line [] x behind h = absurd cc
ended_line (b ∷ bs) x behind h =
    elim (cases_Bool (b == 10)) [
      | inl is ↦
          let start : line_length (b ∷ bs) ≡ 0 = simp is refl in
          let all : b ∷ bs ≡ x ∷ behind = ap (λ n. drop n (b ∷ bs)) (sym start) ∙ h in
          let same : bs ≡ behind = cc in
          simp is (ap (λ (t : List ℕ). record { bytes = []; is_ended = true } ∷ lines_of t) same)
      | inr isnt ↦
          let later : line_length (b ∷ bs) ≡ suc (line_length bs) = simp (isnt, one_more) refl in
          let rest = ended_line bs x behind (ap (λ n. drop n (b ∷ bs)) (sym later) ∙ h) in
          let one : lines_of (b ∷ bs) ≡ onto_line b (lines_of bs) = simp isnt refl in
          one ∙ ap (onto_line b) rest ∙ rw later refl
    ]

last_line : (text : List ℕ) → 0 < length text → length text ≤ line_length text
    → lines_of text ≡ record { bytes = text; is_ended = false } ∷ []
last_line [] h le = absurd (omega arith)
last_line (b ∷ []) h le = grind arith
last_line (b ∷ c ∷ bs) h le = grind (arith, last_line (c ∷ bs))

-- a text that is cut at its first LF
pub line_cut : (text : List ℕ) (n : ℕ) (bytes rest behind : List ℕ) (x : ℕ) → n ≡ line_length text
    → bytes ≡ take n text → rest ≡ drop n text → rest ≡ x ∷ behind
    → lines_of text ≡ record { bytes = bytes; is_ended = true } ∷ lines_of behind
line_cut text n bytes rest behind x length_is bytes_is rest_is cut =
    rw (bytes_is, length_is) (ended_line text x behind (ap (λ k. drop k text) (sym length_is) ∙ sym rest_is ∙ cut))

-- a text without an LF is its last line
pub last_cut : (text : List ℕ) (n : ℕ) (bytes rest : List ℕ) → (length text == 0) ≡ false → n ≡ line_length text
    → bytes ≡ take n text → rest ≡ drop n text → length rest ≡ 0
    → lines_of text ≡ record { bytes = bytes; is_ended = false } ∷ lines_of rest
last_cut text n bytes rest some length_is bytes_is rest_is none =
    grind (arith, length-drop, take_all, nil_from_length, last_line)

-- no word begins among spaces
abbrev pub space_length : List ℕ → ℕ
space_length line = prefix_len (λ b. b == 32) line

words_behind_spaces : (line : List ℕ) → words_of line ≡ words_of (drop (space_length line) line)
words_behind_spaces [] = refl
words_behind_spaces (b ∷ bs) =
    elim (cases_Bool (b == 32)) [
      | inl is ↦ simp (is, one_more) (words_behind_spaces bs)
      | inr isnt ↦ simp isnt refl
    ]

goes_on_behind : (line : List ℕ) → 0 < length (drop (space_length line) line)
    → goes_on (drop (space_length line) line) ≡ true
goes_on_behind [] h = absurd (omega arith)
goes_on_behind (b ∷ bs) h =
    elim (cases_Bool (b == 32)) [
      | inl is ↦
          let e : drop (space_length (b ∷ bs)) (b ∷ bs) ≡ drop (space_length bs) bs = simp (is, one_more) refl in
          rw e (goes_on_behind bs (let k : length (drop (space_length (b ∷ bs)) (b ∷ bs)) ≡ length (drop
          (space_length bs) bs) = ap length e in omega arith))
      | inr isnt ↦ simp isnt refl
    ]

abbrev pub word_length : List ℕ → ℕ
word_length line = prefix_len (λ b. not (b == 32)) line

first_word : (line : List ℕ) → goes_on line ≡ true
    → words_of line ≡ take (word_length line) line ∷ words_of (drop (word_length line) line)
first_word [] h = absurd cc
first_word (b ∷ []) h = grind arith
first_word (b ∷ c ∷ bs) h =
    elim (cases_Bool (b == 32)) [
      | inl is ↦ let k : goes_on (b ∷ c ∷ bs) ≡ false = simp is refl in absurd cc
      | inr isnt ↦
          elim (cases_Bool (c == 32)) [
            | inl space ↦ simp (isnt, space) refl
            | inr more ↦
                let rest = first_word (c ∷ bs) (simp more refl) in
                let later : word_length (b ∷ c ∷ bs) ≡ suc (word_length (c ∷ bs)) = simp (isnt, one_more) refl in
                let one : words_of (b ∷ c ∷ bs) ≡ onto_word true b (words_of (c ∷ bs)) = simp (isnt, more) refl in
                one ∙ ap (onto_word true b) rest ∙ rw later refl
          ]
    ]

-- behind its spaces a line has the same words
pub same_words : (line behind : List ℕ) (spaces : ℕ) → spaces ≡ space_length line → behind ≡ drop spaces line
    → words_of behind ≡ words_of line
same_words line behind spaces spaces_are behind_is = grind (arith, words_behind_spaces)

-- and a word begins there, or it ends
pub word_begins : (line behind : List ℕ) (spaces : ℕ) → spaces ≡ space_length line → behind ≡ drop spaces line
    → (behind ≡ []) ⊎ (goes_on behind ≡ true)
word_begins line behind spaces spaces_are behind_is = grind (arith, goes_on_behind, nil_from_length)

-- the first word, where the line begins with one
pub word_cut : (line : List ℕ) (n : ℕ) (word rest : List ℕ) → goes_on line ≡ true
    → n ≡ word_length line → word ≡ take n line → rest ≡ drop n line → words_of line ≡ word ∷ words_of rest
word_cut line n word rest begins length_is word_is rest_is = grind (arith, first_word line)

-- digits are a word up to where none goes on
pub word_of_digits : (line : List ℕ) (n : ℕ) → list_all is_ascii_digit (take n line) ≡ true → n ≤ length line
    → goes_on (drop n line) ≡ false → word_length line ≡ n
word_of_digits [] zero digits within ends = refl
word_of_digits [] (suc n) digits within ends = absurd (omega (arith, within))
word_of_digits (b ∷ bs) zero digits within ends = grind arith
word_of_digits (b ∷ bs) (suc n) digits within ends = grind (arith, word_of_digits bs n, one_more)

-- the last byte of a line is a CR or it stays
pub without_last_cr : (front : List ℕ) → without_cr (front ++ 13 ∷ []) ≡ front
without_last_cr [] = refl
without_last_cr (b ∷ []) = refl
without_last_cr (b ∷ c ∷ bs) = ap (λ (t : List ℕ). b ∷ t) (without_last_cr (c ∷ bs))

pub with_other_last : (front : List ℕ) (last : ℕ) → (last == 13) ≡ false
    → without_cr (front ++ last ∷ []) ≡ front ++ last ∷ []
with_other_last [] last h = simp h refl
with_other_last (b ∷ []) last h = simp h refl
with_other_last (b ∷ c ∷ bs) last h = ap (λ (t : List ℕ). b ∷ t) (with_other_last (c ∷ bs) last h)

-- the content of a line that ends with a CR and an LF, and of any other
pub content_before_cr : (line : TextLine) (front : List ℕ) (last : ℕ) → line.is_ended ≡ true
    → line.bytes ≡ front ++ last ∷ [] → last ≡ 13 → content_of line ≡ front
content_before_cr line front last ended bytes_are is_cr = simp (ended, bytes_are, is_cr) (without_last_cr front)

pub content_kept : (line : TextLine) (front : List ℕ) (last : ℕ) → line.is_ended ≡ true
    → line.bytes ≡ front ++ last ∷ [] → (last == 13) ≡ false → content_of line ≡ line.bytes
content_kept line front last ended bytes_are isnt = simp (ended, bytes_are) (with_other_last front last isnt)
