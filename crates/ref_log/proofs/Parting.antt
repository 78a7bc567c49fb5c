-- A line is cut at the first word that is a colon, byte by byte, where its words are parted.
use Rattle.ref_script.proofs.Common.{◌≡◌, ℕ, ◌==◌, Bool, true, false, List, [], ◌∷◌, Option}
use Rattle.ref_script.proofs.Common.{Some, None, refl, sym, ap, ◌∙◌, arith, words_of, cases_Bool, inl, inr}
use Rattle.ref_script.specs.Lines.{goes_on, onto_word}
use Rattle.ref_log.specs.LogRows.{Parts, onto_front, parted}
use Rattle.ref_log.proofs.ByteCuts.{Cut, onto_cut, byte_cut, is_cut}

-- the words of both parts
abbrev pub in_words : Option Cut → Option Parts
in_words None = None
in_words (Some cut) = Some (record { front = words_of cut.front; back = words_of cut.back })

-- a byte more in front of the first word
abbrev longer : ℕ → Option Parts → Option Parts
longer b None = None
longer b (Some parts) = Some (record parts { front = onto_word true b parts.front })

-- parted behind the first word, whatever that is
abbrev parted_later : List (List ℕ) → Option Parts
parted_later [] = None
parted_later (word ∷ words) = onto_front word (parted words)

longer_word : (b : ℕ) (word : List ℕ) (parts : Option Parts)
    → onto_front (b ∷ word) parts ≡ longer b (onto_front word parts)
longer_word b word None = refl
longer_word b word (Some parts) = refl

-- a byte that is no space begins a word
first_byte : (more : Bool) (b : ℕ) (words : List (List ℕ))
    → (word : List ℕ) × (rest : List (List ℕ)) × (onto_word more b words ≡ (b ∷ word) ∷ rest)
first_byte true b [] = ([], [], refl)
first_byte true b (w ∷ ws) = (w, ws, refl)
first_byte false b ws = ([], ws, refl)

word_there : (b : ℕ) (bs : List ℕ) → (b == 32) ≡ false
    → (word : List ℕ) × (rest : List (List ℕ)) × (words_of (b ∷ bs) ≡ (b ∷ word) ∷ rest)
word_there b bs isnt =
    let first = first_byte (goes_on bs) b (words_of bs) in
    (first.0, first.1, simp isnt (first.2))

longer_later : (b c : ℕ) (cs : List ℕ) → (c == 32) ≡ false
    → parted_later (onto_word true b (words_of (c ∷ cs))) ≡ longer b (parted_later (words_of (c ∷ cs)))
longer_later b c cs isnt =
    let there = word_there c cs isnt in
    ap (λ ws. parted_later (onto_word true b ws)) there.2
    ∙ longer_word b (c ∷ there.0) (parted there.1)
    ∙ ap (λ ws. longer b (parted_later ws)) (sym there.2)

space_first : (c : ℕ) (cut : Option Cut) → (c == 32) ≡ true → in_words (onto_cut c cut) ≡ in_words cut
space_first c None is = refl
space_first c (Some cut) is = simp is refl

word_ends : (b c : ℕ) (cut : Option Cut) → (b == 32) ≡ false → (c == 32) ≡ true
    → in_words (onto_cut b (onto_cut c cut)) ≡ onto_front (b ∷ []) (in_words cut)
word_ends b c None isnt is = refl
word_ends b c (Some cut) isnt is = simp (isnt, is) refl

word_goes_on : (b c : ℕ) (cut : Option Cut) → (b == 32) ≡ false → (c == 32) ≡ false
    → in_words (onto_cut b (onto_cut c cut)) ≡ longer b (in_words (onto_cut c cut))
word_goes_on b c None isnt other = refl
word_goes_on b c (Some cut) isnt other = simp (isnt, other) refl

-- what is shown of the bytes behind a place: where a word may begin there, and where one goes on
abbrev Begins : List ℕ → Type 0
Begins bs = in_words (byte_cut true bs) ≡ parted (words_of bs)

abbrev GoesOn : List ℕ → Type 0
GoesOn bs = (b : ℕ) → (b == 32) ≡ false → in_words (onto_cut b (byte_cut false bs)) ≡ parted_later (words_of (b ∷ bs))

goes_on_more : (c : ℕ) (cs : List ℕ) → Begins cs → GoesOn cs → GoesOn (c ∷ cs)
goes_on_more c cs begins goes b isnt =
    elim (cases_Bool (c == 32)) [
      | inl is ↦
          let on : byte_cut false (c ∷ cs) ≡ onto_cut c (byte_cut true cs) = ap (λ x. onto_cut c (byte_cut x cs)) is in
          let words : words_of (b ∷ c ∷ cs) ≡ (b ∷ []) ∷ words_of cs = simp (isnt, is) refl in
          ap (λ o. in_words (onto_cut b o)) on ∙ word_ends b c (byte_cut true cs) isnt is
          ∙ ap (onto_front (b ∷ [])) begins ∙ ap parted_later (sym words)
      | inr other ↦
          let on : byte_cut false (c ∷ cs) ≡ onto_cut c (byte_cut false cs) =
          ap (λ x. onto_cut c (byte_cut x cs)) other in
          let words : words_of (b ∷ c ∷ cs) ≡ onto_word true b (words_of (c ∷ cs)) = simp (isnt, other) refl in
          ap (λ o. in_words (onto_cut b o)) on ∙ word_goes_on b c (byte_cut false cs) isnt other
          ∙ ap (longer b) (goes c other) ∙ sym (longer_later b c cs other) ∙ ap parted_later (sym words)
    ]

-- a word that is no colon is in front
later : (b : ℕ) (bs : List ℕ) → (b == 32) ≡ false → is_cut true b bs ≡ false
    → parted_later (words_of (b ∷ bs)) ≡ parted (words_of (b ∷ bs))
later b [] isnt uncut = grind arith
later b (c ∷ cs) isnt uncut =
    elim (cases_Bool (c == 32)) [
      | inl is ↦ grind arith
      | inr other ↦
          let there = word_there c cs other in
          let words : words_of (b ∷ c ∷ cs) ≡ onto_word true b (words_of (c ∷ cs)) = simp (isnt, other) refl in
          let both : words_of (b ∷ c ∷ cs) ≡ (b ∷ c ∷ there.0) ∷ there.1 = words ∙ ap (onto_word true b) there.2 in
          rw both (grind arith)
    ]

begins_more : (c : ℕ) (cs : List ℕ) → Begins cs → GoesOn cs → Begins (c ∷ cs)
begins_more c cs begins goes =
    elim (cases_Bool (c == 32)) [
      | inl is ↦ grind (arith, space_first)
      | inr other ↦
          elim (cases_Bool (is_cut true c cs)) [
            | inl cut ↦ grind arith
            | inr uncut ↦
                let on : byte_cut true (c ∷ cs) ≡ onto_cut c (byte_cut false cs) = simp (uncut, other) refl in
                ap in_words on ∙ goes c other ∙ later c cs other uncut
          ]
    ]

by_words : (bs : List ℕ) → Begins bs × GoesOn bs
by_words [] = (refl, λ b isnt. simp isnt refl)
by_words (c ∷ cs) =
    let rest = by_words cs in (begins_more c cs rest.0 rest.1, goes_on_more c cs rest.0 rest.1)

-- so the cut has the words of both parts
pub parted_by_bytes : (line : List ℕ) → in_words (byte_cut true line) ≡ parted (words_of line)
parted_by_bytes line = (by_words line).0
