-- What bytes tell of a line: where the first of its kind stands, whether each is ASCII, and whether it says nothing.
use Rattle.ref_script.proofs.Common.{◌≡◌, ℕ, ◌<◌, ◌==◌, true, false, not, sym, ap, ◌∙◌, arith, List, length}
use Rattle.ref_script.proofs.Common.{inl, inr, list_all, Some, None, prefix_len, cases_Bool, says_nothing}
use Rattle.ref_script.proofs.Common.{Bool, [], ◌∷◌, refl}
use Rattle.ref_script.specs.Lines.{goes_on, onto_word, words_of}
use Rattle.std.proofs.Common.{◌+◌, ◌≤◌, ◌&&◌, bit_or, get_or, drop}
use Rattle.std.proofs.Math.Bool.{and_assoc}
use Rattle.std.proofs.lemmas.List.{at_drop_more}
use Rattle.std.proofs.lemmas.Bool.{true≢false, cases_lt, not-true, not-false, lt-ltb, ltb-true, false_from_ne_true}
use Rattle.std.proofs.lemmas.Nat.{or_lt, le_or_l, le_or_r}
use Rattle.std.proofs.lemmas.List.Sums.{prefix_len-le-length, prefix_len_passes, prefix_len_stops}
use Rattle.std.specs.Char.{is_ascii}
use Rattle.memchr.specs.Find.{IsFirstByte, is_byte}

module _ (byte : ℕ) (bytes : List ℕ) where
  abbrev front : ℕ
  front = prefix_len (λ b. not (b == byte)) bytes

  -- where it is found, so many bytes stand in front of it
  pub found_behind : (k : ℕ) → IsFirstByte (is_byte byte) bytes (Some k) → k ≡ front
  found_behind k first =
      elim (cases_lt front k) [
        | inl less ↦
            let stops = prefix_len_stops (λ b. not (b == byte)) bytes 0 (omega (arith, less, first.0.high)) in
            absurd (first.0.before front (omega arith) less (not-false _ stops))
        | inr least ↦
            elim (cases_lt k front) [
              | inl more ↦
                  let passes = prefix_len_passes (λ b. not (b == byte)) bytes k 0 more in
                  absurd (true≢false (sym first.1 ∙ not-true _ passes))
              | inr most ↦ omega (arith, least, most)
            ]
      ]

  -- where it isn't, all do
  pub all_before : IsFirstByte (is_byte byte) bytes None → length bytes ≡ front
  all_before none =
      let most = prefix_len-le-length (λ b. not (b == byte)) bytes in
      elim (cases_lt front (length bytes)) [
        | inl less ↦
            let stops = prefix_len_stops (λ b. not (b == byte)) bytes 0 less in
            absurd (none front (omega arith) less (not-false _ stops))
        | inr least ↦ omega (arith, least, most)
      ]

-- two bytes are ASCII where all the bits of both are of an ASCII byte
pub both_ascii : (a b : ℕ) → is_ascii (bit_or a b) ≡ (is_ascii a && is_ascii b)
both_ascii a b =
    elim (cases_Bool (is_ascii a)) [
      | inl left ↦
          elim (cases_Bool (is_ascii b)) [
            | inl right ↦
                simp (left, right)
                (lt-ltb (bit_or a b) 128 (or_lt 7 a b (ltb-true a 128 left) (ltb-true b 128 right)))
            | inr none ↦ simp (left, none) (too_great (le_or_r a b) none)
          ]
      | inr none ↦ simp none (too_great (le_or_l a b) none)
    ]
  where
    too_great : {c d : ℕ} → c ≤ d → is_ascii c ≡ false → is_ascii d ≡ false
    too_great {c} {d} more none =
        false_from_ne_true (is_ascii d) (λ is.
        true≢false (sym (lt-ltb c 128 (let less = ltb-true d 128 is in omega (arith, less, more))) ∙ none))

-- as one more byte's bits are gathered, what is asked of all stays
pub gathers_ascii : (bytes : List ℕ) (i bits : ℕ) → i < length bytes
    → (is_ascii (bit_or bits (get_or bytes i 0)) && list_all is_ascii (drop (i + 1) bytes))
    ≡ (is_ascii bits && list_all is_ascii (drop i bytes))
gathers_ascii bytes i bits within =
    ap (λ b. b && list_all is_ascii (drop (i + 1) bytes)) (both_ascii bits (get_or bytes i 0))
    ∙ and_assoc (is_ascii bits) (is_ascii (get_or bytes i 0)) (list_all is_ascii (drop (i + 1) bytes))
    ∙ ap (λ b. is_ascii bits && b) (sym (at_drop_more (list_all is_ascii) bytes i 0 within))

-- a byte that isn't a space begins the first word
first_byte_tells : (b : ℕ) (bs : List ℕ) → (b == 32) ≡ false → says_nothing (words_of (b ∷ bs)) ≡ (b == 35)
first_byte_tells b bs is = simp is (begins (goes_on bs) (words_of bs))
  where
    begins : (more : Bool) (words : List (List ℕ)) → says_nothing (onto_word more b words) ≡ (b == 35)
    begins true [] = refl
    begins true (w ∷ ws) = refl
    begins false ws = refl

-- so it tells whether the line from there on says nothing
pub told_by_first : (bytes : List ℕ) (i : ℕ) → i < length bytes → (get_or bytes i 0 == 32) ≡ false
    → says_nothing (words_of (drop i bytes)) ≡ (get_or bytes i 0 == 35)
told_by_first bytes i within is =
    at_drop_more (λ bs. says_nothing (words_of bs)) bytes i 0 within
    ∙ first_byte_tells (get_or bytes i 0) (drop (i + 1) bytes) is
