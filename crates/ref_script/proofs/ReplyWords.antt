-- The words of a text that is printed word by word.
use Rattle.ref_script.proofs.Common.{◌≡◌, ℕ, ◌^◌, ◌<◌, ◌==◌, true, not, List, [], ◌∷◌, ◌++◌}
use Rattle.ref_script.proofs.Common.{length}
use Rattle.ref_script.proofs.Common.{refl, arith, map, list_all, words_of, Word}
use Rattle.std.proofs.Common.{decimal}
use Rattle.std.specs.Char.{is_ascii_digit}
use Rattle.ref_base.specs.Texts.{word_text, text_of}
use Rattle.ref_script.specs.ReplyReading.{is_text_word}
use Rattle.ref_script.proofs.ExactNumbers.{decimal_digits, decimal_some}

pub word_alone : (w : List ℕ) → is_text_word w ≡ true → words_of w ≡ w ∷ []
word_alone [] h = absurd cc
word_alone (b ∷ []) h = grind arith
word_alone (b ∷ c ∷ bs) h = grind (arith, word_alone (c ∷ bs))

pub word_in_front : (w t : List ℕ) → is_text_word w ≡ true → words_of (w ++ 32 ∷ t) ≡ w ∷ words_of t
word_in_front [] t h = absurd cc
word_in_front (b ∷ []) t h = grind arith
word_in_front (b ∷ c ∷ bs) t h = grind (arith, word_in_front (c ∷ bs) t)

-- what is printed of a number is a word
digits_no_space : (ds : List ℕ) → list_all is_ascii_digit ds ≡ true → list_all (λ c. not (c == 32)) ds ≡ true
digits_no_space [] h = refl
digits_no_space (d ∷ ds) h = grind (arith, digits_no_space ds)

pub no_space_word : (w : List ℕ) → 0 < length w → list_all (λ c. not (c == 32)) w ≡ true → is_text_word w ≡ true
no_space_word [] some h = absurd (omega (arith, some))
no_space_word (b ∷ bs) some h = h

pub decimal_no_space : (n : ℕ) → n < 2 ^ 64 → list_all (λ c. not (c == 32)) (decimal n) ≡ true
decimal_no_space n small = digits_no_space (decimal n) (decimal_digits n small)

pub decimal_word : (n : ℕ) → n < 2 ^ 64 → is_text_word (decimal n) ≡ true
decimal_word n small = no_space_word (decimal n) (decimal_some n small) (decimal_no_space n small)

-- words with one space between each two
pub text_words : (ws : List Word) → list_all (λ w. is_text_word (word_text w)) ws ≡ true
    → words_of (text_of ws) ≡ map (λ w. word_text w) ws
text_words [] h = refl
text_words (w ∷ []) h = grind (arith, word_alone)
text_words (w ∷ v ∷ ws) h = grind (arith, word_in_front, text_words (v ∷ ws))
