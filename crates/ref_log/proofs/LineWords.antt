-- The words of a line that is written word by word.
use Rattle.ref_script.proofs.Common.{◌≡◌, ℕ, ◌==◌, Bool, true, false, List, [], ◌∷◌, ◌++◌, refl, ap, ◌∙◌, arith}
use Rattle.ref_script.proofs.Common.{list_all, words_of, and_parts, sym, append_assoc}
use Rattle.ref_script.specs.Lines.{onto_word}
use Rattle.ref_script.specs.ReplyReading.{is_text_word}
use Rattle.ref_script.proofs.ReplyWords.{word_alone}

-- bytes behind a space are words of their own
pub words_behind_space : (line more : List ℕ) → words_of (line ++ 32 ∷ more) ≡ words_of line ++ words_of more
words_behind_space [] more = refl
words_behind_space (b ∷ []) more = grind arith
words_behind_space (b ∷ c ∷ bs) more = grind (arith, words_behind_space (c ∷ bs) more)

onto_text_word : (more : Bool) (b : ℕ) (words : List (List ℕ)) → (b == 32) ≡ false
    → list_all is_text_word words ≡ true → list_all is_text_word (onto_word more b words) ≡ true
onto_text_word true b [] isnt are = grind arith
onto_text_word true b (word ∷ words) isnt are = grind arith
onto_text_word false b words isnt are = grind arith

-- each word of a line has no space, and a byte at least
are_text_words : (line : List ℕ) → list_all is_text_word (words_of line) ≡ true
are_text_words [] = refl
are_text_words (b ∷ bs) = grind (arith, onto_text_word, are_text_words bs)

-- so the first word of a line is the one word of its bytes
pub first_word_alone : (line word : List ℕ) (words : List (List ℕ)) → words_of line ≡ word ∷ words
    → words_of word ≡ word ∷ []
first_word_alone line word words is =
    word_alone word (and_parts _ _ (ap (list_all is_text_word) (sym is) ∙ are_text_words line)).0

-- what is written behind a space
pub text_behind : (line text before after : List ℕ) → before ≡ line ++ 32 ∷ [] → after ≡ before ++ text
    → words_of after ≡ words_of line ++ words_of text
text_behind line text before after before_is after_is = grind (arith, append_assoc, words_behind_space line text)
