-- What names mean, and the rows in which numbers stand in their place.
use Rattle.ref_script.proofs.Common.{◌≡◌, ℕ, Bool, true, false, List, [], ◌∷◌, ◌++◌, ◌<◌, ◌^◌, words_of}
use Rattle.ref_script.proofs.Common.{Option, Some, None, refl, ap, ◌∙◌, arith, bytes_eq}
use Rattle.ref_script.proofs.Common.{bytes_eq-Decides, append_assoc}
use Rattle.std.proofs.Common.{decimal, unwrap_or}
use Rattle.std.specs.Map.{lookup}
use Rattle.arrayvec.specs.ArrayVec.{ArrayVec}
use Rattle.indexmap.specs.IndexMap.{insert_entry}
use Rattle.ref_script.proofs.ReplyWords.{decimal_word, word_alone}
use Rattle.ref_log.proofs.LineWords.{first_word_alone}
use Rattle.ref_log.specs.LogRows.{Parts, colon, onto_front, parted}
use Rattle.ref_log.specs.Names.{Given, MeanAlike, is_name, is_queue_word, number_named}
use Rattle.ref_log.specs.Names.{number_word, number_words, numbered_reply, numbered_row, with_name}
use Rattle.ref_log.specs.NameViews.{names_in}

-- ---- in a table

-- whether two keys are one
abbrev pub key_eq : ArrayVec ℕ → ArrayVec ℕ → Bool
key_eq key other = bytes_eq key.items other.items

-- what is looked up
pub number_looked_up : (es : List (ArrayVec ℕ × ℕ)) (key : ArrayVec ℕ)
    → number_named (names_in es) key.items ≡ unwrap_or (lookup (key_eq key) es) 0
number_looked_up [] key = refl
number_looked_up (e ∷ es) key = grind (arith, number_looked_up es key)

-- a name is this key or another, as the like of this key is
same_test : (key other name : List ℕ) → bytes_eq key other ≡ true → bytes_eq name key ≡ bytes_eq name other
same_test key other name is = ap (bytes_eq name) ((bytes_eq-Decides key other).0 is)

-- what is another than its like is another than the name
other_test : (key other name : List ℕ) → bytes_eq key other ≡ false → bytes_eq name key ≡ true
    → bytes_eq name other ≡ false
other_test key other name isnt is =
    ap (λ (bytes : List ℕ). bytes_eq bytes other) ((bytes_eq-Decides name key).0 is) ∙ isnt

-- what is inserted is given
pub entry_given : (es : List (ArrayVec ℕ × ℕ)) (key : ArrayVec ℕ) (number : ℕ)
    → MeanAlike (names_in (insert_entry key_eq es key number)) (with_name (Some key.items) number (names_in es))
entry_given [] key number name = refl
entry_given (e ∷ es) key number name =
    let same = same_test key.items e.0.items name in
    let other = other_test key.items e.0.items name in
    grind (arith, entry_given es key number name)

-- ---- names that mean the same

pub given_alike : (one other : List Given) (name : Option (List ℕ)) (number : ℕ) → MeanAlike one other
    → MeanAlike (with_name name number one) (with_name name number other)
given_alike one other None number alike w = alike w
given_alike one other (Some name) number alike w = rw (alike w) refl

module _ (one other : List Given) (alike : MeanAlike one other) where
  word_alike : (word : List ℕ) → number_word one word ≡ number_word other word
  word_alike word = rw (alike word) refl

  words_alike : (words : List (List ℕ)) → number_words one words ≡ number_words other words
  words_alike [] = refl
  words_alike (word ∷ words) = rw (word_alike word, words_alike words) refl

  reply_alike : (words : List (List ℕ)) → numbered_reply one words ≡ numbered_reply other words
  reply_alike [] = refl
  reply_alike (word ∷ words) = rw (words_alike words) refl

  pub numbered_alike : (words : List (List ℕ)) → numbered_row one words ≡ numbered_row other words
  numbered_alike [] = refl
  numbered_alike (word ∷ words) = rw (reply_alike words, numbered_alike words) refl

-- ---- words

-- what is written of a name
pub number_written : (names : List Given) (word name bytes : List ℕ) (number : ℕ) → is_name word ≡ true → name ≡ word
    → number ≡ number_named names name → number < 2 ^ 32 → bytes ≡ decimal number
    → words_of bytes ≡ number_word names word ∷ []
number_written names word name bytes number is name_is number_is small bytes_are =
    let alone = word_alone (decimal number) (decimal_word number (omega (arith, small))) in
    let own : decimal number ≡ number_word names word = rw (number_is, name_is) (simp is refl) in
    ap words_of bytes_are ∙ alone ∙ ap (λ (w : List ℕ). w ∷ []) own

-- and of another word
pub word_written : (names : List Given) (line word : List ℕ) (words : List (List ℕ)) → is_name word ≡ false
    → words_of line ≡ word ∷ words → words_of word ≡ number_word names word ∷ []
word_written names line word words isnt is = first_word_alone line word words is ∙ simp isnt refl

-- one word more is written
module _ (names : List Given) (word : List ℕ) (words rest before text after : List (List ℕ))
    (rest_is : rest ≡ word ∷ words) (no_queue : is_queue_word word ≡ false) (after_is : after ≡ before ++ text)
    (text_is : text ≡ number_word names word ∷ []) where
  pub one_more_written : after ++ number_words names words ≡ before ++ number_words names rest
  one_more_written = grind (arith, append_assoc)

-- ---- rows

-- the row of these parts, or these words where there are none
abbrev of_parts : List Given → List (List ℕ) → Option Parts → List (List ℕ)
of_parts names words None = words
of_parts names words (Some parts) = parts.front ++ colon ∷ numbered_reply names parts.back

one_in_front : (names : List Given) (word : List ℕ) (words : List (List ℕ)) (parts : Option Parts)
    → word ∷ of_parts names words parts ≡ of_parts names (word ∷ words) (onto_front word parts)
one_in_front names word words None = refl
one_in_front names word words (Some parts) = refl

row_of_parts : (names : List Given) (words : List (List ℕ))
    → numbered_row names words ≡ of_parts names words (parted words)
row_of_parts names [] = refl
row_of_parts names (word ∷ words) =
    grind (arith, bytes_eq-Decides word colon, row_of_parts names words, one_in_front names word words (parted words))

-- a row is as it was in front of its reply
pub numbered_parts : (names : List Given) (words : List (List ℕ)) (parts : Parts) → parted words ≡ Some parts
    → numbered_row names words ≡ parts.front ++ colon ∷ numbered_reply names parts.back
numbered_parts names words parts are = row_of_parts names words ∙ ap (of_parts names words) are

-- one without a reply is all as it was
pub numbered_unparted : (names : List Given) (words : List (List ℕ)) → parted words ≡ None
    → numbered_row names words ≡ words
numbered_unparted names words none = row_of_parts names words ∙ ap (of_parts names words) none

-- a row is written part by part
module _ (names : List Given) (line front reply begun further written : List (List ℕ)) (cleared text : List ℕ)
    (parts_are : parted line ≡ Some (record { front = front; back = reply }))
    (cleared_is : cleared ≡ []) (begun_is : begun ≡ words_of cleared ++ front)
    (text_is : text ≡ colon) (further_is : further ≡ begun ++ words_of text) where
  pub row_written : written ≡ further ++ numbered_reply names reply → written ≡ numbered_row names line
  row_written is = grind (arith, append_assoc, numbered_parts names line _ parts_are)
