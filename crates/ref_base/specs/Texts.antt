-- The words that steps and replies are spelled with (this project's profile).
use Rattle.std.specs.Prelude.{ℕ, List, [], ◌∷◌, ◌++◌, Option, Some, None, codes, decimal}

-- a word: letters as they stand, a number below 2^32 behind some letters, or a number below 2^64 alone
pub data Word : Type 0 where
  Letters : List ℕ → Word
  Numbered : List ℕ → ℕ → Word
  Long : ℕ → Word

-- the one text of a word, its number without leading zeros
abbrev pub word_text : Word → List ℕ
word_text (Letters letters) = letters
word_text (Numbered letters n) = letters ++ decimal n
word_text (Long n) = decimal n

-- the text of words, with one space between each two
abbrev pub text_of : List Word → List ℕ
text_of [] = []
text_of (w ∷ []) = word_text w
text_of (w ∷ v ∷ ws) = word_text w ++ 32 ∷ text_of (v ∷ ws)

-- the word for a mutator, as m0
abbrev pub mutator : ℕ → Word
mutator m = Numbered (codes "m") m

-- the word for a worker, as w0
abbrev pub worker : ℕ → Word
worker w = Numbered (codes "w") w

-- the word for a slot, as s0
abbrev pub slot : ℕ → Word
slot s = Numbered (codes "s") s

-- the word for a queue, as q0
abbrev pub queue : ℕ → Word
queue q = Numbered (codes "q") q

-- the word for a queue, or a dash for none
abbrev pub queue_or_none : Option ℕ → Word
queue_or_none (Some q) = queue q
queue_or_none None = Letters (codes "-")

-- the word that is a number alone
abbrev pub number : ℕ → Word
number n = Numbered [] n
