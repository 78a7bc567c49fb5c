-- Objects that have names of the collector's own in a log, as addresses (this project's profile).
use Rattle.std.specs.Prelude.{◌≡◌, ℕ, Bool, false, not, ◌&&◌, ◌||◌, if◌then◌else◌, ◌==◌, List, [], ◌∷◌}
use Rattle.std.specs.Prelude.{Option, Some, None, codes, nat_le, length, decimal}
use Rattle.std.specs.Char.{is_ascii_digit, is_ascii_alphanumeric}
use Rattle.std.specs.List.{list_all, list_any}
use Rattle.std.specs.Str.{bytes_eq}
use Rattle.ref_log.specs.LogRows.{Parts, colon, parted, unnumbered}

-- a name that was given, and the number of the object that has it
pub record Given : Type 0 where
  pub name : List ℕ
  pub number : ℕ

-- the number of the object to which the name was given last: the first of these; and 0, which no object has, where it
-- was given to none
abbrev pub number_named : List Given → List ℕ → ℕ
number_named [] name = 0
number_named (g ∷ gs) name = if bytes_eq name g.name then g.number else number_named gs name

-- each name means the same object in both
abbrev pub MeanAlike : List Given → List Given → Type 0
MeanAlike one other = (name : List ℕ) → number_named one name ≡ number_named other name

-- ---- words

-- `q` and digits, as a queue is spelled
abbrev pub is_queue_word : List ℕ → Bool
is_queue_word [] = false
is_queue_word (b ∷ []) = false
is_queue_word (b ∷ c ∷ bs) = b == 113 && list_all is_ascii_digit (c ∷ bs)

-- a letter, a digit or `_`
abbrev pub is_name_byte : ℕ → Bool
is_name_byte b = is_ascii_alphanumeric b || b == 95

-- a word of up to 20 of these that isn't spelled as a queue
abbrev pub is_name : List ℕ → Bool
is_name word = (list_all is_name_byte word && nat_le (length word) 20) && not (is_queue_word word)

-- the first words of replies that name objects
abbrev pub naming_replies : List (List ℕ)
naming_replies =
    codes "object" ∷ codes "took" ∷ codes "scanned" ∷ codes "cleared" ∷ codes "kept" ∷ codes "skipped" ∷ codes "moved"
    ∷ codes "notice" ∷ codes "notices" ∷ []

-- a reply that begins with this word names objects
abbrev pub is_naming : List ℕ → Bool
is_naming word = list_any (bytes_eq word) naming_replies

-- ---- numbers in the place of names

-- a word, or the number in its place if it is a name
abbrev pub number_word : List Given → List ℕ → List ℕ
number_word names word = if is_name word then decimal (number_named names word) else word

-- words with numbers in the place of names, up to a word that is spelled as a queue
abbrev pub number_words : List Given → List (List ℕ) → List (List ℕ)
number_words names [] = []
number_words names (word ∷ words) =
    if is_queue_word word then word ∷ words else number_word names word ∷ number_words names words

-- a reply with numbers in the place of names
abbrev pub numbered_reply : List Given → List (List ℕ) → List (List ℕ)
numbered_reply names [] = []
numbered_reply names (word ∷ words) = if is_naming word then word ∷ number_words names words else word ∷ words

-- a row with numbers in the place of names. Behind its first colon stands its reply.
abbrev pub numbered_row : List Given → List (List ℕ) → List (List ℕ)
numbered_row names [] = []
numbered_row names (word ∷ words) =
    if bytes_eq word colon then word ∷ numbered_reply names words else word ∷ numbered_row names words

-- ---- names given

-- the second word of a step that makes an object
abbrev pub is_making_word : List ℕ → Bool
is_making_word word = list_any (bytes_eq word) (codes "new" ∷ codes "soft" ∷ codes "weak" ∷ codes "phantom" ∷ [])

-- the words of a step that makes an object
abbrev pub is_making : List (List ℕ) → Bool
is_making (actor ∷ step ∷ words) = is_making_word step
is_making words = false

-- the name that the reply to such a step gives
abbrev pub name_in : List (List ℕ) → Option (List ℕ)
name_in (word ∷ name ∷ []) = if bytes_eq word (codes "object") && is_name name then Some name else None
name_in words = None

-- the name that a row of these parts gives to the object that it makes
abbrev pub name_of_parts : Option Parts → Option (List ℕ)
name_of_parts None = None
name_of_parts (Some parts) = if is_making parts.front then name_in parts.back else None

-- the name that a row gives to the object that it makes
abbrev pub name_given : List (List ℕ) → Option (List ℕ)
name_given words = name_of_parts (parted (unnumbered words))

-- the names that were given, once this one is given to the object of this number, if there is one
abbrev pub with_name : Option (List ℕ) → ℕ → List Given → List Given
with_name None number names = names
with_name (Some name) number names = record { name = name; number = number } ∷ names
