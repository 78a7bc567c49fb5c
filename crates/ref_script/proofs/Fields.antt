-- The fields of a line of a graph text, word by word.
use Rattle.ref_script.proofs.Common.{◌≡◌, ℕ, zero, suc, ◌≤◌, ◌<◌, true, false, List, [], ◌∷◌, ◌++◌, length, take}
use Rattle.ref_script.proofs.Common.{Option}
use Rattle.ref_script.proofs.Common.{Some, None, refl, ap, append_assoc, arith, list_all, lt-ltb, le-ltb}
use Rattle.ref_script.proofs.Common.{take-append_seam}
use Rattle.ref_script.proofs.Common.{append-nil, are_operands, words_fault, SpellsObject, SpellsObjectOrNone}
use Rattle.ref_script.proofs.Common.{SpellFields}
use Rattle.ref_script.proofs.Common.{BadWord, ExtraWord, Bool, ◌&&◌, ◌+◌, ◌∙◌}
use Rattle.std.proofs.Common.{◌⊎◌, nat_lt}
use Rattle.std.proofs.lemmas.Bool.{or_right}
use Rattle.std.proofs.lemmas.List.{length-append}
use Rattle.ref_script.specs.DeclarationFaults.{is_object, is_object_or_none}
use Rattle.ref_script.specs.DeclarationViews.{ReadsFields}

-- a word that spells a number is of its form
pub object_fits : (word : List ℕ) (n : ℕ) → SpellsObject word n → is_object word ≡ true
object_fits word n h = rw h.0 (lt-ltb 0 n (omega (arith, h.1)))

pub object_or_none_fits : (word : List ℕ) (field : Option ℕ) → SpellsObjectOrNone word field
    → is_object_or_none word ≡ true
object_or_none_fits word (Some n) h = or_right _ _ (object_fits word n h)
object_or_none_fits word None h = rw h refl

pub fields_fit : (words : List (List ℕ)) (fields : List (Option ℕ)) → SpellFields words fields
    → list_all is_object_or_none words ≡ true
fields_fit [] [] h = refl
fields_fit [] (field ∷ fields) h = absurd h
fields_fit (word ∷ words) [] h = absurd h
fields_fit (word ∷ words) (field ∷ fields) h =
    simp (object_or_none_fits word field h.0) (fields_fit words fields h.1)

-- each field has its word
pub fields_length : (words : List (List ℕ)) (fields : List (Option ℕ)) → SpellFields words fields
    → length words ≡ length fields
fields_length [] [] h = refl
fields_length [] (field ∷ fields) h = absurd h
fields_length (word ∷ words) [] h = absurd h
fields_length (word ∷ words) (field ∷ fields) h = ap suc (fields_length words fields h.1)

-- a word more
spell_push : (words : List (List ℕ)) (fields : List (Option ℕ)) (word : List ℕ) (field : Option ℕ)
    → SpellFields words fields → SpellsObjectOrNone word field → SpellFields (words ++ word ∷ []) (fields ++ field ∷ [])
spell_push [] [] word field h k = (k, tt)
spell_push [] (f ∷ fields) word field h k = absurd h
spell_push (w ∷ words) [] word field h k = absurd h
spell_push (w ∷ words) (f ∷ fields) word field h k = (h.0, spell_push words fields word field h.1 k)

-- a bad word among the first n
bad_among : (n : ℕ) (read : List (List ℕ)) (word : List ℕ) (more : List (List ℕ)) → length read < n
    → is_object_or_none word ≡ false → list_all is_object_or_none (take n (read ++ word ∷ more)) ≡ false
bad_among zero read word more less bad = absurd (omega (arith, less))
bad_among (suc n) [] word more less bad = simp bad refl
bad_among (suc n) (w ∷ read) word more less bad = grind (arith, bad_among n read word more)

-- the words so far spell the fields so far
pub record HasFields (words : List (List ℕ)) (fields : List (Option ℕ)) (rest : List (List ℕ)) : Type 0 where
  pub read : List (List ℕ)
  pub parts : words ≡ read ++ rest
  pub spelt : SpellFields read fields
  pub most : length fields ≤ 8

pub has_field_more : (words rest behind : List (List ℕ)) (fields more : List (Option ℕ)) (word : List ℕ)
    (field : Option ℕ) → HasFields words fields rest → rest ≡ word ∷ behind → length fields < 8
    → SpellsObjectOrNone word field → more ≡ fields ++ field ∷ [] → HasFields words more behind
has_field_more words rest behind fields more word field h cut less spells more_is =
    grind (arith, append_assoc, spell_push, length-append)

-- no word is left, or there are 8 fields
pub reads_fields : (words rest : List (List ℕ)) (fields : List (Option ℕ)) → HasFields words fields rest
    → (rest ≡ []) ⊎ (8 ≤ length fields) → ReadsFields words fields rest
reads_fields words rest fields h end = grind (arith, fields_length)

-- the next word is a bad one
pub has_bad_field : (words rest behind : List (List ℕ)) (fields : List (Option ℕ)) (word : List ℕ)
    → HasFields words fields rest → rest ≡ word ∷ behind → length fields < 8 → is_object_or_none word ≡ false
    → list_all is_object_or_none (take 8 words) ≡ false
has_bad_field words rest behind fields word h cut less bad =
    rw (h.parts, cut) (bad_among 8 h.read word behind (omega (arith, less, fields_length h.read fields h.spelt)) bad)

-- so the words of a reference are faulty, whatever stands before
none_of : (a b : Bool) → (a && (b && false)) ≡ false
none_of true true = refl
none_of true false = refl
none_of false b = refl

pub bad_reference : (word other : List ℕ) (words : List (List ℕ)) → list_all is_object_or_none (take 8 words) ≡ false
    → words_fault 2 8 (word ∷ other ∷ words) ≡ Some BadWord
bad_reference word other words bad =
    let none : are_operands (take (2 + 8) (word ∷ other ∷ words)) ≡ false =
    ap (λ b. is_object word && (is_object_or_none other && b)) bad
    ∙ none_of (is_object word) (is_object_or_none other) in
    let enough : nat_lt (length (word ∷ other ∷ words)) 2 ≡ false =
    le-ltb (length (word ∷ other ∷ words)) 2 (omega arith) in
    rw (enough, none) refl

-- where no word is left the words spell the fields
pub all_fields : (words rest : List (List ℕ)) (fields : List (Option ℕ)) → ReadsFields words fields rest → rest ≡ []
    → SpellFields words fields × (length fields ≤ 8)
all_fields words rest fields h none = grind (arith, append-nil, fields_length)

-- where a word is left behind the fields it is one too many
pub extra_words : (front words rest more : List (List ℕ)) (word : List ℕ) (fields : List (Option ℕ))
    → ((read : List (List ℕ)) → list_all is_object_or_none read ≡ true → are_operands (front ++ read) ≡ true)
    → ReadsFields words fields rest → rest ≡ word ∷ more
    → words_fault (length front) 8 (front ++ words) ≡ Some ExtraWord
extra_words front words rest more word fields fit h left =
    grind (arith, append_assoc, length-append, fields_fit, take-append_seam, le-ltb, lt-ltb)
