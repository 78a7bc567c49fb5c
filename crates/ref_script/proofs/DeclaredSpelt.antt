-- Words that spell what a line says have no fault.
use Rattle.ref_script.proofs.Common.{◌≡◌, ℕ, ◌+◌, ◌≤◌, true, List, [], ◌∷◌, length, None, refl, arith, take_all}
use Rattle.ref_script.proofs.Common.{words_fault, declaration_fault, number_in, are_operands, Declared, Root, Plain}
use Rattle.ref_script.proofs.Common.{Reference, SpellsDeclared, declared_no}
use Rattle.ref_script.proofs.Fields.{object_fits, object_or_none_fits, fields_fit, fields_length}

-- enough words, of their forms, and no more than may stand there
words_without_fault : (least more : ℕ) (words : List (List ℕ)) → least ≤ length words → length words ≤ least + more
    → are_operands words ≡ true → words_fault least more words ≡ None
words_without_fault least more words enough most fit = grind (arith, take_all)

pub declared_without_fault : (d : Declared) (words : List (List ℕ)) → SpellsDeclared words d
    → declaration_fault words ≡ None
declared_without_fault (Root n) [] h = absurd h
declared_without_fault (Root n) (name ∷ []) h = absurd h
declared_without_fault (Root n) (name ∷ word ∷ other ∷ words) h = absurd h
declared_without_fault (Root n) (name ∷ word ∷ []) h =
    rw h.0 (words_without_fault 1 0 (word ∷ []) (omega arith) (omega arith) (simp (object_fits word n h.1) refl))
declared_without_fault (Plain n fields) [] h = absurd h
declared_without_fault (Plain n fields) (name ∷ []) h = absurd h
declared_without_fault (Plain n fields) (name ∷ word ∷ words) h =
    grind (arith, fields_length, fields_fit, words_without_fault 1 8 (word ∷ words), object_fits word n h.1)
declared_without_fault (Reference n s r fields) [] h = absurd h
declared_without_fault (Reference n s r fields) (name ∷ []) h = absurd h
declared_without_fault (Reference n s r fields) (name ∷ word ∷ []) h = absurd h
declared_without_fault (Reference n s r fields) (name ∷ word ∷ other ∷ words) h =
    grind (
      arith,
      fields_length,
      object_or_none_fits,
      fields_fit,
      words_without_fault 2 8 (word ∷ other ∷ words),
      object_fits word n h.1,
    )

-- the number that the words have is that of what they say
pub number_of_words : (d : Declared) (words : List (List ℕ)) → SpellsDeclared words d
    → number_in words ≡ declared_no d
number_of_words (Root n) [] h = absurd h
number_of_words (Root n) (name ∷ []) h = absurd h
number_of_words (Root n) (name ∷ word ∷ other ∷ words) h = absurd h
number_of_words (Root n) (name ∷ word ∷ []) h = rw h.0 refl
number_of_words (Plain n fields) [] h = absurd h
number_of_words (Plain n fields) (name ∷ []) h = absurd h
number_of_words (Plain n fields) (name ∷ word ∷ words) h = rw h.0 h.1.0
number_of_words (Reference n s r fields) [] h = absurd h
number_of_words (Reference n s r fields) (name ∷ []) h = absurd h
number_of_words (Reference n s r fields) (name ∷ word ∷ []) h = absurd h
number_of_words (Reference n s r fields) (name ∷ word ∷ other ∷ words) h = grind arith
