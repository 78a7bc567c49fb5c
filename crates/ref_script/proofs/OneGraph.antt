-- A text declares at most one graph.
use Rattle.ref_script.proofs.Common.{arith, ◌≡◌, ℕ, List, [], ◌∷◌, Option, Some, None, codes, refl, ap, Graph}
use Rattle.ref_script.proofs.Common.{Strength}
use Rattle.ref_script.proofs.Common.{Soft, Weak, Phantom, Declared, Root, Plain, Reference, SpellsObject}
use Rattle.ref_script.proofs.Common.{SpellsObjectOrNone, SpellFields, strength_name, SpellsDeclared, SpellAll}
use Rattle.ref_script.proofs.Common.{SpellGraph}
use Rattle.ref_script.proofs.Common.{DeclaresGraph}
use Rattle.ref_script.proofs.OneReading.{some_is, other_name}

one_object : (word : List ℕ) (n m : ℕ) → SpellsObject word n → SpellsObject word m → n ≡ m
one_object word n m h k = some_is _ n m h.0 k.0

-- `-` is no number
no_hyphen : (word : List ℕ) (n : ℕ) → word ≡ codes "-" → SpellsObject word n → ⊥
no_hyphen word n h k = cc

one_object_or_none : (word : List ℕ) (f g : Option ℕ) → SpellsObjectOrNone word f → SpellsObjectOrNone word g → f ≡ g
one_object_or_none word None None h k = refl
one_object_or_none word (Some n) (Some m) h k = ap (λ x. Some x) (one_object word n m h k)
one_object_or_none word None (Some m) h k = absurd (no_hyphen word m h k)
one_object_or_none word (Some n) None h k = absurd (no_hyphen word n k h)

one_row : (words : List (List ℕ)) (f g : List (Option ℕ)) → SpellFields words f → SpellFields words g → f ≡ g
one_row [] [] [] h k = refl
one_row [] [] (y ∷ g) h k = absurd k
one_row [] (x ∷ f) g h k = absurd h
one_row (word ∷ words) [] g h k = absurd h
one_row (word ∷ words) (x ∷ f) [] h k = absurd k
one_row (word ∷ words) (x ∷ f) (y ∷ g) h k = search (one_object_or_none, one_row words f g h.1 k.1)

-- a reference's name is that of one strength, and of no other line
one_strength : (name : List ℕ) (s t : Strength) → name ≡ strength_name s → name ≡ strength_name t → s ≡ t
one_strength name Soft Soft h k = refl
one_strength name Weak Weak h k = refl
one_strength name Phantom Phantom h k = refl
one_strength name Soft Weak h k = absurd (other_name name _ _ h k refl)
one_strength name Soft Phantom h k = absurd (other_name name _ _ h k refl)
one_strength name Weak Soft h k = absurd (other_name name _ _ h k refl)
one_strength name Weak Phantom h k = absurd (other_name name _ _ h k refl)
one_strength name Phantom Soft h k = absurd (other_name name _ _ h k refl)
one_strength name Phantom Weak h k = absurd (other_name name _ _ h k refl)

no_plain : (name : List ℕ) (s : Strength) → name ≡ codes "plain" → name ≡ strength_name s → ⊥
no_plain name Soft h k = other_name name _ _ h k refl
no_plain name Weak h k = other_name name _ _ h k refl
no_plain name Phantom h k = other_name name _ _ h k refl

-- words spell at most one thing
one_declared : (d e : Declared) (words : List (List ℕ)) → SpellsDeclared words d → SpellsDeclared words e → d ≡ e
one_declared (Root n) (Root m) (name ∷ word ∷ []) h k = search
one_declared (Root n) (Plain m g) (name ∷ word ∷ []) h k = absurd (other_name name _ _ h.0 k.0 refl)
one_declared (Plain n f) (Root m) (name ∷ word ∷ []) h k = absurd (other_name name _ _ h.0 k.0 refl)
one_declared (Plain n f) (Plain m g) (name ∷ word ∷ words) h k = search (one_row words f g h.2 k.2)
one_declared (Plain n f) (Reference m t q g) (name ∷ word ∷ other ∷ words) h k = absurd (no_plain name t h.0 k.0)
one_declared (Reference n s r f) (Plain m g) (name ∷ word ∷ other ∷ words) h k = absurd (no_plain name s k.0 h.0)
one_declared (Reference n s r f) (Reference m t q g) (name ∷ word ∷ other ∷ words) h k =
    search (one_object, one_strength, one_object_or_none, one_row words f g h.3 k.3)
one_declared (Root n) e [] h k = absurd h
one_declared (Root n) e (name ∷ []) h k = absurd h
one_declared (Root n) e (name ∷ word ∷ other ∷ words) h k = absurd h
one_declared (Root n) (Reference m t q g) (name ∷ word ∷ []) h k = absurd k
one_declared (Plain n f) e [] h k = absurd h
one_declared (Plain n f) e (name ∷ []) h k = absurd h
one_declared (Plain n f) (Root m) (name ∷ word ∷ other ∷ words) h k = absurd k
one_declared (Plain n f) (Reference m t q g) (name ∷ word ∷ []) h k = absurd k
one_declared (Reference n s r f) e [] h k = absurd h
one_declared (Reference n s r f) e (name ∷ []) h k = absurd h
one_declared (Reference n s r f) e (name ∷ word ∷ []) h k = absurd h
one_declared (Reference n s r f) (Root m) (name ∷ word ∷ other ∷ words) h k = absurd k

one_list : (lines : List (List (List ℕ))) (r s : List Declared) → SpellAll lines r → SpellAll lines s → r ≡ s
one_list [] [] [] h k = refl
one_list [] [] (e ∷ s) h k = absurd k
one_list [] (d ∷ r) s h k = absurd h
one_list (words ∷ lines) [] s h k = absurd h
one_list (words ∷ lines) (d ∷ r) [] h k = absurd k
one_list (words ∷ lines) (d ∷ r) (e ∷ s) h k = search (one_declared, one_list lines r s h.1 k.1)

one_body : (lines : List (List (List ℕ))) (r s : List Declared) → SpellGraph lines r → SpellGraph lines s → r ≡ s
one_body [] r s h k = absurd h
one_body (header ∷ lines) r s h k = one_list lines r s h.1 k.1

pub one_graph : (text : List ℕ) (g h : Graph) → DeclaresGraph text g → DeclaresGraph text h → g ≡ h
one_graph text g h a b = grind (arith, one_body)
