-- A text spells at most one script.
use Rattle.ref_script.proofs.Common.{arith, ◌≡◌, ℕ, ◌^◌, false, List, [], ◌∷◌, Option, Some, None, refl, sym, ap, ◌∙◌}
use Rattle.ref_script.proofs.Common.{bytes_eq, bytes_eq-Decides, Word, Config, lines_of, number_below, IsSpelt}
use Rattle.ref_script.proofs.Common.{AreSpelt}
use Rattle.ref_script.proofs.Common.{SpellsScriptStep, Operand, operands_in, forms_of_letter, turn_forms, told}
use Rattle.ref_script.proofs.Common.{ScriptStep}
use Rattle.ref_script.proofs.Common.{config_of, SpellSteps, SpellScript, IsScript}
use Rattle.ref_script.specs.Versions.{header_rule}
use Rattle.ref_script.proofs.Spelt.{actor_number, no_turn, word_as, says_it}
use Rattle.ref_script.proofs.StepForms.{IsOf, AreOf, Lead, By, Turn, words_behind, forms_of, form_of_step}

pub some_is : {A : Type 0} (o : Option A) (x y : A) → o ≡ Some x → o ≡ Some y → x ≡ y
some_is o x y h k = let same : some x ≡ some y = sym h ∙ k in cc
  where
    some : {B : Type 0} → B → Option B
    some z = Some z

not_both : {A : Type 0} (o : Option A) (x : A) → o ≡ None → o ≡ Some x → ⊥
not_both o x h k = let same : none ≡ some x = sym h ∙ k in cc
  where
    some : {B : Type 0} → B → Option B
    some z = Some z

    none : {B : Type 0} → Option B
    none = None

-- a word is not two names
pub other_name : (word name other : List ℕ) → word ≡ name → word ≡ other → bytes_eq name other ≡ false → ⊥
other_name word name other h k differ = grind (arith, bytes_eq-Decides)

-- a word spells at most one of an operand
one_word : (operand : Operand) (w : List ℕ) (u v : Word) → IsOf operand u → IsOf operand v → IsSpelt w u → IsSpelt w v
    → u ≡ v
one_word operand w u v of og h k = some_is (word_as operand w) u v (says_it operand w u of h) (says_it operand w v og k)

one_spelling : (operands : List Operand) (words : List (List ℕ)) (us vs : List Word) → AreOf operands us
    → AreOf operands vs → AreSpelt words us → AreSpelt words vs → us ≡ vs
one_spelling [] words [] [] of og h k = refl
one_spelling [] words [] (v ∷ vs) of og h k = absurd og
one_spelling [] words (u ∷ us) vs of og h k = absurd of
one_spelling (o ∷ operands) words [] vs of og h k = absurd of
one_spelling (o ∷ operands) words (u ∷ us) [] of og h k = absurd og
one_spelling (o ∷ operands) [] (u ∷ us) (v ∷ vs) of og h k = absurd h
one_spelling (o ∷ operands) (w ∷ ws) (u ∷ us) (v ∷ vs) of og h k =
    search (one_spelling operands ws us vs of.1 og.1 h.1 k.1, one_word o w u v of.0 og.0 h.0 k.0)

-- the operands behind one name are the same, and so are the words that are spelt by the same
behind_one_name : (o p : Option (List Operand)) (operands others : List Operand) (words : List (List ℕ))
    (us vs : List Word) → o ≡ p → o ≡ Some operands → p ≡ Some others → AreOf operands us → AreOf others vs
    → AreSpelt words us → AreSpelt words vs → us ≡ vs
behind_one_name o p operands others words us vs same known also of og h k = grind (arith, one_spelling)

-- words that are spelt by forms of the table are spelt by one
one_form : (l r : Lead) (x y : List ℕ) (operands others : List Operand) (us vs : List Word) (words : List (List ℕ))
    → operands_in (forms_of l) x ≡ Some operands → operands_in (forms_of r) y ≡ Some others → AreOf operands us
    → AreOf others vs → AreSpelt words (words_behind l x us) → AreSpelt words (words_behind r y vs)
    → words_behind l x us ≡ words_behind r y vs
one_form (By b m) r x y operands others us vs [] known also of og h k = absurd h
one_form (By b m) Turn x y operands others us vs (a ∷ ws) known also of og h k =
    let actor = actor_number b a m h.0 in
    let none : operands_in turn_forms a ≡ None = rw actor.1 (no_turn b actor.0 x operands known) in
    absurd (not_both (operands_in turn_forms a) others none (rw k.0 also))
one_form (By b m) (By c n) x y operands others us vs (a ∷ []) known also of og h k = absurd h.1
one_form (By b m) (By c n) x y operands others us vs (a ∷ w ∷ ws) known also of og h k =
    let actor = actor_number b a m h.0 in
    let other = actor_number c a n k.0 in
    let same : (b ∷ actor.0) ≡ (c ∷ other.0) = sym actor.1 ∙ other.1 in
    let same_letter : b ≡ c = cc in
    let same_number : actor.0 ≡ other.0 = cc in
    let same_m : m ≡ n =
    some_is (number_below (2 ^ 32) actor.0) m n actor.2 (ap (number_below (2 ^ 32)) same_number ∙ other.2) in
    let same_name : x ≡ y = sym h.1.0 ∙ k.1.0 in
    let same_known : operands_in (forms_of_letter b) x ≡ operands_in (forms_of_letter c) y =
    rw (same_letter, same_name) refl in
    let same_words : us ≡ vs =
    behind_one_name _ _ operands others ws us vs same_known known also of og h.1.1 k.1.1 in
    cc
one_form Turn r x y operands others us vs [] known also of og h k = absurd h
one_form Turn (By c n) x y operands others us vs (a ∷ ws) known also of og h k =
    let actor = actor_number c a n k.0 in
    let none : operands_in turn_forms a ≡ None = rw actor.1 (no_turn c actor.0 y others also) in
    absurd (not_both (operands_in turn_forms a) operands none (rw h.0 known))
one_form Turn Turn x y operands others us vs (a ∷ ws) known also of og h k =
    let same_name : x ≡ y = sym h.0 ∙ k.0 in
    let same_words : us ≡ vs =
    behind_one_name _ _ operands others ws us vs (ap (operands_in turn_forms) same_name) known also of og h.1 k.1 in
    cc

-- words spell at most one step
pub one_step : (s t : ScriptStep) (words : List (List ℕ)) → SpellsScriptStep words s → SpellsScriptStep words t → s ≡ t
one_step s t words h k = grind (arith, one_form, form_of_step s, form_of_step t)

one_list : (lines : List (List (List ℕ))) (r s : List ScriptStep) → SpellSteps lines r → SpellSteps lines s → r ≡ s
one_list [] [] [] h k = refl
one_list [] [] (t ∷ s) h k = absurd k
one_list [] (u ∷ r) s h k = absurd h
one_list (words ∷ lines) [] s h k = absurd h
one_list (words ∷ lines) (u ∷ r) [] h k = absurd k
one_list (words ∷ lines) (u ∷ r) (t ∷ s) h k = search (one_list lines r s h.1 k.1, one_step u t words h.0 k.0)

one_body : (lines : List (List (List ℕ))) (c d : Config) (r s : List ScriptStep) → SpellScript lines c r
    → SpellScript lines d s → (c ≡ d) × (r ≡ s)
one_body [] c d r s h k = absurd h
one_body (header ∷ []) c d r s h k = absurd h
one_body (header ∷ words ∷ lines) c d r s h k =
    let same : c.rule ≡ d.rule = some_is (header_rule header) c.rule d.rule h.0 k.0 in
    let other : config_of c.rule words ≡ Some d = ap (λ rule. config_of rule words) same ∙ k.1 in
    (some_is (config_of c.rule words) c d h.1 other, one_list lines r s h.3 k.3)

pub one_script : (text : List ℕ) (c d : Config) (r s : List ScriptStep) → IsScript text c r → IsScript text d s
    → (c ≡ d) × (r ≡ s)
one_script text c d r s h k = one_body (told (lines_of text)) c d r s h.lines.told k.lines.told
