-- Words that spell a step have no fault.
use Rattle.ref_script.proofs.Common.{◌≡◌, ℕ, ◌^◌, true, List, [], ◌∷◌, length, Option, Some, None, codes, refl, subst}
use Rattle.ref_script.proofs.Common.{if◌then◌else◌, inl, inr, arith, cases_Bool, bytes_eq, Word, Letters, Long, slot}
use Rattle.ref_script.proofs.Common.{queue}
use Rattle.ref_script.proofs.Common.{number, Urgent, number_below, number_behind, IsSpelt, AreSpelt, SpellsScriptStep}
use Rattle.ref_script.proofs.Common.{ScriptStep, Operand, Slot, Queue, QueueOrNone, Number, Clock, UrgencyName}
use Rattle.ref_script.proofs.Common.{operands_in}
use Rattle.ref_script.proofs.Common.{forms_of_letter, turn_forms, step_fault, all_fit, operand_fault}
use Rattle.std.proofs.Common.{is_some}
use Rattle.ref_base.specs.declared.urgency.Urgency.TheVariants.{Normal}
use Rattle.ref_script.specs.StepFaults.{fits}
use Rattle.ref_script.proofs.StepForms.{IsOf, AreOf, Lead, By, Turn, words_behind, forms_of, form_of_step}

-- the number of an actor stands behind its letter
pub actor_number : (letter : ℕ) (actor : List ℕ) (n : ℕ) → number_behind (letter ∷ []) actor ≡ Some n
    → (number : List ℕ) × (actor ≡ letter ∷ number) × (number_below (2 ^ 32) number ≡ Some n)
actor_number letter [] n h = absurd cc
actor_number letter (b ∷ number) n h = grind arith

-- an actor that has steps isn't the name of a turn
pub no_turn : (letter : ℕ) (number name : List ℕ) (operands : List Operand)
    → operands_in (forms_of_letter letter) name ≡ Some operands → operands_in turn_forms (letter ∷ number) ≡ None
no_turn letter number name operands known = grind arith

-- what a word says as an operand
abbrev said : (ℕ → Word) → Option ℕ → Option Word
said spell None = None
said spell (Some n) = Some (spell n)

abbrev pub word_as : Operand → List ℕ → Option Word
word_as Slot word = said slot (number_behind (codes "s") word)
word_as Queue word = said queue (number_behind (codes "q") word)
word_as QueueOrNone word =
    if bytes_eq word (codes "-") then Some (Letters word) else said queue (number_behind (codes "q") word)
word_as Number word = said number (number_below (2 ^ 32) word)
word_as Clock word = said (λ n. Long n) (number_below (2 ^ 64) word)
word_as UrgencyName word = if fits UrgencyName word then Some (Letters word) else None

-- a word that spells one of the operand says it
pub says_it : (operand : Operand) (word : List ℕ) (v : Word) → IsOf operand v → IsSpelt word v
    → word_as operand word ≡ Some v
says_it Slot word v (n, is) h = rw (is, subst (IsSpelt word) is h) refl
says_it Queue word v (n, is) h = rw (is, subst (IsSpelt word) is h) refl
says_it QueueOrNone word v (q, is) h = grind arith
says_it Number word v (n, is) h = rw (is, subst (IsSpelt word) is h) refl
says_it Clock word v (n, is) h = rw (is, subst (IsSpelt word) is h) refl
says_it UrgencyName word v (Normal, is) h = rw (is, subst (IsSpelt word) is h) refl
says_it UrgencyName word v (Urgent, is) h = rw (is, subst (IsSpelt word) is h) refl

some_said : (spell : ℕ → Word) (o : Option ℕ) → is_some o ≡ is_some (said spell o)
some_said spell None = refl
some_said spell (Some n) = refl

fits_as : (operand : Operand) (word : List ℕ) → fits operand word ≡ is_some (word_as operand word)
fits_as Slot word = some_said slot (number_behind (codes "s") word)
fits_as Queue word = some_said queue (number_behind (codes "q") word)
fits_as QueueOrNone word = grind arith
fits_as Number word = some_said number (number_below (2 ^ 32) word)
fits_as Clock word = some_said (λ n. Long n) (number_below (2 ^ 64) word)
fits_as UrgencyName word = elim (cases_Bool (fits UrgencyName word)) [
  | inl is ↦ simp is refl
  | inr isnt ↦ simp isnt refl
]

operands_fit : (operands : List Operand) (words : List (List ℕ)) (vs : List Word) → AreOf operands vs
    → AreSpelt words vs → (length words ≡ length operands) × (all_fit operands words ≡ true)
operands_fit [] [] [] of h = (refl, refl)
operands_fit [] (w ∷ ws) [] of h = absurd h
operands_fit [] words (v ∷ vs) of h = absurd of
operands_fit (o ∷ operands) words [] of h = absurd of
operands_fit (o ∷ operands) [] (v ∷ vs) of h = absurd h
operands_fit (o ∷ operands) (w ∷ ws) (v ∷ vs) of h =
    search (fits_as, operands_fit operands ws vs of.1 h.1, says_it o w v of.0 h.0)

operands_without_fault : (operands : List Operand) (words : List (List ℕ)) (vs : List Word) → AreOf operands vs
    → AreSpelt words vs → operand_fault operands words ≡ None
operands_without_fault operands words vs of h = grind (arith, operands_fit)

form_without_fault : (lead : Lead) (name : List ℕ) (operands : List Operand) (vs : List Word) (words : List (List ℕ))
    → operands_in (forms_of lead) name ≡ Some operands → AreOf operands vs
    → AreSpelt words (words_behind lead name vs) → step_fault words ≡ None
form_without_fault (By letter n) name operands vs [] known of h = absurd h
form_without_fault (By letter n) name operands vs (a ∷ []) known of h = absurd h.1
form_without_fault (By letter n) name operands vs (a ∷ w ∷ ws) known of h =
    let actor = actor_number letter a n h.0 in
    let known_name : operands_in (forms_of_letter letter) w ≡ Some operands = rw h.1.0 known in
    let whole : operand_fault (Number ∷ operands) (actor.0 ∷ ws) ≡ None =
    operands_without_fault (Number ∷ operands) (actor.0 ∷ ws) (number n ∷ vs) ((n, refl), of) (actor.2, h.1.1) in
    rw (actor.1, no_turn letter actor.0 name operands known, known_name) whole
form_without_fault Turn name operands vs [] known of h = absurd h
form_without_fault Turn name operands vs (w ∷ ws) known of h = search (operands_without_fault operands ws vs of h.1)

-- words that spell a step have no fault
pub spelt_without_fault : (words : List (List ℕ)) (step : ScriptStep) → SpellsScriptStep words step
    → step_fault words ≡ None
spelt_without_fault words step h = grind (arith, form_without_fault, form_of_step step)
