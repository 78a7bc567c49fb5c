-- What was read of the operands of a step.
use Rattle.ref_script.proofs.Common.{◌≡◌, ℕ, Bool, true, false, not, ◌&&◌, ◌||◌, if◌then◌else◌, List, [], ◌∷◌, length}
use Rattle.ref_script.proofs.Common.{Option, Some, None, Ok, Err, suc, refl, sym, ap, ◌∙◌, arith, append-nil, le-ltb}
use Rattle.ref_script.proofs.Common.{lt-ltb, Word, Letters, Numbered, Long, script_step_words, ScriptStep}
use Rattle.ref_script.proofs.Common.{SpellsScriptStep}
use Rattle.ref_script.proofs.Common.{AreSpelt, number, Operand, Number, LineFault, operands_in, forms_of_letter}
use Rattle.ref_script.proofs.Common.{all_fit}
use Rattle.ref_script.proofs.Common.{operand_fault, MissingWord, BadWord, ExtraWord}
use Rattle.std.proofs.Common.{nat_lt, Result}
use Rattle.std.specs.Prelude.{MatchResult}
use Rattle.std.proofs.lemmas.Bool.{eq-eqb}
use Rattle.std.proofs.lemmas.Bool.Decides.{nat_tests}
use Rattle.ref_script.specs.OperandReading.{Reading, unread, taken, all_taken, fault_at_end, IsUnfaulted, IsRead}
use Rattle.ref_script.specs.OperandReading.{IsReadNamed, IsReadBehind}
use Rattle.ref_script.specs.StepFaults.{actor_fault}

pub reads_more : (o : Operand) (operands : List Operand) (a b c : Reading) (v : Word) (words : List Word)
    → IsRead (o ∷ []) a b (v ∷ []) → IsRead operands b c words → IsRead (o ∷ operands) a c (v ∷ words)
reads_more o operands a b c v words r s = grind arith

-- nothing is missing yet
abbrev begun : List (List ℕ) → Bool → Reading
begun words is_bad = record { words = words; is_missing = false; is_bad = is_bad }

missing : (operands : List Operand) (r : Reading) → r.is_missing ≡ true
    → fault_at_end (all_taken operands r) ≡ Some MissingWord
missing [] r h = simp h
missing (o ∷ operands) r h = missing operands (taken o r) (simp h refl)

both_fit : (a b c : Bool) → ((a || not b) || not c) ≡ (a || not (b && c))
both_fit true b c = refl
both_fit false true c = refl
both_fit false false c = refl

one_less : (a b : ℕ) → nat_lt (suc a) (suc b) ≡ nat_lt a b
one_less a b = grind (arith, nat_tests)

-- the faults by kind are those of all words
ended : (operands : List Operand) (words : List (List ℕ)) (bad : Bool)
    → fault_at_end (all_taken operands (begun words bad))
    ≡ (if nat_lt (length words) (length operands) then Some MissingWord else
    (if bad || not (all_fit operands words) then Some BadWord else
    (if nat_lt (length operands) (length words) then Some ExtraWord else None)))
ended [] [] true = refl
ended [] [] false = refl
ended [] (w ∷ words) true = simp (le-ltb (suc (length words)) 0 (omega arith))
ended [] (w ∷ words) false =
    simp (le-ltb (suc (length words)) 0 (omega arith), lt-ltb 0 (suc (length words)) (omega arith))
ended (o ∷ operands) [] bad =
    missing operands (taken o (begun [] bad)) refl ∙ simp (lt-ltb 0 (suc (length operands)) (omega arith))
ended (o ∷ operands) (w ∷ words) bad = search (both_fit, one_less, ended operands words)

-- what was read behind a name: a form of these, and the words of its operands
pub record ReadsForm (o : Option (List Operand)) (name : List ℕ) (a b : Reading) (spelling : List Word) : Type 0 where
  pub operands : List Operand
  pub words : List Word
  pub is_known : o ≡ Some operands
  pub spelling_is : spelling ≡ Letters name ∷ words
  pub is_read : IsRead operands a b words

pub reads_form : (o : Option (List Operand)) (name : List ℕ) (a b : Reading) (spelling : List Word)
    → IsReadNamed o name a b spelling → ReadsForm o name a b spelling
reads_form None name a b (Letters n ∷ words) h = absurd h.1
reads_form (Some operands) name a b (Letters n ∷ words) h = search
reads_form o name a b [] h = absurd h
reads_form o name a b (Numbered l n ∷ words) h = absurd h
reads_form o name a b (Long n ∷ words) h = absurd h

-- nothing is wrong at the end
whole : (b : Reading) → fault_at_end b ≡ None → IsUnfaulted b []
whole b h = grind arith

-- what was read is the step that it ends with, or the fault
abbrev EndsWith : Result ScriptStep LineFault → ScriptStep → Reading → Type 0
EndsWith result step b = MatchResult result (λ s. (s ≡ step) × (fault_at_end b ≡ None)) (λ e. fault_at_end b ≡ Some e)

abbrev StepOrFault : Result ScriptStep LineFault → List (List ℕ) → Option LineFault → Type 0
StepOrFault result words fault = MatchResult result (SpellsScriptStep words) (λ e. fault ≡ Some e)

operands_read : (result : Result ScriptStep LineFault) (step : ScriptStep) (operands : List Operand)
    (words : List (List ℕ)) (b : Reading) (vs : List Word) → IsRead operands (unread words) b vs
    → EndsWith result step b
    → MatchResult result (λ s. (s ≡ step) × AreSpelt words vs) (λ e. operand_fault operands words ≡ Some e)
operands_read (Ok s) step operands words b vs h e = grind (arith, append-nil, whole b e.1)
operands_read (Err fault) step operands words b vs h e =
    sym (ended operands words false) ∙ ap fault_at_end (sym h.taken) ∙ e

-- a step of an actor
pub actor_read : (result : Result ScriptStep LineFault) (step : ScriptStep) (letter n : ℕ) (actor digits name : List ℕ)
    (line words : List (List ℕ)) (a b : Reading) → actor ≡ letter ∷ digits → line ≡ name ∷ words
    → IsRead (Number ∷ []) (unread (digits ∷ words)) a (number n ∷ [])
    → IsReadBehind (operands_in (forms_of_letter letter) name) (Numbered (letter ∷ []) n) name a b
    (script_step_words step) → EndsWith result step b → StepOrFault result (actor ∷ line) (actor_fault actor line)
actor_read result step letter n actor digits name line words a b actor_is line_is numbered h e =
    rw (actor_is, line_is) (behind (script_step_words step) refl h)
  where
    read : (r : Result ScriptStep LineFault) (operands : List Operand) (vs : List Word)
        → operands_in (forms_of_letter letter) name ≡ Some operands
        → script_step_words step ≡ Numbered (letter ∷ []) n ∷ Letters name ∷ vs
        → MatchResult r (λ s. (s ≡ step) × AreSpelt (digits ∷ words) (number n ∷ vs))
        (λ e. operand_fault (Number ∷ operands) (digits ∷ words) ≡ Some e)
        → StepOrFault r ((letter ∷ digits) ∷ name ∷ words) (actor_fault (letter ∷ digits) (name ∷ words))
    read (Ok s) operands vs known spelling_is m =
        rw (m.0, spelling_is) (simp (eq-eqb letter letter refl, m.1.0), (refl, m.1.1))
    read (Err fault) operands vs known spelling_is m = rw known m

    behind : (spelling : List Word) → script_step_words step ≡ spelling
        → IsReadBehind (operands_in (forms_of_letter letter) name) (Numbered (letter ∷ []) n) name a b spelling
        → StepOrFault result ((letter ∷ digits) ∷ name ∷ words) (actor_fault (letter ∷ digits) (name ∷ words))
    behind [] same k = absurd k
    behind (first ∷ spelling) same k =
        let f = reads_form (operands_in (forms_of_letter letter) name) name a b spelling k.1 in
        read result f.operands f.words f.is_known (same ∙ ap (λ v. v ∷ spelling) k.0
        ∙ ap (λ (vs : List Word). Numbered (letter ∷ []) n ∷ vs) f.spelling_is)
        (operands_read result step (Number ∷ f.operands) (digits ∷ words) b (number n ∷ f.words)
        (reads_more Number f.operands (unread (digits ∷ words)) a b (number n) f.words numbered f.is_read) e)
