-- Each step has a form of the table: an actor or none, a name, and operands behind it.
use Rattle.ref_script.proofs.Common.{◌≡◌, ℕ, List, [], ◌∷◌, Option, Some, codes, refl, rules, Word, Letters, Numbered}
use Rattle.ref_script.proofs.Common.{Long}
use Rattle.ref_script.proofs.Common.{slot, queue, number, strength_name, Worker, Strength, Soft, Weak, Phantom, New}
use Rattle.ref_script.proofs.Common.{Refer}
use Rattle.ref_script.proofs.Common.{Put, Begin, script_step_words, ScriptStep, Operand, Slot, Queue, QueueOrNone}
use Rattle.ref_script.proofs.Common.{Number}
use Rattle.ref_script.proofs.Common.{Clock, UrgencyName, operands_in, forms_of_letter, turn_forms}
use Rattle.ref_base.specs.Texts.{queue_or_none}
use Rattle.ref_base.specs.Steps.{step_words, urgency_name}
use Rattle.ref_base.specs.declared.actor.Actor.TheVariants.{Mutator}
use Rattle.ref_base.specs.declared.urgency.Urgency.{Urgency}
use Rattle.ref_base.specs.declared.step.Step.{Step}
use Rattle.ref_base.specs.declared.plain_step.PlainStep.TheVariants.{Store, Load, EndMark, EndClear, EndSweep}
use Rattle.ref_base.specs.declared.plain_step.PlainStep.TheVariants.{Select, EndMove}
use Rattle.ref_base.specs.declared.step.Step.TheVariants.{Release, Puts, Polls, Hands}
use Rattle.ref_script.specs.StepForms.{Form}
use Rattle.ref_base.specs.declared.step.Step.TheVariants as steps
use Rattle.ref_script.specs.declared.script_step.ScriptStep.TheVariants as scripts

-- the word is one of the operand
abbrev pub IsOf : Operand → Word → Type 0
IsOf Slot word = (n : ℕ) × (word ≡ slot n)
IsOf Queue word = (n : ℕ) × (word ≡ queue n)
IsOf QueueOrNone word = (q : Option ℕ) × (word ≡ queue_or_none q)
IsOf Number word = (n : ℕ) × (word ≡ number n)
IsOf Clock word = (n : ℕ) × (word ≡ Long n)
IsOf UrgencyName word = (urgency : Urgency) × (word ≡ Letters (urgency_name urgency))

-- word by word
abbrev pub AreOf : List Operand → List Word → Type 0
AreOf [] [] = Unit {0}
AreOf [] (v ∷ vs) = ⊥
AreOf (o ∷ operands) [] = ⊥
AreOf (o ∷ operands) (v ∷ vs) = IsOf o v × AreOf operands vs

-- what stands before the name of a step: an actor's letter and number, or nothing
pub data Lead : Type 0 where
  By : ℕ → ℕ → Lead
  Turn : Lead

abbrev pub words_behind : Lead → List ℕ → List Word → List Word
words_behind (By letter n) name words = Numbered (letter ∷ []) n ∷ Letters name ∷ words
words_behind Turn name words = Letters name ∷ words

abbrev pub forms_of : Lead → List Form
forms_of (By letter n) = forms_of_letter letter
forms_of Turn = turn_forms

-- these words are those of a form of the table
pub record HasForm (spelling : List Word) : Type 0 where
  pub lead : Lead
  pub name : List ℕ
  pub operands : List Operand
  pub words : List Word
  pub spelling_is : spelling ≡ words_behind lead name words
  pub is_known : operands_in (forms_of lead) name ≡ Some operands
  pub are_of : AreOf operands words

has_form : (lead : Lead) (name : List ℕ) (operands : List Operand) (words : List Word)
    → operands_in (forms_of lead) name ≡ Some operands → AreOf operands words → HasForm (words_behind lead name words)
has_form lead name operands words known of = search

-- the forms of mutators and workers
alone : (letter n : ℕ) (name : List ℕ) → operands_in (forms_of_letter letter) name ≡ Some []
    → HasForm (Numbered (letter ∷ []) n ∷ Letters name ∷ [])
alone letter n name known = has_form (By letter n) name [] [] known tt

at_slot : (m s : ℕ) (name : List ℕ) → operands_in (forms_of_letter 109) name ≡ Some (Slot ∷ [])
    → HasForm (Numbered (codes "m") m ∷ Letters name ∷ slot s ∷ [])
at_slot m s name known = has_form (By 109 m) name (Slot ∷ []) (slot s ∷ []) known ((s, refl), tt)

at_slots : (m s r : ℕ) (name : List ℕ) → operands_in (forms_of_letter 109) name ≡ Some (Slot ∷ Slot ∷ [])
    → HasForm (Numbered (codes "m") m ∷ Letters name ∷ slot s ∷ slot r ∷ [])
at_slots m s r name known =
    has_form (By 109 m) name (Slot ∷ Slot ∷ []) (slot s ∷ slot r ∷ []) known ((s, refl), ((r, refl), tt))

at_queue : (m q : ℕ) (name : List ℕ) → operands_in (forms_of_letter 109) name ≡ Some (Queue ∷ [])
    → HasForm (Numbered (codes "m") m ∷ Letters name ∷ queue q ∷ [])
at_queue m q name known = has_form (By 109 m) name (Queue ∷ []) (queue q ∷ []) known ((q, refl), tt)

-- a reference's strength is its name
refers : (m s r : ℕ) (q : Option ℕ) (n : ℕ) (strength : Strength)
    → HasForm (Numbered (codes "m") m ∷ Letters (strength_name strength) ∷ slot s ∷ slot r ∷ queue_or_none q
    ∷ number n ∷ [])
refers m s r q n strength =
    has_form (By 109 m) (strength_name strength) (Slot ∷ Slot ∷ QueueOrNone ∷ Number ∷ [])
    (slot s ∷ slot r ∷ queue_or_none q ∷ number n ∷ []) (known strength)
    ((s, refl), ((r, refl), ((q, refl), ((n, refl), tt))))
  where
    known : (t : Strength) → operands_in (forms_of_letter 109) (strength_name t)
        ≡ Some (Slot ∷ Slot ∷ QueueOrNone ∷ Number ∷ [])
    known Soft = refl
    known Weak = refl
    known Phantom = refl

form_of_world_step : (step : Step) → HasForm (step_words step)
form_of_world_step (steps.Plain (New m s n)) =
    has_form (By 109 m) (codes "new") (Slot ∷ Number ∷ []) (slot s ∷ number n ∷ []) refl ((s, refl), ((n, refl), tt))
form_of_world_step (steps.Plain (Refer m strength s r q n)) = refers m s r q n strength
form_of_world_step (steps.Plain (Store m s i v)) =
    has_form (By 109 m) (codes "store") (Slot ∷ Number ∷ Slot ∷ []) (slot s ∷ number i ∷ slot v ∷ []) refl
    ((s, refl), ((i, refl), ((v, refl), tt)))
form_of_world_step (steps.Plain (Load m d s i)) =
    has_form (By 109 m) (codes "load") (Slot ∷ Slot ∷ Number ∷ []) (slot d ∷ slot s ∷ number i ∷ []) refl
    ((d, refl), ((s, refl), ((i, refl), tt)))
form_of_world_step (Put (Mutator m)) = alone 109 m (codes "put") refl
form_of_world_step (Put (Worker w)) = alone 119 w (codes "put") refl
form_of_world_step (Puts (Mutator m)) = alone 109 m (codes "puts") refl
form_of_world_step (Puts (Worker w)) = alone 119 w (codes "puts") refl
form_of_world_step (Polls m q max) =
    has_form (By 109 m) (codes "polls") (Queue ∷ Number ∷ []) (queue q ∷ number max ∷ []) refl
    ((q, refl), ((max, refl), tt))
form_of_world_step (Hands w max) =
    has_form (By 119 w) (codes "hands") (Number ∷ []) (number max ∷ []) refl ((max, refl), tt)
form_of_world_step (Release (Mutator m)) = alone 109 m (codes "release") refl
form_of_world_step (Release (Worker w)) = alone 119 w (codes "release") refl
form_of_world_step (steps.Plain (Begin now urgency)) =
    has_form Turn (codes "begin") (Clock ∷ UrgencyName ∷ []) (Long now ∷ Letters (urgency_name urgency) ∷ []) refl
    ((now, refl), ((urgency, refl), tt))
form_of_world_step (steps.Plain EndMark) = has_form Turn (codes "endmark") [] [] refl tt
form_of_world_step (steps.Plain EndClear) = has_form Turn (codes "endclear") [] [] refl tt
form_of_world_step (steps.Plain EndSweep) = has_form Turn (codes "endsweep") [] [] refl tt
form_of_world_step (steps.Plain Select) = has_form Turn (codes "select") [] [] refl tt
form_of_world_step (steps.Plain EndMove) = has_form Turn (codes "endmove") [] [] refl tt
form_of_world_step step = search (rules, alone, at_slot, at_slots, at_queue)

pub form_of_step : (step : ScriptStep) → HasForm (script_step_words step)
form_of_step (scripts.World step) = form_of_world_step step
form_of_step (scripts.Job m s n) =
    has_form (By 109 m) (codes "job") (Slot ∷ Number ∷ []) (slot s ∷ number n ∷ []) refl ((s, refl), ((n, refl), tt))
form_of_step (scripts.Run m s) = at_slot m s (codes "run") refl
