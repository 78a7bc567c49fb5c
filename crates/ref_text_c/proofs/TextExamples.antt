-- Worked and illegal examples of what is told of a text: one that prints 7 8, and one whose third line has a word more.
use Rattle.std.proofs.Common.{◌≡◌, ℕ, List, [], ◌∷◌, Option, Some, None, arith, refl}
use Rattle.ref_text.specs.declared.fault.LineFault.TheVariants.{ExtraWord, MissingWord}
use Rattle.ref_text.specs.declared.fault.TextFault.{TextFault}
use Rattle.ref_text.specs.declared.fault.TextFault.TheVariants as texts
use Rattle.ref_text_c.specs.GivenTexts.{TellsText, text_numbers}
use Rattle.ref_text_c.specs.declared.answer.TextAnswer.{TextAnswer}
use Rattle.ref_text_c.specs.declared.answer.TextAnswer.TheVariants.{Printed, NoRoom, Faulty}

abbrev Prints : List ℕ → Type 0
Prints printed = printed ≡ 7 ∷ 8 ∷ []

-- what is told of it, with a buffer, and what is left in that
abbrev Tells : List ℕ → TextAnswer → List ℕ → Type 0
Tells = TellsText Prints None

it_stands_in_front : Tells (1 ∷ 2 ∷ 3 ∷ []) (Printed 2) (7 ∷ 8 ∷ 3 ∷ [])
it_stands_in_front = (7 ∷ 8 ∷ [], refl, refl, grind arith, refl)

what_is_behind_stays : ¬ (Tells (1 ∷ 2 ∷ 3 ∷ []) (Printed 2) (7 ∷ 8 ∷ 0 ∷ []))
what_is_behind_stays (printed, prints, is, room, left) = grind arith

it_finds_no_room : Tells (1 ∷ []) (NoRoom 2) (1 ∷ [])
it_finds_no_room = (7 ∷ 8 ∷ [], refl, refl, grind arith, refl)

no_part_of_it_is_written : ¬ (Tells (1 ∷ []) (NoRoom 2) (7 ∷ []))
no_part_of_it_is_written (printed, prints, is, room, left) = grind arith

it_is_not_cut_off : ¬ (Tells (1 ∷ []) (Printed 1) (7 ∷ []))
it_is_not_cut_off (printed, prints, is, room, left) = grind arith

it_has_no_fault : ¬ (Tells (1 ∷ []) (Faulty 3 ExtraWord) (1 ∷ []))
it_has_no_fault (fault, left) = absurd cc

-- ---- one that is faulty

abbrev faulty : Option TextFault
faulty = Some (texts.Line 3 ExtraWord)

its_fault_is_told : TellsText (λ printed. ⊥) faulty (1 ∷ []) (Faulty 3 ExtraWord) (1 ∷ [])
its_fault_is_told = (refl, refl)

no_other_fault_is_told : ¬ (TellsText (λ printed. ⊥) faulty (1 ∷ []) (Faulty 3 MissingWord) (1 ∷ []))
no_other_fault_is_told (fault, left) = absurd cc

its_numbers : text_numbers (Faulty 3 ExtraWord) ≡ record { status = 2; fault = 9; line = 3; length = 0 }
its_numbers = refl
