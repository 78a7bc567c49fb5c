-- The row of a step that hands nothing over and isn't refused, which leaves what its heap accepts; and the row of a
-- step that is refused, which changes nothing.
use Rattle.ref_base.proofs.Common.{◌≡◌, refusal, Option, Some, None, refl, sym, subst, State, IsAnswer, IsRow, Fault}
use Rattle.ref_base.proofs.Common.{Reply, Row}
use Rattle.ref_base.specs.Refusals.{plain_refusal}
use Rattle.ref_base.specs.CollectorRows.{PlainAccepts}
use Rattle.ref_base.specs.declared.plain_step.PlainStep.{PlainStep}
use Rattle.ref_base.specs.declared.step.Step.TheVariants as steps

-- the row of this step and this answer
abbrev pub plain_row : PlainStep → Reply → Row
plain_row step reply = record { step = steps.Plain step; reply = reply }

-- where the step is not refused, its row is what the heap accepts
pub plain_accepted : (a b : State) (step : PlainStep) (reply : Reply) → plain_refusal a step ≡ None
    → IsRow a (plain_row step reply) b → PlainAccepts a step reply b
plain_accepted a b step reply none h =
    let row = subst (λ (o : Option Fault). IsAnswer a o (steps.Plain step) reply b) none h in
    subst (λ (s : State). PlainAccepts a step reply s) (sym row.2) row.1

-- and what the heap accepts is its row
pub accepted_plain : (a b : State) (step : PlainStep) (reply : Reply) → plain_refusal a step ≡ None
    → PlainAccepts a step reply b → IsRow a (plain_row step reply) b
accepted_plain a b step reply none row =
    subst (λ (o : Option Fault). IsAnswer a o (steps.Plain step) reply b) (sym none) (b, row, refl)

-- where the step is refused, nothing changes
pub refused_same : (a b : State) (row : Row) (fault : Fault) → refusal a row.step ≡ Some fault → IsRow a row b → b ≡ a
refused_same a b row fault refused h =
    (subst (λ (o : Option Fault). IsAnswer a o row.step row.reply b) refused h).1
