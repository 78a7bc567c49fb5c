use Rattle.ref_script.proofs.Common.{rules, sym}
use Rattle.ref_script.specs.ReplyReading.{all_faults}
use Rattle.ref_script.proofs.ReplyRefusals.{refusal_told}
use Rattle.ref_script.proofs.replies.refusal.Goals as goal

pub returns-then-eq : goal.returns-then-eq
returns-then-eq c =
    sym (refusal_told all_faults _ _ _ c.in_ok-number.number.now c.in_ok-name.name.now c.in_ok-exact_short.field-0
    c.in_ok-fault.fault c.in_ok-number.ensures c.in_ok-name.ensures (search rules) (sym c.in_ok-exact_short.ensures)
    (sym c.in_ok-fault.ensures) (search rules))
