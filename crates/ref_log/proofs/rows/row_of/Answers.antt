use Rattle.ref_script.proofs.Common.{◌∙◌, false, sym, true, words_of}
use Rattle.ref_log.proofs.RowLaws.{fault_behind_step, none_faulty, none_padded, none_unanswered, none_unparted}
use Rattle.ref_log.proofs.RowLaws.{row_there}
use Rattle.ref_log.proofs.rows.row_of.Goals as goal

pub returns-in_default-clause-row : goal.returns-in_default-clause-row
returns-in_default-clause-row c =
    none_unparted (words_of c.args.line.now) _ c.behind_number.ensures c.in_default.ensures

pub returns-in-Err-clause-row : goal.returns-in-Err-clause-row
returns-in-Err-clause-row c =
    none_faulty (words_of c.args.line.now) _ c.behind_number.ensures _ c.in-Some.ensures c.in-Err.fault
    c.in-Err.ensures

pub returns-then-not-has_no_padding-clause-row : goal.returns-then-not-has_no_padding-clause-row
returns-then-not-has_no_padding-clause-row c =
    none_padded (words_of c.args.line.now) _ c.behind_number.ensures _ c.in-Some.ensures
    (sym c.has_no_padding.ensures ∙ c.if-not-has_no_padding.true)

pub returns-then-not-has_no_padding-clause-fault : goal.returns-then-not-has_no_padding-clause-fault
returns-then-not-has_no_padding-clause-fault c =
    fault_behind_step (words_of c.args.line.now) _ c.behind_number.ensures _ c.in-Some.ensures c.in-Ok.step
    c.in-Ok.ensures false (sym c.has_no_padding.ensures ∙ c.if-not-has_no_padding.true)

pub returns-in-Some-reply_of-clause-row : goal.returns-in-Some-reply_of-clause-row
returns-in-Some-reply_of-clause-row c =
    row_there (words_of c.args.line.now) _ c.behind_number.ensures _ c.in-Some.ensures _ c.in-Ok.ensures
    (sym c.has_no_padding.ensures ∙ c.if-not-has_no_padding.false) (rw c.of.ensures at c.in-Some-reply_of.ensures)

pub returns-in-None-clause-row : goal.returns-in-None-clause-row
returns-in-None-clause-row c =
    none_unanswered (words_of c.args.line.now) _ c.behind_number.ensures _ c.in-Some.ensures c.in-Ok.step
    c.in-Ok.ensures (rw c.of.ensures at c.in-None.ensures)

pub returns-in-None-clause-fault : goal.returns-in-None-clause-fault
returns-in-None-clause-fault c =
    fault_behind_step (words_of c.args.line.now) _ c.behind_number.ensures _ c.in-Some.ensures c.in-Ok.step
    c.in-Ok.ensures true (sym c.has_no_padding.ensures ∙ c.if-not-has_no_padding.false)
