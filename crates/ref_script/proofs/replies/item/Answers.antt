use Rattle.ref_script.proofs.Common.{Some, ap, sym, words_of, ◌∙◌}
use Rattle.ref_script.proofs.BatchWords.{item_added, item_already, item_closed, item_last_refused, item_refused}
use Rattle.ref_script.proofs.BatchWords.{no_item_refused, no_item_wanted}
use Rattle.ref_script.proofs.replies.item.Goals as goal

pub returns-then-is_name-3 : goal.returns-then-is_name-3
returns-then-is_name-3 c =
    item_already c.args.position _ _ _ c.in_ok-word.word.now c.in-Some.next.now c.in_ok-word.ensures c.in-Some.ensures
    (sym c.if-is_name-3.ensures)

pub returns-then-is_name-4 : goal.returns-then-is_name-4
returns-then-is_name-4 c =
    item_closed c.args.position _ _ _ c.in_ok-word.word.now c.in-Some.next.now c.in_ok-word.ensures c.in-Some.ensures
    (sym c.if-is_name-4.ensures)

pub returns-then-branch : goal.returns-then-branch
returns-then-branch c =
    item_added c.args.position _ _ _ c.in_ok-word.word.now c.in-Some.next.now c.in_ok-word.ensures c.in-Some.ensures
    (sym c.if-is_name-5.ensures) (sym c.in_ok-position_word.ensures ∙ ap (λ b. Some b) c.if-branch.true)

pub returns-in_err-name : goal.returns-in_err-name
returns-in_err-name c =
    rw c.from_residual-in_err-name.ensures
    (no_item_refused c.args.position _ _ _ c.in_ok-word.word.now c.in-Some.next.now c.in_ok-word.ensures
    c.in-Some.ensures c.in_err-name.ensures (sym c.if-not-is_name.ensures))

pub returns-then-is_want_before_more : goal.returns-then-is_want_before_more
returns-then-is_want_before_more c =
    item_refused c.args.position _ _ _ _ c.in_ok-word.word.now c.in-Some.next.now c.in_ok-name.name.now
    c.in_ok-word.ensures c.in-Some.ensures c.in_ok-name.ensures (sym c.if-not-is_name.ensures)
    (sym c.if-is_want_before_more.ensures)

pub returns-then-is_want : goal.returns-then-is_want
returns-then-is_want c =
    item_last_refused c.args.position _ _ _ (words_of c.in_ok-name.left.now) c.in_ok-word.word.now c.in-Some.next.now
    c.in_ok-word.ensures c.in-Some.ensures (sym c.if-not-is_name.ensures) (sym c.if-is_want.ensures)

pub returns : goal.returns
returns c =
    no_item_wanted c.args.position _ _ _ _ c.in_ok-word.word.now c.in-Some.next.now c.in_ok-name.name.now
    c.in_ok-word.ensures c.in-Some.ensures c.in_ok-name.ensures (sym c.if-not-is_name.ensures)
    (sym c.if-is_want_before_more.ensures) (sym c.if-is_want.ensures)
