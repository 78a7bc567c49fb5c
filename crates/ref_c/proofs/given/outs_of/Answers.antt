use Rattle.std.proofs.Common.{ℕ, ◌≤◌, ◌^◌, [], None, Some, subst}
use Rattle.ref_base.specs.Outs.{Outs}
use Rattle.ref_c.proofs.GivenLemmas.{no-outs-so-far, outs-answer, outs-none-answer}
use Rattle.ref_c.proofs.given.outs_of.Goals as goal
use Rattle.ref_c.specs.GivenReplies.{AreMoreOuts}

pub returns-then-first : goal.returns-then-first
returns-then-first c =
    let a = c.args in
    no-outs-so-far a.numbers.now a.list.now a.before c.requires.kind c.requires.few
    (subst (λ (n : ℕ). 2 ^ 63 ≤ n) c.first_added-first.ensures c.if-first.true)

pub returns-in_err-outs : goal.returns-in_err-outs
returns-in_err-outs c =
    let a = c.args in
    outs-none-answer a.numbers.now a.list.now a.before c.first_added-first.result c.new.result c.from_residual.result
    c.requires.kind c.first_added-first.ensures c.new.ensures c.from_residual.ensures c.in_err-outs.ensures

pub returns : goal.returns
returns c =
    let a = c.args in let first = c.first_added-first in let all = c.in_ok-outs.outs in
    outs-answer a.numbers.now a.list.now a.before first.result all c.if_so_numbered.result c.requires.kind
    first.ensures
    (subst (λ (o : Outs). AreMoreOuts o first.result a.list.now (Some all)) c.new.ensures c.in_ok-outs.ensures)
    c.if_so_numbered.ensures
