use Rattle.ref_log.proofs.Common.{◌<◌, ◌∙◌, length, arith, err_from_is_err_and}
use Rattle.ref_log.proofs.StreamLemmas.{in_line_more, in_line_held, longer, read_whole, read_last, read_too_much}
use Rattle.ref_log.proofs.stream.LineStream.advance.Goals as goal

pub returns-in_err-take_piece-clause-lines : goal.returns-in_err-take_piece-clause-lines
returns-in_err-take_piece-clause-lines g c =
    let p = err_from_is_err_and c.from_residual-in_err-take_piece.result c.from_residual-in_err-take_piece.ensures.1 in
    let fault = c.in_err-take_piece.ensures.err in
    rw (p.1, p.2, fault.0) (read_too_much _ _ _ _ c.loop-self.invariant.line fault.1)

pub returns-then-not-branch-3-clause-lines : goal.returns-then-not-branch-3-clause-lines
returns-then-not-branch-3-clause-lines g c =
    let takes = rw c.if-not-branch-2.true at c.in_ok-take_piece.ensures.ok in
    let holds = c.in_ok-hold_some-2.ensures in
    let over = holds.held.none c.if-not-branch-3.true in
    let line = in_line_more _ _ _ _ _ c.loop-self.invariant.line takes in
    let last = c.hold_some-in-loop-self.new.self in
    let later = in_line_held _ _ _ last _ _ _ line holds.held holds.line in
    let some : 0 < length last.line = rw holds.line (omega (arith, longer _ _ takes)) in
    read_last _ _ last _ later some (holds.is_ended ∙ takes.is_ended) over.0 over.1

pub returns-clause-lines : goal.returns-clause-lines
returns-clause-lines g c =
    let takes = rw c.if-not-branch-2.false at c.in_ok-take_piece.ensures.ok in
    read_whole _ _ _ _ _ c.loop-self.invariant.line takes
