use Rattle.ref_share.proofs.Common.{refl, inl, inr, heap_view}
use Rattle.std.proofs.lemmas.Result.{err_from_is_err_and}
use Rattle.ref_share.proofs.cycles.mark_and_clear.Goals as goal

pub returns-in_err-perform-clause-goes : goal.returns-in_err-perform-clause-goes
returns-in_err-perform-clause-goes g c =
    let p = err_from_is_err_and c.from_residual.result c.from_residual.ensures.1 in
    rw (p.1, p.2) (inr (_, refl, c.in_err-perform.ensures.performs))

pub returns-in_err-phase-clause-goes : goal.returns-in_err-phase-clause-goes
returns-in_err-phase-clause-goes g c =
    let p = err_from_is_err_and c.from_residual-in_err-phase.result c.from_residual-in_err-phase.ensures.1 in
    let begun = c.in_ok-perform.ensures.performs in
    rw (p.1, p.2)
    (inl (
      heap_view c.perform.new.seat,
      (c.in_ok-perform.field-0, begun.0, begun.1),
      inr (_, refl, c.in_err-phase.ensures.goes),
    ))

pub returns-clause-goes : goal.returns-clause-goes
returns-clause-goes g c =
    let begun = c.in_ok-perform.ensures.performs in
    inl (
      heap_view c.perform.new.seat,
      (c.in_ok-perform.field-0, begun.0, begun.1),
      inl (heap_view c.phase.new.seat, c.in_ok-phase.ensures.goes, c.phase-2.ensures.goes),
    )
