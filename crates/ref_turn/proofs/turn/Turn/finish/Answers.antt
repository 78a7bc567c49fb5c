use Rattle.ref_turn.proofs.Common.{refl, sym, ap, ◌∙◌, subst, same_Some, EndsAs}
use Rattle.ref_turn.specs.Seats.{IsLeftOpen}
use Rattle.std.proofs.Common.{IsSome}
use Rattle.ref_turn.proofs.Comings.{finishes, left_open}
use Rattle.ref_turn.proofs.turn.Turn.finish.Goals as goal

pub unwrap-requires : goal.unwrap-requires
unwrap-requires g c =
    let idle = ap (λ p. p.me.0.stage) c.into_place.ensures ∙ c.args.seat.between.0 in
    let end =
    finishes _ _ _ _ c.into_place.result.me.0 _ _ _ _ _ idle c.close_with-closed.ensures.values.2 c.word.ensures
    c.word-2.ensures c.if-is_open.false c.take-slot.ensures.value in
    subst IsSome (sym end.1) refl

pub returns-clause-ok : goal.returns-clause-ok
returns-clause-ok g c =
    let idle = ap (λ p. p.me.0.stage) c.into_place.ensures ∙ c.args.seat.between.0 in
    let end =
    finishes _ _ _ _ c.into_place.result.me.0 _ _ _ _ _ idle c.close_with-closed.ensures.values.2 c.word.ensures
    c.word-2.ensures c.if-is_open.false c.take-slot.ensures.value in
    subst (λ p. EndsAs g.M.Machine.stands_for g.M.Machine.steps_to p.me.0 c.unwrap.result) c.into_place.ensures
    (subst (EndsAs g.M.Machine.stands_for g.M.Machine.steps_to c.into_place.result.me.0)
    (same_Some _ _ (sym end.1 ∙ c.unwrap.ensures)) end.2)

pub returns-then-is_open-clause-err : goal.returns-then-is_open-clause-err
returns-then-is_open-clause-err g c =
    let idle = ap (λ p. p.me.0.stage) c.into_place.ensures ∙ c.args.seat.between.0 in
    subst (λ p. IsLeftOpen g.M.Machine.stands_for g.M.Machine.steps_to p.me.0) c.into_place.ensures
    (left_open _ _ _ _ c.into_place.result.me.0 _ _ _ _ idle c.close_with-closed.ensures.values.2 c.word.ensures
    c.word-2.ensures c.if-is_open.true)
