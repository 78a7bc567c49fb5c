use Rattle.ref_share.proofs.Common.{subst, EndsAs, IfErr, view}
use Rattle.ref_turn.specs.Seats.{IsLeftOpen}
use Rattle.std.proofs.lemmas.Result.{IfOk-weaker}
use Rattle.ref_share.proofs.Seats.{left_so}
use Rattle.ref_share.proofs.shared.Shared.end.Goals as goal

pub returns-clause-ok : goal.returns-clause-ok
returns-clause-ok g c =
    let stands_for = g.M.Machine.stands_for in
    let steps_to = g.M.Machine.steps_to in
    IfOk-weaker c.finish.result _ _
    (λ m ends. left_so stands_for steps_to c.args.self.turn _ c.args.seat.seat m c.requires
    (subst (λ s. EndsAs stands_for steps_to (view s) m) c.into_seat.ensures ends))
    c.finish.ensures.ok

pub returns-clause-err : goal.returns-clause-err
returns-clause-err g c =
    subst (λ s. IfErr c.finish.result (λ _. IsLeftOpen g.M.Machine.stands_for g.M.Machine.steps_to (view s)))
    c.into_seat.ensures c.finish.ensures.err
