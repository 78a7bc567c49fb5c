use Rattle.ref_share.proofs.Common.{length, ap, arith, subst, ◌≤◌, clean_view}
use Rattle.ref_turn.proofs.Logs.{calls_by-shorter}
use Rattle.ref_share.proofs.clean_loop.SharedCleaner+J+A.one_more.Goals as goal

pub overflow_add-result : goal.overflow_add-result
overflow_add-result g c =
    let w = clean_view c.served-turns.new.seat in
    let few = subst (λ calls. length calls ≤ length w.seen) c.served-turns.ensures.seat.history.own
    (calls_by-shorter w.number w.seen) in
    omega (arith, few, ap length c.served-turns.ensures.longer.2, c.served-turns.ensures.count, c.requires.calls)
