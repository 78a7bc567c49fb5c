use Rattle.ref_share.proofs.Common.{Ok, suc, subst, false≢true, IsSome, heap_view}
use Rattle.ref_share.specs.Cycles.{GoesRound}
use Rattle.ref_share.proofs.cycles.phase.Goals.{in-None, in-Some+in_ok-round+then-branch}
use Rattle.ref_share.proofs.cycles.phase.Goals as goal

pub loop-preserved : goal.loop-preserved
loop-preserved g c =
    let before = c.loop.invariant.rounds in
    let more = subst
    (λ is_last. GoesRound c.args.work c.args.end (heap_view c.loop.seat) (Ok is_last) (heap_view c.round.new.seat))
    c.if-branch.false c.in_ok-round.ensures.goes in
    record { seat = c.round.ensures.seat; rounds = (suc before.0, (heap_view c.loop.seat, before.1, more)) }

pub returns-clause-goes : goal.returns-clause-goes
returns-clause-goes g c =
    elim c.match-next.branch [
      | in-None w ↦ absurd (false≢true (subst IsSome w.in-None.is c.next.ensures.steps))
      | in-Some+in_ok-round+then-branch w ↦
          let before = c.loop.invariant.rounds in
          let last = subst
          (λ is_last. GoesRound c.args.work c.args.end (heap_view c.loop.seat) (Ok is_last)
          (heap_view w.round.new.seat))
          w.if-branch.true w.in_ok-round.ensures.goes in
          rw w.seat-is (before.0, heap_view c.loop.seat, before.1, last)
    ]
