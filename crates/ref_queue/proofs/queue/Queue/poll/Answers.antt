use Rattle.std.proofs.Common.{sym, ◌∙◌}
use Rattle.ref_queue.proofs.QueueLemmas.{Polls-Took, Polls-Closed, Polls-Empty}
use Rattle.ref_queue.proofs.queue.Queue.poll.Goals.{in-Some, in-None, in-None-2}
use Rattle.ref_queue.proofs.queue.Queue.poll.Goals as goal

pub returns-clause-answer : goal.returns-clause-answer
returns-clause-answer g c =
    let len = sym c.self.inside.standing.ok.0 in
    rw (← c.self.view_is)
    (elim c.match-pop_front.branch [
      | in-Some w ↦ rw w.result-is (Polls-Took c.self.invariant w.in-Some.ensures.items)
      | in-None w ↦ rw w.result-is
          (Polls-Closed c.self.invariant (len ∙ w.in-None.ensures.cases.0) w.in-None.ensures.items w.if-self.true)
      | in-None-2 w ↦ rw w.result-is
          (Polls-Empty c.self.invariant (len ∙ w.in-None.ensures.cases.0) w.in-None.ensures.items w.if-self.false)
    ])
