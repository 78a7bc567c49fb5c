use Rattle.ref_share.proofs.Common.{IsSome, Ok, false≢true, inl, inr, refl, subst, clean_view, heap_view, queue_view}
use Rattle.ref_share.specs.CleanLoops.{PollsFor}
use Rattle.ref_share.proofs.CleanRounds.{gone_nowhere, gone_in_vain, gone_for_a_job, job_is_a_call, took}
use Rattle.ref_share.proofs.clean_loop.SharedCleaner+J+A.rounds.Goals.{in-None, in-Some+in-Ok-None}
use Rattle.ref_share.proofs.clean_loop.SharedCleaner+J+A.rounds.Goals as goal

pub loop-init : goal.loop-init
loop-init g c = (c.requires.seats.0, c.requires.seats.1, c.requires.queue_seat, gone_nowhere)

pub returns-clause-goes : goal.returns-clause-goes
returns-clause-goes g c =
    elim c.match-next.branch [
      | in-None w ↦ absurd (false≢true (subst IsSome w.in-None.is c.next.ensures.steps))
      | in-Some+in-Ok-None w ↦
          let so_far = c.loop.invariant.3 in
          let last = queue_view c.loop.queue_seat in
          let polls = subst (λ n. PollsFor c.args.polling last (Ok n) (queue_view w.poll_by.new.seat))
          w.in-Ok-None.field-0-is w.in-Ok-None.ensures.polls in
          rw w.queue_seat-is (so_far.rounds, last, so_far.gone, so_far.quiet, polls, so_far.counted)
    ]

pub returns-in-Err-clause-goes : goal.returns-in-Err-clause-goes
returns-in-Err-clause-goes g c =
    let so_far = c.loop.invariant.3 in
    let u = heap_view c.loop.heap_seat in
    let ends = inl (c.in-Err.ensures.polls, refl, refl) in
    (so_far.rounds, queue_view c.loop.queue_seat, u, clean_view c.loop.seat, so_far.gone, so_far.quiet, ends)

pub returns-in-Err-clean_dead-clause-goes : goal.returns-in-Err-clean_dead-clause-goes
returns-in-Err-clean_dead-clause-goes g c =
    let so_far = c.loop.invariant.3 in
    let polls = took so_far (queue_view c.poll_by.new.seat) c.in-Ok-Some.field-0-is c.in-Ok-Some.ensures.polls in
    let u = heap_view c.loop.heap_seat in
    let ends = inr (c.in-Ok-Some.notice, polls, c.in-Err-clean_dead.ensures.cleans) in
    (so_far.rounds, queue_view c.loop.queue_seat, u, clean_view c.loop.seat, so_far.gone, so_far.quiet, ends)

pub one_more-count-requires-clause-calls : goal.one_more-count-requires-clause-calls
one_more-count-requires-clause-calls g c =
    job_is_a_call c.loop.invariant.3 (queue_view c.poll_by.new.seat) c.in-Ok-Some.field-0-is
    c.in-Ok-Some.ensures.polls (heap_view c.clean_dead.new.heap_seat) (clean_view c.clean_dead.new.seat)
    c.in-Ok-true.ensures.cleans c.in-Ok-true.field-0-test

pub loop-preserved-in-Ok-true : goal.loop-preserved-in-Ok-true
loop-preserved-in-Ok-true g c =
    let on = gone_for_a_job c.loop.invariant.3 (queue_view c.poll_by.new.seat) c.in-Ok-Some.field-0-is
    c.in-Ok-Some.ensures.polls (heap_view c.clean_dead.new.heap_seat) (clean_view c.clean_dead.new.seat)
    c.in-Ok-true.ensures.cleans c.in-Ok-true.field-0-test (clean_view c.one_more-count.new.seat)
    c.one_more-count.ensures.longer c.one_more-count.ensures.more in
    (c.one_more-count.ensures.seat, c.in-Ok-true.ensures.heap_seat, c.poll_by.ensures.seat, on)

pub loop-preserved : goal.loop-preserved
loop-preserved g c =
    let on = gone_in_vain c.loop.invariant.3 (queue_view c.poll_by.new.seat) c.in-Ok-Some.field-0-is
    c.in-Ok-Some.ensures.polls (heap_view c.clean_dead.new.heap_seat) (clean_view c.clean_dead.new.seat)
    c.in-Ok-false.ensures.cleans c.in-Ok-false.field-0-test in
    (c.in-Ok-false.ensures.seat, c.in-Ok-false.ensures.heap_seat, c.poll_by.ensures.seat, on)
