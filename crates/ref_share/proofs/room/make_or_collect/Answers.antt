use Rattle.ref_share.proofs.Common.{ℕ, ◌+◌, ◌<◌, ◌≤◌, ◌≡◌, [], ◌∷◌, Ok, Err, refl, sym, subst, List}
use Rattle.std.specs.Prelude.{IfOk}
use Rattle.ref_share.proofs.Common.{Result, ShareFault, heap_view}
use Rattle.std.proofs.Common.{drop, get_or, add-one, drop-cons}
use Rattle.std.proofs.lemmas.List.{drop_all}
use Rattle.ref_base.specs.declared.urgency.Urgency.{Urgency}
use Rattle.ref_base.specs.declared.urgency.Urgency.TheVariants.{Normal, Urgent}
use Rattle.ref_share.specs.Cycles.{Cycles}
use Rattle.ref_share.specs.WantsOfRoom.{DoesAfter}
use Rattle.ref_share.specs.declared.answers.ShareFault.TheVariants.{Refused}
use Rattle.ref_share.proofs.Collections.{done_at_once, refused_at_once, done_behind_a_cycle, stopped_in_a_cycle}
use Rattle.ref_share.proofs.room.make_or_collect.Goals as goal

abbrev both : List Urgency
both = Normal ∷ Urgent ∷ []

-- the next of those that are left
next : (i : ℕ) → i < 2 → drop i both ≡ get_or both i Normal ∷ drop (i + 1) both
next i left = rw (add-one, drop-cons both i Normal) refl

-- and behind them none is
none_left : (i : ℕ) → 2 ≤ i → drop i both ≡ []
none_left i end = drop_all i both end

pub returns-in-Ok-Some-clause-does : goal.returns-in-Ok-Some-clause-does
returns-in-Ok-Some-clause-does g c =
    let i : ℕ = c.loop-urgency.urgency-index in
    c.loop-urgency.invariant.leads (Ok c.in-Ok-Some.reply) c.loop-urgency.batch (heap_view c.unless_full.new.seat)
    c.loop-urgency.queue_seats
    (done_at_once c.args.queues.now c.args.worker c.args.now c.args.step (drop i both)
    (get_or both i Normal) (drop (i + 1) both) (next i c.loop-urgency-test.true) (heap_view c.loop-urgency.heap_seat)
    (heap_view c.unless_full.new.seat) c.loop-urgency.queue_seats c.in-Ok-Some.field-0 c.in-Ok-Some.reply
    c.loop-urgency.batch c.loop-urgency.invariant.none c.in-Ok-Some.field-0-is c.in-Ok-Some.ensures.does)

pub returns-in-Err-clause-does : goal.returns-in-Err-clause-does
returns-in-Err-clause-does g c =
    let i : ℕ = c.loop-urgency.urgency-index in
    c.loop-urgency.invariant.leads (Err c.in-Err.fault) c.loop-urgency.batch (heap_view c.unless_full.new.seat)
    c.loop-urgency.queue_seats
    (refused_at_once c.args.queues.now c.args.worker c.args.now c.args.step (drop i both)
    (get_or both i Normal) (drop (i + 1) both) (next i c.loop-urgency-test.true) (heap_view c.loop-urgency.heap_seat)
    (heap_view c.unless_full.new.seat) c.loop-urgency.queue_seats c.in-Err.fault c.loop-urgency.batch
    c.loop-urgency.invariant.none c.in-Err.ensures.does)

pub loop-urgency-preserved : goal.loop-urgency-preserved
loop-urgency-preserved g c =
    let i : ℕ = c.loop-urgency.urgency-index in
    let d = c.cycle-answer in
    let cycles = subst
    (λ (r : Result (Unit {0}) ShareFault). Cycles c.args.queues.now c.args.worker c.args.now (get_or both i Normal)
    (heap_view c.unless_full.new.seat) c.loop-urgency.queue_seats r d.result.1 (heap_view d.new.heap_seat)
    d.new.queue_seats)
    c.in_default.is d.ensures.cycles in
    let none = subst (λ (r : Result (Unit {0}) ShareFault). IfOk r (λ _. d.result.1 ≡ [])) c.in_default.is
    d.ensures.empty in record {
      seats = d.ensures.seats;
      none = none;
      leads = λ result left w after does.
          c.loop-urgency.invariant.leads result left w after
          (done_behind_a_cycle c.args.queues.now c.args.worker c.args.now c.args.step (drop i both)
          (get_or both i Normal) (drop (i + 1) both) (next i c.loop-urgency-test.true)
          (heap_view c.loop-urgency.heap_seat)
          (heap_view c.unless_full.new.seat) c.loop-urgency.queue_seats
          c.in-Ok-None.field-0 c.in-Ok-None.field-0-is c.in-Ok-None.ensures.does (heap_view d.new.heap_seat) w
          d.new.queue_seats after result left d.result.1 none cycles does);
    }

pub returns-in-Err-answer-clause-does : goal.returns-in-Err-answer-clause-does
returns-in-Err-answer-clause-does g c =
    let i : ℕ = c.loop-urgency.urgency-index in
    let d = c.cycle-answer in
    let cycles = subst
    (λ (r : Result (Unit {0}) ShareFault). Cycles c.args.queues.now c.args.worker c.args.now (get_or both i Normal)
    (heap_view c.unless_full.new.seat) c.loop-urgency.queue_seats r d.result.1 (heap_view d.new.heap_seat)
    d.new.queue_seats)
    c.in-Err-answer.is d.ensures.cycles in
    c.loop-urgency.invariant.leads (Err c.in-Err-answer.fault) d.result.1 (heap_view d.new.heap_seat)
    d.new.queue_seats
    (stopped_in_a_cycle c.args.queues.now c.args.worker c.args.now c.args.step (drop i both)
    (get_or both i Normal) (drop (i + 1) both) (next i c.loop-urgency-test.true) (heap_view c.loop-urgency.heap_seat)
    (heap_view c.unless_full.new.seat) c.loop-urgency.queue_seats
    c.in-Ok-None.field-0 c.in-Ok-None.field-0-is c.in-Ok-None.ensures.does (heap_view d.new.heap_seat)
    d.new.queue_seats c.in-Err-answer.fault d.result.1 cycles)

pub returns-in-Ok-clause-does : goal.returns-in-Ok-clause-does
returns-in-Ok-clause-does g c =
    c.loop-urgency.invariant.leads (Ok c.in-Ok.reply) c.loop-urgency.batch (heap_view c.perform.new.seat)
    c.loop-urgency.queue_seats
    (subst
    (λ (us : List Urgency). DoesAfter c.args.queues.now c.args.worker c.args.now c.args.step us
    (heap_view c.loop-urgency.heap_seat) c.loop-urgency.queue_seats (Ok c.in-Ok.reply) c.loop-urgency.batch
    (heap_view c.perform.new.seat) c.loop-urgency.queue_seats)
    (sym (none_left c.loop-urgency.urgency-index c.loop-urgency-test.false))
    (c.in-Ok.ensures.performs, c.loop-urgency.invariant.none, refl))

pub returns-in-Err-perform-clause-does : goal.returns-in-Err-perform-clause-does
returns-in-Err-perform-clause-does g c =
    c.loop-urgency.invariant.leads (Err (Refused c.in-Err-perform.fault)) c.loop-urgency.batch
    (heap_view c.perform.new.seat) c.loop-urgency.queue_seats
    (subst
    (λ (us : List Urgency). DoesAfter c.args.queues.now c.args.worker c.args.now c.args.step us
    (heap_view c.loop-urgency.heap_seat) c.loop-urgency.queue_seats (Err (Refused c.in-Err-perform.fault))
    c.loop-urgency.batch (heap_view c.perform.new.seat) c.loop-urgency.queue_seats)
    (sym (none_left c.loop-urgency.urgency-index c.loop-urgency-test.false))
    (c.in-Err-perform.ensures.performs, c.loop-urgency.invariant.none, refl))
