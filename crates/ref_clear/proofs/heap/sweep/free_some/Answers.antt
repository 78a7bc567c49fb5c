use Rattle.ref_clear.proofs.Common.{refl, ap, ◌∙◌, inr, Worklist}
use Rattle.std.specs.Int.{from_bool}
use Rattle.ref_clear.proofs.SweepLoops.{nothing_swept, next_taken, sweep_is_done}
use Rattle.ref_clear.proofs.heap.sweep.free_some.Goals as goal

pub loop-freed-init : goal.loop-freed-init
loop-freed-init g c = (nothing_swept c.args.marker.now c.args.condemned.now.stands c.requires, refl)

pub loop-freed-preserved : goal.loop-freed-preserved
loop-freed-preserved g c = (
  next_taken c.args.marker.now c.loop-freed.marker c.loop-freed.freed c.in-Some.entry.no
      c.loop-freed.condemned.stands c.requires.rising c.loop-freed-test.true c.loop-freed.invariant.0
      c.in-Some.ensures.answer c.free.ensures.after
      (c.from-freed.ensures ∙ ap from_bool c.free.ensures.answer)
      (ap (λ (l : Worklist). l.stands) c.take_first.ensures.after),
  ap (λ (l : Worklist). l.room) c.take_first.ensures.after ∙ c.loop-freed.invariant.1,
)

pub returns-in_default-clause-count : goal.returns-in_default-clause-count
returns-in_default-clause-count g c =
    (sweep_is_done c.args.marker.now c.loop-freed.marker c.loop-freed.freed c.loop-freed.condemned.stands
    c.requires.rising c.loop-freed.invariant.0 (inr c.in_default.ensures.answer)).0

pub returns-in_default-clause-after : goal.returns-in_default-clause-after
returns-in_default-clause-after g c =
    (sweep_is_done c.args.marker.now c.loop-freed.marker c.loop-freed.freed c.loop-freed.condemned.stands
    c.requires.rising c.loop-freed.invariant.0 (inr c.in_default.ensures.answer)).1
