use Rattle.ref_clear.proofs.Common.{arith}
use Rattle.ref_clear.proofs.ChainedHeaps.{may_free, sound_swept, seen_swept}
use Rattle.ref_clear.proofs.heap.Heap.sweep.Goals as goal

pub free_some-freed-requires : goal.free_some-freed-requires
free_some-freed-requires g c = may_free c.self.invariant c.args.worker c.in_ok-check_work.ensures

pub invariant_of-self : goal.invariant_of-self
invariant_of-self g c =
    search (sound_swept c.self.invariant c.args.worker c.in_ok-check_work.ensures c.free_some-freed.ensures.after
    c.free_some-freed.ensures.listed c.free_some-freed.ensures.room)

pub invariant_of-self-2 : goal.invariant_of-self-2
invariant_of-self-2 g c =
    search (sound_swept c.self.invariant c.args.worker c.in_ok-check_work.ensures c.free_some-freed.ensures.after
    c.free_some-freed.ensures.listed c.free_some-freed.ensures.room)

pub returns-then-freed-eq0 : goal.returns-then-freed-eq0
returns-then-freed-eq0 g c =
    grind (arith, seen_swept c.self.invariant c.args.worker c.in_ok-check_work.ensures c.free_some-freed.ensures.after)

pub returns : goal.returns
returns g c =
    grind (arith, seen_swept c.self.invariant c.args.worker c.in_ok-check_work.ensures c.free_some-freed.ensures.after)
