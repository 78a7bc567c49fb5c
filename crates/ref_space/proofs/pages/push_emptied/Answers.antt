use Rattle.std.proofs.Common.{arith}
use Rattle.ref_space.proofs.MoveLemmas.{pushed_emptied}
use Rattle.ref_space.proofs.pages.push_emptied.Goals as goal

pub loop-place-preserved : goal.loop-place-preserved
loop-place-preserved g c = record {
  are = pushed_emptied c.args.first_address c.args.frames.now c.loop-place.place c.args.pages.now.items
      c.loop-place.pages.items c.push_reserved.new.self.items c.fresh.result c.loop-place-test.true
      c.loop-place.invariant.are c.fresh.ensures c.push_reserved.ensures.items;
  count = grind arith;
  room = grind arith;
}
