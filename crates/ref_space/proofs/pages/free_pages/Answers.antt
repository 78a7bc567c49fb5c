use Rattle.std.proofs.Common.{arith}
use Rattle.ref_space.proofs.PageLemmas.{fresh_pages-next}
use Rattle.ref_space.proofs.pages.free_pages.Goals as goal

pub loop-place-preserved : goal.loop-place-preserved
loop-place-preserved g c = record {
  are = fresh_pages-next c.args.first_address c.loop-place.place c.loop-place.pages.items c.push_reserved.new.self.items
      c.fresh.result c.push_reserved.ensures.items c.loop-place.invariant.are c.fresh.ensures;
  count = grind arith;
  room = grind arith;
}
