use Rattle.std.proofs.Common.{◌∙◌, ◌+◌, arith, refl}
use Rattle.std.proofs.lemmas.List.{length-set}
use Rattle.ref_space.proofs.FrameLemmas.{read_within, read_mapped}
use Rattle.ref_space.proofs.pages.set_places.Goals as goal

pub bounds-places-frame : goal.bounds-places-frame
bounds-places-frame c =
    let small = read_within c.args.pages.now c.requires.framed c.index-pages-page.result c.loop-page.page c.frame.result
    c.loop-page-test.true c.index-pages-page.is c.frame.ensures in
    omega (arith, small, c.loop-page.invariant.sized)

pub loop-page-preserved : goal.loop-page-preserved
loop-page-preserved c = record {
  sized = length-set c.loop-page.places c.frame.result c.loop-page.page ∙ c.loop-page.invariant.sized;
  mapped = read_mapped c.args.pages.now c.requires.framed c.index-pages-page.result c.loop-page.page c.frame.result
      c.loop-page-test.true c.index-pages-page.is c.frame.ensures c.loop-page.places c.loop-page.invariant.sized
      c.loop-page.invariant.mapped (c.loop-page.page + 1) refl;
}
