use Rattle.std.proofs.Common.{◌≡◌, length}
use Rattle.ref_space.specs.PageViews.{AreMapped}
use Rattle.ref_space.proofs.pages.set_places.Given as goal

abbrev pub invariant-loop-page : goal.invariant-loop-page
invariant-loop-page l = record {
  sized : length l.places ≡ length l.pages;
  mapped : AreMapped l.page l.pages l.places;
}
