use Rattle.std.proofs.Common.{◌≡◌, vec_len}
use Rattle.std.specs.Vec.{vec_capacity}
use Rattle.ref_space.specs.Pages.{fresh_pages}
use Rattle.ref_space.proofs.pages.free_pages.Given as goal

abbrev pub invariant-loop-place : goal.invariant-loop-place
invariant-loop-place g l = record {
  are : l.pages.items ≡ fresh_pages l.first_address 0 l.place;
  count : vec_len l.pages ≡ l.place;
  room : vec_capacity l.pages ≡ l.count;
}
