use Rattle.std.proofs.Common.{◌≡◌, ◌++◌, ◌+◌, vec_len, take}
use Rattle.std.specs.Vec.{vec_capacity}
use Rattle.ref_space.specs.Pages.{empty_pages}
use Rattle.ref_space.proofs.pages.push_emptied.Given as goal

abbrev pub invariant-loop-place : goal.invariant-loop-place
invariant-loop-place g l = record {
  are : l.pages.items ≡ l.fn.pages.items ++ empty_pages l.first_address (take l.place l.frames);
  count : vec_len l.pages ≡ vec_len l.fn.pages + l.place;
  room : vec_capacity l.pages ≡ vec_capacity l.fn.pages;
}
