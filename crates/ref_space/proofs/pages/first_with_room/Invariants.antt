use Rattle.std.proofs.Common.{take}
use Rattle.ref_space.specs.Pages.{NoneHasRoom}
use Rattle.ref_space.proofs.pages.first_with_room.Given as goal

abbrev pub invariant-loop-page : goal.invariant-loop-page
invariant-loop-page l = NoneHasRoom (take l.page l.pages)
