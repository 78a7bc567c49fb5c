use Rattle.ref_space.proofs.CallLemmas.{between-renumbered, framed-renumbered}
use Rattle.ref_space.proofs.RelocationLemmas.{address-renumbered, free-renumbered, none-renumbered, packed-renumbered}
use Rattle.ref_space.proofs.laws.a_renumbering_keeps_what_lies_in_frames.Goals as goal

pub returns : goal.returns
returns c = record {
  free = λ ps next frame framed whole emptied within. free-renumbered ps next frame framed within whole emptied;
  address = address-renumbered;
  rising = λ ps next. between-renumbered next ps;
  framed = λ ps next. framed-renumbered next ps;
  opened = none-renumbered;
  packed = packed-renumbered;
}
