use Rattle.ref_space.proofs.RoomLemmas.{packed_fresh, packed_giving, packed_placing}
use Rattle.ref_space.proofs.laws.what_is_placed_stays_packed.Goals as goal

pub returns : goal.returns
returns c = record { placed = packed_placing; given = packed_giving; none = packed_fresh }
