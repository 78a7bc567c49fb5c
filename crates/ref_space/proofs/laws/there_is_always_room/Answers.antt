use Rattle.ref_space.proofs.RoomLemmas.{always_room, fresh_taken, taken_fewer, taken_placing}
use Rattle.ref_space.proofs.laws.there_is_always_room.Goals as goal

pub returns : goal.returns
returns c = record { room = always_room; placed = taken_placing; given = taken_fewer; none = fresh_taken }
