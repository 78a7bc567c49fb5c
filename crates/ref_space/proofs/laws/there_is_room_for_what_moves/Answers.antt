use Rattle.ref_space.proofs.RelocationLemmas.{packed_moving, room_to_move}
use Rattle.ref_space.proofs.laws.there_is_room_for_what_moves.Goals as goal

pub returns : goal.returns
returns c = record { room = room_to_move; packed = packed_moving }
