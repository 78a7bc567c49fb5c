use Rattle.ref_turn.proofs.Common.{rules}
use Rattle.ref_turn.proofs.Comings.{splits}
use Rattle.ref_turn.proofs.Keeps.{names}
use Rattle.ref_turn.proofs.turn.Turn.split.Goals as goal

pub split_seat-place-requires : goal.split_seat-place-requires
split_seat-place-requires g c =
    (search rules, search rules, splits _ _ _ _ c.args.seat.now.place.me.0 c.args.seat.now.between.0)

pub load-requires : goal.load-requires
load-requires g c = (search rules, search rules, names _ _ _ _ _ c.split_seat-place.result.me (search rules))
