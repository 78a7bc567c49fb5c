use Rattle.ref_turn.proofs.Common.{Some, entry}
use Rattle.ref_turn.proofs.turn.Turn.run.Given as goal

abbrev pub ghosts-append : goal.ghosts-append
ghosts-append g a = record { entry = Some (entry a.place.now.me.0.number a.asked.now.value a.reply.now) }
