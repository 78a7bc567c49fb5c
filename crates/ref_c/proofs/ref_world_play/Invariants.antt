use Rattle.std.proofs.Common.{take}
use Rattle.ref_c.proofs.Plays.{Played}
use Rattle.ref_c.proofs.ref_world_play.Given as goal
use Rattle.ref_c.specs.Holding.{kept_in}

abbrev pub invariant-loop-place : goal.invariant-loop-place
invariant-loop-place l =
    Played l.fn.handle.held (take l.place l.fn.steps) l.fn.replies l.replies l.fn.list l.list
    l.used (kept_in l.held)
