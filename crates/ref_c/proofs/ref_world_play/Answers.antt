use Rattle.std.proofs.Common.{◌<◌, arith, length}
use Rattle.ref_c.proofs.Plays.{below-first, below-second, next-played, nothing-played}
use Rattle.ref_c.proofs.ref_world_play.Goals as goal
use Rattle.ref_c.specs.Holding.{kept_in}
use Rattle.ref_c.specs.Written.{lesser}

pub loop-place-init : goal.loop-place-init
loop-place-init c =
    let a = c.args in
    nothing-played a.handle.now.held (kept_in c.take-held.result) a.replies.now a.list.now c.take-held.ensures.taken

pub loop-place-preserved : goal.loop-place-preserved
loop-place-preserved c =
    let a = c.args in let l = c.loop-place in let steps = a.steps.now in let replies = a.replies.now in
    let below : l.place < lesser (length steps) (length replies) =
    omega (arith, c.lesser-count.ensures, c.loop-place-test.true) in
    let (answer, does, (numbers, lists)) = c.tell-used.ensures in
    rw numbers
    (next-played a.handle.now.held (kept_in l.held) (kept_in c.tell-used.new.held) steps l.place _
    answer replies l.replies a.list.now l.list c.tell-used.new.list l.used
    c.tell-used.result l.invariant does
    (below-first (length steps) (length replies) l.place below)
    (below-second (length steps) (length replies) l.place below) lists)
