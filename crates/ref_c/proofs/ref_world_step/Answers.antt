use Rattle.std.proofs.Common.{[]}
use Rattle.ref_c.proofs.WrittenLemmas.{nothing-written}
use Rattle.ref_c.proofs.ref_world_step.Goals as goal

pub returns : goal.returns
returns c =
    let table = c.args.list.now in
    let (answer, does, (numbers, lists)) = c.tell-used.ensures in
    let listed = lists table [] (nothing-written table) in
    rw (c.take-held.ensures.taken, c.give_back.ensures) (answer, does, numbers, listed.0)
