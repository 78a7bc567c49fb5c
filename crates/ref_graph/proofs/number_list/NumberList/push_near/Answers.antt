use Rattle.std.proofs.Common.{◌≡◌, ◌+◌, ◌<◌, ℕ, false, arith, length}
use Rattle.ref_base.specs.Members.{has}
use Rattle.ref_graph.specs.NumberPlaces.{first_far}
use Rattle.ref_graph.proofs.NumberPlaceLemmas.{tells_near}
use Rattle.ref_graph.proofs.number_list.NumberList.push_near.Goals as goal

pub invariant_of-self-2 : goal.invariant_of-self-2
invariant_of-self-2 g c =
    let n : ℕ = c.no.inside.0 in
    let is_new : has c.self.inside.in_order.items n ≡ false = grind arith in
    let is_near : n < first_far = grind arith in
    let within : n < length c.reach.new.near.items = grind arith in
    let count : c.args.next ≡ length c.self.inside.in_order.items + 1 = grind arith in
    rw (c.in_ok-push.ensures.items, ← c.no.view_is, count)
    (tells_near c.self.invariant n is_new c.reach.new.near.items c.reach.ensures.same is_near within)
