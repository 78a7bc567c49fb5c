use Rattle.std.proofs.Common.{◌≡◌, ◌≤◌, ℕ, false, arith, cond, nat_eq, length, Some}
use Rattle.std.specs.Map.{lookup}
use Rattle.ref_base.specs.Members.{has}
use Rattle.ref_graph.specs.NumberPlaces.{first_far}
use Rattle.ref_graph.proofs.NumberPlaceLemmas.{tells_far}
use Rattle.ref_graph.proofs.number_list.NumberList.push_far.Goals as goal

pub invariant_of-self-2 : goal.invariant_of-self-2
invariant_of-self-2 g c =
    let n : ℕ = c.args.no in
    let is_new : has c.self.inside.in_order.items n ≡ false = grind arith in
    let is_far : first_far ≤ n = grind arith in
    let count : c.args.place ≡ length c.self.inside.in_order.items = grind arith in
    let updated : (m : ℕ) → lookup (nat_eq m) c.insert.new.self.entries
    ≡ cond (nat_eq n m) (Some (length c.self.inside.in_order.items)) (lookup (nat_eq m) c.self.inside.far.entries) =
    rw count at (c.in_ok-insert.ensures.updates.0) in
    rw (c.push_reserved.ensures.items, c.in_ok-reserve.ensures.items)
    (tells_far c.self.invariant n is_new c.insert.new.self.entries is_far updated)
