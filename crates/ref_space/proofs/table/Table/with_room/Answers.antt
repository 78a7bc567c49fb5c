use Rattle.ref_space.proofs.ReadLemmas.{read_is}
use Rattle.ref_space.specs.declared.colour.Colour.TheVariants.{R}
use Rattle.ref_space.proofs.Common.{◌≡◌, ◌*◌, ◌/◌, ◌+◌, ◌%◌, arith, vec_capacity}
use Rattle.std.proofs.Common.{min}
use Rattle.ref_space.proofs.TableLemmas.{sound_new, naming_new, seen_new, ways_new}
use Rattle.ref_space.proofs.table.Table.with_room.Goals as goal

pub invariant_of-result : goal.invariant_of-result
invariant_of-result g c =
    let half = c.div_ceil-page_count.result in
    let count = 2 * half in
    let bound : half ≡ c.args.room / 64 + min 1 (c.args.room % 64) = c.div_ceil-page_count.ensures in
    let capacity = c.in_ok-index.ensures.capacity in (
      sound_new c.args.first_page count c.args.room (vec_capacity c.in_ok-index.index) (omega (arith, bound))
          (omega (arith, bound)) (omega (arith, capacity)) c.in_ok-cells.ensures c.in_ok-index.ensures.items
          c.requires.begins (omega (arith, bound, c.requires.addresses))
          (ways_new c.args.first_page count c.in_ok-pages.ensures c.in_ok-forwards.ensures),
      naming_new count c.args.slots (omega arith)
          c.in_ok-cells.ensures c.in_ok-index.ensures.items c.in_ok-slots.ensures c.args.first_page
          (ways_new c.args.first_page count c.in_ok-pages.ensures c.in_ok-forwards.ensures),
    )

pub returns : goal.returns
returns g c =
    let half = c.div_ceil-page_count.result in
    let count = 2 * half in
    let bound : half ≡ c.args.room / 64 + min 1 (c.args.room % 64) = c.div_ceil-page_count.ensures in
    seen_new (read_is 1 R c.nothing_read.ensures) c.args.first_page count c.args.slots c.args.room
    (omega (arith, bound))
    (ways_new c.args.first_page count c.in_ok-pages.ensures c.in_ok-forwards.ensures) c.in_ok-cells.ensures
    c.in_ok-index.ensures.items c.in_ok-slots.ensures
