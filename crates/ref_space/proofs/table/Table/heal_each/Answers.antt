use Rattle.ref_space.specs.Tables.{round_of}
use Rattle.ref_space.proofs.Common.{arith, refl, sym, ◌∙◌, ap, subst, List, Option, Tabled, IsSoundTable}
use Rattle.ref_space.proofs.Common.{IsSoundNaming, seen_table, length, vec_capacity}
use Rattle.ref_space.proofs.CellChanges.{lying_place, settled, tuned_seen, healed_there, IsHealedThere}
use Rattle.ref_space.proofs.CellChanges.{sound_healed, seen_healed}
use Rattle.ref_space.specs.Moves.{ways_of}
use Rattle.std.specs.Vec.{with_items}
use Rattle.ref_space.proofs.table.Table.heal_each.Given.{Over}
use Rattle.ref_space.proofs.table.Table.heal_each.Goals as goal

pub heal_fields-requires-clause-within : goal.heal_fields-requires-clause-within
heal_fields-requires-clause-within g c =
    let place = lying_place c.self.invariant c.self.view_is c.requires.lies in
    let size = ap length c.deref_mut.ensures.value in
    omega (arith, place.within, size)

pub index-requires : goal.index-requires
index-requires g c =
    let place = lying_place c.self.invariant c.self.view_is c.requires.lies in
    omega (arith, c.self.inside.cells.ok.0, place.within)

pub index_mut-requires : goal.index_mut-requires
index_mut-requires g c =
    let place = lying_place c.self.invariant c.self.view_is c.requires.lies in
    omega (arith, c.self.inside.cells.ok.0, place.within)

healed : (g : Over) (c : goal.After-self-2-1 g)
    → IsHealedThere c.self.invariant c.args.place c.self.inside.round.good c.self.inside.round.number
    (with_items c.self.inside.cells c.heal_fields.new.cells).items c.put_healed.new.self
healed g c =
    healed_there c.self.invariant (lying_place c.self.invariant c.self.view_is c.requires.lies).within
    c.self.inside.round.good c.self.inside.round.number c.self.inside.cells (sym c.self.inside.cells.ok.0) refl
    c.deref_mut.ensures.value c.deref.ensures.value c.heal_fields.ensures c.index.ensures c.index_mut.ensures.value
    c.deref-2.ensures.value c.deref-3.ensures.value c.referent-held.ensures c.healed_word-referent.ensures
    c.put_healed.ensures

pub invariant_of-self : goal.invariant_of-self
invariant_of-self g c =
    let ways = ways_of c.self.inside.pages c.self.inside.forwards.items c.self.inside.last_good
    c.self.inside.is_tuned in
    subst (λ (cs : List (Option Tabled)). IsSoundTable (round_of c.self.inside.round c.self.inside.read.value) cs
    c.self.inside.index.items ways
    c.self.inside.last c.self.inside.room c.self.inside.count (vec_capacity c.self.inside.index) c.self.inside.marked
    × IsSoundNaming (round_of c.self.inside.round c.self.inside.read.value) ways cs c.self.inside.index.items
    c.self.inside.slots.items)
    (sym (healed g c).whole)
    (sound_healed c.self.invariant (lying_place c.self.invariant c.self.view_is c.requires.lies)
    (settled c.self.invariant (tuned_seen c.self.invariant c.self.view_is c.requires.tuned)) (healed g c).cell)

pub returns : goal.returns
returns g c =
    let ways = ways_of c.self.inside.pages c.self.inside.forwards.items c.self.inside.last_good
    c.self.inside.is_tuned in
    ap (λ (cs : List (Option Tabled)). seen_table (round_of c.self.inside.round c.self.inside.read.value) ways cs
    c.self.inside.index.items
    c.self.inside.slots.items c.self.inside.last c.self.inside.room) (healed g c).whole
    ∙ seen_healed c.self.invariant (lying_place c.self.invariant c.self.view_is c.requires.lies)
    (settled c.self.invariant (tuned_seen c.self.invariant c.self.view_is c.requires.tuned)) (healed g c).cell
    c.self.view_is
