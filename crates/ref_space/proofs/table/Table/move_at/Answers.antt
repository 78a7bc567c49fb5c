use Rattle.ref_space.specs.Tables.{round_of}
use Rattle.ref_space.proofs.Common.{◌≡◌, ◌∙◌, ap, sym, arith, length, true, length-map, is_none, None, get_or_read}
use Rattle.ref_space.proofs.Common.{cell_at}
use Rattle.std.proofs.lemmas.List.{with_items_is}
use Rattle.std.specs.Vec.{with_items}
use Rattle.ref_space.specs.Moves.{forward_of, ways_of}
use Rattle.ref_space.specs.Pages.{is_chosen_place}
use Rattle.ref_space.specs.Tables.{Table}
use Rattle.ref_space.specs.Places.{with_place_of}
use Rattle.ref_space.proofs.CellChanges.{lying_place}
use Rattle.ref_space.proofs.MovedLemmas.{within_to, sound_moved, table_moved, length-with_place}
use Rattle.ref_space.proofs.Common.{set, seen_table}
use Rattle.ref_space.specs.Tables.{left_of, moved_from}
use Rattle.ref_space.proofs.BroughtLemmas.{brought_moved, kept_moved, left_moved, moved_lies, moved_stays}
use Rattle.ref_space.proofs.table.Table.move_at.Goals as goal
use Rattle.ref_space.proofs.table.Table.move_at.Given.{Over}

pub index-to-requires : goal.index-to-requires
index-to-requires g c =
    let place = lying_place c.self.invariant c.self.view_is c.requires.lies in
    let size = c.self.invariant.0.placed.free.forwarded in
    omega (arith, c.self.inside.forwards.ok.0, place.within, size, length-map c.self.inside.cells.items is_none)

pub index_mut-requires : goal.index_mut-requires
index_mut-requires g c =
    let place = lying_place c.self.invariant c.self.view_is c.requires.lies in
    omega (arith, c.self.inside.cells.ok.0, place.within)

pub index_mut-requires-2 : goal.index_mut-requires-2
index_mut-requires-2 g c =
    let place = lying_place c.self.invariant c.self.view_is c.requires.lies in
    let size = c.self.invariant.0.placed.free.forwarded in
    let goes : c.index-to.result.now ≡ forward_of c.self.inside.forwards.items c.args.from =
    get_or_read c.self.inside.forwards.items c.args.from c.index-to.result.now
    (omega (arith, place.within, size, length-map c.self.inside.cells.items is_none)) c.index-to.ensures c.args.from in
    let within = within_to c.self.invariant.0.placed place
    (ap (λ (t : Table). is_chosen_place t.ways.pages.uses c.args.from) c.self.view_is ∙ c.requires.leaves) in
    omega (arith, within, goes, c.self.inside.cells.ok.0)

leaves : (g : Over) (c : goal.After-give g)
    → is_chosen_place (ways_of c.self.inside.pages c.self.inside.forwards.items c.self.inside.last_good
    c.self.inside.is_tuned).pages.uses c.args.from ≡ true
leaves g c = ap (λ (t : Table). is_chosen_place t.ways.pages.uses c.args.from) c.self.view_is ∙ c.requires.leaves

taken : (g : Over) (c : goal.After-give g)
    → c.replace-cell.result ≡ cell_at c.self.inside.cells.items c.args.from
taken g c =
    let place = lying_place c.self.invariant c.self.view_is c.requires.lies in
    c.replace-cell.ensures.value
    ∙ get_or_read c.self.inside.cells.items c.args.from c.index_mut.result.now place.within c.index_mut.ensures.value
    None

goes : (g : Over) (c : goal.After-give g)
    → c.index-to.result.now ≡ forward_of c.self.inside.forwards.items c.args.from
goes g c =
    let place = lying_place c.self.invariant c.self.view_is c.requires.lies in
    let size = c.self.invariant.0.placed.free.forwarded in
    get_or_read c.self.inside.forwards.items c.args.from c.index-to.result.now
    (omega (arith, place.within, size, length-map c.self.inside.cells.items is_none)) c.index-to.ensures c.args.from

listed : (g : Over) (c : goal.After-give g)
    → (with_items c.self.inside.index c.set_place.new.index).items
    ≡ with_place_of c.self.inside.index.items c.args.no c.index-to.result.now
listed g c =
    with_items_is c.self.inside.index c.set_place.new.index
    (ap length c.set_place.ensures ∙ length-with_place c.args.no c.index-to.result.now c.deref_mut.result.now
    ∙ ap length c.deref_mut.ensures.value ∙ sym c.self.inside.index.ok.0)
    ∙ c.set_place.ensures
    ∙ ap (λ es. with_place_of es c.args.no c.index-to.result.now) c.deref_mut.ensures.value

pub invariant_of-self : goal.invariant_of-self
invariant_of-self g c =
    sound_moved c.self.invariant (lying_place c.self.invariant c.self.view_is c.requires.lies) (leaves g c) (taken g c)
    (c.replace-cell.ensures.after ∙ c.vacant.ensures) (goes g c) (listed g c)
    c.give.ensures

moved : (g : Over) (c : goal.After-give g)
    → seen_table (round_of c.self.inside.round c.self.inside.read.value)
    (record (ways_of c.self.inside.pages c.self.inside.forwards.items c.self.inside.last_good c.self.inside.is_tuned) {
      pages = c.give.new.self;
    })
    (set (set c.self.inside.cells.items c.args.from c.replace-cell.new.dest) c.index-to.result.now
    c.replace-cell.result)
    (with_items c.self.inside.index c.set_place.new.index).items c.self.inside.slots.items c.self.inside.last
    c.self.inside.room ≡ moved_from c.args.self.now c.args.from
moved g c =
    table_moved c.self.invariant (lying_place c.self.invariant c.self.view_is c.requires.lies) (leaves g c) (taken g c)
    (c.replace-cell.ensures.after ∙ c.vacant.ensures) (goes g c) (listed g c) c.give.ensures c.self.view_is

pub returns : goal.returns
returns g c =
    let place = lying_place c.self.invariant c.self.view_is c.requires.lies in
    record {
      lies = moved_lies c.self.invariant c.self.view_is place (leaves g c) (goes g c) (moved g c);
      stays = moved_stays c.self.invariant c.self.view_is place (leaves g c) (goes g c) (moved g c);
      after = moved g c;
      brought = moved g c ∙ brought_moved c.self.invariant c.self.view_is place (leaves g c);
      left = ap left_of (moved g c) ∙ left_moved c.self.invariant c.self.view_is place (leaves g c);
      kept = kept_moved c.self.invariant c.self.view_is place (leaves g c) (moved g c);
    }

pub give-requires-clause-frame : goal.give-requires-clause-frame
give-requires-clause-frame g c =
    let place = lying_place c.self.invariant c.self.view_is c.requires.lies in
    omega (arith, place.within, c.self.invariant.0.placed.free.sized, length-map c.self.inside.cells.items is_none)
