use Rattle.ref_space.proofs.Common.{◌+◌}
use Rattle.ref_space.proofs.ReadLemmas.{read_is}
use Rattle.ref_space.specs.Tables.{round_of}
use Rattle.ref_space.specs.Moves.{ways_of}
use Rattle.ref_space.proofs.Common.{◌∙◌, ap, sym, refl, length, Table, tabled_by, table_begun}
use Rattle.ref_space.proofs.EachLemmas.{items_each, sound_all, marked_of-anew, sound_next}
use Rattle.ref_space.proofs.EachLemmas.{naming_next, seen_next, naming_anew, seen_anew}
use Rattle.ref_space.proofs.CellChanges.{healed_slots, few_places, apart_seen}
use Rattle.ref_space.specs.Tables.{with_nothing_done}
use Rattle.ref_space.proofs.BroughtLemmas.{left_settled}
use Rattle.ref_space.proofs.table.Table.begin.Goals as goal
use Rattle.ref_space.proofs.EachLemmas.{sound_tuned}

pub invariant_of-self : goal.invariant_of-self
invariant_of-self g c =
    let slots =
    healed_slots c.self.invariant c.deref.ensures.value c.deref-2.ensures.value c.args.good c.self.inside.slots
    (sym c.self.inside.slots.ok.0) c.heal_slots.ensures c.deref_mut.ensures.value in (
      sound_next (round_of c.self.inside.round c.self.inside.read.value) c.args.good
          (ways_of c.self.inside.pages c.self.inside.forwards.items c.self.inside.last_good c.self.inside.is_tuned)
          c.self.inside.cells.items
          c.self.inside.index.items c.self.inside.slots.items slots
          (left_settled c.self.invariant c.self.view_is c.requires.settled) (few_places c.self.invariant)
          (apart_seen c.self.invariant c.self.view_is c.args.good c.requires.apart)
          c.if-self-lt255.true (read_is (c.self.inside.round.number + 1) c.args.good c.nothing_read.ensures)
          c.self.invariant.0 c.self.invariant.1,
      naming_next (round_of c.self.inside.round c.self.inside.read.value) c.args.good
          (ways_of c.self.inside.pages c.self.inside.forwards.items c.self.inside.last_good c.self.inside.is_tuned)
          c.self.inside.cells.items
          c.self.inside.index.items c.self.inside.slots.items slots
          (left_settled c.self.invariant c.self.view_is c.requires.settled) (few_places c.self.invariant)
          (apart_seen c.self.invariant c.self.view_is c.args.good c.requires.apart)
          c.if-self-lt255.true (read_is (c.self.inside.round.number + 1) c.args.good c.nothing_read.ensures)
          c.self.invariant.1,
    )

pub returns-then-self-lt255 : goal.returns-then-self-lt255
returns-then-self-lt255 g c =
    seen_next (round_of c.self.inside.round c.self.inside.read.value) c.args.good
    (ways_of c.self.inside.pages c.self.inside.forwards.items c.self.inside.last_good c.self.inside.is_tuned)
    c.self.inside.cells.items
    c.self.inside.index.items c.self.inside.slots.items
    (healed_slots c.self.invariant c.deref.ensures.value c.deref-2.ensures.value c.args.good c.self.inside.slots
    (sym c.self.inside.slots.ok.0) c.heal_slots.ensures c.deref_mut.ensures.value)
    (left_settled c.self.invariant c.self.view_is c.requires.settled) (few_places c.self.invariant)
    (apart_seen c.self.invariant c.self.view_is c.args.good c.requires.apart)
    c.if-self-lt255.true (read_is (c.self.inside.round.number + 1) c.args.good c.nothing_read.ensures)
    c.self.invariant.1.rooted c.self.inside.last c.self.inside.room
    ∙ ap (λ (t : Table). table_begun t c.args.good) c.self.view_is

pub invariant_of-self-2 : goal.invariant_of-self-2
invariant_of-self-2 g c =
    let slots =
    healed_slots c.self.invariant c.deref.ensures.value c.deref-2.ensures.value c.args.good c.self.inside.slots
    (sym c.self.inside.slots.ok.0) c.heal_slots.ensures c.deref_mut.ensures.value in
    let each =
    items_each with_nothing_done (λ k. refl) c.self.inside.cells (sym c.self.inside.cells.ok.0) c.forget_rounds.ensures
    c.deref_mut-2.ensures.value in (
      sound_all with_nothing_done (λ k. refl) c.self.inside.cells.items each c.self.inside.index.items
          (sound_tuned (left_settled c.self.invariant c.self.view_is c.requires.settled) c.self.invariant.0)
          (sym (ap length (marked_of-anew (tabled_by c.self.inside.cells.items c.self.inside.index.items)))),
      naming_anew (round_of c.self.inside.round c.self.inside.read.value) c.args.good
          (ways_of c.self.inside.pages c.self.inside.forwards.items c.self.inside.last_good c.self.inside.is_tuned)
          c.self.inside.cells.items
          c.self.inside.index.items c.self.inside.slots.items slots
          (left_settled c.self.invariant c.self.view_is c.requires.settled) (few_places c.self.invariant)
          (apart_seen c.self.invariant c.self.view_is c.args.good c.requires.apart)
          each (read_is 1 c.args.good c.nothing_read.ensures) c.self.invariant.1,
    )

pub returns : goal.returns
returns g c =
    let slots =
    healed_slots c.self.invariant c.deref.ensures.value c.deref-2.ensures.value c.args.good c.self.inside.slots
    (sym c.self.inside.slots.ok.0) c.heal_slots.ensures c.deref_mut.ensures.value in
    let each =
    items_each with_nothing_done (λ k. refl) c.self.inside.cells (sym c.self.inside.cells.ok.0) c.forget_rounds.ensures
    c.deref_mut-2.ensures.value in
    seen_anew (round_of c.self.inside.round c.self.inside.read.value) c.args.good
    (ways_of c.self.inside.pages c.self.inside.forwards.items c.self.inside.last_good c.self.inside.is_tuned)
    c.self.inside.cells.items
    c.self.inside.index.items c.self.inside.slots.items slots
    (left_settled c.self.invariant c.self.view_is c.requires.settled) (few_places c.self.invariant)
    (apart_seen c.self.invariant c.self.view_is c.args.good c.requires.apart)
    each (read_is 1 c.args.good c.nothing_read.ensures)
    c.if-self-lt255.false c.self.invariant.1.rooted c.self.inside.last c.self.inside.room
    ∙ ap (λ (t : Table). table_begun t c.args.good) c.self.view_is
