use Rattle.ref_space.proofs.ReadLemmas.{blanked_reads}
use Rattle.ref_space.specs.Tables.{round_of}
use Rattle.ref_space.specs.Moves.{ways_of}
use Rattle.ref_space.proofs.Common.{refl, leads_by, target_by, occupants_of, arith, subst, ◌≤◌, ◌∙◌, ap, sym, length}
use Rattle.ref_space.proofs.Common.{Table, tabled_by, from_bool, ◌==◌, blanked_unless_marked, table_blanked}
use Rattle.ref_space.proofs.CondemnLemmas.{unmarked_of-named, unmarked_fit}
use Rattle.ref_space.proofs.EachLemmas.{naming_all, blanked_leads, blanked-named, items_each, seen_all, sound_all}
use Rattle.ref_space.proofs.EachLemmas.{numbers_by-each, blanked_keeps}
use Rattle.ref_space.proofs.EachLemmas.{blanked_marked}
use Rattle.ref_space.specs.Tables.{is_marked}
use Rattle.ref_space.proofs.table.Table.condemn.Goals as goal

pub invariant_of-self : goal.invariant_of-self
invariant_of-self g c =
    let is =
    items_each (blanked_unless_marked c.self.inside.round.number)
    (blanked_keeps c.self.inside.round.number) c.self.inside.cells (sym c.self.inside.cells.ok.0)
    c.condemn.ensures.cells c.deref_mut.ensures.value in (
      sound_all (blanked_unless_marked c.self.inside.round.number)
          (blanked_keeps c.self.inside.round.number) c.self.inside.cells.items is c.self.inside.index.items
          c.self.invariant.0
          (c.self.invariant.0.marks_counted
          ∙ ap length (sym (numbers_by-each (blanked_unless_marked c.self.inside.round.number)
          (blanked_keeps c.self.inside.round.number) (λ k. from_bool (is_marked c.self.inside.round.number k))
          (λ k. ap (λ m. from_bool (m == c.self.inside.round.number)) (blanked_marked c.self.inside.round.number k))
          (tabled_by c.self.inside.cells.items c.self.inside.index.items)))),
      naming_all (blanked_unless_marked c.self.inside.round.number)
          (blanked_keeps c.self.inside.round.number) c.self.inside.cells.items is c.self.inside.index.items
          (round_of c.self.inside.round c.self.inside.read.value)
          (ways_of c.self.inside.pages c.self.inside.forwards.items c.self.inside.last_good c.self.inside.is_tuned)
          c.self.inside.slots.items c.self.invariant.1
          (blanked_leads c.self.inside.round.number (leads_by c.self.inside.round.good
          (ways_of c.self.inside.pages c.self.inside.forwards.items c.self.inside.last_good c.self.inside.is_tuned)
          (occupants_of c.self.inside.cells.items)) (λ b. refl))
          (blanked_reads (round_of c.self.inside.round c.self.inside.read.value) c.self.inside.round.number),
    )

pub condemn-requires-clause-room : goal.condemn-requires-clause-room
condemn-requires-clause-room g c =
    let name = target_by (ways_of c.self.inside.pages c.self.inside.forwards.items c.self.inside.last_good
    c.self.inside.is_tuned) (occupants_of c.self.inside.cells.items) in
    rw (c.clear.ensures, c.deref_mut.ensures.value, c.deref.ensures.value)
    (omega (
      arith,
      unmarked_fit c.self.inside.round.number name (tabled_by c.self.inside.cells.items c.self.inside.index.items)
          (subst (λ (t : Table). length t.tabled ≤ c.args.condemned.now.room) (sym c.self.view_is) c.requires),
    ))

pub condemn-requires-clause-listed : goal.condemn-requires-clause-listed
condemn-requires-clause-listed g c = rw (c.deref_mut.ensures.value, c.deref.ensures.value) c.self.invariant.1.listed

pub returns-clause-after : goal.returns-clause-after
returns-clause-after g c =
    let is =
    items_each (blanked_unless_marked c.self.inside.round.number)
    (blanked_keeps c.self.inside.round.number) c.self.inside.cells (sym c.self.inside.cells.ok.0)
    c.condemn.ensures.cells c.deref_mut.ensures.value in
    seen_all (blanked_unless_marked c.self.inside.round.number)
    (blanked_keeps c.self.inside.round.number) c.self.inside.cells.items is c.self.inside.index.items
    (round_of c.self.inside.round c.self.inside.read.value)
    (ways_of c.self.inside.pages c.self.inside.forwards.items c.self.inside.last_good c.self.inside.is_tuned)
    c.self.inside.slots.items c.self.inside.last c.self.inside.room
    (blanked-named c.self.inside.round.number (target_by (ways_of c.self.inside.pages c.self.inside.forwards.items
    c.self.inside.last_good c.self.inside.is_tuned)
    (occupants_of c.self.inside.cells.items)) refl)
    ∙ ap (λ (t : Table). table_blanked t) c.self.view_is

pub returns-clause-list : goal.returns-clause-list
returns-clause-list g c = grind (arith, unmarked_of-named)
