use Rattle.ref_space.specs.Tables.{round_of}
use Rattle.ref_space.proofs.ReadLemmas.{object_reads}
use Rattle.ref_space.proofs.TableReads.{held_object}
use Rattle.ref_space.specs.Moves.{ways_of}
use Rattle.ref_space.proofs.Common.{changed}
use Rattle.ref_space.proofs.Common.{◌∙◌}
use Rattle.ref_space.proofs.Common.{sym}
use Rattle.ref_space.proofs.Common.{ap}
use Rattle.ref_space.proofs.CellChanges.{round_seen}
use Rattle.ref_space.proofs.Common.{refl, arith, leads_by, target_by, occupants_of}
use Rattle.ref_space.proofs.PlaceLemmas.{IsPlaceOf-lent, IsMissing-lent}
use Rattle.ref_space.proofs.Common.{may_hold, holds_in}
use Rattle.ref_space.specs.Tables.{more_held_if}
use Rattle.ref_space.proofs.TableReads.{held_keeps, held_leaves, holds_in-le}
use Rattle.ref_space.proofs.CellChanges.{sound_there, left_there, left_nowhere, answered_there, answered_nowhere}
use Rattle.ref_space.proofs.CellChanges.{may_hold-named, holds-named, held-named, held_values}
use Rattle.ref_space.proofs.table.Table.add_hold.Goals as goal

pub invariant_of-self : goal.invariant_of-self
invariant_of-self g c =
    sound_there c.self.invariant
    (IsPlaceOf-lent c.args.no c.deref.ensures.value c.deref-2.ensures.value c.in-Some.ensures)
    (more_held_if c.self.inside.round.number c.args.if_marked)
    (more_held_if c.self.inside.round.number c.args.if_marked)
    (held_keeps c.self.inside.round.number c.args.if_marked)
    c.index_mut.ensures.value c.add_hold.ensures.after
    (held_values c.self.inside.round.number (leads_by c.self.inside.round.good
    (ways_of c.self.inside.pages c.self.inside.forwards.items c.self.inside.last_good c.self.inside.is_tuned)
    (occupants_of c.self.inside.cells.items)) c.args.if_marked)
    (object_reads (round_of c.self.inside.round c.self.inside.read.value)
    (more_held_if c.self.inside.round.number c.args.if_marked)
    (held_object c.self.inside.round.number c.args.if_marked))
    (held_leaves c.self.inside.round.number c.args.if_marked)

pub returns-in-Some-clause-there : goal.returns-in-Some-clause-there
returns-in-Some-clause-there g c =
    rw (round_seen c.self.invariant c.self.view_is)
    (answered_there c.self.invariant
    (IsPlaceOf-lent c.args.no c.deref.ensures.value c.deref-2.ensures.value c.in-Some.ensures)
    c.self.view_is (may_hold c.self.inside.round.number c.args.if_marked)
    (may_hold-named c.self.inside.round.number c.args.if_marked) c.index_mut.ensures.value
    c.add_hold.ensures.there)

pub returns-in-Some-clause-after : goal.returns-in-Some-clause-after
returns-in-Some-clause-after g c =
    left_there c.self.invariant
    (IsPlaceOf-lent c.args.no c.deref.ensures.value c.deref-2.ensures.value c.in-Some.ensures)
    (more_held_if c.self.inside.round.number c.args.if_marked)
    (more_held_if c.self.inside.round.number c.args.if_marked)
    (held_keeps c.self.inside.round.number c.args.if_marked)
    c.index_mut.ensures.value c.add_hold.ensures.after c.self.view_is
    (held-named c.self.inside.round.number (target_by (ways_of c.self.inside.pages c.self.inside.forwards.items
    c.self.inside.last_good c.self.inside.is_tuned)
    (occupants_of c.self.inside.cells.items)) c.args.if_marked)
    ∙ ap (λ r. changed c.args.self.now c.args.no (more_held_if r c.args.if_marked)) (sym
    (round_seen c.self.invariant c.self.view_is))

pub returns-in-None-clause-there : goal.returns-in-None-clause-there
returns-in-None-clause-there g c =
    rw (round_seen c.self.invariant c.self.view_is)
    (answered_nowhere c.self.invariant
    (IsMissing-lent c.args.no c.deref.ensures.value c.deref-2.ensures.value c.in-None.ensures) c.self.view_is
    (may_hold c.self.inside.round.number c.args.if_marked))

pub returns-in-None-clause-after : goal.returns-in-None-clause-after
returns-in-None-clause-after g c =
    left_nowhere c.self.invariant
    (IsMissing-lent c.args.no c.deref.ensures.value c.deref-2.ensures.value c.in-None.ensures) c.self.view_is
    (more_held_if c.self.inside.round.number c.args.if_marked)
    ∙ ap (λ r. changed c.args.self.now c.args.no (more_held_if r c.args.if_marked)) (sym
    (round_seen c.self.invariant c.self.view_is))

pub add_hold-requires : goal.add_hold-requires
add_hold-requires g c =
    let count =
    answered_there c.self.invariant
    (IsPlaceOf-lent c.args.no c.deref.ensures.value c.deref-2.ensures.value c.in-Some.ensures)
    c.self.view_is holds_in holds-named c.index_mut.ensures.value refl in
    omega (arith, count, c.requires, holds_in-le c.args.self.now.tabled c.args.no)

pub index_mut-requires : goal.index_mut-requires
index_mut-requires g c =
    let place = IsPlaceOf-lent c.args.no c.deref.ensures.value c.deref-2.ensures.value c.in-Some.ensures in
    omega (arith, c.self.inside.cells.ok.0, place.within)
