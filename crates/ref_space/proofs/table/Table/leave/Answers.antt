use Rattle.ref_space.proofs.Common.{◌≡◌, ◌∙◌, false≢true, ap, sym, refl, arith, is_some, slice_index_or}
use Rattle.ref_space.proofs.Common.{Some, None}
use Rattle.ref_space.specs.Tables.{brought, left_of, without_if_any}
use Rattle.ref_space.proofs.BroughtLemmas.{number_at, stays_there}
use Rattle.ref_space.proofs.CellChanges.{frame_here, within_here}
use Rattle.ref_space.proofs.table.Table.leave.Goals as goal
use Rattle.ref_space.proofs.table.Table.leave.Given.{Over}

pub index-requires : goal.index-requires
index-requires g c =
    let within = within_here c.self.invariant c.self.view_is c.args.place c.requires in
    omega (arith, within, c.self.inside.cells.ok.0)

pub is_chosen-requires : goal.is_chosen-requires
is_chosen-requires g c = frame_here c.self.invariant c.self.view_is c.args.place c.requires

pub move_at-requires-clause-lies : goal.move_at-requires-clause-lies
move_at-requires-clause-lies g c =
    number_at c.self.invariant c.self.view_is c.args.place
    (within_here c.self.invariant c.self.view_is c.args.place c.requires) c.index.ensures c.number.ensures c.in-Some.is

named : (g : Over) (c : goal.After-move_at g)
    → slice_index_or c.args.self.now.occupants c.args.place None ≡ Some c.in-Some.no
named g c =
    number_at c.self.invariant c.self.view_is c.args.place
    (within_here c.self.invariant c.self.view_is c.args.place c.requires) c.index.ensures c.number.ensures c.in-Some.is

pub returns-in-Some-clause-lies : goal.returns-in-Some-clause-lies
returns-in-Some-clause-lies g c = c.move_at.ensures.lies ∙ sym (named g c)

pub returns-in-Some-clause-after : goal.returns-in-Some-clause-after
returns-in-Some-clause-after g c = c.move_at.ensures.brought ∙ ap (brought c.args.self.now) (sym (named g c))

pub returns-in-Some-clause-left : goal.returns-in-Some-clause-left
returns-in-Some-clause-left g c =
    c.move_at.ensures.left ∙ ap (without_if_any (left_of c.args.self.now)) (sym (named g c))

pub returns-in_default-clause-after : goal.returns-in_default-clause-after
returns-in_default-clause-after g c =
    sym (stays_there c.self.invariant c.self.view_is c.args.place
    (slice_index_or c.args.self.now.occupants c.args.place None) c.requires refl
    (sym c.is_chosen.ensures ∙ c.if-is_chosen.false)).0

pub returns-in_default-clause-left : goal.returns-in_default-clause-left
returns-in_default-clause-left g c =
    sym (stays_there c.self.invariant c.self.view_is c.args.place
    (slice_index_or c.args.self.now.occupants c.args.place None) c.requires refl
    (sym c.is_chosen.ensures ∙ c.if-is_chosen.false)).1

none : (g : Over) (c : goal.In_default g) → ⊥
none g c =
    false≢true (sym (ap is_some
    (number_at c.self.invariant c.self.view_is c.args.place
    (within_here c.self.invariant c.self.view_is c.args.place c.requires) c.index.ensures c.number.ensures
    c.in_default.is)) ∙ c.requires)

pub returns-in_default-2-clause-stays : goal.returns-in_default-2-clause-stays
returns-in_default-2-clause-stays g c = absurd (none g c)

pub returns-in_default-2-clause-after : goal.returns-in_default-2-clause-after
returns-in_default-2-clause-after g c = absurd (none g c)

pub returns-in_default-2-clause-left : goal.returns-in_default-2-clause-left
returns-in_default-2-clause-left g c = absurd (none g c)
