use Rattle.ref_space.proofs.Common.{refl, false, ◌∙◌, ap, leads_by, target_of}
use Rattle.ref_space.proofs.Common.{tabled_reference}
use Rattle.ref_space.proofs.CellChanges.{object_read, each_read, reference-named, referent_of_each}
use Rattle.ref_space.proofs.table.Table.kept.Goals as goal

pub returns-in-Some-clause-held : goal.returns-in-Some-clause-held
returns-in-Some-clause-held g c =
    rw c.kept.ensures (reference-named (target_of c.args.self.now) c.in-Some.cell.now)
    ∙ ap tabled_reference
    (object_read c.self.invariant c.args.object c.self.view_is c.deref.ensures.value c.deref-2.ensures.value
    c.in-Some.ensures)

pub returns-in-Some-clause-led : goal.returns-in-Some-clause-led
returns-in-Some-clause-led g c =
    rw c.kept.ensures
    (referent_of_each (leads_by c.args.self.now.round.good c.args.self.now.ways c.args.self.now.occupants false)
    refl c.in-Some.cell.now
    (each_read c.self.invariant c.args.object c.self.view_is c.deref.ensures.value c.deref-2.ensures.value
    c.in-Some.ensures))

pub returns-in-None-clause-held : goal.returns-in-None-clause-held
returns-in-None-clause-held g c =
    ap tabled_reference
    (object_read c.self.invariant c.args.object c.self.view_is c.deref.ensures.value c.deref-2.ensures.value
    c.in-None.ensures)
