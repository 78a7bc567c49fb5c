use Rattle.ref_space.proofs.Common.{◌∙◌, ap, sym, arith, slice_index_or, None, Table}
use Rattle.std.proofs.lemmas.Option.{none-some}
use Rattle.ref_space.specs.Pages.{Pages, is_chosen_place}
use Rattle.ref_space.proofs.BroughtLemmas.{first_left_is, lying_there, number_at}
use Rattle.ref_space.proofs.table.Table.move_next.Goals as goal

pub index-requires : goal.index-requires
index-requires g c =
    let its = first_left_is c.self.invariant c.self.view_is c.in_ok-place.place (sym c.in_ok-place.ensures.answer) in
    omega (arith, its.within, c.self.inside.cells.ok.0)

pub returns-in_err-no-clause-answer : goal.returns-in_err-no-clause-answer
returns-in_err-no-clause-answer g c =
    let its = first_left_is c.self.invariant c.self.view_is c.in_ok-place.place (sym c.in_ok-place.ensures.answer) in
    let none = number_at c.self.invariant c.self.view_is c.in_ok-place.place its.within c.index.ensures
    c.number.ensures c.in_err-no.was in
    absurd (none-some its.no (sym none ∙ its.lies))

pub move_at-requires-clause-lies : goal.move_at-requires-clause-lies
move_at-requires-clause-lies g c =
    let its = first_left_is c.self.invariant c.self.view_is c.in_ok-place.place (sym c.in_ok-place.ensures.answer) in
    ap (λ (t : Table). slice_index_or t.occupants c.in_ok-place.place None) c.self.view_is
    ∙ number_at c.self.invariant c.self.view_is c.in_ok-place.place its.within c.index.ensures c.number.ensures
    c.in_ok-no.was

pub move_at-requires-clause-leaves : goal.move_at-requires-clause-leaves
move_at-requires-clause-leaves g c =
    let its = first_left_is c.self.invariant c.self.view_is c.in_ok-place.place (sym c.in_ok-place.ensures.answer) in
    ap (λ (ps : Pages). is_chosen_place ps.uses c.in_ok-place.place) c.first_left.ensures.after ∙ its.leaves

pub returns-clause-answer : goal.returns-clause-answer
returns-clause-answer g c =
    let its = first_left_is c.self.invariant c.self.view_is c.in_ok-place.place (sym c.in_ok-place.ensures.answer) in
    sym (number_at c.self.invariant c.self.view_is c.in_ok-place.place its.within c.index.ensures c.number.ensures
    c.in_ok-no.was) ∙ its.lies ∙ sym its.first

pub returns-clause-there : goal.returns-clause-there
returns-clause-there g c =
    let its = first_left_is c.self.invariant c.self.view_is c.in_ok-place.place (sym c.in_ok-place.ensures.answer) in
    lying_there c.self.invariant c.self.view_is c.in_ok-no.no c.in_ok-place.place
    (number_at c.self.invariant c.self.view_is c.in_ok-place.place its.within c.index.ensures c.number.ensures
    c.in_ok-no.was)
