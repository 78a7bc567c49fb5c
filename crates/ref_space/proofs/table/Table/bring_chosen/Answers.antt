use Rattle.ref_space.proofs.Common.{◌≡◌, ◌∙◌, true, false, ap, sym, refl, subst, arith, is_some, slice_index_or, None}
use Rattle.ref_space.proofs.Common.{target_of}
use Rattle.ref_space.specs.Naming.{IsHealed, IsInColour}
use Rattle.ref_space.specs.Pages.{is_chosen_place}
use Rattle.ref_space.specs.Tables.{Table, brought, left_of, without_if_any}
use Rattle.ref_space.proofs.CellChanges.{resolves, resolves_none, within_here, word_coloured, word_led, word_named}
use Rattle.ref_space.proofs.table.Table.bring_chosen.Goals as goal
use Rattle.ref_space.proofs.table.Table.bring_chosen.Given.{Over}

pub leave-place-requires : goal.leave-place-requires
leave-place-requires g c =
    (resolves c.self.invariant c.self.view_is c.deref.ensures.value c.deref-2.ensures.value c.args.value
    c.place_by.ensures c.in-Some.is).0

pub overflow_cast-place : goal.overflow_cast-place
overflow_cast-place g c =
    let here = (resolves c.self.invariant c.self.view_is c.deref.ensures.value c.deref-2.ensures.value c.args.value
    c.place_by.ensures c.in-Some.is).0 in
    let within = within_here c.self-in-Some.invariant c.self-in-Some.view_is c.leave-place.result
    (ap is_some c.leave-place.ensures.lies ∙ here) in
    omega (arith, within, c.self-in-Some.invariant.0.placed.small)

pub of_place-requires : goal.of_place-requires
of_place-requires g c =
    let here = (resolves c.self.invariant c.self.view_is c.deref.ensures.value c.deref-2.ensures.value c.args.value
    c.place_by.ensures c.in-Some.is).0 in
    let within = within_here c.self-in-Some.invariant c.self-in-Some.view_is c.leave-place.result
    (ap is_some c.leave-place.ensures.lies ∙ here) in
    omega (arith, within, c.self-in-Some.invariant.0.placed.small)

-- the object lies at that place
here : (g : Over) (c : goal.After-of_place g)
    → (is_some (slice_index_or c.args.self.now.occupants c.in-Some.place None) ≡ true)
    × (slice_index_or c.args.self.now.occupants c.in-Some.place None ≡ target_of c.args.self.now c.args.value)
here g c =
    resolves c.self.invariant c.self.view_is c.deref.ensures.value c.deref-2.ensures.value c.args.value
    c.place_by.ensures c.in-Some.is

-- and then at the one that is answered
then_there : (g : Over) (c : goal.After-of_place g)
    → is_some (slice_index_or c.leave-place.new.self.occupants c.leave-place.result None) ≡ true
then_there g c = ap is_some c.leave-place.ensures.lies ∙ (here g c).0

pub returns-in-Some-clause-named : goal.returns-in-Some-clause-named
returns-in-Some-clause-named g c =
    ap (target_of c.leave-place.new.self) c.of_place.ensures
    ∙ word_named c.self-in-Some.invariant c.self-in-Some.view_is c.leave-place.result (then_there g c)
    c.self-in-Some.inside.round.good
    ∙ c.leave-place.ensures.lies ∙ (here g c).1 ∙ sym (c.leave-place.ensures.kept c.args.value c.requires).0

pub returns-in-Some-clause-healed : goal.returns-in-Some-clause-healed
returns-in-Some-clause-healed g c =
    subst (IsHealed c.leave-place.new.self) (sym c.of_place.ensures)
    (word_led c.self-in-Some.invariant c.self-in-Some.view_is c.leave-place.result (then_there g c) false
    (ap (λ (t : Table). is_chosen_place t.ways.pages.uses c.leave-place.result) c.self-in-Some.view_is
    ∙ c.leave-place.ensures.stays)
    c.self-in-Some.inside.round.good refl)

pub returns-in-Some-clause-good : goal.returns-in-Some-clause-good
returns-in-Some-clause-good g c =
    subst (λ (t : Table). IsInColour t.round.good c.of_place.result) c.self-in-Some.view_is
    (subst (IsInColour c.self-in-Some.inside.round.good) (sym c.of_place.ensures)
    (word_coloured c.self-in-Some.invariant c.self-in-Some.view_is c.leave-place.result (then_there g c)
    c.self-in-Some.inside.round.good))

pub returns-in-Some-clause-after : goal.returns-in-Some-clause-after
returns-in-Some-clause-after g c = c.leave-place.ensures.after ∙ ap (brought c.args.self.now) (here g c).1

pub returns-in-Some-clause-left : goal.returns-in-Some-clause-left
returns-in-Some-clause-left g c =
    c.leave-place.ensures.left ∙ ap (without_if_any (left_of c.args.self.now)) (here g c).1

pub returns-in-None-clause-named : goal.returns-in-None-clause-named
returns-in-None-clause-named g c =
    ap (target_of c.args.self.now) c.null.ensures
    ∙ sym (resolves_none c.self.invariant c.self.view_is c.deref.ensures.value c.deref-2.ensures.value c.args.value
    c.place_by.ensures c.in-None.is)

pub returns-in-None-clause-after : goal.returns-in-None-clause-after
returns-in-None-clause-after g c =
    sym (ap (brought c.args.self.now)
    (resolves_none c.self.invariant c.self.view_is c.deref.ensures.value c.deref-2.ensures.value c.args.value
    c.place_by.ensures c.in-None.is))

pub returns-in-None-clause-left : goal.returns-in-None-clause-left
returns-in-None-clause-left g c =
    sym (ap (without_if_any (left_of c.args.self.now))
    (resolves_none c.self.invariant c.self.view_is c.deref.ensures.value c.deref-2.ensures.value c.args.value
    c.place_by.ensures c.in-None.is))
