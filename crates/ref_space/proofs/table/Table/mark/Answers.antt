use Rattle.ref_space.proofs.Common.{changed}
use Rattle.ref_space.proofs.Common.{sym}
use Rattle.ref_space.proofs.CellChanges.{round_seen, some_anew}
use Rattle.ref_space.proofs.Common.{refl, ◌∙◌, ap, arith, tabled_by}
use Rattle.ref_space.proofs.PlaceLemmas.{IsPlaceOf-lent, IsMissing-lent}
use Rattle.ref_space.proofs.Common.{from_bool, with_marked, is_unmarked_in, is_some}
use Rattle.ref_space.proofs.CellChanges.{marks_fit, sound_counted, left_there, left_nowhere, answered_there}
use Rattle.ref_space.proofs.CellChanges.{answered_nowhere, unmarked-named}
use Rattle.ref_space.proofs.ChangeLemmas.{told_of}
use Rattle.ref_space.proofs.MarkCounts.{marks_more}
use Rattle.ref_space.proofs.table.Table.mark.Goals as goal

pub overflow_add-self : goal.overflow_add-self
overflow_add-self g c = omega (arith, marks_fit c.self.invariant.0 c.is_some-is_new.result c.from.ensures)

pub invariant_of-self : goal.invariant_of-self
invariant_of-self g c =
    let place = (IsPlaceOf-lent c.args.no c.deref.ensures.value c.deref-2.ensures.value c.in-Some.ensures) in
    let new = (c.is_some-is_new.ensures ∙ ap is_some c.mark.ensures.answer
    ∙ some_anew c.self.inside.round.number c.index_mut.result.now)
    ∙ told_of c.self.invariant.0.placed place (is_unmarked_in c.self.inside.round.number) c.index_mut.ensures.value in
    sound_counted c.self.invariant place (with_marked c.self.inside.round.number)
    (with_marked c.self.inside.round.number) (λ k. refl)
    c.index_mut.ensures.value c.mark.ensures.after (λ k held. (omega arith, held.1, held.2))
    (λ k read. read)
    (marks_more c.self.inside.round.number (tabled_by c.self.inside.cells.items c.self.inside.index.items) c.args.no
    (c.from.ensures ∙ ap from_bool new) c.self.invariant.0.marks_counted)

pub returns-in-Some-clause-answer : goal.returns-in-Some-clause-answer
returns-in-Some-clause-answer g c =
    rw (round_seen c.self.invariant c.self.view_is)
    (answered_there c.self.invariant
    (IsPlaceOf-lent c.args.no c.deref.ensures.value c.deref-2.ensures.value c.in-Some.ensures)
    c.self.view_is (is_unmarked_in c.self.inside.round.number)
    (unmarked-named c.self.inside.round.number) c.index_mut.ensures.value
    (c.is_some-is_new.ensures ∙ ap is_some c.mark.ensures.answer
    ∙ some_anew c.self.inside.round.number c.index_mut.result.now))

pub returns-in-Some-clause-after : goal.returns-in-Some-clause-after
returns-in-Some-clause-after g c =
    left_there c.self.invariant
    (IsPlaceOf-lent c.args.no c.deref.ensures.value c.deref-2.ensures.value c.in-Some.ensures)
    (with_marked c.self.inside.round.number) (with_marked c.self.inside.round.number)
    (λ k. refl) c.index_mut.ensures.value c.mark.ensures.after
    c.self.view_is (λ k. refl)
    ∙ ap (λ r. changed c.args.self.now c.args.no (with_marked r)) (sym (round_seen c.self.invariant c.self.view_is))

pub returns-in-None-clause-answer : goal.returns-in-None-clause-answer
returns-in-None-clause-answer g c =
    rw (round_seen c.self.invariant c.self.view_is)
    (answered_nowhere c.self.invariant
    (IsMissing-lent c.args.no c.deref.ensures.value c.deref-2.ensures.value c.in-None.ensures) c.self.view_is
    (is_unmarked_in c.self.inside.round.number))

pub returns-in-None-clause-after : goal.returns-in-None-clause-after
returns-in-None-clause-after g c =
    left_nowhere c.self.invariant
    (IsMissing-lent c.args.no c.deref.ensures.value c.deref-2.ensures.value c.in-None.ensures) c.self.view_is
    (with_marked c.self.inside.round.number)
    ∙ ap (λ r. changed c.args.self.now c.args.no (with_marked r)) (sym (round_seen c.self.invariant c.self.view_is))

pub index_mut-requires : goal.index_mut-requires
index_mut-requires g c =
    let place = IsPlaceOf-lent c.args.no c.deref.ensures.value c.deref-2.ensures.value c.in-Some.ensures in
    omega (arith, c.self.inside.cells.ok.0, place.within)
