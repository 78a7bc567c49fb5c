use Rattle.ref_space.proofs.Common.{changed_of}
use Rattle.ref_space.proofs.Common.{sym}
use Rattle.ref_space.proofs.CellChanges.{round_seen, some_anew}
use Rattle.ref_space.proofs.Common.{refl, ◌∙◌, ap, arith, tabled_by}
use Rattle.ref_space.proofs.Common.{from_bool, with_marked, is_unmarked_in, is_some}
use Rattle.ref_space.proofs.CellChanges.{marks_fit, sound_counted, left_there, left_led_nowhere, answered_there}
use Rattle.ref_space.proofs.CellChanges.{led_place, led_no}
use Rattle.ref_space.proofs.CellChanges.{changed_here}
use Rattle.ref_space.proofs.CellChanges.{anew-named, anew_at, named_here, named_nowhere}
use Rattle.ref_space.specs.Tables.{anew_in, anew_if}
use Rattle.ref_space.proofs.Common.{tabled_at}
use Rattle.ref_space.proofs.ChangeLemmas.{told_of}
use Rattle.ref_space.proofs.MarkCounts.{marks_more}
use Rattle.ref_space.proofs.table.Table.mark_by.Goals as goal

pub overflow_add-self : goal.overflow_add-self
overflow_add-self g c = omega (arith, marks_fit c.self.invariant.0 c.is_some.result c.from.ensures)

pub invariant_of-self : goal.invariant_of-self
invariant_of-self g c =
    let place = (led_place c.self.invariant c.args.value c.self.view_is c.deref.ensures.value c.deref-2.ensures.value
    c.in-Some.ensures) in
    let new = (c.is_some.ensures ∙ ap is_some c.mark-no.ensures.answer
    ∙ some_anew c.self.inside.round.number c.index_mut.result.now)
    ∙ told_of c.self.invariant.0.placed place (is_unmarked_in c.self.inside.round.number) c.index_mut.ensures.value in
    sound_counted c.self.invariant place (with_marked c.self.inside.round.number)
    (with_marked c.self.inside.round.number) (λ k. refl)
    c.index_mut.ensures.value c.mark-no.ensures.after (λ k held. (omega arith, held.1, held.2))
    (λ k read. read)
    (marks_more c.self.inside.round.number (tabled_by c.self.inside.cells.items c.self.inside.index.items)
    (led_no c.self.invariant c.args.value c.self.view_is c.deref.ensures.value c.deref-2.ensures.value
    c.in-Some.ensures)
    (c.from.ensures ∙ ap from_bool new) c.self.invariant.0.marks_counted)

pub returns-in-Some-clause-answer : goal.returns-in-Some-clause-answer
returns-in-Some-clause-answer g c =
    let place = led_place c.self.invariant c.args.value c.self.view_is c.deref.ensures.value c.deref-2.ensures.value
    c.in-Some.ensures in
    c.entry_at.ensures
    ∙ answered_there c.self.invariant place c.self.view_is (anew_in c.self.inside.round.number)
    (anew-named c.self.inside.round.number) c.index_mut.ensures.value c.mark-no.ensures.answer
    ∙ ap (λ r. anew_in r (tabled_at c.args.self.now.tabled (led_no c.self.invariant c.args.value c.self.view_is
    c.deref.ensures.value c.deref-2.ensures.value c.in-Some.ensures))) (sym
    (round_seen c.self.invariant c.self.view_is))
    ∙ anew_at c.args.self.now.round.number c.args.self.now.tabled (led_no c.self.invariant c.args.value c.self.view_is
    c.deref.ensures.value c.deref-2.ensures.value c.in-Some.ensures)
    ∙ ap (anew_if c.args.self.now) (sym (named_here c.self.invariant c.args.value c.self.view_is c.deref.ensures.value
    c.deref-2.ensures.value
    c.in-Some.ensures))

pub returns-in-Some-clause-after : goal.returns-in-Some-clause-after
returns-in-Some-clause-after g c =
    left_there c.self.invariant
    (led_place c.self.invariant c.args.value c.self.view_is c.deref.ensures.value c.deref-2.ensures.value
    c.in-Some.ensures)
    (with_marked c.self.inside.round.number) (with_marked c.self.inside.round.number)
    (λ k. refl) c.index_mut.ensures.value c.mark-no.ensures.after
    c.self.view_is (λ k. refl)
    ∙ changed_here c.self.invariant c.args.value c.self.view_is c.deref.ensures.value c.deref-2.ensures.value
    c.in-Some.ensures
    (with_marked c.self.inside.round.number)
    ∙ ap (λ r. changed_of c.args.self.now c.args.value (with_marked r)) (sym
    (round_seen c.self.invariant c.self.view_is))

pub returns-in-None-clause-answer : goal.returns-in-None-clause-answer
returns-in-None-clause-answer g c =
    ap (anew_if c.args.self.now)
    (sym (named_nowhere c.self.invariant c.args.value c.self.view_is c.deref.ensures.value c.deref-2.ensures.value
    c.in-None.ensures))

pub returns-in-None-clause-after : goal.returns-in-None-clause-after
returns-in-None-clause-after g c =
    left_led_nowhere c.self.invariant c.args.value c.self.view_is c.deref.ensures.value c.deref-2.ensures.value
    c.in-None.ensures
    (with_marked c.self.inside.round.number)
    ∙ ap (λ r. changed_of c.args.self.now c.args.value (with_marked r)) (sym
    (round_seen c.self.invariant c.self.view_is))
