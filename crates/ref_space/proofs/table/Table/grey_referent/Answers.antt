use Rattle.ref_space.proofs.Common.{◌∙◌, sym, ap, option_map, target_of, Table, reference_by_number}
use Rattle.ref_space.proofs.Common.{Reference}
use Rattle.ref_base.specs.DoomedSets.{any_is, refers_into}
use Rattle.ref_space.specs.Tables.{is_unmarked_at}
use Rattle.ref_space.specs.Worklists.{entry_number}
use Rattle.ref_space.proofs.ScanLemmas.{may_push, none_unmarked}
use Rattle.ref_space.proofs.table.Table.grey_referent.Goals as goal

pub push-requires : goal.push-requires
push-requires g c =
    may_push c.requires.room (target_of c.args.self.now c.kept.inside.referent)
    (sym (ap entry_number c.in-Some-mark_by.is) ∙ c.mark_by.ensures.answer)

pub returns-in-Some-mark_by-clause-finds : goal.returns-in-Some-mark_by-clause-finds
returns-in-Some-mark_by-clause-finds g c =
    let start : Table = c.args.self.now in
    let value = target_of start c.kept.inside.referent in
    sym
    (ap (refers_into (is_unmarked_at start.round.number c.mark_by.new.self.tabled))
    (sym c.kept_in.ensures ∙ ap (option_map (reference_by_number (target_of start))) c.in-Some.is)
    ∙ ap (λ (r : Reference). any_is (is_unmarked_at start.round.number c.mark_by.new.self.tabled)
    (target_of start r.referent)) (sym c.kept.view_is)
    ∙ ap (λ (t : Table). any_is (is_unmarked_at start.round.number t.tabled) value) c.mark_by.ensures.after
    ∙ none_unmarked start value)

pub returns-in_default-mark_by-clause-finds : goal.returns-in_default-mark_by-clause-finds
returns-in_default-mark_by-clause-finds g c =
    let start : Table = c.args.self.now in
    let value = target_of start c.kept.inside.referent in
    sym
    (ap (refers_into (is_unmarked_at start.round.number c.mark_by.new.self.tabled))
    (sym c.kept_in.ensures ∙ ap (option_map (reference_by_number (target_of start))) c.in-Some.is)
    ∙ ap (λ (r : Reference). any_is (is_unmarked_at start.round.number c.mark_by.new.self.tabled)
    (target_of start r.referent)) (sym c.kept.view_is)
    ∙ ap (λ (t : Table). any_is (is_unmarked_at start.round.number t.tabled) value) c.mark_by.ensures.after
    ∙ none_unmarked start value)
