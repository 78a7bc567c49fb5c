use Rattle.ref_space.proofs.Common.{◌≡◌, ◌<◌, ◌∙◌, sym, ap, subst, length, Option, ℕ, Table, tabled_at, take}
use Rattle.ref_space.proofs.Common.{tabled_fields, slice_index_or, fields_in, append-nil, if_any, None, target_of}
use Rattle.ref_space.proofs.Common.{Object}
use Rattle.ref_space.specs.Tables.{MayList}
use Rattle.ref_space.specs.Worklists.{Worklist, entry_number, with_more}
use Rattle.ref_space.proofs.ScanLemmas.{lies_still, object-marked_each, may_list-each, may_push, listed_on}
use Rattle.ref_space.proofs.table.Table.grey_fields.Goals.{in-Some, in_default}
use Rattle.ref_space.proofs.table.Table.grey_fields.Goals as goal

pub word_in-value-requires : goal.word_in-value-requires
word_in-value-requires g c =
    let start : Table = c.args.self.now in
    lies_still start (take c.loop-field.field (tabled_fields (tabled_at start.tabled c.args.no)))
    c.args.no c.args.place c.loop-field.invariant.0 c.requires.lies

pub push-requires : goal.push-requires
push-requires g c =
    let start : Table = c.args.self.now in
    let held = take c.loop-field.field (tabled_fields (tabled_at start.tabled c.args.no)) in
    let may : MayList c.loop-field.self c.loop-field.grey =
    rw (c.loop-field.invariant.0, c.loop-field.invariant.1)
    (may_list-each start c.args.grey.now c.requires.room held) in
    may_push may (target_of c.loop-field.self c.word_in-value.result)
    (sym (ap entry_number c.in-Some.is) ∙ c.mark_by.ensures.answer)

pub loop-field-preserved : goal.loop-field-preserved
loop-field-preserved g c =
    let start : Table = c.args.self.now in
    let held = tabled_fields (tabled_at start.tabled c.args.no) in
    let grey : Worklist = c.loop-field.grey in
    let within : c.loop-field.field < length held =
    subst (λ count. c.loop-field.field < count) c.field_count-field-end.ensures c.loop-field-test.true in
    let value : target_of c.loop-field.self c.word_in-value.result ≡ slice_index_or held c.loop-field.field None =
    c.word_in-value.ensures
    ∙ ap (λ (t : Table). slice_index_or (tabled_fields (tabled_at t.tabled c.args.no)) c.loop-field.field None)
    c.loop-field.invariant.0
    ∙ ap (λ (o : Option Object). slice_index_or (fields_in o) c.loop-field.field None)
    (object-marked_each start (take c.loop-field.field held) c.args.no) in
    listed_on start c.args.grey.now held c.loop-field.field within c.loop-field.invariant.0 c.loop-field.invariant.1
    value c.mark_by.ensures.answer c.mark_by.ensures.after
    (elim c.match-mark_by.branch [
      | in-Some w ↦
          w.grey-is ∙ w.push.ensures
          ∙ ap (λ (m : Option ℕ). with_more grey (if_any m)) (sym (ap entry_number w.in-Some.is))
      | in_default w ↦
          w.grey-is
          ∙ ap (λ ns. let same : Worklist = record grey { stands = ns } in same) (sym (append-nil grey.stands))
          ∙ ap (λ (m : Option ℕ). with_more grey (if_any m)) (sym (ap entry_number w.in_default.is))
    ])
