use Rattle.ref_base.proofs.Common.{◌≡◌, drop, present, added_all}
use Rattle.ref_graph.proofs.search.add_fields.Given as goal

-- adding what is left of the fields ends as adding all of them does
abbrev pub invariant-loop-field : goal.invariant-loop-field
invariant-loop-field g l =
    added_all l.graph.objects l.seen (present (drop l.field-index l.fields))
    ≡ added_all l.graph.objects l.initial.seen (present l.fields)
