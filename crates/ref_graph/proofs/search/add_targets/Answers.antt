use Rattle.ref_base.proofs.Common.{if_any, refl}
use Rattle.ref_base.proofs.SearchLaws.{added_all-targets}
use Rattle.ref_graph.specs.AllowedReferents.{allowed}
use Rattle.ref_graph.specs.GraphViews.{linked_reference}
use Rattle.ref_graph.proofs.search.add_targets.Goals as goal

pub returns-in_ok-add_if_any : goal.returns-in_ok-add_if_any
returns-in_ok-add_if_any g c =
    added_all-targets c.args.graph.now.objects (allowed c.args.allow) c.args.no
    (record {
      no = c.args.no;
      fields = c.in-Some.object.fields.now;
      reference = linked_reference c.in-Some.object.link;
    })
    c.in-Some.object.fields.now (if_any c.referent.result) c.args.seen.now c.add_fields.new.seen
    c.add_if_any.new.seen c.in-Some.ensures refl c.referent.ensures c.in_ok-add_fields.ensures
    c.in_ok-add_if_any.ensures
