use Rattle.ref_base.proofs.Common.{arith, nat_eq, length}
use Rattle.std.specs.List.{zip}
use Rattle.ref_graph.proofs.StoredFields.{lookup-zip, lookup-zip-none, object_at-stored, within-lookup}
use Rattle.ref_graph.proofs.graph.Graph.object.Goals as goal

pub returns-in_err-place : goal.returns-in_err-place
returns-in_err-place g c =
    grind (
      arith,
      lookup-zip-none c.self.inside.numbers c.self.inside.stored.items c.args.no,
      object_at-stored c.self.inside.fields.items (zip c.self.inside.numbers c.self.inside.stored.items) c.args.no,
    )

pub fields_among-requires : goal.fields_among-requires
fields_among-requires g c =
    grind (
      arith,
      lookup-zip c.self.inside.numbers c.self.inside.stored.items c.args.no,
      within-lookup (length c.self.inside.fields.items) (nat_eq c.args.no)
          (zip c.self.inside.numbers c.self.inside.stored.items),
    )

pub returns : goal.returns
returns g c =
    grind (
      arith,
      lookup-zip c.self.inside.numbers c.self.inside.stored.items c.args.no,
      object_at-stored c.self.inside.fields.items (zip c.self.inside.numbers c.self.inside.stored.items) c.args.no,
    )
