use Rattle.ref_objects.proofs.Common.{sym, ◌∙◌}
use Rattle.ref_space.proofs.TabledLemmas.{is_there-objects_of}
use Rattle.ref_objects.proofs.objects.Objects.has_object.Goals as goal

pub returns : goal.returns
returns g c = rw (← c.self.view_is) (c.has.ensures ∙ sym (is_there-objects_of c.self.inside.table.tabled c.args.no))
