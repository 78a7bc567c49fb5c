use Rattle.ref_objects.proofs.Common.{◌∙◌}
use Rattle.ref_space.proofs.TableReads.{fields-tabled}
use Rattle.ref_objects.proofs.objects.Objects.fields_of.Goals as goal

pub returns : goal.returns
returns g c = rw (← c.self.view_is) (c.fields.ensures ∙ fields-tabled c.self.inside.table.tabled c.args.no)
