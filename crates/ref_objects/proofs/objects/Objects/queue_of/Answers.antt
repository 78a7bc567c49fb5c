use Rattle.ref_objects.proofs.Common.{arith, sym, ◌∙◌, ap}
use Rattle.ref_base.specs.Heaps.{registered_in}
use Rattle.ref_objects.proofs.objects.Objects.queue_of.Goals as goal

pub returns-in_err-reference_of : goal.returns-in_err-reference_of
returns-in_err-reference_of g c =
    c.from_residual.ensures ∙ ap registered_in (sym (c.in_err-reference_of.was) ∙ c.reference_of.ensures)

pub returns : goal.returns
returns g c = grind arith
