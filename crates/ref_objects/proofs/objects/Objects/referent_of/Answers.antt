use Rattle.ref_objects.proofs.Common.{arith, sym, ◌∙◌, ap, referent_of}
use Rattle.ref_objects.proofs.objects.Objects.referent_of.Goals as goal

pub returns-in_err-reference_of : goal.returns-in_err-reference_of
returns-in_err-reference_of g c =
    c.from_residual.ensures ∙ ap referent_of (sym (c.in_err-reference_of.was) ∙ c.reference_of.ensures)

pub returns : goal.returns
returns g c = grind arith
