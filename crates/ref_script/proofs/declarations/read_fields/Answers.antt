use Rattle.ref_script.proofs.Common.{arith, err_from_is_err_and, words_of}
use Rattle.ref_script.proofs.Fields.{has_bad_field, has_field_more, reads_fields}
use Rattle.ref_script.proofs.declarations.read_fields.Goals as goal

pub returns-in_err-object_or_none_of-clause-fault : goal.returns-in_err-object_or_none_of-clause-fault
returns-in_err-object_or_none_of-clause-fault c =
    let p = err_from_is_err_and c.from_residual.result c.from_residual.ensures.1 in
    let bad = c.in_err-object_or_none_of.ensures in
    rw (p.1, p.2) (
      has_bad_field (words_of c.args.operands.now) (words_of c.loop-rest.rest.now) _ c.loop-rest.fields.items _
          c.loop-rest.invariant c.in-Some.ensures (omega arith) bad.0,
      bad.1,
    )

pub loop-rest-preserved : goal.loop-rest-preserved
loop-rest-preserved c = grind (arith, has_field_more)

pub returns-clause-found : goal.returns-clause-found
returns-clause-found c = grind (arith, reads_fields)
