use Rattle.ref_script.proofs.Common.{arith, ◌∷◌, [], err_from_is_err_and, words_of}
use Rattle.ref_script.proofs.Fields.{object_fits, all_fields, extra_words}
use Rattle.ref_script.proofs.declarations.plain_of.Goals as goal

pub returns-in_err-ends-clause-fault : goal.returns-in_err-ends-clause-fault
returns-in_err-ends-clause-fault c =
    let p = err_from_is_err_and c.from_residual-in_err-ends.result c.from_residual-in_err-ends.ensures.1 in
    let left = c.in_err-ends.ensures in
    rw (p.1, p.2, left.3, c.in_ok-no.ensures)
    (extra_words (c.in_ok-no.no.word.now ∷ []) (words_of c.in_ok-no.rest.now) _ left.1 left.0 _
    (λ read good. simp (object_fits c.in_ok-no.no.word.now _ c.in_ok-no-2.ensures) good) c.in_ok-rest.ensures.found
    left.2)

pub returns-clause-found : goal.returns-clause-found
returns-clause-found c = grind (arith, all_fields)
