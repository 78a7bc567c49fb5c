use Rattle.ref_script.proofs.Common.{arith, ◌∷◌, [], err_from_is_err_and, words_of}
use Rattle.ref_script.proofs.Fields.{object_fits, object_or_none_fits, all_fields, bad_reference, extra_words}
use Rattle.ref_script.proofs.declarations.reference_of.Goals as goal

pub returns-in_err-ends-clause-fault : goal.returns-in_err-ends-clause-fault
returns-in_err-ends-clause-fault c =
    let p = err_from_is_err_and c.from_residual-in_err-ends.result c.from_residual-in_err-ends.ensures.1 in
    let left = c.in_err-ends.ensures in
    let no = c.in_ok-no.no.word.now in
    let other = c.in_ok-referent.referent.word.now in
    rw (p.1, p.2, left.3, c.in_ok-no.ensures, c.in_ok-referent.ensures)
    (extra_words (no ∷ other ∷ []) (words_of c.in_ok-referent.rest.now) _ left.1 left.0 _
    (λ read good. simp (object_fits no _ c.in_ok-no-2.ensures, object_or_none_fits other _ c.in_ok-referent-2.ensures)
    good) c.in_ok-rest.ensures.found left.2)

pub returns-in_err-rest-clause-fault : goal.returns-in_err-rest-clause-fault
returns-in_err-rest-clause-fault c =
    let p = err_from_is_err_and c.from_residual-in_err-rest.result c.from_residual-in_err-rest.ensures.1 in
    let bad = c.in_err-rest.ensures.fault in
    rw (p.1, p.2, bad.1, c.in_ok-no.ensures, c.in_ok-referent.ensures)
    (bad_reference c.in_ok-no.no.word.now c.in_ok-referent.referent.word.now (words_of c.in_ok-referent.rest.now) bad.0)

pub returns-clause-found : goal.returns-clause-found
returns-clause-found c = grind (arith, all_fields)
