use Rattle.ref_script.proofs.Common.{◌-◌, words_of}
use Rattle.arrayvec.specs.ArrayVec.{array_vec_len}
use Rattle.ref_script.proofs.Fields.{HasFields}
use Rattle.ref_script.proofs.declarations.read_fields.Given as goal

abbrev pub invariant-loop-rest : goal.invariant-loop-rest
invariant-loop-rest l = HasFields (words_of l.operands) l.fields.items (words_of l.rest)

abbrev pub decreases-loop-rest : goal.decreases-loop-rest
decreases-loop-rest l = 8 - array_vec_len l.fields
