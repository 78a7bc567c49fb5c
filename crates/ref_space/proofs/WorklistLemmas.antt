-- What is left of a list of entries once some at its front were taken out.
use Rattle.ref_space.proofs.Common.{◌≡◌, ◌≤◌, ℕ, zero, suc, ◌==◌, refl, arith, List, [], ◌∷◌, length, drop, Entry, ◌-◌}
use Rattle.ref_base.specs.Refusals.{is_empty}
use Rattle.ref_space.specs.Worklists.{numbers_in}

-- nothing is left where as many were taken out as there were
pub none_left : (n : ℕ) (es : List Entry) → n ≤ length es → (n == length es) ≡ is_empty (numbers_in (drop n es))
none_left zero [] within = refl
none_left zero (e ∷ es) within = grind arith
none_left (suc n) [] within = absurd (omega (arith, within))
none_left (suc n) (e ∷ es) within = grind (arith, none_left n es)

-- else as many as were not taken out
pub length-left : (n : ℕ) (es : List Entry) → length (numbers_in (drop n es)) ≡ length es - n
length-left zero [] = refl
length-left (suc n) [] = grind arith
length-left zero (e ∷ es) = grind (arith, length-left zero es)
length-left (suc n) (e ∷ es) = grind (arith, length-left n es)
