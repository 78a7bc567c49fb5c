-- What is in a rising list with one number more.
use Rattle.ref_base.proofs.Common.{arith, ◌≡◌, ℕ, Bool, true, false, ◌||◌, ◌==◌, refl, List, [], ◌∷◌, has, one_more}

-- whether one of three holds, in another order
pub or-swap : (x y z : Bool) → (x || (y || z)) ≡ (y || (x || z))
or-swap true true z = refl
or-swap true false z = refl
or-swap false true z = refl
or-swap false false z = refl

-- it has that number, and what it had
pub has-one_more : (ns : List ℕ) (n m : ℕ) → has (one_more ns n) m ≡ ((n == m) || has ns m)
has-one_more [] n m = refl
has-one_more (k ∷ ks) n m = grind (arith, has-one_more ks n m)
