-- What is handed on at once stands first in the pending list.
use Rattle.ref_clear.proofs.Common.{◌≡◌, ℕ, zero, suc, true, refl, ap, List, [], ◌∷◌, take, length}
use Rattle.ref_clear.proofs.Common.{arith, inl, inr, cases_Bool, eq-eqb, Pending}
use Rattle.ref_base.specs.Refusals.{goes_with, front_with, batch_of}

-- the first so many of a front are a front
front-take : (max : ℕ) (xs ys : List Pending) → xs ≡ take (length xs) ys
    → take max xs ≡ take (length (take max xs)) ys
front-take zero xs ys is = refl
front-take (suc max) [] ys is = refl
front-take (suc max) (x ∷ xs) [] is = absurd (cc)
front-take (suc max) (x ∷ xs) (y ∷ ys) is = grind (arith, front-take max xs ys)

-- those that go with one are a front
front_with-front : (p : Pending) (ps : List Pending) → front_with p ps ≡ take (length (front_with p ps)) ps
front_with-front p [] = refl
front_with-front p (r ∷ rs) =
    elim (cases_Bool (goes_with p r)) [
      | inl goes ↦ simp goes (ap (λ qs. r ∷ qs) (front_with-front p rs))
      | inr stays ↦ simp stays refl
    ]

pub batch_of-front : (max : ℕ) (ps : List Pending) → batch_of max ps ≡ take (length (batch_of max ps)) ps
batch_of-front max [] = refl
batch_of-front max (p ∷ ps) =
    front-take max (p ∷ front_with p ps) (p ∷ ps) (ap (λ qs. p ∷ qs) (front_with-front p ps))

-- each goes with itself
goes_with-itself : (p : Pending) → goes_with p p ≡ true
goes_with-itself p = simp (eq-eqb p.queue p.queue refl, eq-eqb p.cycle p.cycle refl) refl

-- what goes with the first, from it on, is what is handed on at once
pub batch_of-first : (max : ℕ) (p : Pending) (ps : List Pending)
    → take max (front_with p (p ∷ ps)) ≡ batch_of max (p ∷ ps)
batch_of-first max p ps = simp (goes_with-itself p) refl
