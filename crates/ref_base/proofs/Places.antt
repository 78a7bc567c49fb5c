-- What holds at each place of a list, after one place is set or the list has grown.
use Rattle.ref_base.proofs.Common.{◌≡◌, ℕ, zero, suc, ◌<◌, List, [], ◌∷◌, ◌++◌, length, refl, arith, slice_index_or}
use Rattle.ref_base.proofs.Common.{slice_set, replicate, AllByRecursion, get_or-set_same, get_or-set_other, rest_of}

-- where there is the same at each place, and at none, it is everywhere
pub same_at : {X : Type 0} (x : X) (count k : ℕ) → slice_index_or (replicate count x) k x ≡ x
same_at x zero k = refl
same_at x (suc count) zero = refl
same_at x (suc count) (suc k) = same_at x count k

-- what holds of the place that is set, and of each other one before, holds of each place after
pub set_at : {X : Type 0} (P : ℕ → X → Type 0) (xs : List X) (m : ℕ) (x : X) (d : ℕ → X) → m < length xs → P m x
    → ((k : ℕ) → (k ≡ m → ⊥) → P k (slice_index_or xs k (d k)))
    → (k : ℕ) → P k (slice_index_or (slice_set xs m x) k (d k))
set_at P xs m x d within here others k = grind (arith, get_or-set_same, get_or-set_other)

-- the same of what holds at every place alike, also where the place that is set is none
pub set_all : {X : Type 0} (P : X → Type 0) (xs : List X) (m : ℕ) (x d : X) → P x
    → ((k : ℕ) → P (slice_index_or xs k d)) → (k : ℕ) → P (slice_index_or (slice_set xs m x) k d)
set_all P [] m x d here others k = others k
set_all P (_ ∷ xs) zero x d here others zero = here
set_all P (_ ∷ xs) zero x d here others (suc k) = others (suc k)
set_all P (_ ∷ xs) (suc m) x d here others zero = others zero
set_all P (_ ∷ xs) (suc m) x d here others (suc k) = set_all P xs m x d here (λ j. others (suc j)) k

pub all_push : {X : Type 0} (P : X → Type 0) (xs : List X) (x : X) → AllByRecursion P xs → P x
    → AllByRecursion P (xs ++ x ∷ [])
all_push P [] x all here = (here, tt)
all_push P (y ∷ ys) x all here = (all.0, all_push P ys x all.1 here)

-- what holds of each holds of the rest
pub all_rest : {X : Type 0} (P : X → Type 0) (xs : List X) → AllByRecursion P xs → AllByRecursion P (rest_of xs)
all_rest P [] all = tt
all_rest P (x ∷ xs) all = all.1

-- the same of what holds at each place in its own way
pub set_each : {X : Type 0} (P : ℕ → X → Type 0) (xs : List X) (m : ℕ) (x : X) (d : ℕ → X) → P m x
    → ((k : ℕ) → P k (slice_index_or xs k (d k))) → (k : ℕ) → P k (slice_index_or (slice_set xs m x) k (d k))
set_each P [] m x d here others k = others k
set_each P (_ ∷ xs) zero x d here others zero = here
set_each P (_ ∷ xs) zero x d here others (suc k) = others (suc k)
set_each P (_ ∷ xs) (suc m) x d here others zero = others zero
set_each P (_ ∷ xs) (suc m) x d here others (suc k) =
    set_each (λ j. P (suc j)) xs m x (λ j. d (suc j)) here (λ j. others (suc j)) k

-- what holds at a place that is there, and of the default where it isn't
pub each_or : {X : Type 0} (P R : ℕ → X → Type 0) (xs : List X) (d : ℕ → X)
    → ((k : ℕ) → k < length xs → (x : X) → P k x → R k x) → ((k : ℕ) → P k (d k) → R k (d k)) → (k : ℕ)
    → P k (slice_index_or xs k (d k)) → R k (slice_index_or xs k (d k))
each_or P R [] d inside outside k is = outside k is
each_or P R (x ∷ xs) d inside outside zero is = inside zero (omega arith) x is
each_or P R (x ∷ xs) d inside outside (suc k) is =
    each_or (λ j. P (suc j)) (λ j. R (suc j)) xs (λ j. d (suc j)) (λ j within. inside (suc j) (omega (arith, within)))
    (λ j. outside (suc j)) k is

-- a place that has another than the default is there
pub place_there : {X : Type 0} (xs : List X) (k : ℕ) (d : X) → (slice_index_or xs k d ≡ d → ⊥) → k < length xs
place_there [] k d other = absurd (other refl)
place_there (x ∷ xs) zero d other = omega arith
place_there (x ∷ xs) (suc k) d other = let later = place_there xs k d other in omega (arith, later)
