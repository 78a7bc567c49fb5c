-- The front of a pending list that goes with its first, entry by entry.
use Rattle.ref_base.proofs.Common.{arith, ◌≡◌, ℕ, ◌+◌, ◌<◌, ◌≤◌, zero, suc, true, false, List, [], ◌∷◌, ◌++◌}
use Rattle.ref_base.proofs.Common.{length, map, take, get_or, Pending, refl, sym, ap, ◌∙◌, map-append}
use Rattle.ref_base.specs.Refusals.{front_with, goes_with}

module _ (p r : Pending) where
  -- an entry that goes with it belongs to the front, where all in front of it do
  front_goes : (rs : List Pending) (i : ℕ) → i ≤ length (front_with p rs) → i < length rs → r ≡ get_or rs i r
      → goes_with p r ≡ true
      → (i + 1 ≤ length (front_with p rs)) × (take (i + 1) (front_with p rs) ≡ take i (front_with p rs) ++ r ∷ [])
  front_goes [] i all within is goes = absurd (omega (arith, within))
  front_goes (x ∷ rs) zero all within is goes = grind (arith, is, goes)
  front_goes (x ∷ rs) (suc i) all within is goes = grind (arith, front_goes rs i, all, within, is, goes)

  -- and one that doesn't ends it
  front_stops : (rs : List Pending) (i max : ℕ) → i ≤ length (front_with p rs) → i < length rs → r ≡ get_or rs i r
      → goes_with p r ≡ false → i ≤ max → take i (front_with p rs) ≡ take max (front_with p rs)
  front_stops [] i max all within is stops below = absurd (omega (arith, within))
  front_stops (x ∷ rs) zero zero all within is stops below = refl
  front_stops (x ∷ rs) zero (suc max) all within is stops below = grind (arith, is, stops)
  front_stops (x ∷ rs) (suc i) zero all within is stops below = absurd (omega (arith, below))
  front_stops (x ∷ rs) (suc i) (suc max) all within is stops below =
      grind (arith, front_stops rs i max, all, within, is, stops, below)

take_none : (n : ℕ) → take {A = Pending} n [] ≡ []
take_none zero = refl
take_none (suc n) = refl

-- as does the list's end
front_ends : (p : Pending) (rs : List Pending) (i max : ℕ) → i ≤ length (front_with p rs) → length rs ≤ i → i ≤ max
    → take i (front_with p rs) ≡ take max (front_with p rs)
front_ends p [] i max all ends below = take_none i ∙ sym (take_none max)
front_ends p (x ∷ rs) zero max all ends below = absurd (omega (arith, ends))
front_ends p (x ∷ rs) (suc i) zero all ends below = absurd (omega (arith, below))
front_ends p (x ∷ rs) (suc i) (suc max) all ends below = grind (arith, front_ends p rs i max, all, ends, below)

-- ---- by number

module _ (p r : Pending) (rs : List Pending) (i : ℕ) (all : i ≤ length (front_with p rs)) where
  pub objects_more : (objects more : List ℕ) → i < length rs → r ≡ get_or rs i r → goes_with p r ≡ true
      → objects ≡ map (λ (x : Pending). x.object) (take i (front_with p rs)) → more ≡ objects ++ r.object ∷ []
      → (i + 1 ≤ length (front_with p rs))
      × (more ≡ map (λ (x : Pending). x.object) (take (i + 1) (front_with p rs)))
  objects_more objects more within is goes are grown =
      let front = front_goes p r rs i all within is goes in (
        front.0,
        grown ∙ ap (λ ns. ns ++ r.object ∷ []) are
            ∙ sym (map-append (λ (x : Pending). x.object) (take i (front_with p rs)) (r ∷ []))
            ∙ ap (map (λ (x : Pending). x.object)) (sym front.1),
      )

  pub objects_stop : (objects : List ℕ) (max : ℕ) → i < length rs → r ≡ get_or rs i r → goes_with p r ≡ false
      → i < max → objects ≡ map (λ (x : Pending). x.object) (take i (front_with p rs))
      → objects ≡ map (λ (x : Pending). x.object) (take max (front_with p rs))
  objects_stop objects max within is stops below are =
      are ∙ ap (map (λ (x : Pending). x.object)) (front_stops p r rs i max all within is stops (omega (arith, below)))

pub objects_end : (p : Pending) (rs : List Pending) (i max : ℕ) (objects : List ℕ) → i ≤ length (front_with p rs)
    → length rs ≤ i → i < max → objects ≡ map (λ (x : Pending). x.object) (take i (front_with p rs))
    → objects ≡ map (λ (x : Pending). x.object) (take max (front_with p rs))
objects_end p rs i max objects all ends below are =
    are ∙ ap (map (λ (x : Pending). x.object)) (front_ends p rs i max all ends (omega (arith, below)))
