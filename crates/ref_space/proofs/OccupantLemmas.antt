-- Where objects lie: nothing where one lay that goes.
use Rattle.ref_space.proofs.Common.{◌≡◌, ℕ, zero, suc, true, false, refl, sym, ◌∙◌, ap, arith}
use Rattle.ref_space.proofs.Common.{List, [], ◌∷◌, set, Option, Some, None, slice_index_or}
use Rattle.ref_space.proofs.Common.{Tabled, occupant_in, occupants_of, cell_at}
use Rattle.ref_space.proofs.Common.{AreIndexed, Entry, place_in, eq-eqb}
use Rattle.std.proofs.Math.ListN.{get_or-map}
use Rattle.ref_space.specs.Tables.{without_occupant, is_number, place_of_number}

-- ---- the cell of an object that goes

not_of : (o : Option ℕ) (n : ℕ) → (o ≡ Some n → ⊥) → is_number o n ≡ false
not_of None n differs = refl
not_of (Some m) n differs = grind (arith, differs)

vacant_everywhere : (os : List (Option ℕ)) (n : ℕ) → ((q : ℕ) → slice_index_or os q None ≡ Some n → ⊥)
    → without_occupant os n ≡ os
vacant_everywhere [] n nowhere = refl
vacant_everywhere (o ∷ os) n nowhere =
    let other = not_of o n (nowhere 0) in
    simp other (ap (λ xs. o ∷ xs) (vacant_everywhere os n (λ q at. nowhere (suc q) at)))

vacated_at : (os : List (Option ℕ)) (n p : ℕ) → slice_index_or os p None ≡ Some n
    → ((q : ℕ) → slice_index_or os q None ≡ Some n → q ≡ p) → without_occupant os n ≡ set os p None
vacated_at [] n p own once = absurd (cc)
vacated_at (o ∷ os) n zero own once =
    let is : is_number o n ≡ true = ap (λ x. is_number x n) own ∙ eq-eqb n n refl in
    simp is
    (ap (λ xs. None ∷ xs) (vacant_everywhere os n (λ q at. absurd (omega (arith, once (suc q) at)))))
vacated_at (o ∷ os) n (suc p) own once =
    let other : is_number o n ≡ false = not_of o n (λ here. absurd (omega (arith, once 0 here))) in
    simp other
    (ap (λ xs. o ∷ xs) (vacated_at os n p own (λ q at. let same = once (suc q) at in omega (arith, same))))

-- the place of a number is that of the only cell that has it
numbered_at : (os : List (Option ℕ)) (n p : ℕ) → slice_index_or os p None ≡ Some n
    → ((q : ℕ) → slice_index_or os q None ≡ Some n → q ≡ p) → place_of_number os n ≡ p
numbered_at [] n p own once = absurd (cc)
numbered_at (o ∷ os) n zero own once =
    let is : is_number o n ≡ true = ap (λ x. is_number x n) own ∙ eq-eqb n n refl in simp is refl
numbered_at (o ∷ os) n (suc p) own once =
    let other : is_number o n ≡ false = not_of o n (λ here. absurd (omega (arith, once 0 here))) in
    simp other (ap suc (numbered_at os n p own (λ q at. let same = once (suc q) at in omega (arith, same))))

abbrev occupant_or : Option ℕ → ℕ
occupant_or None = 0
occupant_or (Some n) = n

-- where each object has its entry, no other cell has its number
module _ (cells : List (Option Tabled)) (es : List Entry) (n p : ℕ) (listed : AreIndexed cells es)
    (at : place_in es n ≡ Some p) (own : occupant_in (cell_at cells p) ≡ Some n) where
  pub only_here : (q : ℕ) (c : Option Tabled) → cell_at cells q ≡ c → occupant_in (cell_at cells q) ≡ Some n → q ≡ p
  only_here q None is here = absurd (cc)
  only_here q (Some k) is here =
      let number : Some k.object.no ≡ Some n = sym (ap occupant_in is) ∙ here in
      let same : Some q ≡ Some p = sym (listed q k is) ∙ ap (place_in es) (ap occupant_or number) ∙ at in
      ap occupant_or same

  pub vacated : without_occupant (occupants_of cells) n ≡ set (occupants_of cells) p None
  vacated =
      vacated_at (occupants_of cells) n p (get_or-map occupant_in cells p None ∙ own)
      (λ q here. only_here q (cell_at cells q) refl (sym (get_or-map occupant_in cells q None) ∙ here))

  pub numbered : place_of_number (occupants_of cells) n ≡ p
  numbered =
      numbered_at (occupants_of cells) n p (get_or-map occupant_in cells p None ∙ own)
      (λ q here. only_here q (cell_at cells q) refl (sym (get_or-map occupant_in cells q None) ∙ here))
