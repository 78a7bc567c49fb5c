-- A trace has one verdict.
use Rattle.ref_base.proofs.Common.{◌≡◌, ℕ, ◌⊎◌, List, [], ◌∷◌, ◌++◌, inl, inr, refl, sym, ap, ◌∙◌, subst, length}
use Rattle.ref_base.proofs.Common.{Option, Some, None, append_assoc}
use Rattle.ref_base.proofs.RunLaws.{cut_at}
use Rattle.ref_base.specs.Collectors.{first_state}
use Rattle.ref_base.specs.declared.config.Config.{Config}
use Rattle.ref_base.specs.declared.row.Row.{Row}
use Rattle.ref_judge.specs.ProfiledRows.{IsRowAs, IsLegalAs}
use Rattle.ref_judge.specs.Verdicts.{Judges}
use Rattle.ref_judge.specs.declared.profile.Profile.{Profile}

pub front_is_legal : (p : Profile) (config : Config) (front back : List Row) → IsLegalAs p config (front ++ back)
    → IsLegalAs p config front
front_is_legal p config front back legal =
    let cut = cut_at (IsRowAs p) (first_state config) front back legal.0 legal.1 in (cut.0, cut.1)

-- a legal trace that goes on with a row behind a front is legal up to that row
legal_with_the_next : (p : Profile) (config : Config) (rows front : List Row) (row : Row) (back : List Row)
    → rows ≡ front ++ row ∷ back → IsLegalAs p config rows → IsLegalAs p config (front ++ row ∷ [])
legal_with_the_next p config rows front row back is legal =
    front_is_legal p config (front ++ row ∷ []) back
    (subst (IsLegalAs p config) (is ∙ sym (append_assoc front (row ∷ []) back)) legal)

-- the one list and the row behind it are the front of the other
abbrev IsInFront : List Row → Row → List Row → Type 0
IsInFront xs x ys = (more : List Row) × (ys ≡ xs ++ x ∷ more)

-- and stays so with a row in front of both
in_front_behind_one : (z w : Row) (xs ys : List Row) (x : Row) → z ≡ w → IsInFront xs x ys
    → IsInFront (z ∷ xs) x (w ∷ ys)
in_front_behind_one z w xs ys x is (more, splits) = (more, cc)

-- two fronts of one list have one length, or one of them is in front of the other
one_front_is_in_front : (xs : List Row) (x : Row) (back ys : List Row) (y : Row) (rest : List Row)
    → xs ++ x ∷ back ≡ ys ++ y ∷ rest → (length xs ≡ length ys) ⊎ (IsInFront xs x ys ⊎ IsInFront ys y xs)
one_front_is_in_front [] x back [] y rest is = inl refl
one_front_is_in_front [] x back (z ∷ ys) y rest is = inr (inl (ys, cc))
one_front_is_in_front (z ∷ xs) x back [] y rest is = inr (inr (xs, cc))
one_front_is_in_front (z ∷ xs) x back (w ∷ ys) y rest is =
    let first : z ≡ w = cc in
    let others : xs ++ x ∷ back ≡ ys ++ y ∷ rest = cc in
    elim (one_front_is_in_front xs x back ys y rest others) [
      | inl equal ↦ inl cc
      | inr (inl before) ↦ inr (inl (in_front_behind_one z w xs ys x first before))
      | inr (inr behind) ↦ inr (inr (in_front_behind_one w z ys xs y (sym first) behind))
    ]

pub one_verdict : (p : Profile) (config : Config) (rows : List Row) (u v : Option ℕ) → Judges p config rows u
    → Judges p config rows v → u ≡ v
one_verdict p config rows None None legal also = refl
one_verdict p config rows None (Some k) legal (front, row, back, is, counts, before, ends) =
    absurd (ends (legal_with_the_next p config rows front row back is legal))
one_verdict p config rows (Some k) None (front, row, back, is, counts, before, ends) legal =
    absurd (ends (legal_with_the_next p config rows front row back is legal))
one_verdict p config rows (Some k) (Some l) (front, row, back, is, counts, before, ends)
    (others, other, rest, splits, amounts, earlier, stops) =
    elim (one_front_is_in_front front row back others other rest (sym is ∙ splits)) [
      | inl equal ↦ ap (λ n. Some n) (sym counts ∙ equal ∙ amounts)
      | inr (inl (more, goes)) ↦ absurd (ends (legal_with_the_next p config others front row more goes earlier))
      | inr (inr (more, goes)) ↦ absurd (stops (legal_with_the_next p config front others other more goes before))
    ]
