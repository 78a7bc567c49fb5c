-- Lists of which each entry passes a test, as loops go over them.
use Rattle.std.proofs.Common.{arith, ◌≡◌, ℕ, zero, suc, ◌+◌, ◌<◌, ◌≤◌, Bool, true, false, List, [], ◌∷◌, length, take}
use Rattle.std.proofs.Common.{drop, ap, ◌∙◌, get_or}
use Rattle.std.proofs.Math.Seq.{take-add}
use Rattle.std.proofs.Common.{refl}
use Rattle.std.proofs.lemmas.List.{get_or-take, get_or-drop, length-take-le, length-drop}
use Rattle.std.proofs.lemmas.List.Folds.{list_all-append, list_all_at, list_all_more}
use Rattle.std.specs.List.{list_all}

module _ {X : Type 0} (p : X → Bool) where
  -- what fails in the front of a list, fails in it
  front_fails : (k : ℕ) (xs : List X) → list_all p (take k xs) ≡ false → list_all p xs ≡ false
  front_fails zero xs fails = absurd cc
  front_fails (suc k) [] fails = fails
  front_fails (suc k) (x ∷ xs) fails = grind (arith, front_fails k xs)

  back_fails : (k : ℕ) (xs : List X) → list_all p (drop k xs) ≡ false → list_all p xs ≡ false
  back_fails zero xs fails = fails
  back_fails (suc k) [] fails = fails
  back_fails (suc k) (x ∷ xs) fails = grind (arith, back_fails k xs)

  -- and what fails in a part of it
  pub part_fails : (i k : ℕ) (xs : List X) → list_all p (take k (drop i xs)) ≡ false → list_all p xs ≡ false
  part_fails i k xs fails = back_fails i xs (front_fails k (drop i xs) fails)

  -- a part that passes, behind a front that does
  pub part_passes : (i k : ℕ) (xs : List X) → list_all p (take i xs) ≡ true → list_all p (take k (drop i xs)) ≡ true
      → list_all p (take (i + k) xs) ≡ true
  part_passes i k xs front part =
      ap (list_all p) (take-add i k xs) ∙ list_all-append p (take i xs) (take k (drop i xs)) ∙ grind arith

-- the entry at this place of a part
pub at_part : {X : Type 0} (i k n : ℕ) (xs : List X) (d : X) → n < k
    → get_or (take k (drop i xs)) n d ≡ get_or xs (i + n) d
at_part i k n xs d less = get_or-take k (drop i xs) n d less ∙ get_or-drop i xs n d

-- and how many it has
pub part_length : {X : Type 0} (i k : ℕ) (xs : List X) → i + k ≤ length xs → length (take k (drop i xs)) ≡ k
part_length i k xs within = length-take-le k (drop i xs) (omega (arith, length-drop i xs, within))

module _ {X : Type 0} (p : X → Bool) where
  -- a part fails where one of its entries does
  pub part_fails_at : (i k n : ℕ) (xs : List X) (d : X) → n < k → i + k ≤ length xs → p (get_or xs (i + n) d) ≡ false
      → list_all p (take k (drop i xs)) ≡ false
  part_fails_at i k n xs d less within fails =
      list_all_at p (take k (drop i xs)) n d (omega (arith, part_length i k xs within, less))
      (ap p (at_part i k n xs d less) ∙ fails)

  -- and one more of it passes
  pub part_more : (i n : ℕ) (xs : List X) (d : X) → i + n < length xs → list_all p (take n (drop i xs)) ≡ true
      → p (get_or xs (i + n) d) ≡ true → list_all p (take (n + 1) (drop i xs)) ≡ true
  part_more i n xs d within front own =
      let one = list_all_more p (drop i xs) n d (omega (arith, length-drop i xs, within)) in
      let own_at : p (get_or (drop i xs) n d) ≡ true = ap p (get_or-drop i xs n d) ∙ own in
      one ∙ simp (front, own_at) refl
