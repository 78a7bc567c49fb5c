-- How many objects of a table are marked, and how a change of the table changes it.
use Rattle.ref_space.proofs.Common.{◌≡◌, ℕ, ◌+◌, ◌≤◌, Bool, true, false, refl, sym, ◌∙◌, ap, List, [], ◌∷◌, ◌++◌}
use Rattle.ref_space.proofs.Common.{length, Option, Some, None, inl, inr, arith, cases_Bool, option_map, from_bool}
use Rattle.ref_space.proofs.Common.{counted_in, Tabled, tabled_at, changed_tabled, without_tabled, is_unmarked_in}
use Rattle.ref_space.proofs.Common.{marked_of, unmarked_of, with_marked, ◌==◌, eq-eqb}
use Rattle.ref_space.specs.Tables.{is_marked}
use Rattle.std.proofs.lemmas.Bool.{true≢false}
use Rattle.ref_space.proofs.CountLemmas.{numbers_by-changed, numbers_by-without, length-changed, length-without}
use Rattle.ref_space.proofs.CountLemmas.{length-made}

pub from_bool-le : (b : Bool) → from_bool b ≤ 1
from_bool-le true = omega arith
from_bool-le false = omega arith

module _ (r : ℕ) where
  -- an object that is marked counts once among the marked
  abbrev mark_count : Tabled → ℕ
  mark_count k = from_bool (is_marked r k)

  -- ---- the others

  pub length-unmarked_of : (ks : List Tabled) → length (unmarked_of r ks) + length (marked_of r ks) ≡ length ks
  length-unmarked_of [] = refl
  length-unmarked_of (k ∷ ks) = grind (arith, length-unmarked_of ks)

  -- ---- the count of the marked

  pub marks_same : {ks ls : List Tabled} {count : ℕ} → ls ≡ ks → count ≡ length (marked_of r ks)
      → count ≡ length (marked_of r ls)
  marks_same same counted = counted ∙ sym (ap (λ ms. length (marked_of r ms)) same)

  -- a change leaves it that leaves the mark
  pub marks_changed : (ks : List Tabled) (n : ℕ) (f : Tabled → Tabled) → ((k : Tabled) → (f k).object.no ≡ k.object.no)
      → ((k : Tabled) → (f k).marked_in ≡ k.marked_in) → {count : ℕ} → count ≡ length (marked_of r ks)
      → count ≡ length (marked_of r (changed_tabled ks n f))
  marks_changed ks n f keeps leaves counted =
      counted ∙ ap length (sym (numbers_by-changed mark_count ks n f keeps (λ k. ap (λ m. from_bool (m == r))
      (leaves k))))

  pub marks_made : (ks : List Tabled) (k : Tabled) → {ls : List Tabled} {count more : ℕ} → ls ≡ ks ++ k ∷ []
      → more ≡ from_bool (is_marked r k) → count ≡ length (marked_of r ks) → count + more ≡ length (marked_of r ls)
  marks_made ks k {ls} {count} {more} is one counted = grind (arith, length-made)

  once_marked : (k : Option Tabled)
      → counted_in mark_count (option_map (with_marked r) k)
      ≡ counted_in mark_count k + from_bool (is_unmarked_in r k)
  once_marked None = refl
  once_marked (Some k) =
      ap from_bool (eq-eqb r r refl)
      ∙ elim (cases_Bool (is_marked r k)) [ inl marked ↦ simp marked refl | inr plain ↦ simp plain refl ]

  pub marks_more : (ks : List Tabled) (n : ℕ) {count more : ℕ} → more ≡ from_bool (is_unmarked_in r (tabled_at ks n))
      → count ≡ length (marked_of r ks) → count + more ≡ length (marked_of r (changed_tabled ks n (with_marked r)))
  marks_more ks n {count} {more} one counted =
      omega (arith, length-changed mark_count ks n (with_marked r), once_marked (tabled_at ks n), one, counted)

  unmarked_count : (k : Option Tabled) → true ≡ is_unmarked_in r k → counted_in mark_count k ≡ 0
  unmarked_count None new = absurd (true≢false new)
  unmarked_count (Some k) new = grind arith

  -- one that isn't marked goes
  pub marks_without : (ks : List Tabled) (n : ℕ) → true ≡ is_unmarked_in r (tabled_at ks n) → {count : ℕ}
      → count ≡ length (marked_of r ks) → count ≡ length (marked_of r (without_tabled ks n))
  marks_without ks n new counted =
      omega (arith, length-without mark_count ks n, unmarked_count (tabled_at ks n) new, counted)

  -- ---- an object is marked, or goes

  -- where one is marked that was, or isn't there, nothing changes among the marked
  pub marked_of-marked_again : (ks : List Tabled) (n : ℕ) → is_unmarked_in r (tabled_at ks n) ≡ false
      → marked_of r (changed_tabled ks n (with_marked r)) ≡ marked_of r ks
  marked_of-marked_again [] n was = refl
  marked_of-marked_again (k ∷ ks) n was = grind (arith, marked_of-marked_again ks n)

  -- nor where one goes that wasn't
  pub marked_of-without : (ks : List Tabled) (n : ℕ) → is_unmarked_in r (tabled_at ks n) ≡ true
      → marked_of r (without_tabled ks n) ≡ marked_of r ks
  marked_of-without ks n new = numbers_by-without mark_count ks n (unmarked_count (tabled_at ks n) (sym new))
