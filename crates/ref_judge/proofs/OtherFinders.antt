-- Workers but one that may have a reference left.
use Rattle.ref_base.proofs.Common.{arith, ◌≡◌, ℕ, ◌+◌, ◌<◌, ◌==◌, ◌&&◌, ◌||◌, not, Bool, true, false, zero, suc, List}
use Rattle.ref_base.proofs.Common.{[], ◌∷◌, length, drop, refl, sym, ap, ◌∙◌}
use Rattle.ref_base.proofs.Common.{slice_index_or, at_drop_more, eq-eqb, or_cases, false≢true, inl, inr}
use Rattle.ref_judge.specs.Finding.{has_more_left, others_from}
use Rattle.ref_judge.specs.Judged.{Finder, no_finder}

others_step : (k i : ℕ) (ws : List Finder) (d : Finder) → i < length ws
    → (not (i == k) && has_more_left (slice_index_or ws i d)) ≡ false
    → others_from k (i + 1) (drop (i + 1) ws) ≡ others_from k i (drop i ws)
others_step k i ws d within none =
    ap (λ (b : Bool). b || others_from k (i + 1) (drop (i + 1) ws)) (sym none)
    ∙ sym (at_drop_more (others_from k i) ws i d within)

-- one that has none left is passed
pub others_none : (k i : ℕ) (ws : List Finder) (w : Finder) → i < length ws → w ≡ slice_index_or ws i w
    → has_more_left w ≡ false → others_from k (i + 1) (drop (i + 1) ws) ≡ others_from k i (drop i ws)
others_none k i ws w within is none =
    others_step k i ws w within
    (ap (λ (x : Finder). not (i == k) && has_more_left x) (sym is) ∙ ap (λ (b : Bool). not (i == k) && b) none
    ∙ never (not (i == k)))
  where
    never : (b : Bool) → (b && false) ≡ false
    never true = refl
    never false = refl

-- and the one itself
pub others_own : (k i : ℕ) (ws : List Finder) → i < length ws → i ≡ k
    → others_from k (i + 1) (drop (i + 1) ws) ≡ others_from k i (drop i ws)
others_own k i ws within own =
    others_step k i ws no_finder within
    (ap (λ (b : Bool). not b && has_more_left (slice_index_or ws i no_finder)) (eq-eqb i k own))

-- ---- what the test tells

-- one may have one left, but worker k
pub some_other : (k at : ℕ) (ws : List Finder) → others_from k at ws ≡ true
    → (i : ℕ) × ((at + i) ≡ k → ⊥) × (has_more_left (slice_index_or ws i no_finder) ≡ true)
some_other k at [] is = absurd (false≢true is)
some_other k at (w ∷ ws) is =
    elim (or_cases (not (at == k) && has_more_left w) (others_from k (at + 1) ws) is) [
      | inl first ↦ (0, apart first, grind (arith, first))
      | inr later ↦
          let other = some_other k (at + 1) ws later in
          (other.0 + 1, λ same. other.1 (omega (arith, same)), at_next w ws other.0 ∙ other.2)
    ]
  where
    apart : (not (at == k) && has_more_left w) ≡ true → (at + 0) ≡ k → ⊥
    apart first same =
        let own : (at == k) ≡ true = eq-eqb at k (omega (arith, same)) in
        false≢true (ap (λ (b : Bool). not b && has_more_left w) (sym own) ∙ first)

    at_next : (w : Finder) (ws : List Finder) (i : ℕ)
        → has_more_left (slice_index_or (w ∷ ws) (i + 1) no_finder) ≡ has_more_left (slice_index_or ws i no_finder)
    at_next w ws i = grind arith

-- and where none may, each but it has none left
pub no_other : (k at : ℕ) (ws : List Finder) → others_from k at ws ≡ false → (i : ℕ) → ((at + i) ≡ k → ⊥)
    → has_more_left (slice_index_or ws i no_finder) ≡ false
no_other k at [] none i apart = refl
no_other k at (w ∷ ws) none zero apart = grind arith
no_other k at (w ∷ ws) none (suc i) apart =
    no_other k (at + 1) ws (grind (arith, none)) i (λ same. apart (omega (arith, same)))
