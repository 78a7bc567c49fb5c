-- The front of a list that was freed so far.
use Rattle.ref_base.proofs.Common.{arith, ◌≡◌, ℕ, ◌+◌, ◌≤◌, ◌<◌, zero, suc, List, [], ◌∷◌, ◌++◌, length, take, drop}
use Rattle.ref_base.proofs.Common.{Some, None, refl, ap}
use Rattle.ref_base.specs.Members.{rest_of}
use Rattle.ref_objects.specs.Grounds.{Ground, after_freeing}
use Rattle.ref_space.specs.Worklists.{first_in}
use Rattle.ref_judge.specs.FreedGrounds.{all_freed}

-- one more
pub freed-more : (g : Ground) (ns : List ℕ) (n : ℕ) → all_freed g (ns ++ n ∷ []) ≡ after_freeing (all_freed g ns) n
freed-more g [] n = refl
freed-more g (m ∷ ns) n = freed-more (after_freeing g m) ns n

-- the first behind a front, and the front with it
pub front-more : (i n : ℕ) (ns : List ℕ) → Some n ≡ first_in (drop i ns)
    → (take (i + 1) ns ≡ take i ns ++ n ∷ []) × (drop (i + 1) ns ≡ rest_of (drop i ns)) × (i < length ns)
front-more zero n [] first = absurd cc
front-more zero n (m ∷ ns) first = (ap (λ k. k ∷ []) (own first), refl, omega arith)
  where
    own : Some n ≡ Some m → m ≡ n
    own is = cc
front-more (suc i) n [] first = absurd cc
front-more (suc i) n (m ∷ ns) first = grind (arith, front-more i n ns first)

-- nothing is behind the whole
pub front-whole : (i : ℕ) (ns : List ℕ) → None ≡ first_in (drop i ns) → i ≤ length ns → i ≡ length ns
front-whole zero [] none within = refl
front-whole zero (m ∷ ns) none within = absurd cc
front-whole (suc i) [] none within = absurd (omega (arith, within))
front-whole (suc i) (m ∷ ns) none within = ap suc (front-whole i ns none (omega (arith, within)))
