-- What is left of a list where some entries are taken out.
use Rattle.ref_base.proofs.Common.{arith, ◌≡◌, ℕ, true, List, [], ◌∷◌, ◌++◌, ◌⊎◌, inl, inr, refl, sym, ap, subst}
use Rattle.ref_base.proofs.Common.{append-nil, is_subsequence}

-- the one is what is left of the other where some entries are taken out
abbrev pub Sub : List ℕ → List ℕ → Type 0
Sub ms [] = ms ≡ []
Sub ms (n ∷ ns) = Sub ms ns ⊎ ((rest : List ℕ) × (ms ≡ n ∷ rest) × Sub rest ns)

pub sub_none : (ns : List ℕ) → Sub [] ns
sub_none [] = refl
sub_none (n ∷ ns) = inl (sub_none ns)

pub sub_all : (ns : List ℕ) → Sub ns ns
sub_all [] = refl
sub_all (n ∷ ns) = inr (ns, refl, sub_all ns)

pub sub_through : (ms ns ks : List ℕ) → Sub ms ns → Sub ns ks → Sub ms ks
sub_through ms ns [] first later = subst (λ (l : List ℕ). Sub ms l) later first
sub_through ms ns (k ∷ ks) first later =
    elim later [
      | inl passed ↦ inl (sub_through ms ns ks first passed)
      | inr taken ↦ elim (subst (λ (l : List ℕ). Sub ms l) taken.1 first) [
        | inl skipped ↦ inl (sub_through ms taken.0 ks skipped taken.2)
        | inr both ↦ inr (both.0, both.1, sub_through both.0 taken.0 ks both.2 taken.2)
      ]
    ]

-- the same in front of both, or behind
pub sub_behind : (front ms ns : List ℕ) → Sub ms ns → Sub (front ++ ms) (front ++ ns)
sub_behind [] ms ns sub = sub
sub_behind (f ∷ front) ms ns sub = inr (front ++ ms, refl, sub_behind front ms ns sub)

pub sub_before : (ms ns back : List ℕ) → Sub ms ns → Sub (ms ++ back) (ns ++ back)
sub_before ms [] back sub = subst (λ (l : List ℕ). Sub (l ++ back) back) (sym sub) (sub_all back)
sub_before ms (n ∷ ns) back sub =
    elim sub [
      | inl passed ↦ inl (sub_before ms ns back passed)
      | inr taken ↦
          inr (taken.0 ++ back, ap (λ l. l ++ back) taken.1, sub_before taken.0 ns back taken.2)
    ]

-- and so of both
pub sub_both : (ms ns front back : List ℕ) → Sub ms ns → Sub front back → Sub (ms ++ front) (ns ++ back)
sub_both ms ns front back first later =
    sub_through (ms ++ front) (ns ++ front) (ns ++ back) (sub_before ms ns front first) (sub_behind ns front back later)

-- a longer list has all
pub sub_longer : (ns more : List ℕ) → Sub ns (ns ++ more)
sub_longer ns more =
    subst (λ (l : List ℕ). Sub l (ns ++ more)) (append-nil ns) (sub_behind ns [] more (sub_none more))

-- and so has one with more in front
pub sub_after : (front ns : List ℕ) → Sub ns (front ++ ns)
sub_after [] ns = sub_all ns
sub_after (f ∷ front) ns = inl (sub_after front ns)

pub sub_tail : (m : ℕ) (ms ns : List ℕ) → Sub (m ∷ ms) ns → Sub ms ns
sub_tail m ms ns sub = sub_through ms (m ∷ ms) ns (inl (sub_all ms)) sub

-- and the test says so
pub sub_is : (ms ns : List ℕ) → Sub ms ns → is_subsequence ms ns ≡ true
sub_is [] ns sub = refl
sub_is (m ∷ ms) [] sub = absurd cc
sub_is (m ∷ ms) (n ∷ ns) sub = grind (arith, sub_tail, sub_is ms ns, sub_is (m ∷ ms) ns)
