-- No path leads out of a closed set of numbers that has the roots.
use Rattle.ref_base.proofs.Common.{arith, ◌≡◌, ℕ, Bool, true, ◌&&◌, List, [], ◌∷◌, false≢true, and_parts, has, Graph}
use Rattle.ref_base.proofs.Common.{Object, Allowed, EndsPath, targets_at}
use Rattle.ref_base.proofs.PathLaws.{path_within}

-- each of ns is in the set
abbrev pub are_in : List ℕ → List ℕ → Bool
are_in set [] = true
are_in set (n ∷ ns) = has set n && are_in set ns

-- each target of each of ms is in the set
abbrev pub targets_are_in : Allowed → List Object → List ℕ → List ℕ → Bool
targets_are_in allow os set [] = true
targets_are_in allow os set (m ∷ ms) = are_in set (targets_at allow os m) && targets_are_in allow os set ms

-- the set has the roots, and the targets of what is in it
abbrev pub is_closed : Allowed → Graph → List ℕ → Bool
is_closed allow g set = are_in set g.roots && targets_are_in allow g.objects set set

pub are_in-has : (set ns : List ℕ) → are_in set ns ≡ true → (n : ℕ) → has ns n ≡ true → has set n ≡ true
are_in-has set [] all n h = absurd (false≢true h)
are_in-has set (m ∷ ms) all n h = grind (arith, are_in-has set ms)

pub targets_are_in-has : (allow : Allowed) (os : List Object) (set ms : List ℕ)
    → targets_are_in allow os set ms ≡ true → (m n : ℕ) → has ms m ≡ true → has (targets_at allow os m) n ≡ true
    → has set n ≡ true
targets_are_in-has allow os set [] all m n h target = absurd (false≢true h)
targets_are_in-has allow os set (k ∷ ks) all m n h target =
    grind (arith, are_in-has, targets_are_in-has allow os set ks)

-- what a path ends at is in each closed set
pub closed_has : (allow : Allowed) (g : Graph) (set : List ℕ) → is_closed allow g set ≡ true → (n : ℕ)
    → EndsPath allow g n → has set n ≡ true
closed_has allow g set closed n ends =
    let parts = and_parts (are_in set g.roots) (targets_are_in allow g.objects set set) closed in
    path_within allow g (λ k. has set k ≡ true) (λ k there root. are_in-has set g.roots parts.0 k root)
    (λ k m before target there. targets_are_in-has allow g.objects set set parts.1 k m before target) n ends.0 ends.1
