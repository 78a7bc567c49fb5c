-- What was found among the references that a worker scanned is found among more of them.
use Rattle.ref_base.proofs.Common.{arith, ◌≡◌, ℕ, true, refl, List, [], ◌∷◌, is_some, false≢true, Object, object_at}
use Rattle.ref_base.proofs.Common.{reference_in, references_among, is_subsequence, AreFound}

-- without its first, what is left of a list is still left of it, and of the list with one more before it
subsequence-rest : (m : ℕ) (ms ns : List ℕ) → is_subsequence (m ∷ ms) ns ≡ true → is_subsequence ms ns ≡ true
subsequence-rest m ms [] sub = absurd (false≢true sub)
subsequence-rest m [] (n ∷ ns) sub = refl
subsequence-rest m (p ∷ ps) (n ∷ ns) sub = grind (arith, subsequence-rest m (p ∷ ps) ns, subsequence-rest p ps ns)

subsequence-more : (n : ℕ) (ms ns : List ℕ) → is_subsequence ms ns ≡ true → is_subsequence ms (n ∷ ns) ≡ true
subsequence-more n [] ns sub = refl
subsequence-more n (m ∷ ms) ns sub = grind (arith, subsequence-rest)

subsequence-both : (n : ℕ) (ms ns ps : List ℕ)
    → ((ls : List ℕ) → is_subsequence ls ns ≡ true → is_subsequence ls ps ≡ true)
    → is_subsequence ms (n ∷ ns) ≡ true → is_subsequence ms (n ∷ ps) ≡ true
subsequence-both n [] ns ps wider sub = refl
subsequence-both n (m ∷ ms) ns ps wider sub = grind (arith, wider (m ∷ ms))

-- where each reference still is one
module _ (os more : List Object) (still : (n : ℕ) → is_some (reference_in (object_at os n)) ≡ true
    → is_some (reference_in (object_at more n)) ≡ true) where
  subsequence-references : (scanned found : List ℕ) → is_subsequence found (references_among os scanned) ≡ true
      → is_subsequence found (references_among more scanned) ≡ true
  subsequence-references [] found sub = sub
  subsequence-references (n ∷ ns) found sub =
      grind (arith, subsequence-both, subsequence-more, subsequence-references ns)

  pub are_found-still : (scanned found : List (List ℕ)) → AreFound os scanned found → AreFound more scanned found
  are_found-still [] [] are = are
  are_found-still [] (fs ∷ found) are = absurd are
  are_found-still (ss ∷ scanned) [] are = absurd are
  are_found-still (ss ∷ scanned) (fs ∷ found) are =
      (subsequence-references ss fs are.0, are_found-still scanned found are.1)
