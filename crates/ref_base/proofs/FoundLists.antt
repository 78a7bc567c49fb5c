-- How the lists of all workers change as one of them grows, and what each worker found among what it scanned.
use Rattle.ref_base.proofs.Common.{◌≡◌, ℕ, ◌<◌, true, false, ◌||◌, ◌==◌, refl, ap, arith, List, [], ◌∷◌, ◌++◌, length}
use Rattle.ref_base.proofs.Common.{zero, suc, append_assoc, slice_set, is_some, false≢true, eq-eqb, has, Object}
use Rattle.ref_base.proofs.Common.{object_at, reference_in, joined, emptied, AreFound, references_among, is_subsequence}
use Rattle.ref_base.proofs.Common.{list_at}
use Rattle.ref_base.specs.Members.{AreDistinct}
use Rattle.ref_base.proofs.HasLaws.{has-append, has-cases, has-left, has-right}
use Rattle.ref_base.proofs.OneMore.{or-swap}

-- ---- the lists of all workers

-- n goes last in the list of worker w
abbrev pub with_last : List (List ℕ) → ℕ → ℕ → List (List ℕ)
with_last lists w n = slice_set lists w (list_at lists w ++ n ∷ [])

-- where one list gets one number more, so do all as one, somewhere
pub joined-with_last : (lists : List (List ℕ)) (w n : ℕ) → w < length lists
    → (front : List ℕ) × (back : List ℕ) × (joined lists ≡ front ++ back)
    × (joined (with_last lists w n) ≡ front ++ (n ∷ back))
joined-with_last [] w n within = absurd (omega arith)
joined-with_last (ns ∷ rest) zero n within = (ns, joined rest, refl, append_assoc ns (n ∷ []) (joined rest))
joined-with_last (ns ∷ rest) (suc w) n within = grind (arith, joined-with_last rest w n, append_assoc ns)

pub has-between : (front back : List ℕ) (n m : ℕ) → has (front ++ (n ∷ back)) m ≡ ((n == m) || has (front ++ back) m)
has-between front back n m = search (has-append, or-swap)

pub has-with_last : (lists : List (List ℕ)) (w n m : ℕ) → w < length lists
    → has (joined (with_last lists w n)) m ≡ ((n == m) || has (joined lists) m)
has-with_last lists w n m within = grind (arith, has-between, joined-with_last lists w n within)

-- none stands twice where a new one comes between
AreDistinct-between : (front back : List ℕ) (n : ℕ) → AreDistinct (front ++ back) → has (front ++ back) n ≡ false
    → AreDistinct (front ++ (n ∷ back))
AreDistinct-between [] back n distinct new = (new, distinct)
AreDistinct-between (m ∷ ms) back n distinct new = grind (arith, has-between, AreDistinct-between ms back n distinct.1)

pub AreDistinct-with_last : (lists : List (List ℕ)) (w n : ℕ) → w < length lists → AreDistinct (joined lists)
    → has (joined lists) n ≡ false → AreDistinct (joined (with_last lists w n))
AreDistinct-with_last lists w n within distinct new =
    grind (arith, AreDistinct-between, joined-with_last lists w n within)

-- where all lists are emptied
pub joined-emptied : (lists : List (List ℕ)) → joined (emptied lists) ≡ []
joined-emptied [] = refl
joined-emptied (ns ∷ rest) = joined-emptied rest

pub length-emptied : (lists : List (List ℕ)) → length (emptied lists) ≡ length lists
length-emptied [] = refl
length-emptied (ns ∷ rest) = ap (λ n. suc n) (length-emptied rest)

-- ---- what is left of a list where some entries are taken out

subsequence-longer : (ms ns more : List ℕ) → is_subsequence ms ns ≡ true → is_subsequence ms (ns ++ more) ≡ true
subsequence-longer [] ns more sub = refl
subsequence-longer (m ∷ ms) [] more sub = absurd (false≢true sub)
subsequence-longer (m ∷ ms) (n ∷ ns) more sub =
    grind (arith, subsequence-longer ms ns more, subsequence-longer (m ∷ ms) ns more)

subsequence-last : (ns : List ℕ) (n : ℕ) → is_subsequence (n ∷ []) (ns ++ n ∷ []) ≡ true
subsequence-last [] n = let own : (n == n) ≡ true = eq-eqb n n refl in simp own refl
subsequence-last (m ∷ ms) n = grind (arith, subsequence-last ms n)

subsequence-both : (ms ns : List ℕ) (n : ℕ) → is_subsequence ms ns ≡ true
    → is_subsequence (ms ++ n ∷ []) (ns ++ n ∷ []) ≡ true
subsequence-both [] ns n sub = subsequence-last ns n
subsequence-both (m ∷ ms) [] n sub = absurd (false≢true sub)
subsequence-both (m ∷ ms) (i ∷ is) n sub = grind (arith, subsequence-both ms is n, subsequence-both (m ∷ ms) is n)

subsequence-has : (ms ns : List ℕ) (n : ℕ) → is_subsequence ms ns ≡ true → has ms n ≡ true → has ns n ≡ true
subsequence-has [] ns n sub h = absurd (false≢true h)
subsequence-has (m ∷ ms) [] n sub h = absurd (false≢true sub)
subsequence-has (m ∷ ms) (i ∷ is) n sub h = grind (arith, subsequence-has ms is n, subsequence-has (m ∷ ms) is n)

-- ---- what workers found

references_among-append : (os : List Object) (ms ns : List ℕ)
    → references_among os (ms ++ ns) ≡ references_among os ms ++ references_among os ns
references_among-append os [] ns = refl
references_among-append os (m ∷ ms) ns = grind (arith, references_among-append os ms ns)

pub references_among-has : (os : List Object) (ns : List ℕ) (n : ℕ) → has (references_among os ns) n ≡ true
    → has ns n ≡ true
references_among-has os [] n h = h
references_among-has os (m ∷ ms) n h = grind (arith, references_among-has os ms n)

references_among-some : (os : List Object) (ns : List ℕ) (n : ℕ) → has (references_among os ns) n ≡ true
    → is_some (reference_in (object_at os n)) ≡ true
references_among-some os [] n h = absurd (false≢true h)
references_among-some os (m ∷ ms) n h = grind (arith, references_among-some os ms n)

-- what was found is a reference
pub AreFound-some : (os : List Object) (scanned found : List (List ℕ)) → AreFound os scanned found → (n : ℕ)
    → has (joined found) n ≡ true → is_some (reference_in (object_at os n)) ≡ true
AreFound-some os [] [] are n h = absurd (false≢true h)
AreFound-some os [] (fs ∷ found) are n h = absurd are
AreFound-some os (ss ∷ scanned) [] are n h = absurd are
AreFound-some os (ss ∷ scanned) (fs ∷ found) are n h =
    grind (arith, has-cases, subsequence-has, AreFound-some os scanned found are.1 n, references_among-some os ss n)

-- what was found was scanned
pub AreFound-scanned : (os : List Object) (scanned found : List (List ℕ)) → AreFound os scanned found → (n : ℕ)
    → has (joined found) n ≡ true → has (joined scanned) n ≡ true
AreFound-scanned os [] [] are n h = h
AreFound-scanned os [] (fs ∷ found) are n h = absurd are
AreFound-scanned os (ss ∷ scanned) [] are n h = absurd are
AreFound-scanned os (ss ∷ scanned) (fs ∷ found) are n h =
    grind (
      arith,
      has-cases,
      has-left,
      subsequence-has,
      has-right,
      AreFound-scanned os scanned found are.1 n,
      references_among-has os ss n,
    )

-- a scan more takes nothing from what is found
pub AreFound-more_scanned : (os : List Object) (scanned found : List (List ℕ)) (w n : ℕ)
    → AreFound os scanned found → AreFound os (with_last scanned w n) found
AreFound-more_scanned os [] found w n are = are
AreFound-more_scanned os (ss ∷ scanned) [] w n are = absurd are
AreFound-more_scanned os (ss ∷ scanned) (fs ∷ found) zero n are = search (references_among-append, subsequence-longer)
AreFound-more_scanned os (ss ∷ scanned) (fs ∷ found) (suc w) n are =
    (are.0, AreFound-more_scanned os scanned found w n are.1)

-- a worker may find the reference that it scanned
pub AreFound-more_found : (os : List Object) (scanned found : List (List ℕ)) (w n : ℕ)
    → is_some (reference_in (object_at os n)) ≡ true → AreFound os scanned found
    → AreFound os (with_last scanned w n) (with_last found w n)
AreFound-more_found os [] [] w n some are = are
AreFound-more_found os [] (fs ∷ found) w n some are = absurd are
AreFound-more_found os (ss ∷ scanned) [] w n some are = absurd are
AreFound-more_found os (ss ∷ scanned) (fs ∷ found) zero n some are =
    grind (arith, references_among-append, subsequence-both)
AreFound-more_found os (ss ∷ scanned) (fs ∷ found) (suc w) n some are =
    (are.0, AreFound-more_found os scanned found w n some are.1)

-- who scanned nothing found nothing
pub AreFound-emptied : (os : List Object) (scanned found : List (List ℕ)) → length scanned ≡ length found
    → AreFound os (emptied scanned) (emptied found)
AreFound-emptied os [] [] same = tt
AreFound-emptied os [] (fs ∷ found) same = absurd (omega (arith, same))
AreFound-emptied os (ss ∷ scanned) [] same = absurd (omega (arith, same))
AreFound-emptied os (ss ∷ scanned) (fs ∷ found) same = (refl, AreFound-emptied os scanned found (omega (arith, same)))
