-- Lists of distinct numbers: put together, of one number less, and how long they can be.
use Rattle.ref_mark.proofs.Common.{◌≡◌, ℕ, ◌≤◌, ◌+◌, true, false, ◌==◌, ◌||◌, refl, sym, ap, ◌∙◌, arith, List, [], ◌∷◌}
use Rattle.ref_mark.proofs.Common.{◌++◌, length, zero, suc, append_assoc, slice_set, or_parts, or_left, eq-eqb, ne_eqb}
use Rattle.ref_mark.proofs.Common.{true≢false, has, AreDistinct, joined, list_at, one_fewer}
use Rattle.ref_base.proofs.HasLaws.{has-append}
use Rattle.ref_base.proofs.FoundLists.{has-between}

-- ---- lists put together

-- what isn't in a list put together is in neither
pub lacks-parts : (ms ns : List ℕ) (n : ℕ) → has (ms ++ ns) n ≡ false → (has ms n ≡ false) × (has ns n ≡ false)
lacks-parts ms ns n lacks = or_parts (has ms n) (has ns n) (sym (has-append ms ns n) ∙ lacks)

pub distinct-left : (ms ns : List ℕ) → AreDistinct (ms ++ ns) → AreDistinct ms
distinct-left [] ns distinct = tt
distinct-left (m ∷ ms) ns distinct = ((lacks-parts ms ns m distinct.0).0, distinct-left ms ns distinct.1)

pub distinct-right : (ms ns : List ℕ) → AreDistinct (ms ++ ns) → AreDistinct ns
distinct-right [] ns distinct = distinct
distinct-right (m ∷ ms) ns distinct = distinct-right ms ns distinct.1

-- what is in the front isn't in the back
pub distinct-apart : (ms ns : List ℕ) (n : ℕ) → AreDistinct (ms ++ ns) → has ms n ≡ true → has ns n ≡ false
distinct-apart [] ns n distinct within = absurd (true≢false (sym within))
distinct-apart (m ∷ ms) ns n distinct within = grind (arith, lacks-parts, distinct-apart ms ns n distinct.1)

-- a number in a list is another than one that isn't
pub has-other : (ms : List ℕ) (m n : ℕ) → has ms m ≡ true → has ms n ≡ false → (m == n) ≡ false
has-other ms m n within lacks = ne_eqb m n (λ same. true≢false (sym within ∙ ap (has ms) same ∙ lacks))

-- two lists that have nothing in common
pub distinct-append : (ms ns : List ℕ) → AreDistinct ms → AreDistinct ns
    → ((n : ℕ) → has ms n ≡ true → has ns n ≡ false) → AreDistinct (ms ++ ns)
distinct-append [] ns first second apart = second
distinct-append (m ∷ ms) ns first second apart =
    grind (arith, has-append, apart m, distinct-append ms ns first.1 second)

-- ---- how long they can be

length-one_fewer : (ms : List ℕ) (n : ℕ) → has ms n ≡ true → length (one_fewer ms n) + 1 ≡ length ms
length-one_fewer [] n within = absurd (true≢false (sym within))
length-one_fewer (m ∷ ms) n within = grind (arith, length-one_fewer ms n)

has-one_fewer : (ms : List ℕ) (n m : ℕ) → (n == m) ≡ false → has (one_fewer ms n) m ≡ has ms m
has-one_fewer [] n m other = refl
has-one_fewer (k ∷ ms) n m other = grind (arith, has-one_fewer ms n m other)

-- distinct numbers of a list are no more than the list has
pub distinct_fit : (ns ms : List ℕ) → AreDistinct ns → ((n : ℕ) → has ns n ≡ true → has ms n ≡ true)
    → length ns ≤ length ms
distinct_fit [] ms distinct within = omega arith
distinct_fit (n ∷ ns) ms distinct within = grind (arith, has-one_fewer, distinct_fit ns, length-one_fewer ms n)

-- ---- the first of a list is taken

-- where one list loses its first, so do all as one, somewhere
joined-taken : (lists : List (List ℕ)) (w n : ℕ) (rest : List ℕ) → list_at lists w ≡ n ∷ rest
    → (front : List ℕ) × (back : List ℕ) × (joined lists ≡ front ++ (n ∷ back))
    × (joined (slice_set lists w rest) ≡ front ++ back)
joined-taken [] w n rest is = absurd (cc)
joined-taken (ns ∷ lists) zero n rest is = ([], rest ++ joined lists, ap (λ ms. ms ++ joined lists) is, refl)
joined-taken (ns ∷ lists) (suc w) n rest is = grind (arith, joined-taken lists w n rest is, append_assoc ns)

-- one of them goes
AreDistinct-less : (front back : List ℕ) (n : ℕ) → AreDistinct (front ++ (n ∷ back))
    → (has (front ++ back) n ≡ false) × AreDistinct (front ++ back)
AreDistinct-less [] back n distinct = distinct
AreDistinct-less (m ∷ ms) back n distinct = grind (arith, has-between, AreDistinct-less ms back n distinct.1)

-- all lists had that one, and what they have still
pub has-taken : (lists : List (List ℕ)) (w n : ℕ) (rest : List ℕ) → list_at lists w ≡ n ∷ rest → (m : ℕ)
    → has (joined lists) m ≡ ((n == m) || has (joined (slice_set lists w rest)) m)
has-taken lists w n rest is m = grind (arith, joined-taken, has-between)

pub has-first_taken : (lists : List (List ℕ)) (w n : ℕ) (rest : List ℕ) → list_at lists w ≡ n ∷ rest
    → has (joined lists) n ≡ true
has-first_taken lists w n rest is =
    has-taken lists w n rest is n ∙ or_left (n == n) (has (joined (slice_set lists w rest)) n) (eq-eqb n n refl)

-- and where none stood twice, they don't have that one any more
pub AreDistinct-taken : (lists : List (List ℕ)) (w n : ℕ) (rest : List ℕ) → list_at lists w ≡ n ∷ rest
    → AreDistinct (joined lists)
    → (has (joined (slice_set lists w rest)) n ≡ false) × AreDistinct (joined (slice_set lists w rest))
AreDistinct-taken lists w n rest is distinct = grind (arith, joined-taken, AreDistinct-less)
