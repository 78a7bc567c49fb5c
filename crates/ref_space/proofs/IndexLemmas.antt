-- What the index says of a number, and how it changes.
use Rattle.ref_space.proofs.Common.{◌≡◌, ℕ, ◌<◌, ◌≤◌, Bool, true, false, ◌==◌, if◌then◌else◌, nat_lt, refl, ap, List}
use Rattle.ref_space.proofs.Common.{[], ◌∷◌, ◌++◌, length, get_or, Some, None, zero, suc, arith, filter, place_in}
use Rattle.ref_space.proofs.Common.{count_below, AllAbove, NoneAbove, Rises, Entry}
use Rattle.std.specs.List.Sorted.{IsPartitionedBy, IsPartitionPoint}

-- ---- numbers that rise

above-at : (n : ℕ) (es : List Entry) → AllAbove n es → (j : ℕ) (d : Entry) → j < length es → n < (get_or es j d).no
above-at n [] above j d h = absurd (omega arith)
above-at n (e ∷ es) above zero d h = above.0
above-at n (e ∷ es) above (suc j) d h = above-at n es above.1 j d (omega arith)

-- what comes later is no less
rises-at : (es : List Entry) → Rises es → (i j : ℕ) (d : Entry) → i ≤ j → j < length es
    → (get_or es i d).no ≤ (get_or es j d).no
rises-at [] rises i j d order h = absurd (omega arith)
rises-at (e ∷ es) rises zero zero d order h = omega arith
rises-at (e ∷ es) rises zero (suc j) d order h =
    let over : e.no < (get_or es j d).no = above-at e.no es rises.0 j d (omega arith) in omega arith
rises-at (e ∷ es) rises (suc i) zero d order h = absurd (omega arith)
rises-at (e ∷ es) rises (suc i) (suc j) d order h = rises-at es rises.1 i j d (omega arith) (omega arith)

-- the entries below a number come first, as a binary search asks
pub partitioned : (es : List Entry) (n : ℕ) → Rises es → IsPartitionedBy (λ e. nat_lt e.no n) es
partitioned es n rises i j d order h below = grind (arith, rises-at)

-- where a binary search ends is how many are below
pub count_below-point : (es : List Entry) (n i : ℕ) → i ≤ length es
    → IsPartitionPoint (λ e. nat_lt e.no n ≡ true) (λ e. nat_lt e.no n ≡ false) es i → i ≡ count_below es n
count_below-point [] n i h point = omega arith
count_below-point (e ∷ es) n zero h point = rw (point.1 0 e (omega arith) (omega arith)) refl
count_below-point (e ∷ es) n (suc i) h point =
    rw (point.0 0 e (omega arith) (omega arith))
    (ap suc (count_below-point es n i (omega arith) (
      λ k d low high. point.0 (suc k) d (omega arith) (omega arith),
      λ k d low high. point.1 (suc k) d (omega arith) (omega arith),
    )))

-- and so is where an entry of the number itself stands
pub count_below-at : (es : List Entry) (n i : ℕ) (e : Entry) → Rises es → i < length es → e ≡ get_or es i e → e.no ≡ n
    → i ≡ count_below es n
count_below-at [] n i e rises h at is = absurd (omega arith)
count_below-at (x ∷ xs) n zero e rises h at is = grind arith
count_below-at (x ∷ xs) n (suc i) e rises h at is = grind (arith, above-at, count_below-at xs n i e rises.1)

-- ---- a number's place

-- a number that is no more than those of the entries has none
pub place_in-none : (es : List Entry) (n m : ℕ) → n ≤ m → AllAbove m es → place_in es n ≡ None
place_in-none [] n m order above = refl
place_in-none (e ∷ es) n m order above = grind (arith, place_in-none es n m order above.1)

-- nor has one that is above them
pub place_in-new : (es : List Entry) (n last : ℕ) → NoneAbove last es → last < n → place_in es n ≡ None
place_in-new [] n last given new = refl
place_in-new (e ∷ es) n last given new = grind (arith, place_in-new es n last given.1 new)

-- the place of a number is that of the first entry that is not below it, if that is the number's
pub place_in-at : (es : List Entry) (n : ℕ) (e : Entry) → Rises es → count_below es n < length es
    → e ≡ get_or es (count_below es n) e → place_in es n ≡ (if e.no == n then Some e.place else None)
place_in-at [] n e rises h at = absurd (omega arith)
place_in-at (x ∷ xs) n e rises h at = grind (arith, place_in-none, place_in-at xs n e rises.1)

pub place_in-past : (es : List Entry) (n : ℕ) → length es ≤ count_below es n → place_in es n ≡ None
place_in-past [] n h = refl
place_in-past (x ∷ xs) n h = grind (arith, place_in-past xs n)

-- ---- one more entry

AllAbove-push : (n : ℕ) (es : List Entry) (e : Entry) → AllAbove n es → n < e.no → AllAbove n (es ++ e ∷ [])
AllAbove-push n [] e above h = (h, tt)
AllAbove-push n (x ∷ xs) e above h = (above.0, AllAbove-push n xs e above.1 h)

pub Rises-push : (es : List Entry) (e : Entry) (last : ℕ) → Rises es → NoneAbove last es → last < e.no
    → Rises (es ++ e ∷ [])
Rises-push [] e last rises given new = (tt, tt)
Rises-push (x ∷ xs) e last rises given new = grind (arith, AllAbove-push, Rises-push xs e last rises.1 given.1 new)

pub NoneAbove-push : (es : List Entry) (e : Entry) (last : ℕ) → NoneAbove last es → last < e.no
    → NoneAbove e.no (es ++ e ∷ [])
NoneAbove-push [] e last given new = (omega arith, tt)
NoneAbove-push (x ∷ xs) e last given new =
    let under : x.no ≤ last = given.0 in (omega arith, NoneAbove-push xs e last given.1 new)

-- ---- fewer entries

module _ (test : Entry → Bool) where
  AllAbove-filter : (n : ℕ) (es : List Entry) → AllAbove n es → AllAbove n (filter test es)
  AllAbove-filter n [] above = tt
  AllAbove-filter n (e ∷ es) above = grind (arith, AllAbove-filter n es above.1)

  pub Rises-filter : (es : List Entry) → Rises es → Rises (filter test es)
  Rises-filter [] rises = tt
  Rises-filter (e ∷ es) rises = grind (arith, AllAbove-filter, Rises-filter es rises.1)

  pub NoneAbove-filter : (last : ℕ) (es : List Entry) → NoneAbove last es → NoneAbove last (filter test es)
  NoneAbove-filter last [] given = tt
  NoneAbove-filter last (e ∷ es) given = grind (arith, NoneAbove-filter last es given.1)
