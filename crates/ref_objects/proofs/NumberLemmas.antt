-- The numbers of a table's objects, each as often as a count says, as lists in order: so are the holds, the marked, and
-- the others.
use Rattle.ref_objects.proofs.Common.{◌≡◌, ℕ, zero, suc, ◌<◌, ◌≤◌, Bool, true, false, ◌==◌, nat_lt, refl, sym, arith}
use Rattle.ref_objects.proofs.Common.{List, [], ◌∷◌, ◌++◌, replicate, Some, eq-eqb, lt-ltb, le-ltb, false≢true, is_some}
use Rattle.ref_objects.proofs.Common.{numbers_by, counted_in, first_where, has, numbers, IsRising, one_more, least_from}
use Rattle.ref_objects.proofs.Common.{Tabled, tabled_at, objects_of, changed_tabled}
use Rattle.std.proofs.Common.{nat_le}
use Rattle.ref_objects.specs.Grounds.{AllFrom, IsInOrder}
use Rattle.ref_base.proofs.HasLaws.{has-append}
use Rattle.ref_space.proofs.CountLemmas.{one_more-past}

-- ---- lists of numbers

pub has-from : (ns : List ℕ) (n : ℕ) → AllFrom (suc n) ns → has ns n ≡ false
has-from [] n all = refl
has-from (m ∷ ms) n all = grind (arith, has-from ms n all.1)

one_more-from : (ns : List ℕ) (n : ℕ) → AllFrom n ns → one_more ns n ≡ n ∷ ns
one_more-from [] n all = refl
one_more-from (m ∷ ms) n all = let above : nat_lt m n ≡ false = le-ltb m n all.0 in simp above refl

AllFrom-replicate : (count n m : ℕ) (ms : List ℕ) → n ≤ m → AllFrom n ms → AllFrom n (replicate count m ++ ms)
AllFrom-replicate zero n m ms order all = all
AllFrom-replicate (suc count) n m ms order all = (order, AllFrom-replicate count n m ms order all)

IsInOrder-replicate : (count n : ℕ) (ms : List ℕ) → AllFrom n ms → IsInOrder ms → IsInOrder (replicate count n ++ ms)
IsInOrder-replicate zero n ms all ordered = ordered
IsInOrder-replicate (suc count) n ms all ordered =
    (AllFrom-replicate count n n ms (omega arith) all, IsInOrder-replicate count n ms all ordered)

pub least_from-below : (count m n : ℕ) (ms : List ℕ) → nat_le n m ≡ false
    → least_from (replicate count m ++ ms) n ≡ least_from ms n
least_from-below zero m n ms below = refl
least_from-below (suc count) m n ms below = simp below (least_from-below count m n ms below)

has-replicate : (count n : ℕ) → has (replicate count n) n ≡ nat_lt 0 count
has-replicate zero n = refl
has-replicate (suc count) n =
    let own : (n == n) ≡ true = eq-eqb n n refl in simp own (sym (lt-ltb 0 (suc count) (omega arith)))

has-replicate_other : (count m n : ℕ) → (m == n) ≡ false → has (replicate count m) n ≡ false
has-replicate_other zero m n other = refl
has-replicate_other (suc count) m n other = simp other (has-replicate_other count m n other)

-- what is found among rising numbers is above those before
below_found : (ks : List Tabled) (m n : ℕ) → IsRising (m ∷ numbers (objects_of ks)) → is_some (tabled_at ks n) ≡ true
    → m < n
below_found [] m n rising there = absurd (false≢true there)
below_found (k ∷ ks) m n rising there = grind (arith, below_found ks k.object.no n rising.1)

module _ (count : Tabled → ℕ) where
  -- ---- what is read

  -- numbers that rise are all above the first
  pub AllFrom-numbers_by : (ks : List Tabled) (n m : ℕ) → n ≤ suc m → IsRising (m ∷ numbers (objects_of ks))
      → AllFrom n (numbers_by count ks)
  AllFrom-numbers_by [] n m order rising = tt
  AllFrom-numbers_by (k ∷ ks) n m order rising = grind (arith, AllFrom-replicate, AllFrom-numbers_by ks n k.object.no)

  pub numbers_in_order : (ks : List Tabled) → IsRising (numbers (objects_of ks)) → IsInOrder (numbers_by count ks)
  numbers_in_order [] rising = tt
  numbers_in_order (k ∷ ks) rising =
      grind (arith, IsInOrder-replicate, numbers_in_order ks, AllFrom-numbers_by ks k.object.no k.object.no)

  -- a number is among them exactly where its object counts
  pub has-numbers_by : (ks : List Tabled) (n : ℕ) → IsRising (numbers (objects_of ks))
      → has (numbers_by count ks) n ≡ nat_lt 0 (counted_in count (tabled_at ks n))
  has-numbers_by [] n rising = refl
  has-numbers_by (k ∷ ks) n rising =
      grind (arith, has-append, has-from, AllFrom-numbers_by, has-replicate, has-replicate_other, has-numbers_by ks n)

  -- the least of them is that of the first object that counts
  least_at : (keeps : Tabled → Bool) (k : Tabled) (ks : List Tabled) (n times : ℕ) → count k ≡ times
      → keeps k ≡ nat_lt 0 times → first_where keeps ks n ≡ least_from (numbers_by count ks) n
      → first_where keeps (k ∷ ks) n ≡ least_from (replicate times k.object.no ++ numbers_by count ks) n
  least_at keeps k ks n zero is kept rest = grind arith
  least_at keeps k ks n (suc times) is kept rest = grind (arith, least_from-below)

  pub least_where : (keeps : Tabled → Bool) → ((k : Tabled) → keeps k ≡ nat_lt 0 (count k)) → (ks : List Tabled) (n : ℕ)
      → first_where keeps ks n ≡ least_from (numbers_by count ks) n
  least_where keeps kept [] n = refl
  least_where keeps kept (k ∷ ks) n = least_at keeps k ks n (count k) refl (kept k) (least_where keeps kept ks n)

  -- ---- one more, and one fewer

  module _ (f : Tabled → Tabled) (keeps : (k : Tabled) → (f k).object.no ≡ k.object.no) where
    pub numbers_by-more : (ks : List Tabled) (n : ℕ) → IsRising (numbers (objects_of ks))
        → is_some (tabled_at ks n) ≡ true → ((k : Tabled) → tabled_at ks n ≡ Some k → count (f k) ≡ suc (count k))
        → numbers_by count (changed_tabled ks n f) ≡ one_more (numbers_by count ks) n
    numbers_by-more [] n rising there up = absurd (false≢true there)
    numbers_by-more (k ∷ ks) n rising there up =
        grind (
          arith,
          AllFrom-replicate,
          one_more-from,
          one_more-past,
          below_found,
          numbers_by-more ks n,
          AllFrom-numbers_by ks k.object.no k.object.no,
        )
