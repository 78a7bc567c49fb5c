-- How often each number stands among those of a table's objects, as a count says, and how many that are: as one of them
-- changes, comes or goes.
use Rattle.ref_space.proofs.Common.{◌≡◌, ℕ, zero, suc, ◌+◌, ◌<◌, true, false, ◌==◌, refl, ap, arith, length-append}
use Rattle.ref_space.proofs.Common.{List, [], ◌∷◌, ◌++◌, length, replicate, Some, lt-ltb, false≢true, length-replicate}
use Rattle.ref_space.proofs.Common.{option_map, is_some, numbers_by, counted_in, numbers, IsRising, one_more, one_fewer}
use Rattle.ref_space.proofs.Common.{Tabled, tabled_at, AllUpTo, objects_of, changed_tabled, without_tabled}

-- ---- lists of numbers

-- numbers below stay in front
pub one_more-past : (count m n : ℕ) (ms : List ℕ) → m < n
    → one_more (replicate count m ++ ms) n ≡ replicate count m ++ one_more ms n
one_more-past zero m n ms below = refl
one_more-past (suc count) m n ms below = search (lt-ltb, one_more-past count m n ms below)

one_fewer-past : (count m n : ℕ) (ms : List ℕ) → (m == n) ≡ false
    → one_fewer (replicate count m ++ ms) n ≡ replicate count m ++ one_fewer ms n
one_fewer-past zero m n ms other = refl
one_fewer-past (suc count) m n ms other = simp other (ap (λ ns. m ∷ ns) (one_fewer-past count m n ms other))

pub IsRising-tail : (n : ℕ) (ns : List ℕ) → IsRising (n ∷ ns) → IsRising ns
IsRising-tail n [] rising = tt
IsRising-tail n (m ∷ ms) rising = rising.1

module _ (count : Tabled → ℕ) where
  -- ---- how many there are

  -- a change of one object is told by its count before and after
  pub length-changed : (ks : List Tabled) (n : ℕ) (f : Tabled → Tabled)
      → length (numbers_by count (changed_tabled ks n f)) + counted_in count (tabled_at ks n)
      ≡ length (numbers_by count ks) + counted_in count (option_map f (tabled_at ks n))
  length-changed [] n f = refl
  length-changed (k ∷ ks) n f = grind (arith, length-append, length-replicate, length-changed ks n f)

  -- and so is its end
  pub length-without : (ks : List Tabled) (n : ℕ)
      → length (numbers_by count ks)
      ≡ counted_in count (tabled_at ks n) + length (numbers_by count (without_tabled ks n))
  length-without [] n = refl
  length-without (k ∷ ks) n = grind (arith, length-append, length-replicate, length-without ks n)

  -- one more object adds its count
  pub length-made : (ks : List Tabled) (k : Tabled)
      → length (numbers_by count (ks ++ k ∷ [])) ≡ length (numbers_by count ks) + count k
  length-made [] k = grind (arith, length-append, length-replicate)
  length-made (l ∷ ls) k = grind (arith, length-append, length-replicate, length-made ls k)

  -- ---- changes that leave them

  pub numbers_by-changed : (ks : List Tabled) (n : ℕ) (f : Tabled → Tabled)
      → ((k : Tabled) → (f k).object.no ≡ k.object.no) → ((k : Tabled) → count (f k) ≡ count k)
      → numbers_by count (changed_tabled ks n f) ≡ numbers_by count ks
  numbers_by-changed [] n f keeps leaves = refl
  numbers_by-changed (k ∷ ks) n f keeps leaves = grind (arith, numbers_by-changed ks n f keeps leaves)

  pub numbers_by-made : (ks : List Tabled) (k : Tabled) → count k ≡ 0
      → numbers_by count (ks ++ k ∷ []) ≡ numbers_by count ks
  numbers_by-made [] k none = ap (λ times. replicate times k.object.no ++ []) none
  numbers_by-made (l ∷ ls) k none =
      ap (λ ms. replicate (count l) l.object.no ++ ms) (numbers_by-made ls k none)

  -- and the number of one that counts once stands last, where it is above all others
  pub numbers_by-last : (ks : List Tabled) (k : Tabled) (last : ℕ) → AllUpTo last (numbers (objects_of ks))
      → last < k.object.no → count k ≡ 1 → numbers_by count (ks ++ k ∷ []) ≡ one_more (numbers_by count ks) k.object.no
  numbers_by-last [] k last given above once = ap (λ times. replicate times k.object.no ++ []) once
  numbers_by-last (l ∷ ls) k last given above once =
      grind (arith, one_more-past, numbers_by-last ls k last given.1 above once)

  pub numbers_by-without : (ks : List Tabled) (n : ℕ) → counted_in count (tabled_at ks n) ≡ 0
      → numbers_by count (without_tabled ks n) ≡ numbers_by count ks
  numbers_by-without [] n none = refl
  numbers_by-without (k ∷ ks) n none = grind (arith, numbers_by-without ks n)

  -- ---- one more, and one fewer

  module _ (f : Tabled → Tabled) (keeps : (k : Tabled) → (f k).object.no ≡ k.object.no) where
    pub numbers_by-fewer : (ks : List Tabled) (n : ℕ)
        → is_some (tabled_at ks n) ≡ true → ((k : Tabled) → tabled_at ks n ≡ Some k → count k ≡ suc (count (f k)))
        → numbers_by count (changed_tabled ks n f) ≡ one_fewer (numbers_by count ks) n
    numbers_by-fewer [] n there down = absurd (false≢true there)
    numbers_by-fewer (k ∷ ks) n there down = grind (arith, one_fewer-past, numbers_by-fewer ks n)
