-- Which objects of a table are marked, as the list of their numbers, and how a change of the table changes it.
use Rattle.ref_objects.proofs.Common.{◌≡◌, ℕ, true, ◌&&◌, not, refl, sym, ◌∙◌, List, [], ◌∷◌, Option, Some, None, arith}
use Rattle.ref_objects.proofs.Common.{is_some, Object, is_there, numbers, has, IsRising, one_more, Tabled, tabled_at}
use Rattle.ref_objects.proofs.Common.{objects_of, changed_tabled, is_marked_in, is_unmarked_in, marked_of, unmarked_of}
use Rattle.ref_objects.proofs.Common.{with_marked, unmarked}
use Rattle.ref_objects.proofs.NumberLemmas.{has-numbers_by, numbers_by-more}
use Rattle.ref_space.proofs.TabledLemmas.{is_there-objects_of}

-- ---- which are marked

-- a number is among the marked exactly where its object is
pub has-marked_of : (r : ℕ) (ks : List Tabled) (n : ℕ) → IsRising (numbers (objects_of ks))
    → has (marked_of r ks) n ≡ is_marked_in r (tabled_at ks n)
has-marked_of r ks n rising = grind (arith, has-numbers_by)

some_marked : (r : ℕ) (k : Option Tabled) → is_marked_in r k ≡ true → is_some k ≡ true
some_marked r None is = is
some_marked r (Some k) is = refl

pub marked_there : (r : ℕ) (ks : List Tabled) → IsRising (numbers (objects_of ks)) → (n : ℕ)
    → has (marked_of r ks) n ≡ true
    → is_there (objects_of ks) n ≡ true
marked_there r ks rising n is =
    is_there-objects_of ks n ∙ some_marked r (tabled_at ks n) (sym (has-marked_of r ks n rising) ∙ is)

there_unmarked : (r : ℕ) (k : Option Tabled) → (is_some k && not (is_marked_in r k)) ≡ is_unmarked_in r k
there_unmarked r None = refl
there_unmarked r (Some k) = refl

-- and is unmarked where there is an object that isn't among them
pub is_unmarked-tabled : (r : ℕ) (ks : List Tabled) (n : ℕ) → IsRising (numbers (objects_of ks))
    → (is_there (objects_of ks) n && not (has (marked_of r ks) n)) ≡ is_unmarked_in r (tabled_at ks n)
is_unmarked-tabled r ks n rising = search (is_there-objects_of, has-marked_of, there_unmarked)

-- ---- the others

-- a mark below the objects' numbers marks none of them
unmarked-above : (os : List Object) (m : ℕ) (ms : List ℕ) → IsRising (m ∷ numbers os)
    → unmarked os (m ∷ ms) ≡ unmarked os ms
unmarked-above [] m ms rising = refl
unmarked-above (o ∷ os) m ms rising = grind (arith, unmarked-above os m ms)

-- the objects that aren't among the marked are those that aren't marked
pub unmarked-tabled : (r : ℕ) (ks : List Tabled) → IsRising (numbers (objects_of ks))
    → unmarked (objects_of ks) (marked_of r ks) ≡ unmarked_of r ks
unmarked-tabled r [] rising = refl
unmarked-tabled r (k ∷ ks) rising =
    grind (arith, unmarked-above, unmarked-tabled r ks, has-marked_of r (k ∷ ks) k.object.no rising)

-- ---- an object is marked

-- one that wasn't: its number is one more among the marked
pub marked_of-marked : (r : ℕ) (ks : List Tabled) (n : ℕ) → IsRising (numbers (objects_of ks))
    → is_unmarked_in r (tabled_at ks n) ≡ true
    → marked_of r (changed_tabled ks n (with_marked r)) ≡ one_more (marked_of r ks) n
marked_of-marked r ks n rising new = grind (arith, numbers_by-more)
