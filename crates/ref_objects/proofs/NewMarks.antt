-- What is marked anew as several objects are marked one by one.
use Rattle.ref_objects.proofs.Common.{◌≡◌, ℕ, true, false, refl, arith, List, [], ◌∷◌, Option, Some, None, if_any, has}
use Rattle.ref_objects.proofs.Common.{Ground, all_marked, all_newly_marked, ground_marked_if_any, newly_marked}
use Rattle.ref_base.specs.Members.{AreDistinct}
use Rattle.ref_base.proofs.HasLaws.{has-cases}
use Rattle.ref_base.proofs.OneMore.{has-one_more}

-- ---- what was marked stays so, and what is marked anew wasn't before

pub marked-if_any : (g : Ground) (value : Option ℕ) (n : ℕ) → has g.marked n ≡ true
    → has (ground_marked_if_any g value).marked n ≡ true
marked-if_any g None n was = was
marked-if_any g (Some m) n was = grind (arith, has-one_more)

pub marked-stays : (g : Ground) (held : List (Option ℕ)) (n : ℕ) → has g.marked n ≡ true
    → has (all_marked g held).marked n ≡ true
marked-stays g [] n was = was
marked-stays g (x ∷ xs) n was = marked-stays (ground_marked_if_any g x) xs n (marked-if_any g x n was)

-- one that is marked anew
pub new_mark : (g : Ground) (value : Option ℕ) (n : ℕ) → newly_marked g value ≡ Some n
    → (has g.marked n ≡ false) × (has (ground_marked_if_any g value).marked n ≡ true)
new_mark g None n new = absurd (cc)
new_mark g (Some m) n new = grind (arith, has-one_more)

-- the same, listed
new_one : (g : Ground) (value : Option ℕ) (n : ℕ) → has (if_any (newly_marked g value)) n ≡ true
    → (has g.marked n ≡ false) × (has (ground_marked_if_any g value).marked n ≡ true)
new_one g None n new = absurd (cc)
new_one g (Some m) n new = grind (arith, has-one_more)

pub new_marks : (g : Ground) (held : List (Option ℕ)) (n : ℕ) → has (all_newly_marked g held) n ≡ true
    → (has g.marked n ≡ false) × (has (all_marked g held).marked n ≡ true)
new_marks g [] n new = absurd (cc)
new_marks g (x ∷ xs) n new =
    grind (
      arith,
      has-cases,
      new_one g x n,
      marked-if_any g x n,
      marked-stays (ground_marked_if_any g x) xs n,
      new_marks (ground_marked_if_any g x) xs n,
    )

pub new_once : (g : Ground) (held : List (Option ℕ)) → AreDistinct (all_newly_marked g held)
new_once g [] = tt
new_once g (None ∷ xs) = new_once g xs
new_once g (Some m ∷ xs) =
    grind (
      arith,
      has-one_more,
      new_marks (ground_marked_if_any g (Some m)) xs m,
      new_once (ground_marked_if_any g (Some m)) xs,
    )

-- nothing but marks changes
pub marked-only : (g : Ground) (value : Option ℕ)
    → ground_marked_if_any g value ≡ record g { marked = (ground_marked_if_any g value).marked }
marked-only g None = refl
marked-only g (Some m) = grind arith

pub all_marked-only : (g : Ground) (held : List (Option ℕ))
    → all_marked g held ≡ record g { marked = (all_marked g held).marked }
all_marked-only g [] = refl
all_marked-only g (None ∷ xs) = all_marked-only g xs
all_marked-only g (Some m ∷ xs) = grind (arith, all_marked-only (ground_marked_if_any g (Some m)) xs)
