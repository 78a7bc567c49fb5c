-- What is taken by number from the numbers that stand in a queue.
use Rattle.std.proofs.Common.{◌≡◌, ℕ, zero, suc, ◌+◌, ◌<◌, ◌==◌, Bool, true, false, List, [], ◌∷◌, length, take}
use Rattle.std.proofs.Common.{refl, arith, slice_index_or, not, ◌≤◌}
use Rattle.std.proofs.lemmas.List.{get_or_read}
use Rattle.std.specs.List.{list_any, remove}
use Rattle.ref_base.specs.Members.{has, without_first}
use Rattle.ref_judge.specs.Queueing.{may_be_next, without_each}
use Rattle.ref_judge.specs.declared.order.Order.TheVariants.{Any}

-- whether some entry is n
pub has-any : (ns : List ℕ) (n : ℕ) → list_any (λ m. m == n) ns ≡ has ns n
has-any [] n = refl
has-any (m ∷ ns) n = grind (arith, has-any ns n)

-- the first of a number stands where none before it has that number
pub remove-first : (ns : List ℕ) (i n d : ℕ) → i < length ns → slice_index_or ns i d ≡ n → has (take i ns) n ≡ false
    → remove ns i ≡ without_first (λ m. m) ns n
remove-first [] i n d within is none = absurd (omega (arith, within))
remove-first (m ∷ ns) zero n d within is none = grind arith
remove-first (m ∷ ns) (suc i) n d within is none = grind (arith, remove-first ns i n d)

-- one place further that isn't of this number
pub lacks-next : (ns : List ℕ) (i n d : ℕ) → i < length ns → (slice_index_or ns i d == n) ≡ false
    → has (take i ns) n ≡ false → has (take (i + 1) ns) n ≡ false
lacks-next [] i n d within other none = absurd (omega (arith, within))
lacks-next (m ∷ ns) zero n d within other none = grind arith
lacks-next (m ∷ ns) (suc i) n d within other none = grind (arith, lacks-next ns i n d)

-- any may be taken that stands and wasn't taken before
pub any-next : (stands ns : List ℕ) (place n : ℕ) (stood went : Bool) → place < length ns
    → n ≡ slice_index_or ns place n → stood ≡ list_any (λ m. m == n) stands
    → went ≡ list_any (λ m. m == n) (take place ns) → stood ≡ true → not went ≡ may_be_next Any stands ns place
any-next stands ns place n stood went within is stands_is went_is there =
    rw (
      ← get_or_read ns place n within is 0,
      ← has-any stands n,
      ← has-any (take place ns) n,
      ← stands_is,
      ← went_is,
      there,
    )
    refl

pub none-next : (stands ns : List ℕ) (place n : ℕ) (stood : Bool) → place < length ns
    → n ≡ slice_index_or ns place n → stood ≡ list_any (λ m. m == n) stands → stood ≡ false
    → stood ≡ may_be_next Any stands ns place
none-next stands ns place n stood within is stands_is none =
    rw (← get_or_read ns place n within is 0, ← has-any stands n, ← stands_is, none) refl

-- what has been looked at to the end
pub without-all : (ns : List ℕ) (i n : ℕ) → length ns ≤ i → has (take i ns) n ≡ false
    → without_first (λ m. m) ns n ≡ ns
without-all [] i n all none = refl
without-all (m ∷ ns) zero n all none = absurd (omega (arith, all))
without-all (m ∷ ns) (suc i) n all none = grind (arith, without-all ns i n)

-- one more that is taken out
pub without-more : (stands ns : List ℕ) (i n : ℕ) → i < length ns → n ≡ slice_index_or ns i n
    → without_first (λ m. m) (without_each stands (take i ns)) n ≡ without_each stands (take (i + 1) ns)
without-more stands [] i n within is = absurd (omega (arith, within))
without-more stands (m ∷ ns) zero n within is = grind arith
without-more stands (m ∷ ns) (suc i) n within is =
    grind (arith, without-more (without_first (λ k. k) stands m) ns i n)
