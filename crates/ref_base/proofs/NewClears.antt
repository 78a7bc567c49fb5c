-- What is in the list of new clears, and what refers into the doomed.
use Rattle.ref_base.proofs.Common.{◌≡◌, ℕ, ◌≤◌, Bool, false, not, ◌&&◌, refl, arith, List, [], ◌∷◌, Option, Some, None}
use Rattle.ref_base.proofs.Common.{has, Object, Reference, object_at, is_there, numbers, IsRising, any_is, refers_into}
use Rattle.ref_base.proofs.Common.{new_clears, reference_in}

-- numbers that rise from one on don't have it again
pub is_there-rising : (os : List Object) (n m : ℕ) → n ≤ m → IsRising (m ∷ numbers os) → is_there os n ≡ false
is_there-rising [] n m order rising = refl
is_there-rising (o ∷ os) n m order rising = grind (arith, is_there-rising os n o.no)

-- a number is a new clear where its object is a reference outside the doomed whose referent is doomed
pub has-new_clears : (os : List Object) (d : List ℕ) (n : ℕ) → IsRising (numbers os) → has (new_clears os d) n
    ≡ (is_there os n && (not (has d n) && refers_into (has d) (reference_in (object_at os n))))
has-new_clears [] d n rising = refl
has-new_clears (o ∷ os) d n rising = grind (arith, is_there-rising, has-new_clears os d n)

any_is-same : (test other : ℕ → Bool) → ((n : ℕ) → test n ≡ other n) → (value : Option ℕ)
    → any_is test value ≡ any_is other value
any_is-same test other same None = refl
any_is-same test other same (Some n) = same n

-- tests that agree answer alike of a referent
pub refers_into-same : (test other : ℕ → Bool) → ((n : ℕ) → test n ≡ other n) → (r : Option Reference)
    → refers_into test r ≡ refers_into other r
refers_into-same test other same None = refl
refers_into-same test other same (Some r) = any_is-same test other same r.referent
