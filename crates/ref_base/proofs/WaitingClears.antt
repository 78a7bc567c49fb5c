-- The references that the mark's end cleared and that no worker has looked at since: at the mark's end these are all
-- new clears, and a look at one takes it away.
use Rattle.ref_base.proofs.Common.{◌≡◌, ℕ, zero, suc, Bool, true, false, ◌==◌, ◌||◌, List, [], ◌∷◌, ◌++◌, map, refl}
use Rattle.ref_base.proofs.Common.{sym, ap, subst, arith, slice_set, false≢true, has, Object, is_there, numbers}
use Rattle.ref_base.proofs.Common.{IsRising, is_new_clear, new_clears, with_reference, cleared, changed_at, State}
use Rattle.ref_base.proofs.Common.{joined, shown, list_at, ClearsNext, cleared_if, Reply}
use Rattle.ref_base.proofs.HasLaws.{has-append}
use Rattle.ref_base.proofs.OneMore.{or-swap}
use Rattle.ref_base.proofs.NewClears.{is_there-rising}
use Rattle.ref_base.specs.declared.reply.Reply.TheVariants as replies

-- ---- at a mark's end

pub new_clears-there : (os : List Object) (d : List ℕ) (n : ℕ) → has (new_clears os d) n ≡ true → is_there os n ≡ true
new_clears-there [] d n h = absurd (false≢true h)
new_clears-there (o ∷ os) d n h = grind (arith, new_clears-there os d n)

new_clears-first : (o : Object) (os : List Object) (d : List ℕ) → is_there os o.no ≡ false
    → has (new_clears (o ∷ os) d) o.no ≡ is_new_clear d o
new_clears-first o os d alone = grind (arith, new_clears-there)

-- what is cleared at a mark's end are the new clears
pub shown-waiting : (os : List Object) (d : List ℕ) (these : ℕ → Bool) → IsRising (numbers os)
    → ((n : ℕ) → is_there os n ≡ true → these n ≡ has (new_clears os d) n)
    → map (λ o. shown d o) os ≡ map (λ o. cleared_if these o) os
shown-waiting [] d these rising are = refl
shown-waiting (o ∷ os) d these rising are = grind (arith, is_there-rising, new_clears-first, shown-waiting os d these)

-- ---- where a worker looks

module _ (these those : ℕ → Bool) (n : ℕ) (agree : (m : ℕ) → (n == m) ≡ false → these m ≡ those m) where
  same_objects : (os : List Object) → is_there os n ≡ false
      → map (λ o. cleared_if these o) os ≡ map (λ o. cleared_if those o) os
  same_objects [] none = refl
  same_objects (o ∷ os) none = grind (arith, same_objects os)

  -- a reference that read as cleared is cleared
  pub looked-waiting : (os : List Object) → IsRising (numbers os) → these n ≡ true → map (λ o. cleared_if these o) os
      ≡ map (λ o. cleared_if those o) (changed_at os n (with_reference cleared))
  looked-waiting [] rising waits = refl
  looked-waiting (o ∷ os) rising waits = grind (arith, is_there-rising, same_objects, looked-waiting os)

-- ---- what workers found

-- the first that a worker found, and what is left
pub has-found : (found : List (List ℕ)) (k n : ℕ) (rest : List ℕ) (m : ℕ) → list_at found k ≡ n ∷ rest
    → has (joined found) m ≡ ((n == m) || has (joined (slice_set found k rest)) m)
has-found [] k n rest m is = absurd cc
has-found (ns ∷ found) zero n rest m is = ap (λ fs. has (fs ++ joined found) m) is
has-found (ns ∷ found) (suc k) n rest m is = search (has-append, or-swap, has-found found k n rest m is)

-- the worker looked at n, the first that it found
pub record Looks (a : State) (k n : ℕ) : Type 0 where
  pub rest : List ℕ
  pub first : list_at a.found k ≡ n ∷ rest

-- what an answer tells of a look
abbrev pub Tells : State → ℕ → Reply → Type 0
Tells a k (replies.Cleared n) = (has a.cleared n ≡ true) × Looks a k n
Tells a k (replies.Kept n) = (has a.cleared n ≡ false) × Looks a k n
Tells a k (replies.Skipped n) = (has a.cleared n ≡ false) × Looks a k n
Tells a k reply = Unit {0}

pub look_tells : (a c : State) (k : ℕ) (found : List ℕ) (reply : Reply) → list_at a.found k ≡ found
    → ClearsNext a k found reply c → Tells a k reply
look_tells a c k [] reply is row = subst (Tells a k) (sym row.0) tt
look_tells a c k (n ∷ rest) reply is row = grind arith
