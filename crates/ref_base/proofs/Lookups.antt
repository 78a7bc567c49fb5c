-- What a look-up finds after an object is changed or made, and what lists of values hold after one is set.
use Rattle.ref_base.proofs.Common.{◌≡◌, ℕ, zero, suc, ◌<◌, true, false, ◌==◌, refl, arith, List, [], ◌∷◌, ◌++◌, length}
use Rattle.ref_base.proofs.Common.{Option, Some, None, ◌⊎◌, inl, inr, cases_Bool, slice_index_or, slice_set, or_left}
use Rattle.ref_base.proofs.Common.{or_right}
use Rattle.ref_base.proofs.Common.{false≢true, eq-eqb, has, Object, Reference, object_at, is_there, numbers, Allowed}
use Rattle.ref_base.proofs.Common.{present, allowed_referent, IsRising, changed_at}
use Rattle.ref_base.proofs.HasLaws.{has-first}

-- ---- objects

-- whether there is an object is whether its number is among theirs
pub is_there-has : (os : List Object) (n : ℕ) → is_there os n ≡ has (numbers os) n
is_there-has [] n = refl
is_there-has (o ∷ os) n =
    elim (cases_Bool (o.no == n)) [ inl same ↦ simp same refl | inr other ↦ simp other (is_there-has os n) ]

-- what holds between each object and itself, and between the one of number n and what it becomes, holds of each look-up
-- before and after the change
pub lookup-changed : (P : Option Object → Option Object → Type 0) (os : List Object) (n : ℕ) (f : Object → Object)
    → ((o : Object) → (f o).no ≡ o.no) → ((o : Option Object) → P o o)
    → ((o : Object) → object_at os n ≡ Some o → P (Some o) (Some (f o)))
    → (m : ℕ) → P (object_at os m) (object_at (changed_at os n f) m)
lookup-changed P [] n f keeps same there m = same None
lookup-changed P (o ∷ os) n f keeps same there m = grind (arith, lookup-changed P os n f keeps same)

pub numbers-changed : (os : List Object) (n : ℕ) (f : Object → Object) → ((o : Object) → (f o).no ≡ o.no)
    → numbers (changed_at os n f) ≡ numbers os
numbers-changed [] n f keeps = refl
numbers-changed (o ∷ os) n f keeps = grind (arith, numbers-changed os n f keeps)

-- a look-up of what was there finds the same once there is one more
pub object_at-push : (os : List Object) (o : Object) (n : ℕ) → is_there os n ≡ true
    → object_at (os ++ o ∷ []) n ≡ object_at os n
object_at-push [] o n there = absurd (false≢true there)
object_at-push (p ∷ os) o n there = grind (arith, object_at-push os o n)

-- and else the new one, if it has the number
pub object_at-pushed : (os : List Object) (o : Object) (n : ℕ) → is_there os n ≡ false
    → object_at (os ++ o ∷ []) n ≡ object_at (o ∷ []) n
object_at-pushed [] o n absent = refl
object_at-pushed (p ∷ os) o n absent = grind (arith, object_at-pushed os o n)

-- numbers rise where a greater one comes last
pub rising-push : (os : List Object) (o : Object) → IsRising (numbers os)
    → ((n : ℕ) → is_there os n ≡ true → n < o.no) → IsRising (numbers (os ++ o ∷ []))
rising-push [] o rising below = tt
rising-push (p ∷ []) o rising below =
    let own : (p.no == p.no) ≡ true = eq-eqb p.no p.no refl in (below p.no (simp own refl), tt)
rising-push (p ∷ q ∷ os) o rising below = grind (arith, rising-push (q ∷ os) o rising.1)

-- ---- values

has-present_later : (v : Option ℕ) (vs : List (Option ℕ)) (n : ℕ) → has (present vs) n ≡ true
    → has (present (v ∷ vs)) n ≡ true
has-present_later None vs n within = within
has-present_later (Some m) vs n within = or_right (m == n) (has (present vs) n) within

-- what a list of values holds once one is set, it held before, or it is that one
pub has-present_set : (held : List (Option ℕ)) (i : ℕ) (value : Option ℕ) (n : ℕ)
    → has (present (slice_set held i value)) n ≡ true → (has (present held) n ≡ true) ⊎ (value ≡ Some n)
has-present_set [] i value n within = inl within
has-present_set (v ∷ vs) zero None n within = inl (has-present_later v vs n within)
has-present_set (v ∷ vs) zero (Some m) n within = grind arith
has-present_set (None ∷ vs) (suc i) value n within = has-present_set vs i value n within
has-present_set (Some m ∷ vs) (suc i) value n within = grind (arith, has-present_set vs i value n)

-- the one that is set is among them
pub has-present_here : (held : List (Option ℕ)) (i n : ℕ) → i < length held
    → has (present (slice_set held i (Some n))) n ≡ true
has-present_here [] i n within = absurd (omega (arith, within))
has-present_here (v ∷ vs) zero n within = has-first n (present vs)
has-present_here (None ∷ vs) (suc i) n within = has-present_here vs i n (omega (arith, within))
has-present_here (Some m ∷ vs) (suc i) n within =
    or_right (m == n) (has (present (slice_set vs i (Some n))) n) (has-present_here vs i n (omega (arith, within)))

-- and so is the one at each place
pub has-present_at : (held : List (Option ℕ)) (i n : ℕ) → slice_index_or held i None ≡ Some n
    → has (present held) n ≡ true
has-present_at [] i n is = absurd (cc)
has-present_at (None ∷ vs) zero n is = absurd (cc)
has-present_at (Some m ∷ vs) zero n is =
    let first : Some m ≡ Some n = is in let same : m ≡ n = cc in or_left (m == n) (has (present vs) n) (eq-eqb m n same)
has-present_at (None ∷ vs) (suc i) n is = has-present_at vs i n is
has-present_at (Some m ∷ vs) (suc i) n is = or_right (m == n) (has (present vs) n) (has-present_at vs i n is)

-- a reference leads to its referent alone
pub allowed_referent-cases : (allow : Allowed) (r : Reference) (n : ℕ) → has (allowed_referent allow (Some r)) n ≡ true
    → r.referent ≡ Some n
allowed_referent-cases allow r n within = grind arith
