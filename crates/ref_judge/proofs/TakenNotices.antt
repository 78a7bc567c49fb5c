-- What is taken from a queue, in any order that a profile allows, stands there; and with what is left it is all that
-- stood there.
use Rattle.ref_base.proofs.Common.{arith, ◌≡◌, ℕ, zero, suc, ◌+◌, ◌≤◌, ◌==◌, false, List, [], ◌∷◌, ◌++◌, map, take}
use Rattle.ref_base.proofs.Common.{length, refl, sym, ap, ◌∙◌, subst, has, object_of, Notice, Lists, World, queue_at}
use Rattle.ref_base.proofs.Common.{with_queue, notice_of, notices_of, without_notices, AllByRecursion, tally, took}
use Rattle.ref_base.proofs.Common.{taken_out, with_hand, get_or-set_same, new_queue, map-append, eq-eqb, ◌<◌, slice_set}
use Rattle.std.proofs.lemmas.Grind.{reverse_onto}
use Rattle.std.specs.Prelude.{reverse}
use Rattle.ref_base.specs.Members.{AreDistinct, without_first}
use Rattle.ref_base.specs.declared.actor.Actor.TheVariants.{Mutator}
use Rattle.ref_base.proofs.CarryLaws.{all_without_first}
use Rattle.ref_base.proofs.HoldCounts.{tally-append, tally-first}
use Rattle.ref_base.proofs.QueueLaws.{took_front}
use Rattle.ref_judge.specs.ProfiledRows.{AreTakenFrom, MayTake}
use Rattle.ref_judge.specs.declared.order.Order.{Order}
use Rattle.ref_judge.specs.declared.order.Order.TheVariants.{First, Last, Any}
use Rattle.ref_judge.proofs.Loosening.{first_taken}

-- ---- lists in which none stands twice

lacks_tally : (ns : List ℕ) (n : ℕ) → has ns n ≡ false → tally ns n ≡ 0
lacks_tally [] n lacks = refl
lacks_tally (m ∷ ns) n lacks = grind (arith, lacks_tally ns n)

pub distinct_tally : (ns : List ℕ) → AreDistinct ns → (n : ℕ) → tally ns n ≤ 1
distinct_tally [] distinct n = omega arith
distinct_tally (m ∷ ns) distinct n = grind (arith, eq-eqb, lacks_tally ns, distinct_tally ns distinct.1 n)

tally_lacks : (ns : List ℕ) (n : ℕ) → tally ns n ≡ 0 → has ns n ≡ false
tally_lacks [] n none = refl
tally_lacks (m ∷ ns) n none = grind (arith, tally_lacks ns n)

pub tally_distinct : (ns : List ℕ) → ((n : ℕ) → tally ns n ≤ 1) → AreDistinct ns
tally_distinct [] few = tt
tally_distinct (m ∷ ns) few = (
  tally_lacks ns m (let all = few m in let own = eq-eqb m m refl in grind arith),
  tally_distinct ns (λ n. let all = few n in let first = tally-first m ns n in omega (arith, all, first)),
)

-- ---- what is taken stands there

notice_other : (stands : List Notice) (k n : ℕ) → (k == n) ≡ false
    → notice_of (without_first object_of stands k) n ≡ notice_of stands n
notice_other [] k n other = refl
notice_other (x ∷ stands) k n other = grind (arith, notice_other stands k n other)

-- these are the notices of their numbers
abbrev AreFoundIn : List Notice → List Notice → Type 0
AreFoundIn stands = AllByRecursion (λ x. notice_of stands x.object ≡ x ∷ [])

found_less : (stands : List Notice) (k : ℕ) (taken : List Notice) → has (map object_of taken) k ≡ false
    → AreFoundIn stands taken → AreFoundIn (without_first object_of stands k) taken
found_less stands k [] lacks found = tt
found_less stands k (x ∷ taken) lacks found = grind (arith, notice_other, found_less stands k taken)

members_taken : (stands taken : List Notice) → AreFoundIn stands taken → AreDistinct (map object_of taken)
    → AreTakenFrom stands taken
members_taken stands [] found distinct = tt
members_taken stands (x ∷ taken) found distinct = (
  found.0,
  members_taken (without_first object_of stands x.object) taken
      (found_less stands x.object taken distinct.0 found.1) distinct.1,
)

found_behind : (s : Notice) (stands taken : List Notice) → has (map object_of taken) s.object ≡ false
    → AreFoundIn stands taken → AreFoundIn (s ∷ stands) taken
found_behind s stands [] lacks found = tt
found_behind s stands (x ∷ taken) lacks found = grind (arith, found_behind s stands taken)

members_found : (stands : List Notice) → AreDistinct (map object_of stands) → AreFoundIn stands stands
members_found [] distinct = tt
members_found (s ∷ stands) distinct = (
  simp (eq-eqb s.object s.object refl) refl,
  found_behind s stands stands distinct.0 (members_found stands distinct.1),
)

all_behind : (P : Notice → Type 0) (xs ys : List Notice) → AllByRecursion P xs → AllByRecursion P ys
    → AllByRecursion P (xs ++ ys)
all_behind P [] ys all more = more
all_behind P (x ∷ xs) ys all more = (all.0, all_behind P xs ys all.1 more)

reverse_first : (x : Notice) (xs : List Notice) → reverse (x ∷ xs) ≡ reverse xs ++ x ∷ []
reverse_first x xs = reverse_onto xs x []

all_reverse : (P : Notice → Type 0) (xs : List Notice) → AllByRecursion P xs → AllByRecursion P (reverse xs)
all_reverse P [] all = tt
all_reverse P (x ∷ xs) all =
    subst (AllByRecursion P) (sym (reverse_first x xs))
    (all_behind P (reverse xs) (x ∷ []) (all_reverse P xs all.1) (all.0, tt))

all_take : (P : Notice → Type 0) (count : ℕ) (xs : List Notice) → AllByRecursion P xs → AllByRecursion P (take count xs)
all_take P zero xs all = tt
all_take P (suc count) [] all = tt
all_take P (suc count) (x ∷ xs) all = (all.0, all_take P count xs all.1)

tally_reverse : (xs : List Notice) (n : ℕ) → tally (map object_of (reverse xs)) n ≡ tally (map object_of xs) n
tally_reverse [] n = refl
tally_reverse (x ∷ xs) n =
    let whole : tally (map object_of (reverse (x ∷ xs))) n
    ≡ tally (map object_of (reverse xs)) n + tally (x.object ∷ []) n =
    ap (λ (ns : List Notice). tally (map object_of ns) n) (reverse_first x xs)
    ∙ ap (λ ns. tally ns n) (map-append object_of (reverse xs) (x ∷ []))
    ∙ tally-append (map object_of (reverse xs)) (x.object ∷ []) n in
    let same = tally_reverse xs n in
    let one = tally-first x.object [] n in
    let first = tally-first x.object (map object_of xs) n in
    omega (arith, whole, same, one, first)

tally_take : (count : ℕ) (xs : List Notice) (n : ℕ)
    → tally (map object_of (take count xs)) n ≤ tally (map object_of xs) n
tally_take zero xs n = omega arith
tally_take (suc count) [] n = omega arith
tally_take (suc count) (x ∷ xs) n = grind (arith, tally_take count xs n)

last_taken : (count : ℕ) (stands : List Notice) → AreDistinct (map object_of stands)
    → AreTakenFrom stands (take count (reverse stands))
last_taken count stands distinct =
    members_taken stands (take count (reverse stands))
    (all_take (λ x. notice_of stands x.object ≡ x ∷ []) count (reverse stands)
    (all_reverse (λ x. notice_of stands x.object ≡ x ∷ []) stands (members_found stands distinct)))
    (tally_distinct (map object_of (take count (reverse stands)))
    (λ n.
    let few = tally_take count (reverse stands) n in
    let same = tally_reverse stands n in
    let once = distinct_tally (map object_of stands) distinct n in omega (arith, few, same, once)))

pub taken_stands : (order : Order) (count : ℕ) (stands taken : List Notice) → AreDistinct (map object_of stands)
    → MayTake order count stands taken → AreTakenFrom stands taken
taken_stands First count stands taken distinct may =
    subst (AreTakenFrom stands) (sym may) (first_taken count stands)
taken_stands Last count stands taken distinct may =
    subst (AreTakenFrom stands) (sym may) (last_taken count stands distinct)
taken_stands Any count stands taken distinct may = may.1

-- ---- what is left

pub taken_found : (stands taken : List Notice) → AreTakenFrom stands taken
    → notices_of stands (map object_of taken) ≡ taken
taken_found stands [] are = refl
taken_found stands (x ∷ taken) are =
    rw (are.0, taken_found (without_first object_of stands x.object) taken are.1) refl

one_less : (stands : List Notice) (x : Notice) (n : ℕ) → notice_of stands x.object ≡ x ∷ []
    → tally (map object_of stands) n
    ≡ tally (x.object ∷ map object_of (without_first object_of stands x.object)) n
one_less [] x n found = absurd cc
one_less (s ∷ stands) x n found = grind (arith, tally-first, one_less stands x n)

-- what is taken, and what is left
abbrev pub with_first : Lists Notice → List Notice → Lists Notice
with_first l taken = record l { stands = taken ++ without_notices l.stands (map object_of taken) }

pub taken_tally : (stands taken : List Notice) (n : ℕ) → AreTakenFrom stands taken
    → tally (map object_of (taken ++ without_notices stands (map object_of taken))) n ≡ tally (map object_of stands) n
taken_tally stands [] n are = refl
taken_tally stands (x ∷ taken) n are =
    let less = one_less stands x n are.0 in
    let rest = taken_tally (without_first object_of stands x.object) taken n are.1 in
    grind (arith, tally-first)

all_taken : (P : Notice → Type 0) (stands : List Notice) (k : ℕ) (x : Notice) → AllByRecursion P stands
    → notice_of stands k ≡ x ∷ [] → P x
all_taken P [] k x all found = absurd cc
all_taken P (s ∷ stands) k x all found = grind (arith, all_taken P stands k x all.1)

pub taken_all : (P : Notice → Type 0) (stands taken : List Notice) → AreTakenFrom stands taken
    → AllByRecursion P stands → AllByRecursion P (taken ++ without_notices stands (map object_of taken))
taken_all P stands [] are all = all
taken_all P stands (x ∷ taken) are all = (
  all_taken P stands x.object x all are.0,
  taken_all P (without_first object_of stands x.object) taken are.1
      (all_without_first P object_of stands x.object all),
)

-- ---- in a world

-- the world where these stand first in their queue
abbrev pub reordered : World → ℕ → List Notice → World
reordered w q taken = with_queue w q (with_first (queue_at w q) taken)

set_twice : {X : Type 0} (xs : List X) (k : ℕ) (x y : X) → slice_set (slice_set xs k x) k y ≡ slice_set xs k y
set_twice [] k x y = refl
set_twice (z ∷ xs) zero x y = refl
set_twice (z ∷ xs) (suc k) x y = ap (λ ys. z ∷ ys) (set_twice xs k x y)

-- these are taken from it as from the world itself
pub took_reordered : (w : World) (m q : ℕ) (notice : Notice) (more : List Notice) → q < length w.queues
    → AreTakenFrom (queue_at w q).stands (notice ∷ more)
    → took (reordered w q (notice ∷ more)) m q (map object_of (notice ∷ more))
    ≡ took w m q (map object_of (notice ∷ more))
took_reordered w m q notice more within are =
    let taken : List Notice = notice ∷ more in
    let ns : List ℕ = map object_of taken in
    let l : Lists Notice = queue_at w q in
    let first : Lists Notice = with_first l taken in
    let v : World = reordered w q taken in
    let parts = took_front taken (without_notices l.stands ns) in
    ap (λ (k : Lists Notice). with_hand (with_queue v q (taken_out k ns)) (Mutator m) (notices_of k.stands ns))
    (get_or-set_same w.queues q first (new_queue q) within)
    ∙ ap (λ (qs : List (Lists Notice)).
    with_hand (record w { queues = qs }) (Mutator m) (notices_of first.stands ns))
    (set_twice w.queues q first (taken_out first ns))
    ∙ ap (λ (xs : List Notice).
    with_hand (with_queue w q (record l { taken = l.taken ++ ns; stands = xs })) (Mutator m)
    (notices_of first.stands ns)) parts.1
    ∙ ap (λ (xs : List Notice). with_hand (with_queue w q (taken_out l ns)) (Mutator m) xs)
    (parts.0 ∙ sym (taken_found l.stands taken are))
