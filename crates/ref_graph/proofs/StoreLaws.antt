-- What a map from numbers to stored objects says of the list of objects that a contract sees.
use Rattle.ref_base.proofs.Common.{◌≡◌, ℕ, ◌+◌, ◌<◌, true, false, ◌==◌, nat_eq, nat_lt, refl, sym, ap, ◌∙◌, arith, List}
use Rattle.ref_base.proofs.Common.{[], ◌∷◌, ◌++◌, Option, Some, None, is_some, inl, inr, cases_Bool, true≢false}
use Rattle.ref_base.proofs.Common.{false≢true, eq-eqb, eqb-true, ltb-true, ne_eqb, nat_eq_equiv, lookup}
use Rattle.ref_base.proofs.Common.{Object, object_at, is_there, with_object, numbers, has, IsRising}
use Rattle.std.proofs.lemmas.Bool.{ltb-false}
use Rattle.std.specs.Option.{option_map}
use Rattle.ref_graph.specs.GraphViews.{Held, objects_in, placed, stored_object}
use Rattle.ref_base.proofs.Lookups.{is_there-has}
use Rattle.ref_base.proofs.RisingLists.{rising-above, rising-cons, rising-lacks, rising-tail}

-- ---- one object more

-- the first, where there is one, and else the second
abbrev pub first_of : Option Object → Option Object → Option Object
first_of (Some o) p = Some o
first_of None p = p

first_of-none : (o : Option Object) → first_of o None ≡ o
first_of-none None = refl
first_of-none (Some o) = refl

first_of-nested : (a b c : Option Object) → first_of (first_of a b) c ≡ first_of a (first_of b c)
first_of-nested None b c = refl
first_of-nested (Some o) b c = refl

none_from_lacks : (os : List Object) (n : ℕ) → has (numbers os) n ≡ false → object_at os n ≡ None
none_from_lacks [] n lacks = refl
none_from_lacks (o ∷ os) n lacks = grind (arith, none_from_lacks os n)

-- among objects by number, one more is found where no other of its number was
pub object_at-with_object : (os : List Object) (o : Object) (n : ℕ) → IsRising (numbers os)
    → object_at (with_object os o) n ≡ first_of (object_at os n) (object_at (o ∷ []) n)
object_at-with_object [] o n rising = refl
object_at-with_object (p ∷ ps) o n rising =
    elim (cases_Bool (nat_lt o.no p.no)) [
      | inl below ↦ elim (cases_Bool (o.no == n)) [
        | inl same ↦
            let less : o.no < p.no = ltb-true o.no p.no below in
            let number : o.no ≡ n = eqb-true o.no n same in
            let other : (p.no == n) ≡ false = ne_eqb p.no n (λ is. omega arith) in
            let none : object_at ps n ≡ None =
            none_from_lacks ps n (rising-lacks p.no (numbers ps) rising n (omega arith)) in
            simp (below, same, other, none) refl
        | inr other ↦ simp (below, other) (sym (first_of-none (object_at (p ∷ ps) n)))
      ]
      | inr above ↦ elim (cases_Bool (p.no == o.no)) [
        | inl same ↦ elim (cases_Bool (p.no == n)) [
          | inl here ↦ simp (above, same, here) refl
          | inr other ↦
              let turned : (o.no == n) ≡ false = ap (λ k. k == n) (sym (eqb-true p.no o.no same)) ∙ other in
              simp (above, same, other, turned) (sym (first_of-none (object_at ps n)))
        ]
        | inr different ↦ elim (cases_Bool (p.no == n)) [
          | inl here ↦ simp (above, different, here) refl
          | inr other ↦
              simp (above, different, other) (object_at-with_object ps o n (rising-tail p.no (numbers ps) rising))
        ]
      ]
    ]

with_object-only : (os : List Object) (o : Object) (n m : ℕ) → n < o.no
    → ((k : ℕ) → has (numbers os) k ≡ true → n < k) → has (numbers (with_object os o)) m ≡ true → n < m
with_object-only [] o n m before above h = grind arith
with_object-only (p ∷ ps) o n m before above h = grind (arith, with_object-only ps o n m before)

less_from_other : (m n : ℕ) → m < n + 1 → (m == n) ≡ false → m < n
less_from_other m n most other =
    elim (cases_Bool (nat_lt m n)) [
      | inl below ↦ ltb-true m n below
      | inr above ↦
          let least = ltb-false m n above in
          let same : m ≡ n = omega arith in
          absurd (true≢false (sym (eq-eqb m n same) ∙ other))
    ]

-- numbers still rise
pub rising-with_object : (os : List Object) (o : Object) → IsRising (numbers os) → IsRising (numbers (with_object os o))
rising-with_object [] o rising = tt
rising-with_object (p ∷ ps) o rising =
    elim (cases_Bool (nat_lt o.no p.no)) [
      | inl below ↦ simp below (ltb-true o.no p.no below, rising)
      | inr above ↦ elim (cases_Bool (p.no == o.no)) [
        | inl same ↦ simp (above, same) rising
        | inr different ↦
            let most = ltb-false o.no p.no above in
            let least : p.no < o.no = less_from_other p.no o.no (omega arith) different in
            simp (above, different)
            (rising-cons p.no (numbers (with_object ps o))
            (λ m. with_object-only ps o p.no m least (rising-above p.no (numbers ps) rising))
            (rising-with_object ps o (rising-tail p.no (numbers ps) rising)))
      ]
    ]

-- where its number is there, an object isn't added
pub with_object-same : (os : List Object) (o : Object) → IsRising (numbers os) → is_there os o.no ≡ true
    → with_object os o ≡ os
with_object-same [] o rising there = absurd (false≢true there)
with_object-same (p ∷ ps) o rising there = grind (arith, rising-lacks, is_there-has, with_object-same ps o)

-- ---- the objects that are stored

rising-placed : (os : List Object) (es : List (ℕ × Held)) → IsRising (numbers os) → IsRising (numbers (placed os es))
rising-placed os [] rising = rising
rising-placed os (e ∷ es) rising =
    rising-placed (with_object os (stored_object e)) es (rising-with_object os (stored_object e) rising)

pub rising-objects_in : (es : List (ℕ × Held)) → IsRising (numbers (objects_in es))
rising-objects_in es = rising-placed [] es tt

object_at-placed : (os : List Object) (es : List (ℕ × Held)) (n : ℕ) → IsRising (numbers os)
    → object_at (placed os es) n
    ≡ first_of (object_at os n) (option_map (λ s. stored_object (n, s)) (lookup (nat_eq n) es))
object_at-placed os [] n rising = sym (first_of-none (object_at os n))
object_at-placed os (e ∷ es) n rising =
    let later : Option Object = option_map (λ s. stored_object (n, s)) (lookup (nat_eq n) es) in
    let here : first_of (object_at (stored_object e ∷ []) n) later
    ≡ option_map (λ s. stored_object (n, s)) (lookup (nat_eq n) (e ∷ es)) =
    elim (cases_Bool (e.0 == n)) [
      | inl same ↦
          let found : nat_eq n e.0 ≡ true = nat_eq_equiv.symm n e.0 ∙ same in
          simp (same, found) (ap (λ k. Some (stored_object (k, e.1))) (eqb-true e.0 n same))
      | inr other ↦
          let passed : nat_eq n e.0 ≡ false = nat_eq_equiv.symm n e.0 ∙ other in
          simp (other, passed) refl
    ] in
    object_at-placed (with_object os (stored_object e)) es n (rising-with_object os (stored_object e) rising)
    ∙ ap (λ o. first_of o later) (object_at-with_object os (stored_object e) n rising)
    ∙ first_of-nested (object_at os n) (object_at (stored_object e ∷ []) n) later
    ∙ ap (first_of (object_at os n)) here

-- a look-up of the map is one of the objects
pub object_at-objects_in : (es : List (ℕ × Held)) (n : ℕ)
    → object_at (objects_in es) n ≡ option_map (λ s. stored_object (n, s)) (lookup (nat_eq n) es)
object_at-objects_in es n = object_at-placed [] es n tt

pub is_some-option_map : {X Y : Type 0} (f : X → Y) (o : Option X) → is_some (option_map f o) ≡ is_some o
is_some-option_map f None = refl
is_some-option_map f (Some x) = refl

-- whether the map has a number is whether an object of it is there
pub is_there-objects_in : (es : List (ℕ × Held)) (n : ℕ) → is_some (lookup (nat_eq n) es) ≡ is_there (objects_in es) n
is_there-objects_in es n =
    sym (ap is_some (object_at-objects_in es n) ∙ is_some-option_map (λ s. stored_object (n, s)) (lookup (nat_eq n) es))

placed-last : (os : List Object) (es : List (ℕ × Held)) (e : ℕ × Held)
    → placed os (es ++ e ∷ []) ≡ with_object (placed os es) (stored_object e)
placed-last os [] e = refl
placed-last os (d ∷ es) e = placed-last (with_object os (stored_object d)) es e

-- what is stored last comes to its place
pub stored-last : (es : List (ℕ × Held)) (e : ℕ × Held)
    → objects_in (es ++ e ∷ []) ≡ with_object (objects_in es) (stored_object e)
stored-last es e = placed-last [] es e
