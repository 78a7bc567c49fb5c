-- A set of numbers that has the roots and, of what it has, all to which paths may go on: changes of a world keep it so.
-- Where paths may go through any reference, what is out of the set is what no root names and nothing else refers to.
use Rattle.ref_base.proofs.Common.{arith, ◌≡◌, ℕ, zero, suc, ◌+◌, ◌*◌, true, ◌==◌, List, [], ◌∷◌, ◌++◌, map, Option}
use Rattle.ref_base.proofs.Common.{Some, None, refl, subst, inl, inr, ◌⊎◌, slice_index_or, replicate, AllByRecursion}
use Rattle.ref_base.proofs.Common.{cases_Bool, or_cases, eqb-true, false≢true, has, Object, Reference, object_at}
use Rattle.ref_base.proofs.Common.{Allowed, EndsPath, present, allowed_referent, targets_of, targets_at, is_soft}
use Rattle.ref_base.proofs.Common.{with_slot, with_hold, without_hold, one_fewer, changed_in, changed_at, with_field}
use Rattle.ref_base.proofs.Common.{with_reference, cleared, got_at, changed_reference, World, Pending, pending_of}
use Rattle.ref_base.proofs.Common.{pending_numbers, graph_of, with_heap, with_pending, without, ap, sym, ◌∙◌}
use Rattle.ref_base.proofs.Common.{referent_got, reference_of, reference_in}
use Rattle.ref_base.specs.Heaps.{with_stamp}
use Rattle.ref_base.proofs.PathLaws.{path_within}
use Rattle.ref_base.proofs.HasLaws.{has-cases, has-left, has-right}
use Rattle.ref_base.proofs.Lookups.{lookup-changed, object_at-push, object_at-pushed, has-present_set}
use Rattle.ref_base.proofs.OneMore.{has-one_more}
use Rattle.ref_base.proofs.Places.{set_all}
use Rattle.ref_base.proofs.SeenObjects.{object_at-without, object_at-gone}

-- V holds of what a slot holds, if anything
abbrev pub OfValue : (ℕ → Type 0) → Option ℕ → Type 0
OfValue V None = Unit {0}
OfValue V (Some n) = V n

-- V holds of whatever a root names, and of whatever paths may go on to from an object that it holds of
pub record IsClosed (allow : Allowed) (V : ℕ → Type 0) (w : World) : Type 0 where
  pub slots : (i : ℕ) → OfValue V (slice_index_or w.heap.slots i None)
  pub holds : (n : ℕ) → has w.heap.holds n ≡ true → V n
  pub pendings : (k : ℕ) → AllByRecursion (λ p. V p.object) (pending_of w k)
  pub targets : (m n : ℕ) → V m → has (targets_at allow w.heap.objects m) n ≡ true → V n

-- at first no slot holds anything
pub no_slot : (V : ℕ → Type 0) (count i : ℕ) → OfValue V (slice_index_or (replicate count None) i None)
no_slot V zero i = tt
no_slot V (suc count) zero = tt
no_slot V (suc count) (suc i) = no_slot V count i

-- where paths may go on to from an object after a change, they went before, or V holds of it
abbrev pub Refers : Allowed → (ℕ → Type 0) → Option Object → Option Object → Type 0
Refers allow V o next =
    (n : ℕ) → has (targets_of allow next) n ≡ true → (has (targets_of allow o) n ≡ true) ⊎ V n

module _ (allow : Allowed) (V : ℕ → Type 0) where
  -- ---- slots, holds and pending references

  pub closed_slot : (w : World) (m d : ℕ) (value : Option ℕ) → OfValue V value → IsClosed allow V w
      → IsClosed allow V (with_heap w (with_slot w.heap m d value))
  closed_slot w m d value is closed =
      assumption
      (set_all (OfValue V) w.heap.slots (16 * m + d) value None is closed.slots, closed)

  pub closed_hold : (w : World) (n : ℕ) → V n → IsClosed allow V w → IsClosed allow V (with_heap w (with_hold w.heap n))
  closed_hold w n is closed = grind (arith, has-one_more)

  has-fewer : (ns : List ℕ) (n m : ℕ) → has (one_fewer ns n) m ≡ true → has ns m ≡ true
  has-fewer [] n m held = held
  has-fewer (i ∷ is) n m held = grind (arith, has-fewer is n m)

  pub closed_fewer : (w : World) (n : ℕ) → IsClosed allow V w → IsClosed allow V (with_heap w (without_hold w.heap n))
  closed_fewer w n closed = grind (arith, has-fewer)

  pub closed_pending : (w : World) (k : ℕ) (ps : List Pending) → AllByRecursion (λ p. V p.object) ps
      → IsClosed allow V w → IsClosed allow V (with_pending w k ps)
  closed_pending w k ps all closed = record {
    slots = closed.slots;
    holds = closed.holds;
    pendings = set_all (AllByRecursion (λ p. V p.object)) w.pending k ps [] all closed.pendings;
    targets = closed.targets;
  }

  -- ---- objects

  -- other objects, of which each that V holds of refers to no more
  pub closed_objects : (w : World) (os : List Object)
      → ((m : ℕ) → V m → Refers allow V (object_at w.heap.objects m) (object_at os m)) → IsClosed allow V w
      → IsClosed allow V (with_heap w (record w.heap { objects = os }))
  closed_objects w os fewer closed = grind arith

  pub closed_changed : (w : World) (held : Option ℕ) (f : Object → Object) → ((o : Object) → (f o).no ≡ o.no)
      → ((o : Object) → Refers allow V (Some o) (Some (f o))) → IsClosed allow V w
      → IsClosed allow V (with_heap w (changed_in w.heap held f))
  closed_changed w None f keeps refers closed = closed
  closed_changed w (Some n) f keeps refers closed =
      closed_objects w (changed_at w.heap.objects n f)
      (λ m is. lookup-changed (Refers allow V) w.heap.objects n f keeps (λ o i target. inl target) (λ o at. refers o) m)
      closed

  refers_field : (i : ℕ) (value : Option ℕ) (o : Object) → OfValue V value
      → Refers allow V (Some o) (Some (with_field i value o))
  refers_field i value o is n target = grind (arith, has-cases, has-present_set, has-left, has-right)

  -- a change of what an object is as a reference leaves its fields
  refers_reference : (f : Reference → Reference) (o : Object)
      → ((n : ℕ) → has (allowed_referent allow (changed_reference f o.reference)) n ≡ true
      → has (allowed_referent allow o.reference) n ≡ true) → Refers allow V (Some o) (Some (with_reference f o))
  refers_reference f o fewer n target = grind (arith, has-cases, has-left)

  clears_referent : (r : Option Reference) (n : ℕ)
      → has (allowed_referent allow (changed_reference cleared r)) n ≡ true
      → has (allowed_referent allow r) n ≡ true
  clears_referent None n h = h
  clears_referent (Some r) n h =
      elim (cases_Bool (allow (cleared r))) [
        | inl may ↦ absurd (false≢true (simp may at h))
        | inr not_so ↦ absurd (false≢true (simp not_so at h))
      ]

  pub refers_cleared : (o : Object) → Refers allow V (Some o) (Some (with_reference cleared o))
  refers_cleared o = refers_reference cleared o (clears_referent o.reference)

  -- what the reference that is got refers to is what is got
  got_referent : (clock : ℕ) (r : Option Reference) (m n : ℕ) → referent_got r ≡ Some m → V m
      → has (allowed_referent allow (changed_reference (got_at clock) r)) n ≡ true
      → (has (allowed_referent allow r) n ≡ true) ⊎ V n
  got_referent clock None m n is holds h = inl h
  got_referent clock (Some r) m n is holds h =
      elim (cases_Bool (is_soft r.strength)) [
        | inl soft ↦ inr (soft_got r m n soft is holds (simp soft at h))
        | inr other ↦ inl (simp other at h)
      ]
    where
      soft_got : (r : Reference) (m n : ℕ) → is_soft r.strength ≡ true → referent_got (Some r) ≡ Some m → V m
          → has (allowed_referent allow (Some (with_stamp clock r))) n ≡ true → V n
      soft_got r m n soft is holds h = grind arith

  refers_got : (clock : ℕ) (o : Object) (m : ℕ) → referent_got o.reference ≡ Some m → V m
      → Refers allow V (Some o) (Some (with_reference (got_at clock) o))
  refers_got clock o m is holds n target =
      elim (has-cases (present o.fields) (allowed_referent allow (changed_reference (got_at clock) o.reference)) n
      target) [
        | inl field ↦ inl (has-left (present o.fields) (allowed_referent allow o.reference) n field)
        | inr referent ↦
            elim (got_referent clock o.reference m n is holds referent) [
              | inl old ↦ inl (has-right (present o.fields) (allowed_referent allow o.reference) n old)
              | inr one ↦ inr one
            ]
      ]

  pub closed_stored : (w : World) (held : Option ℕ) (i : ℕ) (value : Option ℕ) → OfValue V value → IsClosed allow V w
      → IsClosed allow V (with_heap w (changed_in w.heap held (with_field i value)))
  closed_stored w held i value is closed =
      closed_changed w held (with_field i value) (λ o. refl) (λ o. refers_field i value o is) closed

  pub closed_cut : (w : World) (held : Option ℕ) → IsClosed allow V w
      → IsClosed allow V (with_heap w (changed_in w.heap held (with_reference cleared)))
  closed_cut w held closed = closed_changed w held (with_reference cleared) (λ o. refl) refers_cleared closed

  pub closed_got : (w : World) (held : Option ℕ) (clock m : ℕ)
      → referent_got (reference_of w.heap held) ≡ Some m → V m → IsClosed allow V w
      → IsClosed allow V (with_heap w (changed_in w.heap held (with_reference (got_at clock))))
  closed_got w None clock m is holds closed = closed
  closed_got w (Some k) clock m is holds closed =
      closed_objects w (changed_at w.heap.objects k (with_reference (got_at clock)))
      (λ i has_it. lookup-changed (Refers allow V) w.heap.objects k (with_reference (got_at clock)) (λ o. refl)
      (λ o j target. inl target)
      (λ o at. refers_got clock o m (ap (λ (x : Option Object). referent_got (reference_in x)) (sym at) ∙ is) holds) i)
      closed

  -- one object more, which refers to what V holds of
  pub closed_push : (w : World) (o : Object)
      → ((n : ℕ) → has (targets_of allow (Some o)) n ≡ true → V n) → IsClosed allow V w
      → IsClosed allow V (with_heap w (record w.heap { objects = w.heap.objects ++ o ∷ [] }))
  closed_push w o fresh closed = grind (arith, object_at-push, object_at-pushed)

  pub closed_swept : (w : World) (ns : List ℕ) → IsClosed allow V w
      → IsClosed allow V (with_heap w (record w.heap { objects = without ns w.heap.objects }))
  closed_swept w ns closed = grind (arith, object_at-gone, object_at-without)

  -- ---- roots

  present_of : (vs : List (Option ℕ)) (n : ℕ) → ((i : ℕ) → OfValue V (slice_index_or vs i None))
      → has (present vs) n ≡ true → V n
  present_of [] n all h = absurd (false≢true h)
  present_of (None ∷ vs) n all h = present_of vs n (λ i. all (suc i)) h
  present_of (Some m ∷ vs) n all h =
      elim (or_cases (m == n) (has (present vs) n) h) [
        | inl same ↦ subst V (eqb-true m n same) (all 0)
        | inr later ↦ present_of vs n (λ i. all (suc i)) later
      ]

  objects_of : (ps : List Pending) (n : ℕ) → AllByRecursion (λ p. V p.object) ps
      → has (map (λ p. p.object) ps) n ≡ true → V n
  objects_of [] n all h = absurd (false≢true h)
  objects_of (p ∷ ps) n all h = grind (arith, objects_of ps n all.1)

  pending_all : (lists : List (List Pending)) (n : ℕ)
      → ((k : ℕ) → AllByRecursion (λ p. V p.object) (slice_index_or lists k []))
      → has (pending_numbers lists) n ≡ true → V n
  pending_all [] n all h = absurd (false≢true h)
  pending_all (ps ∷ lists) n all h =
      elim (has-cases (map (λ p. p.object) ps) (pending_numbers lists) n h) [
        | inl here ↦ objects_of ps n (all 0) here
        | inr later ↦ pending_all lists n (λ k. all (suc k)) later
      ]

  -- V holds of each root
  pub closed_roots : (w : World) (n : ℕ) → IsClosed allow V w → has (graph_of w).roots n ≡ true → V n
  closed_roots w n closed root = grind (arith, has-cases, present_of, pending_all)

  -- V holds of whatever a path leads to
  pub closed_ends : (w : World) (n : ℕ) → IsClosed allow V w → EndsPath allow (graph_of w) n → V n
  closed_ends w n closed ends =
      path_within allow (graph_of w) V (λ k there root. closed_roots w k closed root)
      (λ k m before target there. closed.targets k m before target) n ends.0 ends.1
