-- What is gone or doomed is out of reach: no root names it, and nothing else refers to it. A mark's end makes it so.
use Rattle.ref_base.proofs.Common.{arith, ◌≡◌, ℕ, zero, suc, true, false, List, [], ◌∷◌, ◌++◌, map, Option, Some, None}
use Rattle.ref_base.proofs.Common.{is_some, refl, sym, ap, ◌∙◌, inl, inr, ◌⊎◌, slice_index_or, AllByRecursion, or_from}
use Rattle.ref_base.proofs.Common.{false≢true, has, Graph, Object, Reference, object_at, is_there, Allowed, EndsPath}
use Rattle.ref_base.proofs.Common.{any_referent, no_referents, present, targets_of, targets_at, is_kept, MayDoom, World}
use Rattle.ref_base.proofs.Common.{Pending, graph_of, pending_of, pending_numbers, with_heap, without, shown}
use Rattle.std.proofs.lemmas.Bool.{or_parts}
use Rattle.ref_base.proofs.CarryRows.{all_more}
use Rattle.ref_base.proofs.HasLaws.{has-append, has-cases, has-left, has-right}
use Rattle.ref_base.proofs.Lookups.{has-present_at}
use Rattle.ref_base.proofs.PathLaws.{root_ends, path_within, targets_of-wider, target_ends}
use Rattle.ref_base.proofs.SeenObjects.{object_at-without}
use Rattle.ref_base.proofs.ApartWorlds.{OfValue, IsClosed, closed_roots}

-- ---- paths among fewer objects

-- the world without these objects
abbrev pub world_but : List ℕ → World → World
world_but gone w = with_heap w (record w.heap { objects = without gone w.heap.objects })

-- where whatever a root names isn't gone, nor whatever that refers to, a path leads to the same without what is gone
pub path_but : (V : ℕ → Type 0) (gone : List ℕ) (w : World) (allow : Allowed)
    → ((n : ℕ) → V n → has gone n ≡ false) → IsClosed any_referent V (world_but gone w) → (n : ℕ)
    → EndsPath allow (graph_of w) n → V n × EndsPath allow (graph_of (world_but gone w)) n
path_but V gone w allow kept closed n ends =
    let os : List Object = w.heap.objects in
    let part : Graph = graph_of (world_but gone w) in
    let there_still : (m : ℕ) → V m → is_there os m ≡ true → is_there (without gone os) m ≡ true =
    λ m is there. ap is_some (object_at-without gone os m (kept m is)) ∙ there in
    path_within allow (graph_of w) (λ m. V m × EndsPath allow part m)
    (λ m there root.
    let is : V m = closed_roots any_referent V (world_but gone w) m closed root in
    (is, root_ends allow part m (there_still m is there) root))
    (λ m k before target there.
    let same : has (targets_at allow (without gone os) m) k ≡ true =
    ap (λ (o : Option Object). has (targets_of allow o) k) (object_at-without gone os m (kept m before.0)) ∙ target in
    let is : V k =
    closed.targets m k before.0
    (targets_of-wider allow any_referent (λ r may. refl) (object_at (without gone os) m) k same) in
    (is, target_ends allow part m k before.1 same (there_still k is there)))
    n ends.0 ends.1

-- ---- at a mark's end

pub target_there : (allow : Allowed) (o : Option Object) (n : ℕ) → has (targets_of allow o) n ≡ true → is_some o ≡ true
target_there allow None n target = absurd (false≢true target)
target_there allow (Some o) n target = refl

-- an object outside the doomed refers, once the mark has ended, by its fields as before, and to no doomed referent
object_shown : (d : List ℕ) (o : Object) (n : ℕ) → has d o.no ≡ false
    → has (targets_of any_referent (Some (shown d o))) n ≡ true → (has (targets_of no_referents (Some o)) n ≡ true)
    ⊎ ((has (targets_of any_referent (Some o)) n ≡ true) × (has d n ≡ false))
object_shown d o n out target = grind (arith, has-cases, has-left)

target_shown : (d : List ℕ) (os : List Object) (m n : ℕ) → has d m ≡ false
    → has (targets_at any_referent (map (λ o. shown d o) os) m) n ≡ true → (has (targets_at no_referents os m) n ≡ true)
    ⊎ ((has (targets_at any_referent os m) n ≡ true) × (has d n ≡ false))
target_shown d [] m n out target = absurd (false≢true target)
target_shown d (o ∷ os) m n out target = grind (arith, object_shown, target_shown d os m n out)

-- each that is pending is a root
all_own : (ps : List Pending) → AllByRecursion (λ p. has (map (λ p. p.object) ps) p.object ≡ true) ps
all_own [] = tt
all_own (p ∷ ps) = grind (arith, all_more, all_own ps)

pub pending_roots : (lists : List (List Pending)) (k : ℕ)
    → AllByRecursion (λ p. has (pending_numbers lists) p.object ≡ true) (slice_index_or lists k [])
pending_roots [] k = tt
pending_roots (ps ∷ lists) zero = search (all_more, has-left, all_own ps)
pending_roots (ps ∷ lists) (suc k) = search (all_more, has-right, pending_roots lists k)

all_both : (P Q R : Pending → Type 0) (ps : List Pending) → ((p : Pending) → P p → Q p → R p) → AllByRecursion P ps
    → AllByRecursion Q ps → AllByRecursion R ps
all_both P Q R [] both all also = tt
all_both P Q R (p ∷ ps) both all also = (both p all.0 also.0, all_both P Q R ps both all.1 also.1)

-- where nothing that is gone is in reach, a mark's end leaves nothing in reach that is gone or doomed
module _ (gone d : List ℕ) (w : World) (moments : List Graph)
    (may : MayDoom w.policy (graph_of w) moments d)
    (there : (n : ℕ) → has d n ≡ true → is_there w.heap.objects n ≡ true)
    (closed : IsClosed any_referent (λ n. has gone n ≡ false) w) where
  abbrev IsOut : ℕ → Type 0
  IsOut n = has (gone ++ d) n ≡ false

  out_of : (n : ℕ) → has gone n ≡ false → has d n ≡ false → IsOut n
  out_of n kept spared = has-append gone d n ∙ or_from (has gone n) (has d n) kept spared

  -- no root is doomed
  root_out : (n : ℕ) → has gone n ≡ false → has (graph_of w).roots n ≡ true → IsOut n
  root_out n kept root = grind (arith, out_of)

  slot_out : (i : ℕ) (value : Option ℕ) → slice_index_or w.heap.slots i None ≡ value
      → OfValue (λ n. has gone n ≡ false) value → OfValue IsOut value
  slot_out i None is kept = tt
  slot_out i (Some n) is kept = search (root_out, has-left, has-present_at)

  fields_kept : (r : Reference) → no_referents r ≡ true → is_kept w.policy r ≡ true
  fields_kept r none = absurd (false≢true none)

  pub ended_closed : IsClosed any_referent IsOut
      (with_heap w (record w.heap { objects = map (λ o. shown d o) w.heap.objects }))
  ended_closed =
      let os : List Object = w.heap.objects in
      record {
        slots = λ i. slot_out i (slice_index_or w.heap.slots i None) refl (closed.slots i);
        holds = λ n held.
            root_out n (closed.holds n held)
            (has-left (present w.heap.slots ++ w.heap.holds) (pending_numbers w.pending) n
            (has-right (present w.heap.slots) w.heap.holds n held));
        pendings = λ k.
            all_both (λ p. has gone p.object ≡ false) (λ p. has (pending_numbers w.pending) p.object ≡ true)
            (λ p. IsOut p.object) (pending_of w k)
            (λ p kept root.
            root_out p.object kept
            (has-right (present w.heap.slots ++ w.heap.holds) (pending_numbers w.pending) p.object root))
            (closed.pendings k) (pending_roots w.pending k);
        targets = λ m n is target.
            let parts = or_parts (has gone m) (has d m) (sym (has-append gone d m) ∙ is) in
            elim (target_shown d os m n parts.1 target) [
              | inl field ↦
                  out_of n
                  (closed.targets m n parts.0
                  (targets_of-wider no_referents any_referent (λ r none. refl) (object_at os m) n field))
                  (may.closed m n (target_there no_referents (object_at os m) n field) parts.1
                  (targets_of-wider no_referents (is_kept w.policy) fields_kept (object_at os m) n field))
              | inr referent ↦ out_of n (closed.targets m n parts.0 referent.0) referent.1
            ];
      }
