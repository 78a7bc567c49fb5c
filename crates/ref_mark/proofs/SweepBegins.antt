-- A sweep begins: what isn't marked is condemned, and what it refers to forgotten.
use Rattle.ref_mark.proofs.Common.{◌≡◌, ℕ, true, false, ◌&&◌, not, refl, sym, ap, ◌∙◌, arith, List, [], ◌∷◌, ◌++◌, map}
use Rattle.ref_mark.proofs.Common.{Option, Some, None, inl, inr, Bool, Allowed, allowed_referent, targets_of, Heap}
use Rattle.ref_mark.proofs.Common.{false≢true, false_from_ne_true, present, if_any, forgotten, numbers, referent_of}
use Rattle.ref_mark.proofs.Common.{has, Object, Reference, is_there, object_at, reference_at, refers_into, heap_but}
use Rattle.ref_mark.proofs.Common.{shown, is_in, is_kept, joined, State, graph_of, Clearing, Sweeping, CycleHeap}
use Rattle.ref_mark.proofs.Common.{is_white, is_black, is_in_cycle, unmarked, doomed, MarkStands, ReadsAs}
use Rattle.ref_mark.proofs.Common.{cycle_in_phase, ground_of, fields_in}
use Rattle.ref_mark.specs.CycleHeaps.{sweep_begun}
use Rattle.ref_objects.specs.Grounds.{NamesSpared, IsClosed, named_in}
use Rattle.ref_base.proofs.HasLaws.{has-cases, has-left}
use Rattle.ref_base.proofs.Reshaping.{is_there-reshaped}
use Rattle.ref_base.proofs.Forgetting.{forgotten-shape}
use Rattle.ref_objects.proofs.SparedLemmas.{has-unmarked, kept_at, named_there}
use Rattle.ref_mark.proofs.RootFacts.{slot_root, hold_root}

-- ---- nothing that is marked refers to what isn't

field_target : (allow : Allowed) (o : Option Object) (n : ℕ) → has (present (fields_in o)) n ≡ true
    → has (targets_of allow o) n ≡ true
field_target allow None n field = field
field_target allow (Some o) n field = has-left (present o.fields) (allowed_referent allow o.reference) n field

refers_to : (test : ℕ → Bool) (r : Option Reference) (n : ℕ) → has (if_any (referent_of r)) n ≡ true
    → test n ≡ true → refers_into test r ≡ true
refers_to test None n referent passes = absurd (false≢true referent)
refers_to test (Some r) n referent passes = grind arith

module _ (k : CycleHeap) (a : State) (stands : MarkStands k a) (clearing : is_in k.phase Clearing ≡ true)
    (none : joined k.found ≡ []) (names : NamesSpared (ground_of k)) where
  begun : is_in_cycle k.phase ≡ true
  begun = grind arith

  any_root : (n : ℕ) → has (present k.heap.slots ++ k.heap.holds) n ≡ true
      → has (graph_of a.world).roots n ≡ true
  any_root n root = grind (arith, has-cases, slot_root, hold_root)

  root_marked : (n : ℕ) → has (present k.heap.slots ++ k.heap.holds) n ≡ true → has k.marked n ≡ true
  root_marked n root = grind (arith, any_root)

  -- what a marked object names isn't white: as a field, since it is black, or as a referent, since none is left to
  -- look at
  not_white : (m n : ℕ) → has k.marked m ≡ true → has (named_in (object_at k.heap.objects m)) n ≡ true
      → is_white k n ≡ false
  not_white m n marked by =
      let black = is_black_there m marked (named_there (object_at k.heap.objects m) n by) in
      elim (has-cases (present (fields_in (object_at k.heap.objects m)))
      (if_any (referent_of (reference_at k.heap m))) n by) [
        | inl field ↦
            elim ((stands.facts begun).closed m n black
            (field_target (is_kept k.policy) (object_at k.heap.objects m) n field)) [
              | inl other ↦ other
              | inr todo ↦ absurd (false≢true todo)
            ]
        | inr referent ↦
            false_from_ne_true (is_white k n)
            (λ white.
            false≢true
            (sym (ap (λ ns. has ns m) none)
            ∙ (stands.clearing clearing).all_found m black
            (refers_to (is_white k) (reference_at k.heap m) n referent white)))
      ]
    where
      is_black_there : (m : ℕ) → has k.marked m ≡ true → is_there k.heap.objects m ≡ true → is_black k m ≡ true
      is_black_there m marked there = let none = (stands.clearing clearing).no_grey in grind arith

  named_marked : (m n : ℕ) → has k.marked m ≡ true → has (named_in (object_at k.heap.objects m)) n ≡ true
      → has k.marked n ≡ true
  named_marked m n marked by = grind (arith, not_white)

  pub closed_clearing : IsClosed k.heap (has k.marked)
  closed_clearing = record { rooted = root_marked; closed = named_marked }

-- ---- what is forgotten reads as before

blank_twice : (fields : List (Option ℕ))
    → map {B = Option ℕ} (λ v. None) (map {B = Option ℕ} (λ v. None) fields) ≡ map (λ v. None) fields
blank_twice [] = refl
blank_twice (v ∷ vs) = ap (λ ws. None ∷ ws) (blank_twice vs)

forgot_twice : (d : List ℕ) (o : Object) → forgotten d (shown d (forgotten d o)) ≡ forgotten d (shown d o)
forgot_twice d o = grind (arith, blank_twice)

all_forgot_twice : (d : List ℕ) (os : List Object)
    → map (λ o. forgotten d o) (map (λ o. shown d o) (map (λ o. forgotten d o) os))
    ≡ map (λ o. forgotten d o) (map (λ o. shown d o) os)
all_forgot_twice d [] = refl
all_forgot_twice d (o ∷ os) = grind (arith, forgot_twice, all_forgot_twice d os)

unmarked-forgotten : (d : List ℕ) (os : List Object) (marked : List ℕ)
    → unmarked (map (λ o. forgotten d o) os) marked ≡ unmarked os marked
unmarked-forgotten d [] marked = refl
unmarked-forgotten d (o ∷ os) marked = grind (arith, unmarked-forgotten d os marked)

numbers-forgotten : (d : List ℕ) (os : List Object) → numbers (map (λ o. forgotten d o) os) ≡ numbers os
numbers-forgotten d [] = refl
numbers-forgotten d (o ∷ os) = grind (arith, numbers-forgotten d os)

module _ (k : CycleHeap) (a : State) (stands : MarkStands (cycle_in_phase k Sweeping) a) where
  abbrev d : List ℕ
  d = unmarked k.heap.objects k.marked

  abbrev j : CycleHeap
  j = sweep_begun k

  same_doomed : doomed j ≡ d
  same_doomed = unmarked-forgotten d k.heap.objects k.marked

  abbrev shown_by : List ℕ → Heap
  shown_by e = record j.heap { objects = map (λ o. shown e o) j.heap.objects }

  reads : ReadsAs j a.world.heap
  reads =
      ap (λ e. heap_but e a.world.heap) same_doomed ∙ stands.heap
      ∙ sym (ap (λ e. heap_but e (shown_by e)) same_doomed
      ∙ ap (λ (os : List Object). let h : Heap = record k.heap { objects = os } in h)
      (all_forgot_twice d k.heap.objects))

  there_same : (n : ℕ) → is_there j.heap.objects n ≡ is_there k.heap.objects n
  there_same n = is_there-reshaped (λ o. forgotten d o) (forgotten-shape d) k.heap.objects n

  white_same : (n : ℕ) → is_white j n ≡ is_white k n
  white_same n = ap (λ b. b && not (has k.marked n)) (there_same n)

  -- a marked object is as it was
  marked_same : (n : ℕ) → has k.marked n ≡ true → object_at j.heap.objects n ≡ object_at k.heap.objects n
  marked_same n marked =
      kept_at d k.heap.objects n (has-unmarked k.heap.objects k.marked n ∙ simp marked (grind arith))

  pub sweep_begun_stands : MarkStands j a
  sweep_begun_stands = grind (arith, reads, same_doomed, numbers-forgotten, white_same, marked_same, there_same)
