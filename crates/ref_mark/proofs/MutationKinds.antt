-- The kinds of mutations: of slots and holds alone, of one object, and of one more object.
use Rattle.ref_mark.proofs.Common.{◌≡◌, ℕ, true, false, refl, sym, subst, arith, List, length, Option, Some, is_some}
use Rattle.ref_mark.proofs.Common.{◌⊎◌, inl, inr, refers_into, has, Object, object_at, is_there, Allowed, targets_of}
use Rattle.ref_mark.proofs.Common.{soft_and_weak_referents, IsRising, is_kept, changed_at, reference_in, State}
use Rattle.ref_mark.proofs.Common.{is_in_cycle, CycleHeap, is_white, is_past_mark, MarkStands}
use Rattle.ref_mark.proofs.DoomedLists.{doomed-changed}
use Rattle.ref_mark.proofs.Mutations.{Change, IsMutation, roots_after}
use Rattle.ref_base.proofs.Lookups.{lookup-changed, numbers-changed}

-- slots and holds change
abbrev pub rooted : CycleHeap → List (Option ℕ) → List ℕ → Change
rooted k slots holds = record {
  objects = k.heap.objects;
  slots = slots;
  holds = holds;
  next = k.next;
  marked = k.marked;
  tags = k.tags;
  space = k.space;
}

pub rooted_mutation : (k : CycleHeap) (a : State) (slots : List (Option ℕ)) (holds pending todo : List ℕ)
    → MarkStands k a → length slots ≡ length k.heap.slots
    → (is_in_cycle k.phase ≡ true → (n : ℕ) → has (roots_after (rooted k slots holds) pending) n ≡ true
    → (is_white k n ≡ false) ⊎ (has todo n ≡ true))
    → ((n : ℕ) → has (roots_after (rooted k slots holds) pending) n ≡ true → is_there k.heap.objects n ≡ true)
    → IsMutation k (rooted k slots holds) pending todo
rooted_mutation k a slots holds pending todo stands count roots named = grind arith

-- slots and holds change, and the object of one number
abbrev pub altered : CycleHeap → List (Option ℕ) → List ℕ → ℕ → (Object → Object) → Change
altered k slots holds n f = record {
  objects = changed_at k.heap.objects n f;
  slots = slots;
  holds = holds;
  next = k.next;
  marked = k.marked;
  tags = k.tags;
  space = k.space;
}

-- An object may change so: it leads where it did or to roots; it stays a reference if it is one; it
-- refers to a white object only where it did, and once a mark has ended it goes on doing so.
pub record MayBecome (k : CycleHeap) (roots : List ℕ) (o p : Object) : Type 0 where
  pub leads : (allow : Allowed) (n : ℕ) → has (targets_of allow (Some p)) n ≡ true
      → (has (targets_of allow (Some o)) n ≡ true) ⊎ (has roots n ≡ true)
  pub references : is_some o.reference ≡ true → is_some p.reference ≡ true
  pub to_white : refers_into (is_white k) p.reference ≡ true → refers_into (is_white k) o.reference ≡ true
  pub white_stays : is_past_mark k.phase ≡ true → refers_into (is_white k) o.reference ≡ true
      → refers_into (is_white k) p.reference ≡ true

pub altered_mutation : (k : CycleHeap) (a : State) (slots : List (Option ℕ)) (holds : List ℕ) (i : ℕ)
    (f : Object → Object) (pending todo : List ℕ) → MarkStands k a → ((o : Object) → (f o).no ≡ o.no)
    → length slots ≡ length k.heap.slots
    → (is_in_cycle k.phase ≡ true → (n : ℕ) → has (roots_after (altered k slots holds i f) pending) n ≡ true
    → (is_white k n ≡ false) ⊎ (has todo n ≡ true))
    → ((n : ℕ) → has (roots_after (altered k slots holds i f) pending) n ≡ true → is_there k.heap.objects n ≡ true)
    → ((o : Object) → object_at k.heap.objects i ≡ Some o
    → MayBecome k (roots_after (altered k slots holds i f) pending) o (f o))
    → IsMutation k (altered k slots holds i f) pending todo
altered_mutation k a slots holds i f pending todo stands keeps count roots named become =
    let os = k.heap.objects in
    let after = roots_after (altered k slots holds i f) pending in
    let goes_to = is_kept k.policy in
    let stays : (n : ℕ) → is_there os n ≡ true → is_there (changed_at os i f) n ≡ true =
    lookup-changed (λ o p. is_some o ≡ true → is_some p ≡ true) os i f keeps (λ o there. there)
    (λ o found there. refl) in
    record {
      next = omega (arith);
      stays = stays;
      was = λ n there.
          inl
          (lookup-changed (λ o p. is_some p ≡ true → is_some o ≡ true) os i f keeps (λ o now. now)
          (λ o found now. refl) n there);
      rising = subst IsRising (sym (numbers-changed os i f keeps)) stands.orderly.rising;
      slots = count;
      doomed = doomed-changed k i f keeps;
      marked_stays = λ n marked. marked;
      marked_was = λ n marked. inl marked;
      unhealed = refl;
      choice = refl;
      roots = roots;
      named = λ n root. stays n (named n root);
      led = λ m n due target.
          stays n
          (elim
          (lookup-changed (λ o p. has (targets_of soft_and_weak_referents p) n ≡ true
          → (has (targets_of soft_and_weak_referents o) n ≡ true) ⊎ (has after n ≡ true)) os i f keeps
          (λ o now. inl now) (λ o found. (become o found).leads soft_and_weak_referents n) m target) [
            | inl before ↦ stands.there.led m n due before
            | inr root ↦ named n root
          ]);
      leads = λ m n target.
          elim
          (lookup-changed (λ o p. has (targets_of goes_to p) n ≡ true
          → (has (targets_of goes_to o) n ≡ true) ⊎ (has after n ≡ true)) os i f keeps (λ o now. inl now)
          (λ o found. (become o found).leads goes_to n) m target) [
            | inl before ↦ inl before
            | inr root ↦ inr (inl root)
          ];
      references =
          lookup-changed (λ o p. is_some (reference_in o) ≡ true → is_some (reference_in p) ≡ true) os i f keeps
          (λ o now. now) (λ o found. (become o found).references);
      to_white = λ begun.
          lookup-changed (λ o p. refers_into (is_white k) (reference_in p) ≡ true
          → refers_into (is_white k) (reference_in o) ≡ true) os i f keeps (λ o now. now)
          (λ o found. (become o found).to_white);
      white_stays = λ past.
          lookup-changed (λ o p. refers_into (is_white k) (reference_in o) ≡ true
          → refers_into (is_white k) (reference_in p) ≡ true) os i f keeps (λ o now. now)
          (λ o found. (become o found).white_stays past);
    }
