-- The list of the doomed: its members are the doomed, and what doesn't change it.
use Rattle.ref_mark.proofs.Common.{occupied, ◌≡◌, ℕ, ◌+◌, ◌<◌, true, false, ◌==◌, if◌then◌else◌, refl, sym, ◌∙◌, ap}
use Rattle.ref_mark.proofs.Common.{arith, inl}
use Rattle.ref_mark.proofs.Common.{inr, List, [], ◌∷◌, ◌++◌, Option, Some, None, cases_Bool, eq-eqb, with_new_tag, has}
use Rattle.ref_mark.proofs.Common.{Object, is_there, changed_at, with_changed, changed_in, made, is_in, Phase, Idle}
use Rattle.ref_mark.proofs.Common.{Marking, Clearing, Sweeping, Moving, is_in_cycle, CycleHeap, is_past_mark, is_doomed}
use Rattle.ref_mark.proofs.Common.{doomed}
use Rattle.ref_mark.proofs.Common.{young, with_made, unmarked, shown_heap}
use Rattle.ref_base.proofs.OneMore.{has-one_more}
use Rattle.ref_objects.proofs.SparedLemmas.{has-unmarked}
use Rattle.ref_base.proofs.ShownObjects.{map-shown_none}

-- ---- what isn't marked

-- a changed object that keeps its number changes nothing of it
pub unmarked-changed : (os : List Object) (marked : List ℕ) (n : ℕ) (f : Object → Object)
    → ((o : Object) → (f o).no ≡ o.no) → unmarked (changed_at os n f) marked ≡ unmarked os marked
unmarked-changed [] marked n f keeps = refl
unmarked-changed (o ∷ os) marked n f keeps = grind (arith, unmarked-changed os marked n f keeps)

-- nor does one more object that is marked
pub unmarked-push : (os : List Object) (o : Object) (marked more : List ℕ) → is_there os o.no ≡ false
    → has more o.no ≡ true → ((n : ℕ) → (o.no == n) ≡ false → has more n ≡ has marked n)
    → unmarked (os ++ o ∷ []) more ≡ unmarked os marked
unmarked-push [] o marked more new within others = simp within refl
unmarked-push (p ∷ os) o marked more new within others = grind (arith, unmarked-push os o marked more)

-- ---- the doomed

-- the list of the doomed has the doomed
pub has-doomed : (k : CycleHeap) (n : ℕ) → has (doomed k) n ≡ is_doomed k n
has-doomed k n = grind (arith, has-unmarked)

-- nor does a changed object that keeps its number
pub doomed-changed : (k : CycleHeap) (n : ℕ) (f : Object → Object) → ((o : Object) → (f o).no ≡ o.no)
    → doomed (record k { heap = with_changed k.heap n f }) ≡ doomed k
doomed-changed k n f keeps =
    ap (λ (ns : List ℕ). if is_past_mark k.phase then ns else []) (unmarked-changed k.heap.objects k.marked n f keeps)

pub doomed-changed_in : (k : CycleHeap) (held : Option ℕ) (f : Object → Object) → ((o : Object) → (f o).no ≡ o.no)
    → doomed (record k { heap = changed_in k.heap held f }) ≡ doomed k
doomed-changed_in k None f keeps = refl
doomed-changed_in k (Some n) f keeps = doomed-changed k n f keeps

-- past the mark a cycle has begun
pub past_is_in_cycle : (phase : Phase) → is_past_mark phase ≡ true → is_in_cycle phase ≡ true
past_is_in_cycle Idle past = past
past_is_in_cycle Marking past = refl
past_is_in_cycle Clearing past = refl
past_is_in_cycle Sweeping past = refl
past_is_in_cycle Moving past = past

-- and no mark runs
pub past_is_not_marking : (phase : Phase) → is_past_mark phase ≡ true → is_in phase Marking ≡ false
past_is_not_marking Idle past = refl
past_is_not_marking Marking past = sym past
past_is_not_marking Clearing past = refl
past_is_not_marking Sweeping past = refl
past_is_not_marking Moving past = refl

pub is_there-push : (os : List Object) (o : Object) → is_there (os ++ o ∷ []) o.no ≡ true
is_there-push [] o = let own : (o.no == o.no) ≡ true = eq-eqb o.no o.no refl in simp own refl
is_there-push (p ∷ os) o = grind (arith, is_there-push os o)

-- a number that all objects are below is that of none
pub is_there-above : (os : List Object) (n : ℕ) → ((m : ℕ) → is_there os m ≡ true → m < n) → is_there os n ≡ false
is_there-above os n below = grind arith

-- past the mark, what is made is marked
unmarked-young : (k : CycleHeap) (os : List Object) (o : Object) → is_in_cycle k.phase ≡ true → is_there os o.no ≡ false
    → k.heap.objects ≡ os ++ o ∷ []
    → unmarked (young k o.no).heap.objects (young k o.no).marked ≡ unmarked os k.marked
unmarked-young k os o begun new is = grind (arith, is_there-push, unmarked-push, has-one_more)

pub young-phase : (k : CycleHeap) (n : ℕ) → (young k n).phase ≡ k.phase
young-phase k n = grind arith

-- what is made is not doomed, and dooms nothing
pub doomed-made : (k : CycleHeap) (m d : ℕ) (o : Object) → is_there k.heap.objects o.no ≡ false
    → doomed (with_made k m d o) ≡ doomed k
doomed-made k m d o new =
    let more : CycleHeap = record k {
      heap = made k.heap m d o;
      next = k.next + 1;
      tags = with_new_tag k.tags o.no;
      space = occupied k.space o.no;
    } in
    let phase : (with_made k m d o).phase ≡ k.phase = young-phase more o.no in
    elim (cases_Bool (is_past_mark k.phase)) [
      | inl past ↦
          let still : is_past_mark (with_made k m d o).phase ≡ true = ap is_past_mark phase ∙ past in
          simp (past, still)
          (unmarked-young more k.heap.objects o (past_is_in_cycle k.phase past) new refl)
      | inr before ↦
          let still : is_past_mark (with_made k m d o).phase ≡ false = ap is_past_mark phase ∙ before in
          simp (before, still) refl
    ]

-- before a mark has ended, mutators read the heap as it is
pub shown_heap-before : (k : CycleHeap) → is_past_mark k.phase ≡ false → shown_heap k ≡ k.heap
shown_heap-before k before = grind (arith, map-shown_none k.heap.objects)
