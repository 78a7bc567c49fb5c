-- The rows of hands: the first pending references of a worker leave its list, and there is one hold more of each.
use Rattle.ref_clear.proofs.Common.{arith, ◌≡◌, ℕ, ◌<◌, zero, suc, true, ◌==◌, ◌⊎◌, refl, sym, ap, subst, ◌∙◌, List, []}
use Rattle.ref_clear.proofs.Common.{◌∷◌, ◌++◌, map, take, drop, length, None, inl, append_assoc, map-append}
use Rattle.ref_clear.proofs.Common.{slice_index_or, slice_set, eq-eqb, length-set, has, AreDistinct, present, Heap}
use Rattle.ref_clear.proofs.Common.{one_more, World, Pending, pending_numbers, State, ticked, with_world, HeapAccepts}
use Rattle.ref_clear.proofs.Common.{CycleHeap, ClearHeap, with_mark, holding, pending_at, handed_from}
use Rattle.ref_clear.proofs.Common.{refusal_in, HeapStands}
use Rattle.std.proofs.lemmas.List.{set-get_or, get_or-set_same, set-set, take-append-drop}
use Rattle.ref_base.specs.HeapSteps.{HeldNotice}
use Rattle.ref_base.specs.Worlds.{pending_of, with_heap, with_pending, notice_from}
use Rattle.ref_base.specs.Refusals.{batch_of}
use Rattle.ref_base.specs.Replay.{handed_on, handed_each, without_pending}
use Rattle.ref_base.specs.CollectorRows.{HandsOn, one_handed, all_handed}
use Rattle.ref_base.proofs.HasLaws.{has-left, has-right, has-cases}
use Rattle.ref_base.proofs.OneMore.{has-one_more}
use Rattle.ref_base.proofs.RowForms.{ticked_world}
use Rattle.ref_mark.proofs.DistinctLists.{distinct-right}
use Rattle.ref_mark.proofs.Mutations.{Change, IsMutation}
use Rattle.ref_mark.proofs.MutatedStates.{mutated_beside}
use Rattle.ref_mark.proofs.MutationKinds.{rooted, rooted_mutation}
use Rattle.ref_mark.proofs.RootFacts.{slot_root, hold_root, pending_root, root_cases, root_is_there, root_is_not_white}
use Rattle.ref_mark.proofs.ReferenceRows.{unmutated_stands}
use Rattle.ref_clear.specs.ClearHeaps.{with_pending_at, holding_each, handed_some}
use Rattle.ref_clear.proofs.BatchFronts.{batch_of-front}
use Rattle.ref_clear.proofs.TakenLists.{numbers_in}
use Rattle.ref_base.specs.declared.heap_step.HeapStep.TheVariants as heap

-- ---- lists of which one is without its first

-- what is in a list without some numbers is in that list
pub has-but_some : (front some back : List ℕ) (m : ℕ) → has (front ++ back) m ≡ true
    → has (front ++ (some ++ back)) m ≡ true
has-but_some front some back m h = grind (arith, has-cases, has-left, has-right)

pub AreDistinct-but_some : (front some back : List ℕ) → AreDistinct (front ++ (some ++ back))
    → AreDistinct (front ++ back)
AreDistinct-but_some [] some back distinct = distinct-right some back distinct
AreDistinct-but_some (m ∷ ms) some back distinct =
    grind (arith, has-but_some, AreDistinct-but_some ms some back distinct.1)

-- where one list of pending references loses its first, all as one lose their numbers
pub pending_numbers-rest : (pss : List (List Pending)) (w : ℕ) (ps rest : List Pending)
    → slice_index_or pss w [] ≡ ps ++ rest
    → (front : List ℕ) × (back : List ℕ) × (pending_numbers pss ≡ front ++ (numbers_in ps ++ back))
    × (pending_numbers (slice_set pss w rest) ≡ front ++ back)
pending_numbers-rest [] w [] rest is = ([], [], refl, refl)
pending_numbers-rest [] w (p ∷ ps) rest is = absurd (cc)
pending_numbers-rest (qs ∷ pss) zero ps rest is = (
  [],
  numbers_in rest ++ pending_numbers pss,
  ap (λ ls. pending_numbers (ls ∷ pss)) is
      ∙ ap (λ ns. ns ++ pending_numbers pss) (map-append (λ (p : Pending). p.object) ps rest)
      ∙ append_assoc (numbers_in ps) (numbers_in rest) (pending_numbers pss),
  refl,
)
pending_numbers-rest (qs ∷ pss) (suc w) ps rest is =
    let later = pending_numbers-rest pss w ps rest is in
    let own = numbers_in qs in (
      own ++ later.0,
      later.1,
      ap (λ ns. own ++ ns) later.2 ∙ sym (append_assoc own later.0 (numbers_in ps ++ later.1)),
      ap (λ ns. own ++ ns) later.3 ∙ sym (append_assoc own later.0 later.1),
    )

-- ---- one hold more of each

abbrev pub more_holds : List ℕ → List Pending → List ℕ
more_holds holds [] = holds
more_holds holds (p ∷ ps) = more_holds (one_more holds p.object) ps

has-more_holds : (holds : List ℕ) (ps : List Pending) (m : ℕ) → has (more_holds holds ps) m ≡ true
    → (has holds m ≡ true) ⊎ (has (numbers_in ps) m ≡ true)
has-more_holds holds [] m within = inl within
has-more_holds holds (p ∷ ps) m within =
    grind (arith, has-one_more, has-more_holds (one_more holds p.object) ps m within)

-- where all that are held more were pending, and nothing new is pending, each root was one before
roots_before : (slots holds pending fewer : List ℕ) (ps : List Pending)
    → ((m : ℕ) → has (numbers_in ps) m ≡ true → has pending m ≡ true)
    → ((m : ℕ) → has fewer m ≡ true → has pending m ≡ true) → (m : ℕ)
    → has (slots ++ more_holds holds ps ++ fewer) m ≡ true → has (slots ++ holds ++ pending) m ≡ true
roots_before slots holds pending fewer ps were still m after =
    grind (arith, root_cases, slot_root, has-more_holds, hold_root, pending_root)

-- that is all that a heap holds more
pub holding_each-is : (k : CycleHeap) (ps : List Pending)
    → holding_each k ps ≡ record k { heap = record k.heap { holds = more_holds k.heap.holds ps } }
holding_each-is k [] = refl
holding_each-is k (p ∷ ps) = holding_each-is (holding k p.object) ps

-- ---- a worker's first pending references leave its list

-- without the first of its number, the rest is left
without_pending-first : (p : Pending) (ps : List Pending) → without_pending (p ∷ ps) p.object ≡ ps
without_pending-first p ps = let own : (p.object == p.object) ≡ true = eq-eqb p.object p.object refl in simp own refl

-- a list that isn't empty is that of a worker
list_within : (pss : List (List Pending)) (w : ℕ) {p : Pending} {ps : List Pending} → slice_index_or pss w [] ≡ p ∷ ps
    → w < length pss
list_within [] w is = absurd (cc)
list_within (qs ∷ pss) zero is = omega arith
list_within (qs ∷ pss) (suc w) is = omega (arith, list_within pss w is)

-- the rest is read then
pub rest_read : (pss : List (List Pending)) (w : ℕ) {p : Pending} {ps : List Pending} (rest : List Pending)
    → slice_index_or pss w [] ≡ p ∷ ps → slice_index_or (slice_set pss w rest) w [] ≡ rest
rest_read pss w rest is = get_or-set_same pss w rest [] (list_within pss w is)

-- as they are handed on one after the other, so all are handed on
each_handed : (v : World) (w : ℕ) (ps rest : List Pending) → pending_of v w ≡ ps ++ rest
    → handed_each v w (map (notice_from w) ps)
    ≡ with_heap (with_pending v w rest) (record v.heap { holds = more_holds v.heap.holds ps })
each_handed v w [] rest is =
    ap (λ (pss : List (List Pending)). record v { pending = pss })
    (sym (set-get_or v.pending w []) ∙ ap (λ (qs : List Pending). slice_set v.pending w qs) is)
each_handed v w (p ∷ ps) rest is =
    let u : World = handed_on v w p.object in
    let first : without_pending (pending_of v w) p.object ≡ ps ++ rest =
    ap (λ (qs : List Pending). without_pending qs p.object) is ∙ without_pending-first p (ps ++ rest) in
    let left : pending_of u w ≡ ps ++ rest = rest_read v.pending w _ is ∙ first in
    each_handed u w ps rest left
    ∙ ap (λ (pss : List (List Pending)). with_heap (record v { pending = pss })
    (record v.heap { holds = more_holds (one_more v.heap.holds p.object) ps }))
    (set-set v.pending w (without_pending (pending_of v w) p.object) rest)

-- ---- the rows

module _ (c : ClearHeap) (a : State) (w : ℕ) (stands : HeapStands c a) where
  none_handed : HeapStands c (ticked a)
  none_handed = grind (arith, unmutated_stands, ticked_world)

  same_pending : pending_of a.world w ≡ pending_at c w
  same_pending = ap (λ (pss : List (List Pending)). slice_index_or pss w []) stands.pending

  -- each front of a worker's pending references may be handed on
  pub front_handed : (ps rest : List Pending) → pending_at c w ≡ ps ++ rest
      → HeapStands (with_pending_at (with_mark c (holding_each c.mark ps)) w rest)
      (ticked (with_world a (handed_each a.world w (map (notice_from w) ps))))
  front_handed ps rest is =
      let k = c.mark in
      let holds = more_holds k.heap.holds ps in
      let pending = pending_numbers a.world.pending in
      let v : World = with_pending a.world w rest in
      let after : v.pending ≡ slice_set c.pending w rest =
      ap (λ (pss : List (List Pending)). slice_set pss w rest) stands.pending in
      let parts = pending_numbers-rest c.pending w ps rest is in
      let all : pending ≡ pending_numbers c.pending = ap pending_numbers stands.pending in
      let now : pending_numbers v.pending ≡ parts.0 ++ parts.1 = ap pending_numbers after ∙ parts.3 in
      let fewer : (m : ℕ) → has (pending_numbers (slice_set c.pending w rest)) m ≡ true
      → has (pending_numbers c.pending) m ≡ true = λ m within.
      subst (λ (ns : List ℕ). has ns m ≡ true) (sym parts.2)
      (has-but_some parts.0 (numbers_in ps) parts.1 m (subst (λ (ns : List ℕ). has ns m ≡ true) parts.3 within)) in
      let were : (m : ℕ) → has (numbers_in ps) m ≡ true → has pending m ≡ true = λ m within.
      subst (λ (ns : List ℕ). has ns m ≡ true) (sym (all ∙ parts.2))
      (has-right parts.0 (numbers_in ps ++ parts.1) m (has-left (numbers_in ps) parts.1 m within)) in
      let was = roots_before (present k.heap.slots) k.heap.holds pending (pending_numbers v.pending) ps were
      (λ m within.
      subst (λ (ns : List ℕ). has ns m ≡ true) (sym all)
      (fewer m (subst (λ (pss : List (List Pending)). has (pending_numbers pss) m ≡ true) after within))) in
      let change : Change = rooted k k.heap.slots holds in
      let mutation : IsMutation k change (pending_numbers v.pending) [] =
      rooted_mutation k a k.heap.slots holds (pending_numbers v.pending) [] stands.mark refl
      (λ begun m root. inl (root_is_not_white k a stands.mark begun m (was m root)))
      (λ m root. root_is_there k a stands.mark m (was m root)) in
      let u : World = with_heap v (record a.world.heap { holds = more_holds a.world.heap.holds ps }) in
      let j : CycleHeap = record k { heap = record k.heap { holds = holds } } in
      let stood : HeapStands (with_pending_at (with_mark c j) w rest) (ticked (with_world a u)) = record {
        mark =
            mutated_beside k change a v (record { policy = refl; cycle = refl; phase = refl }) stands.mark mutation
            (record a.world.heap { holds = more_holds a.world.heap.holds ps }) a.next
            (ap (λ (h : Heap). record h { holds = more_holds h.holds ps }) stands.mark.heap) stands.mark.next;
        pending = ap (λ (t : World). t.pending) (ticked_world (with_world a u)) ∙ after;
        waiting = record {
          workers = length-set c.pending w rest ∙ stands.waiting.workers;
          once =
              subst AreDistinct (sym parts.3)
              (AreDistinct-but_some parts.0 (numbers_in ps) parts.1 (subst AreDistinct parts.2 stands.waiting.once));
          cleared = λ m within. stands.waiting.cleared m (fewer m within);
        };
      } in
      subst
      (λ (i : CycleHeap).
      HeapStands (with_pending_at (with_mark c i) w rest)
      (ticked (with_world a (handed_each a.world w (map (notice_from w) ps))))) (sym (holding_each-is k ps))
      (subst (λ (t : World). HeapStands (with_pending_at (with_mark c j) w rest) (ticked (with_world a t)))
      (sym (each_handed a.world w ps rest (same_pending ∙ is))) stood)

  -- a hand of one, by what is pending for the worker
  hand_by : (ps : List Pending) → pending_at c w ≡ ps
      → (b : State) × HandsOn a w (one_handed w (take 1 ps)) (take 1 ps) (one_handed w ps) b
      × HeapStands (handed_from c w ps) b
  hand_by [] is = (ticked a, (refl, refl), none_handed)
  hand_by (p ∷ ps) is =
      (ticked (with_world a (handed_on a.world w p.object)), (refl, refl), front_handed (p ∷ []) ps is)

pub hand_row : (c : ClearHeap) (a : State) (w : ℕ) → HeapStands c a → refusal_in c (heap.Hand w) ≡ None
    → (b : State) × HeapAccepts a (heap.Hand w) (one_handed w (pending_at c w)) b
    × HeapStands (handed_from c w (pending_at c w)) b
hand_row c a w stands accepted =
    let row = hand_by c a w stands (pending_at c w) refl in (
      row.0,
      subst (λ (ps : List Pending). HandsOn a w (one_handed w (take 1 ps)) (take 1 ps) (one_handed w (pending_at c w))
          row.0)
          (sym (same_pending c a w stands)) row.1,
      row.2,
    )

pub hands_row : (c : ClearHeap) (a : State) (w max : ℕ) (batch : List HeldNotice) → HeapStands c a
    → refusal_in c (heap.Hands w max batch) ≡ None
    → (b : State) × HeapAccepts a (heap.Hands w max batch) (all_handed w (batch_of max (pending_at c w))) b
    × HeapStands (handed_some c w (length (batch_of max (pending_at c w)))) b
hands_row c a w max batch stands accepted =
    let all : List Pending = pending_at c w in
    let some : List Pending = batch_of max all in
    let count = length some in
    let handed = front_handed c a w stands (take count all) (drop count all) (sym (take-append-drop count all)) in
    let b : State = ticked (with_world a (handed_each a.world w (map (notice_from w) some))) in (
      b,
      subst
          (λ (ps : List Pending). HandsOn a w (all_handed w (batch_of max ps)) (batch_of max ps) (all_handed w some) b)
          (sym (same_pending c a w stands)) (refl, refl),
      subst (λ (ps : List Pending). HeapStands (handed_some c w count)
          (ticked (with_world a (handed_each a.world w (map (notice_from w) ps)))))
          (sym (batch_of-front max all)) handed,
    )
