-- A mutator makes an object: it is marked where a cycle has begun, and a slot holds it.
use Rattle.ref_mark.proofs.Common.{occupied, ◌≡◌, ℕ, ◌+◌, ◌*◌, ◌<◌, true, false, ◌==◌, arith, refl, sym, ap, subst, ◌∙◌}
use Rattle.ref_mark.proofs.Common.{[], ◌∷◌}
use Rattle.ref_mark.proofs.Common.{◌++◌, Option, Some, None, is_some, ◌⊎◌, inl, inr, slice_set, cases_Bool, eq-eqb}
use Rattle.ref_mark.proofs.Common.{false≢true, true≢false, length-set, with_new_tag, refers_into, has, Object}
use Rattle.ref_mark.proofs.Common.{object_at, is_there, targets_of, targets_at, soft_and_weak_referents, is_kept, made}
use Rattle.ref_mark.proofs.Common.{reference_in, reference_at, pending_numbers, has_slot, State, is_in_cycle, CycleHeap}
use Rattle.ref_mark.proofs.Common.{is_white, is_due, doomed, young, with_made, MarkStands}
use Rattle.std.proofs.lemmas.Bool.{eqb-true}
use Rattle.ref_base.proofs.OneMore.{has-one_more}
use Rattle.ref_mark.proofs.DoomedLists.{doomed-made}
use Rattle.ref_mark.proofs.Mutations.{Change, mutated, IsMutation, IsNew, MayLead, roots_after, referring_is_there}
use Rattle.ref_base.proofs.Lookups.{object_at-push, object_at-pushed, rising-push, has-present_here}
use Rattle.ref_mark.proofs.RootFacts.{slot_root, roots_of_set, each_root_of_set, root_is_there, slot_within}

-- ---- what is made is marked

young-only : (k : CycleHeap) (n : ℕ) → young k n ≡ record k { marked = (young k n).marked }
young-only k n = grind arith

young-stays : (k : CycleHeap) (n m : ℕ) → has k.marked m ≡ true → has (young k n).marked m ≡ true
young-stays k n m marked = grind (arith, has-one_more)

young-was : (k : CycleHeap) (n m : ℕ) → has (young k n).marked m ≡ true → (has k.marked m ≡ true) ⊎ (n ≡ m)
young-was k n m marked = grind (arith, has-one_more)

young-marked : (k : CycleHeap) (n : ℕ) → is_in_cycle k.phase ≡ true → is_there k.heap.objects n ≡ true
    → has (young k n).marked n ≡ true
young-marked k n begun there = grind (arith, has-one_more)

-- ---- the mutation

-- the heap with one more object, before that is marked
abbrev pub grown : CycleHeap → ℕ → ℕ → Object → CycleHeap
grown k m d o = record k {
  heap = made k.heap m d o;
  next = k.next + 1;
  tags = with_new_tag k.tags o.no;
  space = occupied k.space o.no;
}

abbrev pub making : CycleHeap → ℕ → ℕ → Object → Change
making k m d o = record {
  objects = k.heap.objects ++ o ∷ [];
  slots = slice_set k.heap.slots (16 * m + d) (Some o.no);
  holds = k.heap.holds;
  next = k.next + 1;
  marked = (young (grown k m d o) o.no).marked;
  tags = with_new_tag k.tags o.no;
  space = occupied k.space o.no;
}

pub mutated-making : (k : CycleHeap) (m d : ℕ) (o : Object) → with_made k m d o ≡ mutated k (making k m d o)
mutated-making k m d o = young-only (grown k m d o) o.no

-- the object has the next number, and leads and refers to nothing white
module _ (k : CycleHeap) (a : State) (m d : ℕ) (o : Object) (stands : MarkStands k a)
    (slot : has_slot k.heap m d ≡ true)
    (number : o.no ≡ k.next)
    (leads_off : is_in_cycle k.phase ≡ true → (n : ℕ)
    → has (targets_of (is_kept k.policy) (Some o)) n ≡ true → is_white k n ≡ false)
    (refers_off : is_in_cycle k.phase ≡ true → refers_into (is_white k) o.reference ≡ false)
    (led_there : (n : ℕ) → has (targets_of soft_and_weak_referents (Some o)) n ≡ true
    → is_there k.heap.objects n ≡ true) where
  new_is_absent : is_there k.heap.objects o.no ≡ false
  new_is_absent = grind arith

  new_is_there : is_there (k.heap.objects ++ o ∷ []) o.no ≡ true
  new_is_there = search (eq-eqb, object_at-pushed, new_is_absent)

  -- what is at a number that wasn't there is the new object
  only_new : (P : Option Object → Type 0) (n : ℕ) → is_there k.heap.objects n ≡ false
      → P (object_at (k.heap.objects ++ o ∷ []) n) → P (object_at (o ∷ []) n)
  only_new P n absent = subst P (object_at-pushed k.heap.objects o n absent)

  same_object : (P : Option Object → Type 0) (n : ℕ) → is_there k.heap.objects n ≡ true
      → P (object_at (k.heap.objects ++ o ∷ []) n) → P (object_at k.heap.objects n)
  same_object P n there = subst P (object_at-push k.heap.objects o n there)

  still_object : (P : Option Object → Type 0) (n : ℕ) → is_there k.heap.objects n ≡ true
      → P (object_at k.heap.objects n) → P (object_at (k.heap.objects ++ o ∷ []) n)
  still_object P n there = subst P (sym (object_at-push k.heap.objects o n there))

  new_root : has (roots_after (making k m d o) (pending_numbers a.world.pending)) o.no ≡ true
  new_root = search (slot_root, has-present_here, slot_within)

  new_one : IsNew k (making k m d o) (pending_numbers a.world.pending) o.no
  new_one = record {
    since = omega (arith, number);
    below = omega (arith, number);
    root = new_root;
    marked = λ begun. young-marked (grown k m d o) o.no begun new_is_there;
  }

  made_was : (n : ℕ) → is_there (k.heap.objects ++ o ∷ []) n ≡ true
      → (is_there k.heap.objects n ≡ true) ⊎ IsNew k (making k m d o) (pending_numbers a.world.pending) n
  made_was n there =
      elim (cases_Bool (is_there k.heap.objects n)) [
        | inl before ↦ inl before
        | inr absent ↦
            let now : is_there (o ∷ []) n ≡ true = only_new (λ p. is_some p ≡ true) n absent there in
            elim (cases_Bool (o.no == n)) [
              | inl same ↦
                  inr
                  (subst (IsNew k (making k m d o) (pending_numbers a.world.pending)) (eqb-true o.no n same) new_one)
              | inr other ↦ absurd (false≢true (simp other at now))
            ]
      ]

  made_leads : (i n : ℕ) → has (targets_at (is_kept k.policy) (k.heap.objects ++ o ∷ []) i) n ≡ true
      → MayLead k (making k m d o) (pending_numbers a.world.pending) i n
  made_leads i n target =
      let goes_to = is_kept k.policy in
      elim (cases_Bool (is_there k.heap.objects i)) [
        | inl there ↦ inl (same_object (λ p. has (targets_of goes_to p) n ≡ true) i there target)
        | inr absent ↦
            let own : has (targets_at goes_to (o ∷ []) i) n ≡ true =
            only_new (λ p. has (targets_of goes_to p) n ≡ true) i absent target in
            elim (cases_Bool (o.no == i)) [
              | inl same ↦
                  let from : has (targets_of goes_to (Some o)) n ≡ true = simp same at own in
                  let root = subst (λ j. has (roots_after (making k m d o) (pending_numbers a.world.pending)) j ≡ true)
                  (eqb-true o.no i same) new_root in
                  inr (inr (root, λ begun. leads_off begun n from))
              | inr other ↦ absurd (false≢true (simp other at own))
            ]
      ]

  made_to_white : is_in_cycle k.phase ≡ true → (n : ℕ)
      → refers_into (is_white k) (reference_in (object_at (k.heap.objects ++ o ∷ []) n)) ≡ true
      → refers_into (is_white k) (reference_at k.heap n) ≡ true
  made_to_white begun n refers =
      elim (cases_Bool (is_there k.heap.objects n)) [
        | inl there ↦ same_object (λ p. refers_into (is_white k) (reference_in p) ≡ true) n there refers
        | inr absent ↦
            let own : refers_into (is_white k) (reference_in (object_at (o ∷ []) n)) ≡ true =
            only_new (λ p. refers_into (is_white k) (reference_in p) ≡ true) n absent refers in
            elim (cases_Bool (o.no == n)) [
              | inl same ↦
                  let from : refers_into (is_white k) o.reference ≡ true = simp same at own in
                  absurd (true≢false (sym from ∙ refers_off begun))
              | inr other ↦ absurd (false≢true (simp other at own))
            ]
      ]

  was_there : (n : ℕ) → is_there k.heap.objects n ≡ true → is_there (k.heap.objects ++ o ∷ []) n ≡ true
  was_there n there = still_object (λ p. is_some p ≡ true) n there there

  made_named : (n : ℕ) → has (roots_after (making k m d o) (pending_numbers a.world.pending)) n ≡ true
      → is_there (k.heap.objects ++ o ∷ []) n ≡ true
  made_named =
      each_root_of_set k a stands (λ n. is_there (k.heap.objects ++ o ∷ []) n ≡ true) (16 * m + d) (Some o.no)
      (λ n root. was_there n (root_is_there k a stands n root))
      (λ n is.
      let same : o.no ≡ n = (let e : Some o.no ≡ Some n = is in cc) in
      subst (λ i. is_there (k.heap.objects ++ o ∷ []) i ≡ true) same new_is_there)

  made_led : (i n : ℕ) → is_due k i ≡ false
      → has (targets_at soft_and_weak_referents (k.heap.objects ++ o ∷ []) i) n ≡ true
      → is_there (k.heap.objects ++ o ∷ []) n ≡ true
  made_led i n due target =
      elim (cases_Bool (is_there k.heap.objects i)) [
        | inl there ↦
            was_there n
            (stands.there.led i n due
            (same_object (λ p. has (targets_of soft_and_weak_referents p) n ≡ true) i there target))
        | inr absent ↦
            let own : has (targets_at soft_and_weak_referents (o ∷ []) i) n ≡ true =
            only_new (λ p. has (targets_of soft_and_weak_referents p) n ≡ true) i absent target in
            elim (cases_Bool (o.no == i)) [
              | inl same ↦
                  let from : has (targets_of soft_and_weak_referents (Some o)) n ≡ true = simp same at own in
                  was_there n (led_there n from)
              | inr other ↦ absurd (false≢true (simp other at own))
            ]
      ]

  is_reference-there : (p : Option Object) → is_some (reference_in p) ≡ true → is_some p ≡ true
  is_reference-there None is = is
  is_reference-there (Some p) is = refl

  pub made_mutation : IsMutation k (making k m d o) (pending_numbers a.world.pending) []
  made_mutation = record {
    next = omega (arith);
    stays = was_there;
    was = made_was;
    rising = rising-push k.heap.objects o stands.orderly.rising
        (λ n there. subst (λ i. n < i) (sym number) (stands.orderly.below n there));
    slots = length-set k.heap.slots (16 * m + d) (Some o.no);
    doomed = ap doomed (sym (mutated-making k m d o)) ∙ doomed-made k m d o new_is_absent;
    marked_stays = λ n marked. young-stays (grown k m d o) o.no n marked;
    marked_was = λ n marked.
        elim (young-was (grown k m d o) o.no n marked) [
          | inl before ↦ inl before
          | inr same ↦ inr (omega (arith, same, number))
        ];
    unhealed = refl;
    choice = refl;
    roots = λ begun.
        roots_of_set k a stands begun (16 * m + d) (Some o.no) []
        (λ n is.
        let same : o.no ≡ n = (let e : Some o.no ≡ Some n = is in cc) in
        let absent : is_there k.heap.objects n ≡ false =
        subst (λ i. is_there k.heap.objects i ≡ false) same new_is_absent in
        inl (simp absent refl));
    named = made_named;
    led = made_led;
    leads = made_leads;
    references = λ n is.
        still_object (λ p. is_some (reference_in p) ≡ true) n (is_reference-there (object_at k.heap.objects n) is) is;
    to_white = made_to_white;
    white_stays = λ past n refers.
        still_object (λ p. refers_into (is_white k) (reference_in p) ≡ true) n
        (referring_is_there (is_white k) k.heap n refers) refers;
  }
