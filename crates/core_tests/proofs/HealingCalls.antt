-- Each call of a story leaves a marker in which what is unhealed and was reached is still to be scanned.
use Rattle.std.proofs.Common.{◌≡◌, ℕ, ◌+◌, Bool, true, false, not, ◌==◌, if◌then◌else◌, refl, sym, ap, ◌∙◌, subst}
use Rattle.std.proofs.Common.{arith, List, [], ◌∷◌, Option, Some, None, inl, inr, Result, Ok, Err}
use Rattle.std.proofs.lemmas.Bool.{false≢true, true≢false, cases_Bool, eqb-true}
use Rattle.ref_base.specs.Members.{has}
use Rattle.ref_base.specs.Heaps.{reference_at, one_more, made, new_reference, nulls, slot_at, with_hold}
use Rattle.ref_base.specs.Graphs.{Object, plain_object}
use Rattle.ref_base.specs.HeapSteps.{NamedStep}
use Rattle.ref_base.specs.Refusals.{is_in, is_empty, is_worker, unless, end_mark_refusal}
use Rattle.ref_base.specs.CollectorRows.{field_in, reference_of}
use Rattle.ref_base.specs.declared.fault.Fault.{Fault}
use Rattle.ref_base.specs.declared.fault.Fault.TheVariants.{NoSuchActor, WrongPhase}
use Rattle.ref_base.specs.declared.phase.Phase.{Phase}
use Rattle.ref_base.specs.declared.phase.Phase.TheVariants.{Idle, Marking, Clearing, Sweeping, Moving}
use Rattle.ref_base.specs.declared.reply.Reply.{Reply}
use Rattle.ref_base.specs.declared.urgency.Urgency.{Urgency}
use Rattle.ref_base.specs.KeptPaths.{is_kept}
use Rattle.ref_base.specs.Paths.{targets_at}
use Rattle.ref_base.specs.DoomedSets.{refers_into}
use Rattle.ref_base.proofs.HasLaws.{has-append, has-first}
use Rattle.ref_base.proofs.OneMore.{has-one_more}
use Rattle.ref_objects.specs.Grounds.{Ground, Space, with_choice_if, with_new_tag, occupied, mint_refusal, IsWellFormed}
use Rattle.ref_objects.specs.Grounds.{choice_in}
use Rattle.ref_objects.proofs.HealedLemmas.{has-without_number}
use Rattle.ref_mark.specs.CycleHeaps.{CycleHeap, is_past_mark, is_white, shaded, shaded_all, barred, cycle_brought}
use Rattle.ref_mark.specs.CycleHeaps.{cycle_healed, with_found, grey_scanned, is_doomed}
use Rattle.ref_mark.specs.CycleHeaps.{swept, is_swept, doomed, with_made}
use Rattle.ref_mark.specs.CycleHeaps.{cycle_in_phase, moves_ended, value_got, next_to_move, is_in_cycle, cycle_begun}
use Rattle.ref_mark.specs.CycleHeaps.{blackened, chosen_by, whitened, roots_of}
use Rattle.ref_mark.specs.MarkCalls.{MarkerDoes, refusal_in_cycle, done_in, unless_refused, after_mint_in}
use Rattle.ref_mark.specs.MarkViews.{ground_of}
use Rattle.ref_mark.proofs.DoomedLists.{has-doomed}
use Rattle.ref_mark.proofs.MovedSpaces.{brought_is}
use Rattle.ref_mark.proofs.Shading.{shaded-only}
use Rattle.core_tests.specs.Healing.{IsHealing}
use Rattle.ref_base.specs.declared.heap_step.HeapStep.TheVariants as heap
use Rattle.ref_base.specs.declared.plain_step.PlainStep.TheVariants as plain

-- ---- shading

not_past_marking : (phase : Phase) → is_in phase Marking ≡ true → is_past_mark phase ≡ false
not_past_marking Idle is = refl
not_past_marking Marking is = refl
not_past_marking Clearing is = sym is
not_past_marking Sweeping is = sym is
not_past_marking Moving is = refl

shaded_is_healing : (k : CycleHeap) (n : ℕ) → is_in k.phase Marking ≡ true → IsHealing k → IsHealing (shaded k n)
shaded_is_healing k n marking healing =
    elim (cases_Bool (is_white k n)) [
      | inl white ↦ simp white (record {
        reached = λ m unhealed reached. grind (arith, has-one_more, has-append, healing.reached m);
        ended = λ past. absurd (false≢true (sym (not_past_marking k.phase marking) ∙ past));
      })
      | inr other ↦ simp other healing
    ]

shaded_marking : (k : CycleHeap) (n : ℕ) → is_in k.phase Marking ≡ true → is_in (shaded k n).phase Marking ≡ true
shaded_marking k n marking = ap (λ (j : CycleHeap). is_in j.phase Marking) (shaded-only k n) ∙ marking

shaded_all_is_healing : (k : CycleHeap) (ns : List ℕ) → is_in k.phase Marking ≡ true → IsHealing k
    → IsHealing (shaded_all k ns)
shaded_all_is_healing k [] marking healing = healing
shaded_all_is_healing k (n ∷ ns) marking healing =
    shaded_all_is_healing (shaded k n) ns (shaded_marking k n marking) (shaded_is_healing k n marking healing)

barred_is_healing : (k : CycleHeap) (value : Option ℕ) → IsHealing k → IsHealing (barred k value)
barred_is_healing k None healing =
    elim (cases_Bool (is_in k.phase Marking)) [ inl marking ↦ simp marking healing | inr quiet ↦ simp quiet healing ]
barred_is_healing k (Some n) healing =
    elim (cases_Bool (is_in k.phase Marking)) [
      | inl marking ↦ simp marking (shaded_is_healing k n marking healing)
      | inr quiet ↦ simp quiet healing
    ]

-- what moved first is no matter
brought_is_healing : (k : CycleHeap) (value : Option ℕ) → IsHealing k → IsHealing (cycle_brought k value)
brought_is_healing k value healing = record {
  reached = λ n unhealed. healing.reached n (ap (λ ns. has ns n) (sym (brought_is k.space value).unhealed) ∙ unhealed);
  ended = healing.ended;
}

-- ---- steps

-- one of two
either_is_healing : (b : Bool) (k j : CycleHeap) → IsHealing k → IsHealing j → IsHealing (if b then k else j)
either_is_healing true k j one other = one
either_is_healing false k j one other = other

-- the next number is that of no unhealed object
next_is_healed : (k : CycleHeap) → IsWellFormed (ground_of k) → has k.space.unhealed k.next ≡ true → ⊥
next_is_healed k formed unhealed =
    let below = formed.orderly.below k.next (formed.unhealed k.next unhealed) in omega (arith, below)

-- a healed object may become black
blackened_is_healing : (k : CycleHeap) (n : ℕ) → (has k.space.unhealed n ≡ true → ⊥) → IsHealing k
    → IsHealing (blackened k n)
blackened_is_healing k n healed healing =
    either_is_healing (is_white k n) _ k (record { reached = still; ended = healing.ended }) healing
  where
    still : (m : ℕ) → has k.space.unhealed m ≡ true → has (one_more k.marked n) m ≡ true → has k.grey m ≡ true
    still m unhealed reached =
        elim (cases_Bool (n == m)) [
          | inl same ↦ absurd (healed (ap (has k.space.unhealed) (eqb-true n m same) ∙ unhealed))
          | inr other ↦ grind (arith, has-one_more, healing.reached m)
        ]

made_is_healing : (k : CycleHeap) (m d : ℕ) (o : Object) → o.no ≡ k.next → IsWellFormed (ground_of k) → IsHealing k
    → IsHealing (with_made k m d o)
made_is_healing k m d o is formed healing =
    either_is_healing (is_in_cycle k.phase) _ _
    (blackened_is_healing _ o.no
    (λ unhealed. next_is_healed k formed (ap (has k.space.unhealed) (sym is) ∙ unhealed)) so_far) so_far
  where
    so_far : IsHealing (record k {
      heap = made k.heap m d o;
      next = k.next + 1;
      tags = with_new_tag k.tags o.no;
      space = occupied k.space o.no;
    })
    so_far = record { reached = healing.reached; ended = healing.ended }

begun_is_healing : (k : CycleHeap) (now : ℕ) (how : Urgency) → IsHealing (cycle_begun k now how)
begun_is_healing k now how =
    shaded_all_is_healing (whitened k now how) (roots_of k.heap) refl
    (record { reached = λ n unhealed reached. absurd (false≢true reached); ended = λ past. refl })

found_is_healing : (k : CycleHeap) (w n : ℕ) → IsHealing k → IsHealing (with_found k w n)
found_is_healing k w n healing =
    either_is_healing (refers_into (is_white k) (reference_at k.heap n)) _ k
    (record { reached = healing.reached; ended = healing.ended }) healing

scanned_is_healing : (k : CycleHeap) (w : ℕ) (ns : List ℕ) → is_in k.phase Marking ≡ true → k.grey ≡ ns → IsHealing k
    → IsHealing (grey_scanned k w ns)
scanned_is_healing k w [] marking is healing = healing
scanned_is_healing k w (n ∷ rest) marking is healing =
    let one : CycleHeap = cycle_healed (record k { grey = rest }) n in
    found_is_healing (shaded_all one (targets_at (is_kept k.policy) k.heap.objects n)) w n
    (shaded_all_is_healing one (targets_at (is_kept k.policy) k.heap.objects n) marking
    (record {
      reached = λ m unhealed reached. grind (arith, has-without_number, healing.reached m);
      ended = λ past. absurd (false≢true (sym (not_past_marking k.phase marking) ∙ past));
    }))

-- a mark ends once nothing is grey
mark_end_is_healing : (k : CycleHeap) → refusal_in_cycle k (heap.Plain plain.EndMark) ≡ None → IsHealing k
    → IsHealing (cycle_in_phase k Clearing)
mark_end_is_healing k none healing = record { reached = healing.reached; ended = λ past. no_grey k.phase k.grey none }
  where
    no_grey : (phase : Phase) (grey : List ℕ) → end_mark_refusal phase (not (is_empty grey)) ≡ None → grey ≡ []
    no_grey phase [] none = refl
    no_grey phase (n ∷ ns) none = grind arith

chosen_is_healing : (k : CycleHeap) (choice : Result ℕ Fault) → choice ≡ choice_in k.space → IsHealing k
    → IsHealing (chosen_by k choice)
chosen_is_healing k (Ok count) is healing =
    record {
      reached = λ n unhealed.
          healing.reached n (ap (λ ns. has ns n) (chosen_unhealed k.space (choice_in k.space)) ∙ unhealed);
      ended = λ past. absurd (false≢true past);
    }
  where
    chosen_unhealed : (s : Space) (choice : Result ℕ Fault) → s.unhealed ≡ (with_choice_if s choice).unhealed
    chosen_unhealed s (Ok count) = refl
    chosen_unhealed s (Err fault) = refl
chosen_is_healing k (Err fault) is healing = healing

ended_is_healing : (k : CycleHeap) → IsHealing k → IsHealing (moves_ended k)
ended_is_healing k healing =
    either_is_healing (is_empty k.space.still_to_move) _ k
    (record { reached = healing.reached; ended = λ past. absurd (false≢true past) }) healing

accepted_is_healing : (k : CycleHeap) (step : NamedStep) → refusal_in_cycle k step ≡ None → IsWellFormed (ground_of k)
    → IsHealing k → IsHealing (done_in k step)
accepted_is_healing k (heap.Plain (plain.New m d f)) none formed healing =
    made_is_healing k m d (plain_object k.next (nulls f)) refl formed healing
accepted_is_healing k (heap.Plain (plain.Refer m strength d s q f)) none formed healing =
    made_is_healing k m d (new_reference k.heap k.next strength (slot_at k.heap m s) q f) refl formed healing
accepted_is_healing k (heap.Plain (plain.Load m d s i)) none formed healing =
    let value = field_in k.heap (slot_at k.heap m s) i in
    let barred = barred_is_healing (cycle_brought k value) value (brought_is_healing k value healing) in
    record { reached = barred.reached; ended = barred.ended }
accepted_is_healing k (heap.Plain (plain.Get m d s)) none formed healing =
    let value = value_got k m s in
    let barred = barred_is_healing (cycle_brought k value) value (brought_is_healing k value healing) in
    record { reached = barred.reached; ended = barred.ended }
accepted_is_healing k (heap.Plain (plain.Clear m s)) none formed healing =
    either_is_healing (refers_into (is_doomed k) (reference_of k.heap (slot_at k.heap m s))) k _ healing
    (record { reached = healing.reached; ended = healing.ended })
accepted_is_healing k (heap.Plain (plain.Begin now how)) none formed healing = begun_is_healing k now how
accepted_is_healing k (heap.Plain (plain.Scan w)) none formed healing =
    scanned_is_healing k w k.grey (in_marking k.phase (is_worker k.heap w) none) refl healing
  where
    in_marking : (phase : Phase) (known : Bool)
        → unless known NoSuchActor (unless (is_in phase Marking) WrongPhase None) ≡ None → is_in phase Marking ≡ true
    in_marking phase true none = grind arith
    in_marking phase false none = grind arith
accepted_is_healing k (heap.Plain plain.EndMark) none formed healing = mark_end_is_healing k none healing
accepted_is_healing k (heap.Plain plain.Select) none formed healing =
    chosen_is_healing k (choice_in k.space) refl healing
accepted_is_healing k (heap.Plain (plain.MoveNext w)) none formed healing =
    brought_is_healing k (next_to_move k) healing
accepted_is_healing k (heap.Plain plain.EndMove) none formed healing = ended_is_healing k healing
accepted_is_healing k step none formed healing = record { reached = healing.reached; ended = healing.ended }

pub healing_after_step : (k j : CycleHeap) (step : NamedStep) (reply : Reply) (g : Ground) → MarkerDoes k step reply j
    → g ≡ ground_of k → IsWellFormed g → IsHealing k → IsHealing j
healing_after_step k j step reply g does is well_formed healing =
    subst IsHealing (sym does.after) (by_refusal (refusal_in_cycle k step) refl)
  where
    formed : IsWellFormed (ground_of k)
    formed = subst IsWellFormed is well_formed

    by_refusal : (refusal : Option Fault) → refusal_in_cycle k step ≡ refusal
        → IsHealing (unless_refused refusal (λ fault. k) (done_in k step))
    by_refusal None accepted = accepted_is_healing k step accepted formed healing
    by_refusal (Some fault) refused = healing

-- ---- calls of the layer above

pub healing_after_mint : (k j : CycleHeap) (n : ℕ) → j ≡ after_mint_in k n → IsHealing k → IsHealing j
healing_after_mint k j n is healing = subst IsHealing (sym is) (by_refusal (mint_refusal (ground_of k) n))
  where
    by_refusal : (refusal : Option Fault)
        → IsHealing (unless_refused refusal (λ fault. k) (record k { heap = with_hold k.heap n }))
    by_refusal None = record { reached = healing.reached; ended = healing.ended }
    by_refusal (Some fault) = healing

pub healing_after_root : (k j : CycleHeap) (n : ℕ) → j ≡ shaded k n → is_in k.phase Marking ≡ true → IsHealing k
    → IsHealing j
healing_after_root k j n is marking healing = subst IsHealing (sym is) (shaded_is_healing k n marking healing)

pub healing_after_free : (k j : CycleHeap) (n : ℕ) → j ≡ swept k n → IsHealing k → IsHealing j
healing_after_free k j n is healing =
    subst IsHealing (sym is) (either_is_healing (is_swept k n) _ k
    (record {
      reached = λ m unhealed reached. grind (arith, has-without_number, healing.reached m);
      ended = healing.ended;
    }) healing)

-- ---- the end of a cycle

none_within : (ns : List ℕ) → ((n : ℕ) → has ns n ≡ true → ⊥) → ns ≡ []
none_within [] none = refl
none_within (n ∷ ns) none = absurd (none n (has-first n ns))

has-empty : (ns : List ℕ) (n : ℕ) → is_empty ns ≡ true → has ns n ≡ false
has-empty [] n none = refl
has-empty (m ∷ ms) n none = absurd (true≢false (sym none))

-- each object is healed then
pub healed_once_all_is_swept : (k : CycleHeap) (g : Ground) → g ≡ ground_of k → IsWellFormed g → IsHealing k
    → is_in k.phase Sweeping ≡ true → not (is_empty (doomed k)) ≡ false → k.space.unhealed ≡ []
healed_once_all_is_swept k g is well_formed healing sweeping all = none_within k.space.unhealed none
  where
    formed : IsWellFormed (ground_of k)
    formed = subst IsWellFormed is well_formed

    none_doomed : is_empty (doomed k) ≡ true
    none_doomed = grind arith

    past : (phase : Phase) → is_in phase Sweeping ≡ true → is_past_mark phase ≡ true
    past Sweeping is = refl
    past phase is = grind arith

    none : (n : ℕ) → has k.space.unhealed n ≡ true → ⊥
    none n unhealed =
        let there = formed.unhealed n unhealed in
        let now = past k.phase sweeping in
        let left : is_doomed k n ≡ false = sym (has-doomed k n) ∙ has-empty (doomed k) n none_doomed in
        let reached : has k.marked n ≡ true = grind arith in
        false≢true (sym (ap (λ ns. has ns n) (healing.ended now)) ∙ healing.reached n unhealed reached)
