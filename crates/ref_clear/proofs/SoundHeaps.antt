-- What holds of a heap goes on holding by each of its steps.
use Rattle.ref_clear.proofs.Common.{arith, ◌≡◌, ℕ, true, List, sym, subst, ◌∙◌, has, NamedStep, State, is_in, Sweeping}
use Rattle.ref_clear.proofs.Common.{CycleHeap, is_white, doomed, MarkStands, ClearHeap, answer_in, after_in}
use Rattle.ref_clear.proofs.Common.{seen_lists, AreRegistered, AreSoundLists, HeapStands, ListWhite}
use Rattle.ref_mark.proofs.DoomedLists.{has-doomed}
use Rattle.ref_clear.proofs.KeptRows.{goes_on_sweeping, SweepsOn, sweeps_on}
use Rattle.ref_clear.proofs.HeapLaws.{each_step, config_of}

-- in a sweep what is doomed is what is white
doomed_in_sweep : (k : CycleHeap) (n : ℕ) → is_in k.phase Sweeping ≡ true → has (doomed k) n ≡ is_white k n
doomed_in_sweep k n sweeping = grind (arith, has-doomed)

-- where a sweep goes on with the doomed as they were, they stand in the list that they stood in
listed_still : (j k : CycleHeap) (a b : State) (condemned : List ℕ) → MarkStands k a → MarkStands j b → SweepsOn a b
    → (is_in k.phase Sweeping ≡ true → ListWhite k condemned) → is_in j.phase Sweeping ≡ true → ListWhite j condemned
listed_still j k a b condemned before after on listed sweeping =
    let was : is_in k.phase Sweeping ≡ true = grind arith in
    record {
      rising = (listed was).rising;
      all = λ n white. (listed was).all n (grind (arith, doomed_in_sweep, doomed_in_sweep k n));
    }

-- each step keeps the configuration
pub config_after : {j k : CycleHeap} {lists : List (List ℕ)} {condemned : List ℕ} (now : List (List ℕ))
    (step : NamedStep) → goes_on_sweeping step ≡ true → AreSoundLists k lists condemned
    → seen_lists j now ≡ after_in (seen_lists k lists) step → j.heap.config ≡ k.heap.config
config_after {j} {k} {lists} now step own sound after =
    let c : ClearHeap = seen_lists k lists in
    let a : State = sound.stands.0 in
    let row = each_step c step a sound.stands.1 in
    let b : State = row.0 in
    let stands : HeapStands (seen_lists j now) b = subst (λ (d : ClearHeap). HeapStands d b) (sym after) row.2 in
    let on : SweepsOn a b = sweeps_on a b step (answer_in c step) own row.1 in
    sym (config_of j b stands.mark) ∙ on.config ∙ config_of k a sound.stands.1.mark

-- each step but a sweep, and the one that begins it
pub sound_after : {j k : CycleHeap} {lists now : List (List ℕ)} {condemned : List ℕ} (step : NamedStep)
    → goes_on_sweeping step ≡ true → AreSoundLists k lists condemned
    → seen_lists j now ≡ after_in (seen_lists k lists) step
    → AreRegistered j.heap.objects now → AreSoundLists j now condemned
sound_after {j} {k} {lists} {now} {condemned} step own sound after registered =
    let c : ClearHeap = seen_lists k lists in
    let a : State = sound.stands.0 in
    let row = each_step c step a sound.stands.1 in
    let b : State = row.0 in
    let stands : HeapStands (seen_lists j now) b = subst (λ (d : ClearHeap). HeapStands d b) (sym after) row.2 in
    let on : SweepsOn a b = sweeps_on a b step (answer_in c step) own row.1 in
    record {
      registered = registered;
      stands = (b, stands);
      listed = listed_still j k a b condemned sound.stands.1.mark stands.mark on sound.listed;
    }
