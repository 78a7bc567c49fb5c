-- A scan: the first of the grey list becomes black, what it leads to becomes grey, and a reference to what is still
-- white is found.
use Rattle.ref_mark.proofs.Common.{arith, ◌≡◌, ℕ, ◌<◌, Bool, true, false, not, refl, sym, ap, subst, ◌∙◌, List, [], ◌∷◌}
use Rattle.ref_mark.proofs.Common.{◌++◌, length, None, true≢false, false_from_ne_true, length-set, has, targets_at}
use Rattle.ref_mark.proofs.Common.{is_kept, EverKept, graph_of, is_in, is_empty, work_refusal, State, joined, list_at}
use Rattle.ref_mark.proofs.Common.{Marking, Sweeping, CycleHeap, shaded_all, with_found, grey_scanned, MarkStands}
use Rattle.ref_mark.proofs.Common.{first_in, Tag}
use Rattle.ref_base.specs.CollectorRows.{Scans}
use Rattle.ref_mark.specs.CycleHeaps.{scanned}
use Rattle.ref_mark.specs.MarkCalls.{scan_reply}
use Rattle.ref_base.proofs.HasLaws.{has-first}
use Rattle.ref_mark.proofs.Shading.{MarkingBut, shaded_all-only, shaded_all_marking, some_left, grey_is_left}
use Rattle.ref_mark.proofs.RootFacts.{plain_there}
use Rattle.ref_mark.specs.CycleHeaps.{cycle_healed}
use Rattle.ref_objects.proofs.HealedLemmas.{has-without_number}
use Rattle.ref_mark.proofs.HealedMarks.{AreUnscanned, unhealed_unscanned}
use Rattle.ref_mark.proofs.PlainStates.{plain_state, plain_state-is, marking_stands, plain_marking}
use Rattle.ref_base.proofs.FoundLists.{with_last, has-with_last, AreFound-scanned, AreFound-more_found}
use Rattle.ref_mark.proofs.Scanning.{reached_later, without_first, state_scanned, without_first_marking}
use Rattle.ref_mark.proofs.Scanning.{with_found-only, length-with_found, with_found_marking}
use Rattle.ref_base.specs.declared.reply.Reply.TheVariants as replies

-- a scan where nothing is grey
scan_none : (k : CycleHeap) (a : State) (w : ℕ) → MarkStands k a → k.phase ≡ Marking → k.grey ≡ []
    → (b : State) × Scans (plain_state k Marking a) w replies.Nothing b × MarkStands k b
scan_none k a w stands phase is =
    let s = plain_state k Marking a in
    let b : State = record s { moments = graph_of s.world ∷ a.moments } in
    let but : MarkingBut k s [] [] = plain_marking k a stands phase in
    let now : is_in k.phase Marking ≡ true = ap (λ p. is_in p Marking) phase in
    let left : a.left ≡ not (is_empty k.grey) = (stands.marking now).left in
    let later : MarkingBut k b [] [] = record {
      facts = but.facts;
      coloured = but.coloured;
      reached = reached_later k a.moments (graph_of s.world) refl but.reached;
      found = but.found;
    } in (
      b,
      (left ∙ ap (λ ns. not (is_empty ns)) is, (refl, refl)),
      marking_stands k b phase refl left stands.born stands.orderly stands.scanners stands.finders
          (plain_there k a stands (ap (λ p. is_in p Sweeping) phase) k refl) (unhealed_unscanned k a stands now)
          stands.moved later,
    )

-- of what is unhealed the others weren't scanned
unscanned_still : (k : CycleHeap) (a : State) (w n : ℕ) → w < length a.scanned → AreUnscanned k a.born a.scanned
    → AreUnscanned (cycle_healed k n) a.born (with_last a.scanned w n)
unscanned_still k a w n within unscanned m unhealed = grind (arith, has-without_number, has-with_last)

-- a scan of the first of the grey list
scan_some : (k : CycleHeap) (a : State) (w n : ℕ) (rest : List ℕ) → MarkStands k a → k.phase ≡ Marking
    → w < k.heap.config.workers → k.grey ≡ n ∷ rest
    → (b : State) × Scans (plain_state k Marking a) w (replies.Scanned n) b × MarkStands (grey_scanned k w (n ∷ rest)) b
scan_some k a w n rest stands phase within is =
    let s = plain_state k Marking a in
    let but : MarkingBut k s [] [] = plain_marking k a stands phase in
    let first : has k.grey n ≡ true = ap (λ ns. has ns n) is ∙ has-first n rest in
    let targets : List ℕ = targets_at (is_kept k.policy) k.heap.objects n in
    let one : CycleHeap = without_first k n rest in
    let j : CycleHeap = shaded_all one targets in
    let left : Bool = not (is_empty j.grey) in
    let b : State = state_scanned k a w n left in
    let scanner : w < length a.scanned = subst (λ i. w < i) (sym stands.scanners) within in
    let finder : w < length k.found = subst (λ i. w < i) (sym stands.finders) within in
    let taken : MarkingBut one b (targets ++ []) (n ∷ []) = without_first_marking k a w n rest left is scanner but in
    let ever : EverKept k.policy b.moments n =
    taken.reached.marked_ever n (but.coloured.grey_there n first) (but.coloured.grey_marked n first) in
    let all_shaded : MarkingBut j b [] (n ∷ []) =
    shaded_all_marking one b targets [] (n ∷ [])
    (λ m target there. taken.reached.goes_on n m ever target there) taken in
    let only : j ≡ record one { marked = j.marked; grey = j.grey } = shaded_all-only one targets in
    let i : CycleHeap = record one { marked = j.marked; grey = j.grey } in
    let new : has (joined k.found) n ≡ false =
    false_from_ne_true (has (joined k.found) n)
    (λ old.
    true≢false
    (sym first
    ∙ (but.coloured.scanned_black n (AreFound-scanned k.heap.objects a.scanned k.found but.found.are_found n old)).1))
    in
    let done : MarkingBut (with_found i w n) b [] [] =
    with_found_marking i b w n finder new
    (λ some. AreFound-more_found k.heap.objects a.scanned k.found w n some but.found.are_found)
    (subst (λ (l : CycleHeap). MarkingBut l b [] (n ∷ [])) only all_shaded) in
    let now : is_in k.phase Marking ≡ true = ap (λ p. is_in p Marking) phase in
    let found : List (List ℕ) = (with_found i w n).found in
    let tags : List Tag = (with_found i w n).tags in
    let found_only : with_found i w n ≡ record i { found = found; tags = tags } = with_found-only i w n in
    let scanners : length b.scanned ≡ k.heap.config.workers =
    length-set a.scanned w (list_at a.scanned w ++ n ∷ []) ∙ stands.scanners in
    let finders : length found ≡ k.heap.config.workers = length-with_found i w n ∙ stands.finders in
    let stands_then : MarkStands (record i { found = found; tags = tags }) b =
    marking_stands (record i { found = found; tags = tags }) b phase refl refl stands.born stands.orderly scanners
    finders
    (plain_there k a stands (ap (λ p. is_in p Sweeping) phase) (record i { found = found; tags = tags }) refl)
    (unscanned_still k a w n scanner (unhealed_unscanned k a stands now)) stands.moved
    (subst (λ (l : CycleHeap). MarkingBut l b [] []) found_only done) in
    let was_left : a.left ≡ true = (stands.marking now).left ∙ ap (λ ns. not (is_empty ns)) is in
    let policy : b.world.policy ≡ j.policy = sym (ap (λ (l : CycleHeap). l.policy) only) in (
      b,
      (
        was_left,
        grey_is_left k s n but.coloured but.reached refl first,
        (left, refl, λ some. some_left j b all_shaded.coloured all_shaded.reached policy some),
      ),
      subst (λ (l : CycleHeap). MarkStands (with_found l w n) b) (sym only)
          (subst (λ (l : CycleHeap). MarkStands l b) (sym found_only) stands_then),
    )

scan_row_from : (k : CycleHeap) (a : State) (w : ℕ) (ns : List ℕ) → MarkStands k a → k.phase ≡ Marking
    → w < k.heap.config.workers → k.grey ≡ ns
    → (b : State) × Scans (plain_state k Marking a) w (scan_reply (first_in ns)) b × MarkStands (grey_scanned k w ns) b
scan_row_from k a w [] stands phase within is = scan_none k a w stands phase is
scan_row_from k a w (n ∷ rest) stands phase within is = scan_some k a w n rest stands phase within is

-- a scan that isn't refused
pub scan_row : (k : CycleHeap) (a : State) (w : ℕ) → MarkStands k a → work_refusal k.heap k.phase Marking w ≡ None
    → (b : State) × Scans a w (scan_reply (first_in k.grey)) b × MarkStands (scanned k w) b
scan_row k a w stands none = grind (arith, plain_state-is, scan_row_from k a w k.grey stands)
