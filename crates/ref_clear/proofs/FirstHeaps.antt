-- A new heap: nothing is pending.
use Rattle.ref_clear.proofs.Common.{◌≡◌, ℕ, zero, suc, List, [], ◌∷◌, replicate, refl, ap, ◌∙◌, arith, Object, joined}
use Rattle.ref_clear.proofs.Common.{pending_numbers, Config, CycleHeap, MarkStands, pending_lists_of, seen_lists}
use Rattle.ref_clear.proofs.Common.{AreSoundLists, HeapStands, has, Chain, no_chain, lists_in, seen_heap, IsSoundHeap}
use Rattle.ref_clear.proofs.Common.{Tag, Worklist, empty_worklist}
use Rattle.std.proofs.lemmas.List.{length-replicate}
use Rattle.ref_mark.specs.MarkRows.{starting_state}
use Rattle.ref_mark.specs.CycleHeaps.{first_cycle_heap}
use Rattle.ref_clear.specs.ClearHeaps.{first_clear_heap}
use Rattle.ref_objects.specs.declared.start.Start.{Start}
use Rattle.ref_mark.proofs.MarkerLemmas.{are_none}

lists_of-none : (os : List Object) (ts : List Tag) (count : ℕ)
    → pending_lists_of os ts (replicate count []) ≡ replicate count []
lists_of-none os ts zero = refl
lists_of-none os ts (suc count) = ap (λ pss. [] ∷ pss) (lists_of-none os ts count)

none_listed : (count : ℕ) → joined (replicate count []) ≡ []
none_listed zero = refl
none_listed (suc count) = none_listed count

none_pending : (count : ℕ) → pending_numbers (replicate count []) ≡ []
none_pending zero = refl
none_pending (suc count) = none_pending count

module _ (config : Config) (heap_no : ℕ) (start : Start) where
  seen_first_lists : {k : CycleHeap} {lists : List (List ℕ)} → k ≡ first_cycle_heap config heap_no start
      → lists ≡ replicate config.workers []
      → seen_lists k lists ≡ first_clear_heap config heap_no start
  seen_first_lists {k} {lists} first are = grind (arith, lists_of-none)

  pub first_stands : MarkStands (first_cycle_heap config heap_no start)
      (starting_state config heap_no start.obj start.cycle)
      → HeapStands (first_clear_heap config heap_no start) (starting_state config heap_no start.obj start.cycle)
  first_stands stands = search (length-replicate, none_pending)

  first_sound_lists : {k : CycleHeap} {lists : List (List ℕ)} → k ≡ first_cycle_heap config heap_no start
      → MarkStands k (starting_state config heap_no start.obj start.cycle)
      → lists ≡ replicate config.workers [] → AreSoundLists k lists []
  first_sound_lists {k} {lists} first stands are = grind (arith, none_listed, seen_first_lists, first_stands)

  -- ---- of chains

  none_in : {k : CycleHeap} {chains : List Chain} → k ≡ first_cycle_heap config heap_no start
      → chains ≡ replicate config.workers no_chain → lists_in k chains ≡ replicate config.workers []
  none_in first are = rw (first, are) (are_none [] config.cells config.workers).1

  pub seen_first : {k : CycleHeap} {chains : List Chain} → k ≡ first_cycle_heap config heap_no start
      → chains ≡ replicate config.workers no_chain
      → seen_heap k chains ≡ first_clear_heap config heap_no start
  seen_first first are = seen_first_lists first (none_in first are)

  pub first_sound : {k : CycleHeap} {chains : List Chain} → k ≡ first_cycle_heap config heap_no start
      → MarkStands k (starting_state config heap_no start.obj start.cycle)
      → chains ≡ replicate config.workers no_chain → {list : Worklist} → list ≡ empty_worklist config.cells
      → IsSoundHeap k chains list
  first_sound {k} {chains} first stands are {list} none = record {
    linked = rw (first, are) (are_none [] config.cells config.workers).0;
    apart = λ n found.
        ap (λ mss. has (joined mss) n) (none_in first are) ∙ ap (λ ns. has ns n) (none_listed config.workers);
    lists = rw none (first_sound_lists first stands (none_in first are));
    fits = grind arith;
  }
