-- No step of marking changes in which cycle an object was cleared.
use Rattle.ref_mark.proofs.Common.{arith, ◌≡◌, ℕ, List, Option, Some, None, refl, ap, [], ◌∷◌, Tag, cleared_in_at}
use Rattle.ref_mark.proofs.Common.{Object, plain_object, nulls, NamedStep, Fault, CycleHeap, shaded_all, with_found}
use Rattle.ref_mark.proofs.Common.{linked_last_of, with_made, barred, with_cleared, grey_scanned, done_in}
use Rattle.ref_mark.proofs.Common.{refusal_in_cycle, unless_refused}
use Rattle.std.proofs.Common.{Result, Ok, Err}
use Rattle.ref_objects.specs.Grounds.{choice_in}
use Rattle.ref_mark.specs.CycleHeaps.{chosen_by, moves_ended}
use Rattle.ref_mark.specs.MarkCalls.{after_in_cycle}
use Rattle.ref_objects.proofs.TagLemmas.{cleared_in_at-new}
use Rattle.ref_mark.proofs.LinkLemmas.{cleared_in_at-written}
use Rattle.ref_mark.proofs.Shading.{shaded_all-only}
use Rattle.ref_base.specs.declared.heap_step.HeapStep.TheVariants as heap
use Rattle.ref_base.specs.declared.plain_step.PlainStep.TheVariants as plain

-- ---- what leaves the tags as they are

pub shaded_all-tags : (k : CycleHeap) (ns : List ℕ) → (shaded_all k ns).tags ≡ k.tags
shaded_all-tags k ns = ap (λ (j : CycleHeap). j.tags) (shaded_all-only k ns)

barred-tags : (k : CycleHeap) (value : Option ℕ) → (barred k value).tags ≡ k.tags
barred-tags k value = grind arith

pub cleared-tags : (k : CycleHeap) (m s : ℕ) → (with_cleared k m s).tags ≡ k.tags
cleared-tags k m s = grind arith

-- ---- the steps of marking

-- each object was cleared in the cycle in which it was before
abbrev pub KeepsCycles : List Tag → List Tag → Type 0
KeepsCycles before after = (n : ℕ) → cleared_in_at after n ≡ cleared_in_at before n

same_cycles : {before after : List Tag} → after ≡ before → KeepsCycles before after
same_cycles same n = ap (λ tags. cleared_in_at tags n) same

-- a new object was never cleared
made-cycles : (k : CycleHeap) (m d : ℕ) (o : Object) → KeepsCycles k.tags (with_made k m d o).tags
made-cycles k m d o = grind (arith, cleared_in_at-new)

-- a link tells of no clear
pub linked-cycles : (ts : List Tag) (ms : List ℕ) (n : ℕ) → KeepsCycles ts (linked_last_of ts ms n)
linked-cycles ts ms n m = grind (arith, cleared_in_at-written)

found-cycles : (k : CycleHeap) (w n : ℕ) → KeepsCycles k.tags (with_found k w n).tags
found-cycles k w n m = grind (arith, linked-cycles)

scanned-cycles : (k : CycleHeap) (w : ℕ) (grey : List ℕ) → KeepsCycles k.tags (grey_scanned k w grey).tags
scanned-cycles k w [] m = refl
scanned-cycles k w (n ∷ rest) m = grind (arith, found-cycles, shaded_all-tags)

-- nor do moves
chosen-tags : (k : CycleHeap) (answer : Result ℕ Fault) → (chosen_by k answer).tags ≡ k.tags
chosen-tags k (Ok count) = refl
chosen-tags k (Err fault) = refl

ended-tags : (k : CycleHeap) → (moves_ended k).tags ≡ k.tags
ended-tags k = grind arith

done-cycles : (k : CycleHeap) (step : NamedStep) → KeepsCycles k.tags (done_in k step).tags
done-cycles k (heap.Plain (plain.New m d f)) = made-cycles k m d (plain_object k.next (nulls f))
done-cycles k (heap.Plain plain.Select) = same_cycles (chosen-tags k (choice_in k.space))
done-cycles k (heap.Plain plain.EndMove) = same_cycles (ended-tags k)
done-cycles k step =
    search (made-cycles, same_cycles, barred-tags, cleared-tags, shaded_all-tags, scanned-cycles, refl)

cycles-unless : (k done : CycleHeap) (refused : Option Fault) → KeepsCycles k.tags done.tags
    → KeepsCycles k.tags (unless_refused refused (λ fault. k) done).tags
cycles-unless k done None kept = kept
cycles-unless k done (Some fault) kept = same_cycles refl

pub cycles_after : (k : CycleHeap) (step : NamedStep) → KeepsCycles k.tags (after_in_cycle k step).tags
cycles_after k step = cycles-unless k (done_in k step) (refusal_in_cycle k step) (done-cycles k step)
