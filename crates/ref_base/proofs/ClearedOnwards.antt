-- What a mark's end clears reads as cleared from then on, in every state after it.
use Rattle.ref_base.proofs.Common.{◌≡◌, ℕ, ◌<◌, true, false, List, [], ◌∷◌, ◌++◌, map, Option, Some, None, inl, inr}
use Rattle.ref_base.proofs.Common.{refl, sym, ◌∙◌, arith, AllByRecursion, cases_Bool, and_parts, has, Object, Reference}
use Rattle.ref_base.proofs.Common.{object_at, is_there, numbers, IsRising, is_soft, new_clears, slot_at, reference_in}
use Rattle.ref_base.proofs.Common.{reference_at, changed_reference, cleared, got_at, World, Notice, Pending, State}
use Rattle.ref_base.proofs.Common.{first_state, IsRow, IsRun, doomed_at, shown, referent_of, EndsMark, HeapAccepts}
use Rattle.ref_base.proofs.Common.{NamedStep, Config, Reply, Row}
use Rattle.ref_base.proofs.CarryLaws.{AnyCycle, Carries, Lasts}
use Rattle.ref_base.proofs.Common.{notice_from}
use Rattle.ref_base.proofs.CarryHeaps.{Anew, heap_carries}
use Rattle.ref_base.proofs.CountedTraces.{legal_counted}
use Rattle.ref_base.proofs.NewClears.{is_there-rising, has-new_clears}
use Rattle.ref_base.proofs.OldNames.{legal_numbers}
use Rattle.ref_base.proofs.OneQueue.{next_heap}
use Rattle.ref_base.proofs.HeapTurns.{at_rest, IsTurn, accepted, row_turn}
use Rattle.ref_base.proofs.RunLaws.{run_more, holds_on}
use Rattle.ref_base.specs.declared.heap_step.HeapStep.TheVariants as heap
use Rattle.ref_base.specs.declared.plain_step.PlainStep.TheVariants as plain
use Rattle.ref_base.specs.declared.step.Step.TheVariants as steps
use Rattle.ref_base.specs.declared.reply.Reply.TheVariants as replies

-- ---- a reference that has no referent

-- the object, where it has this number, has no referent
abbrev IsCleared : ℕ → Object → Type 0
IsCleared n o = o.no ≡ n → referent_of o.reference ≡ None

cut_has_none : (r : Option Reference) → referent_of (changed_reference cleared r) ≡ None
cut_has_none None = refl
cut_has_none (Some r) = refl

got_has_same : (clock : ℕ) (r : Option Reference) → referent_of (changed_reference (got_at clock) r) ≡ referent_of r
got_has_same clock None = refl
got_has_same clock (Some r) =
    elim (cases_Bool (is_soft r.strength)) [ inl soft ↦ simp soft refl | inr other ↦ simp other refl ]

cleared_lasts : (n : ℕ) → Lasts (IsCleared n)
cleared_lasts n = search (cut_has_none, got_has_same)

pub cleared_at : (os : List Object) (n : ℕ) → AllByRecursion (IsCleared n) os
    → referent_of (reference_in (object_at os n)) ≡ None
cleared_at [] n all = refl
cleared_at (o ∷ os) n all = grind (arith, cleared_at os n all.1)

-- ---- at the mark's end

new_clear_there : (os : List Object) (d : List ℕ) (n : ℕ) → IsRising (numbers os) → has (new_clears os d) n ≡ true
    → is_there os n ≡ true
new_clear_there os d n rising new = (and_parts (is_there os n) _ (sym (has-new_clears os d n rising) ∙ new)).0

-- objects of other numbers are none of it
others_shown : (os : List Object) (d : List ℕ) (n : ℕ) → is_there os n ≡ false
    → AllByRecursion (IsCleared n) (map (λ o. shown d o) os)
others_shown [] d n absent = tt
others_shown (o ∷ os) d n absent = grind (arith, others_shown os d n)

all_shown : (os : List Object) (d : List ℕ) (n : ℕ) → IsRising (numbers os) → has (new_clears os d) n ≡ true
    → AllByRecursion (IsCleared n) (map (λ o. shown d o) os)
all_shown [] d n rising within = tt
all_shown (o ∷ os) d n rising within = grind (arith, others_shown, is_there-rising, new_clear_there, all_shown os d n)

-- n is the number of no object to come, and each object of that number has no referent
abbrev pub StaysCleared : ℕ → State → Type 0
StaysCleared n a = (n < a.next) × AllByRecursion (IsCleared n) a.world.heap.objects

pub ended_cleared : (a b : State) (reply : Reply) (n : ℕ) → IsRising (numbers a.world.heap.objects)
    → ((m : ℕ) → is_there a.world.heap.objects m ≡ true → m < a.next) → EndsMark a reply b
    → has (new_clears a.world.heap.objects (doomed_at a)) n ≡ true → StaysCleared n b
ended_cleared a b reply n rising below ends new = grind (arith, new_clear_there, all_shown)

-- ---- from then on

abbrev Anything : Notice → Type 0
Anything notice = Unit {0}

all_anything : (k : ℕ) (ps : List Pending) → AllByRecursion (λ p. Anything (notice_from k p)) ps
all_anything k [] = tt
all_anything k (p ∷ ps) = (tt, all_anything k ps)

each_anything : (notices : List Notice) → AllByRecursion Anything notices
each_anything [] = tt
each_anything (notice ∷ rest) = (tt, each_anything rest)

carries_objects_alone : (O : Object → Type 0) (w : World) → AllByRecursion O w.heap.objects
    → Carries O Anything AnyCycle w
carries_objects_alone O w all = search (all_anything, each_anything)

-- what is made anew has another number
makes_another : (n : ℕ) (a : State) (step : NamedStep) (reply : Reply) → n < a.next
    → Anew (IsCleared n) Anything AnyCycle a step reply
makes_another n a (heap.Plain (plain.New m d k)) reply under = λ is same. refl
makes_another n a (heap.Plain (plain.Refer m strength d s q k)) reply under =
    λ is same. absurd (omega (arith, same, under))
makes_another n a (heap.Plain (plain.Begin now how)) reply under = λ is. tt
makes_another n a (heap.Plain (plain.ClearNext k)) reply under = λ o q is there. tt
makes_another n a step reply under = tt

-- a row of a heap keeps it
pub heap_cleared : (n : ℕ) (a b : State) (step : NamedStep) (reply : Reply) → StaysCleared n a
    → HeapAccepts a step reply b → StaysCleared n b
heap_cleared n a b step reply is row =
    grind (arith, next_heap, heap_carries, carries_objects_alone, cleared_lasts n, makes_another n a step reply)

-- other hands and queues
same_cleared : (n : ℕ) (a b : State) → at_rest b ≡ at_rest a → StaysCleared n a → StaysCleared n b
same_cleared n a b same is = grind arith

-- so each turn keeps it
pub turn_cleared : (n : ℕ) (a b : State) (asked : Option NamedStep) (reply : Reply) → IsTurn a asked reply b
    → StaysCleared n a → StaysCleared n b
turn_cleared n a b asked reply (inl of) is = same_cleared n a b of.after is
turn_cleared n a b asked reply (inr of) is =
    same_cleared n of.left b of.after (heap_cleared n a of.left of.step reply is of.accepts)

-- and a mark's end begins it
pub end_clears : (a b : State) (count n : ℕ) → IsRising (numbers a.world.heap.objects)
    → ((m : ℕ) → is_there a.world.heap.objects m ≡ true → m < a.next)
    → IsTurn a (Some (heap.Plain plain.EndMark)) (replies.Doomed count) b
    → has (new_clears a.world.heap.objects (doomed_at a)) n ≡ true → StaysCleared n b
end_clears a b count n rising below ends new =
    let of = accepted a b (heap.Plain plain.EndMark) (replies.Doomed count) (λ fault no. absurd cc) ends in
    same_cleared n of.0 b of.3 (ended_cleared a of.0 (replies.Doomed count) n rising below of.2 new)

-- what a mark's end clears reads as cleared from then on
pub stays_cleared : (config : Config) (front : List Row) (a b : State) (count : ℕ) (rows : List Row) (c : State) (n : ℕ)
    → IsRun (first_state config) front a
    → IsRow a (record { step = steps.Plain plain.EndMark; reply = replies.Doomed count }) b → IsRun b rows c
    → has (new_clears a.world.heap.objects (doomed_at a)) n ≡ true → referent_of (reference_at c.world.heap n) ≡ None
stays_cleared config front a b count rows c n first ends later new =
    let row : Row = record { step = steps.Plain plain.EndMark; reply = replies.Doomed count } in
    let old = legal_numbers config front a first in
    cleared_at c.world.heap.objects n
    (holds_on IsRow (first_state config) (λ past s. StaysCleared n s)
    (λ past s other t run is h.
    turn_cleared n s t _ other.reply (row_turn s other t (legal_counted config past s run) h) is)
    (front ++ row ∷ []) b rows c (run_more (first_state config) front a b row first ends)
    (end_clears a b count n old.rising old.objects (row_turn a row b (legal_counted config front a first) ends) new)
    later).1

-- ---- gets

-- no get of a reference that has no referent answers an object
pub no_get : (c e : State) (m d s n k : ℕ) → slot_at c.world.heap m s ≡ Some n
    → referent_of (reference_at c.world.heap n) ≡ None
    → ¬ (IsTurn c (Some (heap.Plain (plain.Get m d s))) (replies.Object k) e)
no_get c e m d s n k holds none turn = grind arith

-- so none of what a mark's end cleared does
pub never_got : (config : Config) (front : List Row) (a b : State) (count : ℕ) (rows : List Row) (c : State) (n : ℕ)
    (m d s k : ℕ) (e : State) → IsRun (first_state config) front a
    → IsRow a (record { step = steps.Plain plain.EndMark; reply = replies.Doomed count }) b → IsRun b rows c
    → has (new_clears a.world.heap.objects (doomed_at a)) n ≡ true → slot_at c.world.heap m s ≡ Some n
    → ¬ (IsRow c (record { step = steps.Plain (plain.Get m d s); reply = replies.Object k }) e)
never_got config front a b count rows c n m d s k e first ends later new holds row =
    grind (arith, stays_cleared, no_get c e m d s n k holds)
