-- What every state has that a legal trace leads to, and laws of marks ask for: no object stands twice among the
-- scanned, there is a list for each worker, there are 16 slots for each mutator, and a cycle's clock is no later than
-- the heap's.
use Rattle.ref_base.proofs.Common.{arith, ◌≡◌, ℕ, ◌+◌, ◌*◌, ◌<◌, Bool, true, false, if◌then◌else◌, List, [], ◌∷◌, ◌++◌}
use Rattle.ref_base.proofs.Common.{length, Option, Some, None, refl, sym, ap, ◌∙◌, subst, inl, inr, and_parts, ltb-true}
use Rattle.ref_base.proofs.Common.{nat_lt, length-set, length-replicate, joined, list_at, Heap, World, replicate, zero}
use Rattle.ref_base.proofs.Common.{suc, Notice, NamedStep, heap_step, State, first_state, heap_refusal, HeapAccepts}
use Rattle.ref_base.proofs.Common.{IsRun, Config, Reply, Row, told_cycle, told_notices, after_heap, unhooked}
use Rattle.ref_base.proofs.Common.{changed_in, cut, got, with_heap, Object, registered_in, reference_at, has_slot}
use Rattle.ref_base.proofs.Common.{is_mutator, pended, slot_at, with_reference, cleared, got_at, ◌≤◌, is_done}
use Rattle.ref_base.proofs.Common.{is_selected}
use Rattle.ref_base.specs.Members.{AreDistinct}
use Rattle.ref_base.specs.Told.{is_nothing, told_cleared}
use Rattle.ref_base.proofs.FoundLists.{AreDistinct-with_last, joined-emptied, length-emptied}
use Rattle.ref_base.proofs.CountedTraces.{legal_counted}
use Rattle.ref_base.proofs.HeapTurns.{at_rest, IsTurn, row_turn}
use Rattle.ref_base.proofs.ReplayUnder.{IsNoBegin}
use Rattle.ref_base.proofs.OutcomeParts.{outcome_stage}
use Rattle.ref_base.proofs.Outcomes.{IsNoEnd, outcome, heap_outcome}
use Rattle.ref_base.proofs.ReplayKeeps.{told_keeps, done_keeps, each_keeps}
use Rattle.ref_base.proofs.RowChanges.{Changes, heap_tells}
use Rattle.ref_base.proofs.RunFronts.{legal_holds}
use Rattle.ref_base.proofs.ScannedOnce.{scan_tells}
use Rattle.ref_base.specs.declared.heap_step.HeapStep.TheVariants as heap
use Rattle.ref_base.specs.declared.plain_step.PlainStep.TheVariants as plain
use Rattle.ref_base.specs.declared.reply.Reply.TheVariants as replies

-- ---- what was scanned

-- no object stands twice among the scanned, and there is a list for each worker
abbrev pub ListsAreWhole : State → Type 0
ListsAreWhole a = AreDistinct (joined a.scanned) × (length a.scanned ≡ a.world.heap.config.workers)

-- these lists in the state after, where nothing is scanned
lists_same : (a b : State) → b.scanned ≡ a.scanned → b.world.heap.config ≡ a.world.heap.config → ListsAreWhole a
    → ListsAreWhole b
lists_same a b same config whole = (
  subst (λ (lists : List (List ℕ)). AreDistinct (joined lists)) (sym same) whole.0,
  ap (λ (lists : List (List ℕ)). length lists) same ∙ whole.1 ∙ ap (λ (c : Config). c.workers) (sym config),
)

-- a row of the heap leaves them whole
heap_lists : (a b : State) (step : NamedStep) (reply : Reply) → heap_refusal a step ≡ None
    → HeapAccepts a step reply b → Changes a (Some step) reply b → ListsAreWhole a → ListsAreWhole b
heap_lists a b (heap.Plain (plain.Scan k)) (replies.Scanned n) none row changes whole =
    let tells = scan_tells a b k n none row in
    let within : k < length a.scanned = subst (λ (count : ℕ). k < count) (sym whole.1) tells.0 in (
      subst (λ (lists : List (List ℕ)). AreDistinct (joined lists)) (sym changes.scanned)
          (AreDistinct-with_last a.scanned k n within whole.0 tells.1),
      ap (λ (lists : List (List ℕ)). length lists) changes.scanned
          ∙ length-set a.scanned k (list_at a.scanned k ++ n ∷ []) ∙ whole.1
          ∙ ap (λ (c : Config). c.workers) (sym changes.config),
    )
heap_lists a b (heap.Plain (plain.Begin now how)) (replies.Cycle n) none row changes whole = (
  subst AreDistinct (sym (ap joined changes.scanned ∙ joined-emptied a.scanned)) tt,
  ap (λ (lists : List (List ℕ)). length lists) changes.scanned ∙ length-emptied a.scanned ∙ whole.1
      ∙ ap (λ (c : Config). c.workers) (sym changes.config),
)
heap_lists a b step reply none row changes whole = lists_same a b changes.scanned changes.config whole

-- ---- slots

-- there are 16 slots for each mutator
abbrev pub SlotsAreWhole : State → Type 0
SlotsAreWhole a = length a.world.heap.slots ≡ 16 * a.world.heap.config.mutators

-- how many slots there are
abbrev slots_in : World → ℕ
slots_in w = length w.heap.slots

-- a change of an object leaves them
slots_changed : (h : Heap) (held : Option ℕ) (f : Object → Object) → (changed_in h held f).slots ≡ h.slots
slots_changed h None f = refl
slots_changed h (Some n) f = refl

slots_cut : (w : World) (m s : ℕ) → slots_in (with_heap w (cut w.heap m s)) ≡ slots_in w
slots_cut w m s = ap length (slots_changed w.heap (slot_at w.heap m s) (with_reference cleared))

slots_got : (w : World) (m d s : ℕ) (value : Option ℕ) → slots_in (with_heap w (got w.heap m d s value)) ≡ slots_in w
slots_got w m d s None = length-set w.heap.slots (16 * m + d) None
slots_got w m d s (Some n) =
    let h : Heap = changed_in w.heap (slot_at w.heap m s) (with_reference (got_at w.heap.clock)) in
    length-set h.slots (16 * m + d) (Some n)
    ∙ ap length (slots_changed w.heap (slot_at w.heap m s) (with_reference (got_at w.heap.clock)))

slots_unhooked : (w : World) (m s : ℕ) (nothing : Bool) (told : List Notice)
    → slots_in (if nothing then with_heap w (cut w.heap m s) else unhooked w m s told) ≡ slots_in w
slots_unhooked w m s true told = slots_cut w m s
slots_unhooked w m s false [] = refl
slots_unhooked w m s false (notice ∷ rest) = slots_cut w m s

slots_pended : (w : World) (k n : ℕ) (queue : Option ℕ) → slots_in (pended w k n queue) ≡ slots_in w
slots_pended w k n None = refl
slots_pended w k n (Some q) = refl

-- and so does each step, where its answer leads
slots_after : (w : World) (step : NamedStep) (reply : Reply) → slots_in (after_heap w step reply) ≡ slots_in w
slots_after w (heap.Plain (plain.ClearNext k)) reply =
    told_keeps slots_in (told_cleared reply) _ w
    (λ n. slots_pended _ k n (registered_in (reference_at w.heap n))
    ∙ ap length (slots_changed w.heap (Some n) (with_reference cleared)))
slots_after w (heap.Unhook m s) reply = slots_unhooked w m s (is_nothing reply) (told_notices reply)
slots_after w step reply =
    search (
      told_keeps slots_in,
      done_keeps slots_in,
      each_keeps slots_in,
      slots_changed,
      slots_cut,
      slots_got,
      length-set,
      refl,
    )

-- and where a row of the heap leads
slots_out : (a : State) (step : NamedStep) (reply : Reply) → IsNoEnd step
    → slots_in (outcome a step reply).world ≡ slots_in a.world
slots_out a (heap.Plain (plain.Begin now how)) reply no_end =
    told_keeps slots_in (told_cycle reply) _ a.world (λ n. refl)
slots_out a (heap.Plain plain.EndMark) reply no_end = absurd no_end
slots_out a (heap.Plain (plain.ClearNext k)) (replies.Cleared n) no_end =
    slots_pended a.world k n (registered_in (reference_at a.world.heap n))
slots_out a (heap.Plain (plain.ClearNext k)) (replies.Kept n) no_end = refl
slots_out a (heap.Plain (plain.ClearNext k)) (replies.Skipped n) no_end = refl
slots_out a (heap.Plain (plain.ClearNext k)) reply no_end = refl
slots_out a (heap.Plain (plain.Sweep k)) (replies.Swept count) no_end = refl
slots_out a (heap.Plain (plain.Sweep k)) reply no_end = refl
slots_out a step reply no_end = slots_after a.world step reply

-- a row of the heap leaves them
heap_slots : (a b : State) (step : NamedStep) (reply : Reply) → HeapAccepts a step reply b
    → slots_in b.world ≡ slots_in a.world
heap_slots a b (heap.Plain plain.EndMark) reply row = ap (λ (s : State). slots_in s.world) row.after
heap_slots a b step reply row =
    ap (λ (s : State). slots_in s.world) (heap_outcome a b step reply tt row) ∙ slots_out a step reply tt

-- where a mutator has a slot, that is there
pub slot_within : (h : Heap) (m d : ℕ) → length h.slots ≡ 16 * h.config.mutators → has_slot h m d ≡ true
    → 16 * m + d < length h.slots
slot_within h m d whole has_it =
    let parts = and_parts (is_mutator h m) (nat_lt d 16) has_it in
    let mutator : m < h.config.mutators = ltb-true m h.config.mutators parts.0 in
    let slot : d < 16 = ltb-true d 16 parts.1 in
    omega (arith, whole, mutator, slot)

-- ---- clocks

-- a cycle's clock is no later than the heap's
abbrev pub ClockIsPast : World → Type 0
ClockIsPast w = w.policy.clock ≤ w.heap.clock

-- the clocks of the cycle and of the heap
abbrev clocks_of : World → ℕ × ℕ
clocks_of w = (w.policy.clock, w.heap.clock)

-- each step but a begin leaves them
clocks_out : (a : State) (step : NamedStep) (reply : Reply) → IsNoEnd step → IsNoBegin step
    → clocks_of (outcome a step reply).world ≡ clocks_of a.world
clocks_out a (heap.Plain (plain.Begin now how)) reply no_end no_begin = absurd no_begin
clocks_out a (heap.Plain plain.EndMark) reply no_end no_begin = absurd no_end
clocks_out a (heap.Plain plain.EndClear) reply no_end no_begin = done_keeps clocks_of (is_done reply) _ a.world refl
clocks_out a (heap.Plain plain.EndSweep) reply no_end no_begin = done_keeps clocks_of (is_done reply) _ a.world refl
clocks_out a (heap.Plain plain.Select) reply no_end no_begin = done_keeps clocks_of (is_selected reply) _ a.world refl
clocks_out a (heap.Plain plain.EndMove) reply no_end no_begin = done_keeps clocks_of (is_done reply) _ a.world refl
clocks_out a step reply no_end no_begin = ap clocks_of (outcome_stage a step reply tt)

past_same : (v w : World) → clocks_of w ≡ clocks_of v → ClockIsPast v → ClockIsPast w
past_same v w same past = subst (λ (c : ℕ × ℕ). c.0 ≤ c.1) (sym same) past

-- a row of the heap leaves it so
heap_clock : (a b : State) (step : NamedStep) (reply : Reply) → HeapAccepts a step reply b → ClockIsPast a.world
    → ClockIsPast b.world
heap_clock a b (heap.Plain (plain.Begin now how)) reply row past =
    subst ClockIsPast (sym (ap (λ (s : State). s.world) row.1.1)) (at_once now)
  where
    at_once : (now : ℕ) → now ≤ now
    at_once now = omega arith
heap_clock a b (heap.Plain plain.EndMark) reply row past =
    past_same a.world b.world (ap (λ (s : State). clocks_of s.world) row.after) past
heap_clock a b step reply row past =
    past_same a.world b.world
    (ap (λ (s : State). clocks_of s.world) (heap_outcome a b step reply tt row) ∙ clocks_out a step reply tt tt) past

-- ---- after every legal trace

-- all three, in one
abbrev Whole : State → Type 0
Whole a = ListsAreWhole a × SlotsAreWhole a × ClockIsPast a.world

-- a turn at a heap leaves all three
turn_whole : (a b : State) (asked : Option NamedStep) (reply : Reply) → IsTurn a asked reply b → Whole a → Whole b
turn_whole a b asked reply (inl of) whole = rest_whole a b of.after whole
  where
    rest_whole : (a b : State) → at_rest b ≡ at_rest a → Whole a → Whole b
    rest_whole a b same whole = (
      lists_same a b (ap (λ (s : State). s.scanned) same) (ap (λ (s : State). s.world.heap.config) same) whole.0,
      ap (λ (s : State). slots_in s.world) same ∙ whole.1
          ∙ ap (λ (s : State). 16 * s.world.heap.config.mutators) (sym same),
      past_same a.world b.world (ap (λ (s : State). clocks_of s.world) same) whole.2,
    )
turn_whole a b asked reply (inr of) whole =
    let c : State = of.left in
    let changes = heap_tells a c of.step reply of.accepts in
    let config = changes.config in
    let there : Whole c = (
      heap_lists a c of.step reply of.passes of.accepts changes whole.0,
      heap_slots a c of.step reply of.accepts ∙ whole.1 ∙ ap (λ (g : Config). 16 * g.mutators) (sym config),
      heap_clock a c of.step reply of.accepts whole.2,
    ) in (
      lists_same c b (ap (λ (s : State). s.scanned) of.after) (ap (λ (s : State). s.world.heap.config) of.after)
          there.0,
      ap (λ (s : State). slots_in s.world) of.after ∙ there.1
          ∙ ap (λ (s : State). 16 * s.world.heap.config.mutators) (sym of.after),
      past_same c.world b.world (ap (λ (s : State). clocks_of s.world) of.after) there.2,
    )

-- at first nothing is scanned
none_scanned : (count : ℕ) → joined (replicate count []) ≡ []
none_scanned zero = refl
none_scanned (suc count) = none_scanned count

-- all three hold after every legal trace
pub legal_whole : (config : Config) (rows : List Row) (b : State) → IsRun (first_state config) rows b
    → ListsAreWhole b × SlotsAreWhole b × ClockIsPast b.world
legal_whole config rows b run =
    legal_holds config (λ past a. Whole a)
    (λ past a row c before whole h.
    turn_whole a c (heap_step a.world row.step) row.reply (row_turn a row c (legal_counted config past a before) h)
    whole) (
      (subst AreDistinct (sym (none_scanned config.workers)) tt, length-replicate config.workers []),
      length-replicate (16 * config.mutators) None,
      omega arith,
    ) rows b run
