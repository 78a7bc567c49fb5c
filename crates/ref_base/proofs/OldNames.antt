-- In every legal trace each number is given once: whatever is named has a number below the next.
use Rattle.ref_base.proofs.Common.{◌≡◌, ℕ, ◌+◌, ◌*◌, ◌<◌, ◌≤◌, true, List, [], ◌∷◌, map, Option, Some, None, refl, sym}
use Rattle.ref_base.proofs.Common.{ap, subst, arith, inl, inr, false≢true, any_referent, Object, object_at, is_there}
use Rattle.ref_base.proofs.Common.{numbers, IsRising, World, NamedStep, replayed, State, first_state, heap_refusal}
use Rattle.ref_base.proofs.Common.{HeapAccepts, shown, mark_ended, doomed_at, IsRun, Config, Reply, Row, heap_step}
use Rattle.ref_base.specs.OldNumbers.{HasOldNumbers}
use Rattle.ref_base.proofs.CarryRows.{all_more, nothing_pending}
use Rattle.ref_base.proofs.CountedTraces.{legal_counted}
use Rattle.ref_base.proofs.Outcomes.{outcome, heap_outcome, IsNoEnd}
use Rattle.ref_base.proofs.SeenObjects.{numbers-cleared_if, rising-without}
use Rattle.ref_base.proofs.ReplayUnder.{made_number}
use Rattle.ref_base.proofs.HeapTurns.{at_rest, IsTurn, row_turn}
use Rattle.ref_base.proofs.ReplayKeeps.{but_hands}
use Rattle.ref_base.proofs.RunFronts.{legal_holds}
use Rattle.ref_base.proofs.OneQueue.{next_heap}
use Rattle.ref_base.proofs.AgreeHeaps.{Agreeing, there-numbers}
use Rattle.ref_base.proofs.ApartWorlds.{no_slot, IsClosed, Refers, closed_roots, refers_cleared}
use Rattle.ref_base.proofs.ClosedRows.{closed_same, heap_closed}
use Rattle.ref_base.proofs.OffSets.{target_there}
use Rattle.ref_base.proofs.OutTraces.{legal_out, there_in}
use Rattle.ref_base.specs.declared.heap_step.HeapStep.TheVariants as heap
use Rattle.ref_base.specs.declared.plain_step.PlainStep.TheVariants as plain

-- ---- a mark's end

-- an object refers to no more once the mark has ended
shown_refers : (V : ℕ → Type 0) (d : List ℕ) (os : List Object) (m : ℕ)
    → Refers any_referent V (object_at os m) (object_at (map (λ o. shown d o) os) m)
shown_refers V d [] m = λ n target. inl target
shown_refers V d (o ∷ os) m = grind (arith, shown_refers V d os m, refers_cleared any_referent V o)

pub ended_old : (V : ℕ → Type 0) (a : State) (found : List (List ℕ)) → IsClosed any_referent V a.world
    → IsClosed any_referent V (mark_ended a (doomed_at a) found).world
ended_old V a found closed = grind (arith, shown_refers V)

-- ---- rows

-- the objects of the collector stand in order of number
pub rising_objects : (gone : List ℕ) (w : World) (a : State) → Agreeing gone w a
    → IsRising (numbers a.world.heap.objects)
rising_objects gone w a is = grind (arith, numbers-cleared_if, rising-without)

-- and each has a number below the next
pub old_objects : (gone : List ℕ) (w : World) (a : State) → Agreeing gone w a → (n : ℕ)
    → is_there a.world.heap.objects n ≡ true → n < a.next
old_objects gone w a is n there =
    is.below n (there-numbers w.heap.objects n (there_in gone w a is.agrees n there).1)

-- what is below the next is below a greater one
old_more : (a : State) (next : ℕ) → ((n : ℕ) → is_there a.world.heap.objects n ≡ true → n < a.next) → a.next ≤ next
    → IsClosed any_referent (λ n. n < a.next) a.world → IsClosed any_referent (λ n. n < next) a.world
old_more a next objects grows closed = grind (arith, all_more)

-- what is made has the next number, and then comes one more
made_next : (a : State) (step : NamedStep) (reply : Reply) → made_number step reply ≡ Some a.next
    → (outcome a step reply).next ≡ a.next + 1
made_next a (heap.Plain (plain.New m d k)) reply made = refl
made_next a (heap.Plain (plain.Refer m strength d s q k)) reply made = refl
made_next a step reply made = absurd cc

plain_old : (gone : List ℕ) (w : World) (a c : State) (step : NamedStep) (reply : Reply) → Agreeing gone w a
    → IsNoEnd step → heap_refusal a step ≡ None → HeapAccepts a step reply c
    → IsClosed any_referent (λ n. n < a.next) a.world → IsClosed any_referent (λ n. n < c.next) c.world
plain_old gone w a c step reply is no_end none row closed =
    let grows : a.next ≤ c.next = next_heap a c step reply row in
    let leads : c.next ≡ (outcome a step reply).next =
    ap (λ (s : State). s.next) (heap_outcome a c step reply no_end row) in
    heap_closed (λ n. n < c.next) a c (old_more a c.next (old_objects gone w a is) grows closed) step reply no_end none
    (λ made. let next = made_next a step reply made in omega (arith, leads, next))
    (λ clearing n cleared. let less = is.cleared_below n cleared in omega (arith, less, grows)) row

heap_old : (gone : List ℕ) (w : World) (a c : State) (step : NamedStep) (reply : Reply) → Agreeing gone w a
    → heap_refusal a step ≡ None → HeapAccepts a step reply c → IsClosed any_referent (λ n. n < a.next) a.world
    → IsClosed any_referent (λ n. n < c.next) c.world
heap_old gone w a c (heap.Plain plain.EndMark) reply is none row closed =
    subst (λ (s : State). IsClosed any_referent (λ n. n < s.next) s.world) (sym row.after)
    (ended_old (λ n. n < a.next) a row.found closed)
heap_old gone w a c step reply is none row closed = plain_old gone w a c step reply is tt none row closed

-- other hands and queues
same_old : (a b : State) → at_rest b ≡ at_rest a → IsClosed any_referent (λ n. n < a.next) a.world
    → IsClosed any_referent (λ n. n < b.next) b.world
same_old a b same closed =
    let others : but_hands b.world ≡ but_hands a.world = ap (λ (s : State). s.world) same in
    subst (λ (k : ℕ). IsClosed any_referent (λ n. n < k) b.world) (sym (ap (λ (s : State). s.next) same))
    (closed_same any_referent (λ n. n < a.next) a.world b.world (ap (λ (w : World). w.heap.slots) others)
    (ap (λ (w : World). w.heap.holds) others) (ap (λ (w : World). w.pending) others)
    (ap (λ (w : World). w.heap.objects) others) closed)

turn_old : (gone : List ℕ) (w : World) (a b : State) (asked : Option NamedStep) (reply : Reply) → Agreeing gone w a
    → IsTurn a asked reply b → IsClosed any_referent (λ n. n < a.next) a.world
    → IsClosed any_referent (λ n. n < b.next) b.world
turn_old gone w a b asked reply is (inl of) closed = same_old a b of.after closed
turn_old gone w a b asked reply is (inr of) closed =
    same_old of.left b of.after (heap_old gone w a of.left of.step reply is of.passes of.accepts closed)

-- ---- after every legal trace

legal_old : (config : Config) (rows : List Row) (b : State) → IsRun (first_state config) rows b
    → IsClosed any_referent (λ n. n < b.next) b.world
legal_old config rows b run =
    legal_holds config (λ past a. IsClosed any_referent (λ n. n < a.next) a.world)
    (λ past a row c run closed h.
    let known = legal_out config past a run in
    turn_old known.0 (replayed config past) a c (heap_step a.world row.step) row.reply known.1
    (row_turn a row c (legal_counted config past a run) h) closed)
    (record {
      slots = no_slot (λ n. n < 1) (16 * config.mutators);
      holds = λ n held. absurd (false≢true held);
      pendings = λ k. nothing_pending (λ p. p.object < 1) config k;
      targets = λ m n is target. absurd (false≢true target);
    }) rows b run

-- numbers are given once
pub legal_numbers : (config : Config) (rows : List Row) (b : State) → IsRun (first_state config) rows b
    → HasOldNumbers b
legal_numbers config rows b run =
    grind (arith, legal_out, old_objects, legal_old, rising_objects, closed_roots, target_there)
