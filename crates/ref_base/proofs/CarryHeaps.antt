-- What a row of a heap carries on: whatever holds of each object, of each notice and of the cycle holds afterwards
-- where it holds of what the row makes anew.
use Rattle.ref_base.proofs.Common.{arith, ◌≡◌, ℕ, ◌+◌, Bool, true, false, if◌then◌else◌, Option, Some, None, refl}
use Rattle.ref_base.proofs.Common.{Object, plain_object, Heap, slot_at, reference_at, registered_in, with_reference}
use Rattle.ref_base.proofs.Common.{got_at, with_field, got, cut, stored, nulls, new_reference, with_hold, World, Notice}
use Rattle.ref_base.proofs.Common.{Pending, pending_of, with_heap, NamedStep, pended, handed_on, without_pending, State}
use Rattle.ref_base.proofs.Common.{HeapAccepts, Cycle, Reply, if_told, after_heap}
use Rattle.ref_base.specs.CollectorRows.{Makes}
use Rattle.ref_base.proofs.Outcomes.{IsNoEnd, outcome, heap_outcome}
use Rattle.ref_base.proofs.Places.{all_push}
use Rattle.ref_base.proofs.Common.{List, [], ◌∷◌, notice_from, handed_each, unhooked}
use Rattle.ref_base.proofs.CarryLaws.{all_map, all_without, Carries, Lasts, all_without_first}
use Rattle.ref_base.proofs.CarryLaws.{carries_changed, carries_pending, given}
use Rattle.ref_base.specs.declared.heap_step.HeapStep.TheVariants as heap
use Rattle.ref_base.specs.declared.plain_step.PlainStep.TheVariants as plain
use Rattle.ref_base.specs.declared.reply.Reply.TheVariants as replies

module _ (O : Object → Type 0) (P : Notice → Type 0) (C : ℕ → Type 0) where
  -- ---- the rows of a heap

  -- what a row of a heap makes anew: an object, a pending reference, or the cycle that goes on
  abbrev pub Anew : State → NamedStep → Reply → Type 0
  Anew a (heap.Plain (plain.New m d k)) reply = reply ≡ replies.Object a.next → O (plain_object a.next (nulls k))
  Anew a (heap.Plain (plain.Refer m strength d s q k)) reply =
      reply ≡ replies.Object a.next → O (new_reference a.world.heap a.next strength (slot_at a.world.heap m s) q k)
  Anew a (heap.Plain (plain.ClearNext k)) reply =
      (n q : ℕ) → reply ≡ replies.Cleared n → registered_in (reference_at a.world.heap n) ≡ Some q
      → P (record { object = n; queue = q; cause = Cycle a.world.cycle k })
  Anew a (heap.Plain (plain.Begin now how)) reply = reply ≡ replies.Cycle (a.world.cycle + 1) → C (a.world.cycle + 1)
  Anew a step reply = Unit {0}

  abbrev MakesNothing : NamedStep → Type 0
  MakesNothing (heap.Plain (plain.New m d k)) = ⊥
  MakesNothing (heap.Plain (plain.Refer m strength d s q k)) = ⊥
  MakesNothing (heap.Plain (plain.Begin now how)) = ⊥
  MakesNothing (heap.Plain (plain.ClearNext k)) = ⊥
  MakesNothing step = Unit {0}

  makes : (a b : State) (m d : ℕ) (o : Object) (reply : Reply) → O o → Carries O P C a.world → Makes a m d o reply b
      → Carries O P C b.world
  makes a b m d o reply is carries row = search (given, all_push)

  pends : (w : World) (k n : ℕ) (queue : Option ℕ)
      → ((q : ℕ) → queue ≡ Some q → P (record { object = n; queue = q; cause = Cycle w.cycle k }))
      → Carries O P C w → Carries O P C (pended w k n queue)
  pends w k n None fresh carries = carries
  pends w k n (Some q) fresh carries = search (carries_pending, all_push, carries.pendings k)

  module _ (lasts : Lasts O) where
    -- ---- where a step leads that makes no object, looks at nothing and frees nothing

    -- what holds of all in this world, as a record that search can see
    record At (w : World) : Type 0 where
      pub carries : Carries O P C w

    hands_on : (w : World) → Carries O P C w → (k n : ℕ) → Carries O P C (handed_on w k n)
    hands_on w carries k n =
        carries_pending O P C w k (without_pending (pending_of w k) n)
        (all_without_first (λ p. P (notice_from k p)) (λ (p : Pending). p.object) (pending_of w k) n
        (carries.pendings k)) carries

    hands_each : (w : World) → Carries O P C w → (k : ℕ) (notices : List Notice) → At (handed_each w k notices)
    hands_each w carries k [] = record { carries = carries }
    hands_each w carries k (notice ∷ rest) =
        hands_each (handed_on w k notice.object) (hands_on w carries k notice.object) k rest

    module _ (w : World) (carries : Carries O P C w) where
      told : {T : Type 0} (of : Option T) (change : T → World) (v : World) → At v → ((t : T) → At (change t))
          → At (if_told of change v)
      told None change v before changed = before
      told (Some t) change v before changed = changed t

      done : (is : Bool) (u v : World) → At v → At u → At (if is then u else v)
      done true u v before changed = changed
      done false u v before changed = before

      before : At w
      before = record { carries = carries }

      stores : (m s i v : ℕ) → At (with_heap w (stored w.heap m s i v))
      stores m s i v =
          let value : Option ℕ = slot_at w.heap m v in record {
            carries = carries_changed O P C w (slot_at w.heap m s) (with_field i value)
                (λ o is. lasts.stores o i value is) carries;
          }

      cuts : (m s : ℕ) → At (with_heap w (cut w.heap m s))
      cuts m s = search carries_changed

      gets : (m d s : ℕ) (value : Option ℕ) → At (with_heap w (got w.heap m d s value))
      gets m d s None = record { carries = carries }
      gets m d s (Some n) = record {
        carries = carries_changed O P C w (slot_at w.heap m s) (with_reference (got_at w.heap.clock))
            (λ o is. lasts.gets o w.heap.clock is) carries;
      }

      unhooks : (m s n : ℕ) → At (with_heap w (with_hold (cut w.heap m s) n))
      unhooks m s n = record { carries = (cuts m s).carries }

      unhooks_any : (m s : ℕ) (nothing : Bool) (notices : List Notice)
          → At (if nothing then with_heap w (cut w.heap m s) else unhooked w m s notices)
      unhooks_any m s true notices = cuts m s
      unhooks_any m s false [] = before
      unhooks_any m s false (notice ∷ rest) = unhooks m s notice.object

      slots : (os : Heap) → At (with_heap w (record os { objects = w.heap.objects }))
      slots h = record { carries = carries }

      after_carries : (step : NamedStep) (reply : Reply) → MakesNothing step → At (after_heap w step reply)
      after_carries (heap.Plain (plain.New m d k)) reply no_end = absurd no_end
      after_carries step reply no_end =
          search (told, done, before, stores, cuts, gets, unhooks_any, hands_each w carries, slots)

    looks : (a : State) (k : ℕ) (reply : Reply) → Anew a (heap.Plain (plain.ClearNext k)) reply → Carries O P C a.world
        → Carries O P C (outcome a (heap.Plain (plain.ClearNext k)) reply).world
    looks a k (replies.Cleared n) anew carries =
        pends a.world k n (registered_in (reference_at a.world.heap n)) (λ q there. anew n q refl there) carries
    looks a k (replies.Kept n) anew carries = carries
    looks a k (replies.Skipped n) anew carries = carries
    looks a k reply anew carries = carries

    sweeps : (a : State) (k : ℕ) (reply : Reply) → Carries O P C a.world
        → Carries O P C (outcome a (heap.Plain (plain.Sweep k)) reply).world
    sweeps a k (replies.Swept count) carries = search all_without
    sweeps a k reply carries = carries

    -- a row that isn't a mark's end carries on what holds where it leads
    leads : (a b : State) (step : NamedStep) (reply : Reply) → IsNoEnd step → HeapAccepts a step reply b
        → Carries O P C (outcome a step reply).world → Carries O P C b.world
    leads a b step reply no_end row carries = grind (arith, heap_outcome)

    -- a row of a heap carries on what holds of all
    pub heap_carries : (a b : State) (step : NamedStep) (reply : Reply) → Anew a step reply → Carries O P C a.world
        → HeapAccepts a step reply b → Carries O P C b.world
    heap_carries a b (heap.Plain (plain.New m d k)) reply anew carries row =
        makes a b m d (plain_object a.next (nulls k)) reply (anew row.0) carries row
    heap_carries a b (heap.Plain (plain.Refer m strength d s q k)) reply anew carries row = search makes
    heap_carries a b (heap.Plain (plain.Begin now how)) reply anew carries row = grind arith
    heap_carries a b (heap.Plain plain.EndMark) reply anew carries row = grind (arith, all_map)
    heap_carries a b (heap.Plain (plain.ClearNext k)) reply anew carries row =
        leads a b (heap.Plain (plain.ClearNext k)) reply tt row (looks a k reply anew carries)
    heap_carries a b (heap.Plain (plain.Sweep k)) reply anew carries row =
        leads a b (heap.Plain (plain.Sweep k)) reply tt row (sweeps a k reply carries)
    heap_carries a b step reply anew carries row =
        leads a b step reply tt row (after_carries a.world carries step reply tt).carries
