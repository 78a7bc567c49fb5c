-- Each row of the replay goes through where some objects are gone and some references read as cleared.
use Rattle.ref_base.proofs.Common.{arith, ◌≡◌, ℕ, Bool, true, false, if◌then◌else◌, List, [], ◌∷◌, Option, Some, None}
use Rattle.ref_base.proofs.Common.{refl, ap, is_some, stored, has, Object, slot_at, got, cut, made, with_hold}
use Rattle.ref_base.proofs.Common.{changed_in, with_reference, cleared, with_field, World, Notice, with_heap, with_hand}
use Rattle.ref_base.proofs.Common.{told_object, is_done, told_notices, told_taken, told_dones, NamedStep, heap_step}
use Rattle.ref_base.proofs.Common.{handed, taking, handed_on, handed_each, unhooked, standing, took, hand_of, Heap}
use Rattle.ref_base.proofs.Common.{with_queue, with_parcel, queue_at, added_among, not_added, Done}
use Rattle.ref_base.proofs.Common.{with_rest, if_told, after_heap, after_queues, put_in, under, heap_under, Actor}
use Rattle.ref_base.proofs.Common.{Mutator, Worker, Step, Reply}
use Rattle.ref_base.specs.Told.{is_mark_end}
use Rattle.ref_base.proofs.ShownObjects.{cleared_got}
use Rattle.ref_base.proofs.SeenObjects.{heap_changed, seen_push}
use Rattle.ref_base.specs.declared.heap_step.HeapStep.TheVariants as heap
use Rattle.ref_base.specs.declared.plain_step.PlainStep.TheVariants as plain
use Rattle.ref_base.specs.declared.step.Step.TheVariants as steps

-- the number of what a row made
abbrev pub made_number : NamedStep → Reply → Option ℕ
made_number (heap.Plain (plain.New m d k)) reply = told_object reply
made_number (heap.Plain (plain.Refer m strength d s q k)) reply = told_object reply
made_number step reply = None

-- the step isn't a worker's look at a reference
abbrev pub IsNoLook : NamedStep → Type 0
IsNoLook (heap.Plain (plain.ClearNext k)) = ⊥
IsNoLook step = Unit {0}

-- nor a begin, which counts the objects
abbrev pub IsNoBegin : NamedStep → Type 0
IsNoBegin (heap.Plain (plain.Begin now how)) = ⊥
IsNoBegin step = Unit {0}

-- ---- where some objects are gone and some references read as cleared

module _ (gone : List ℕ) (these : ℕ → Bool) where
  -- it is neither gone nor one of these
  abbrev pub IsApart : Option ℕ → Type 0
  IsApart None = Unit {0}
  IsApart (Some n) = (has gone n ≡ false) × (these n ≡ false)

  told_under : {T : Type 0} (told : Option T) (change seen : T → World) (w : World)
      → ((x : T) → told ≡ Some x → seen x ≡ under gone these (change x))
      → if_told told seen (under gone these w) ≡ under gone these (if_told told change w)
  told_under None change seen w through = refl
  told_under (Some x) change seen w through = through x refl

  done_under : (done : Bool) (change seen w : World) → seen ≡ under gone these change
      → (if done then seen else under gone these w) ≡ under gone these (if done then change else w)
  done_under true change seen w through = through
  done_under false change seen w through = refl

  changes : (w : World) (held : Option ℕ) (f : Object → Object) → ((o : Object) → (f o).no ≡ o.no)
      → ((o : Object) → with_reference cleared (f o) ≡ f (with_reference cleared o))
      → changed_in (heap_under gone these w.heap) held f ≡ heap_under gone these (changed_in w.heap held f)
  changes w held f keeps clears = heap_changed these gone w.heap held f keeps clears

  cuts : (w : World) (m s : ℕ) → cut (heap_under gone these w.heap) m s ≡ heap_under gone these (cut w.heap m s)
  cuts w m s = changes w (slot_at w.heap m s) (with_reference cleared) (λ o. refl) (λ o. refl)

  got_under : (w : World) (m d s : ℕ) (value : Option ℕ)
      → got (heap_under gone these w.heap) m d s value ≡ heap_under gone these (got w.heap m d s value)
  got_under w m d s None = refl
  got_under w m d s (Some n) = search (changes, cleared_got)

  stores_under : (w : World) (m s i v : ℕ)
      → with_heap (under gone these w) (stored (heap_under gone these w.heap) m s i v)
      ≡ under gone these (with_heap w (stored w.heap m s i v))
  stores_under w m s i v =
      ap (with_heap w) (changes w (slot_at w.heap m s) (with_field i (slot_at w.heap m v)) (λ o. refl) (λ o. refl))

  cuts_under : (w : World) (m s : ℕ) → with_heap (under gone these w) (cut (heap_under gone these w.heap) m s)
      ≡ under gone these (with_heap w (cut w.heap m s))
  cuts_under w m s = ap (with_heap w) (cuts w m s)

  gets_under : (w : World) (m d s : ℕ) (value : Option ℕ)
      → with_heap (under gone these w) (got (heap_under gone these w.heap) m d s value)
      ≡ under gone these (with_heap w (got w.heap m d s value))
  gets_under w m d s value = ap (with_heap w) (got_under w m d s value)

  made_under : (w : World) (m d : ℕ) (o : Object) → has gone o.no ≡ false → these o.no ≡ false
      → with_heap (under gone these w) (made (heap_under gone these w.heap) m d o)
      ≡ under gone these (with_heap w (made w.heap m d o))
  made_under w m d o kept stays = search seen_push

  unhooked_under : (w : World) (m s : ℕ) (nothing : Bool) (told : List Notice)
      → (if nothing then with_heap (under gone these w) (cut (heap_under gone these w.heap) m s)
      else unhooked (under gone these w) m s told)
      ≡ under gone these (if nothing then with_heap w (cut w.heap m s) else unhooked w m s told)
  unhooked_under w m s true told = ap (with_heap w) (cuts w m s)
  unhooked_under w m s false [] = refl
  unhooked_under w m s false (notice ∷ rest) =
      ap (λ (h : Heap). with_heap w (with_hold h notice.object)) (cuts w m s)

  each_under : (w : World) (k : ℕ) (notices : List Notice)
      → handed_each (under gone these w) k notices ≡ under gone these (handed_each w k notices)
  each_under w k [] = refl
  each_under w k (notice ∷ rest) = each_under (handed_on w k notice.object) k rest

  -- a row of a heap goes through, where what it makes is neither gone nor one of these
  pub heap_through : (w : World) (step : NamedStep) (reply : Reply) → IsNoLook step → IsNoBegin step
      → IsApart (made_number step reply)
      → after_heap (under gone these w) step reply ≡ under gone these (after_heap w step reply)
  heap_through w (heap.Plain (plain.New m d k)) reply no_end old apart = grind (arith, made_under w m d)
  heap_through w (heap.Plain (plain.Refer m strength d s q k)) reply no_end old apart =
      grind (arith, made_under w m d)
  heap_through w (heap.Plain plain.EndMark) reply no_end old apart = done_under (is_mark_end reply) _ _ w refl
  heap_through w (heap.Plain (plain.Begin now how)) reply no_end old apart = absurd old
  heap_through w step reply no_end old apart =
      search
      (told_under, done_under, unhooked_under, each_under, stores_under, cuts_under, gets_under, no_end, refl)

  -- ---- hands and queues

  hand_under : (w : World) (who : Actor) (hand : List Notice)
      → with_hand (under gone these w) who hand ≡ under gone these (with_hand w who hand)
  hand_under w (Mutator m) hand = refl
  hand_under w (Worker k) hand = refl

  taking_under : (w : World) (who : Actor) (told : List Notice)
      → taking (under gone these w) who told ≡ under gone these (taking w who told)
  taking_under w who [] = refl
  taking_under w who (notice ∷ rest) = hand_under w who (notice ∷ rest)

  rest_under : (w : World) (who : Actor) → with_rest (under gone these w) who ≡ under gone these (with_rest w who)
  rest_under w (Mutator m) = refl
  rest_under w (Worker k) = refl

  -- what a row leaves in the hands goes through
  pub handed_through : (w : World) (step : Step) (reply : Reply)
      → handed (under gone these w) step reply ≡ under gone these (handed w step reply)
  handed_through w (steps.Unhook m s) reply = taking_under w (Mutator m) (told_notices reply)
  handed_through w (steps.Hand k) reply = taking_under w (Worker k) (told_notices reply)
  handed_through w (steps.Hands k max) reply = taking_under w (Worker k) (told_notices reply)
  handed_through w (steps.Adopt m d) reply = done_under (is_some (told_object reply)) _ _ w refl
  handed_through w (steps.Release who) reply = done_under (is_done reply) _ _ w (rest_under w who)
  handed_through w step reply = refl

  standing_under : (w : World) (notices : List Notice)
      → standing (under gone these w) notices ≡ under gone these (standing w notices)
  standing_under w [] = refl
  standing_under w (notice ∷ rest) =
      standing_under (with_queue w notice.queue (with_parcel (queue_at w notice.queue) notice)) rest

  put_under : (w : World) (who : Actor) (ds : List Done)
      → put_in (under gone these w) who ds ≡ under gone these (put_in w who ds)
  put_under w who [] = refl
  put_under w (Mutator m) (d ∷ ds) =
      let hand = hand_of w (Mutator m) in
      ap (λ (v : World). with_hand v (Mutator m) (not_added hand (d ∷ ds)))
      (standing_under w (added_among hand (d ∷ ds)))
  put_under w (Worker k) (d ∷ ds) =
      let hand = hand_of w (Worker k) in
      ap (λ (v : World). with_hand v (Worker k) (not_added hand (d ∷ ds)))
      (standing_under w (added_among hand (d ∷ ds)))

  took_under : (w : World) (m q : ℕ) (ns : List ℕ)
      → took (under gone these w) m q ns ≡ under gone these (took w m q ns)
  took_under w m q [] = refl
  took_under w m q (n ∷ ns) = refl

  -- so does a row of queues
  pub queues_through : (w : World) (step : Step) (reply : Reply)
      → after_queues (under gone these w) step reply ≡ under gone these (after_queues w step reply)
  queues_through w (steps.Put who) reply = put_under w who (told_dones reply)
  queues_through w (steps.Puts who) reply = put_under w who (told_dones reply)
  queues_through w (steps.Poll m q) reply = took_under w m q (told_taken reply)
  queues_through w (steps.Polls m q max) reply = took_under w m q (told_taken reply)
  queues_through w (steps.Close m q) reply = done_under (is_done reply) _ _ w refl
  queues_through w step reply = refl

  -- and what a step asks of its heap is the same
  pub asks_same : (w : World) (step : Step) → heap_step (under gone these w) step ≡ heap_step w step
  asks_same w (steps.Release (Mutator m)) = refl
  asks_same w (steps.Release (Worker k)) = refl
  asks_same w (steps.Plain (plain.New m d k)) = refl
  asks_same w step = refl
