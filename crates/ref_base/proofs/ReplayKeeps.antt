-- What a row of the replay leaves as it was: all but objects, slots, holds and what is pending, but at the ends of
-- phases; the numbers of objects, but where one is made; and all but hands and queues, where no heap is asked.
use Rattle.ref_base.proofs.Common.{arith, ◌≡◌, ℕ, Bool, true, false, if◌then◌else◌, List, [], ◌∷◌, ◌++◌, Option, Some}
use Rattle.ref_base.proofs.Common.{None, refl, sym, ap, ◌∙◌, is_some, map-append, append-nil, Object, numbers}
use Rattle.ref_base.proofs.Common.{plain_object, if_any, slot_at, reference_at, registered_in, changed_in}
use Rattle.ref_base.proofs.Common.{with_reference, cleared, got_at, got, cut, nulls, World, Notice, with_heap, hand_of}
use Rattle.ref_base.proofs.Common.{with_hand, told_object, is_done, told_notices, told_taken, told_dones, NamedStep}
use Rattle.ref_base.proofs.Common.{handed, taking, handed_on, handed_each, unhooked, standing, took, with_hold}
use Rattle.ref_base.proofs.Common.{with_queue, with_parcel, queue_at, added_among, not_added, Done}
use Rattle.ref_base.proofs.Common.{if_told, after_heap, after_queues, pended, put_in, Actor, Mutator, Worker, Step}
use Rattle.ref_base.proofs.Common.{Reply}
use Rattle.ref_base.specs.Told.{told_cleared}
use Rattle.ref_base.proofs.Lookups.{numbers-changed}
use Rattle.ref_base.proofs.ReplayUnder.{made_number}
use Rattle.ref_base.specs.declared.heap_step.HeapStep.TheVariants as heap
use Rattle.ref_base.specs.declared.plain_step.PlainStep.TheVariants as plain
use Rattle.ref_base.specs.declared.step.Step.TheVariants as steps

module _ {R : Type 0} (get : World → R) where
  pub told_keeps : {T : Type 0} (told : Option T) (change : T → World) (w : World) → ((x : T) → get (change x) ≡ get w)
      → get (if_told told change w) ≡ get w
  told_keeps None change w keeps = refl
  told_keeps (Some x) change w keeps = keeps x

  pub done_keeps : (done : Bool) (change w : World) → get change ≡ get w → get (if done then change else w) ≡ get w
  done_keeps true change w keeps = keeps
  done_keeps false change w keeps = refl

  unhooked_keeps : (w : World) (m s : ℕ) (nothing : Bool) (told : List Notice)
      → get (with_heap w (cut w.heap m s)) ≡ get w
      → ((n : ℕ) → get (with_heap w (with_hold (cut w.heap m s) n)) ≡ get w)
      → get (if nothing then with_heap w (cut w.heap m s) else unhooked w m s told) ≡ get w
  unhooked_keeps w m s true told same keeps = same
  unhooked_keeps w m s false [] same keeps = refl
  unhooked_keeps w m s false (notice ∷ rest) same keeps = keeps notice.object

  -- what a hand of one keeps a hand of several keeps
  pub each_keeps : ((v : World) (k n : ℕ) → get (handed_on v k n) ≡ get v) → (w : World) (k : ℕ)
      (notices : List Notice) → get (handed_each w k notices) ≡ get w
  each_keeps keeps w k [] = refl
  each_keeps keeps w k (notice ∷ rest) =
      each_keeps keeps (handed_on w k notice.object) k rest ∙ keeps w k notice.object

-- ---- all but objects, slots, holds, what waits and how many objects were swept

-- a world but for its objects, slots and holds, and how many objects were swept
abbrev pub frame_of : World → World
frame_of w = record w { heap = record w.heap { objects = []; slots = []; holds = [] }; swept = 0 }

-- the step ends no phase
abbrev pub EndsNoPhase : NamedStep → Type 0
EndsNoPhase (heap.Plain (plain.Begin now how)) = ⊥
EndsNoPhase (heap.Plain plain.EndMark) = ⊥
EndsNoPhase (heap.Plain plain.EndClear) = ⊥
EndsNoPhase (heap.Plain plain.EndSweep) = ⊥
EndsNoPhase (heap.Plain plain.Select) = ⊥
EndsNoPhase (heap.Plain plain.EndMove) = ⊥
EndsNoPhase step = Unit {0}

-- the step neither clears for a worker nor hands on
abbrev pub PendsNone : NamedStep → Type 0
PendsNone (heap.Plain (plain.ClearNext k)) = ⊥
PendsNone (heap.Hand k) = ⊥
PendsNone (heap.Hands k max batch) = ⊥
PendsNone step = Unit {0}

frame_changed : (w : World) (held : Option ℕ) (f : Object → Object)
    → frame_of (with_heap w (changed_in w.heap held f)) ≡ frame_of w
frame_changed w None f = refl
frame_changed w (Some n) f = refl

frame_cut : (w : World) (m s : ℕ) → frame_of (with_heap w (cut w.heap m s)) ≡ frame_of w
frame_cut w m s = frame_changed w (slot_at w.heap m s) (with_reference cleared)

frame_got : (w : World) (m d s : ℕ) (value : Option ℕ) → frame_of (with_heap w (got w.heap m d s value)) ≡ frame_of w
frame_got w m d s None = refl
frame_got w m d s (Some n) = frame_changed w (slot_at w.heap m s) (with_reference (got_at w.heap.clock))

pub same_frame : (w : World) (step : NamedStep) (reply : Reply) → EndsNoPhase step → PendsNone step
    → frame_of (after_heap w step reply) ≡ frame_of w
same_frame w (heap.Plain plain.EndMark) reply no_end calm = absurd no_end
same_frame w step reply no_end calm =
    search (
      told_keeps frame_of,
      done_keeps frame_of,
      unhooked_keeps frame_of,
      frame_changed,
      frame_cut,
      frame_got,
      no_end,
      calm,
      refl,
    )

pub frame_pending : (w : World) (step : NamedStep) (reply : Reply) → EndsNoPhase step → PendsNone step
    → (after_heap w step reply).pending ≡ w.pending
frame_pending w step reply no_end calm = ap (λ (v : World). v.pending) (same_frame w step reply no_end calm)

-- and but for what is pending
abbrev pub stage_of : World → World
stage_of w = record (frame_of w) { pending = [] }

pub stage_pended : (w : World) (k n : ℕ) (queue : Option ℕ) → stage_of (pended w k n queue) ≡ stage_of w
stage_pended w k n None = refl
stage_pended w k n (Some q) = refl

pub same_stage : (w : World) (step : NamedStep) (reply : Reply) → EndsNoPhase step
    → stage_of (after_heap w step reply) ≡ stage_of w
same_stage w (heap.Plain (plain.Begin now how)) reply no_end = absurd no_end
same_stage w (heap.Plain plain.EndMark) reply no_end = absurd no_end
same_stage w (heap.Plain plain.EndClear) reply no_end = absurd no_end
same_stage w (heap.Plain plain.EndSweep) reply no_end = absurd no_end
same_stage w (heap.Plain plain.Select) reply no_end = absurd no_end
same_stage w (heap.Plain plain.EndMove) reply no_end = absurd no_end
same_stage w (heap.Plain (plain.ClearNext k)) reply no_end = grind arith
same_stage w (heap.Hand k) reply no_end = each_keeps stage_of (λ _ _ _. refl) w k (told_notices reply)
same_stage w (heap.Hands k max batch) reply no_end = each_keeps stage_of (λ _ _ _. refl) w k (told_notices reply)
same_stage w step reply no_end =
    ap (λ (v : World). record v { pending = [] }) (same_frame w step reply no_end tt)

pub same_phase : (w : World) (step : NamedStep) (reply : Reply) → EndsNoPhase step
    → (after_heap w step reply).phase ≡ w.phase
same_phase w step reply no_end = ap (λ (v : World). v.phase) (same_stage w step reply no_end)

-- ---- the numbers of objects

abbrev pub numbers_of : World → List ℕ
numbers_of w = numbers w.heap.objects

numbers_in : (w : World) (held : Option ℕ) (f : Object → Object) → ((o : Object) → (f o).no ≡ o.no)
    → numbers (changed_in w.heap held f).objects ≡ numbers_of w
numbers_in w None f keeps = refl
numbers_in w (Some n) f keeps = numbers-changed w.heap.objects n f keeps

numbers_cut : (w : World) (m s : ℕ) → numbers (cut w.heap m s).objects ≡ numbers_of w
numbers_cut w m s = numbers_in w (slot_at w.heap m s) (with_reference cleared) (λ o. refl)

numbers_got : (w : World) (m d s : ℕ) (value : Option ℕ) → numbers (got w.heap m d s value).objects ≡ numbers_of w
numbers_got w m d s None = refl
numbers_got w m d s (Some n) = numbers_in w (slot_at w.heap m s) (with_reference (got_at w.heap.clock)) (λ o. refl)

pub numbers_pended : (w : World) (k n : ℕ) (queue : Option ℕ) → numbers_of (pended w k n queue) ≡ numbers_of w
numbers_pended w k n None = refl
numbers_pended w k n (Some q) = refl

numbers_made : (w : World) (told : Option ℕ) (change : ℕ → World)
    → ((n : ℕ) → numbers_of (change n) ≡ numbers_of w ++ n ∷ [])
    → numbers_of (if_told told change w) ≡ numbers_of w ++ if_any told
numbers_made w None change pushes = sym (append-nil (numbers_of w))
numbers_made w (Some n) change pushes = pushes n

-- the step makes no object
abbrev pub MakesNone : NamedStep → Type 0
MakesNone (heap.Plain (plain.New m d k)) = ⊥
MakesNone (heap.Plain (plain.Refer m strength d s q k)) = ⊥
MakesNone step = Unit {0}

pub numbers_same : (w : World) (step : NamedStep) (reply : Reply) → MakesNone step
    → numbers_of (after_heap w step reply) ≡ numbers_of w
numbers_same w (heap.Plain (plain.ClearNext k)) reply no_end =
    told_keeps numbers_of (told_cleared reply) _ w
    (λ n. numbers_pended _ k n (registered_in (reference_at w.heap n))
    ∙ numbers_in w (Some n) (with_reference cleared) (λ o. refl))
numbers_same w step reply no_end =
    search (
      told_keeps numbers_of,
      done_keeps numbers_of,
      unhooked_keeps numbers_of,
      each_keeps numbers_of,
      numbers_in,
      numbers_cut,
      numbers_got,
      no_end,
      refl,
    )

pub numbers_after : (w : World) (step : NamedStep) (reply : Reply)
    → numbers_of (after_heap w step reply) ≡ numbers_of w ++ if_any (made_number step reply)
numbers_after w (heap.Plain (plain.New m d k)) reply =
    numbers_made w (told_object reply) _ (λ n. map-append (λ o. o.no) w.heap.objects (plain_object n (nulls k) ∷ []))
numbers_after w (heap.Plain (plain.Refer m strength d s q k)) reply = search (numbers_made, map-append)
numbers_after w step reply = numbers_same w step reply tt ∙ sym (append-nil (numbers_of w))

-- ---- how many objects were swept

-- the step frees nothing
abbrev pub FreesNone : NamedStep → Type 0
FreesNone (heap.Plain (plain.Sweep k)) = ⊥
FreesNone step = Unit {0}

abbrev swept_in : World → ℕ
swept_in w = w.swept

swept_pended : (w : World) (k n : ℕ) (queue : Option ℕ) → swept_in (pended w k n queue) ≡ swept_in w
swept_pended w k n None = refl
swept_pended w k n (Some q) = refl

pub same_swept : (w : World) (step : NamedStep) (reply : Reply) → FreesNone step
    → (after_heap w step reply).swept ≡ w.swept
same_swept w (heap.Plain (plain.ClearNext k)) reply no_sweep =
    told_keeps swept_in (told_cleared reply) _ w
    (λ n. swept_pended _ k n (registered_in (reference_at w.heap n)))
same_swept w step reply no_sweep =
    search (
      told_keeps swept_in,
      done_keeps swept_in,
      unhooked_keeps swept_in,
      each_keeps swept_in,
      no_sweep,
      refl,
    )

-- ---- hands and queues

-- a world without its hands and queues
abbrev pub but_hands : World → World
but_hands w = record w { mutator_hands = []; worker_hands = []; queues = [] }

hand_keeps : (w : World) (who : Actor) (hand : List Notice) → but_hands (with_hand w who hand) ≡ but_hands w
hand_keeps w (Mutator m) hand = refl
hand_keeps w (Worker k) hand = refl

taking_keeps : (w : World) (who : Actor) (told : List Notice) → but_hands (taking w who told) ≡ but_hands w
taking_keeps w who [] = refl
taking_keeps w who (notice ∷ rest) = hand_keeps w who (notice ∷ rest)

pub handed_keeps : (w : World) (step : Step) (reply : Reply) → but_hands (handed w step reply) ≡ but_hands w
handed_keeps w (steps.Unhook m s) reply = taking_keeps w (Mutator m) (told_notices reply)
handed_keeps w (steps.Hand k) reply = taking_keeps w (Worker k) (told_notices reply)
handed_keeps w (steps.Hands k max) reply = taking_keeps w (Worker k) (told_notices reply)
handed_keeps w (steps.Adopt m d) reply = done_keeps but_hands (is_some (told_object reply)) _ w refl
handed_keeps w (steps.Release who) reply = done_keeps but_hands (is_done reply) _ w (hand_keeps w who _)
handed_keeps w step reply = refl

standing_keeps : (w : World) (notices : List Notice) → but_hands (standing w notices) ≡ but_hands w
standing_keeps w [] = refl
standing_keeps w (notice ∷ rest) =
    standing_keeps (with_queue w notice.queue (with_parcel (queue_at w notice.queue) notice)) rest

pub put_keeps : (w : World) (who : Actor) (ds : List Done) → but_hands (put_in w who ds) ≡ but_hands w
put_keeps w who [] = refl
put_keeps w who (d ∷ ds) =
    hand_keeps (standing w (added_among (hand_of w who) (d ∷ ds))) who (not_added (hand_of w who) (d ∷ ds))
    ∙ standing_keeps w (added_among (hand_of w who) (d ∷ ds))

took_keeps : (w : World) (m q : ℕ) (ns : List ℕ) → but_hands (took w m q ns) ≡ but_hands w
took_keeps w m q [] = refl
took_keeps w m q (n ∷ ns) = refl

pub queues_keep : (w : World) (step : Step) (reply : Reply) → but_hands (after_queues w step reply) ≡ but_hands w
queues_keep w (steps.Put who) reply = put_keeps w who (told_dones reply)
queues_keep w (steps.Puts who) reply = put_keeps w who (told_dones reply)
queues_keep w (steps.Poll m q) reply = took_keeps w m q (told_taken reply)
queues_keep w (steps.Polls m q max) reply = took_keeps w m q (told_taken reply)
queues_keep w (steps.Close m q) reply = done_keeps but_hands (is_done reply) _ w refl
queues_keep w step reply = refl
