-- The history of a heap: what three calls register apart is kept apart, where other calls between them name no slot of
-- the mutator.
use Rattle.ref_share.proofs.Common.{arith, ◌≡◌, ◌≢◌, ℕ, zero, suc, ◌+◌, ◌<◌, ◌≤◌, true, false, List, [], ◌∷◌, ◌++◌}
use Rattle.ref_share.proofs.Common.{refl}
use Rattle.ref_share.proofs.Common.{Option, Some, None, inl, inr, sym, ap, ◌∙◌, subst, false≢true, slice_index_or}
use Rattle.ref_share.proofs.Common.{slice_set}
use Rattle.ref_share.proofs.Common.{append-nil, append_assoc, AllByRecursion, has, tally, State, World, NamedStep}
use Rattle.ref_share.proofs.Common.{Config}
use Rattle.ref_share.proofs.Common.{Reply, HoldName, Leads, entry, told_reply, HeapAnswer, IsHeapTurn}
use Rattle.ref_share.proofs.Common.{HeapEntry, IsHeapRun, first_state_of, heap_replayed, HeapAccepts}
use Rattle.ref_share.proofs.Common.{heap_refusal, EndsMark, doomed_at, makes_phantom, map, told_notices}
use Rattle.std.proofs.Common.{◌*◌, nat_lt}
use Rattle.std.proofs.lemmas.Bool.{and_parts, ltb-true}
use Rattle.ref_base.specs.CollectorRows.{shown}
use Rattle.ref_base.specs.Graphs.{Object, object_at}
use Rattle.ref_base.specs.Heaps.{Heap}
use Rattle.ref_base.specs.Paths.{any_referent}
use Rattle.ref_base.specs.Refusals.{has_slot, has_slots, is_mutator}
use Rattle.ref_base.specs.Replay.{after_heap}
use Rattle.ref_base.specs.Told.{told_object, named_by}
use Rattle.ref_base.specs.Worlds.{object_of}
use Rattle.ref_base.proofs.ApartWorlds.{IsClosed, Refers, no_slot, refers_cleared, closed_objects}
use Rattle.ref_base.proofs.CarryRows.{nothing_pending}
use Rattle.ref_base.proofs.ClosedRows.{closed_same, heap_closed, named_is}
use Rattle.ref_base.proofs.HasLaws.{has-right, has-first}
use Rattle.ref_base.proofs.HeapTurns.{heap_kind}
use Rattle.ref_base.proofs.HoldCounts.{tally-append}
use Rattle.ref_base.proofs.Lookups.{is_there-has}
use Rattle.ref_base.proofs.Outcomes.{heap_outcome}
use Rattle.ref_base.proofs.Places.{set_each}
use Rattle.ref_base.proofs.ReplayKeeps.{numbers_of, numbers_after}
use Rattle.ref_base.proofs.ReplayUnder.{made_number}
use Rattle.ref_base.proofs.RowForms.{unless_passes}
use Rattle.ref_base.proofs.RunLaws.{one_on}
use Rattle.ref_turn.proofs.Logs.{leads_cut}
use Rattle.ref_share.specs.ApartHistories.{put_in_slot, adopted_by, mutator_of, IsKeptApart, WasFoundDead}
use Rattle.ref_share.specs.HeapCalls.{is_refusal}
use Rattle.ref_share.specs.HeapHistories.{minted, minted_by}
use Rattle.ref_share.specs.HeapTraces.{heap_replayed_from}
use Rattle.ref_share.proofs.ApartRuns.{IsOutBut, HasNot, first_out, out_but, emptied, read_by, unread, held_is}
use Rattle.ref_share.proofs.ApartRuns.{minted-append, tally-lacks, tally-own, replayed-append}
use Rattle.ref_share.proofs.HeapReplays.{run_known, replayed_last, heap_refused, shown_more}
use Rattle.ref_share.proofs.HeapRuns.{IsCall}
use Rattle.ref_share.proofs.KeptRuns.{IsFree, MayCome, goes, free_then, made_then, next_call, next_run, stored_read}
use Rattle.ref_share.proofs.KeptRuns.{refused_put, refused_gives}
use Rattle.ref_share.proofs.SlotRuns.{OfSlots, slots_then, filled_by}
use Rattle.ref_share.proofs.TargetRuns.{objects_then}
use Rattle.ref_base.specs.declared.heap_step.HeapStep.TheVariants as heap
use Rattle.ref_base.specs.declared.plain_step.PlainStep.TheVariants as plain
use Rattle.ref_base.specs.declared.reply.Reply.TheVariants as told
use Rattle.ref_world.specs.declared.heap_machine.HeapReply.TheVariants as replies

-- ---- a number that isn't given yet

-- an object refers to no more once the mark has ended
shown_refers : (V : ℕ → Type 0) (d : List ℕ) (os : List Object) (m : ℕ)
    → Refers any_referent V (object_at os m) (object_at (map (λ o. shown d o) os) m)
shown_refers V d [] m = λ n target. inl target
shown_refers V d (o ∷ os) m = grind (arith, shown_refers V d os m, refers_cleared any_referent V o)

ended : (V : ℕ → Type 0) (a b : State) (reply : Reply) → EndsMark a reply b → IsClosed any_referent V a.world
    → IsClosed any_referent V b.world
ended V a b reply row closed =
    subst (λ (s : State). IsClosed any_referent V s.world) (sym row.after)
    (closed_same any_referent V _ _ refl refl refl refl
    (closed_objects any_referent V a.world (map (λ o. shown (doomed_at a) o) a.world.heap.objects)
    (λ m is. shown_refers V (doomed_at a) a.world.heap.objects m) closed))

-- what is made takes the next number
made_grows : (x y : State) (step : NamedStep) (reply : Reply) → made_number step reply ≡ Some x.next
    → HeapAccepts x step reply y → y.next ≡ x.next + 1
made_grows x y (heap.Plain (plain.New m d k)) reply made row =
    ap (λ (s : State). s.next) (heap_outcome x y (heap.Plain (plain.New m d k)) reply tt row)
made_grows x y (heap.Plain (plain.Refer m strength d s q k)) reply made row =
    ap (λ (s : State). s.next) (heap_outcome x y (heap.Plain (plain.Refer m strength d s q k)) reply tt row)
made_grows x y step reply made row = absurd cc

-- what a reply doesn't name it doesn't put or give
put_named : (n : ℕ) (reply : HeapAnswer) → AllByRecursion (λ k. k ≢ n) (named_by (told_reply reply))
    → put_in_slot reply ≢ Some n
put_named n (replies.Told (told.Object k)) all = λ is. all.0 cc
put_named n reply all = λ is. absurd cc

others_lack : (n : ℕ) (ns : List ℕ) → AllByRecursion (λ k. k ≢ n) ns → has ns n ≡ false
others_lack n [] all = refl
others_lack n (k ∷ ns) all = grind (arith, others_lack n ns all.1)

objects_named : (n : ℕ) (reply : Reply) → AllByRecursion (λ k. k ≢ n) (named_by reply)
    → has (map object_of (told_notices reply)) n ≡ false
objects_named n (told.Notice k q cause) all = others_lack n (k ∷ []) all
objects_named n (told.Notices ns q cycle k) all = same_named ns all
  where
    same_named : (ks : List ℕ) → AllByRecursion (λ k. k ≢ n) ks
        → has (map object_of (told_notices (told.Notices ks q cycle k))) n ≡ false
    same_named [] all = refl
    same_named (m ∷ ks) all = grind (arith, same_named ks all.1)
objects_named n reply all = refl

given_named : (n : ℕ) (step : NamedStep) (reply : HeapAnswer)
    → AllByRecursion (λ k. k ≢ n) (named_by (told_reply reply)) → has (minted_by step reply) n ≡ false
given_named n step (replies.Notice notice) all = others_lack n (notice.hold.object ∷ []) all
given_named n step (replies.Held hold) all = others_lack n (hold.object ∷ []) all
given_named n step (replies.Handed reply after) all = objects_named n reply all
given_named n step reply all = refl

module _ (config : Config) (number n : ℕ) where
  -- nothing names n: no slot, hold or pending reference, and no object
  record IsFresh (past : List HeapEntry) (x : State) : Type 0 where
    pub closed : IsClosed any_referent (λ k. k ≢ n) x.world
    pub free : IsFree n None (heap_replayed config number past)

  closed_next : (gone : List ℕ) (past : List HeapEntry) (x y : State) (step : NamedStep) (reply : Reply)
      → ((k : ℕ) → has x.cleared k ≡ true → k < x.next) → IsClosed any_referent (λ k. k ≢ n) x.world → x.next ≤ n
      → (made_number step reply ≡ Some x.next → x.next ≢ n) → heap_refusal x step ≡ None → HeapAccepts x step reply y
      → IsClosed any_referent (λ k. k ≢ n) y.world
  closed_next gone past x y (heap.Plain plain.EndMark) reply below closed small other passes row =
      ended (λ k. k ≢ n) x y reply row closed
  closed_next gone past x y step reply below closed small other passes row =
      heap_closed (λ k. k ≢ n) x y closed step reply tt passes other
      (λ clearing k cleared is. let less = below k cleared in absurd (omega (arith, less, small, is))) row

  -- a call before n is given doesn't name it
  fresh_call : (past : List HeapEntry) (x : State) (call : HeapEntry) (y : State) → IsHeapRun config number past x
      → IsHeapTurn x call.step call.reply y → IsFresh past x → y.next ≤ n
      → IsFresh (past ++ call ∷ []) y × (has (minted_by call.step call.reply) n ≡ false)
  fresh_call past x call y run turn fresh small =
      let w : World = heap_replayed config number past in
      let known = run_known config number past x run in
      let grows = next_call x y call.step call.reply turn in
      elim (heap_kind x y call.step (told_reply call.reply) turn.row) [
        | inl of ↦ (
          record {
            closed = subst (λ (s : State). IsClosed any_referent (λ k. k ≢ n) s.world) (sym of.2) fresh.closed;
            free = subst (IsFree n None)
                (sym (replayed_last _ past call ∙ ap (λ (r : Reply). after_heap w call.step r) of.1
                ∙ heap_refused w call.step of.0)) fresh.free;
          },
          refused_gives n call.step of.0 call.reply of.1,
        )
        | inr of ↦
            let other : made_number call.step (told_reply call.reply) ≡ Some x.next → x.next ≢ n =
            λ made is.
            let next = made_grows x y call.step (told_reply call.reply) made of.1 in
            absurd (omega (arith, next, small, is)) in
            let named = named_is (λ k. k ≢ n) x y fresh.closed call.step (told_reply call.reply) other of.0 of.1 in
            let put = put_named n call.reply named in
            let stored = stored_read n w call.step (unread n w fresh.free.slots call.step) in (
              record {
                closed = closed_next known.0 past x y call.step (told_reply call.reply)
                    (λ k cleared. known.1.0.cleared_below k cleared) fresh.closed (omega (arith, grows, small)) other
                    of.0 of.1;
                free = subst (IsFree n None) (sym (replayed_last _ past call))
                    (free_then n None w x.world.heap.no call.step call.reply turn.gives put stored fresh.free);
              },
              given_named n call.step call.reply named,
            )
      ]

  fresh_run : (past : List HeapEntry) (x : State) (calls : List HeapEntry) (y : State) → IsHeapRun config number past x
      → Leads IsHeapTurn x calls y → IsFresh past x → y.next ≤ n
      → IsFresh (past ++ calls) y × (tally (minted calls) n ≡ 0)
  fresh_run past x [] y run leads fresh small = (
    subst (λ (es : List HeapEntry). IsFresh es y) (sym (append-nil past))
        (subst (λ (s : State). IsFresh past s) (sym leads) fresh),
    refl,
  )
  fresh_run past x (call ∷ calls) y run leads fresh small =
      let grows = next_run leads.0 calls y leads.2 in
      let first = fresh_call past x call leads.0 run leads.1 fresh (omega (arith, grows, small)) in
      let later = fresh_run (past ++ call ∷ []) leads.0 calls y
      (one_on IsCall (first_state_of config number) past x leads.0 call run leads.1) leads.2 first.0 small in
      let own = tally-lacks (minted_by call.step call.reply) n first.1 in
      let all = tally-append (minted_by call.step call.reply) (minted calls) n in (
        subst (λ (es : List HeapEntry). IsFresh es y) (append_assoc past (call ∷ []) calls) later.0,
        omega (arith, own, all, later.1),
      )

  first_fresh : IsFresh [] (first_state_of config number)
  first_fresh = record {
    closed = record {
      slots = no_slot (λ k. k ≢ n) (16 * config.mutators);
      holds = λ k held. absurd (false≢true held);
      pendings = λ k. nothing_pending (λ p. p.object ≢ n) config k;
      targets = λ m k is target. absurd (false≢true target);
    };
    free = record { slots = first_out n config number; objects = record { each = λ m. refl } };
  }

-- ---- what calls of other mutators read and fill

slot_within : (h : Heap) (m s : ℕ) → has_slot h m s ≡ true → s < 16
slot_within h m s is = ltb-true s 16 (and_parts (is_mutator h m) (nat_lt s 16) is).1

slots_within : (h : Heap) (m s r : ℕ) → has_slots h m s r ≡ true → (s < 16) × (r < 16)
slots_within h m s r is =
    let both = and_parts (has_slot h m s) (nat_lt r 16) is in (slot_within h m s both.0, ltb-true r 16 both.1)

places_apart : (k m d s : ℕ) → d < 16 → s < 16 → k ≢ m → 16 * k + d ≢ 16 * m + s
places_apart k m d s small less other is = other (omega (arith, is, small, less))

module _ (x : State) (m s : ℕ) (within : s < 16) where
  abbrev place : ℕ
  place = 16 * m + s

  other_mutator : (k : ℕ) → Some k ≢ Some m → k ≢ m
  other_mutator k other is = other (ap (λ (j : ℕ). Some j) is)

  -- the slot that a call of another mutator fills is another
  fills_elsewhere : (step : NamedStep) → heap_refusal x step ≡ None → mutator_of step ≢ Some m → (i : ℕ)
      → filled_by step ≡ Some i → i ≢ place
  fills_elsewhere (heap.Plain (plain.New k d f)) passes other i fills is =
      let there = slot_within x.world.heap k d (unless_passes _ _ _ passes).0 in
      places_apart k m d s there within (other_mutator k other) cc
  fills_elsewhere (heap.Plain (plain.Refer k strength d r q f)) passes other i fills is =
      let there = (slots_within x.world.heap k d r (unless_passes _ _ _ passes).0).0 in
      places_apart k m d s there within (other_mutator k other) cc
  fills_elsewhere (heap.Plain (plain.Load k d r f)) passes other i fills is =
      let there = (slots_within x.world.heap k d r (unless_passes _ _ _ passes).0).0 in
      places_apart k m d s there within (other_mutator k other) cc
  fills_elsewhere (heap.Plain (plain.Copy k d r)) passes other i fills is =
      let there = (slots_within x.world.heap k d r (unless_passes _ _ _ passes).0).0 in
      places_apart k m d s there within (other_mutator k other) cc
  fills_elsewhere (heap.Plain (plain.Get k d r)) passes other i fills is =
      let there = (slots_within x.world.heap k d r (unless_passes _ _ _ passes).0).0 in
      places_apart k m d s there within (other_mutator k other) cc
  fills_elsewhere (heap.Adopt k d hold) passes other i fills is =
      let there = slot_within x.world.heap k d (unless_passes _ _ _ passes).0 in
      places_apart k m d s there within (other_mutator k other) cc
  fills_elsewhere step passes other i fills is = absurd cc

  -- nor does it read this one
  reads_elsewhere : (n : ℕ) (step : NamedStep) → heap_refusal x step ≡ None → mutator_of step ≢ Some m
      → IsOutBut n (Some place) x.world → read_by x.world step ≢ Some n
  reads_elsewhere n (heap.Plain (plain.Store k r i v)) passes other out =
      let there = (slots_within x.world.heap k r v (unless_passes _ _ _ passes).0).1 in
      out.each (16 * k + v) (places_apart k m v s there within (other_mutator k other))
  reads_elsewhere n (heap.Plain (plain.Refer k strength d r q f)) passes other out =
      let there = (slots_within x.world.heap k d r (unless_passes _ _ _ passes).0).1 in
      out.each (16 * k + r) (places_apart k m r s there within (other_mutator k other))
  reads_elsewhere n (heap.Plain (plain.Copy k d r)) passes other out =
      let there = (slots_within x.world.heap k d r (unless_passes _ _ _ passes).0).1 in
      out.each (16 * k + r) (places_apart k m r s there within (other_mutator k other))
  reads_elsewhere n (heap.Unhook k r) passes other out =
      let there = slot_within x.world.heap k r (unless_passes _ _ _ passes).0 in
      out.each (16 * k + r) (places_apart k m r s there within (other_mutator k other))
  reads_elsewhere n (heap.Hold k r) passes other out =
      let there = slot_within x.world.heap k r (unless_passes _ _ _ passes).0 in
      out.each (16 * k + r) (places_apart k m r s there within (other_mutator k other))
  reads_elsewhere n step passes other out = λ is. absurd cc

-- ---- the slot in which it was made

-- at this place stands n, if anything
abbrev IsHere : ℕ → ℕ → ℕ → Option ℕ → Type 0
IsHere n place i value = i ≡ place → (k : ℕ) → value ≡ Some k → k ≡ n

nothing_here : (n place i : ℕ) → IsHere n place i None
nothing_here n place i same k is = absurd cc

-- what calls of other mutators leave there
stays_here : (n m s : ℕ) → s < 16 → (w : World) (x : State) (calls : List HeapEntry) (y : State)
    → Leads IsHeapTurn x calls y → AllByRecursion (λ call. mutator_of call.step ≢ Some m) calls
    → OfSlots (IsHere n (16 * m + s)) (nothing_here n (16 * m + s)) w
    → OfSlots (IsHere n (16 * m + s)) (nothing_here n (16 * m + s)) (heap_replayed_from w calls)
stays_here n m s within w x [] y leads others here = here
stays_here n m s within w x (call ∷ calls) y leads others here =
    stays_here n m s within (after_heap w call.step (told_reply call.reply)) leads.0 calls y leads.2 others.1
    (slots_then (IsHere n (16 * m + s)) (nothing_here n (16 * m + s)) w here x.world.heap.no call.step call.reply
    leads.1.gives (λ i fills k put same j is.
    elim (heap_kind x leads.0 call.step (told_reply call.reply) leads.1.row) [
      | inl of ↦ absurd (refused_put k of.0 call.reply of.1 put)
      | inr of ↦ absurd (fills_elsewhere x m s within call.step of.0 others.0 i fills same)
    ]))

-- a slot that is set has what it was set to
set_here : (slots : List (Option ℕ)) (i n k : ℕ) → slice_index_or (slice_set slots i (Some n)) i None ≡ Some k → k ≡ n
set_here [] i n k is = absurd cc
set_here (slot ∷ slots) zero n k is = let same : Some n ≡ Some k = is in cc
set_here (slot ∷ slots) (suc i) n k is = set_here slots i n k is

-- ---- the three calls

module _ (config : Config) (number queue m src dst : ℕ) where
  abbrev pub made : ℕ → Reply → HeapEntry
  made by reply = entry by (heap.Plain (makes_phantom queue m src dst)) (replies.Told reply)

  abbrev pub held : ℕ → HoldName → HeapEntry
  held by hold = entry by (heap.Hold m dst) (replies.Held hold)

  abbrev pub dropped : ℕ → Reply → HeapEntry
  dropped by reply = entry by (heap.Plain (plain.Drop m dst)) (replies.Told reply)

  -- it is made: a new number, in its slot alone
  record IsMade (before : List HeapEntry) (by : ℕ) (reply : Reply) (n : ℕ) (y : State) : Type 0 where
    pub within : dst < 16
    pub free : IsFree n (Some (16 * m + dst)) (heap_replayed config number (before ++ made by reply ∷ []))
    pub there : has (numbers_of (heap_replayed config number (before ++ made by reply ∷ []))) n ≡ true
    pub here : OfSlots (IsHere n (16 * m + dst)) (nothing_here n (16 * m + dst))
        (heap_replayed config number (before ++ made by reply ∷ []))
    pub old : n < y.next
    pub none_given : tally (minted before) n ≡ 0

  is_made : (before : List HeapEntry) (by : ℕ) (reply : Reply) (x y : State) → is_refusal reply ≡ false
      → IsHeapRun config number before x
      → IsHeapTurn x (heap.Plain (makes_phantom queue m src dst)) (replies.Told reply) y
      → IsMade before by reply x.next y
  is_made before by reply x y accepted run turn =
      let n : ℕ = x.next in
      let w : World = heap_replayed config number before in
      let step : NamedStep = heap.Plain (makes_phantom queue m src dst) in
      elim (heap_kind x y step reply turn.row) [
        | inl of ↦
            absurd (false≢true (sym accepted ∙ ap is_refusal of.1))
        | inr of ↦
            let is : reply ≡ told.Object n = of.1.0 in
            let fresh = fresh_run config number n [] (first_state_of config number) before x refl run
            (first_fresh config number n) (omega arith) in
            let after : heap_replayed config number (before ++ made by reply ∷ []) ≡ after_heap w step (told.Object n) =
            replayed_last _ before (made by reply) ∙ ap (λ (r : Reply). after_heap w step r) is in
            let unread_source = unread n w fresh.0.free.slots step in
            record {
              within = (slots_within x.world.heap m dst src (unless_passes _ _ _ of.0).0).0;
              free = subst (IsFree n (Some (16 * m + dst))) (sym after) (record {
                slots = record {
                  each = set_each (HasNot n (Some (16 * m + dst))) w.heap.slots (16 * m + dst) (Some n) (λ _. None)
                      (λ elsewhere. absurd (elsewhere refl)) (out_but n (16 * m + dst) w fresh.0.free.slots).each;
                };
                objects = objects_then n w fresh.0.free.objects step (told.Object n) unread_source;
              });
              there = subst (λ (v : World). has (numbers_of v) n ≡ true) (sym after)
                  (subst (λ ns. has ns n ≡ true) (sym (numbers_after w step (told.Object n)))
                  (has-right (numbers_of w) (n ∷ []) n (has-first n [])));
              here = subst (OfSlots (IsHere n (16 * m + dst)) (nothing_here n (16 * m + dst))) (sym after) (record {
                each = λ i same k value.
                    set_here w.heap.slots (16 * m + dst) n k
                    (subst (λ j. slice_index_or (slice_set w.heap.slots (16 * m + dst) (Some n)) j None ≡ Some k) same
                    value);
              });
              old = let next = made_grows x y step reply (ap told_object is) of.1 in omega (arith, next);
              none_given = fresh.1;
            }
      ]

  minted_both : (n : ℕ) (front back : List HeapEntry)
      → tally (minted (front ++ back)) n ≡ tally (minted front) n + tally (minted back) n
  minted_both n front back =
      ap (λ ns. tally ns n) (minted-append front back) ∙ tally-append (minted front) (minted back) n

  -- neither of mutator m nor an adopt of n
  abbrev pub IsBeside : ℕ → HeapEntry → Type 0
  IsBeside n call = (mutator_of call.step ≢ Some m) × (adopted_by call.step ≢ Some n)

  all_other : (n : ℕ) (calls : List HeapEntry) → AllByRecursion (IsBeside n) calls
      → AllByRecursion (λ call. mutator_of call.step ≢ Some m) calls
  all_other n [] all = tt
  all_other n (call ∷ calls) all = (all.0.0, all_other n calls all.1)

  may_come : (n : ℕ) (calls : List HeapEntry) → dst < 16 → AllByRecursion (IsBeside n) calls
      → AllByRecursion (λ call. MayCome config number n (Some (16 * m + dst)) call.step) calls
  may_come n [] within all = tt
  may_come n (call ∷ calls) within all = (
    record {
      adopts_another = all.0.1;
      reads_another = λ x passes out. reads_elsewhere x m dst within n call.step passes all.0.0 out;
    },
    may_come n calls within all.1,
  )

  module _ (k1 k2 k3 : ℕ) (r1 r3 : Reply) (hold : HoldName) (before between behind : List HeapEntry) where
    abbrev past2 : List HeapEntry
    past2 = before ++ made k1 r1 ∷ []

    abbrev past3 : List HeapEntry
    past3 = past2 ++ between

    abbrev past4 : List HeapEntry
    past4 = past3 ++ held k2 hold ∷ []

    abbrev past5 : List HeapEntry
    past5 = past4 ++ behind

    abbrev pub past6 : List HeapEntry
    past6 = past5 ++ dropped k3 r3 ∷ []

    -- what is dropped is in its slot no more
    is_dropped : (n : ℕ) (x y : State) → is_refusal r3 ≡ false
        → IsHeapTurn x (heap.Plain (plain.Drop m dst)) (replies.Told r3) y
        → IsFree n (Some (16 * m + dst)) (heap_replayed config number past5)
        → IsFree n None (heap_replayed config number past6)
    is_dropped n x y accepted turn free =
        let w : World = heap_replayed config number past5 in
        let step : NamedStep = heap.Plain (plain.Drop m dst) in
        elim (heap_kind x y step r3 turn.row) [
          | inl of ↦ absurd (false≢true (sym accepted ∙ ap is_refusal of.1))
          | inr of ↦
              subst (IsFree n None)
              (sym (replayed_last _ past5 (dropped k3 r3) ∙ ap (λ (r : Reply). after_heap w step r) of.1.0)) (record {
                slots = record { each = λ i elsewhere. emptied n w.heap.slots (16 * m + dst) free.slots.each i };
                objects = record { each = free.objects.each };
              })
        ]

    -- what is made, held and dropped so, between calls of others, is kept apart
    pub registered : (last : State) → is_refusal r1 ≡ false → is_refusal r3 ≡ false
        → IsHeapRun config number past6 last → AllByRecursion (IsBeside hold.object) between
        → AllByRecursion (IsBeside hold.object) behind → IsKeptApart config number past6 hold.object
    registered last makes drops run first_others then_others =
        let first : State = first_state_of config number in
        let c6 = leads_cut IsHeapTurn past5 (dropped k3 r3 ∷ []) first last run in
        let c5 = leads_cut IsHeapTurn past4 behind first c6.0 c6.1 in
        let c4 = leads_cut IsHeapTurn past3 (held k2 hold ∷ []) first c5.0 c5.1 in
        let c3 = leads_cut IsHeapTurn past2 between first c4.0 c4.1 in
        let c2 = leads_cut IsHeapTurn before (made k1 r1 ∷ []) first c3.0 c3.1 in
        let n : ℕ = c2.0.next in
        let place : ℕ = 16 * m + dst in
        let is = is_made before k1 r1 c2.0 c2.2.0 makes c2.1 c2.2.1 in
        let here = stays_here n m dst is.within (heap_replayed config number past2) c3.0 between c4.0 c3.2
        (all_other hold.object between first_others) is.here in
        let slots : c4.0.world.heap.slots
        ≡ (heap_replayed_from (heap_replayed config number past2) between).heap.slots =
        let known = run_known config number past3 c4.0 c4.1 in
        ap (λ (w : World). w.heap.slots) known.1.0.agrees
        ∙ ap (λ (w : World). w.heap.slots) (replayed-append _ past2 between) in
        let same : hold.object ≡ n =
        here.each place refl hold.object
        (sym (ap (λ (vs : List (Option ℕ)). slice_index_or vs place None) slots)
        ∙ held_is n c4.0 c4.2.0 m dst hold c4.2.1) in
        let old2 : n < c3.0.next = let left = ap (λ (s : State). s.next) c2.2.2 in omega (arith, left, is.old) in
        let went3 = goes config number n (Some place) past2 c3.0 between c4.0 c3.1 c3.2
        (may_come n between is.within (subst (λ k. AllByRecursion (IsBeside k) between) same first_others)) is.free
        is.there old2 in
        let free4 = subst (IsFree n (Some place)) (sym (replayed_last _ past3 (held k2 hold)))
        (free_then n (Some place) (heap_replayed config number past3) c4.0.world.heap.no (heap.Hold m dst)
        (replies.Held hold) c4.2.1.gives (λ none. absurd cc) (λ none. absurd cc) went3.free) in
        let there4 : has (numbers_of (heap_replayed config number past4)) n ≡ true =
        subst (λ (w : World). has (numbers_of w) n ≡ true) (sym (replayed_last _ past3 (held k2 hold)))
        (made_then n (heap_replayed config number past3) (heap.Hold m dst) (told.Object hold.object) went3.there) in
        let grows3 = next_run c3.0 between c4.0 c3.2 in
        let grows4 = next_run c4.0 (held k2 hold ∷ []) c5.0 c4.2 in
        let went5 = goes config number n (Some place) past4 c5.0 behind c6.0 c5.1 c5.2
        (may_come n behind is.within (subst (λ k. AllByRecursion (IsBeside k) behind) same then_others)) free4 there4
        (omega (arith, old2, grows3, grows4)) in
        let free6 = is_dropped n c6.0 c6.2.0 drops c6.2.1 went5.free in
        let there6 : has (numbers_of (heap_replayed config number past6)) n ≡ true =
        subst (λ (w : World). has (numbers_of w) n ≡ true) (sym (replayed_last _ past5 (dropped k3 r3)))
        (made_then n (heap_replayed config number past5) (heap.Plain (plain.Drop m dst)) r3 went5.there) in
        subst (IsKeptApart config number past6) (sym same) (record {
          is_made = is_there-has (heap_replayed config number past6).heap.objects n ∙ there6;
          nowhere = record {
            in_no_slot = λ k s. free6.slots.each (16 * k + s) tt;
            in_no_object = free6.objects.each;
          };
          once_or_dead = λ twice.
              let dead6 = λ (dead : WasFoundDead config number past5 n).
              shown_more config number past5 (dropped k3 r3 ∷ []) dead.0 n dead.1 in
              elim went5.given [
                | inr dead ↦ (dead.0, dead6 dead)
                | inl none5 ↦
                    elim went3.given [
                      | inr dead ↦ (
                        dead.0,
                        dead6 (
                          dead.0,
                          shown_more config number past4 behind dead.0 n
                              (shown_more config number past3 (held k2 hold ∷ []) dead.0 n dead.1),
                        ),
                      )
                      | inl none3 ↦
                          absurd (omega (
                            arith,
                            twice,
                            minted_both n past5 (dropped k3 r3 ∷ []),
                            minted_both n past4 behind,
                            none5,
                            minted_both n past3 (held k2 hold ∷ []),
                            tally-own hold.object n same,
                            minted_both n past2 between,
                            none3,
                            minted_both n before (made k1 r1 ∷ []),
                            is.none_given,
                          ))
                    ]
              ];
        })
