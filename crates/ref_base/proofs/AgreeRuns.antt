-- Each row keeps that the collector has the world of the replay, but for what was swept and for what waits to be
-- cleared.
use Rattle.ref_base.proofs.Common.{arith, ◌≡◌, ℕ, Bool, List, [], Option, Some, None, refl, sym, ap, ◌∙◌, subst, inl}
use Rattle.ref_base.proofs.Common.{inr, false≢true, has, IsRising, World, told_object, NamedStep, heap_step, handed}
use Rattle.ref_base.proofs.Common.{after_heap, after_queues, after, State, first_state_of, heap_refusal, HeapAccepts}
use Rattle.ref_base.proofs.Common.{with_world, list_at, IsRow, AreCounted, under, is_waiting, Config, Reply, Row}
use Rattle.ref_base.proofs.Common.{◌+◌, length, numbers, objects_under}
use Rattle.ref_base.specs.Worlds.{first_world_of}
use Rattle.ref_base.specs.Replay.{after_asking}
use Rattle.ref_base.proofs.Outcomes.{settled, scanned_by, heap_outcome}
use Rattle.ref_base.proofs.PhaseLaws.{of_phase}
use Rattle.ref_base.proofs.ReplayUnder.{handed_through, queues_through, asks_same}
use Rattle.ref_base.proofs.ReplayKeeps.{numbers_of, but_hands, handed_keeps, queues_keep}
use Rattle.ref_base.proofs.RowKinds.{queues_lead, IsRefused, IsOfQueues, IsOfHeap, row_kind}
use Rattle.ref_base.proofs.WaitingClears.{look_tells}
use Rattle.ref_base.proofs.AgreeHeaps.{Agreeing, AreBelow, same_waits, gone_after, still, makes}
use Rattle.ref_base.proofs.Subsequences.{Sub}
use Rattle.ref_base.proofs.AgreeEnds.{begin_agrees, end_agrees, cleared_agrees, passed_agrees, swept_agrees}
use Rattle.ref_base.proofs.AgreeEnds.{swept_count}
use Rattle.ref_base.specs.declared.heap_step.HeapStep.TheVariants as heap
use Rattle.ref_base.specs.declared.plain_step.PlainStep.TheVariants as plain
use Rattle.ref_base.specs.declared.reply.Reply.TheVariants as replies

-- ---- rows of a heap

-- it is kept where a state stays but for what marking alone looks at
settles : (gone : List ℕ) (w : World) (a c : State) (scanned : List (List ℕ)) → Agreeing gone w a
    → settled c ≡ settled (record a { scanned = scanned }) → Agreeing gone w c
settles gone w a c scanned is same = grind arith

-- a list that is empty has nothing that isn't below
none_below : (next : ℕ) (ns : List ℕ) → ns ≡ [] → AreBelow next ns
none_below next ns is n there = absurd (false≢true (ap (λ ms. has ms n) (sym is) ∙ there))

pub heap_agrees : (gone : List ℕ) (w : World) (a c : State) (step : NamedStep) (reply : Reply) → Agreeing gone w a
    → heap_refusal a step ≡ None → HeapAccepts a step reply c
    → Agreeing (gone_after a gone step reply) (after_heap w step reply) c
heap_agrees gone w a c (heap.Plain (plain.New m d k)) reply is none row =
    makes gone w a c reply is (heap.Plain (plain.New m d k)) tt tt tt tt (ap told_object row.0)
    (heap_outcome a c (heap.Plain (plain.New m d k)) reply tt row)
heap_agrees gone w a c (heap.Plain (plain.Refer m strength d s q k)) reply is none row =
    makes gone w a c reply is (heap.Plain (plain.Refer m strength d s q k)) tt tt tt tt (ap told_object row.0)
    (heap_outcome a c (heap.Plain (plain.Refer m strength d s q k)) reply tt row)
heap_agrees gone w a c (heap.Plain (plain.Begin now how)) reply is none row =
    begin_agrees gone w a c now how reply is (of_phase a (heap.Plain (plain.Begin now how)) none) row
heap_agrees gone w a c (heap.Plain (plain.Scan k)) reply is none row =
    settles gone w a c (scanned_by a.scanned k reply) is (heap_outcome a c (heap.Plain (plain.Scan k)) reply tt row)
heap_agrees gone w a c (heap.Plain plain.EndMark) reply is none row =
    end_agrees gone w a c reply is (of_phase a (heap.Plain plain.EndMark) none) row
heap_agrees gone w a c (heap.Plain (plain.ClearNext k)) (replies.Cleared n) is none row =
    let tells = look_tells a c k (list_at a.found k) (replies.Cleared n) refl row in
    cleared_agrees gone w a c k n is (of_phase a (heap.Plain (plain.ClearNext k)) none) tells.0 tells.1
    (heap_outcome a c (heap.Plain (plain.ClearNext k)) (replies.Cleared n) tt row)
heap_agrees gone w a c (heap.Plain (plain.ClearNext k)) (replies.Kept n) is none row =
    grind (arith, look_tells, passed_agrees)
heap_agrees gone w a c (heap.Plain (plain.ClearNext k)) (replies.Skipped n) is none row =
    grind (arith, look_tells, passed_agrees)
heap_agrees gone w a c (heap.Plain (plain.ClearNext k)) reply is none row =
    settles gone w a c a.scanned is (heap_outcome a c (heap.Plain (plain.ClearNext k)) reply tt row)
heap_agrees gone w a c (heap.Plain plain.EndClear) reply is none row = grind arith
heap_agrees gone w a c (heap.Plain (plain.Sweep k)) (replies.Swept count) is none row =
    swept_agrees gone w a c k count is (of_phase a (heap.Plain (plain.Sweep k)) none)
    (swept_count a c a.doomed count row) (heap_outcome a c (heap.Plain (plain.Sweep k)) (replies.Swept count) tt row)
heap_agrees gone w a c (heap.Plain (plain.Sweep k)) reply is none row =
    settles gone w a c a.scanned is (heap_outcome a c (heap.Plain (plain.Sweep k)) reply tt row)
heap_agrees gone w a c (heap.Plain plain.EndSweep) reply is none row = grind arith
heap_agrees gone w a c (heap.Plain plain.Select) reply is none row = grind arith
heap_agrees gone w a c (heap.Plain plain.EndMove) reply is none row = grind arith
heap_agrees gone w a c step reply is none row =
    still gone w a c reply is step tt tt tt tt tt tt (heap_outcome a c step reply tt row)

-- ---- rows

-- other hands and queues
with_others : (gone : List ℕ) (w : World) (a : State) (v next : World) → Agreeing gone w a
    → v ≡ under gone (is_waiting a) next → but_hands next ≡ but_hands w → Agreeing gone next (with_world a v)
with_others gone w a v next is agrees others =
    let phase : v.phase ≡ a.world.phase =
    ap (λ (u : World). u.phase) agrees ∙ ap (λ (u : World). u.phase) others
    ∙ ap (λ (u : World). u.phase) (sym is.agrees) in
    let old : numbers_of w ≡ numbers_of next = ap numbers_of (sym others) in
    let there : numbers_of a.world ≡ numbers_of v =
    ap numbers_of is.agrees
    ∙ ap (λ (u : World). numbers (objects_under gone (is_waiting a) u.heap.objects)) (sym others)
    ∙ ap numbers_of (sym agrees) in
    record {
      agrees = agrees ∙ ap (λ (these : ℕ → Bool). under gone these next) (sym (same_waits a v phase));
      rising = subst IsRising old is.rising;
      below = subst (AreBelow a.next) old is.below;
      gone_below = is.gone_below;
      doomed_below = is.doomed_below;
      cleared_below = is.cleared_below;
      cleared_stay = λ clearing n cleared. is.cleared_stay (sym phase ∙ clearing) n cleared;
      listed = subst (Sub a.doomed) there is.listed;
      counted = ap length (sym old) ∙ is.counted ∙ ap (λ (ns : List ℕ). length ns + w.swept) there
          ∙ ap (λ k. length (numbers_of v) + k) (ap (λ (u : World). u.swept) (sym others));
    }

-- what is gone after a row
abbrev pub gone_next : State → List ℕ → Option NamedStep → Reply → List ℕ
gone_next a gone None reply = gone
gone_next a gone (Some asked) reply = gone_after a gone asked reply

module _ (gone : List ℕ) (w : World) (a : State) (row : Row) (b : State) (is : Agreeing gone w a) where
  -- the replay asks its heap for the same
  asks : heap_step w row.step ≡ heap_step a.world row.step
  asks =
      sym (ap (λ (v : World). heap_step v row.step) is.agrees ∙ asks_same gone (is_waiting a) w row.step)

  refused : IsRefused a row b
      → Agreeing (gone_next a gone (heap_step a.world row.step) row.reply) (after w row.step row.reply) b
  refused of = grind arith

  of_queues : IsOfQueues a row b
      → Agreeing (gone_next a gone (heap_step a.world row.step) row.reply) (after w row.step row.reply) b
  of_queues of =
      let v : World = after_queues a.world row.step row.reply in
      let next : World = after_queues w row.step row.reply in
      let agrees : v ≡ under gone (is_waiting a) next =
      ap (λ (u : World). after_queues u row.step row.reply) is.agrees
      ∙ queues_through gone (is_waiting a) w row.step row.reply in
      subst (λ (asked : Option NamedStep). Agreeing (gone_next a gone asked row.reply) (after w row.step row.reply) b)
      (sym of.asks)
      (subst (λ (asked : Option NamedStep). Agreeing gone (after_asking w asked row.step row.reply) b)
      (sym (asks ∙ of.asks))
      (settles gone next (with_world a v) b a.scanned
      (with_others gone w a v next is agrees (queues_keep w row.step row.reply)) (queues_lead of)))

  of_heap : IsOfHeap a row b
      → Agreeing (gone_next a gone (heap_step a.world row.step) row.reply) (after w row.step row.reply) b
  of_heap of =
      let now : List ℕ = gone_after a gone of.asked row.reply in
      let mid : World = after_heap w of.asked row.reply in
      let left : Agreeing now mid of.left = heap_agrees gone w a of.left of.asked row.reply is of.passes of.accepts in
      let v : World = handed of.left.world row.step row.reply in
      let next : World = handed mid row.step row.reply in
      let agrees : v ≡ under now (is_waiting of.left) next =
      ap (λ (u : World). handed u row.step row.reply) left.agrees
      ∙ handed_through now (is_waiting of.left) mid row.step row.reply in
      subst (λ (asked : Option NamedStep). Agreeing (gone_next a gone asked row.reply) (after w row.step row.reply) b)
      (sym of.asks)
      (subst (λ (asked : Option NamedStep). Agreeing now (after_asking w asked row.step row.reply) b)
      (sym (asks ∙ of.asks))
      (subst (λ (s : State). Agreeing now next s) (sym of.after)
      (with_others now mid of.left v next left agrees (handed_keeps mid row.step row.reply))))

  pub row_agrees : AreCounted a.world → IsRow a row b
      → Agreeing (gone_next a gone (heap_step a.world row.step) row.reply) (after w row.step row.reply) b
  row_agrees counted h =
      elim (row_kind a row b counted h) [
        | inl of ↦ refused of
        | inr others ↦ elim others [ inl of ↦ of_queues of | inr of ↦ of_heap of ]
      ]

-- ---- at first

pub first_agrees : (config : Config) (number : ℕ)
    → Agreeing [] (first_world_of config number) (first_state_of config number)
first_agrees config number = search none_below
