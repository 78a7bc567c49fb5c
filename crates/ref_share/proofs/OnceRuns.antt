-- The history of a heap: workers hand each reference on at most once.
use Rattle.ref_share.proofs.Common.{◌≡◌, ℕ, zero, suc, ◌+◌, ◌≤◌, true, false, ◌==◌, List, [], ◌∷◌, ◌++◌, length, map}
use Rattle.ref_share.proofs.Common.{replicate, Option, ◌⊎◌, Some, None, inl, inr, refl, sym, ap, ◌∙◌, subst, arith}
use Rattle.ref_share.proofs.Common.{nat_eq, slice_index_or, slice_set, IsDistinct, AllByRecursion, cases_Bool, eq-eqb}
use Rattle.ref_share.proofs.Common.{false≢true, is_waiting, HeapAccepts, State, joined, tally, NamedStep, has}
use Rattle.ref_share.proofs.Common.{AreDistinct, as_notice, heap_refusal, told_notices, World, Pending, pending_of}
use Rattle.ref_share.proofs.Common.{Config, Fault, Reply, told_reply, GivesOut, HeapAnswer, HeapEntry, IsHeapRun}
use Rattle.ref_share.proofs.Common.{gathered, all_handed_on, heap_replayed, first_state_of, notices_of_hand}
use Rattle.std.proofs.lemmas.Map.Keys.{IsDistinct-cons}
use Rattle.std.proofs.lemmas.Bool.{eqb-true, false_from_ne_true}
use Rattle.std.proofs.lemmas.List.{map-append}
use Rattle.ref_base.specs.Replay.{pended, handed_on, handed_each}
use Rattle.ref_base.specs.Worlds.{notice_from, object_of, pending_numbers}
use Rattle.ref_share.specs.HeapTraces.{handed_by}
use Rattle.ref_base.proofs.HoldCounts.{one_if, tally-first, tally-append}
use Rattle.ref_base.proofs.LegalQueues.{distinct_nil}
use Rattle.ref_base.proofs.RowChanges.{Changes, heap_tells}
use Rattle.ref_base.proofs.FoundLists.{AreDistinct-with_last, joined-emptied}
use Rattle.ref_base.proofs.AgreeHeaps.{Agreeing}
use Rattle.ref_share.proofs.HandedNotices.{GivesFront, one_is_told, some_are_told, references_told, one_of_front}
use Rattle.ref_share.proofs.HandedNotices.{some_of_front, left_pending, then_pending, refused_gives}
use Rattle.ref_share.proofs.HeapReplays.{run_known}
use Rattle.ref_share.proofs.HeapRows.{gathered_last}
use Rattle.ref_share.proofs.HeapRuns.{IsAccepted, IsCall, run_holds}
use Rattle.ref_base.proofs.HeapTurns.{heap_kind}
use Rattle.ref_share.proofs.OnceCleared.{Waits, IsPast, heap_keeps, clears_once}
use Rattle.ref_share.proofs.ScannedRuns.{run_scanned}
use Rattle.ref_base.specs.declared.heap_step.HeapStep.TheVariants as heap
use Rattle.ref_base.specs.declared.plain_step.PlainStep.TheVariants as plain
use Rattle.ref_base.specs.declared.reply.Reply.TheVariants as told
use Rattle.ref_world.specs.declared.heap_machine.HeapReply.TheVariants as replies

-- ---- counts of what is pending

abbrev numbers_in : List Pending → List ℕ
numbers_in ps = map (λ (p : Pending). p.object) ps

-- where one list changes so, all do
pending_set : (lists : List (List Pending)) (k : ℕ) (ps : List Pending) (n c d : ℕ)
    → tally (numbers_in ps) n + c ≤ tally (numbers_in (slice_index_or lists k [])) n + d
    → tally (pending_numbers (slice_set lists k ps)) n + c ≤ tally (pending_numbers lists) n + d
pending_set [] k ps n c d less = omega (arith, less)
pending_set (qs ∷ lists) zero ps n c d less = grind (arith, tally-append)
pending_set (qs ∷ lists) (suc k) ps n c d less = grind (arith, tally-append, pending_set lists k ps n c d less)

-- one that is cleared is pending once more at most
pended_count : (w : World) (k m : ℕ) (queue : Option ℕ) (n : ℕ)
    → tally (pending_numbers (pended w k m queue).pending) n ≤ tally (pending_numbers w.pending) n + one_if m n
pended_count w k m None n = omega arith
pended_count w k m (Some q) n =
    let p : Pending = record { object = m; queue = q; cycle = w.cycle } in
    let ps : List Pending = pending_of w k in
    let longer : tally (numbers_in (ps ++ p ∷ [])) n ≡ tally (numbers_in ps) n + one_if m n =
    ap (λ ms. tally ms n) (map-append (λ (r : Pending). r.object) ps (p ∷ []))
    ∙ tally-append (numbers_in ps) (m ∷ []) n ∙ ap (λ i. tally (numbers_in ps) n + i) (tally-one m n) in
    let all = pending_set w.pending k (ps ++ p ∷ []) n 0 (one_if m n) (omega (arith, longer)) in
    omega (arith, all)
  where
    tally-one : (m n : ℕ) → tally (m ∷ []) n ≡ one_if m n
    tally-one m n = let first = tally-first m [] n in omega (arith, first)

-- and each that is handed on once less
handed_count : (w : World) (k : ℕ) (front rest : List Pending) (n : ℕ) → pending_of w k ≡ front ++ rest
    → tally (map object_of (map (notice_from k) front)) n
    + tally (pending_numbers (handed_each w k (map (notice_from k) front)).pending) n
    ≤ tally (pending_numbers w.pending) n
handed_count w k [] rest n is = omega arith
handed_count w k (p ∷ front) rest n is =
    let next : World = handed_on w k p.object in
    let more = handed_count next k front rest n (then_pending w k p (front ++ rest) is) in
    let first = tally-first p.object (map object_of (map (notice_from k) front)) n in
    let own = tally-first p.object (numbers_in (front ++ rest)) n in
    let list : tally (numbers_in (pending_of w k)) n ≡ tally (numbers_in (p ∷ (front ++ rest))) n =
    ap (λ (qs : List Pending). tally (numbers_in qs) n) is in
    let all = pending_set w.pending k (front ++ rest) n (one_if p.object n) 0 (omega (arith, own, list)) in
    let now = ap (λ (lists : List (List Pending)). tally (pending_numbers lists) n)
    (left_pending w k p (front ++ rest) is) in
    omega (arith, more, first, all, now)

-- ---- a call

-- the reference that a call clears for a worker
abbrev cleared_by : NamedStep → HeapAnswer → List ℕ
cleared_by (heap.Plain (plain.ClearNext k)) (replies.Told (told.Cleared n)) = n ∷ []
cleared_by step reply = []

-- what is handed on was pending, and what is pending was cleared
abbrev Counts : ℕ → State → State → NamedStep → HeapAnswer → Type 0
Counts n a b step reply =
    tally (handed_by step reply) n + tally (pending_numbers b.world.pending) n
    ≤ tally (pending_numbers a.world.pending) n + tally (cleared_by step reply) n

same_count : (n : ℕ) (v w : World) (more : ℕ) → w.pending ≡ v.pending
    → tally [] n + tally (pending_numbers w.pending) n ≤ tally (pending_numbers v.pending) n + more
same_count n v w more same =
    let count = ap (λ (lists : List (List Pending)). tally (pending_numbers lists) n) same in omega (arith, count)

-- what a hand gives
hand_counts : (n k : ℕ) (a b : State) (step : NamedStep) (reply : HeapAnswer) → GivesFront a.world k (told_reply reply)
    → map as_notice (notices_of_hand step reply) ≡ told_notices (told_reply reply)
    → b.world.pending ≡ (handed_each a.world k (told_notices (told_reply reply))).pending
    → tally (handed_by step reply) n + tally (pending_numbers b.world.pending) n
    ≤ tally (pending_numbers a.world.pending) n + 0
hand_counts n k a b step reply gives are pends =
    let count = handed_count a.world k gives.front gives.rest n gives.pending in
    let given = ap (λ ns. tally ns n)
    (references_told (notices_of_hand step reply) (told_notices (told_reply reply)) are
    ∙ ap (map object_of) gives.tells) in
    let left = ap (λ (lists : List (List Pending)). tally (pending_numbers lists) n)
    (pends ∙ ap (λ ns. (handed_each a.world k ns).pending) gives.tells) in
    omega (arith, count, given, left)

module _ (n : ℕ) (x y : State) where
  accepted_counts : (step : NamedStep) (reply : HeapAnswer) → IsAccepted x step reply y
      → GivesOut x.world.heap.no step reply
      → Changes x (Some step) (told_reply reply) y → Counts n x y step reply
  accepted_counts (heap.Hand k) reply of gives changes =
      hand_counts n k x y (heap.Hand k) reply (one_of_front x y k (told_reply reply) of.1)
      (one_is_told x.world.heap.no k reply gives) changes.pending
  accepted_counts (heap.Hands k max batch) reply of gives changes =
      hand_counts n k x y (heap.Hands k max batch) reply (some_of_front x y k max batch (told_reply reply) of.1)
      (some_are_told x.world.heap.no k max batch reply gives) changes.pending
  accepted_counts (heap.Plain (plain.ClearNext k)) (replies.Told (told.Cleared m)) of gives changes =
      grind (arith, pended_count)
  accepted_counts (heap.Plain step) (replies.Handed reply batch) of gives changes = absurd gives
  accepted_counts step reply of gives changes = same_count n x.world y.world _ changes.pending

  refused_counts : (step : NamedStep) (reply : HeapAnswer) (fault : Fault) → told_reply reply ≡ told.Refused fault
      → GivesOut x.world.heap.no step reply → y ≡ x → Counts n x y step reply
  refused_counts step reply fault answer gives same =
      let none : tally (handed_by step reply) n ≡ 0 =
      ap (λ ns. tally (map (λ notice. notice.hold.object) ns) n)
      (refused_gives x.world.heap.no step reply fault answer gives) in
      let count = ap (λ (a : State). tally (pending_numbers a.world.pending) n) same in
      omega (arith, none, count)

-- a call clears nothing, or one that waited and is past then
abbrev ClearsOne : State → State → List ℕ → Type 0
ClearsOne a b ns = (ns ≡ []) ⊎ ((n : ℕ) × (ns ≡ n ∷ []) × (is_waiting a n ≡ true) × IsPast n b)

module _ (gone : List ℕ) (w : World) (x y : State) (is : Agreeing gone w x)
    (distinct : AreDistinct (joined x.scanned)) (waits : Waits x) where
  accepted_clears : (step : NamedStep) (reply : HeapAnswer) → IsAccepted x step reply y
      → ClearsOne x y (cleared_by step reply)
  accepted_clears (heap.Plain (plain.ClearNext k)) (replies.Told (told.Cleared n)) of =
      let once = clears_once gone w x y is distinct waits k n of.0 of.1 in
      inr (n, refl, once.0, once.1)
  accepted_clears step reply of = inl refl

refused_clears : (a b : State) (step : NamedStep) (reply : HeapAnswer) (fault : Fault)
    → told_reply reply ≡ told.Refused fault → ClearsOne a b (cleared_by step reply)
refused_clears a b (heap.Plain (plain.ClearNext k)) (replies.Told (told.Cleared n)) fault answer = absurd cc
refused_clears a b step reply fault answer = inl refl

scans_distinct : (a b : State) (step : NamedStep) (reply : Reply) → length a.scanned ≡ a.world.heap.config.workers
    → heap_refusal a step ≡ None → HeapAccepts a step reply b → Changes a (Some step) reply b
    → AreDistinct (joined a.scanned) → AreDistinct (joined b.scanned)
scans_distinct a b (heap.Plain (plain.Scan k)) (told.Scanned n) workers none row changes distinct =
    grind (arith, AreDistinct-with_last)
scans_distinct a b (heap.Plain (plain.Begin now how)) (told.Cycle n) workers none row changes distinct =
    grind (arith, joined-emptied)
scans_distinct a b step reply workers none row changes distinct =
    subst (λ (lists : List (List ℕ)). AreDistinct (joined lists)) (sym changes.scanned) distinct

-- ---- runs

abbrev cleared_all : List HeapEntry → List ℕ
cleared_all calls = gathered cleared_by calls

-- what workers have cleared is past, and none of it was cleared twice
record ClearedOnce (calls : List HeapEntry) (a : State) : Type 0 where
  distinct : AreDistinct (joined a.scanned)
  waits : Waits a
  once : (n : ℕ) → tally (cleared_all calls) n ≤ 1
  past : (n : ℕ) → 1 ≤ tally (cleared_all calls) n → IsPast n a

-- what still waited was not cleared before
none_before : (past : List HeapEntry) (a : State) → ClearedOnce past a → (m : ℕ) → is_waiting a m ≡ true
    → tally (cleared_all past) m ≡ 0
none_before past a is m waits = grind arith

-- one call more
module _ (past : List HeapEntry) (call : HeapEntry) (a b : State) (is : ClearedOnce past a)
    (distinct : AreDistinct (joined b.scanned)) (waits : Waits b) (stays : (n : ℕ) → IsPast n a → IsPast n b) where
  abbrev more : List HeapEntry
  more = past ++ call ∷ []

  count : (n : ℕ) → tally (cleared_all more) n
      ≡ tally (cleared_all past) n + tally (cleared_by call.step call.reply) n
  count n = search (gathered_last, tally-append)

  -- that clears nothing
  clears_none : cleared_by call.step call.reply ≡ [] → ClearedOnce more b
  clears_none none =
      let same : (n : ℕ) → tally (cleared_all more) n ≡ tally (cleared_all past) n =
      λ n. let all = count n in let nothing = ap (λ ns. tally ns n) none in omega (arith, all, nothing) in
      record {
        distinct = distinct;
        waits = waits;
        once = λ n. let all = same n in let old = is.once n in omega (arith, all, old);
        past = λ n some. let all = same n in stays n (is.past n (omega (arith, all, some)));
      }

  -- or one that waited
  clears_one : (m : ℕ) → cleared_by call.step call.reply ≡ m ∷ [] → is_waiting a m ≡ true → IsPast m b
      → ClearedOnce more b
  clears_one m one waited is_past =
      let all : (n : ℕ) → tally (cleared_all more) n ≡ tally (cleared_all past) n + one_if m n =
      λ n.
      let total = count n in let own = ap (λ ns. tally ns n) one in let first = tally-first m [] n in
      omega (arith, total, own, first) in
      let others : (n : ℕ) → (m == n) ≡ false → tally (cleared_all more) n ≡ tally (cleared_all past) n + 0 =
      λ n other. simp other at (all n) in
      record {
        distinct = distinct;
        waits = waits;
        once = λ n. elim (cases_Bool (m == n)) [
          | inl same ↦
              let sum : tally (cleared_all more) n ≡ tally (cleared_all past) n + 1 = simp same at (all n) in
              let none : tally (cleared_all past) n ≡ 0 =
              subst (λ k. tally (cleared_all past) k ≡ 0) (eqb-true m n same) (none_before past a is m waited) in
              omega (arith, sum, none)
          | inr other ↦ let sum = others n other in let old = is.once n in omega (arith, sum, old)
        ];
        past = λ n some. elim (cases_Bool (m == n)) [
          | inl same ↦ subst (λ k. IsPast k b) (eqb-true m n same) is_past
          | inr other ↦ let sum = others n other in stays n (is.past n (omega (arith, sum, some)))
        ];
      }

  clears_more : ClearsOne a b (cleared_by call.step call.reply) → ClearedOnce more b
  clears_more clears =
      elim clears [ inl none ↦ clears_none none | inr one ↦ clears_one one.0 one.1 one.2 one.3 ]

-- what was handed on or is pending was cleared, and that once
record IsOnce (past : List HeapEntry) (a : State) : Type 0 where
  cleared : ClearedOnce past a
  less :
      (n : ℕ)
      → tally (all_handed_on past) n + tally (pending_numbers a.world.pending) n ≤ tally (cleared_all past) n

-- what a call leaves to count
counts_more : (past : List HeapEntry) (call : HeapEntry) (a b : State) (n : ℕ)
    → tally (all_handed_on past) n + tally (pending_numbers a.world.pending) n ≤ tally (cleared_all past) n
    → Counts n a b call.step call.reply
    → tally (all_handed_on (past ++ call ∷ [])) n + tally (pending_numbers b.world.pending) n
    ≤ tally (cleared_all (past ++ call ∷ [])) n
counts_more past call a b n before more = grind (arith, gathered_last, tally-append)

call_once : (config : Config) (number : ℕ) (past : List HeapEntry) (x : State) (call : HeapEntry) (y : State)
    → IsHeapRun config number past x → IsOnce past x → IsCall x call y → IsOnce (past ++ call ∷ []) y
call_once config number past x call y run is turn =
    let a : State = x in
    let b : State = y in
    let step : NamedStep = call.step in
    let reply : Reply = told_reply call.reply in
    let known = run_known config number past x run in
    let workers = (run_scanned config number past x run).workers in
    let cleared = is.cleared in
    let after : ClearedOnce (past ++ call ∷ []) b × ((n : ℕ) → Counts n a b call.step call.reply) =
    elim (heap_kind x y call.step (told_reply call.reply) turn.row) [
      | inl of ↦ (
        clears_more past call a b cleared
            (subst (λ (s : State). AreDistinct (joined s.scanned)) (sym of.2) cleared.distinct)
            (subst Waits (sym of.2) cleared.waits) (λ n past_it. subst (IsPast n) (sym of.2) past_it)
            (refused_clears a b call.step call.reply of.0 of.1),
        λ n. refused_counts n x y call.step call.reply of.0 of.1 turn.gives of.2,
      )
      | inr of ↦
          let tells = heap_tells a b step reply of.1 in
          let keeps = heap_keeps known.0 (heap_replayed config number past) a b known.1.0
          cleared.distinct cleared.waits step
          reply of.0 of.1 in (
            clears_more past call a b cleared
                (scans_distinct a b step reply workers of.0 of.1 tells cleared.distinct) keeps.0
                keeps.1
                (accepted_clears known.0 (heap_replayed config number past) x y known.1.0 cleared.distinct cleared.waits
                call.step call.reply of),
            λ n. accepted_counts n x y call.step call.reply of turn.gives tells,
          )
    ] in
    record {
      cleared = after.0;
      less = λ n. counts_more past call a b n (is.less n) (after.1 n);
    }

-- ---- so nothing is handed on twice

apart : (m : ℕ) (ms : List ℕ) → has ms m ≡ false → AllByRecursion (λ n. nat_eq m n ≡ false) ms
apart m [] none = tt
apart m (n ∷ ms) none = grind (arith, apart m ms)

distinct_if_once : (ns : List ℕ) → ((n : ℕ) → tally ns n ≤ 1) → IsDistinct nat_eq ns
distinct_if_once [] once = distinct_nil
distinct_if_once (m ∷ ms) once =
    let own : one_if m m ≡ 1 = rw (eq-eqb m m refl) refl in
    let none : tally ms m ≡ 0 =
    let first = tally-first m ms m in let all = once m in omega (arith, own, first, all) in
    let out : has ms m ≡ false =
    false_from_ne_true (has ms m) (λ there. let some = has-tally ms m there in absurd (omega (arith, some, none))) in
    IsDistinct-cons nat_eq m ms (apart m ms out)
    (distinct_if_once ms
    (λ n. let first = tally-first m ms n in let all = once n in omega (arith, first, all)))
  where
    has-tally : (ns : List ℕ) (n : ℕ) → has ns n ≡ true → 1 ≤ tally ns n
    has-tally [] n there = absurd (false≢true there)
    has-tally (k ∷ ns) n there =
        elim (cases_Bool (k == n)) [
          | inl same ↦ simp same (omega arith)
          | inr other ↦ simp other (has-tally ns n (simp other at there))
        ]

nothing_pends : (workers n : ℕ) → tally (pending_numbers (replicate workers [])) n ≡ 0
nothing_pends zero n = refl
nothing_pends (suc workers) n = nothing_pends workers n

none_scanned : (workers : ℕ) → joined (replicate workers []) ≡ []
none_scanned zero = refl
none_scanned (suc workers) = none_scanned workers

first_once : (config : Config) (number : ℕ) → IsOnce [] (first_state_of config number)
first_once config number = grind (arith, none_scanned, nothing_pends)

pub handed_on_once : (config : Config) (number : ℕ) (calls : List HeapEntry) (last : State)
    → IsHeapRun config number calls last → IsDistinct nat_eq (all_handed_on calls)
handed_on_once config number calls last run =
    let is = run_holds config number (λ past x. IsOnce past x) (call_once config number)
    (first_once config number) calls
    last run in
    distinct_if_once (all_handed_on calls)
    (λ n. let less = is.less n in let once = is.cleared.once n in omega (arith, less, once))
