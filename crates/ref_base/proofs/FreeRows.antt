-- What is free in a state: whether it is said that an object is left, and what workers found and have not looked at. A
-- row that reads neither is a row of each state that differs in these alone, and leaves them as they were.
use Rattle.ref_base.proofs.Common.{◌≡◌, ℕ, Bool, true, false, List, [], ◌∷◌, take, drop, length, map, Option, Some}
use Rattle.ref_base.proofs.Common.{None, refl, sym, ap, ◌∙◌, subst, inl, inr, ◌⊎◌, cases_Bool, NamedStep, heap_step}
use Rattle.ref_base.proofs.Common.{spending, pending_of, batch_of, one_handed, all_handed, one_taken, State, ticked}
use Rattle.ref_base.proofs.Common.{is_in, Gives, GivesAnewIf, Loads, Gets, Unhooks, Holds, Sweeps, Selects, Moves}
use Rattle.ref_base.proofs.Common.{EndsMove, HeapAccepts, QueuesAccept, AcceptsAsking, IsAnswer, IsRow, Puts, PutsInto}
use Rattle.ref_base.proofs.Common.{PutsAll, Polls, Closes, Marking, Clearing, Mutator, Actor, Fault, Step, Reply, Row}
use Rattle.ref_base.proofs.Common.{value_reply, on_heap, got, with_slot, with_hold, cut, with_world, with_heap, put_in}
use Rattle.ref_base.proofs.Common.{took, closed_queue, handed_each, notice_from, Pending, Notice, object_of, hand_of}
use Rattle.ref_base.proofs.Common.{queue_at, without, with_phase, slot_at, Own, Idle, refusal, hold_of}
use Rattle.ref_base.specs.declared.plain_step.PlainStep.{PlainStep}
use Rattle.ref_base.proofs.Outcomes.{outcome}
use Rattle.ref_base.proofs.Bases.{base, bases_agree}
use Rattle.std.specs.Prelude.{min}
use Rattle.ref_base.specs.Worlds.{with_swept}
use Rattle.ref_base.specs.CollectorRows.{move_begun}
use Rattle.ref_base.specs.declared.out.Done.TheVariants.{Added}
use Rattle.ref_base.specs.declared.heap_step.HeapStep.TheVariants as heap
use Rattle.ref_base.specs.declared.plain_step.PlainStep.TheVariants as plain
use Rattle.ref_base.specs.declared.step.Step.TheVariants as steps
use Rattle.ref_base.specs.declared.reply.Reply.TheVariants as replies

-- the state with these in the place of what is free in it
abbrev pub freed : State → Bool → List (List ℕ) → State
freed a left found = record a { left = left; found = found }

-- the state with what is free in it as it is in the other
abbrev pub like : State → State → State
like t a = freed t a.left a.found

-- what is free in it
abbrev pub free_of : State → Bool × List (List ℕ)
free_of a = (a.left, a.found)

-- what the cycle scanned and cleared, and when it began
abbrev pub cycle_of : State → List (List ℕ) × List ℕ × ℕ
cycle_of a = (a.scanned, a.cleared, a.born)

-- the answer says nothing anew: it is null, or comes outside a mark
abbrev pub SaysNone : State → Reply → Type 0
SaysNone a reply = (reply ≡ replies.Null) ⊎ (is_in a.world.phase Marking ≡ false)

-- the step and its answer neither say anew whether an object is left, nor begin or end a mark, nor look at what was
-- found
abbrev pub KeepsFree : State → NamedStep → Reply → Type 0
KeepsFree a (heap.Plain (plain.Load m d s i)) reply = SaysNone a reply
KeepsFree a (heap.Plain (plain.Get m d s)) reply = SaysNone a reply
KeepsFree a (heap.Plain (plain.Begin now how)) reply = ⊥
KeepsFree a (heap.Plain (plain.Scan k)) reply = ⊥
KeepsFree a (heap.Plain plain.EndMark) reply = ⊥
KeepsFree a (heap.Plain (plain.ClearNext k)) reply = ⊥
KeepsFree a step reply = Unit {0}

-- a moment more of a mark leaves what is free, and what the cycle scanned and cleared
like_ticked : (c : State) (left : Bool) (found : List (List ℕ)) → like (ticked (freed c left found)) c ≡ ticked c
like_ticked c left found =
    elim (cases_Bool (is_in c.world.phase Marking)) [ inl marks ↦ simp marks refl | inr other ↦ simp other refl ]

free_ticked : (c : State) → free_of (ticked c) ≡ free_of c
free_ticked c =
    elim (cases_Bool (is_in c.world.phase Marking)) [ inl marks ↦ simp marks refl | inr other ↦ simp other refl ]

cycle_ticked : (c : State) → cycle_of (ticked c) ≡ cycle_of c
cycle_ticked c =
    elim (cases_Bool (is_in c.world.phase Marking)) [ inl marks ↦ simp marks refl | inr other ↦ simp other refl ]

-- what is free in it, and what the cycle scanned and cleared
abbrev parts_of : State → (Bool × List (List ℕ)) × (List (List ℕ) × List ℕ × ℕ)
parts_of a = (free_of a, cycle_of a)

module _ (a t : State) (left : Bool) (found : List (List ℕ)) where
  -- what is so of the state that is like a, where the other has kept what is free in it, and what the cycle scanned and
  -- cleared
  abbrev Both : (State → Type 0) → Type 0
  Both P = P (like t a) × (free_of t ≡ (left, found)) × (cycle_of t ≡ cycle_of a)

  -- one answer, and one state that it leaves
  gives : (c : State) (answer reply : Reply) → parts_of c ≡ parts_of a → Gives answer (freed c left found) reply t
      → Both (Gives answer c reply)
  gives c answer reply same row = (
    (
      row.0,
      ap (λ (f : Bool × List (List ℕ)). freed t f.0 f.1) (sym (ap (λ x. x.0) same))
          ∙ ap (λ (s : State). like s c) row.1 ∙ like_ticked c left found,
    ),
    ap free_of row.1 ∙ free_ticked (freed c left found),
    ap cycle_of row.1 ∙ cycle_ticked (freed c left found) ∙ ap (λ x. x.1) same,
  )

  -- nothing changes
  still : t ≡ freed a left found → Both (λ b. b ≡ a)
  still same = (ap (λ (s : State). like s a) same, ap free_of same, ap cycle_of same)

  -- an answer that would say something anew in a mark comes outside it
  anew : (c : State) (marks : Bool) (n : ℕ) (reply : Reply) → parts_of c ≡ parts_of a
      → (reply ≡ replies.Null) ⊎ (marks ≡ false)
      → GivesAnewIf marks (replies.Object n) (freed c left found) reply t
      → Both (λ b. GivesAnewIf marks (replies.Object n) c reply b)
  anew c true n reply same (inl null) row = absurd (differ (sym null ∙ row.0))
    where
      differ : replies.Null ≡ replies.Object n → ⊥
      differ is = absurd cc
  anew c true n reply same (inr other) row = absurd cc
  anew c false n reply same says row = gives c (replies.Object n) reply same row

  -- ---- rows of a heap

  loads : (m d : ℕ) (value : Option ℕ) (reply : Reply) → SaysNone a reply
      → Loads (freed a left found) m d value reply t → Both (Loads a m d value reply)
  loads m d None reply says row =
      gives (on_heap a (with_slot a.world.heap m d None)) replies.Null reply refl row
  loads m d (Some n) reply says row =
      anew (on_heap a (with_slot a.world.heap m d (Some n))) (is_in a.world.phase Marking) n reply refl says row

  gets : (m d s : ℕ) (value : Option ℕ) (reply : Reply) → SaysNone a reply
      → Gets (freed a left found) m d s value reply t → Both (Gets a m d s value reply)
  gets m d s None reply says row =
      gives (on_heap a (got a.world.heap m d s None)) replies.Null reply refl row
  gets m d s (Some n) reply says row =
      anew (on_heap a (got a.world.heap m d s (Some n))) (is_in a.world.phase Marking) n reply refl says row

  unhooks : (m s : ℕ) (held queue : Option ℕ) (reply : Reply) → Unhooks (freed a left found) m s held queue reply t
      → Both (Unhooks a m s held queue reply)
  unhooks m s None queue reply row = gives (on_heap a (cut a.world.heap m s)) replies.Nothing reply refl row
  unhooks m s (Some n) None reply row = gives (on_heap a (cut a.world.heap m s)) replies.Nothing reply refl row
  unhooks m s (Some n) (Some q) reply row =
      gives (on_heap a (with_hold (cut a.world.heap m s) n)) (replies.Notice n q Own) reply refl row

  holds : (held : Option ℕ) (reply : Reply) → Holds (freed a left found) held reply t → Both (Holds a held reply)
  holds None reply row = absurd row
  holds (Some n) reply row = gives (on_heap a (with_hold a.world.heap n)) (replies.Object n) reply refl row

  sweeps : (doomed : List ℕ) (reply : Reply) → Sweeps (freed a left found) doomed reply t
      → Both (Sweeps a doomed reply)
  sweeps [] reply row = gives a replies.Nothing reply refl row
  sweeps (n ∷ ns) reply row =
      gives (record a {
        world = with_swept
            (with_heap a.world (record a.world.heap { objects = without (take 64 (n ∷ ns)) a.world.heap.objects }))
            (min 64 (length (n ∷ ns)));
        doomed = drop 64 (n ∷ ns);
      }) (replies.Swept (min 64 (length (n ∷ ns)))) reply refl row

  selects : (reply : Reply) → Selects (freed a left found) reply t → Both (Selects a reply)
  selects reply (inl row) =
      let all = gives (move_begun a) (replies.Selected row.0) reply refl row.1 in (inl (row.0, all.0), all.1, all.2)
  selects reply (inr row) = let all = still row.1 in (inr (row.0, all.0), all.1, all.2)

  moves : (reply : Reply) → Moves (freed a left found) reply t → Both (Moves a reply)
  moves (replies.Moved n) row = let all = still row.1 in ((row.0, all.0), all.1, all.2)
  moves reply row = let all = still row.1 in ((row.0, all.0), all.1, all.2)

  ends_move : (reply : Reply) → EndsMove (freed a left found) reply t → Both (EndsMove a reply)
  ends_move reply (inl row) =
      let all = gives (with_world a (with_phase a.world Idle)) replies.Done reply refl row in (inl all.0, all.1, all.2)
  ends_move reply (inr row) = let all = still row.1 in (inr (row.0, all.0), all.1, all.2)

  -- a row of a heap that keeps what is free is one of each state that differs in it alone
  pub free_heap_row : (step : NamedStep) (reply : Reply) → KeepsFree a step reply
      → HeapAccepts (freed a left found) step reply t → Both (HeapAccepts a step reply)
  free_heap_row (heap.Plain (plain.New m d k)) reply keeps row =
      gives (outcome a (heap.Plain (plain.New m d k)) (replies.Object a.next)) (replies.Object a.next) reply refl row
  free_heap_row (heap.Plain (plain.Refer m strength d s q k)) reply keeps row =
      gives (outcome a (heap.Plain (plain.Refer m strength d s q k)) (replies.Object a.next)) (replies.Object a.next)
      reply refl row
  free_heap_row (heap.Plain (plain.Load m d s i)) reply keeps row = loads m d _ reply keeps row
  free_heap_row (heap.Plain (plain.Copy m d s)) reply keeps row =
      gives (on_heap a (with_slot a.world.heap m d (slot_at a.world.heap m s))) (value_reply (slot_at a.world.heap m s))
      reply refl row
  free_heap_row (heap.Plain (plain.Get m d s)) reply keeps row = gets m d s _ reply keeps row
  free_heap_row (heap.Plain (plain.RefersTo m s v)) reply keeps row = gives a _ reply refl row
  free_heap_row (heap.Plain (plain.Begin now how)) reply keeps row = absurd keeps
  free_heap_row (heap.Plain (plain.Scan k)) reply keeps row = absurd keeps
  free_heap_row (heap.Plain plain.EndMark) reply keeps row = absurd keeps
  free_heap_row (heap.Plain (plain.ClearNext k)) reply keeps row = absurd keeps
  free_heap_row (heap.Plain (plain.Sweep k)) reply keeps row = sweeps a.doomed reply row
  free_heap_row (heap.Plain plain.Select) reply keeps row = selects reply row
  free_heap_row (heap.Plain (plain.MoveNext k)) reply keeps row = moves reply row
  free_heap_row (heap.Plain plain.EndMove) reply keeps row = ends_move reply row
  free_heap_row (heap.Unhook m s) reply keeps row = unhooks m s _ _ reply row
  free_heap_row (heap.Hold m s) reply keeps row = holds (slot_at a.world.heap m s) reply row
  free_heap_row (heap.Adopt m d hold) reply keeps row =
      gives (outcome a (heap.Adopt m d hold) (replies.Object hold.object)) (replies.Object hold.object) reply refl row
  free_heap_row (heap.Hand k) reply keeps row =
      let first : List Pending = take 1 (pending_of a.world k) in
      gives (with_world a (handed_each a.world k (map (notice_from k) first))) (one_handed k first) reply refl row
  free_heap_row (heap.Hands k max batch) reply keeps row =
      let some : List Pending = batch_of max (pending_of a.world k) in
      gives (with_world a (handed_each a.world k (map (notice_from k) some))) (all_handed k some) reply refl row
  free_heap_row step reply keeps row = gives (outcome a step replies.Done) replies.Done reply refl row

  -- ---- rows of queues

  puts_into : (again shut : Bool) (who : Actor) (notice : Notice) (rest : List Notice) (reply : Reply)
      → PutsInto again shut (freed a left found) who notice rest reply t
      → Both (PutsInto again shut a who notice rest reply)
  puts_into true shut who notice rest reply row = gives a replies.Already reply refl row
  puts_into false true who notice rest reply row = gives a replies.Closed reply refl row
  puts_into false false who notice rest reply (inl row) =
      let all = gives (with_world a (put_in a.world who (Added ∷ []))) _ reply refl row in (inl all.0, all.1, all.2)
  puts_into false false who notice rest reply (inr row) = let all = still row.1 in (inr (row.0, all.0), all.1, all.2)

  puts : (who : Actor) (hand : List Notice) (reply : Reply) → Puts (freed a left found) who hand reply t
      → Both (Puts a who hand reply)
  puts who [] reply row = absurd row
  puts who (notice ∷ rest) reply row = puts_into _ _ who notice rest reply row

  puts_all : (who : Actor) (hand : List Notice) (reply : Reply) → PutsAll (freed a left found) who hand reply t
      → Both (PutsAll a who hand reply)
  puts_all who [] reply row = absurd row
  puts_all who (notice ∷ rest) reply row =
      let all = gives (with_world a (put_in a.world who row.0.done)) (replies.Outs row.0) reply refl row.3 in
      ((row.0, row.1, row.2, all.0), all.1, all.2)

  polls : (m q : ℕ) (tell : List ℕ → Reply) (taken : List Notice) (reply : Reply)
      → Polls (freed a left found) m q tell taken reply t → Both (Polls a m q tell taken reply)
  polls m q tell [] reply row = gives a _ reply refl row
  polls m q tell (notice ∷ rest) reply row =
      let ns : List ℕ = map object_of (notice ∷ rest) in
      gives (with_world a (took a.world m q ns)) (tell ns) reply refl row

  closes : (q : ℕ) (shut : Bool) (reply : Reply) → Closes (freed a left found) q shut reply t
      → Both (Closes a q shut reply)
  closes q true reply row = gives a replies.Closed reply refl row
  closes q false reply row = gives (with_world a (closed_queue a.world q)) replies.Done reply refl row

  -- a row of queues reads nothing of what is free
  queue_row : (step : Step) (reply : Reply) → QueuesAccept (freed a left found) step reply t
      → Both (QueuesAccept a step reply)
  queue_row (steps.Put who) reply row = puts who (hand_of a.world who) reply row
  queue_row (steps.Puts who) reply row = puts_all who (hand_of a.world who) reply row
  queue_row (steps.Poll m q) reply row = polls m q one_taken (take 1 (queue_at a.world q).stands) reply row
  queue_row (steps.Polls m q max) reply row =
      polls m q replies.TookSome (take max (queue_at a.world q).stands) reply row
  queue_row (steps.Close m q) reply row = closes q (queue_at a.world q).closed reply row
  queue_row step reply row = absurd row

-- ---- rows

-- whether the step is refused, what is free doesn't tell: for the ends of a mark and of clearing, in other phases
abbrev pub RefusedAlike : State → Step → Type 0
RefusedAlike a (steps.Plain plain.EndMark) = is_in a.world.phase Marking ≡ false
RefusedAlike a (steps.Plain plain.EndClear) = is_in a.world.phase Clearing ≡ false
RefusedAlike a step = Unit {0}

-- the step, where it is accepted, and its answer read nothing of what is free
abbrev pub ReadsNone : State → Step → Reply → Type 0
ReadsNone a (steps.Plain plain.EndClear) reply = ⊥
ReadsNone a (steps.Plain step) reply = KeepsFree a (heap.Plain step) reply
ReadsNone a step reply = Unit {0}

-- the row is refused alike, or it reads nothing of what is free
abbrev pub KeepsRow : State → Row → Type 0
KeepsRow a row =
    RefusedAlike a row.step
    × (((fault : Fault) × (refusal a row.step ≡ Some fault)) ⊎ ReadsNone a row.step row.reply)

module _ (a t : State) (left : Bool) (found : List (List ℕ)) where
  -- a step that asks its heap for this
  asking : (asked : NamedStep) (step : Step) (reply : Reply) → KeepsFree a asked reply
      → AcceptsAsking (freed a left found) (Some asked) step reply t
      → Both a t left found (AcceptsAsking a (Some asked) step reply)
  asking asked step reply keeps row =
      let all = free_heap_row a row.0 left found asked reply keeps row.1 in (
        (like row.0 a, all.0, ap (λ (s : State). like s a) row.2),
        ap free_of row.2 ∙ all.1,
        ap cycle_of row.2 ∙ all.2,
      )

  adopts : (m d : ℕ) (hand : List Notice) (reply : Reply)
      → AcceptsAsking (freed a left found) (spending a.world (λ hold. heap.Adopt m d hold) hand) (steps.Adopt m d)
      reply t
      → Both a t left found
      (AcceptsAsking a (spending a.world (λ hold. heap.Adopt m d hold) hand) (steps.Adopt m d) reply)
  adopts m d [] reply row = absurd row
  adopts m d (notice ∷ rest) reply row = asking (heap.Adopt m d (hold_of a.world notice)) (steps.Adopt m d) reply tt row

  releases : (who : Actor) (hand : List Notice) (reply : Reply)
      → AcceptsAsking (freed a left found) (spending a.world (λ hold. heap.Release hold) hand) (steps.Release who)
      reply t
      → Both a t left found
      (AcceptsAsking a (spending a.world (λ hold. heap.Release hold) hand) (steps.Release who) reply)
  releases who [] reply row = absurd row
  releases who (notice ∷ rest) reply row =
      asking (heap.Release (hold_of a.world notice)) (steps.Release who) reply tt row

  -- a step that hands nothing over
  keeps_plain : (step : PlainStep) (reply : Reply) → ReadsNone a (steps.Plain step) reply
      → KeepsFree a (heap.Plain step) reply
  keeps_plain plain.EndClear reply reads = absurd reads
  keeps_plain step reply reads = reads

  -- a step that is accepted
  accepted : (step : Step) (reply : Reply) → ReadsNone a step reply
      → AcceptsAsking (freed a left found) (heap_step a.world step) step reply t
      → Both a t left found (AcceptsAsking a (heap_step a.world step) step reply)
  accepted (steps.Plain step) reply reads row =
      asking (heap.Plain step) (steps.Plain step) reply (keeps_plain step reply reads) row
  accepted (steps.Unhook m s) reply reads row = asking (heap.Unhook m s) (steps.Unhook m s) reply tt row
  accepted (steps.Hand k) reply reads row = asking (heap.Hand k) (steps.Hand k) reply tt row
  accepted (steps.Hands k max) reply reads row = asking (heap.Hands k max []) (steps.Hands k max) reply tt row
  accepted (steps.Adopt m d) reply reads row = adopts m d (hand_of a.world (Mutator m)) reply row
  accepted (steps.Release who) reply reads row = releases who (hand_of a.world who) reply row
  accepted step reply reads row = queue_row a t left found step reply row

  -- whether a step of these is refused, what is free doesn't tell
  same_refusal : (step : Step) → RefusedAlike a step → refusal (freed a left found) step ≡ refusal a step
  same_refusal (steps.Plain plain.EndMark) alike = simp alike refl
  same_refusal (steps.Plain plain.EndClear) alike = simp alike refl
  same_refusal step alike = refl

  -- a step that is refused or accepted
  of_kind : (row : Row) (fault : Option Fault) → refusal a row.step ≡ fault → KeepsRow a row
      → IsAnswer (freed a left found) fault row.step row.reply t
      → Both a t left found (IsAnswer a fault row.step row.reply)
  of_kind row (Some fault) is keeps h = let all = still a t left found h.1 in ((h.0, all.0), all.1, all.2)
  of_kind row None is keeps h =
      elim keeps.1 [
        | inl refused ↦ absurd (differ (sym is ∙ refused.1))
        | inr reads ↦ accepted row.step row.reply reads h
      ]
    where
      differ : {fault : Fault} → None ≡ Some fault → ⊥
      differ same = absurd cc

  -- a row that reads nothing of what is free is one of each state that differs in it alone, and leaves it as it was
  pub free_row : (row : Row) → KeepsRow a row → IsRow (freed a left found) row t
      → IsRow a row (like t a) × (free_of t ≡ (left, found)) × (cycle_of t ≡ cycle_of a)
  free_row row keeps h =
      of_kind row (refusal a row.step) refl keeps
      (subst (λ (o : Option Fault). IsAnswer (freed a left found) o row.step row.reply t)
      (same_refusal row.step keeps.0) h)

  -- which rows these are, what is free doesn't tell
  pub keeps_like : (row : Row) → KeepsRow a row → KeepsRow (freed a left found) row
  keeps_like row keeps = (
    alike row.step keeps.0,
    elim keeps.1 [
      | inl refused ↦ inl (refused.0, same_refusal row.step keeps.0 ∙ refused.1)
      | inr reads ↦ inr (none row.step row.reply reads)
    ],
  )
    where
      alike : (step : Step) → RefusedAlike a step → RefusedAlike (freed a left found) step
      alike (steps.Plain plain.EndMark) is = is
      alike (steps.Plain plain.EndClear) is = is
      alike step is = is

      none : (step : Step) (reply : Reply) → ReadsNone a step reply → ReadsNone (freed a left found) step reply
      none (steps.Plain plain.EndClear) reply reads = absurd reads
      none (steps.Plain step) reply reads = reads
      none step reply reads = reads

-- ---- what such a row leaves

-- what is free stays as it was
pub free_kept : (a b : State) (row : Row) → KeepsRow a row → IsRow a row b → free_of b ≡ free_of a
free_kept a b row keeps h = (free_row a b a.left a.found row keeps h).1

-- and so what the cycle scanned and cleared
pub cycle_kept : (a b : State) (row : Row) → KeepsRow a row → IsRow a row b → cycle_of b ≡ cycle_of a
cycle_kept a b row keeps h = (free_row a b a.left a.found row keeps h).2

-- there is one state that a row of these leaves
pub one_left : (a b c : State) (row : Row) → KeepsRow a row → IsRow a row b → IsRow a row c → b ≡ c
one_left a b c row keeps first second =
    ap (λ (s : State). like s b) (bases_agree a b a c row refl first second)
    ∙ ap (λ (f : Bool × List (List ℕ)). freed (base c) f.0 f.1)
    (free_kept a b row keeps first ∙ sym (free_kept a c row keeps second))
