-- What a heap answers to the calls that give notices or spend holds. Turns are no fault of its own.
use Rattle.ref_share.proofs.Common.{arith, ◌≡◌, true, false, Bool, Option, Some, None, Result, Ok, Err, refl, sym}
use Rattle.ref_share.proofs.Common.{subst, false≢true, NamedStep, Fault, HoldName, TurnsSpent, Reply, ClearHeap}
use Rattle.ref_share.proofs.Common.{HeldNotice, Acts, HeapView, Called, ℕ, List, [], ◌∷◌, ◌++◌, ◌==◌, ◌∙◌, Pending}
use Rattle.ref_share.proofs.Common.{append-nil, eq-eqb, ◌+◌, length, State, heap_refusal, pending_of}
use Rattle.std.proofs.Common.{◌-◌, ◌^◌}
use Rattle.std.specs.Prelude.{nat_le}
use Rattle.std.proofs.lemmas.Bool.{eqb-true, or_right}
use Rattle.ref_base.specs.Refusals.{unless, is_counted, hold_refusal, hands_refusal, batch_of, fits, is_worker}
use Rattle.ref_base.specs.CollectorRows.{all_handed, value_reply}
use Rattle.ref_base.specs.Told.{told_notices}
use Rattle.ref_base.specs.Heaps.{Heap}
use Rattle.ref_base.specs.declared.fault.Fault.TheVariants.{BadConfig, ForeignHold, NoSuchActor, NumbersSpent}
use Rattle.ref_clear.specs.ClearCalls.{held_notices, handed_reply, refusal_in, refusing_state, answer_in}
use Rattle.ref_clear.specs.ClearHeaps.{pending_at}
use Rattle.ref_clear.specs.declared.handed.Handed.{Handed}
use Rattle.ref_world.specs.WorldHeaps.{heap_no_of}
use Rattle.ref_mark.specs.MarkCalls.{unless_refused, answer_in_cycle, reply_in, refusal_in_cycle}
use Rattle.ref_share.specs.HeapCalls.{asks_for_a_notice, TellsOfNone, KeepsBack, GivesNotice, takes_a_hold, Spends}
use Rattle.ref_share.specs.HeapCalls.{GivesBatch, is_refusal, tells_of_found, may_answer}
use Rattle.ref_base.specs.declared.plain_step.PlainStep.{PlainStep}
use Rattle.ref_base.specs.declared.plain_step.PlainStep.TheVariants as plain
use Rattle.std.specs.Prelude.{◌||◌}
use Rattle.ref_world.specs.HeapReplies.{TellsOfBatch}
use Rattle.ref_base.specs.declared.heap_step.HeapStep.TheVariants as heap
use Rattle.ref_base.specs.declared.reply.Reply.TheVariants as told
use Rattle.ref_world.specs.declared.heap_machine.HeapReply.TheVariants as replies

-- ---- a step that may give a notice

abbrev is_of_heap : Fault → Bool
is_of_heap TurnsSpent = false
is_of_heap fault = true

-- there is none, or the step is refused
abbrev gives_no_notice : Reply → Bool
gives_no_notice told.Nothing = true
gives_no_notice (told.Refused fault) = is_of_heap fault
gives_no_notice reply = false

-- ---- an unhook and a hand are refused with faults of the heap alone

abbrev are_of_heap : Option Fault → Bool
are_of_heap None = true
are_of_heap (Some fault) = is_of_heap fault

unless_of_heap : (may : Bool) (fault : Fault) (later : Option Fault) → is_of_heap fault ≡ true
    → are_of_heap later ≡ true → are_of_heap (unless may fault later) ≡ true
unless_of_heap true fault later own rest = rest
unless_of_heap false fault later own rest = own

-- ---- what a heap tells

-- a step that may give a notice, and gave none, tells that there is none or that it is refused
tells_of_none : (c d : ClearHeap) (step : NamedStep) (reply : Reply) → asks_for_a_notice step ≡ true
    → Acts c step (replies.Told reply) d → gives_no_notice reply ≡ true
tells_of_none c d (heap.Unhook m s) reply asks acts = grind arith
tells_of_none c d (heap.Hand k) reply asks acts = grind arith
tells_of_none c d step reply asks acts = absurd (false≢true asks)

none_given : (v w : HeapView) (step : NamedStep) (reply : Reply) (result : Result (Option HeldNotice) Fault)
    → gives_no_notice reply ≡ true → TellsOfNone reply result → Called v step (replies.Told reply) w
    → GivesNotice v step result w
none_given v w step told.Nothing result none tells called =
    subst (λ (r : Result (Option HeldNotice) Fault). GivesNotice v step r w) (sym tells) called
none_given v w step (told.Refused TurnsSpent) result none tells called = absurd (false≢true none)
none_given v w step (told.Refused fault) result none tells called =
    subst (λ (r : Result (Option HeldNotice) Fault). GivesNotice v step r w) (sym tells) called
none_given v w step reply result none tells called = absurd (false≢true none)

-- so what is told of the reply is what the step gives
pub gives_none : (v w : HeapView) (c d : ClearHeap) (step : NamedStep) (reply : Reply)
    (result : Result (Option HeldNotice) Fault) → asks_for_a_notice step ≡ true → Acts c step (replies.Told reply) d
    → TellsOfNone reply result → Called v step (replies.Told reply) w → GivesNotice v step result w
gives_none v w c d step reply result asks acts tells called =
    none_given v w step reply result (tells_of_none c d step reply asks acts) tells called

-- ---- a hand of a batch

-- it tells of what this worker handed on, or of nothing, or it is refused
abbrev tells_of_batch : ℕ → Reply → Bool
tells_of_batch k told.Nothing = true
tells_of_batch k (told.Notices ns q cycle j) = j == k
tells_of_batch k (told.Refused fault) = is_of_heap fault
tells_of_batch k reply = false

all_handed_tells : (k : ℕ) (ps : List Pending) → tells_of_batch k (all_handed k ps) ≡ true
all_handed_tells k [] = refl
all_handed_tells k (p ∷ ps) = eq-eqb k k refl

batch_tells : (k : ℕ) (refused : Option Fault) (ps : List Pending) → are_of_heap refused ≡ true
    → tells_of_batch k (unless_refused refused told.Refused (all_handed k ps)) ≡ true
batch_tells k None ps own = all_handed_tells k ps
batch_tells k (Some fault) ps own = own

some_of_heap : (ps : List Pending) (h : Heap) → are_of_heap (hands_refusal ps h) ≡ true
some_of_heap [] h = refl
some_of_heap (p ∷ ps) h =
    unless_of_heap (nat_le (length h.holds + length (p ∷ ps)) (2 ^ 64 - 1)) NumbersSpent None refl refl

hands_of_heap : (a : State) (k max : ℕ) (batch : List HeldNotice)
    → are_of_heap (heap_refusal a (heap.Hands k max batch)) ≡ true
hands_of_heap a k max batch =
    let h : Heap = a.world.heap in
    let some : List Pending = batch_of max (pending_of a.world k) in
    let last : Option Fault = hands_refusal some h in
    unless_of_heap (is_worker h k) NoSuchActor (unless (fits max (length batch)) BadConfig last) refl
    (unless_of_heap (fits max (length batch)) BadConfig last refl (some_of_heap some h))

told_batch : (v w : HeapView) (k max : ℕ) (batch left : List HeldNotice) (reply : Reply)
    (result : Result (Option Handed) Fault) (heap_no : ℕ) → tells_of_batch k reply ≡ true
    → left ≡ batch ++ held_notices heap_no (told_notices reply) → TellsOfBatch reply result
    → Called v (heap.Hands k max batch) (replies.Handed reply left) w → GivesBatch v k max batch result left w
told_batch v w k max batch left told.Nothing result heap_no own given tells called =
    subst (λ (r : Result (Option Handed) Fault). GivesBatch v k max batch r left w) (sym tells)
    ((heap_no, given), called)
told_batch v w k max batch left (told.Notices ns q cycle j) result heap_no own given tells called =
    let handed : Handed = record { numbers = ns; queue = q; cycle = cycle } in
    subst (λ (r : Result (Option Handed) Fault). GivesBatch v k max batch r left w) (sym tells)
    (subst (λ (i : ℕ). ((heap_no : ℕ) × (left ≡ batch ++ held_notices heap_no
    (told_notices (handed_reply i (Some handed)))))
    × Called v (heap.Hands k max batch) (replies.Handed (handed_reply i (Some handed)) left) w)
    (eqb-true j k own) ((heap_no, given), called))
told_batch v w k max batch left (told.Refused TurnsSpent) result heap_no own given tells called =
    absurd (false≢true own)
told_batch v w k max batch left (told.Refused fault) result heap_no own given tells called =
    let same : left ≡ batch = given ∙ append-nil batch in
    subst (λ (r : Result (Option Handed) Fault). GivesBatch v k max batch r left w) (sym tells) (
      same,
      subst (λ (ns : List HeldNotice). Called v (heap.Hands k max batch)
          (replies.Handed (told.Refused fault) ns) w) same called,
    )
told_batch v w k max batch left reply result heap_no own given tells called = absurd (false≢true own)

-- what is told of the reply is what the hand gives
pub gives_batch : (v w : HeapView) (c d : ClearHeap) (k max : ℕ) (batch left : List HeldNotice) (reply : Reply)
    (result : Result (Option Handed) Fault) → Acts c (heap.Hands k max batch) (replies.Handed reply left) d
    → TellsOfBatch reply result → Called v (heap.Hands k max batch) (replies.Handed reply left) w
    → GivesBatch v k max batch result left w
gives_batch v w c d k max batch left reply result acts tells called =
    let own : tells_of_batch k reply ≡ true =
    subst (λ (r : Reply). tells_of_batch k r ≡ true) (sym acts.does.answer)
    (batch_tells k (refusal_in c (heap.Hands k max batch)) (batch_of max (pending_at c k))
    (hands_of_heap (refusing_state c) k max batch)) in
    told_batch v w k max batch left reply result (heap_no_of c) own acts.gives tells called

-- ---- a step that spends a hold

uncounted_of_heap : (h : Heap) (hold : HoldName) → are_of_heap (hold_refusal h hold) ≡ true
uncounted_of_heap h hold = unless_of_heap (is_counted h hold) ForeignHold None refl refl

abbrev told_fault : Reply → Option Fault
told_fault (told.Refused fault) = Some fault
told_fault reply = None

fault_of_heap : (refused : Option Fault) (reply : Reply) (fault : Fault) → told_fault reply ≡ None
    → are_of_heap refused ≡ true → told.Refused fault ≡ unless_refused refused told.Refused reply
    → is_of_heap fault ≡ true
fault_of_heap None reply fault plain own is = cc
fault_of_heap (Some first) reply fault plain own is = cc

kept : (v w : HeapView) (step : NamedStep) (hold : HoldName) (fault : Fault) → is_of_heap fault ≡ true
    → Called v step (replies.Back fault hold) w → KeepsBack v step hold fault w
kept v w step hold TurnsSpent own called = absurd (false≢true own)
kept v w step hold fault own called = called

-- the hold of the step comes back
came_back : (v w : HeapView) (step : NamedStep) (hold back : HoldName) (fault : Fault) → back ≡ hold
    → is_of_heap fault ≡ true → Called v step (replies.Back fault back) w
    → (back ≡ hold) × KeepsBack v step hold fault w
came_back v w step hold back fault same own called =
    (same, kept v w step hold fault own (subst (λ (h : HoldName). Called v step (replies.Back fault h) w) same called))

pub spends_none : (v w : HeapView) (c d : ClearHeap) (step : NamedStep) (fault : Fault) (back : HoldName)
    → takes_a_hold step ≡ true → Acts c step (replies.Back fault back) d
    → Called v step (replies.Back fault back) w → Spends v step (Err (fault, back)) w
spends_none v w c d (heap.Adopt m s hold) fault back takes acts called =
    search (fault_of_heap, unless_of_heap, came_back v w (heap.Adopt m s hold) hold back fault acts.gives)
spends_none v w c d (heap.Release hold) fault back takes acts called =
    search (fault_of_heap, uncounted_of_heap, came_back v w (heap.Release hold) hold back fault acts.gives)
spends_none v w c d step fault back takes acts called = absurd (false≢true takes)

pub spends_it : (v w : HeapView) (c d : ClearHeap) (step : NamedStep) (reply : Reply) → takes_a_hold step ≡ true
    → Acts c step (replies.Told reply) d → Called v step (replies.Told reply) w → Spends v step (Ok tt) w
spends_it v w c d (heap.Adopt m s hold) reply takes acts called = grind arith
spends_it v w c d (heap.Release hold) reply takes acts called =
    subst (λ (r : Reply). Called v (heap.Release hold) (replies.Told r) w) acts.gives called
spends_it v w c d step reply takes acts called = absurd (false≢true takes)

-- ---- a step by which nothing changes hands

-- it is refused, or answered as such a step may be
abbrev is_in_kind : PlainStep → Reply → Bool
is_in_kind step reply = is_refusal reply || may_answer step reply

refused_or_told : (refused : Option Fault) (step : PlainStep) (reply : Reply) → may_answer step reply ≡ true
    → is_in_kind step (unless_refused refused told.Refused reply) ≡ true
refused_or_told None step reply may = or_right (is_refusal reply) (may_answer step reply) may
refused_or_told (Some fault) step reply may = refl

found_in_kind : (found : Option ℕ) → tells_of_found (value_reply found) ≡ true
found_in_kind None = refl
found_in_kind (Some n) = refl

module _ (c d : ClearHeap) where
  -- a mutator's step is, since what it is answered is so
  told_in_kind : (step : PlainStep) (reply : Reply) → Acts c (heap.Plain step) (replies.Told reply) d
      → answer_in c (heap.Plain step) ≡ answer_in_cycle c.mark (heap.Plain step)
      → may_answer step (reply_in c.mark (heap.Plain step)) ≡ true → is_in_kind step reply ≡ true
  told_in_kind step reply acts own may =
      subst (λ (r : Reply). is_in_kind step r ≡ true) (sym (acts.does.answer ∙ own))
      (refused_or_told (refusal_in_cycle c.mark (heap.Plain step)) step (reply_in c.mark (heap.Plain step)) may)

  pub answers_in_kind : (step : PlainStep) (reply : Reply) → Acts c (heap.Plain step) (replies.Told reply) d
      → is_in_kind step reply ≡ true
  answers_in_kind (plain.New m s n) reply acts = told_in_kind (plain.New m s n) reply acts refl refl
  answers_in_kind (plain.Refer m strength s source q n) reply acts =
      told_in_kind (plain.Refer m strength s source q n) reply acts refl refl
  answers_in_kind (plain.Load m t s f) reply acts =
      told_in_kind (plain.Load m t s f) reply acts refl (found_in_kind _)
  answers_in_kind (plain.Copy m t s) reply acts =
      told_in_kind (plain.Copy m t s) reply acts refl (found_in_kind _)
  answers_in_kind (plain.Get m t s) reply acts = told_in_kind (plain.Get m t s) reply acts refl (found_in_kind _)
  answers_in_kind (plain.Store m s f v) reply acts = told_in_kind (plain.Store m s f v) reply acts refl refl
  answers_in_kind (plain.Drop m s) reply acts = told_in_kind (plain.Drop m s) reply acts refl refl
  answers_in_kind (plain.Clear m s) reply acts = told_in_kind (plain.Clear m s) reply acts refl refl
  answers_in_kind (plain.RefersTo m s o) reply acts = told_in_kind (plain.RefersTo m s o) reply acts refl refl
  answers_in_kind step reply acts = or_right (is_refusal reply) true refl
