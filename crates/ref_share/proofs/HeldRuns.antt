-- The history of a heap: what is held is what was given out and not taken back.
use Rattle.ref_share.proofs.Common.{◌≡◌, ℕ, ◌+◌, ◌<◌, true, List, [], ◌∷◌, ◌++◌, Option, Some, None, refl, sym, ap, ◌∙◌}
use Rattle.ref_share.proofs.Common.{arith, false≢true, eq-eqb, State, tally, NamedStep, has, Config, Fault}
use Rattle.ref_share.proofs.Common.{Reply, Leads, GivesOut, HeapAnswer, IsHeapTurn, HeapEntry, IsHeapRun}
use Rattle.ref_share.proofs.Common.{first_state_of}
use Rattle.ref_share.proofs.Common.{IsHeapRow, heap_refusal, map, told_notices}
use Rattle.std.proofs.Common.{is_some}
use Rattle.ref_base.specs.CollectorRows.{IsHeapAnswer}
use Rattle.ref_base.specs.CountedHolds.{holds_after, more_of_each, more_of_first}
use Rattle.ref_base.specs.Heaps.{one_more, one_fewer}
use Rattle.ref_base.specs.Told.{told_object}
use Rattle.ref_base.specs.Worlds.{Notice, object_of}
use Rattle.ref_share.specs.HeapHistories.{minted_by, spent_by, minted, spent}
use Rattle.ref_base.proofs.CountedRows.{heap_holds}
use Rattle.ref_base.proofs.HoldCounts.{one_if, tally-first, tally-append, tally-more_of_each, tally-one_more}
use Rattle.ref_base.proofs.RunLaws.{holds_over}
use Rattle.ref_turn.proofs.Logs.{leads_cut}
use Rattle.ref_share.proofs.HeapRuns.{IsCall}
use Rattle.ref_base.specs.declared.heap_step.HeapStep.TheVariants as heap
use Rattle.ref_base.specs.declared.plain_step.PlainStep.TheVariants as plain
use Rattle.ref_base.specs.declared.reply.Reply.TheVariants as told
use Rattle.ref_world.specs.declared.heap_machine.HeapReply.TheVariants as replies

-- ---- one row

refused_holds : (hs : List ℕ) (step : NamedStep) (fault : Fault) → holds_after hs step (told.Refused fault) ≡ hs
refused_holds hs (heap.Plain plain.EndMark) fault = refl
refused_holds hs step fault = refl

-- the holds that a row leaves are those that it tells
row_holds : (a b : State) (refused : Option Fault) (step : NamedStep) (reply : Reply)
    → IsHeapAnswer a refused step reply b → b.world.heap.holds ≡ holds_after a.world.heap.holds step reply
row_holds a b None step reply row = heap_holds a b step reply row
row_holds a b (Some fault) step reply row = search (refused_holds a.world.heap.holds step fault)

-- a list without the first n that stands in it
tally-one_fewer_there : (hs : List ℕ) (m n : ℕ) → has hs m ≡ true
    → one_if m n + tally (one_fewer hs m) n ≡ tally hs n
tally-one_fewer_there [] m n there = absurd (false≢true there)
tally-one_fewer_there (h ∷ hs) m n there = grind (arith, tally-one_fewer_there hs m n)

no_change : (hs left : List ℕ) (n : ℕ) → left ≡ hs → tally left n + tally [] n ≡ tally [] n + tally hs n
no_change hs left n same = ap (λ (ns : List ℕ). tally ns n + 0) same ∙ omega arith

one_given : (hs left : List ℕ) (m n : ℕ) → left ≡ one_more hs m
    → tally left n + tally [] n ≡ tally (m ∷ []) n + tally hs n
one_given hs left m n same = grind (arith, tally-one_more)

one_taken : (hs left : List ℕ) (m n : ℕ) → left ≡ one_fewer hs m → has hs m ≡ true
    → tally left n + tally (m ∷ []) n ≡ tally [] n + tally hs n
one_taken hs left m n same there = grind (arith, tally-one_fewer_there)

-- a hold of each of these, where notices of them are given
some_given : (hs left : List ℕ) (notices : List Notice) (n : ℕ) → left ≡ more_of_each hs notices
    → tally left n + tally [] n ≡ tally (map object_of notices) n + tally hs n
some_given hs left notices n same = grind (arith, tally-more_of_each)

-- a step that tells of no notice and of no object gives no hold
unhook_gave_none : (hs : List ℕ) (m s : ℕ) (reply : Reply) → told_notices reply ≡ []
    → holds_after hs (heap.Unhook m s) reply ≡ hs
unhook_gave_none hs m s reply none = ap (more_of_first hs) none

hand_gave_none : (hs : List ℕ) (k : ℕ) (reply : Reply) → told_notices reply ≡ []
    → holds_after hs (heap.Hand k) reply ≡ hs
hand_gave_none hs k reply none = ap (more_of_each hs) none

hold_gave_none : (hs : List ℕ) (m s : ℕ) (reply : Reply) → told_object reply ≡ None
    → holds_after hs (heap.Hold m s) reply ≡ hs
hold_gave_none hs m s (told.Object n) none = absurd (false≢true (sym (ap is_some none)))
hold_gave_none hs m s reply none = refl

abbrev holds_in : State → List ℕ
holds_in x = x.world.heap.holds

-- a call that takes a hold back gives none
gives_none : (step : NamedStep) (reply : HeapAnswer) (n : ℕ) → spent_by step reply ≡ n ∷ [] → minted_by step reply ≡ []
gives_none step (replies.Told reply) n spends = refl
gives_none step (replies.Back fault hold) n spends = refl
gives_none (heap.Plain plain.EndMark) (replies.Notice notice) n spends = absurd cc
gives_none step (replies.Notice notice) n spends = absurd cc
gives_none (heap.Plain plain.EndMark) (replies.Held hold) n spends = absurd cc
gives_none step (replies.Held hold) n spends = absurd cc
gives_none (heap.Plain plain.EndMark) (replies.Handed reply batch) n spends = absurd cc
gives_none step (replies.Handed reply batch) n spends = absurd cc

-- what one call of the heap does to what is held
module _ (x y : State) (n : ℕ) where
  abbrev Balances : NamedStep → HeapAnswer → Type 0
  Balances step reply =
      tally (holds_in y) n + tally (spent_by step reply) n ≡ tally (minted_by step reply) n + tally (holds_in x) n

  after_told : (step : NamedStep) (reply : Reply) → holds_in y ≡ holds_after (holds_in x) step reply
      → IsHeapRow x step reply y → GivesOut x.world.heap.no step (replies.Told reply)
      → Balances step (replies.Told reply)
  after_told (heap.Unhook m s) reply held row gives =
      no_change (holds_in x) (holds_in y) n (held ∙ unhook_gave_none (holds_in x) m s reply gives)
  after_told (heap.Hand k) reply held row gives =
      no_change (holds_in x) (holds_in y) n (held ∙ hand_gave_none (holds_in x) k reply gives)
  after_told (heap.Hold m s) reply held row gives =
      no_change (holds_in x) (holds_in y) n (held ∙ hold_gave_none (holds_in x) m s reply gives)
  after_told (heap.Adopt m d hold) (told.Object k) held row gives = grind (arith, one_taken)
  after_told (heap.Adopt m d hold) reply held row gives = absurd cc
  after_told (heap.Release hold) told.Done held row gives = grind (arith, one_taken)
  after_told (heap.Release hold) reply held row gives = absurd cc
  after_told (heap.Hands k max batch) reply held row gives = absurd gives
  after_told step reply held row gives = no_change (holds_in x) (holds_in y) n held

  held_turn : (step : NamedStep) (reply : HeapAnswer) → IsHeapTurn x step reply y → Balances step reply
  held_turn step (replies.Told reply) turn = search (after_told, row_holds)
  held_turn (heap.Unhook m s) (replies.Notice notice) turn = search (one_given, row_holds)
  held_turn (heap.Hand k) (replies.Notice notice) turn = search (one_given, row_holds)
  held_turn step (replies.Notice notice) turn = absurd turn.gives
  held_turn (heap.Hold m s) (replies.Held hold) turn = search (one_given, row_holds)
  held_turn step (replies.Held hold) turn = absurd turn.gives
  held_turn (heap.Hands k max batch) (replies.Handed reply after) turn =
      some_given (holds_in x) (holds_in y) (told_notices reply) n
      (row_holds x y (heap_refusal x (heap.Hands k max batch)) (heap.Hands k max batch) reply turn.row)
  held_turn step (replies.Handed reply after) turn = absurd turn.gives
  held_turn (heap.Hands k max batch) (replies.Back fault hold) turn = absurd turn.gives
  held_turn (heap.Plain plain.EndMark) (replies.Back fault hold) turn = absurd turn.gives
  held_turn step (replies.Back fault hold) turn = search (no_change, row_holds)

-- ---- a history

pub held_run : (x y : State) (calls : List HeapEntry) → Leads IsHeapTurn x calls y → (n : ℕ)
    → tally (holds_in y) n + tally (spent calls) n ≡ tally (minted calls) n + tally (holds_in x) n
held_run x y calls run n =
    holds_over IsCall
    (λ v some w. tally (holds_in w) n + tally (spent some) n ≡ tally (minted some) n + tally (holds_in v) n)
    (λ v. no_change (holds_in v) (holds_in v) n refl)
    (λ v call w more z turn later. grind (arith, held_turn, tally-append)) x calls y run

-- what is held was given out and not taken back
pub held_is_minted : (config : Config) (number : ℕ) (calls : List HeapEntry) (last : State)
    → IsHeapRun config number calls last → (n : ℕ)
    → tally (holds_in last) n + tally (spent calls) n ≡ tally (minted calls) n
held_is_minted config number calls last run n =
    let all = held_run (first_state_of config number) last calls run n in omega (arith, all)

-- a call that takes a hold back takes back one that was given out
pub spent_was_minted : (config : Config) (number : ℕ) (front back : List HeapEntry) (call : HeapEntry)
    (last : State) (n : ℕ) → IsHeapRun config number (front ++ call ∷ back) last
    → spent_by call.step call.reply ≡ n ∷ [] → tally (spent front) n < tally (minted front) n
spent_was_minted config number front back call last n run spends =
    let parts = leads_cut IsHeapTurn front (call ∷ back) (first_state_of config number) last run in
    let before = held_is_minted config number front parts.0 parts.1 n in
    let turn = held_turn parts.0 parts.2.0 n call.step call.reply parts.2.1 in
    let out = ap (λ (ns : List ℕ). tally ns n) spends in
    let none = ap (λ (ns : List ℕ). tally ns n) (gives_none call.step call.reply n spends) in
    let one : one_if n n ≡ 1 = rw (eq-eqb n n refl) refl in
    omega (arith, before, turn, out, none, tally-first n [] n, one)
