-- The history of a heap: what a mark's end dooms, no call gives from then on.
use Rattle.ref_share.proofs.Common.{arith, ◌≡◌, ℕ, true, List, [], ◌∷◌, ◌++◌, Option, None, inl, inr, ap, ◌∙◌}
use Rattle.ref_share.proofs.Common.{append-nil, HeapAccepts, EndsMark, doomed_at, State, NamedStep, has, heap_refusal}
use Rattle.ref_share.proofs.Common.{Config, Reply, Leads, entry, told_reply, HeapAnswer, IsHeapTurn, HeapEntry}
use Rattle.ref_share.proofs.Common.{IsHeapRun, first_state_of, AllByRecursion, World, false, ◌==◌, sym, subst}
use Rattle.ref_share.proofs.Common.{cases_Bool}
use Rattle.ref_share.proofs.Common.{false≢true, heap_replayed}
use Rattle.std.proofs.lemmas.Bool.{eqb-true}
use Rattle.ref_base.proofs.AgreeHeaps.{Agreeing}
use Rattle.ref_base.proofs.ApartWorlds.{IsClosed}
use Rattle.ref_base.proofs.HeapTurns.{IsRefusedOrAccepted}
use Rattle.ref_base.specs.Paths.{any_referent}
use Rattle.ref_base.specs.Told.{named_by}
use Rattle.ref_base.proofs.AgreeHeaps.{gone_after}
use Rattle.ref_base.proofs.ClosedRows.{named_is}
use Rattle.ref_base.proofs.AgreeRuns.{gone_next}
use Rattle.ref_base.proofs.HeapTurns.{IsTurn, accepted, heap_kind}
use Rattle.ref_base.proofs.HasLaws.{has-left, has-right}
use Rattle.ref_base.proofs.OutHeaps.{off, off_same, next_out}
use Rattle.ref_share.proofs.HeapReplays.{IsKnownBut, run_known, call_known_but}
use Rattle.ref_base.proofs.RunLaws.{holds_on, one_on}
use Rattle.ref_share.proofs.HeapRuns.{IsCall, as_turn}
use Rattle.ref_base.specs.declared.heap_step.HeapStep.TheVariants as heap
use Rattle.ref_base.specs.declared.plain_step.PlainStep.TheVariants as plain
use Rattle.ref_base.specs.declared.reply.Reply.TheVariants as told
use Rattle.ref_world.specs.declared.heap_machine.HeapReply.TheVariants as replies

-- ---- what is gone or doomed stays so

-- after a mark's end, what it doomed is so too
ended_off : (gone : List ℕ) (a c : State) (reply : Reply) → EndsMark a reply c → off gone c ≡ gone ++ doomed_at a
ended_off gone a c reply row = grind arith

stays_off : (gone : List ℕ) (a c : State) (step : NamedStep) (reply : Reply) (n : ℕ) → heap_refusal a step ≡ None
    → HeapAccepts a step reply c → has (off gone a) n ≡ true → has (off (gone_after a gone step reply) c) n ≡ true
stays_off gone a c (heap.Plain plain.EndMark) reply n none row is_off = grind (arith, append-nil, has-left)
stays_off gone a c step reply n none row is_off =
    ap (λ ns. has ns n) (off_same gone a c step reply tt none row) ∙ is_off

abbrev IsOffIn : Config → ℕ → ℕ → List HeapEntry → State → Type 0
IsOffIn config number n past x =
    (gone : List ℕ) × IsKnownBut config number past gone x × (has (off gone x) n ≡ true)

-- what a turn doesn't touch, and a mark's end dooms
turn_off : (gone : List ℕ) (a b : State) (asked : Option NamedStep) (reply : Reply) (n : ℕ) → IsTurn a asked reply b
    → has (off gone a) n ≡ true → has (off (gone_next a gone asked reply) b) n ≡ true
turn_off gone a b asked reply n (inl of) is = grind arith
turn_off gone a b asked reply n (inr of) is = grind (arith, stays_off)

call_off : (config : Config) (number n : ℕ) (past : List HeapEntry) (x : State) (call : HeapEntry) (y : State)
    → IsOffIn config number n past x → IsHeapTurn x call.step call.reply y
    → IsOffIn config number n (past ++ call ∷ []) y
call_off config number n past x call y is turn =
    search (turn_off, as_turn, call_known_but config number past is.0 x call y is.1 turn)

-- what a mark's end dooms is so
doomed_off : (config : Config) (number by count : ℕ) (front : List HeapEntry) (a b : State) (n : ℕ)
    → IsHeapRun config number front a → IsHeapTurn a (heap.Plain plain.EndMark) (replies.Told (told.Doomed count)) b
    → has (doomed_at a) n ≡ true
    → IsOffIn config number n (front ++ entry by (heap.Plain plain.EndMark) (replies.Told (told.Doomed count)) ∷ []) b
doomed_off config number by count front a b n first ends doomed =
    let known = run_known config number front a first in
    let gone : List ℕ = known.0 in
    let of = accepted a b (heap.Plain plain.EndMark) (told.Doomed count) (λ fault no. absurd cc)
    (as_turn a b (heap.Plain plain.EndMark) (replies.Told (told.Doomed count)) ends) in (
      gone,
      call_known_but config number front gone a
          (entry by (heap.Plain plain.EndMark) (replies.Told (told.Doomed count))) b known.1 ends,
      ap (λ (s : State). has (off gone s) n) of.3
          ∙ ap (λ ns. has ns n) (ended_off gone a of.0 (told.Doomed count) of.2)
          ∙ has-right gone (doomed_at a) n doomed,
    )

-- ---- so no call gives it

-- what holds of each number of a list holds of one that it has
holds_of : (V : ℕ → Type 0) (ns : List ℕ) (n : ℕ) → AllByRecursion V ns → has ns n ≡ true → V n
holds_of V [] n all there = absurd (false≢true there)
holds_of V (m ∷ ns) n all there =
    elim (cases_Bool (m == n)) [
      | inl same ↦ subst V (eqb-true m n same) all.0
      | inr other ↦ holds_of V ns n all.1 (simp other at there)
    ]

-- nothing that a call names is off
names_on : (gone : List ℕ) (w : World) (c e : State) (step : NamedStep) (reply : Reply) → Agreeing gone w c
    → IsClosed any_referent (λ m. has (off gone c) m ≡ false) c.world → IsRefusedOrAccepted c step reply e
    → AllByRecursion (λ m. has (off gone c) m ≡ false) (named_by reply)
names_on gone w c e step reply agrees closed (inl of) =
    subst (λ (r : Reply). AllByRecursion (λ m. has (off gone c) m ≡ false) (named_by r)) (sym of.1) tt
names_on gone w c e step reply agrees closed (inr of) =
    named_is (λ m. has (off gone c) m ≡ false) c e closed step reply (λ made. next_out gone w c agrees) of.0 of.1

names_none : (config : Config) (number n : ℕ) (past : List HeapEntry)
    (c : State) (step : NamedStep) (reply : HeapAnswer) (e : State) → IsOffIn config number n past c
    → IsHeapTurn c step reply e → has (named_by (told_reply reply)) n ≡ true → ⊥
names_none config number n past c step reply e is turn names =
    let on = names_on is.0 (heap_replayed config number past) c e step (told_reply reply) is.1.0 is.1.1.closed
    (heap_kind c e step (told_reply reply) turn.row) in
    let none = holds_of (λ m. has (off is.0 c) m ≡ false) (named_by (told_reply reply)) n on names in
    false≢true (sym none ∙ is.2)

pub never_given : (config : Config) (number count : ℕ) (front : List HeapEntry) (a b : State)
    (calls : List HeapEntry) (c : State) (step : NamedStep) (reply : HeapAnswer) (n : ℕ) (e : State)
    → IsHeapRun config number front a → IsHeapTurn a (heap.Plain plain.EndMark) (replies.Told (told.Doomed count)) b
    → Leads IsHeapTurn b calls c → has (doomed_at a) n ≡ true → IsHeapTurn c step reply e
    → has (named_by (told_reply reply)) n ≡ true → ⊥
never_given config number count front a b calls c step reply n e first ends later doomed turn names =
    let end : HeapEntry = entry 0 (heap.Plain plain.EndMark) (replies.Told (told.Doomed count)) in
    let past : List HeapEntry = front ++ end ∷ [] in
    let first_state : State = first_state_of config number in
    names_none config number n (past ++ calls) c step reply e
    (holds_on IsCall first_state (IsOffIn config number n)
    (λ past x call y run is h. call_off config number n past x call y is h)
    past b calls c (one_on IsCall first_state front a b end first ends)
    (doomed_off config number 0 count front a b n first ends doomed) later) turn names
