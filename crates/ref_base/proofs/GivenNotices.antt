-- In every legal trace each notice that an unhook gave, or that a worker handed on, comes from the rows up to it.
use Rattle.ref_base.proofs.Common.{arith, ◌≡◌, ℕ, true, List, [], ◌∷◌, ◌++◌, Option, Some, None, refl, sym, subst}
use Rattle.ref_base.proofs.Common.{AllByRecursion, Object, slot_at, registered_in, Notice, Pending, pending_of}
use Rattle.ref_base.proofs.Common.{told_notices, State, first_state, Unhooks, HandsOn, IsAnswer, IsRun, reference_of}
use Rattle.ref_base.proofs.Common.{IsProven, Config, Fault, Own, Step, Reply, Row}
use Rattle.ref_base.proofs.Common.{map, take, notice_from, HeapAccepts, HeldNotice, one_handed, all_handed, batch_of}
use Rattle.ref_base.proofs.BatchParts.{all_given, all_take, all_batch, tells_one, tells_all}
use Rattle.ref_base.specs.declared.heap_step.HeapStep.TheVariants as heap
use Rattle.ref_base.specs.Provenance.{gives_notices}
use Rattle.ref_base.proofs.RunLaws.{cut}
use Rattle.ref_base.proofs.Common.{notice_from}
use Rattle.ref_base.proofs.CarryRows.{Mints}
use Rattle.ref_base.proofs.ProvenTraces.{IsMade, Known, Stays, lifted, legal_known, mints}
use Rattle.ref_base.specs.declared.step.Step.TheVariants as steps
use Rattle.ref_base.specs.declared.reply.Reply.TheVariants as replies

-- the rows up to one that answers so
abbrev up_to : List Row → Step → Reply → List Row
up_to front step reply = front ++ record { step = step; reply = reply } ∷ []

-- P holds of what a reply tells where it holds of what the answer tells
as_told : (P : Notice → Type 0) (answer reply : Reply) → reply ≡ answer → AllByRecursion P (told_notices answer)
    → AllByRecursion P (told_notices reply)
as_told P answer reply is holds = subst (λ (r : Reply). AllByRecursion P (told_notices r)) (sym is) holds

-- what is given of what is pending
pub handed_on : (P : Notice → Type 0) (a c : State) (k : ℕ) (answer : Reply) (ps : List Pending) (reply : Reply)
    → told_notices answer ≡ map (notice_from k) ps → AllByRecursion (λ p. P (notice_from k p)) ps
    → HandsOn a k answer ps reply c → AllByRecursion P (told_notices reply)
handed_on P a c k answer ps reply tells all row =
    as_told P answer reply row.0 (subst (AllByRecursion P) (sym tells) (all_given P k ps all))

-- by a worker that hands on one, or several
pub one_given : (P : Notice → Type 0) (a c : State) (k : ℕ) (reply : Reply)
    → AllByRecursion (λ p. P (notice_from k p)) (pending_of a.world k) → HeapAccepts a (heap.Hand k) reply c
    → AllByRecursion P (told_notices reply)
one_given P a c k reply all row =
    let ps : List Pending = pending_of a.world k in
    handed_on P a c k (one_handed k (take 1 ps)) (take 1 ps) reply (tells_one k ps)
    (all_take (λ p. P (notice_from k p)) 1 ps all) row

pub some_given : (P : Notice → Type 0) (a c : State) (k max : ℕ) (batch : List HeldNotice) (reply : Reply)
    → AllByRecursion (λ p. P (notice_from k p)) (pending_of a.world k)
    → HeapAccepts a (heap.Hands k max batch) reply c → AllByRecursion P (told_notices reply)
some_given P a c k max batch reply all row =
    let ps : List Pending = pending_of a.world k in
    handed_on P a c k (all_handed k (batch_of max ps)) (batch_of max ps) reply (tells_all k max ps)
    (all_batch (λ p. P (notice_from k p)) max ps all) row

pub unhooked : (O : Object → Type 0) (P : Notice → Type 0) (C : ℕ → Type 0) (a c : State) (m s : ℕ)
    (held queue : Option ℕ) (reply : Reply) → Mints O P C a (steps.Unhook m s) reply
    → registered_in (reference_of a.world.heap held) ≡ queue → Unhooks a m s held queue reply c
    → AllByRecursion P (told_notices reply)
unhooked O P C a c m s None queue reply mints is row = as_told P replies.Nothing reply row.0 tt
unhooked O P C a c m s (Some k) None reply mints is row = as_told P replies.Nothing reply row.0 tt
unhooked O P C a c m s (Some k) (Some j) reply mints is row =
    as_told P (replies.Notice k j Own) reply row.0 (mints k j row.0 is, tt)

pub answered : (past : List Row) (a b : State) (step : Step) (reply : Reply) (fault : Option Fault)
    → gives_notices step ≡ true → Known past a.world → IsAnswer a fault step reply b
    → AllByRecursion (IsProven (up_to past step reply)) (told_notices reply)
answered past a b step reply (Some fault) gives known row =
    as_told (IsProven (up_to past step reply)) (replies.Refused fault) reply row.0 tt
answered past a b (steps.Unhook m s) reply None gives known row =
    let step : Step = steps.Unhook m s in
    let more : List Row = up_to past step reply in
    unhooked (IsMade more) (IsProven more) (Stays a.world.cycle step) a row.0 m s (slot_at a.world.heap m s) _ reply
    (mints past a step reply known.goes_on (lifted past a (record { step = step; reply = reply }) known)) refl row.1
answered past a b (steps.Hand k) reply None gives known row =
    let step : Step = steps.Hand k in
    one_given (IsProven (up_to past step reply)) a row.0 k reply
    ((lifted past a (record { step = step; reply = reply }) known).pendings k) row.1
answered past a b (steps.Hands k max) reply None gives known row =
    let step : Step = steps.Hands k max in
    some_given (IsProven (up_to past step reply)) a row.0 k max [] reply
    ((lifted past a (record { step = step; reply = reply }) known).pendings k) row.1
answered past a b step reply None gives known row = absurd cc

pub given_proven : (config : Config) (front back : List Row) (step : Step) (reply : Reply) (b : State)
    → gives_notices step ≡ true
    → IsRun (first_state config) (front ++ record { step = step; reply = reply } ∷ back) b
    → AllByRecursion (IsProven (front ++ record { step = step; reply = reply } ∷ [])) (told_notices reply)
given_proven config front back step reply b gives run = grind (arith, cut, legal_known, answered front)
