-- What a call of a worker's hand gives: the notices that it tells, of the front of what was pending of the worker,
-- which are handed on one after the other.
use Rattle.ref_share.proofs.Common.{◌≡◌, ℕ, zero, suc, List, [], ◌∷◌, ◌++◌, length, map, refl, sym, ap, ◌∙◌}
use Rattle.ref_share.proofs.Common.{append_assoc, slice_index_or, slice_set, eq-eqb, inl, inr, cases_Bool, NamedStep}
use Rattle.ref_share.proofs.Common.{HeapAccepts, HeldNotice, Pending, Reply, State, World, as_notice, pending_of}
use Rattle.ref_share.proofs.Common.{told_notices, told_reply, GivesOut, HeapAnswer, notices_of_hand, without_pending}
use Rattle.ref_share.proofs.Common.{AllByRecursion, Fault}
use Rattle.std.proofs.Common.{take, drop}
use Rattle.std.proofs.lemmas.List.{take-append-drop}
use Rattle.std.proofs.Math.Seq.{drop-append_seam}
use Rattle.ref_base.specs.Refusals.{batch_of, front_with, goes_with}
use Rattle.ref_base.specs.Replay.{handed_on}
use Rattle.ref_base.specs.Worlds.{Notice, notice_from, object_of}
use Rattle.ref_base.proofs.BatchParts.{tells_one, tells_all}
use Rattle.ref_clear.specs.ClearCalls.{held_notices}
use Rattle.ref_base.specs.declared.heap_step.HeapStep.TheVariants as heap
use Rattle.ref_base.specs.declared.reply.Reply.TheVariants as told
use Rattle.ref_world.specs.declared.heap_machine.HeapReply.TheVariants as replies

-- ---- the notices

-- a notice that is out tells what it was made of
as_told : (heap_no : ℕ) (ns : List Notice) → map as_notice (held_notices heap_no ns) ≡ ns
as_told heap_no [] = refl
as_told heap_no (notice ∷ ns) = ap (λ ms. notice ∷ ms) (as_told heap_no ns)

objects_told : (ns : List HeldNotice) → map (λ notice. notice.hold.object) ns ≡ map object_of (map as_notice ns)
objects_told [] = refl
objects_told (notice ∷ ns) = ap (λ ms. notice.hold.object ∷ ms) (objects_told ns)

-- they stand behind what stood in the batch
given_behind : (heap_no : ℕ) (batch after : List HeldNotice) (ns : List Notice)
    → after ≡ batch ++ held_notices heap_no ns
    → map as_notice (drop (length batch) after) ≡ ns
given_behind heap_no batch after ns is =
    ap (λ all. map as_notice (drop (length batch) all)) is
    ∙ ap (map as_notice) (drop-append_seam batch (held_notices heap_no ns)) ∙ as_told heap_no ns

-- a hand of one gives what it tells
pub one_is_told : (heap_no k : ℕ) (reply : HeapAnswer) → GivesOut heap_no (heap.Hand k) reply
    → map as_notice (notices_of_hand (heap.Hand k) reply) ≡ told_notices (told_reply reply)
one_is_told heap_no k (replies.Told reply) gives = sym gives
one_is_told heap_no k (replies.Notice notice) gives = refl
one_is_told heap_no k reply gives = absurd gives

-- and a hand of several
pub some_are_told : (heap_no k max : ℕ) (batch : List HeldNotice) (reply : HeapAnswer)
    → GivesOut heap_no (heap.Hands k max batch) reply
    → map as_notice (notices_of_hand (heap.Hands k max batch) reply) ≡ told_notices (told_reply reply)
some_are_told heap_no k max batch (replies.Handed reply after) gives =
    given_behind heap_no batch after (told_notices reply) gives
some_are_told heap_no k max batch reply gives = absurd gives

-- so the references are those that it tells
pub references_told : (ns : List HeldNotice) (tells : List Notice) → map as_notice ns ≡ tells
    → map (λ notice. notice.hold.object) ns ≡ map object_of tells
references_told ns tells are = objects_told ns ∙ ap (map object_of) are

-- what holds of each notice that is told holds of each that is given
pub all_given : (P : Notice → Type 0) (ns : List HeldNotice) → AllByRecursion P (map as_notice ns)
    → AllByRecursion (λ notice. P (as_notice notice)) ns
all_given P [] all = tt
all_given P (notice ∷ ns) all = (all.0, all_given P ns all.1)

-- ---- the front of what is pending

-- what a hand tells is the front of what is pending of the worker
pub record GivesFront (w : World) (k : ℕ) (reply : Reply) : Type 0 where
  pub front : List Pending
  pub rest : List Pending
  pub pending : pending_of w k ≡ front ++ rest
  pub tells : told_notices reply ≡ map (notice_from k) front

front_is : (p : Pending) (ps : List Pending) → (rest : List Pending) × (ps ≡ front_with p ps ++ rest)
front_is p [] = ([], refl)
front_is p (r ∷ ps) =
    let more = front_is p ps in
    elim (cases_Bool (goes_with p r)) [
      | inl is ↦ (more.0, rw is (ap (λ rs. r ∷ rs) more.1))
      | inr isnt ↦ (r ∷ ps, rw isnt refl)
    ]

batch_is_front : (max : ℕ) (ps : List Pending) → (rest : List Pending) × (ps ≡ batch_of max ps ++ rest)
batch_is_front max [] = ([], refl)
batch_is_front max (p ∷ ps) =
    let more = front_is p ps in
    let some : List Pending = p ∷ front_with p ps in (
      drop max some ++ more.0,
      ap (λ rs. p ∷ rs) more.1 ∙ ap (λ rs. rs ++ more.0) (sym (take-append-drop max some))
          ∙ append_assoc (take max some) (drop max some) more.0,
    )

pub one_of_front : (a b : State) (k : ℕ) (reply : Reply) → HeapAccepts a (heap.Hand k) reply b
    → GivesFront a.world k reply
one_of_front a b k reply row =
    let ps : List Pending = pending_of a.world k in
    record {
      front = take 1 ps;
      rest = drop 1 ps;
      pending = sym (take-append-drop 1 ps);
      tells = ap told_notices row.0 ∙ tells_one k ps;
    }

pub some_of_front : (a b : State) (k max : ℕ) (batch : List HeldNotice) (reply : Reply)
    → HeapAccepts a (heap.Hands k max batch) reply b → GivesFront a.world k reply
some_of_front a b k max batch reply row =
    let ps : List Pending = pending_of a.world k in
    let parts = batch_is_front max ps in
    record {
      front = batch_of max ps;
      rest = parts.0;
      pending = parts.1;
      tells = ap told_notices row.0 ∙ tells_all k max ps;
    }

-- ---- one after the other

set_there : (lists : List (List Pending)) (k : ℕ) (p : Pending) (ps qs : List Pending)
    → slice_index_or lists k [] ≡ p ∷ ps → slice_index_or (slice_set lists k qs) k [] ≡ qs
set_there [] k p ps qs is = absurd cc
set_there (l ∷ lists) zero p ps qs is = refl
set_there (l ∷ lists) (suc k) p ps qs is = set_there lists k p ps qs is

-- once the first is handed on, the rest is pending
module _ (w : World) (k : ℕ) (p : Pending) (rest : List Pending) (is : pending_of w k ≡ p ∷ rest) where
  pub left_pending : (handed_on w k p.object).pending ≡ slice_set w.pending k rest
  left_pending =
      let own = eq-eqb p.object p.object refl in
      let left : without_pending (pending_of w k) p.object ≡ rest = rw (is, own) refl in
      ap (slice_set w.pending k) left

  pub then_pending : pending_of (handed_on w k p.object) k ≡ rest
  then_pending =
      ap (λ (lists : List (List Pending)). slice_index_or lists k []) left_pending
      ∙ set_there w.pending k p rest rest is

-- ---- a refusal

-- a call that is refused hands nothing on
pub refused_gives : (heap_no : ℕ) (step : NamedStep) (reply : HeapAnswer) (fault : Fault)
    → told_reply reply ≡ told.Refused fault → GivesOut heap_no step reply → notices_of_hand step reply ≡ []
refused_gives heap_no (heap.Hand k) (replies.Notice notice) fault answer gives = absurd cc
refused_gives heap_no (heap.Hands k max batch) (replies.Handed reply after) fault answer gives =
    let none : after ≡ batch ++ [] = gives ∙ ap (λ r. batch ++ held_notices heap_no (told_notices r)) answer in
    ap (drop (length batch)) none ∙ drop-append_seam batch []
refused_gives heap_no step reply fault answer gives = refl
