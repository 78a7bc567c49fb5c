-- The history of a heap: what is in no slot and in no object stays so, unless a call adopts a hold of it.
use Rattle.ref_share.proofs.Common.{arith, ◌≡◌, ◌≢◌, ℕ, ◌+◌, ◌<◌, ◌≤◌, Bool, true, false, List, [], ◌∷◌, ◌++◌, refl}
use Rattle.ref_share.proofs.Common.{Option, Some, None, inl, inr, sym, ap, ◌∙◌, subst, ◌⊎◌, cases_Bool, false≢true}
use Rattle.ref_share.proofs.Common.{slice_index_or}
use Rattle.ref_share.proofs.Common.{append-nil, append_assoc, AllByRecursion, has, tally, State, World, NamedStep}
use Rattle.ref_share.proofs.Common.{Config}
use Rattle.ref_share.proofs.Common.{Reply, Fault, Pending, pending_of, Leads, GivesOut, told_reply, HeapAnswer}
use Rattle.ref_share.proofs.Common.{IsHeapTurn}
use Rattle.ref_share.proofs.Common.{HeapEntry, IsHeapRun, first_state_of, heap_replayed, HeapMarkEnded, HeapAccepts}
use Rattle.ref_share.proofs.Common.{heap_refusal}
use Rattle.ref_share.proofs.Common.{notices_given}
use Rattle.std.proofs.Common.{◌*◌, take}
use Rattle.ref_base.specs.CollectorRows.{Loads, Gets, Holds, Unhooks, GivesAnewIf, Scans, ClearsNext, Sweeps, Selects}
use Rattle.ref_base.specs.CollectorRows.{Moves, EndsMove, field_in, referent_got, reference_of, value_reply, list_at}
use Rattle.ref_base.specs.CollectorRows.{one_handed, all_handed, looked_at}
use Rattle.ref_base.specs.Graphs.{object_at}
use Rattle.ref_base.specs.Heaps.{slot_at, registered_in}
use Rattle.ref_base.specs.Paths.{any_referent, if_any}
use Rattle.ref_base.specs.Refusals.{is_in, batch_of}
use Rattle.ref_base.specs.Replay.{after_heap}
use Rattle.ref_base.specs.Told.{told_object}
use Rattle.ref_base.specs.declared.phase.Phase.TheVariants.{Marking}
use Rattle.ref_base.proofs.HasLaws.{has-left}
use Rattle.ref_base.proofs.HeapTurns.{heap_kind}
use Rattle.ref_base.proofs.HoldCounts.{tally-append}
use Rattle.ref_base.proofs.Lookups.{is_there-has}
use Rattle.ref_base.proofs.ObjectTargets.{field_target, got_target}
use Rattle.ref_base.proofs.OneQueue.{next_heap}
use Rattle.ref_base.proofs.ReplayKeeps.{numbers_of, numbers_after}
use Rattle.ref_base.proofs.ReplayUnder.{made_number}
use Rattle.ref_base.proofs.RunLaws.{one_on}
use Rattle.ref_turn.proofs.Logs.{leads_cut}
use Rattle.ref_share.specs.ApartHistories.{PutInNoSlot, put_in_slot, adopted_by, AdoptNone, IsNowhere, IsKeptApart}
use Rattle.ref_share.specs.ApartHistories.{WasFoundDead, IsOfDeath}
use Rattle.ref_share.specs.HeapHistories.{minted, minted_by}
use Rattle.ref_share.proofs.ApartRounds.{minted_of_death}
use Rattle.ref_share.proofs.ApartRuns.{IsOutBut, HasNot, empty_has_not, read_by, unread, out_here, given_of_death}
use Rattle.ref_share.proofs.ApartRuns.{minted-append, tally-lacks}
use Rattle.ref_share.proofs.HeapReplays.{run_known, replayed_last, heap_refused, shown_more}
use Rattle.ref_share.proofs.HeapRuns.{IsCall}
use Rattle.ref_share.proofs.MarkedRuns.{given_after_mark}
use Rattle.ref_share.proofs.SlotRuns.{slots_then}
use Rattle.ref_share.proofs.TargetRuns.{InNoObject, stored_by, objects_then, none_under}
use Rattle.ref_base.specs.declared.heap_step.HeapStep.TheVariants as heap
use Rattle.ref_base.specs.declared.plain_step.PlainStep.TheVariants as plain
use Rattle.ref_base.specs.declared.reply.Reply.TheVariants as told
use Rattle.ref_world.specs.declared.heap_machine.HeapReply.TheVariants as replies

-- n is in no slot but one, and in no object
pub record IsFree (n : ℕ) (but : Option ℕ) (w : World) : Type 0 where
  pub slots : IsOutBut n but w
  pub objects : InNoObject n w

-- ---- what one call puts into a slot

-- what a row answers isn't n, where n is in no object, is no new number, and is neither handed on from a slot nor
-- adopted
module _ (n : ℕ) (x y : State) (none : InNoObject n x.world) (old : n < x.next) where
  abbrev IsNot : Reply → Type 0
  IsNot reply = told_object reply ≢ Some n

  told_is : (answer reply : Reply) → reply ≡ answer → IsNot answer → IsNot reply
  told_is answer reply is other = subst IsNot (sym is) other

  other_number : (k : ℕ) → k ≢ n → IsNot (told.Object k)
  other_number k other is = other cc

  value_is : (value : Option ℕ) → value ≢ Some n → IsNot (value_reply value)
  value_is None other = λ is. absurd cc
  value_is (Some k) other = other

  field_other : (held : Option ℕ) (i : ℕ) → field_in x.world.heap held i ≢ Some n
  field_other None i = λ is. absurd cc
  field_other (Some m) i = λ is.
      false≢true (sym (none.each m) ∙ field_target any_referent (object_at x.world.heap.objects m) i n is)

  got_other : (held : Option ℕ) → referent_got (reference_of x.world.heap held) ≢ Some n
  got_other None = λ is. absurd cc
  got_other (Some m) = λ is. false≢true (sym (none.each m) ∙ got_target (object_at x.world.heap.objects m) n is)

  anew : (marks : Bool) (answer : Reply) (c : State) (reply : Reply) → IsNot answer
      → GivesAnewIf marks answer c reply y → IsNot reply
  anew true answer c reply other row = told_is answer reply row.0 other
  anew false answer c reply other row = told_is answer reply row.0 other

  loads : (m d : ℕ) (value : Option ℕ) (reply : Reply) → value ≢ Some n → Loads x m d value reply y → IsNot reply
  loads m d None reply other row = told_is told.Null reply row.0 (λ is. absurd cc)
  loads m d (Some k) reply other row = anew (is_in x.world.phase Marking) (told.Object k) _ reply other row

  gets : (m d s : ℕ) (value : Option ℕ) (reply : Reply) → value ≢ Some n → Gets x m d s value reply y → IsNot reply
  gets m d s None reply other row = told_is told.Null reply row.0 (λ is. absurd cc)
  gets m d s (Some k) reply other row = anew (is_in x.world.phase Marking) (told.Object k) _ reply other row

  unhooks : (m s : ℕ) (held queue : Option ℕ) (reply : Reply) → Unhooks x m s held queue reply y → IsNot reply
  unhooks m s None queue reply row = told_is told.Nothing reply row.0 (λ is. absurd cc)
  unhooks m s (Some k) None reply row = told_is told.Nothing reply row.0 (λ is. absurd cc)
  unhooks m s (Some k) (Some q) reply row = told_is _ reply row.0 (λ is. absurd cc)

  holds : (held : Option ℕ) (reply : Reply) → held ≢ Some n → Holds x held reply y → IsNot reply
  holds None reply other row = absurd row
  holds (Some k) reply other row = told_is (told.Object k) reply row.0 other

  scans : (k : ℕ) (reply : Reply) → Scans x k reply y → IsNot reply
  scans k (told.Scanned m) row = λ is. absurd cc
  scans k reply row = told_is told.Nothing reply row.1.0 (λ is. absurd cc)

  looked_is : (k m : ℕ) → IsNot (looked_at x k m)
  looked_is k m = λ is. grind arith

  looks : (k : ℕ) (found : List ℕ) (reply : Reply) → ClearsNext x k found reply y → IsNot reply
  looks k [] reply row = told_is told.Nothing reply row.0 (λ is. absurd cc)
  looks k (m ∷ rest) reply row = told_is (looked_at x k m) reply row.0 (looked_is k m)

  sweeps : (doomed : List ℕ) (reply : Reply) → Sweeps x doomed reply y → IsNot reply
  sweeps [] reply row = told_is told.Nothing reply row.0 (λ is. absurd cc)
  sweeps (m ∷ ms) reply row = told_is _ reply row.0 (λ is. absurd cc)

  selects : (reply : Reply) → Selects x reply y → IsNot reply
  selects reply (inl row) = told_is (told.Selected row.0) reply row.1.0 (λ is. absurd cc)
  selects reply (inr row) =
      elim row.0 [
        | inl is ↦ told_is _ reply is (λ same. absurd cc)
        | inr is ↦ told_is _ reply is (λ same. absurd cc)
      ]

  moves : (reply : Reply) → Moves x reply y → IsNot reply
  moves (told.Moved m) row = λ is. absurd cc
  moves reply row = told_is told.Nothing reply row.0 (λ is. absurd cc)

  ends_move : (reply : Reply) → EndsMove x reply y → IsNot reply
  ends_move reply (inl row) = told_is told.Done reply row.0 (λ is. absurd cc)
  ends_move reply (inr row) = told_is _ reply row.0 (λ is. absurd cc)

  one_is : (k : ℕ) (ps : List Pending) → IsNot (one_handed k (take 1 ps))
  one_is k [] = λ is. absurd cc
  one_is k (p ∷ ps) = λ is. absurd cc

  all_is : (k : ℕ) (ps : List Pending) → IsNot (all_handed k ps)
  all_is k [] = λ is. absurd cc
  all_is k (p ∷ ps) = λ is. absurd cc

  put_other : (step : NamedStep) (reply : Reply) → read_by x.world step ≢ Some n → adopted_by step ≢ Some n
      → HeapAccepts x step reply y → IsNot reply
  put_other (heap.Plain (plain.New m d k)) reply other not_adopted row =
      told_is (told.Object x.next) reply row.0 (other_number x.next (λ is. absurd (omega (arith, is, old))))
  put_other (heap.Plain (plain.Refer m strength d s q k)) reply other not_adopted row =
      told_is (told.Object x.next) reply row.0 (other_number x.next (λ is. absurd (omega (arith, is, old))))
  put_other (heap.Plain (plain.Store m s i v)) reply other not_adopted row =
      told_is told.Done reply row.0 (λ is. absurd cc)
  put_other (heap.Plain (plain.Load m d s i)) reply other not_adopted row =
      let held : Option ℕ = slot_at x.world.heap m s in
      loads m d (field_in x.world.heap held i) reply (field_other held i) row
  put_other (heap.Plain (plain.Copy m d s)) reply other not_adopted row =
      told_is (value_reply (slot_at x.world.heap m s)) reply row.0 (value_is (slot_at x.world.heap m s) other)
  put_other (heap.Plain (plain.Get m d s)) reply other not_adopted row =
      gets m d s (referent_got (reference_of x.world.heap (slot_at x.world.heap m s))) reply
      (got_other (slot_at x.world.heap m s)) row
  put_other (heap.Plain (plain.Begin now how)) reply other not_adopted row =
      told_is (told.Cycle (x.world.cycle + 1)) reply row.0 (λ is. absurd cc)
  put_other (heap.Plain (plain.Scan k)) reply other not_adopted row = scans k reply row
  put_other (heap.Plain plain.EndMark) reply other not_adopted row = told_is _ reply row.answer (λ is. absurd cc)
  put_other (heap.Plain (plain.ClearNext k)) reply other not_adopted row = looks k (list_at x.found k) reply row
  put_other (heap.Plain (plain.Sweep k)) reply other not_adopted row = sweeps x.doomed reply row
  put_other (heap.Plain plain.Select) reply other not_adopted row = selects reply row
  put_other (heap.Plain (plain.MoveNext k)) reply other not_adopted row = moves reply row
  put_other (heap.Plain plain.EndMove) reply other not_adopted row = ends_move reply row
  put_other (heap.Unhook m s) reply other not_adopted row =
      unhooks m s (slot_at x.world.heap m s)
      (registered_in (reference_of x.world.heap (slot_at x.world.heap m s))) reply row
  put_other (heap.Hold m s) reply other not_adopted row = holds (slot_at x.world.heap m s) reply other row
  put_other (heap.Adopt m d hold) reply other not_adopted row =
      told_is (told.Object hold.object) reply row.0 not_adopted
  put_other (heap.Hand k) reply other not_adopted row =
      told_is (one_handed k (take 1 (pending_of x.world k))) reply row.0 (one_is k (pending_of x.world k))
  put_other (heap.Hands k max batch) reply other not_adopted row =
      told_is (all_handed k (batch_of max (pending_of x.world k))) reply row.0
      (all_is k (batch_of max (pending_of x.world k)))
  put_other step reply other not_adopted row = told_is _ reply row.0 (λ is. absurd cc)

put_told : (n : ℕ) (reply : HeapAnswer) → told_object (told_reply reply) ≢ Some n → put_in_slot reply ≢ Some n
put_told n (replies.Told reply) other = other
put_told n reply other = λ is. absurd cc

-- a refusal puts and gives nothing
pub refused_put : (n : ℕ) (fault : Fault) (reply : HeapAnswer) → told_reply reply ≡ told.Refused fault
    → put_in_slot reply ≢ Some n
refused_put n fault reply is =
    put_told n reply (subst (λ (r : Reply). told_object r ≢ Some n) (sym is) (λ same. absurd cc))

pub refused_gives : (n : ℕ) (step : NamedStep) (fault : Fault) (reply : HeapAnswer)
    → told_reply reply ≡ told.Refused fault → has (minted_by step reply) n ≡ false
refused_gives n step fault (replies.Notice notice) is = absurd cc
refused_gives n step fault (replies.Held hold) is = absurd cc
refused_gives n step fault (replies.Handed reply after) is =
    subst (λ (r : Reply). has (minted_by step (replies.Handed r after)) n ≡ false) (sym is) refl
refused_gives n step fault reply is = refl

-- ---- one call

pub stored_read : (n : ℕ) (w : World) (step : NamedStep) → read_by w step ≢ Some n → stored_by w step ≢ Some n
stored_read n w (heap.Plain (plain.Store m s i v)) other = other
stored_read n w (heap.Plain (plain.Refer m strength d s q k)) other = other
stored_read n w step other = λ is. absurd cc

pub read_same : (v w : World) → w.heap.slots ≡ v.heap.slots → (step : NamedStep) → read_by w step ≡ read_by v step
read_same v w same (heap.Plain (plain.Store m s i v')) =
    ap (λ (slots : List (Option ℕ)). slice_index_or slots (16 * m + v') None) same
read_same v w same (heap.Plain (plain.Refer m strength d s q k)) =
    ap (λ (slots : List (Option ℕ)). slice_index_or slots (16 * m + s) None) same
read_same v w same (heap.Plain (plain.Copy m d s)) =
    ap (λ (slots : List (Option ℕ)). slice_index_or slots (16 * m + s) None) same
read_same v w same (heap.Unhook m s) = ap (λ (slots : List (Option ℕ)). slice_index_or slots (16 * m + s) None) same
read_same v w same (heap.Hold m s) = ap (λ (slots : List (Option ℕ)). slice_index_or slots (16 * m + s) None) same
read_same v w same step = refl

-- what a call leaves free of n, where it neither puts n into a slot nor copies it into an object
pub free_then : (n : ℕ) (but : Option ℕ) (w : World) (number : ℕ) (step : NamedStep) (reply : HeapAnswer)
    → GivesOut number step reply → put_in_slot reply ≢ Some n → stored_by w step ≢ Some n → IsFree n but w
    → IsFree n but (after_heap w step (told_reply reply))
free_then n but w number step reply gives put stored free = record {
  slots = slots_then (HasNot n but) (empty_has_not n but) w free.slots number step reply gives
      (λ i fills k is elsewhere same. put (is ∙ same));
  objects = objects_then n w free.objects step (told_reply reply) stored;
}

-- what was made stays made
pub made_then : (n : ℕ) (w : World) (step : NamedStep) (reply : Reply) → has (numbers_of w) n ≡ true
    → has (numbers_of (after_heap w step reply)) n ≡ true
made_then n w step reply there =
    subst (λ ns. has ns n ≡ true) (sym (numbers_after w step reply))
    (has-left (numbers_of w) (if_any (made_number step reply)) n there)

pub next_call : (x y : State) (step : NamedStep) (reply : HeapAnswer) → IsHeapTurn x step reply y → x.next ≤ y.next
next_call x y step reply turn =
    elim (heap_kind x y step (told_reply reply) turn.row) [
      | inl of ↦ let same = ap (λ (s : State). s.next) of.2 in omega (arith, same)
      | inr of ↦ next_heap x y step (told_reply reply) of.1
    ]

-- numbers rise
pub next_run : (x : State) (calls : List HeapEntry) (y : State) → Leads IsHeapTurn x calls y → x.next ≤ y.next
next_run x [] y run = let same = ap (λ (s : State). s.next) run in omega (arith, same)
next_run x (call ∷ calls) y run =
    let first = next_call x run.0 call.step call.reply run.1 in
    let later = next_run run.0 calls y run.2 in
    omega (arith, first, later)

module _ (config : Config) (number n : ℕ) (but : Option ℕ) where
  -- a call with this step adopts no hold of n, and hands on nothing from the one slot that may have n
  pub record MayCome (step : NamedStep) : Type 0 where
    pub adopts_another : adopted_by step ≢ Some n
    pub reads_another : (x : State) → heap_refusal x step ≡ None → IsOutBut n but x.world
        → read_by x.world step ≢ Some n

  -- what such calls leave: n is in nothing more, they gave no hold of it, unless its object was found dead, and put it
  -- into no slot
  pub record Went (past calls : List HeapEntry) : Type 0 where
    pub free : IsFree n but (heap_replayed config number (past ++ calls))
    pub there : has (numbers_of (heap_replayed config number (past ++ calls))) n ≡ true
    pub put : PutInNoSlot n calls
    pub given : (tally (minted calls) n ≡ 0) ⊎ WasFoundDead config number (past ++ calls) n

  module _ (past : List HeapEntry) (x : State) (run : IsHeapRun config number past x)
      (free : IsFree n but (heap_replayed config number past)) (old : n < x.next) (call : HeapEntry) (y : State)
      (turn : IsHeapTurn x call.step call.reply y) where
    -- one call, where what it hands on isn't n
    accepted : read_by x.world call.step ≢ Some n → adopted_by call.step ≢ Some n
        → HeapAccepts x call.step (told_reply call.reply) y
        → IsFree n but (heap_replayed config number (past ++ call ∷ [])) × (put_in_slot call.reply ≢ Some n)
        × ((has (minted_by call.step call.reply) n ≡ false) ⊎ WasFoundDead config number past n)
    accepted other not_adopted accepts =
        let w : World = heap_replayed config number past in
        let known = run_known config number past x run in
        let same : x.world.heap.slots ≡ w.heap.slots = ap (λ (v : World). v.heap.slots) known.1.0.agrees in
        let put : put_in_slot call.reply ≢ Some n =
        put_told n call.reply
        (put_other n x y (none_under n known.0 w x known.1.0.agrees free.objects) old call.step (told_reply call.reply)
        other not_adopted accepts) in
        let stored : stored_by w call.step ≢ Some n =
        stored_read n w call.step (λ is. other (read_same w x.world same call.step ∙ is)) in
        let last : IsHeapRun config number (past ++ call ∷ []) y =
        one_on IsCall (first_state_of config number) past x y call run turn in (
          subst (IsFree n but) (sym (replayed_last _ past call))
              (free_then n but w x.world.heap.no call.step call.reply turn.gives put stored free),
          put,
          elim (cases_Bool (has (minted_by call.step call.reply) n)) [
            | inl gives ↦
                inr (minted_of_death config number n past x y call.step call.reply turn other
                (given_of_death config number n past x y call.step call.reply turn other
                (given_after_mark config number past [] call y last)) gives)
            | inr gives_none ↦ inl gives_none
          ],
        )

    one : MayCome call.step
        → IsFree n but (heap_replayed config number (past ++ call ∷ [])) × (put_in_slot call.reply ≢ Some n)
        × ((has (minted_by call.step call.reply) n ≡ false) ⊎ WasFoundDead config number past n)
    one may =
        elim (heap_kind x y call.step (told_reply call.reply) turn.row) [
          | inl of ↦ (
            subst (IsFree n but)
                (sym (replayed_last _ past call
                ∙ ap (λ (r : Reply). after_heap (heap_replayed config number past) call.step r) of.1
                ∙ heap_refused (heap_replayed config number past) call.step of.0)) free,
            refused_put n of.0 call.reply of.1,
            inl (refused_gives n call.step of.0 call.reply of.1),
          )
          | inr of ↦
              accepted (may.reads_another x of.0 (out_here config number n but past x run free.slots))
              may.adopts_another of.1
        ]

  -- some calls
  pub goes : (past : List HeapEntry) (x : State) (calls : List HeapEntry) (y : State) → IsHeapRun config number past x
      → Leads IsHeapTurn x calls y → AllByRecursion (λ call. MayCome call.step) calls
      → IsFree n but (heap_replayed config number past)
      → has (numbers_of (heap_replayed config number past)) n ≡ true → n < x.next → Went past calls
  goes past x [] y run leads may free there old = record {
    free = subst (λ (es : List HeapEntry). IsFree n but (heap_replayed config number es)) (sym (append-nil past)) free;
    there = subst (λ (es : List HeapEntry). has (numbers_of (heap_replayed config number es)) n ≡ true)
        (sym (append-nil past)) there;
    put = tt;
    given = inl refl;
  }
  goes past x (call ∷ calls) y run leads may free there old =
      let first = one past x run free old call leads.0 leads.1 may.0 in
      let grows = next_call x leads.0 call.step call.reply leads.1 in
      let more : has (numbers_of (heap_replayed config number (past ++ call ∷ []))) n ≡ true =
      subst (λ (w : World). has (numbers_of w) n ≡ true) (sym (replayed_last _ past call))
      (made_then n (heap_replayed config number past) call.step (told_reply call.reply) there) in
      let later = goes (past ++ call ∷ []) leads.0 calls y
      (one_on IsCall (first_state_of config number) past x leads.0 call run leads.1) leads.2 may.1 first.0 more
      (omega (arith, old, grows)) in
      let whole : (past ++ call ∷ []) ++ calls ≡ past ++ call ∷ calls = append_assoc past (call ∷ []) calls in
      record {
        free = subst (λ (es : List HeapEntry). IsFree n but (heap_replayed config number es)) whole later.free;
        there = subst (λ (es : List HeapEntry). has (numbers_of (heap_replayed config number es)) n ≡ true) whole
            later.there;
        put = (first.1, later.put);
        given = elim first.2 [
          | inr dead ↦ inr (dead.0, shown_more config number past (call ∷ calls) dead.0 n dead.1)
          | inl gives_none ↦
              elim later.given [
                | inr dead ↦
                    inr (dead.0, subst (λ (es : List HeapEntry). HeapMarkEnded config number es dead.0 n) whole dead.1)
                | inl none ↦
                    let own = tally-lacks (minted_by call.step call.reply) n gives_none in
                    let all = tally-append (minted_by call.step call.reply) (minted calls) n in
                    inl (omega (arith, own, all, none))
              ]
        ];
      }

-- ---- what is kept apart

-- it has a number below the next
kept_old : (config : Config) (number n : ℕ) (past : List HeapEntry) (x : State) → IsHeapRun config number past x
    → has (numbers_of (heap_replayed config number past)) n ≡ true → n < x.next
kept_old config number n past x run there =
    let known = run_known config number past x run in known.1.0.below n there

out_of_all : (config : Config) (number n : ℕ) (past : List HeapEntry) → IsNowhere config number past n
    → IsOutBut n None (heap_replayed config number past)
out_of_all config number n past nowhere = record {
  each = λ i elsewhere.
      subst (λ k. slice_index_or (heap_replayed config number past).heap.slots k None ≢ Some n) (omega arith)
      (nowhere.in_no_slot 0 i);
}

any_may_come : (config : Config) (number n : ℕ) (calls : List HeapEntry) → AdoptNone n calls
    → AllByRecursion (λ call. MayCome config number n None call.step) calls
any_may_come config number n [] none = tt
any_may_come config number n (call ∷ calls) none = (
  record {
    adopts_another = none.0;
    reads_another = λ x passes out. unread n x.world out call.step;
  },
  any_may_come config number n calls none.1,
)

-- it stays so, unless a call adopts a hold of it
pub stays_apart : (config : Config) (number n : ℕ) (front back : List HeapEntry) (last : State)
    → IsHeapRun config number (front ++ back) last → IsKeptApart config number front n → AdoptNone n back
    → PutInNoSlot n back × IsKeptApart config number (front ++ back) n
stays_apart config number n front back last run kept none =
    let parts = leads_cut IsHeapTurn front back (first_state_of config number) last run in
    let there : has (numbers_of (heap_replayed config number front)) n ≡ true =
    sym (is_there-has (heap_replayed config number front).heap.objects n) ∙ kept.is_made in
    let went = goes config number n None front parts.0 back last parts.1 parts.2
    (any_may_come config number n back none)
    (record {
      slots = out_of_all config number n front kept.nowhere;
      objects = record { each = kept.nowhere.in_no_object };
    }) there (kept_old config number n front parts.0 parts.1 there) in (
      went.put,
      record {
        is_made = is_there-has (heap_replayed config number (front ++ back)).heap.objects n ∙ went.there;
        nowhere = record {
          in_no_slot = λ m s. went.free.slots.each (16 * m + s) tt;
          in_no_object = went.free.objects.each;
        };
        once_or_dead = λ twice. elim went.given [
          | inr dead ↦ dead
          | inl none_given ↦
              let all = ap (λ ns. tally ns n) (minted-append front back) in
              let both = tally-append (minted front) (minted back) n in
              let dead = kept.once_or_dead (omega (arith, all, both, twice, none_given)) in
              (dead.0, shown_more config number front back dead.0 n dead.1)
        ];
      },
    )

-- and each notice of it that a call gives behind such calls is of a death
pub kept_given : (config : Config) (number n : ℕ) (front between back : List HeapEntry) (call : HeapEntry)
    (last : State) → IsHeapRun config number ((front ++ between) ++ call ∷ back) last
    → IsKeptApart config number front n → AdoptNone n between
    → AllByRecursion (λ notice. notice.hold.object ≡ n → IsOfDeath config number (front ++ between) notice)
    (notices_given call.step call.reply)
kept_given config number n front between back call last run kept none =
    let past : List HeapEntry = front ++ between in
    let parts = leads_cut IsHeapTurn past (call ∷ back) (first_state_of config number) last run in
    let stays = stays_apart config number n front between parts.0 parts.1 kept none in
    let out : IsOutBut n None (heap_replayed config number past) = out_of_all config number n past stays.1.nowhere in
    given_of_death config number n past parts.0 parts.2.0 call.step call.reply parts.2.1
    (unread n parts.0.world (out_here config number n None past parts.0 parts.1 out) call.step)
    (given_after_mark config number past back call last run)
