-- The history of a heap: what is registered apart is in no slot, and of what is in none only a cycle gives notices.
use Rattle.ref_share.proofs.Common.{arith, ◌≡◌, ◌≢◌, ℕ, zero, suc, ◌+◌, false, List, [], ◌∷◌, ◌++◌, Option, Some}
use Rattle.ref_share.proofs.Common.{None, inl, inr, refl, sym, ap, ◌∙◌, subst, slice_index_or, slice_set}
use Rattle.ref_share.proofs.Common.{AllByRecursion, State, NamedStep, World, Config, Fault, Reply, HoldName, HeldNotice}
use Rattle.ref_share.proofs.Common.{Pending, Leads, entry, told_reply, HeapAnswer, IsHeapRow, IsHeapTurn, HeapEntry}
use Rattle.ref_share.proofs.Common.{IsHeapRun, first_state_of, heap_replayed, HeapMarkEnded, Cycle, as_notice, map, has}
use Rattle.ref_share.proofs.Common.{notices_given, notices_of_hand, told_notices, tally, makes_phantom, append_assoc}
use Rattle.ref_share.proofs.Common.{pending_of}
use Rattle.std.proofs.Common.{◌*◌}
use Rattle.ref_base.specs.CollectorRows.{Unhooks, Holds}
use Rattle.ref_base.specs.Heaps.{slot_at, registered_in}
use Rattle.ref_base.specs.CollectorRows.{reference_of}
use Rattle.ref_base.specs.Replay.{after_heap}
use Rattle.ref_base.specs.Worlds.{Notice, notice_from, first_world_of}
use Rattle.ref_base.specs.declared.cause.Cause.{Cause}
use Rattle.ref_base.proofs.HeapTurns.{heap_kind}
use Rattle.ref_base.proofs.HoldCounts.{tally-append}
use Rattle.ref_base.proofs.Places.{same_at, set_each}
use Rattle.ref_turn.proofs.Logs.{leads_cut}
use Rattle.ref_share.specs.ApartHistories.{PutInNoSlot, AreOfOthers, IsApart, AreOfOneApart, IsOfDeath}
use Rattle.ref_share.specs.HeapHistories.{minted, minted_by}
use Rattle.ref_share.specs.HeapTraces.{heap_replayed_from}
use Rattle.ref_share.proofs.HandedNotices.{all_given, GivesFront, one_is_told, some_are_told, one_of_front}
use Rattle.ref_share.proofs.HandedNotices.{some_of_front}
use Rattle.ref_share.proofs.HeapReplays.{run_known}
use Rattle.ref_share.proofs.MarkedRuns.{given_after_mark}
use Rattle.ref_share.proofs.SlotRuns.{OfSlots, same_slots, slots_then}
use Rattle.ref_base.specs.declared.heap_step.HeapStep.TheVariants as heap
use Rattle.ref_base.specs.declared.plain_step.PlainStep.TheVariants as plain
use Rattle.ref_base.specs.declared.reply.Reply.TheVariants as told
use Rattle.ref_world.specs.declared.heap_machine.HeapReply.TheVariants as replies

-- ---- in no slot but one

-- the place is another than this one, if there is one
abbrev pub IsElsewhere : Option ℕ → ℕ → Type 0
IsElsewhere None i = Unit {0}
IsElsewhere (Some place) i = i ≢ place

-- a slot has something else than n, unless it is at this place
abbrev pub HasNot : ℕ → Option ℕ → ℕ → Option ℕ → Type 0
HasNot n but i value = IsElsewhere but i → value ≢ Some n

pub empty_has_not : (n : ℕ) (but : Option ℕ) (i : ℕ) → HasNot n but i None
empty_has_not n but i = λ elsewhere is. absurd cc

-- n is in no slot of the world but one
abbrev pub IsOutBut : ℕ → Option ℕ → World → Type 0
IsOutBut n but w = OfSlots (HasNot n but) (empty_has_not n but) w

pub replayed-append : (w : World) (front back : List HeapEntry)
    → heap_replayed_from w (front ++ back) ≡ heap_replayed_from (heap_replayed_from w front) back
replayed-append w [] back = refl
replayed-append w (call ∷ front) back =
    replayed-append (after_heap w call.step (told_reply call.reply)) front back

module _ (n : ℕ) (but : Option ℕ) where
  -- calls that put it into none leave it so
  pub still_out : (w : World) (x y : State) (calls : List HeapEntry) → Leads IsHeapTurn x calls y
      → PutInNoSlot n calls → IsOutBut n but w → IsOutBut n but (heap_replayed_from w calls)
  still_out w x y [] run others out = out
  still_out w x y (call ∷ calls) run others out =
      still_out (after_heap w call.step (told_reply call.reply)) run.0 y calls run.2 others.1
      (slots_then (HasNot n but) (empty_has_not n but) w out x.world.heap.no call.step call.reply run.1.gives
      (λ i fills k put elsewhere same. others.0 (put ∙ same)))

  -- and so behind others
  then_out : (w : World) (front back : List HeapEntry)
      → IsOutBut n but (heap_replayed_from (heap_replayed_from w front) back)
      → IsOutBut n but (heap_replayed_from w (front ++ back))
  then_out w front back out = subst (IsOutBut n but) (sym (replayed-append w front back)) out

-- at first it is in none
pub first_out : (n : ℕ) (config : Config) (number : ℕ) → IsOutBut n None (first_world_of config number)
first_out n config number = record {
  each = λ i elsewhere.
      subst (λ (value : Option ℕ). value ≢ Some n) (sym (same_at None (16 * config.mutators) i)) (λ is. absurd cc);
}

-- what is in none is in none but one
pub out_but : (n place : ℕ) (w : World) → IsOutBut n None w → IsOutBut n (Some place) w
out_but n place w out = record { each = λ i elsewhere. out.each i tt }

-- what is in none but one is in none where that one is emptied
pub emptied : (n : ℕ) (slots : List (Option ℕ)) (place : ℕ)
    → ((i : ℕ) → i ≢ place → slice_index_or slots i None ≢ Some n)
    → (i : ℕ) → slice_index_or (slice_set slots place None) i None ≢ Some n
emptied n [] place out i = λ is. absurd cc
emptied n (slot ∷ slots) zero out zero = λ is. absurd cc
emptied n (slot ∷ slots) zero out (suc i) = out (suc i) (λ is. absurd (omega (arith, is)))
emptied n (slot ∷ slots) (suc place) out zero = out zero (λ is. absurd (omega (arith, is)))
emptied n (slot ∷ slots) (suc place) out (suc i) =
    emptied n slots place (λ j elsewhere. out (suc j) (λ is. elsewhere (omega (arith, is)))) i

-- ---- what is registered apart

pub minted-append : (front back : List HeapEntry) → minted (front ++ back) ≡ minted front ++ minted back
minted-append [] back = refl
minted-append (call ∷ front) back = search (append_assoc, minted-append front back)

pub tally-lacks : (ns : List ℕ) (n : ℕ) → has ns n ≡ false → tally ns n ≡ 0
tally-lacks [] n lacks = refl
tally-lacks (m ∷ ns) n lacks = grind (arith, tally-lacks ns n)

pub tally-own : (k n : ℕ) → k ≡ n → tally (k ∷ []) n ≡ 1
tally-own k n same = grind arith

-- calls of others give no hold of it
none_minted : (n : ℕ) (calls : List HeapEntry)
    → AllByRecursion (λ call. has (minted_by call.step call.reply) n ≡ false) calls → tally (minted calls) n ≡ 0
none_minted n [] others = refl
none_minted n (call ∷ calls) others =
    let first = tally-lacks (minted_by call.step call.reply) n others.0 in
    let later = none_minted n calls others.1 in
    let all = tally-append (minted_by call.step call.reply) (minted calls) n in
    omega (arith, first, later, all)

module _ (config : Config) (number queue m src dst n : ℕ) (hold : HoldName) (by : ℕ) where
  abbrev made : HeapEntry
  made = entry by (heap.Plain (makes_phantom queue m src dst)) (replies.Told (told.Object n))

  abbrev held : HeapEntry
  held = entry by (heap.Hold m dst) (replies.Held hold)

  abbrev dropped : HeapEntry
  dropped = entry by (heap.Plain (plain.Drop m dst)) (replies.Told told.Done)

  abbrev place : ℕ
  place = 16 * m + dst

  module _ (before between behind : List HeapEntry) where
    abbrev all_calls : List HeapEntry
    all_calls = before ++ made ∷ (between ++ held ∷ (behind ++ dropped ∷ []))

    -- the reference is in its slot alone, from which it is dropped
    leaves_its_slot : (last : State) → IsHeapRun config number all_calls last → PutInNoSlot n before
        → PutInNoSlot n between → PutInNoSlot n behind → IsOutBut n None (heap_replayed config number all_calls)
    leaves_its_slot last run first then_none later =
        let w0 : World = first_world_of config number in
        let to_made = leads_cut IsHeapTurn before (made ∷ (between ++ held ∷ (behind ++ dropped ∷ [])))
        (first_state_of config number) last run in
        let to_held = leads_cut IsHeapTurn between (held ∷ (behind ++ dropped ∷ [])) to_made.2.0 last to_made.2.2 in
        let to_dropped = leads_cut IsHeapTurn behind (dropped ∷ []) to_held.2.0 last to_held.2.2 in
        let w1 : World = heap_replayed_from w0 before in
        let out1 = still_out n None w0 (first_state_of config number) to_made.0 before to_made.1 first
        (first_out n config number) in
        let w2 : World = after_heap w1 made.step (told_reply made.reply) in
        let out2 : IsOutBut n (Some place) w2 = record {
          each = set_each (HasNot n (Some place)) w1.heap.slots place (Some n) (λ _. None)
              (λ elsewhere. absurd (elsewhere refl)) (out_but n place w1 out1).each;
        } in
        let w3 : World = heap_replayed_from w2 between in
        let out3 = still_out n (Some place) w2 to_made.2.0 to_held.0 between to_held.1 then_none out2 in
        let w4 : World = after_heap w3 held.step (told_reply held.reply) in
        let out4 : IsOutBut n (Some place) w4 = record { each = out3.each } in
        let w5 : World = heap_replayed_from w4 behind in
        let out5 = still_out n (Some place) w4 to_held.2.0 to_dropped.0 behind to_dropped.1 later out4 in
        let w6 : World = after_heap w5 dropped.step (told_reply dropped.reply) in
        let out6 : IsOutBut n None w6 = record {
          each = λ i elsewhere. emptied n w5.heap.slots place out5.each i;
        } in
        then_out n None w0 before (made ∷ (between ++ held ∷ (behind ++ dropped ∷ [])))
        (then_out n None w2 between (held ∷ (behind ++ dropped ∷ []))
        (then_out n None w4 behind (dropped ∷ []) out6))

    -- and one hold of it was given
    held_once : hold.object ≡ n → AreOfOthers n before → AreOfOthers n between → AreOfOthers n behind
        → tally (minted all_calls) n ≡ 1
    held_once of_it first then_none later =
        let one = tally-own hold.object n of_it in
        omega (
          arith,
          one,
          none_minted n before first.1,
          none_minted n between then_none.1,
          none_minted n behind later.1,
          ap (λ ns. tally ns n) (minted-append before (made ∷ (between ++ held ∷ (behind ++ dropped ∷ [])))),
          tally-append (minted before) (minted (between ++ held ∷ (behind ++ dropped ∷ []))) n,
          ap (λ ns. tally ns n) (minted-append between (held ∷ (behind ++ dropped ∷ []))),
          tally-append (minted between) (minted (held ∷ (behind ++ dropped ∷ []))) n,
          tally-append (hold.object ∷ []) (minted (behind ++ dropped ∷ [])) n,
          ap (λ ns. tally ns n) (minted-append behind (dropped ∷ [])),
          tally-append (minted behind) [] n,
        )

-- what is registered apart is apart
pub is_apart : (config : Config) (number queue m src dst n : ℕ) (calls : List HeapEntry) (last : State)
    → IsHeapRun config number calls last → AreOfOneApart queue m src dst n calls → IsApart config number calls n
is_apart config number queue m src dst n calls last run of =
    subst (λ (es : List HeapEntry). IsApart config number es n) (sym of.calls_are)
    (record {
      in_no_slot = λ k s.
          (leaves_its_slot config number queue m src dst n of.hold of.by of.before of.between of.behind last
          (subst (λ (es : List HeapEntry). IsHeapRun config number es last) of.calls_are run)
          of.others.0.0 of.others.1.0 of.others.2.0).each (16 * k + s) tt;
      held_once = held_once config number queue m src dst n of.hold of.by of.before of.between of.behind of.of_it
          of.others.0 of.others.1 of.others.2;
    })

-- ---- what is in no slot

-- after a history that kept it apart n is in no slot
apart_out : (config : Config) (number n : ℕ) (calls : List HeapEntry) → IsApart config number calls n
    → IsOutBut n None (heap_replayed config number calls)
apart_out config number n calls apart = record {
  each = λ i elsewhere.
      subst (λ k. slice_index_or (heap_replayed config number calls).heap.slots k None ≢ Some n) (omega arith)
      (apart.in_no_slot 0 i);
}

-- nor later, where no call puts it into one
pub out_later : (config : Config) (number n : ℕ) (front between : List HeapEntry) (x : State)
    → IsHeapRun config number (front ++ between) x → IsApart config number front n → PutInNoSlot n between
    → IsOutBut n None (heap_replayed config number (front ++ between))
out_later config number n front between x run apart others =
    let parts = leads_cut IsHeapTurn front between (first_state_of config number) x run in
    then_out n None (first_world_of config number) front between
    (still_out n None (heap_replayed config number front) parts.0 x between parts.2 others
    (apart_out config number n front apart))

-- what a step hands on of a slot's: into another slot, into an object, or as a hold
abbrev pub read_by : World → NamedStep → Option ℕ
read_by w (heap.Plain (plain.Store m s i v)) = slot_at w.heap m v
read_by w (heap.Plain (plain.Refer m strength d s q k)) = slot_at w.heap m s
read_by w (heap.Plain (plain.Copy m d s)) = slot_at w.heap m s
read_by w (heap.Unhook m s) = slot_at w.heap m s
read_by w (heap.Hold m s) = slot_at w.heap m s
read_by w step = None

-- no step hands on what is in no slot
pub unread : (n : ℕ) (w : World) → IsOutBut n None w → (step : NamedStep) → read_by w step ≢ Some n
unread n w out (heap.Plain (plain.Store m s i v)) = out.each (16 * m + v) tt
unread n w out (heap.Plain (plain.Refer m strength d s q k)) = out.each (16 * m + s) tt
unread n w out (heap.Plain (plain.Copy m d s)) = out.each (16 * m + s) tt
unread n w out (heap.Unhook m s) = out.each (16 * m + s) tt
unread n w out (heap.Hold m s) = out.each (16 * m + s) tt
unread n w out step = λ is. absurd cc

-- the collector's slots are those of the replay
pub out_here : (config : Config) (number n : ℕ) (but : Option ℕ) (past : List HeapEntry) (x : State)
    → IsHeapRun config number past x → IsOutBut n but (heap_replayed config number past) → IsOutBut n but x.world
out_here config number n but past x run out =
    let known = run_known config number past x run in
    same_slots (HasNot n but) (empty_has_not n but) (heap_replayed config number past) x.world
    (ap (λ (w : World). w.heap.slots) known.1.0.agrees) out

module _ (n : ℕ) (x y : State) where
  -- so no unhook gives a notice of it
  unhooked_held : (m s : ℕ) (held queue : Option ℕ) (k q : ℕ) (cause : Cause)
      → Unhooks x m s held queue (told.Notice k q cause) y → held ≡ Some k
  unhooked_held m s None queue k q cause row = let no = row.0 in absurd cc
  unhooked_held m s (Some j) None k q cause row = let no = row.0 in absurd cc
  unhooked_held m s (Some j) (Some r) k q cause row = let is = row.0 in cc

  no_unhook : (m s k q : ℕ) (cause : Cause) → slot_at x.world.heap m s ≢ Some n
      → IsHeapRow x (heap.Unhook m s) (told.Notice k q cause) y → k ≢ n
  no_unhook m s k q cause other row is =
      elim (heap_kind x y (heap.Unhook m s) (told.Notice k q cause) row) [
        | inl of ↦ let no = of.1 in absurd cc
        | inr of ↦
            let held : Option ℕ = slot_at x.world.heap m s in
            other
            (unhooked_held m s held (registered_in (reference_of x.world.heap held)) k q cause of.1
            ∙ ap (λ (j : ℕ). Some j) is)
      ]

  -- and no hold of it is given
  held_of : (held : Option ℕ) (k : ℕ) → Holds x held (told.Object k) y → held ≡ Some k
  held_of None k row = absurd row
  held_of (Some j) k row = let is = row.0 in cc

  -- what is held was in the slot
  pub held_is : (m s : ℕ) (hold : HoldName) → IsHeapTurn x (heap.Hold m s) (replies.Held hold) y
      → slot_at x.world.heap m s ≡ Some hold.object
  held_is m s hold turn =
      elim (heap_kind x y (heap.Hold m s) (told.Object hold.object) turn.row) [
        | inl of ↦ let no = of.1 in absurd cc
        | inr of ↦ held_of (slot_at x.world.heap m s) hold.object of.1
      ]

  pub no_hold : (m s : ℕ) (hold : HoldName) → slot_at x.world.heap m s ≢ Some n
      → IsHeapTurn x (heap.Hold m s) (replies.Held hold) y → hold.object ≢ n
  no_hold m s hold other turn is = other (held_is m s hold turn ∙ ap (λ (j : ℕ). Some j) is)

-- ---- what a worker hands on

abbrev IsOfCycle : Notice → Type 0
IsOfCycle notice = (cycle : ℕ) × (worker : ℕ) × (notice.cause ≡ Cycle cycle worker)

of_cycles : (k : ℕ) (ps : List Pending) → AllByRecursion IsOfCycle (map (notice_from k) ps)
of_cycles k [] = tt
of_cycles k (p ∷ ps) = ((p.cycle, k, refl), of_cycles k ps)

-- a refused hand tells no notices, and so a front of none
refused_front : (w : World) (k : ℕ) (reply : Reply) (fault : Fault) → reply ≡ told.Refused fault → GivesFront w k reply
refused_front w k reply fault is = record {
  front = [];
  rest = pending_of w k;
  pending = refl;
  tells = ap told_notices is;
}

one_gives : (a b : State) (k : ℕ) (reply : Reply) → IsHeapRow a (heap.Hand k) reply b → GivesFront a.world k reply
one_gives a b k reply row =
    elim (heap_kind a b (heap.Hand k) reply row) [
      | inl of ↦ refused_front a.world k reply of.0 of.1
      | inr of ↦ one_of_front a b k reply of.1
    ]

some_give : (a b : State) (k max : ℕ) (batch : List HeldNotice) (reply : Reply)
    → IsHeapRow a (heap.Hands k max batch) reply b → GivesFront a.world k reply
some_give a b k max batch reply row =
    elim (heap_kind a b (heap.Hands k max batch) reply row) [
      | inl of ↦ refused_front a.world k reply of.0 of.1
      | inr of ↦ some_of_front a b k max batch reply of.1
    ]

-- what a hand gives is the front of what is pending of the worker, each of which a cycle cleared
front_of_cycles : (w : World) (k : ℕ) (reply : Reply) → GivesFront w k reply
    → AllByRecursion IsOfCycle (told_notices reply)
front_of_cycles w k reply gives = subst (AllByRecursion IsOfCycle) (sym gives.tells) (of_cycles k gives.front)

hand_of_cycles : (x y : State) (step : NamedStep) (reply : HeapAnswer) (k : ℕ) → IsHeapTurn x step reply y
    → map as_notice (notices_of_hand step reply) ≡ told_notices (told_reply reply)
    → ((a : State) → IsHeapRow x step (told_reply reply) a → GivesFront x.world k (told_reply reply))
    → AllByRecursion (λ notice. IsOfCycle (as_notice notice)) (notices_of_hand step reply)
hand_of_cycles x y step reply k turn tells gives =
    all_given IsOfCycle (notices_of_hand step reply)
    (subst (AllByRecursion IsOfCycle) (sym tells) (front_of_cycles x.world k (told_reply reply) (gives y turn.row)))

module _ (config : Config) (number n : ℕ) (past : List HeapEntry) where
  -- what is of a cycle and comes after its mark is of a death
  of_death : (ns : List HeldNotice) → AllByRecursion (λ notice. IsOfCycle (as_notice notice)) ns
      → AllByRecursion (λ notice. (cycle worker : ℕ) → notice.cause ≡ Cycle cycle worker
      → HeapMarkEnded config number past cycle notice.hold.object) ns
      → AllByRecursion (λ notice. notice.hold.object ≡ n → IsOfDeath config number past notice) ns
  of_death [] cycles marked = tt
  of_death (notice ∷ ns) cycles marked = (
    λ is. (cycles.0.0, cycles.0.1, cycles.0.2, marked.0 cycles.0.0 cycles.0.1 cycles.0.2),
    of_death ns cycles.1 marked.1,
  )

  module _ (x y : State) where
    -- of what the step hands on of no slot, each notice that it gives is of a death
    pub given_of_death : (step : NamedStep) (reply : HeapAnswer) → IsHeapTurn x step reply y
        → read_by x.world step ≢ Some n
        → AllByRecursion (λ notice. (cycle worker : ℕ) → notice.cause ≡ Cycle cycle worker
        → HeapMarkEnded config number past cycle notice.hold.object) (notices_given step reply)
        → AllByRecursion (λ notice. notice.hold.object ≡ n → IsOfDeath config number past notice)
        (notices_given step reply)
    given_of_death (heap.Unhook m s) (replies.Notice notice) turn other marked = (
      λ is. absurd (no_unhook n x y m s notice.hold.object notice.queue notice.cause other turn.row is),
      tt,
    )
    given_of_death (heap.Hand k) reply turn other marked =
        of_death (notices_of_hand (heap.Hand k) reply)
        (hand_of_cycles x y (heap.Hand k) reply k turn (one_is_told x.world.heap.no k reply turn.gives)
        (λ a row. one_gives x a k (told_reply reply) row)) marked
    given_of_death (heap.Hands k max batch) reply turn other marked =
        of_death (notices_of_hand (heap.Hands k max batch) reply)
        (hand_of_cycles x y (heap.Hands k max batch) reply k turn
        (some_are_told x.world.heap.no k max batch reply turn.gives)
        (λ a row. some_give x a k max batch (told_reply reply) row)) marked
    given_of_death step reply turn other marked = tt

-- of what is apart, and is put into no slot, each notice that a call gives is of a death, and no hold is given
pub apart_given : (config : Config) (number n : ℕ) (front between back : List HeapEntry) (call : HeapEntry)
    (last : State) → IsHeapRun config number ((front ++ between) ++ call ∷ back) last
    → IsApart config number front n → PutInNoSlot n between
    → AllByRecursion (λ notice. notice.hold.object ≡ n → IsOfDeath config number (front ++ between) notice)
    (notices_given call.step call.reply)
apart_given config number n front between back call last run apart others =
    let past : List HeapEntry = front ++ between in
    let parts = leads_cut IsHeapTurn past (call ∷ back) (first_state_of config number) last run in
    let out = out_later config number n front between parts.0 parts.1 apart others in
    given_of_death config number n past parts.0 parts.2.0 call.step call.reply parts.2.1
    (unread n parts.0.world (out_here config number n None past parts.0 parts.1 out) call.step)
    (given_after_mark config number past back call last run)
