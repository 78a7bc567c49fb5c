-- What a cleaner's thread runs of what is registered apart: two holds of it came back, and the cleaner had but one.
use Rattle.ref_share.proofs.Common.{arith, Err, nat_eq, false≢true, eq-eqb, ◌≡◌, ◌≢◌, ℕ, zero, suc, ◌≤◌, true, ◌==◌}
use Rattle.ref_share.proofs.Common.{List, [], ◌∷◌}
use Rattle.ref_share.proofs.Common.{◌++◌, Option, Some, None, Ok, inl, inr, refl, sym, ap, ◌∙◌, subst, AllByRecursion}
use Rattle.ref_share.proofs.Common.{cases_Bool, slice_get, append_assoc, map, State, NamedStep, Config, HoldName}
use Rattle.ref_share.proofs.Common.{HeldNotice, Leads, calls_by, HeapAnswer, IsHeapTurn, HeapEntry}
use Rattle.ref_share.proofs.Common.{IsHeapRun, first_state_of, HeapMarkEnded, HeapView, heap_view}
use Rattle.ref_share.proofs.Common.{IsHeapSeat, notices_given, notices_of_hand, told_notices, tally, has, new_registry}
use Rattle.ref_share.proofs.Common.{QueueView, CleanView, CleanEntry, clean_view, HasGone, Round, all_of, takes_in}
use Rattle.std.proofs.lemmas.Bool.{eqb-true}
use Rattle.ref_base.proofs.HoldCounts.{tally-append}
use Rattle.ref_base.proofs.HasLaws.{has-single}
use Rattle.ref_turn.proofs.Logs.{leads_cut}
use Rattle.ref_turn.specs.declared.history.Entry.{Entry}
use Rattle.ref_queue.specs.CleanTables.{job_of, Changes}
use Rattle.ref_share.specs.ApartHistories.{PutInNoSlot, IsApart, IsOfDeath, RegistersOwn, RegisterOwn, WasFoundDead}
use Rattle.ref_share.specs.CleanLoops.{releases_in, released, job_released}
use Rattle.ref_share.specs.CleanMachines.{IsCleanTurn}
use Rattle.ref_share.specs.CleanSeats.{SharedCleaner, CleanSeat, IsCleanSeat, Jobs}
use Rattle.ref_share.specs.HeapHistories.{minted, minted_by, spent, spent_by}
use Rattle.ref_share.specs.HeapSeats.{SharedHeap, HeapSeat}
use Rattle.ref_share.specs.declared.clean_machine.CleanStep.{CleanStep}
use Rattle.ref_share.specs.declared.clean_machine.CleanReply.{CleanReply}
use Rattle.ref_share.proofs.ApartRuns.{apart_given, minted-append, tally-lacks, no_hold, out_later, out_here, read_by}
use Rattle.ref_share.proofs.ApartRuns.{unread}
use Rattle.ref_share.proofs.HandedNotices.{references_told, some_are_told}
use Rattle.ref_share.proofs.HeapReplays.{shown_more}
use Rattle.ref_share.proofs.HeldRuns.{held_is_minted}
use Rattle.ref_base.specs.declared.heap_step.HeapStep.TheVariants as heap
use Rattle.ref_world.specs.declared.heap_machine.HeapReply.TheVariants as replies
use Rattle.ref_share.specs.declared.clean_machine.CleanStep.TheVariants as steps
use Rattle.ref_share.specs.declared.clean_machine.CleanReply.TheVariants as answers

-- ---- what is given of what is apart

module _ (config : Config) (number n : ℕ) (past : List HeapEntry) where
  -- where each notice of n is of a death, and one is of n
  one_of_death : (ns : List HeldNotice)
      → AllByRecursion (λ notice. notice.hold.object ≡ n → IsOfDeath config number past notice) ns
      → has (map (λ notice. notice.hold.object) ns) n ≡ true → WasFoundDead config number past n
  one_of_death [] all there = absurd (false≢true there)
  one_of_death (notice ∷ ns) all there =
      elim (cases_Bool (notice.hold.object == n)) [
        | inl same ↦
            let is = eqb-true notice.hold.object n same in
            let death = all.0 is in
            (death.0, subst (HeapMarkEnded config number past death.0) is death.3)
        | inr other ↦ one_of_death ns all.1 (simp other at there)
      ]

  -- so where a call gives a hold of n, and hands on no slot's
  pub minted_of_death : (x y : State) (step : NamedStep) (reply : HeapAnswer) → IsHeapTurn x step reply y
      → read_by x.world step ≢ Some n
      → AllByRecursion (λ notice. notice.hold.object ≡ n → IsOfDeath config number past notice)
      (notices_given step reply) → has (minted_by step reply) n ≡ true → WasFoundDead config number past n
  minted_of_death x y step (replies.Told reply) turn other all there = absurd (false≢true there)
  minted_of_death x y step (replies.Back fault hold) turn other all there = absurd (false≢true there)
  minted_of_death x y (heap.Unhook m s) (replies.Notice notice) turn other all there =
      one_of_death (notice ∷ []) all there
  minted_of_death x y (heap.Hand k) (replies.Notice notice) turn other all there =
      one_of_death (notice ∷ []) all there
  minted_of_death x y step (replies.Notice notice) turn other all there = absurd turn.gives
  minted_of_death x y (heap.Hold m s) (replies.Held hold) turn other all there =
      absurd (no_hold n x y m s hold other turn (has-single hold.object n there))
  minted_of_death x y step (replies.Held hold) turn other all there = absurd turn.gives
  minted_of_death x y (heap.Hands k max batch) (replies.Handed reply after) turn other all there =
      let ns = notices_of_hand (heap.Hands k max batch) (replies.Handed reply after) in
      let same = references_told ns (told_notices reply)
      (some_are_told x.world.heap.no k max batch (replies.Handed reply after) turn.gives) in
      one_of_death ns all (subst (λ (ks : List ℕ). has ks n ≡ true) (sym same) there)
  minted_of_death x y step (replies.Handed reply after) turn other all there = absurd turn.gives

-- the first of some calls that gives a hold of n
first_mint : (n : ℕ) (calls : List HeapEntry) → 1 ≤ tally (minted calls) n
    → (mid : List HeapEntry) × (call : HeapEntry) × (rest : List HeapEntry) × (calls ≡ mid ++ call ∷ rest)
    × (has (minted_by call.step call.reply) n ≡ true)
first_mint n [] some = absurd (omega (arith, some))
first_mint n (call ∷ calls) some =
    elim (cases_Bool (has (minted_by call.step call.reply) n)) [
      | inl here ↦ ([], call, calls, refl, here)
      | inr not_here ↦
          let all = tally-append (minted_by call.step call.reply) (minted calls) n in
          let none = tally-lacks (minted_by call.step call.reply) n not_here in
          let next = first_mint n calls (omega (arith, some, all, none)) in
          (call ∷ next.0, next.1, next.2, ap (λ es. call ∷ es) next.3, next.4)
    ]

others_front : (n : ℕ) (front back : List HeapEntry) → PutInNoSlot n (front ++ back) → PutInNoSlot n front
others_front n [] back others = tt
others_front n (call ∷ front) back others = (others.0, others_front n front back others.1)

-- where two holds came back of what is apart, a mark's end found its referent dead
pub twice_spent : (config : Config) (number n : ℕ) (front back : List HeapEntry) (last : State)
    → IsHeapRun config number (front ++ back) last → IsApart config number front n → PutInNoSlot n back
    → 2 ≤ tally (spent (front ++ back)) n → WasFoundDead config number (front ++ back) n
twice_spent config number n front back last run apart others twice =
    let held = held_is_minted config number (front ++ back) last run n in
    let all = ap (λ ns. tally ns n) (minted-append front back) in
    let both = tally-append (minted front) (minted back) n in
    let found = first_mint n back (omega (arith, held, all, both, twice, apart.held_once)) in
    let past : List HeapEntry = front ++ found.0 in
    let whole : past ++ found.1 ∷ found.2 ≡ front ++ back =
    append_assoc front found.0 (found.1 ∷ found.2) ∙ ap (λ es. front ++ es) (sym found.3) in
    let through = subst (λ (es : List HeapEntry). IsHeapRun config number es last) (sym whole) run in
    let between = others_front n found.0 (found.1 ∷ found.2) (subst (PutInNoSlot n) found.3 others) in
    let parts = leads_cut IsHeapTurn past (found.1 ∷ found.2) (first_state_of config number) last through in
    let out = out_later config number n front found.0 parts.0 parts.1 apart between in
    let dead = minted_of_death config number n past parts.0 parts.2.0 found.1.step found.1.reply parts.2.1
    (unread n parts.0.world (out_here config number n None past parts.0 parts.1 out) found.1.step)
    (apart_given config number n front found.0 found.2 found.1 last through apart between) found.4 in (
      dead.0,
      subst (λ (es : List HeapEntry). HeapMarkEnded config number es dead.0 n) whole
          (shown_more config number past (found.1 ∷ found.2) dead.0 n dead.1),
    )

-- ---- what a thread gives back

spent-append : (front back : List HeapEntry) → spent (front ++ back) ≡ spent front ++ spent back
spent-append [] back = refl
spent-append (call ∷ front) back = search (append_assoc, spent-append front back)

-- a seat's own calls give no more back than all
spent_by_seat : (k n : ℕ) (calls : List HeapEntry) → tally (spent (calls_by k calls)) n ≤ tally (spent calls) n
spent_by_seat k n [] = omega arith
spent_by_seat k n (call ∷ calls) =
    let less = spent_by_seat k n calls in
    let all = tally-append (spent_by call.step call.reply) (spent calls) n in
    let own = tally-append (spent_by call.step call.reply) (spent (calls_by k calls)) n in
    elim (cases_Bool (call.by == k)) [
      | inl same ↦ rw same (omega (arith, less, all, own))
      | inr other ↦ rw other (omega (arith, less, all, own))
    ]

module _ {J : Type 0} where
  -- nor one round more than all rounds
  spent_in_round : (v : HeapView) (rs : List (Round J)) (r : Round J) (i n : ℕ) → slice_get rs i ≡ Some r
      → tally (spent (releases_in v r)) n ≤ tally (spent (all_of (releases_in v) rs)) n
  spent_in_round v [] r i n found = absurd cc
  spent_in_round v (s ∷ rs) r zero n found =
      let is : s ≡ r = cc in
      let all = ap (λ ns. tally ns n) (spent-append (releases_in v s) (all_of (releases_in v) rs)) in
      let both = tally-append (spent (releases_in v s)) (spent (all_of (releases_in v) rs)) n in
      let same = ap (λ (t : Round J). tally (spent (releases_in v t)) n) is in
      omega (arith, all, both, same)
  spent_in_round v (s ∷ rs) r (suc i) n found =
      let less = spent_in_round v rs r i n found in
      let all = ap (λ ns. tally ns n) (spent-append (releases_in v s) (all_of (releases_in v) rs)) in
      let both = tally-append (spent (releases_in v s)) (spent (all_of (releases_in v) rs)) n in
      omega (arith, less, all, both)

  -- a round with a job gives two holds back
  two_spent : (v : HeapView) (r : Round J) (hold : HoldName) (job : J) → r.taken ≡ Some (hold, job)
      → hold.object ≡ r.notice.hold.object → tally (spent (releases_in v r)) r.notice.hold.object ≡ 2
  two_spent v r hold job taken same =
      let n : ℕ = r.notice.hold.object in
      let own : (n == n) ≡ true = eq-eqb n n refl in
      let other : (hold.object == n) ≡ true = eq-eqb hold.object n same in
      subst (λ (t : Option (HoldName × J)). tally (spent (released v r.notice.hold ∷ job_released v t)) n ≡ 2)
      (sym taken)
      (rw (own, other) refl)

-- ---- what a cleaner gives out

module _ {J : Type 0} where
  -- each job is kept with a hold of its own reference
  abbrev KeepsOwn : Jobs J → Type 0
  KeepsOwn t = (m : ℕ) (kept : HoldName × J) → job_of t m ≡ Some kept → kept.0.object ≡ m

  -- a take gives a hold of what it asks for
  abbrev TakesOwn : CleanStep HoldName J → CleanReply HoldName J → Type 0
  TakesOwn (steps.Take m) (answers.Taken (Some kept)) = kept.0.object ≡ m
  TakesOwn step reply = Unit {0}

  changes_own : (t u : Jobs J) (m : ℕ) (job : Option (HoldName × J)) → KeepsOwn t
      → ((kept : HoldName × J) → job ≡ Some kept → kept.0.object ≡ m) → Changes t m job u → KeepsOwn u
  changes_own t u m job own new changes k kept left =
      elim (cases_Bool (nat_eq m k)) [
        | inl same ↦
            new kept (sym (simp same at (changes.0 k)) ∙ left) ∙ eqb-true m k same
        | inr other ↦ own k kept (sym (simp other at (changes.0 k)) ∙ left)
      ]

  turn_own : (t u : Jobs J) (step : CleanStep HoldName J) (reply : CleanReply HoldName J) → KeepsOwn t
      → RegistersOwn step → IsCleanTurn t step reply u → KeepsOwn u × TakesOwn step reply
  turn_own t u (steps.Register m hold job) (answers.Registered (Ok _)) own registers turn = (
    changes_own t u m (Some (hold, job)) own
        (λ kept is. let same : (hold, job) ≡ kept = cc in ap (λ k. k.0.object) (sym same) ∙ registers) turn.1,
    tt,
  )
  turn_own t u (steps.Register m hold job) (answers.Registered (Err back)) own registers turn =
      (subst KeepsOwn (sym turn.3) own, tt)
  turn_own t u (steps.Take m) (answers.Taken (Some kept)) own registers turn =
      (changes_own t u m None own (λ other is. absurd cc) turn.1, own m kept (sym turn.0))
  turn_own t u (steps.Take m) (answers.Taken None) own registers turn =
      (changes_own t u m None own (λ other is. absurd cc) turn.1, tt)
  turn_own t u (steps.Has m) (answers.Looked answer) own registers turn = (subst KeepsOwn (sym turn.1) own, tt)
  turn_own t u step reply own registers turn = absurd turn

  run_own : (t u : Jobs J) (calls : List (CleanEntry J)) → Leads IsCleanTurn t calls u → KeepsOwn t
      → RegisterOwn calls → AllByRecursion (λ (call : CleanEntry J). TakesOwn call.step call.reply) calls
  run_own t u [] run own registers = tt
  run_own t u (call ∷ calls) run own registers =
      let next = turn_own t run.0 call.step call.reply own registers.0 run.1 in
      (next.1, run_own run.0 u calls run.2 next.0 registers.1)

all_by_seat : {S R : Type 0} (P : Entry S R → Type 0) (k : ℕ) (calls : List (Entry S R)) → AllByRecursion P calls
    → AllByRecursion P (calls_by k calls)
all_by_seat P k [] all = tt
all_by_seat P k (call ∷ calls) all =
    elim (cases_Bool (call.by == k)) [
      | inl same ↦ rw same (all.0, all_by_seat P k calls all.1)
      | inr other ↦ rw other (all_by_seat P k calls all.1)
    ]

pub all_behind : {X : Type 0} (P : X → Type 0) (xs ys : List X) → AllByRecursion P (xs ++ ys) → AllByRecursion P ys
all_behind P [] ys all = all
all_behind P (x ∷ xs) ys all = all_behind P xs ys all.1

module _ {J : Type 0} (c : CleanView J) where
  -- the take of one of the rounds
  take_of_round : (rs : List (Round J)) (r : Round J) (i : ℕ) → slice_get rs i ≡ Some r
      → AllByRecursion (λ (call : CleanEntry J). TakesOwn call.step call.reply) (all_of (takes_in c) rs)
      → TakesOwn (steps.Take r.notice.hold.object) (answers.Taken r.taken)
  take_of_round [] r i found all = absurd cc
  take_of_round (s ∷ rs) r zero found all =
      let is : s ≡ r = cc in
      subst (λ (t : Round J). TakesOwn (steps.Take t.notice.hold.object) (answers.Taken t.taken)) is all.0
  take_of_round (s ∷ rs) r (suc i) found all = take_of_round rs r i found all.1

-- ---- both

module _ {J A : Type 0} (heap : SharedHeap A) (seat : HeapSeat) (cleaner : SharedCleaner J A) (own : CleanSeat J)
    (q last : QueueView) (v : HeapView) (c : CleanView J) (rs : List (Round J)) (r : Round J) (i : ℕ)
    (hold : HoldName) (job : J) where
  -- where a job was taken in a round, two holds of its reference came back
  pub spent_as_it_ran : IsHeapSeat heap seat → IsCleanSeat cleaner own → RegisterOwn (clean_view own).seen
      → HasGone q v c rs last (heap_view seat) (clean_view own) → slice_get rs i ≡ Some r
      → r.taken ≡ Some (hold, job) → 2 ≤ tally (spent (heap_view seat).seen) r.notice.hold.object
  spent_as_it_ran is_seat is_own registers gone found taken =
      let n : ℕ = r.notice.hold.object in
      let w : HeapView = heap_view seat in
      let d : CleanView J = clean_view own in
      let takes = run_own new_registry is_own.history.last d.seen is_own.history.run (λ m kept none. absurd cc)
      registers in
      let own_takes = all_by_seat (λ (call : CleanEntry J). TakesOwn call.step call.reply) d.number d.seen takes in
      let mine = subst (AllByRecursion (λ (call : CleanEntry J). TakesOwn call.step call.reply))
      (is_own.history.own ∙ gone.2.2) own_takes in
      let take = take_of_round c rs r i found
      (all_behind (λ (call : CleanEntry J). TakesOwn call.step call.reply) c.mine (all_of (takes_in c) rs) mine) in
      let same : hold.object ≡ n =
      subst (λ (t : Option (HoldName × J)). TakesOwn (steps.Take n) (answers.Taken t)) taken take in
      let two = two_spent v r hold job taken same in
      let in_round = spent_in_round v rs r i n found in
      let behind = ap (λ ns. tally ns n) (spent-append v.mine (all_of (releases_in v) rs)) in
      let both = tally-append (spent v.mine) (spent (all_of (releases_in v) rs)) n in
      let mine_are = ap (λ (es : List HeapEntry). tally (spent es) n) (is_seat.history.own ∙ gone.1.2) in
      let fewer = spent_by_seat w.number n w.seen in
      omega (arith, two, in_round, behind, both, mine_are, fewer)

  -- a job that was taken in a round, of what was apart from some calls on, is of an object that a mark's end found dead
  pub dead_as_it_ran : IsHeapSeat heap seat → IsCleanSeat cleaner own → RegisterOwn (clean_view own).seen
      → HasGone q v c rs last (heap_view seat) (clean_view own) → slice_get rs i ≡ Some r
      → r.taken ≡ Some (hold, job) → (front back : List HeapEntry) → (heap_view seat).seen ≡ front ++ back
      → IsApart heap.frame.config heap.frame.heap_no front r.notice.hold.object
      → PutInNoSlot r.notice.hold.object back
      → (cycle : ℕ)
      × HeapMarkEnded heap.frame.config heap.frame.heap_no (heap_view seat).seen cycle r.notice.hold.object
  dead_as_it_ran is_seat is_own registers gone found taken front back parts apart others =
      let n : ℕ = r.notice.hold.object in
      let two = spent_as_it_ran is_seat is_own registers gone found taken in
      let twice : 2 ≤ tally (spent (front ++ back)) n =
      subst (λ (es : List HeapEntry). 2 ≤ tally (spent es) n) parts two in
      let dead = twice_spent heap.frame.config heap.frame.heap_no n front back is_seat.history.last
      (subst (λ (es : List HeapEntry). IsHeapRun heap.frame.config heap.frame.heap_no es is_seat.history.last) parts
      is_seat.history.run) apart others twice in (
        dead.0,
        subst (λ (es : List HeapEntry). HeapMarkEnded heap.frame.config heap.frame.heap_no es dead.0 n) (sym parts)
            dead.1,
      )
