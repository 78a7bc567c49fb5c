-- What `register_apart` registers is kept apart, as its seat has seen it; and so long as no call adopts a hold of it,
-- its job runs in a cleaner's thread once a mark's end found its object dead.
use Rattle.ref_share.proofs.Common.{arith, ◌≡◌, ◌≢◌, ℕ, ◌+◌, ◌≤◌, ◌==◌, true, List, [], ◌∷◌, ◌++◌, length, refl}
use Rattle.ref_share.proofs.Common.{Some, Ok, inl, inr, sym, ap, ◌∙◌, subst, cases_Bool, eq-eqb, AllByRecursion}
use Rattle.ref_share.proofs.Common.{slice_get}
use Rattle.ref_share.proofs.Common.{length-append, append_assoc, tally, State, Config, HoldName, calls_by}
use Rattle.ref_share.proofs.Common.{HeapEntry, HeapView, heap_view, IsHeapRun, IsHeapSeat, CleanView, clean_view}
use Rattle.ref_share.proofs.Common.{QueueView, HasGone, Round}
use Rattle.std.proofs.lemmas.List.{append_cancel_left}
use Rattle.ref_turn.proofs.Logs.{calls_by-append}
use Rattle.ref_share.specs.ApartHistories.{AdoptNone, OthersLeave, mutator_of, adopted_by, IsKeptApart, RegisterOwn}
use Rattle.ref_share.specs.ApartHistories.{WasFoundDead}
use Rattle.ref_share.specs.CleanSeats.{SharedCleaner, CleanSeat, IsCleanSeat}
use Rattle.ref_share.specs.Cleanings.{RegistersApart}
use Rattle.ref_share.specs.HeapHistories.{spent}
use Rattle.ref_share.specs.HeapSeats.{SharedHeap, HeapSeat}
use Rattle.ref_share.specs.declared.answers.Cleanable.{Cleanable}
use Rattle.ref_share.proofs.ApartRounds.{all_behind, spent_as_it_ran}
use Rattle.ref_share.proofs.HeldRuns.{held_is_minted}
use Rattle.ref_share.proofs.KeptRuns.{stays_apart}
use Rattle.ref_share.proofs.RegisterRuns.{past6, made, held, dropped, registered}

-- ---- which calls are of others

all_front : {X : Type 0} (P : X → Type 0) (xs ys : List X) → AllByRecursion P (xs ++ ys) → AllByRecursion P xs
all_front P [] ys all = tt
all_front P (x ∷ xs) ys all = (all.0, all_front P xs ys all.1)

module _ (k : ℕ) where
  -- how many of the calls are the seat's own
  abbrev own_count : List HeapEntry → ℕ
  own_count es = length (calls_by k es)

  own_both : (xs ys : List HeapEntry) → own_count (xs ++ ys) ≡ own_count xs + own_count ys
  own_both xs ys = ap length (calls_by-append k xs ys) ∙ length-append (calls_by k xs) (calls_by k ys)

  own_one : (e : HeapEntry) → e.by ≡ k → own_count (e ∷ []) ≡ 1
  own_one e own = let same : (e.by == k) ≡ true = eq-eqb e.by k own in simp same refl

  -- calls of which none is the seat's own
  none_own : (es : List HeapEntry) → own_count es ≡ 0 → AllByRecursion (λ call. call.by ≢ k) es
  none_own [] none = tt
  none_own (e ∷ es) none =
      elim (cases_Bool (e.by == k)) [
        | inl same ↦ let some : length (e ∷ calls_by k es) ≡ 0 = simp same at none in absurd (omega (arith, some))
        | inr other ↦ (
          λ own. let same : (e.by == k) ≡ true = eq-eqb e.by k own in absurd cc,
          none_own es (simp other at none),
        )
      ]

  beside : (m n : ℕ) (es : List HeapEntry) → AllByRecursion (λ call. call.by ≢ k) es → OthersLeave k m es
      → AdoptNone n es
      → AllByRecursion (λ call. (mutator_of call.step ≢ Some m) × (adopted_by call.step ≢ Some n)) es
  beside m n [] others leave none = tt
  beside m n (e ∷ es) others leave none =
      ((leave.0 others.0, none.0), beside m n es others.1 leave.1 none.1)

-- ---- register_apart

module _ {J A : Type 0} (heap : SharedHeap A) (before after : HeapSeat) (queue m src dst : ℕ) (job : J)
    (c d : CleanView J) (cleanable : Cleanable) where
  -- what it registers is kept apart, where the calls of other seats meanwhile name no slot of the mutator, and none
  -- adopts a hold of it
  pub registered_apart : IsHeapSeat heap before → IsHeapSeat heap after
      → RegistersApart job c queue m src dst (heap_view before) (Ok cleanable) (heap_view after) d
      → (since : List HeapEntry) → (heap_view after).seen ≡ (heap_view before).seen ++ since
      → OthersLeave (heap_view after).number m since → AdoptNone cleanable.obj since
      → IsKeptApart heap.frame.config heap.frame.heap_no (heap_view after).seen cleanable.obj
  registered_apart is_before is_after registers since parts leave none =
      let v : HeapView = heap_view before in
      let w : HeapView = heap_view after in
      let k : ℕ = w.number in
      let hold : HoldName = registers.0 in
      let u : HeapView = registers.2.0 in
      let t : HeapView = registers.2.1.0 in
      let makes = registers.2.1.1 in
      let holds = registers.2.1.2 in
      let drops = registers.2.2 in
      let b1 : List HeapEntry = makes.2.1.0 in
      let b2 : List HeapEntry = holds.1.0 in
      let b3 : List HeapEntry = drops.2.1.0 in
      let e1 : HeapEntry = made heap.frame.config heap.frame.heap_no queue m src dst v.number makes.0 in
      let e2 : HeapEntry = held heap.frame.config heap.frame.heap_no queue m src dst t.number hold in
      let e3 : HeapEntry = dropped heap.frame.config heap.frame.heap_no queue m src dst u.number drops.0 in
      let all : List HeapEntry = past6 heap.frame.config heap.frame.heap_no queue m src dst v.number t.number u.number
      makes.0 drops.0 hold (v.seen ++ b1) b2 b3 in
      let seen : w.seen ≡ all =
      drops.2.1.1
      ∙ ap (λ (es : List HeapEntry). (es ++ b3) ++ e3 ∷ [])
      (holds.1.1 ∙ ap (λ (es : List HeapEntry). (es ++ b2) ++ e2 ∷ []) makes.2.1.1) in
      let then3 : List HeapEntry = b3 ++ e3 ∷ [] in
      let then2 : List HeapEntry = b2 ++ e2 ∷ then3 in
      let since_is : since ≡ b1 ++ e1 ∷ then2 =
      append_cancel_left v.seen since (b1 ++ e1 ∷ then2)
      (sym parts ∙ seen ∙ nested v.seen b1 b2 b3 e1 e2 e3) in
      let leaves = all_behind (λ (call : HeapEntry). call.by ≢ k → mutator_of call.step ≢ Some m) b1 (e1 ∷ then2)
      (subst (OthersLeave k m) since_is leave) in
      let adopts = all_behind (λ (call : HeapEntry). adopted_by call.step ≢ Some hold.object) b1 (e1 ∷ then2)
      (subst (λ (es : List HeapEntry). AdoptNone hold.object es) since_is
      (subst (λ n. AdoptNone n since) registers.1 none)) in
      let then_leaves = all_behind (λ (call : HeapEntry). call.by ≢ k → mutator_of call.step ≢ Some m) b2 (e2 ∷ then3)
      leaves.1 in
      let then_adopts = all_behind (λ (call : HeapEntry). adopted_by call.step ≢ Some hold.object) b2 (e2 ∷ then3)
      adopts.1 in
      let number1 : v.number ≡ k = sym (drops.2.0.0 ∙ holds.0.0 ∙ makes.2.0.0) in
      let number2 : t.number ≡ k = sym (drops.2.0.0 ∙ holds.0.0) in
      let number3 : u.number ≡ k = sym drops.2.0.0 in
      let counts = counted k v.seen b1 b2 b3 e1 e2 e3 number1 number2 number3
      (ap (λ (es : List HeapEntry). length (calls_by k es)) (sym seen)
      ∙ ap length is_after.history.own
      ∙ ap length (drops.2.2
      ∙ ap (λ (es : List HeapEntry). es ++ e3 ∷ [])
      (holds.2 ∙ ap (λ (es : List HeapEntry). es ++ e2 ∷ []) makes.2.2))
      ∙ three v.mine e1 e2 e3
      ∙ ap (λ (es : List HeapEntry). length es + 3)
      (sym (subst (λ i. calls_by i v.seen ≡ v.mine) number1 is_before.history.own))) in
      subst (IsKeptApart heap.frame.config heap.frame.heap_no w.seen) (sym registers.1)
      (subst (λ (es : List HeapEntry). IsKeptApart heap.frame.config heap.frame.heap_no es hold.object) (sym seen)
      (registered heap.frame.config heap.frame.heap_no queue m src dst v.number t.number u.number makes.0 drops.0 hold
      (v.seen ++ b1) b2 b3 is_after.history.last makes.1 drops.1
      (subst (λ (es : List HeapEntry). IsHeapRun heap.frame.config heap.frame.heap_no es is_after.history.last) seen
      is_after.history.run)
      (beside k m hold.object b2 (none_own k b2 counts.0)
      (all_front (λ (call : HeapEntry). call.by ≢ k → mutator_of call.step ≢ Some m) b2 (e2 ∷ then3) leaves.1)
      (all_front (λ (call : HeapEntry). adopted_by call.step ≢ Some hold.object) b2 (e2 ∷ then3) adopts.1))
      (beside k m hold.object b3 (none_own k b3 counts.1)
      (all_front (λ (call : HeapEntry). call.by ≢ k → mutator_of call.step ≢ Some m) b3 (e3 ∷ []) then_leaves.1)
      (all_front (λ (call : HeapEntry). adopted_by call.step ≢ Some hold.object) b3 (e3 ∷ []) then_adopts.1))))
    where
      -- the same calls, from the first on
      nested : (seen b1 b2 b3 : List HeapEntry) (e1 e2 e3 : HeapEntry)
          → ((((((seen ++ b1) ++ e1 ∷ []) ++ b2) ++ e2 ∷ []) ++ b3) ++ e3 ∷ [])
          ≡ seen ++ (b1 ++ e1 ∷ (b2 ++ e2 ∷ (b3 ++ e3 ∷ [])))
      nested seen b1 b2 b3 e1 e2 e3 = simp append_assoc

      three : (mine : List HeapEntry) (e1 e2 e3 : HeapEntry)
          → length (((mine ++ e1 ∷ []) ++ e2 ∷ []) ++ e3 ∷ []) ≡ length mine + 3
      three mine e1 e2 e3 =
          let third = length-append ((mine ++ e1 ∷ []) ++ e2 ∷ []) (e3 ∷ []) in
          let second = length-append (mine ++ e1 ∷ []) (e2 ∷ []) in
          let first = length-append mine (e1 ∷ []) in
          omega (arith, third, second, first)

      -- three own calls are all
      counted : (k : ℕ) (seen b1 b2 b3 : List HeapEntry) (e1 e2 e3 : HeapEntry) → e1.by ≡ k → e2.by ≡ k → e3.by ≡ k
          → length (calls_by k ((((((seen ++ b1) ++ e1 ∷ []) ++ b2) ++ e2 ∷ []) ++ b3) ++ e3 ∷ []))
          ≡ length (calls_by k seen) + 3
          → (length (calls_by k b2) ≡ 0) × (length (calls_by k b3) ≡ 0)
      counted k seen b1 b2 b3 e1 e2 e3 own1 own2 own3 is =
          let p1 : List HeapEntry = (seen ++ b1) ++ e1 ∷ [] in
          let p2 : List HeapEntry = (p1 ++ b2) ++ e2 ∷ [] in
          let all6 = own_both k (p2 ++ b3) (e3 ∷ []) in
          let all5 = own_both k p2 b3 in
          let all4 = own_both k (p1 ++ b2) (e2 ∷ []) in
          let all3 = own_both k p1 b2 in
          let all2 = own_both k (seen ++ b1) (e1 ∷ []) in
          let all1 = own_both k seen b1 in
          let one1 = own_one k e1 own1 in
          let one2 = own_one k e2 own2 in
          let one3 = own_one k e3 own3 in (
            omega (arith, is, all6, all5, all4, all3, all2, all1, one1, one2, one3),
            omega (arith, is, all6, all5, all4, all3, all2, all1, one1, one2, one3),
          )

-- ---- a cleaner's thread

module _ {J A : Type 0} (heap : SharedHeap A) (seat : HeapSeat) (cleaner : SharedCleaner J A) (own : CleanSeat J)
    (q last : QueueView) (v : HeapView) (c : CleanView J) (rs : List (Round J)) (r : Round J) (i : ℕ)
    (hold : HoldName) (job : J) where
  -- a job that was taken in a round, of what was kept apart from some calls on, is of an object that was found dead
  pub found_dead_as_it_ran : IsHeapSeat heap seat → IsCleanSeat cleaner own → RegisterOwn (clean_view own).seen
      → HasGone q v c rs last (heap_view seat) (clean_view own) → slice_get rs i ≡ Some r
      → r.taken ≡ Some (hold, job) → (front back : List HeapEntry) → (heap_view seat).seen ≡ front ++ back
      → IsKeptApart heap.frame.config heap.frame.heap_no front r.notice.hold.object
      → AdoptNone r.notice.hold.object back
      → WasFoundDead heap.frame.config heap.frame.heap_no (heap_view seat).seen r.notice.hold.object
  found_dead_as_it_ran is_seat is_own registers gone found taken front back parts kept none =
      let config : Config = heap.frame.config in
      let number : ℕ = heap.frame.heap_no in
      let n : ℕ = r.notice.hold.object in
      let end : State = is_seat.history.last in
      let two = spent_as_it_ran heap seat cleaner own q last v c rs r i hold job is_seat is_own registers gone found
      taken in
      let twice : 2 ≤ tally (spent (front ++ back)) n =
      subst (λ (es : List HeapEntry). 2 ≤ tally (spent es) n) parts two in
      let run : IsHeapRun config number (front ++ back) end =
      subst (λ (es : List HeapEntry). IsHeapRun config number es end) parts is_seat.history.run in
      let counts = held_is_minted config number (front ++ back) end run n in
      let stays = stays_apart config number n front back end run kept none in
      subst (λ (es : List HeapEntry). WasFoundDead config number es n) (sym parts)
      (stays.1.once_or_dead (omega (arith, counts, twice)))
