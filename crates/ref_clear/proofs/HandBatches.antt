-- What a hand of several answers and leaves: it is as many hands of one.
use Rattle.ref_clear.proofs.Common.{arith, ◌≡◌, ℕ, ◌+◌, ◌-◌, ◌<◌, ◌≤◌, suc, true, refl, sym, ap, ◌∙◌, List}
use Rattle.ref_clear.proofs.Common.{[], ◌∷◌, ◌++◌, map, take, drop, length, Some, None, append_assoc}
use Rattle.ref_clear.proofs.Common.{slice_set, and_parts, one_more, Pending, Reply, Cycle, unless}
use Rattle.ref_base.specs.declared.cause.Cause.{Cause}
use Rattle.ref_base.specs.declared.fault.Fault.TheVariants.{NumbersSpent}
use Rattle.ref_clear.proofs.Common.{Heap, zero, ClearHeap, pending_at, pending_from, handed_from, holding, refusal_in}
use Rattle.ref_clear.proofs.Common.{HeapDoes, CycleHeap, Fault, cases_Bool, inl, inr, false, not, subst}
use Rattle.std.proofs.Common.{◌^◌, nat_lt, nat_le}
use Rattle.std.proofs.lemmas.Bool.{lt-ltb, leb-true, le-leb}
use Rattle.std.proofs.lemmas.List.{set-set, set-get_or, length-take, length-append, append-nil}
use Rattle.ref_base.specs.HeapSteps.{HeldNotice}
use Rattle.ref_base.specs.Worlds.{notice_from}
use Rattle.ref_base.specs.Refusals.{is_worker, fits, goes_with, front_with, batch_of, hand_refusal, hands_refusal}
use Rattle.ref_base.specs.CollectorRows.{one_handed, all_handed}
use Rattle.ref_base.specs.Told.{told_notices}
use Rattle.ref_base.proofs.BatchParts.{tells_all}
use Rattle.ref_clear.specs.ClearCalls.{held_notice, held_notices, notice_reply}
use Rattle.ref_clear.specs.ClearHeaps.{holding_each, handed_some}
use Rattle.ref_clear.specs.ClearViews.{MayHandOn, HandsNext, front_count, stays_behind}
use Rattle.ref_clear.proofs.BatchFronts.{batch_of-front, batch_of-first}
use Rattle.ref_clear.proofs.HandAnswers.{rest_pending, some_first}
use Rattle.ref_clear.proofs.HandRows.{rest_read}
use Rattle.ref_base.specs.declared.heap_step.HeapStep.TheVariants as heap
use Rattle.ref_base.specs.declared.reply.Reply.TheVariants as replies

length-one_more : (ns : List ℕ) (n : ℕ) → length (one_more ns n) ≡ suc (length ns)
length-one_more [] n = refl
length-one_more (m ∷ ms) n = grind (arith, length-one_more ms n)

-- of a list that isn't empty
first_of_some : (ps : List Pending) → 0 < length ps → (p : Pending) × (ps ≡ p ∷ rest_pending ps)
first_of_some [] some = absurd (omega arith)
first_of_some (p ∷ ps) some = (p, refl)

same_notice : (notice : HeldNotice) {number object queue : ℕ} {cause : Cause} → notice.hold.heap_no ≡ number
    → notice.hold.object ≡ object → notice.queue ≡ queue → notice.cause ≡ cause
    → notice ≡ record { hold = record { heap_no = number; object = object }; queue = queue; cause = cause }
same_notice notice of one its why = grind arith

-- ---- one of them

module _ {c d : ClearHeap} {w count : ℕ} {reply : Reply} (may : MayHandOn c w (suc count))
    (does : HeapDoes c (heap.Hand w) reply d) where
  first : (p : Pending) × (pending_at c w ≡ p ∷ rest_pending (pending_at c w))
  first = first_of_some (pending_at c w) (omega (arith, may.pending))

  abbrev rest : List Pending
  rest = rest_pending (pending_at c w)

  accepted : refusal_in c (heap.Hand w) ≡ None
  accepted =
      let room : nat_lt (length c.mark.heap.holds) (2 ^ 64 - 1) ≡ true =
      lt-ltb (length c.mark.heap.holds) (2 ^ 64 - 1) (omega (arith, may.holds)) in
      let own : refusal_in c (heap.Hand w) ≡ hand_refusal (pending_at c w) c.mark.heap = simp may.there refl in
      own ∙ ap (λ (ps : List Pending). hand_refusal ps c.mark.heap) first.1 ∙ simp room refl

  tells : reply ≡ replies.Notice first.0.object first.0.queue (Cycle first.0.cycle w)
  tells = does.answer ∙ simp accepted (ap (one_handed w) first.1)

  left : d ≡ handed_from c w (first.0 ∷ rest)
  left = does.after ∙ simp accepted (ap (handed_from c w) first.1)

  pending_left : pending_at d w ≡ rest
  pending_left = ap (λ (e : ClearHeap). pending_at e w) left ∙ rest_read c.pending w rest first.1

  pub same_number : d.mark.heap.no ≡ c.mark.heap.no
  same_number = ap (λ (e : ClearHeap). e.mark.heap.no) left

  -- the others may be handed on then
  pub may_next : MayHandOn d w count
  may_next = record {
    there = ap (λ (e : ClearHeap). is_worker e.mark.heap w) left ∙ may.there;
    pending = omega (arith, may.pending, ap length first.1, ap length pending_left);
    holds = omega (
      arith,
      may.holds,
      ap (λ (e : ClearHeap). length e.mark.heap.holds) left,
      length-one_more c.mark.heap.holds first.0.object,
    );
  }

  -- and so all are
  pub one_then_others : handed_some d w count ≡ handed_some c w (suc count)
  one_then_others =
      let k : CycleHeap = holding c.mark first.0.object in
      ap (λ (e : ClearHeap). handed_some e w count) left
      ∙ ap (λ (ps : List Pending).
      record {
        mark = holding_each k (take count ps);
        pending = slice_set (slice_set c.pending w rest) w (drop count ps);
      }) (rest_read c.pending w rest first.1)
      ∙ ap (λ (pss : List (List Pending)). record { mark = holding_each k (take count rest); pending = pss })
      (set-set c.pending w rest (drop count rest))
      ∙ ap (λ (ps : List Pending).
      record {
        mark = holding_each c.mark (take (suc count) ps);
        pending = slice_set c.pending w (drop (suc count) ps);
      }) (sym first.1)

  -- as are the notices, and what they report
  pub notices_then : (notice : HeldNotice) (batch : List HeldNotice) → reply ≡ notice_reply (Some notice)
      → notice.hold.heap_no ≡ c.mark.heap.no
      → (batch ++ notice ∷ []) ++ held_notices d.mark.heap.no (map (notice_from w) (take count (pending_at d w)))
      ≡ batch ++ held_notices c.mark.heap.no (map (notice_from w) (take (suc count) (pending_at c w)))
  notices_then notice batch is own =
      let told : replies.Notice notice.hold.object notice.queue notice.cause
      ≡ replies.Notice first.0.object first.0.queue (Cycle first.0.cycle w) = sym is ∙ tells in
      let one : notice ≡ held_notice c.mark.heap.no (notice_from w first.0) =
      same_notice notice own (let e : notice.hold.object ≡ first.0.object = cc in e)
      (let e : notice.queue ≡ first.0.queue = cc in e)
      (let e : notice.cause ≡ Cycle first.0.cycle w = cc in e) in
      append_assoc batch (notice ∷ [])
      (held_notices d.mark.heap.no (map (notice_from w) (take count (pending_at d w))))
      ∙ ap (λ number.
      batch ++ notice ∷ held_notices number (map (notice_from w) (take count (pending_at d w)))) same_number
      ∙ ap (λ (ps : List Pending).
      batch ++ notice ∷ held_notices c.mark.heap.no (map (notice_from w) (take count ps))) pending_left
      ∙ ap (λ (given : HeldNotice).
      batch ++ given ∷ held_notices c.mark.heap.no (map (notice_from w) (take count rest))) one
      ∙ ap (λ (ps : List Pending).
      batch ++ held_notices c.mark.heap.no (map (notice_from w) (take (suc count) ps))) (sym first.1)

  pub numbers_then : (object : ℕ) (numbers : List ℕ) (notice : HeldNotice) → reply ≡ notice_reply (Some notice)
      → object ≡ notice.hold.object
      → (numbers ++ object ∷ []) ++ map (λ p. p.object) (take count (pending_at d w))
      ≡ numbers ++ map (λ p. p.object) (take (suc count) (pending_at c w))
  numbers_then object numbers notice is same =
      let told : replies.Notice notice.hold.object notice.queue notice.cause
      ≡ replies.Notice first.0.object first.0.queue (Cycle first.0.cycle w) = sym is ∙ tells in
      let one : object ≡ first.0.object = let e : notice.hold.object ≡ first.0.object = cc in same ∙ e in
      append_assoc numbers (object ∷ []) (map (λ (p : Pending). p.object) (take count (pending_at d w)))
      ∙ ap (λ (ps : List Pending). numbers ++ object ∷ map (λ (p : Pending). p.object) (take count ps)) pending_left
      ∙ ap (λ n. numbers ++ n ∷ map (λ (p : Pending). p.object) (take count rest)) one
      ∙ ap (λ (ps : List Pending). numbers ++ map (λ (p : Pending). p.object) (take (suc count) ps)) (sym first.1)

-- ---- one, if it goes with the one told

-- what no first, or one that stays behind, is answered with
module _ {c d : ClearHeap} {w : ℕ} {p : Pending} {reply : Reply} (there : is_worker c.mark.heap w ≡ true)
    (next : HandsNext c w (Some p) reply d) where
  none_there : pending_at c w ≡ [] → (reply ≡ replies.Nothing) × (d ≡ c)
  none_there none =
      let does = next.hands (ap (stays_behind (Some p)) none) in
      let own : refusal_in c (heap.Hand w) ≡ hand_refusal (pending_at c w) c.mark.heap = simp there refl in
      let passed : refusal_in c (heap.Hand w) ≡ None =
      own ∙ ap (λ (ps : List Pending). hand_refusal ps c.mark.heap) none in (
        does.answer ∙ simp passed (ap (one_handed w) none),
        does.after ∙ simp passed (ap (handed_from c w) none),
      )

  one_stays : {r : Pending} {rs : List Pending} → pending_at c w ≡ r ∷ rs → goes_with p r ≡ false
      → (reply ≡ replies.Nothing) × (d ≡ c)
  one_stays are stays = next.stays (ap (stays_behind (Some p)) are ∙ ap not stays)

  one_goes : {r : Pending} {rs : List Pending} → pending_at c w ≡ r ∷ rs → goes_with p r ≡ true
      → HeapDoes c (heap.Hand w) reply d
  one_goes are goes = next.hands (ap (stays_behind (Some p)) are ∙ ap not goes)

  -- how many go as the first does, and as it doesn't
  more_go : (max : ℕ) {r : Pending} {rs : List Pending} → pending_at c w ≡ r ∷ rs → goes_with p r ≡ true
      → front_count p (suc max) (pending_at c w) ≡ suc (front_count p max rs)
  more_go max {r} {rs} are goes = ap (front_count p (suc max)) are ∙ simp goes refl

  none_go : (max : ℕ) {r : Pending} {rs : List Pending} → pending_at c w ≡ r ∷ rs → goes_with p r ≡ false
      → front_count p max (pending_at c w) ≡ 0
  none_go max {r} {rs} are stays =
      let none : front_with p (pending_at c w) ≡ [] = ap (front_with p) are ∙ simp stays refl in
      omega (arith, length-take max (front_with p (pending_at c w)), ap length none)

  -- a notice was of one that goes: one fewer of the others do
  pub given_goes : (max : ℕ) → (max ≡ 0 → ⊥) → MayHandOn c w (front_count p max (pending_at c w))
      → (notice : HeldNotice) → reply ≡ notice_reply (Some notice)
      → (front_count p max (pending_at c w) ≡ suc (front_count p (max - 1) (pending_at d w)))
      × MayHandOn c w (suc (front_count p (max - 1) (pending_at d w))) × HeapDoes c (heap.Hand w) reply d
  given_goes zero some may notice is = absurd (some refl)
  given_goes (suc max) some may notice is =
      let less : suc max - 1 ≡ max = omega arith in rw less (by_first (pending_at c w) refl)
    where
      by_first : (ps : List Pending) → pending_at c w ≡ ps
          → (front_count p (suc max) (pending_at c w) ≡ suc (front_count p max (pending_at d w)))
          × MayHandOn c w (suc (front_count p max (pending_at d w))) × HeapDoes c (heap.Hand w) reply d
      by_first [] none = let wrong = sym is ∙ (none_there none).0 in absurd cc
      by_first (r ∷ rs) are =
          elim (cases_Bool (goes_with p r)) [
            | inl goes ↦
                let does = one_goes are goes in
                let more = more_go max are goes in
                let left = pending_left (subst (MayHandOn c w) more may) does in
                let fewer = more ∙ ap (λ qs. suc (front_count p max qs)) (sym (left ∙ ap rest_pending are)) in
                (fewer, subst (MayHandOn c w) fewer may, does)
            | inr stays ↦ let wrong = sym is ∙ (one_stays are stays).0 in absurd cc
          ]

  -- where the first goes, it is given
  one_given : (max : ℕ) {r : Pending} {rs : List Pending} → (max ≡ 0 → ⊥)
      → MayHandOn c w (front_count p max (pending_at c w)) → pending_at c w ≡ r ∷ rs → goes_with p r ≡ true
      → (q : Pending) × (reply ≡ replies.Notice q.object q.queue (Cycle q.cycle w))
  one_given zero some may are goes = absurd (some refl)
  one_given (suc max) some may are goes =
      let may_one = subst (MayHandOn c w) (more_go max are goes) may in
      ((first may_one (one_goes are goes)).0, tells may_one (one_goes are goes))

  module _ {max : ℕ} (some : max ≡ 0 → ⊥) (may : MayHandOn c w (front_count p max (pending_at c w))) where
    -- none, that none goes, and that nothing is done
    pub none_goes : reply ≡ replies.Nothing → (front_count p max (pending_at c w) ≡ 0) × (d ≡ c)
    none_goes is = by_first (pending_at c w) refl
      where
        by_first : (ps : List Pending) → pending_at c w ≡ ps
            → (front_count p max (pending_at c w) ≡ 0) × (d ≡ c)
        by_first [] none =
            let few = length-take max (front_with p (pending_at c w)) in
            (omega (arith, few, ap (λ (qs : List Pending). length (front_with p qs)) none), (none_there none).1)
        by_first (r ∷ rs) are =
            elim (cases_Bool (goes_with p r)) [
              | inl goes ↦ let wrong = sym is ∙ (one_given max some may are goes).1 in absurd cc
              | inr stays ↦ (none_go max are stays, (one_stays are stays).1)
            ]

    -- and none is refused
    pub none_refused : (fault : Fault) → reply ≡ replies.Refused fault → ⊥
    none_refused fault is = by_first (pending_at c w) refl
      where
        by_first : (ps : List Pending) → pending_at c w ≡ ps → ⊥
        by_first [] none = let wrong = sym is ∙ (none_there none).0 in cc
        by_first (r ∷ rs) are =
            elim (cases_Bool (goes_with p r)) [
              | inl goes ↦ let wrong = sym is ∙ (one_given max some may are goes).1 in cc
              | inr stays ↦ let wrong = sym is ∙ (one_stays are stays).0 in cc
            ]

-- where none goes, all stays as it is
pub none_handed : (c : ClearHeap) (w count : ℕ) → count ≡ 0 → handed_some c w count ≡ c
none_handed c w count none =
    ap (handed_some c w) none
    ∙ ap (λ (pss : List (List Pending)). record c { pending = pss }) (set-get_or c.pending w [])

-- ---- one after the other

-- What is left of a hand of those that go with p: with what was given and told before, it comes to the same as all of
-- it from the heap a on, `max` at most.
pub record LeadsOn (a : ClearHeap) (w : ℕ) (p : Pending) (max : ℕ) (given : List HeldNotice) (told : List ℕ)
    (c : ClearHeap) (left : ℕ) (batch : List HeldNotice) (numbers : List ℕ) : Type 0 where
  pub may : MayHandOn c w (front_count p left (pending_at c w))
  pub after : handed_some c w (front_count p left (pending_at c w))
      ≡ handed_some a w (front_count p max (pending_at a w))
  pub gives : batch ++ held_notices c.mark.heap.no
      (map (notice_from w) (take (front_count p left (pending_at c w)) (pending_at c w)))
      ≡ given ++ held_notices a.mark.heap.no
      (map (notice_from w) (take (front_count p max (pending_at a w)) (pending_at a w)))
  pub tells : numbers ++ map (λ q. q.object) (take (front_count p left (pending_at c w)) (pending_at c w))
      ≡ told ++ map (λ q. q.object) (take (front_count p max (pending_at a w)) (pending_at a w))
  pub room : length batch + left ≤ 32
  pub room_to_tell : length numbers + left ≤ 32

module _ {a c : ClearHeap} {w : ℕ} {p : Pending} {max left : ℕ} {given batch : List HeldNotice}
    {told numbers : List ℕ} (leads : LeadsOn a w p max given told c left batch numbers) where
  -- with one more given, one fewer is left
  pub leads_on : {d : ClearHeap} {reply : Reply} → HandsNext c w (Some p) reply d → (left ≡ 0 → ⊥)
      → (notice : HeldNotice) → reply ≡ notice_reply (Some notice) → notice.hold.heap_no ≡ c.mark.heap.no → (object : ℕ)
      → object ≡ notice.hold.object
      → LeadsOn a w p max given told d (left - 1) (batch ++ notice ∷ []) (numbers ++ object ∷ [])
  leads_on next some notice is own object same =
      let goes = given_goes leads.may.there next left some leads.may notice is in record {
        may = may_next goes.1 goes.2;
        after = one_then_others goes.1 goes.2 ∙ rw goes.0 at leads.after;
        gives = notices_then goes.1 goes.2 notice batch is own ∙ rw goes.0 at leads.gives;
        tells = numbers_then goes.1 goes.2 object numbers notice is same ∙ rw goes.0 at leads.tells;
        room = omega (arith, leads.room, some, length-append batch (notice ∷ []));
        room_to_tell = omega (arith, leads.room_to_tell, some, length-append numbers (object ∷ []));
      }

  -- where no more go, all is done
  module _ (none : front_count p left (pending_at c w) ≡ 0) where
    pub all_handed_on : c ≡ handed_some a w (front_count p max (pending_at a w))
    all_handed_on = sym (none_handed c w _ none) ∙ leads.after

    pub all_given : batch ≡ given ++ held_notices a.mark.heap.no
        (map (notice_from w) (take (front_count p max (pending_at a w)) (pending_at a w)))
    all_given = sym (append-nil batch) ∙ rw none at leads.gives

    pub all_told : numbers
        ≡ told ++ map (λ q. q.object) (take (front_count p max (pending_at a w)) (pending_at a w))
    all_told = sym (append-nil numbers) ∙ rw none at leads.tells

-- ---- all of them

one_taken : (n : ℕ) (p : Pending) (ps : List Pending) → 1 ≤ n → 1 ≤ length (take n (p ∷ ps))
one_taken zero p ps some = absurd (omega arith)
one_taken (suc n) p ps some = omega arith

-- the first of them tells their queue and cycle
all_tell : (w n : ℕ) (p : Pending) (ps : List Pending) → 1 ≤ n
    → all_handed w (take n (p ∷ ps)) ≡ replies.Notices (map (λ r. r.object) (take n (p ∷ ps))) p.queue p.cycle w
all_tell w zero p ps some = absurd (omega arith)
all_tell w (suc n) p ps some = refl

refusal_of_some : (ps : List Pending) (h : Heap) → 1 ≤ length ps
    → hands_refusal ps h ≡ unless (nat_le (length h.holds + length ps) (2 ^ 64 - 1)) NumbersSpent None
refusal_of_some [] h some = absurd (omega arith)
refusal_of_some (p ∷ ps) h some = refl

module _ (c : ClearHeap) (w max : ℕ) (batch : List HeldNotice) (there : is_worker c.mark.heap w ≡ true)
    (room : fits max (length batch) ≡ true) where
  refusal_is : refusal_in c (heap.Hands w max batch) ≡ hands_refusal (batch_of max (pending_at c w)) c.mark.heap
  refusal_is = simp (there, room) refl

  -- with a first that is pending
  module _ {p : Pending} (first : pending_from (pending_at c w) 0 ≡ Some p) {count : ℕ}
      (counted : count ≡ front_count p max (pending_at c w)) where
    are : pending_at c w ≡ p ∷ rest_pending (pending_at c w)
    are = some_first (pending_at c w) p first

    abbrev some : List Pending
    some = batch_of max (pending_at c w)

    some_are : some ≡ take max (p ∷ front_with p (rest_pending (pending_at c w)))
    some_are = ap (batch_of max) are

    count_is : count ≡ length some
    count_is =
        counted ∙ ap (λ (ps : List Pending). length (take max (front_with p ps))) are
        ∙ ap length (batch_of-first max p (rest_pending (pending_at c w)))
        ∙ ap (λ (ps : List Pending). length (batch_of max ps)) (sym are)

    one_asked : 1 ≤ max
    one_asked = leb-true 1 max (and_parts (nat_le 1 max) (nat_le max (32 - length batch)) room).0

    one_at_least : 1 ≤ count
    one_at_least =
        omega (
          arith,
          count_is,
          ap length some_are,
          one_taken max p (front_with p (rest_pending (pending_at c w))) one_asked,
        )

    front_is : some ≡ take count (pending_at c w)
    front_is = batch_of-front max (pending_at c w) ∙ ap (λ n. take n (pending_at c w)) (sym count_is)

    refusal_by_count : refusal_in c (heap.Hands w max batch)
        ≡ unless (nat_le (length c.mark.heap.holds + count) (2 ^ 64 - 1)) NumbersSpent None
    refusal_by_count =
        refusal_is ∙ refusal_of_some some c.mark.heap (omega (arith, count_is, one_at_least))
        ∙ ap (λ n. unless (nat_le (length c.mark.heap.holds + n) (2 ^ 64 - 1)) NumbersSpent None) (sym count_is)

    module _ (under : length c.mark.heap.holds + count ≤ 2 ^ 64 - 1) where
      pub may_hand_on : MayHandOn c w count
      may_hand_on = record {
        there = there;
        pending = omega (arith, count_is, ap length front_is, length-take count (pending_at c w));
        holds = under;
      }

      passes : refusal_in c (heap.Hands w max batch) ≡ None
      passes =
          let test : nat_le (length c.mark.heap.holds + count) (2 ^ 64 - 1) ≡ true =
          le-leb (length c.mark.heap.holds + count) (2 ^ 64 - 1) under in
          refusal_by_count ∙ simp test refl

      module _ {numbers : List ℕ} (are_told : numbers ≡ map (λ p. p.object) (take count (pending_at c w))) where
        told_as : replies.Notices numbers p.queue p.cycle w ≡ all_handed w some
        told_as =
            ap (λ ns. replies.Notices ns p.queue p.cycle w)
            (are_told ∙ ap (λ (ps : List Pending). map (λ (r : Pending). r.object) ps) (sym front_is ∙ some_are))
            ∙ sym (all_tell w max p (front_with p (rest_pending (pending_at c w))) one_asked)
            ∙ ap (all_handed w) (sym some_are)

        pub hands_all : HeapDoes c (heap.Hands w max batch) (replies.Notices numbers p.queue p.cycle w)
            (handed_some c w count)
        hands_all = record {
          answer = told_as ∙ simp passes refl;
          after = simp passes (ap (handed_some c w) count_is);
        }

        pub notices_told : (number : ℕ) → held_notices number (map (notice_from w) (take count (pending_at c w)))
            ≡ held_notices number (told_notices (replies.Notices numbers p.queue p.cycle w))
        notices_told number =
            ap (λ (ps : List Pending). held_notices number (map (notice_from w) ps)) (sym front_is)
            ∙ ap (held_notices number) (sym (tells_all w max (pending_at c w)) ∙ sym (ap told_notices told_as))
