-- What waits to be added of what a worker cleared, its hand's notices and then its pending references, and how a row
-- moves it on.
use Rattle.ref_base.proofs.Common.{arith, ◌≡◌, ℕ, Bool, true, false, ◌==◌, if◌then◌else◌, List, [], ◌∷◌, ◌++◌}
use Rattle.ref_base.proofs.Common.{Option, Some, None, ◌⊎◌, inl, inr, refl, sym, ap, ◌∙◌, subst, append_assoc}
use Rattle.ref_base.proofs.Common.{slice_index_or, slice_set, cases_eq, eqb-true, ne_eqb, and_right, append-nil}
use Rattle.ref_base.proofs.Common.{get_or-set_same, get_or-set_other, World, Notice, Pending, hand_of, pending_of}
use Rattle.ref_base.proofs.Common.{rest_of, with_rest, pended, is_registered, if_registered, is_by}
use Rattle.ref_base.proofs.Common.{Actor, Mutator, Worker, Cause, Own, Cycle, Row}
use Rattle.ref_base.proofs.Common.{map, map-append, cases_Bool, eq-eqb, true≢false, has, AllByRecursion, Lists}
use Rattle.ref_base.proofs.Common.{enqueued}
use Rattle.ref_base.proofs.Common.{object_of, queue_at, with_parcel, notice_from, added_among, not_added, Become, Done}
use Rattle.std.proofs.lemmas.Bool.{false_from_ne_true}
use Rattle.ref_base.specs.QueueBatches.{EndsBatch}
use Rattle.ref_base.specs.QueueRows.{those_for}
use Rattle.ref_base.specs.declared.out.Done.TheVariants.{Added, Already, Closed, Refused}
use Rattle.ref_base.proofs.HasLaws.{has-left}
use Rattle.ref_base.proofs.QueueLaws.{as_held}
use Rattle.ref_base.specs.ClearingOrder.{if_worked, all_worked}
use Rattle.ref_base.proofs.Places.{set_each, place_there}
use Rattle.ref_base.proofs.Subsequences.{Sub, sub_none, sub_all, sub_through, sub_behind, sub_before, sub_longer}
use Rattle.ref_base.proofs.Subsequences.{sub_after, sub_both}

-- ---- what waits

abbrev pub if_for : ℕ → Pending → List ℕ
if_for q p = if p.queue == q then p.object ∷ [] else []

abbrev pub all_for : ℕ → List Pending → List ℕ
all_for q [] = []
all_for q (p ∷ ps) = if_for q p ++ all_for q ps

-- the reference that the notice reports, where worker k cleared it, it is for queue q, and none of these is it
abbrev pub if_fresh : List ℕ → ℕ → ℕ → Notice → List ℕ
if_fresh put k q notice = if has put notice.object then [] else if_worked k q notice

-- what may still be added of these: what was put in before never is again
abbrev pub fresh : List ℕ → ℕ → ℕ → List Notice → List ℕ
fresh put k q [] = []
fresh put k q (notice ∷ rest) = if_fresh put k q notice ++ fresh put k q rest

-- what was put into queue q
abbrev pub put_at : World → ℕ → List ℕ
put_at w q = enqueued object_of (queue_at w q)

abbrev pub waiting : List ℕ → ℕ → ℕ → List Notice → List Pending → List ℕ
waiting put k q hand ps = fresh put k q hand ++ all_for q ps

abbrev pub waiting_in : ℕ → ℕ → World → List ℕ
waiting_in k q w = waiting (put_at w q) k q (hand_of w (Worker k)) (pending_of w k)

-- what is added and what waits after a row waited before or was cleared by the row
abbrev pub Shifts : ℕ → ℕ → World → World → (adds clears : List ℕ) → Type 0
Shifts k q v w adds clears = Sub (adds ++ waiting_in k q w) (waiting_in k q v ++ clears)

shifts_to : (k q : ℕ) (v w : World) (adds clears : List ℕ) (hand : List Notice) (ps : List Pending)
    → hand_of w (Worker k) ≡ hand → pending_of w k ≡ ps
    → Sub (adds ++ waiting (put_at w q) k q hand ps) (waiting_in k q v ++ clears) → Shifts k q v w adds clears
shifts_to k q v w adds clears hand ps hands pends sub = rw (hands, pends) sub

-- all of the one list is in the other
abbrev pub AreIn : List ℕ → List ℕ → Type 0
AreIn ms ns = (n : ℕ) → has ms n ≡ true → has ns n ≡ true

-- where more was put in, no more may be added
fresh_fewer : (ms ns : List ℕ) (k q : ℕ) (hand : List Notice) → AreIn ms ns
    → Sub (fresh ns k q hand) (fresh ms k q hand)
fresh_fewer ms ns k q [] grows = refl
fresh_fewer ms ns k q (notice ∷ rest) grows =
    let more = fresh_fewer ms ns k q rest grows in
    elim (cases_Bool (has ns notice.object)) [
      | inl later ↦ rw later
          (sub_through (fresh ns k q rest) (fresh ms k q rest) (if_fresh ms k q notice ++ fresh ms k q rest) more
          (sub_after (if_fresh ms k q notice) (fresh ms k q rest)))
      | inr not_yet ↦
          let before : has ms notice.object ≡ false =
          false_from_ne_true (has ms notice.object) (λ is. true≢false (sym (grows notice.object is) ∙ not_yet)) in
          rw (not_yet, before) (sub_behind (if_worked k q notice) (fresh ns k q rest) (fresh ms k q rest) more)
    ]

-- nothing moves
pub still : (k q : ℕ) (v w : World) (clears : List ℕ) → AreIn (put_at v q) (put_at w q)
    → hand_of w (Worker k) ≡ hand_of v (Worker k) → pending_of w k ≡ pending_of v k → Shifts k q v w [] clears
still k q v w clears grows hands pends =
    let hand : List Notice = hand_of v (Worker k) in
    let ps : List Pending = pending_of v k in
    shifts_to k q v w [] clears hand ps hands pends
    (sub_through (waiting (put_at w q) k q hand ps) (waiting_in k q v) (waiting_in k q v ++ clears)
    (sub_before (fresh (put_at w q) k q hand) (fresh (put_at v q) k q hand) (all_for q ps)
    (fresh_fewer (put_at v q) (put_at w q) k q hand grows)) (sub_longer (waiting_in k q v) clears))

fresh_rest : (put : List ℕ) (k q : ℕ) (hand : List Notice) → Sub (fresh put k q (rest_of hand)) (fresh put k q hand)
fresh_rest put k q [] = refl
fresh_rest put k q (notice ∷ rest) = sub_after (if_fresh put k q notice) (fresh put k q rest)

-- the hand's first notice goes elsewhere
pub spends : (k q : ℕ) (v w : World) (clears : List ℕ) → AreIn (put_at v q) (put_at w q)
    → hand_of w (Worker k) ≡ rest_of (hand_of v (Worker k)) → pending_of w k ≡ pending_of v k
    → Shifts k q v w [] clears
spends k q v w clears grows hands pends =
    let hand : List Notice = hand_of v (Worker k) in
    let ps : List Pending = pending_of v k in
    let left : List ℕ = fresh (put_at w q) k q (rest_of hand) in
    shifts_to k q v w [] clears (rest_of hand) ps hands pends
    (sub_through (left ++ all_for q ps) (waiting_in k q v) (waiting_in k q v ++ clears)
    (sub_before left (fresh (put_at v q) k q hand) (all_for q ps)
    (sub_through left (fresh (put_at v q) k q (rest_of hand)) (fresh (put_at v q) k q hand)
    (fresh_fewer (put_at v q) (put_at w q) k q (rest_of hand) grows) (fresh_rest (put_at v q) k q hand)))
    (sub_longer (waiting_in k q v) clears))

-- what is no worker's goes by
pub passes : (k q : ℕ) (v w : World) (adds clears : List ℕ) → adds ≡ [] → Shifts k q v w [] clears
    → Shifts k q v w adds clears
passes k q v w adds clears none shifts =
    subst (λ ns. Sub (ns ++ waiting_in k q w) (waiting_in k q v ++ clears)) (sym none) shifts

-- what was added of a worker's hand, and what is left of it that may still be added
pub puts : (k q : ℕ) (v w : World) (adds : List ℕ) (left : List Notice) → hand_of w (Worker k) ≡ left
    → pending_of w k ≡ pending_of v k
    → Sub (adds ++ fresh (put_at w q) k q left) (fresh (put_at v q) k q (hand_of v (Worker k)))
    → Shifts k q v w adds []
puts k q v w adds left hands pends sub =
    let ps : List Pending = pending_of v k in
    let now : List ℕ = fresh (put_at w q) k q left in
    shifts_to k q v w adds [] left ps hands pends
    (rw (← append_assoc)
    (sub_through ((adds ++ now) ++ all_for q ps) (waiting_in k q v) (waiting_in k q v ++ [])
    (sub_before (adds ++ now) (fresh (put_at v q) k q (hand_of v (Worker k))) (all_for q ps) sub)
    (sub_longer (waiting_in k q v) [])))

-- ---- places

-- after a place is set, each place is as before or it is the one
pub place_set : {X : Type 0} (xs : List X) (j k : ℕ) (x d : X)
    → (slice_index_or (slice_set xs j x) k d ≡ slice_index_or xs k d)
    ⊎ ((k ≡ j) × (slice_index_or (slice_set xs j x) k d ≡ x))
place_set xs j k x d =
    set_each (λ i y. (y ≡ slice_index_or xs i d) ⊎ ((i ≡ j) × (y ≡ x))) xs j x (λ _. d) (inr (refl, refl))
    (λ i. inl refl) k

-- ---- hands

pub mutator_spends : (w : World) (m k : ℕ) (told : Bool)
    → hand_of (if told then with_rest w (Mutator m) else w) (Worker k) ≡ hand_of w (Worker k)
mutator_spends w m k true = refl
mutator_spends w m k false = refl

-- after a release a worker's hand is as before or has one fewer
pub released : (w : World) (who : Actor) (k : ℕ) (told : Bool)
    → (hand_of (if told then with_rest w who else w) (Worker k) ≡ hand_of w (Worker k))
    ⊎ (hand_of (if told then with_rest w who else w) (Worker k) ≡ rest_of (hand_of w (Worker k)))
released w (Mutator m) k told = inl (mutator_spends w m k told)
released w (Worker j) k false = inl refl
released w (Worker j) k true =
    elim (place_set w.worker_hands j k (rest_of (hand_of w (Worker j))) []) [
      | inl same ↦ inl same
      | inr here ↦ inr (here.1 ∙ ap (λ i. rest_of (hand_of w (Worker i))) (sym here.0))
    ]

pub at : (v w : World) (k : ℕ) → w.pending ≡ v.pending → pending_of w k ≡ pending_of v k
at v w k same = ap (λ (all : List (List Pending)). slice_index_or all k []) same

-- ---- a worker clears a reference

-- what goes last in a pending list comes last
all_for-last : (q : ℕ) (ps : List Pending) (p : Pending) → all_for q (ps ++ p ∷ []) ≡ all_for q ps ++ if_for q p
all_for-last q [] p = append-nil (if_for q p)
all_for-last q (r ∷ ps) p =
    ap (λ ns. if_for q r ++ ns) (all_for-last q ps p) ∙ sym (append_assoc (if_for q r) (all_for q ps) (if_for q p))

last_pended : (whole : List Row) (k q j n i : ℕ) (v w : World)
    → ((h : ℕ) → Some i ≡ Some h → is_registered whole n h ≡ true) → AreIn (put_at v q) (put_at w q)
    → hand_of w (Worker k) ≡ hand_of v (Worker k) → k ≡ j
    → pending_of w k ≡ pending_of v j ++ record { object = n; queue = i; cycle = v.cycle } ∷ []
    → Shifts k q v w [] (if_registered whole q (if j == k then Some n else None))
last_pended whole k q j n i v w made grows hands same pends =
    let hand : List Notice = hand_of v (Worker k) in
    let ps : List Pending = pending_of v k in
    let p : Pending = record { object = n; queue = i; cycle = v.cycle } in
    let own : pending_of w k ≡ ps ++ p ∷ [] =
    pends ∙ ap (λ m. pending_of v m ++ p ∷ []) (sym same) in
    let clears : List ℕ = if_registered whole q (Some n) in
    let told : (if j == k then Some n else None) ≡ Some n = rw (eq-eqb j k (sym same)) refl in
    let tells : Sub (if_for q p) clears =
    elim (cases_Bool (i == q)) [
      | inl is ↦ rw (is, ap (is_registered whole n) (sym (eqb-true i q is)) ∙ made i refl) (sub_all (n ∷ []))
      | inr isnt ↦ rw isnt (sub_none clears)
    ] in
    rw told
    (shifts_to k q v w [] clears hand (ps ++ p ∷ []) hands own
    (rw (all_for-last q ps p, ← append_assoc)
    (sub_through ((fresh (put_at w q) k q hand ++ all_for q ps) ++ if_for q p)
    ((fresh (put_at v q) k q hand ++ all_for q ps) ++ if_for q p) (waiting_in k q v ++ clears)
    (sub_before (fresh (put_at w q) k q hand ++ all_for q ps) (fresh (put_at v q) k q hand ++ all_for q ps) (if_for q p)
    (sub_before (fresh (put_at w q) k q hand) (fresh (put_at v q) k q hand) (all_for q ps)
    (fresh_fewer (put_at v q) (put_at w q) k q hand grows)))
    (sub_behind (waiting_in k q v) (if_for q p) clears tells))))

pub clears_for : (whole : List Row) (k q j n : ℕ) (v w : World) (queue : Option ℕ)
    → ((i : ℕ) → queue ≡ Some i → is_registered whole n i ≡ true) → AreIn (put_at v q) (put_at w q)
    → hand_of w (Worker k) ≡ hand_of v (Worker k) → w.pending ≡ (pended v j n queue).pending
    → Shifts k q v w [] (if_registered whole q (if j == k then Some n else None))
clears_for whole k q j n v w None made grows hands pends = still k q v w _ grows hands (at v w k pends)
clears_for whole k q j n v w (Some i) made grows hands pends =
    elim (place_set v.pending j k (pending_of v j ++ record { object = n; queue = i; cycle = v.cycle } ∷ []) []) [
      | inl same ↦ still k q v w _ grows hands (ap (λ (all : List (List Pending)). slice_index_or all k []) pends
          ∙ same)
      | inr here ↦ last_pended whole k q j n i v w made grows hands here.0
          (ap (λ (all : List (List Pending)). slice_index_or all k []) pends ∙ here.1)
    ]

-- ---- a worker hands on

pub worked_is : (k q n i : ℕ) (cause : Cause) (p : Pending) → n ≡ p.object → i ≡ p.queue → is_by k cause ≡ true
    → if_worked k q (record { object = n; queue = i; cause = cause }) ≡ if_for q p
worked_is k q n i cause p object queue by_it = grind arith

-- another's notice isn't the worker's
pub not_by : (k j : ℕ) (cause : Cause) → (k ≡ j → ⊥) → is_by j cause ≡ true → is_by k cause ≡ false
not_by k j Own other by_it = absurd cc
not_by k j (Cycle cycle w) other by_it = ne_eqb w k (λ same. other (sym same ∙ eqb-true w j by_it))

pub none_worked : (k q : ℕ) (notice : Notice) → is_by k notice.cause ≡ false → if_worked k q notice ≡ []
none_worked k q notice is = search and_right

-- the first that is pending of worker j is given: by worker k, it was pending of it
pub given_first : (k q j : ℕ) (v w : World) (notice : Notice) (p : Pending) (rest : List Pending)
    → pending_of v j ≡ p ∷ rest → notice.object ≡ p.object → notice.queue ≡ p.queue → is_by j notice.cause ≡ true
    → w.pending ≡ slice_set v.pending j rest
    → all_for q (pending_of v k) ≡ if_worked k q notice ++ all_for q (pending_of w k)
given_first k q j v w notice p rest is object queue by_it pends =
    grind (arith, cases_eq, place_there, get_or-set_same, get_or-set_other, worked_is, none_worked, not_by)

-- what is given of a worker's pending references waited among them
given_waited : (put : List ℕ) (k q : ℕ) (ps : List Pending)
    → Sub (fresh put k q (map (notice_from k) ps)) (all_for q ps)
given_waited put k q [] = refl
given_waited put k q (p ∷ ps) =
    let more = given_waited put k q ps in
    let same : if_worked k q (notice_from k p) ≡ if_for q p =
    worked_is k q p.object p.queue (Cycle p.cycle k) p refl refl (eq-eqb k k refl) in
    elim (cases_Bool (has put p.object)) [
      | inl is ↦ rw is
          (sub_through (fresh put k q (map (notice_from k) ps)) (all_for q ps) (all_for q (p ∷ ps)) more
          (sub_after (if_for q p) (all_for q ps)))
      | inr isnt ↦ rw (isnt, same) (sub_behind (if_for q p) (fresh put k q (map (notice_from k) ps)) (all_for q ps)
          more)
    ]

all_for-append : (q : ℕ) (ps qs : List Pending) → all_for q (ps ++ qs) ≡ all_for q ps ++ all_for q qs
all_for-append q [] qs = refl
all_for-append q (p ∷ ps) qs =
    ap (λ ns. if_for q p ++ ns) (all_for-append q ps qs) ∙ sym (append_assoc (if_for q p) (all_for q ps) (all_for q qs))

-- a worker hands these on, which were pending first
pub hands_to : (k q : ℕ) (v w : World) (ps rest : List Pending) → pending_of v k ≡ ps ++ rest
    → hand_of w (Worker k) ≡ map (notice_from k) ps → pending_of w k ≡ rest → Shifts k q v w [] []
hands_to k q v w ps rest was hands pends =
    let given : List ℕ = fresh (put_at w q) k q (map (notice_from k) ps) in
    let before : List ℕ = fresh (put_at v q) k q (hand_of v (Worker k)) in
    let is : all_for q (pending_of v k) ≡ all_for q ps ++ all_for q rest =
    ap (all_for q) was ∙ all_for-append q ps rest in
    shifts_to k q v w [] [] (map (notice_from k) ps) rest hands pends
    (sub_through (given ++ all_for q rest) (all_for q ps ++ all_for q rest) (waiting_in k q v ++ [])
    (sub_before given (all_for q ps) (all_for q rest) (given_waited (put_at w q) k q ps))
    (subst (λ ns. Sub ns (waiting_in k q v ++ [])) is
    (sub_through (all_for q (pending_of v k)) (waiting_in k q v) (waiting_in k q v ++ [])
    (sub_after before (all_for q (pending_of v k))) (sub_longer (waiting_in k q v) []))))

-- ---- a hand is put in

-- the references of those of these notices that are for queue q
abbrev pub objects_for : ℕ → List Notice → List ℕ
objects_for q notices = those_for q (as_held notices)

-- where that becomes of a hand's notices: what goes into queue q was never put in, and what was already was; and
-- nothing is added any more once a queue is closed or memory was refused
abbrev pub Fits : ℕ → List ℕ → List Notice → List Done → Type 0
Fits q put hand [] = Unit {0}
Fits q put [] (d ∷ ds) = Unit {0}
Fits q put (x ∷ hand) (Added ∷ ds) =
    (x.queue ≡ q → has put x.object ≡ false) × Fits q (put ++ objects_for q (x ∷ [])) hand ds
Fits q put (x ∷ hand) (Already ∷ ds) = (x.queue ≡ q → has put x.object ≡ true) × Fits q put hand ds
Fits q put (x ∷ hand) (d ∷ ds) = (added_among hand ds ≡ []) × (not_added hand ds ≡ hand)

for-first : (q : ℕ) (x : Notice) (rest : List Notice)
    → objects_for q (x ∷ rest) ≡ objects_for q (x ∷ []) ++ objects_for q rest
for-first q x rest = elim (cases_Bool (x.queue == q)) [ inl is ↦ rw is refl | inr isnt ↦ rw isnt refl ]

-- what isn't for queue q isn't fresh there
other_fresh : (put : List ℕ) (k q : ℕ) (x : Notice) → (x.queue == q) ≡ false → if_fresh put k q x ≡ []
other_fresh put k q x isnt =
    elim (cases_Bool (has put x.object)) [ inl is ↦ rw is refl | inr not ↦ rw (not, isnt) refl ]

other_worked : (k q : ℕ) (x : Notice) → (x.queue == q) ≡ false → if_worked k q x ≡ []
other_worked k q x isnt = rw isnt refl

-- nothing is added any more
shift_ended : (k q : ℕ) (put : List ℕ) (x : Notice) (hand : List Notice) (ds : List Done)
    → (added_among hand ds ≡ []) × (not_added hand ds ≡ hand)
    → Sub (all_worked k q (added_among hand ds) ++ fresh (put ++ objects_for q (added_among hand ds)) k q (x ∷
    not_added hand ds))
    (fresh put k q (x ∷ hand))
shift_ended k q put x hand ds ended =
    subst (λ (added : List Notice). Sub (all_worked k q added ++ fresh (put
    ++ objects_for q added) k q (x ∷ not_added hand ds))
    (fresh put k q (x ∷ hand))) (sym ended.0)
    (subst (λ (left : List Notice). Sub (fresh (put ++ []) k q (x ∷ left)) (fresh put k q (x ∷ hand))) (sym ended.1)
    (subst (λ ns. Sub (fresh ns k q (x ∷ hand)) (fresh put k q (x ∷ hand))) (sym (append-nil put))
    (sub_all (fresh put k q (x ∷ hand)))))

-- what is added, and what is left that may still be added, were fresh in this order
pub shift_core : (k q : ℕ) (put : List ℕ) (hand : List Notice) (ds : List Done) → Fits q put hand ds
    → Sub (all_worked k q (added_among hand ds) ++ fresh (put ++ objects_for q (added_among hand ds)) k q (not_added
    hand ds))
    (fresh put k q hand)
shift_core k q put [] [] fits = refl
shift_core k q put (x ∷ hand) [] fits =
    subst (λ ns. Sub (fresh ns k q (x ∷ hand)) (fresh put k q (x ∷ hand))) (sym (append-nil put))
    (sub_all (fresh put k q (x ∷ hand)))
shift_core k q put [] (d ∷ ds) fits = refl
shift_core k q put (x ∷ hand) (Added ∷ ds) fits =
    let added : List Notice = added_among hand ds in
    let left : List Notice = not_added hand ds in
    let one : List ℕ = put ++ objects_for q (x ∷ []) in
    let all : put ++ objects_for q (x ∷ added) ≡ one ++ objects_for q added =
    ap (λ ns. put ++ ns) (for-first q x added) ∙ sym (append_assoc put (objects_for q (x ∷ [])) (objects_for q added))
    in
    let later : List ℕ = fresh (one ++ objects_for q added) k q left in
    let more : Sub (all_worked k q added ++ later) (fresh put k q hand) =
    sub_through (all_worked k q added ++ later) (fresh one k q hand) (fresh put k q hand)
    (shift_core k q one hand ds fits.1)
    (fresh_fewer put one k q hand (λ n is. has-left put (objects_for q (x ∷ [])) n is)) in
    let first : Sub (if_worked k q x) (if_fresh put k q x) =
    elim (cases_Bool (x.queue == q)) [
      | inl is ↦ subst (λ is. Sub (if_worked k q x) (if is then [] else if_worked k q x))
          (sym (fits.0 (eqb-true x.queue q is))) (sub_all (if_worked k q x))
      | inr isnt ↦ subst (λ ns. Sub ns (if_fresh put k q x)) (sym (other_worked k q x isnt))
          (sub_none (if_fresh put k q x))
    ] in
    rw (all, append_assoc)
    (sub_both (if_worked k q x) (if_fresh put k q x) (all_worked k q added ++ later) (fresh put k q hand) first more)
shift_core k q put (x ∷ hand) (Already ∷ ds) fits =
    let added : List Notice = added_among hand ds in
    let left : List Notice = not_added hand ds in
    let all : List ℕ = put ++ objects_for q added in
    let gone : if_fresh all k q x ≡ [] =
    elim (cases_Bool (x.queue == q)) [
      | inl is ↦ ap (λ is. if is then [] else if_worked k q x)
          (has-left put (objects_for q added) x.object (fits.0 (eqb-true x.queue q is)))
      | inr isnt ↦ other_fresh all k q x isnt
    ] in
    rw gone
    (sub_through (all_worked k q added ++ fresh all k q left) (fresh put k q hand)
    (if_fresh put k q x ++ fresh put k q hand) (shift_core k q put hand ds fits.1)
    (sub_after (if_fresh put k q x) (fresh put k q hand)))
shift_core k q put (x ∷ hand) (Closed ∷ ds) fits = shift_ended k q put x hand ds fits
shift_core k q put (x ∷ hand) (Refused fault ∷ ds) fits = shift_ended k q put x hand ds fits

-- another's notice, or one that was put in before, isn't added as the worker's
abbrev pub IsPassed : ℕ → ℕ → List ℕ → Notice → Type 0
IsPassed k q put x = (is_by k x.cause ≡ false) ⊎ (x.queue ≡ q → has put x.object ≡ true)

passed_on : (k q : ℕ) (put more : List ℕ) (hand : List Notice) → AllByRecursion (IsPassed k q put) hand
    → AllByRecursion (IsPassed k q (put ++ more)) hand
passed_on k q put more [] all = tt
passed_on k q put more (x ∷ hand) all = (
  elim all.0 [ inl other ↦ inl other | inr was ↦ inr (λ is. has-left put more x.object (was is)) ],
  passed_on k q put more hand all.1,
)

pub none_added : (k q : ℕ) (put : List ℕ) (hand : List Notice) (ds : List Done) → Fits q put hand ds
    → AllByRecursion (IsPassed k q put) hand → all_worked k q (added_among hand ds) ≡ []
none_added k q put hand [] fits all = refl
none_added k q put [] (d ∷ ds) fits all = refl
none_added k q put (x ∷ hand) (Added ∷ ds) fits all =
    let later = none_added k q (put ++ objects_for q (x ∷ [])) hand ds fits.1
    (passed_on k q put (objects_for q (x ∷ [])) hand all.1) in
    let first : if_worked k q x ≡ [] =
    elim all.0 [
      | inl other ↦ none_worked k q x other
      | inr was ↦ elim (cases_Bool (x.queue == q)) [
        | inl is ↦ absurd
            (true≢false (sym (was (eqb-true x.queue q is)) ∙ fits.0 (eqb-true x.queue q is)))
        | inr isnt ↦ other_worked k q x isnt
      ]
    ] in
    rw (first, later) refl
none_added k q put (x ∷ hand) (Already ∷ ds) fits all = none_added k q put hand ds fits.1 all.1
none_added k q put (x ∷ hand) (Closed ∷ ds) fits all = ap (all_worked k q) fits.0
none_added k q put (x ∷ hand) (Refused fault ∷ ds) fits all = ap (all_worked k q) fits.0

-- ---- what a put of a batch tells fits

shut_adds_none : (lists : Lists Notice) (hand : List Notice) (ds : List Done) → lists.closed ≡ true
    → Become object_of (λ (x : Notice). x.queue) lists hand ds
    → (added_among hand ds ≡ []) × (not_added hand ds ≡ hand)
shut_adds_none lists [] [] shut become = (refl, refl)
shut_adds_none lists (x ∷ hand) [] shut become = (refl, refl)
shut_adds_none lists [] (d ∷ ds) shut become = (refl, refl)
shut_adds_none lists (x ∷ hand) (Added ∷ ds) shut become = absurd (true≢false (sym shut ∙ become.0.2))
shut_adds_none lists (x ∷ hand) (Already ∷ ds) shut become =
    let more = shut_adds_none lists hand ds shut become.1 in (more.0, ap (λ xs. x ∷ xs) more.1)
shut_adds_none lists (x ∷ hand) (Closed ∷ ds) shut become =
    let more = shut_adds_none lists hand ds shut become.1 in (more.0, ap (λ xs. x ∷ xs) more.1)
shut_adds_none lists (x ∷ hand) (Refused fault ∷ ds) shut become = absurd (true≢false (sym shut ∙ become.0.1.2))

pub untried : (hand : List Notice) → (added_among hand [] ≡ []) × (not_added hand [] ≡ hand)
untried [] = (refl, refl)
untried (x ∷ hand) = (refl, refl)

pub become_fits : (q own : ℕ) (put : List ℕ) (lists : Lists Notice) (hand : List Notice) (ds : List Done)
    → (own ≡ q → put ≡ enqueued object_of lists) → AllByRecursion (λ (x : Notice). x.queue ≡ own) hand
    → Become object_of (λ (x : Notice). x.queue) lists hand ds → EndsBatch hand ds → Fits q put hand ds
become_fits q own put lists hand [] is all become ends = tt
become_fits q own put lists [] (d ∷ ds) is all become ends = tt
become_fits q own put lists (x ∷ hand) (Added ∷ ds) is all become ends = (
  λ here. ap (λ ns. has ns x.object) (is (sym all.0 ∙ here)) ∙ become.0.1,
  become_fits q own (put ++ objects_for q (x ∷ [])) (with_parcel lists x) hand ds
      (λ here.
      ap (λ ns. ns ++ objects_for q (x ∷ [])) (is here)
      ∙ ap (λ (b : Bool). enqueued object_of lists ++ (if b then x.object ∷ [] else []))
      (eq-eqb x.queue q (all.0 ∙ here))
      ∙ append_assoc lists.taken (map object_of lists.stands) (x.object ∷ [])
      ∙ ap (λ ns. lists.taken ++ ns) (sym (map-append object_of lists.stands (x ∷ []))))
      all.1 become.1 ends,
)
become_fits q own put lists (x ∷ hand) (Already ∷ ds) is all become ends = (
  λ here. ap (λ ns. has ns x.object) (is (sym all.0 ∙ here)) ∙ become.0,
  become_fits q own put lists hand ds is all.1 become.1 ends,
)
become_fits q own put lists (x ∷ hand) (Closed ∷ ds) is all become ends =
    shut_adds_none lists hand ds become.0.1 become.1
become_fits q own put lists (x ∷ hand) (Refused fault ∷ ds) is all become ends =
    subst (λ es. (added_among hand es ≡ []) × (not_added hand es ≡ hand)) (sym ends) (untried hand)
