-- In every legal trace each notice that is out is a hold that the heap counts.
use Rattle.ref_base.proofs.Common.{◌≡◌, ℕ, ◌+◌, ◌<◌, ◌≤◌, zero, suc, true, List, [], ◌∷◌, map, length, replicate, refl}
use Rattle.ref_base.proofs.Common.{sym, ap, ◌∙◌, arith, map-append, has, one_fewer, Lists, new_queue}
use Rattle.ref_base.proofs.Common.{new_queues, World, Notice, SameOthers, first_world, object_of, hand_of, queue_at}
use Rattle.ref_base.proofs.Common.{with_hand, with_queue, put_in, took, taken_out, closed_queue, tally}
use Rattle.ref_base.proofs.Common.{in_hands, in_queues, AreCounted, Config, Actor, Mutator, Worker}
use Rattle.ref_base.specs.CountedHolds.{reported}
use Rattle.ref_base.proofs.HoldCounts.{tally-has, tally-first, tally-append, tally-one_fewer}
use Rattle.ref_base.proofs.HoldCounts.{tally-hand_set, tally-queue_set, tally-more_of_each, tally-parts}
use Rattle.ref_base.proofs.Common.{◌++◌, AllByRecursion, taking, added_among, not_added, Done, standing, notices_of}
use Rattle.ref_base.proofs.Common.{without_notices, with_parcel, length-set, subst, slice_index_or}
use Rattle.ref_base.specs.CountedHolds.{more_of_each}
use Rattle.ref_base.proofs.BatchParts.{all_added}
use Rattle.ref_base.proofs.Common.{Heap}
use Rattle.ref_base.proofs.SameOthers.{same_hand}
use Rattle.ref_base.proofs.QueueLaws.{took_front}
use Rattle.ref_base.proofs.ReplayKeeps.{put_keeps}
use Rattle.ref_base.proofs.Places.{place_there}
use Rattle.ref_base.proofs.SoundWorlds.{HasHand}

-- ---- in sums

abbrev total : World → ℕ → ℕ
total w n = tally (in_hands w.mutator_hands) n + tally (in_hands w.worker_hands) n + tally (in_queues w.queues) n

tally-reported : (w : World) (n : ℕ) → tally (reported w) n ≡ total w n
tally-reported w n = search tally-append

counted_by : (w : World) → ((n : ℕ) → total w n ≤ tally w.heap.holds n) → AreCounted w
counted_by w few n = let is = tally-reported w n in let own = few n in omega (arith, is, own)

few_of : (w : World) → AreCounted w → (n : ℕ) → total w n ≤ tally w.heap.holds n
few_of w counted n = let is = tally-reported w n in let own = counted n in omega (arith, is, own)

-- ---- what changes

total-hand : (w : World) (who : Actor) (hand : List Notice) (n : ℕ) → HasHand w who
    → total (with_hand w who hand) n + tally (map object_of (hand_of w who)) n
    ≡ total w n + tally (map object_of hand) n
total-hand w (Mutator m) hand n has = let set = tally-hand_set w.mutator_hands m hand n has in omega (arith, set)
total-hand w (Worker k) hand n has = let set = tally-hand_set w.worker_hands k hand n has in omega (arith, set)

total-queue : (w : World) (q : ℕ) (new : Lists Notice) (n : ℕ) → q < length w.queues
    → total (with_queue w q new) n + tally (map object_of (queue_at w q).stands) n
    ≡ total w n + tally (map object_of new.stands) n
total-queue w q new n within =
    let set = tally-queue_set w.queues q new (new_queue q) n within in omega (arith, set)

-- ---- the kinds of rows

others_have : (v w : World) (who : Actor) → SameOthers v w → HasHand v who → HasHand w who
others_have v w (Mutator m) others has = rw others.mutators has
others_have v w (Worker k) others has = rw others.workers has

hand_heap : (w : World) (who : Actor) (hand : List Notice) → (with_hand w who hand).heap ≡ w.heap
hand_heap w (Mutator m) hand = refl
hand_heap w (Worker k) hand = refl

-- notices are given into an empty hand, with one hold more of what each reports
pub counted_given : (v w : World) (who : Actor) (notices : List Notice) → SameOthers v w → HasHand v who
    → hand_of v who ≡ [] → w.heap.holds ≡ more_of_each v.heap.holds notices → AreCounted v
    → AreCounted (taking w who notices)
counted_given v w who [] others has free held counted = grind arith
counted_given v w who (notice ∷ rest) others has free held counted =
    let hand : List Notice = notice ∷ rest in
    counted_by (with_hand w who hand) (λ n.
    let own = few_of v counted n in
    let same : total w n ≡ total v n = rw (others.mutators, others.workers, others.queues) refl in
    let set = total-hand w who hand n (others_have v w who others has) in
    let was = ap (λ (h : List Notice). tally (map object_of h) n) (same_hand v w who others ∙ free) in
    let more = tally-more_of_each v.heap.holds hand n in
    let holds = ap (λ hs. tally hs n) held in
    let still = ap (λ (h : Heap). tally h.holds n) (hand_heap w who hand) in
    omega (arith, own, same, set, was, more, holds, still))

-- a hand's first notice is spent, with one hold fewer of what it reported
pub counted_spent : (v w : World) (who : Actor) (notice : Notice) (rest : List Notice) → SameOthers v w → HasHand v who
    → hand_of v who ≡ notice ∷ rest → w.heap.holds ≡ one_fewer v.heap.holds notice.object → AreCounted v
    → AreCounted (with_hand w who rest)
counted_spent v w who notice rest others has full held counted =
    grind (arith, counted_by, few_of, total-hand, tally-one_fewer)

has_same : (v w : World) (who : Actor) → record w { queues = [] } ≡ record v { queues = [] } → HasHand v who
    → HasHand w who
has_same v w (Mutator m) is has = subst (λ (u : World). m < length u.mutator_hands) (sym is) has
has_same v w (Worker k) is has = subst (λ (u : World). k < length u.worker_hands) (sym is) has

hand_same : (v w : World) (who : Actor) → record w { queues = [] } ≡ record v { queues = [] }
    → hand_of w who ≡ hand_of v who
hand_same v w (Mutator m) is = ap (λ (u : World). slice_index_or u.mutator_hands m []) is
hand_same v w (Worker k) is = ap (λ (u : World). slice_index_or u.worker_hands k []) is

-- notices come to stand in their queues
pub standing_hands : (w : World) (notices : List Notice)
    → record (standing w notices) { queues = [] } ≡ record w { queues = [] }
standing_hands w [] = refl
standing_hands w (notice ∷ rest) =
    standing_hands (with_queue w notice.queue (with_parcel (queue_at w notice.queue) notice)) rest

total-standing : (w : World) (notices : List Notice) (n : ℕ) → AllByRecursion (λ x. x.queue < length w.queues) notices
    → total (standing w notices) n ≡ total w n + tally (map object_of notices) n
total-standing w [] n all = omega arith
total-standing w (notice ∷ rest) n all =
    let lists : Lists Notice = queue_at w notice.queue in
    let longer : Lists Notice = with_parcel lists notice in
    let next : World = with_queue w notice.queue longer in
    let later : AllByRecursion (λ (x : Notice). x.queue < length next.queues) rest =
    rw (length-set w.queues notice.queue longer) all.1 in
    let more = total-standing next rest n later in
    let placed = total-queue w notice.queue longer n all.0 in
    let grown : tally (map object_of longer.stands) n ≡ tally (map object_of lists.stands) n
    + tally (notice.object ∷ []) n =
    ap (λ ns. tally ns n) (map-append object_of lists.stands (notice ∷ []))
    ∙ tally-append (map object_of lists.stands) (notice.object ∷ []) n in
    let one = tally-first notice.object [] n in
    let split = tally-first notice.object (map object_of rest) n in
    omega (arith, more, placed, grown, one, split)

-- that became of a hand's notices: what was added of them stands in the queues
pub counted_put : (v : World) (who : Actor) (ds : List Done) → HasHand v who
    → AllByRecursion (λ (x : Notice). x.queue < length v.queues) (hand_of v who) → AreCounted v
    → AreCounted (put_in v who ds)
counted_put v who [] has within counted = counted
counted_put v who (d ∷ ds) has within counted =
    let hand : List Notice = hand_of v who in
    let added : List Notice = added_among hand (d ∷ ds) in
    let left : List Notice = not_added hand (d ∷ ds) in
    let w : World = standing v added in
    let same = standing_hands v added in
    let has_still : HasHand w who = has_same v w who same has in
    counted_by (put_in v who (d ∷ ds)) (λ n.
    let own = few_of v counted n in
    let stood = total-standing v added n (all_added (λ (x : Notice). x.queue < length v.queues) hand (d ∷ ds) within) in
    let set = total-hand w who left n has_still in
    let was = ap (λ (h : List Notice). tally (map object_of h) n) (hand_same v w who same) in
    let parts = tally-parts hand (d ∷ ds) n in
    let holds : tally (put_in v who (d ∷ ds)).heap.holds n ≡ tally v.heap.holds n =
    ap (λ (u : World). tally u.heap.holds n) (put_keeps v who (d ∷ ds)) in
    omega (arith, own, stood, set, was, parts, holds))

-- the first of a queue go into an empty hand
pub counted_took : (v : World) (m q : ℕ) (front rest : List Notice) → m < length v.mutator_hands
    → hand_of v (Mutator m) ≡ [] → q < length v.queues → (queue_at v q).stands ≡ front ++ rest → AreCounted v
    → AreCounted (took v m q (map object_of front))
counted_took v m q [] rest has free within first counted = counted
counted_took v m q (notice ∷ more) rest has free within first counted =
    let front : List Notice = notice ∷ more in
    let ns : List ℕ = map object_of front in
    let lists : Lists Notice = queue_at v q in
    let parts = took_front front rest in
    let found : notices_of lists.stands ns ≡ front = ap (λ (xs : List Notice). notices_of xs ns) first ∙ parts.0 in
    let left : (taken_out lists ns).stands ≡ rest = ap (λ (xs : List Notice). without_notices xs ns) first ∙ parts.1 in
    let w : World = with_queue v q (taken_out lists ns) in
    counted_by (took v m q ns) (λ n.
    let own = few_of v counted n in
    let was = ap (λ (h : List Notice). tally (map object_of h) n) free in
    let is = ap (λ (h : List Notice). tally (map object_of h) n) found in
    let set = tally-hand_set v.mutator_hands m (notices_of lists.stands ns) n has in
    let placed = total-queue v q (taken_out lists ns) n within in
    let before = ap (λ (xs : List Notice). tally (map object_of xs) n) first
    ∙ ap (λ ms. tally ms n) (map-append object_of front rest) ∙ tally-append ns (map object_of rest) n in
    let shorter = ap (λ (xs : List Notice). tally (map object_of xs) n) left in
    omega (arith, own, was, is, set, placed, before, shorter))

-- a queue is closed
pub counted_closed : (v : World) (q : ℕ) → q < length v.queues → AreCounted v → AreCounted (closed_queue v q)
counted_closed v q within counted =
    counted_by (closed_queue v q) (λ n.
    let own = few_of v counted n in
    let placed = total-queue v q (record (queue_at v q) { closed = true }) n within in
    omega (arith, own, placed))

-- ---- at first

no_hands : (count : ℕ) → in_hands (replicate count []) ≡ []
no_hands zero = refl
no_hands (suc count) = no_hands count

no_queues : (first count : ℕ) → in_queues (new_queues first count) ≡ []
no_queues first zero = refl
no_queues first (suc count) = no_queues (first + 1) count

-- a hand that holds a notice is there
pub holding_hand : (w : World) (who : Actor) (notice : Notice) (rest : List Notice) → hand_of w who ≡ notice ∷ rest
    → HasHand w who
holding_hand w (Mutator m) notice rest full =
    place_there w.mutator_hands m [] (λ none. let no = sym full ∙ none in absurd cc)
holding_hand w (Worker k) notice rest full =
    place_there w.worker_hands k [] (λ none. let no = sym full ∙ none in absurd cc)

-- the first notice in a hand is a hold that the heap counts
pub counted_hand : (w : World) (who : Actor) (notice : Notice) (rest : List Notice) → HasHand w who
    → hand_of w who ≡ notice ∷ rest → AreCounted w → has w.heap.holds notice.object ≡ true
counted_hand w who notice rest there full counted = grind (arith, tally-has, total-hand w who [], few_of w counted)

pub first_counted : (config : Config) → AreCounted (first_world config)
first_counted config = grind (arith, no_hands, no_queues)
