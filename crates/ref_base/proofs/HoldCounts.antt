-- How often each number stands in the lists of holds, hands and queues as these change.
use Rattle.ref_base.proofs.Common.{◌≡◌, ℕ, ◌+◌, ◌<◌, ◌≤◌, zero, suc, true, ◌==◌, if◌then◌else◌, List, [], ◌∷◌, ◌++◌}
use Rattle.ref_base.proofs.Common.{length, map, arith, slice_index_or, slice_set, has, one_more, one_fewer, Lists}
use Rattle.ref_base.proofs.Common.{Notice, object_of, tally, in_hands, in_queues, added_among, not_added, Done}
use Rattle.ref_base.specs.CountedHolds.{more_of_each}
use Rattle.ref_base.specs.declared.out.Done.TheVariants.{Added, Already, Closed, Refused}

-- one or none
abbrev pub one_if : ℕ → ℕ → ℕ
one_if m n = if m == n then 1 else 0

pub tally-first : (m : ℕ) (ms : List ℕ) (n : ℕ) → tally (m ∷ ms) n ≡ one_if m n + tally ms n
tally-first m ms n = grind arith

pub tally-append : (ms ns : List ℕ) (n : ℕ) → tally (ms ++ ns) n ≡ tally ms n + tally ns n
tally-append [] ns n = omega arith
tally-append (m ∷ ms) ns n = grind (arith, tally-append ms ns n)

-- what is counted is there
pub tally-has : (ms : List ℕ) (n : ℕ) → 1 ≤ tally ms n → has ms n ≡ true
tally-has [] n some = absurd (omega (arith, some))
tally-has (m ∷ ms) n some = grind (arith, tally-has ms n)

-- ---- holds

pub tally-one_more : (hs : List ℕ) (m n : ℕ) → tally (one_more hs m) n ≡ one_if m n + tally hs n
tally-one_more [] m n = tally-first m [] n
tally-one_more (h ∷ hs) m n = grind (arith, tally-one_more hs m n)

pub tally-more_of_each : (hs : List ℕ) (notices : List Notice) (n : ℕ)
    → tally (more_of_each hs notices) n ≡ tally (map object_of notices) n + tally hs n
tally-more_of_each hs [] n = omega arith
tally-more_of_each hs (notice ∷ rest) n =
    let more = tally-more_of_each (one_more hs notice.object) rest n in
    let one = tally-one_more hs notice.object n in
    let first = tally-first notice.object (map object_of rest) n in
    omega (arith, more, one, first)

-- what is added of some notices and what is left of them are all of them
pub tally-parts : (hand : List Notice) (ds : List Done) (n : ℕ)
    → tally (map object_of (added_among hand ds)) n + tally (map object_of (not_added hand ds)) n
    ≡ tally (map object_of hand) n
tally-parts [] [] n = omega arith
tally-parts [] (d ∷ ds) n = omega arith
tally-parts (notice ∷ hand) [] n = omega arith
tally-parts (notice ∷ hand) (Added ∷ ds) n =
    grind (arith, tally-first, tally-parts hand ds n)
tally-parts (notice ∷ hand) (Already ∷ ds) n =
    grind (arith, tally-first, tally-parts hand ds n)
tally-parts (notice ∷ hand) (Closed ∷ ds) n =
    grind (arith, tally-first, tally-parts hand ds n)
tally-parts (notice ∷ hand) (Refused fault ∷ ds) n =
    grind (arith, tally-first, tally-parts hand ds n)

pub tally-one_fewer : (hs : List ℕ) (m n : ℕ) → tally hs n ≤ one_if m n + tally (one_fewer hs m) n
tally-one_fewer [] m n = omega arith
tally-one_fewer (h ∷ hs) m n = grind (arith, tally-one_fewer hs m n)

-- ---- hands and queues

-- one hand is set
pub tally-hand_set : (hands : List (List Notice)) (k : ℕ) (hand : List Notice) (n : ℕ) → k < length hands
    → tally (in_hands (slice_set hands k hand)) n + tally (map object_of (slice_index_or hands k [])) n
    ≡ tally (in_hands hands) n + tally (map object_of hand) n
tally-hand_set [] k hand n within = absurd (omega (arith, within))
tally-hand_set (h ∷ hands) zero hand n within = grind (arith, tally-append)
tally-hand_set (h ∷ hands) (suc k) hand n within = grind (arith, tally-append, tally-hand_set hands k hand n)

-- one queue is
pub tally-queue_set : (qs : List (Lists Notice)) (k : ℕ) (q other : Lists Notice) (n : ℕ) → k < length qs
    → tally (in_queues (slice_set qs k q)) n + tally (map object_of (slice_index_or qs k other).stands) n
    ≡ tally (in_queues qs) n + tally (map object_of q.stands) n
tally-queue_set [] k q other n within = absurd (omega (arith, within))
tally-queue_set (p ∷ qs) zero q other n within = grind (arith, tally-append)
tally-queue_set (p ∷ qs) (suc k) q other n within = grind (arith, tally-append, tally-queue_set qs k q other n)
