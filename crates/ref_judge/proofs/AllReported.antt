-- In each state to which rows of a collector of any profile lead, each hold is a notice that is out.
use Rattle.ref_base.proofs.Common.{arith, ◌≡◌, ℕ, ◌+◌, ◌<◌, ◌≤◌, Bool, true, false, List, [], ◌∷◌, ◌++◌, map, length}
use Rattle.ref_base.proofs.Common.{take, Option, Some, None, refl, sym, ap, ◌∙◌, subst, inl, inr, and_parts, has, tally}
use Rattle.ref_base.proofs.Common.{in_hands, in_queues, one_fewer, holds_after, AllByRecursion, State, World, Notice}
use Rattle.ref_base.proofs.Common.{Pending, Lists, NamedStep, SameOthers, hand_of, queue_at, hold_of, object_of, handed}
use Rattle.ref_base.proofs.Common.{new_queue, with_hand, with_queue, with_parcel, with_rest, with_handed, rest_of}
use Rattle.ref_base.proofs.Common.{with_world}
use Rattle.ref_base.proofs.Common.{standing, put_in, took, taken_out, closed_queue, taking, added_among, not_added}
use Rattle.ref_base.proofs.Common.{notices_of, without_notices, notice_from, told_notices, one_handed, all_handed}
use Rattle.ref_base.proofs.Common.{batch_of, fits, pending_of, is_mutator, has_slot, refusal, spending}
use Rattle.ref_base.proofs.Common.{HeapAccepts, Gives, Unhooks, HandsOn, PutsInto, Puts, PutsAll, Polls, Closes}
use Rattle.ref_base.proofs.Common.{one_taken, map-append, length-set, slice_index_or, Heap, false≢true}
use Rattle.ref_base.specs.CountedHolds.{reported, more_of_each}
use Rattle.ref_base.specs.Members.{AreDistinct}
use Rattle.ref_base.specs.Refusals.{is_queue, is_worker, plain_refusal}
use Rattle.ref_base.specs.declared.actor.Actor.{Actor}
use Rattle.ref_base.specs.declared.actor.Actor.TheVariants.{Mutator, Worker}
use Rattle.ref_base.specs.declared.cause.Cause.TheVariants.{Own}
use Rattle.ref_base.specs.declared.config.Config.{Config}
use Rattle.ref_base.specs.declared.fault.Fault.{Fault}
use Rattle.ref_base.specs.declared.out.Done.{Done}
use Rattle.ref_base.specs.declared.out.Done.TheVariants.{Added}
use Rattle.ref_base.specs.declared.row.Row.{Row}
use Rattle.ref_base.specs.declared.reply.Reply.{Reply}
use Rattle.ref_base.specs.declared.reply.Reply.TheVariants as replies
use Rattle.ref_base.specs.declared.heap_step.HeapStep.TheVariants as heap
use Rattle.ref_base.specs.declared.plain_step.PlainStep.{PlainStep}
use Rattle.ref_base.specs.declared.plain_step.PlainStep.TheVariants as plain
use Rattle.ref_base.specs.declared.step.Step.{Step}
use Rattle.ref_base.specs.declared.step.Step.TheVariants as steps
use Rattle.ref_base.proofs.BatchParts.{all_added, tells_one, tells_all}
use Rattle.ref_base.proofs.CountedRows.{heap_holds}
use Rattle.ref_base.proofs.CountedTraces.{empty_hand}
use Rattle.ref_base.proofs.CountedWorlds.{standing_hands, holding_hand, counted_hand}
use Rattle.ref_base.proofs.Fitting.{with_scanned}
use Rattle.ref_base.proofs.HoldCounts.{tally-append, tally-first, tally-hand_set, tally-queue_set}
use Rattle.ref_base.proofs.HoldCounts.{tally-more_of_each, tally-parts}
use Rattle.ref_base.proofs.MarkEndRows.{distinct_behind}
use Rattle.ref_base.proofs.ReplayKeeps.{put_keeps}
use Rattle.ref_base.proofs.RowForms.{ticked_world, unless_passes}
use Rattle.ref_base.proofs.RowLaws.{heap_keeps, registered, mutator_within, worker_within, queue_within}
use Rattle.ref_base.proofs.SameOthers.{same_hand}
use Rattle.ref_base.proofs.SoundWorlds.{HasHand, IsSound}
use Rattle.ref_judge.specs.ProfiledRows.{IsRowAs, IsAnswerAs, AcceptsAnew, AcceptsAskingAs, PlainAcceptsAs}
use Rattle.ref_judge.specs.ProfiledRows.{AreTakenFrom, says_anew}
use Rattle.ref_judge.specs.Standing.{Lawful}
use Rattle.ref_judge.specs.declared.profile.Profile.{Profile}
use Rattle.ref_judge.proofs.LawfulRuns.{lawful_holds}
use Rattle.ref_judge.proofs.LawfulStates.{lawful_right}
use Rattle.ref_judge.proofs.RightWorlds.{IsRight, are_distinct}
use Rattle.ref_judge.proofs.TakenNotices.{taken_found, taken_stands, taken_tally}

-- none is held more often than it is reported
abbrev pub AreReported : World → Type 0
AreReported w = (n : ℕ) → tally w.heap.holds n ≤ tally (reported w) n

-- ---- what changes

reported_tally : (w : World) (n : ℕ)
    → tally (reported w) n
    ≡ tally (in_hands w.mutator_hands) n + tally (in_hands w.worker_hands) n + tally (in_queues w.queues) n
reported_tally w n = search tally-append

hand_tally : (w : World) (who : Actor) (hand : List Notice) (n : ℕ) → HasHand w who
    → tally (reported (with_hand w who hand)) n + tally (map object_of (hand_of w who)) n
    ≡ tally (reported w) n + tally (map object_of hand) n
hand_tally w (Mutator m) hand n has =
    let set = tally-hand_set w.mutator_hands m hand n has in
    let old = reported_tally w n in
    let new = reported_tally (with_hand w (Mutator m) hand) n in
    omega (arith, set, old, new)
hand_tally w (Worker k) hand n has =
    let set = tally-hand_set w.worker_hands k hand n has in
    let old = reported_tally w n in
    let new = reported_tally (with_hand w (Worker k) hand) n in
    omega (arith, set, old, new)

queue_tally : (w : World) (q : ℕ) (l : Lists Notice) (n : ℕ) → q < length w.queues
    → tally (reported (with_queue w q l)) n + tally (map object_of (queue_at w q).stands) n
    ≡ tally (reported w) n + tally (map object_of l.stands) n
queue_tally w q l n within =
    let set = tally-queue_set w.queues q l (new_queue q) n within in
    let old = reported_tally w n in
    let new = reported_tally (with_queue w q l) n in
    omega (arith, set, old, new)

fewer_tally : (hs : List ℕ) (m n : ℕ) → has hs m ≡ true → tally (one_fewer hs m) n + tally (m ∷ []) n ≡ tally hs n
fewer_tally [] m n h = absurd (false≢true h)
fewer_tally (k ∷ hs) m n h = grind (arith, tally-first, fewer_tally hs m n)

-- ---- hands

others_have : (v w : World) (who : Actor) → SameOthers v w → HasHand v who → HasHand w who
others_have v w (Mutator m) others has = rw others.mutators has
others_have v w (Worker k) others has = rw others.workers has

same_reported : (v w : World) (n : ℕ) → SameOthers v w → tally (reported w) n ≡ tally (reported v) n
same_reported v w n others = rw (others.mutators, others.workers, others.queues) refl

hand_heap : (w : World) (who : Actor) (hand : List Notice) → (with_hand w who hand).heap ≡ w.heap
hand_heap w (Mutator m) hand = refl
hand_heap w (Worker k) hand = refl

-- notices are given into an empty hand, with one hold more of what each reports
given_reported : (v w : World) (who : Actor) (notices : List Notice) → SameOthers v w → HasHand v who
    → hand_of v who ≡ [] → w.heap.holds ≡ more_of_each v.heap.holds notices → AreReported v
    → AreReported (taking w who notices)
given_reported v w who [] others there free held out n =
    let few = out n in
    let same = same_reported v w n others in
    let holds = ap (λ hs. tally hs n) held in
    omega (arith, few, same, holds)
given_reported v w who (notice ∷ rest) others there free held out n =
    let hand : List Notice = notice ∷ rest in
    let few = out n in
    let same = same_reported v w n others in
    let set = hand_tally w who hand n (others_have v w who others there) in
    let was = ap (λ (h : List Notice). tally (map object_of h) n) (same_hand v w who others ∙ free) in
    let more = tally-more_of_each v.heap.holds hand n in
    let holds = ap (λ hs. tally hs n) held in
    let still = ap (λ (h : Heap). tally h.holds n) (hand_heap w who hand) in
    omega (arith, few, same, set, was, more, holds, still)

-- a hand's first notice is spent, with one hold fewer of what it reported
spent_reported : (v w : World) (who : Actor) (notice : Notice) (rest : List Notice) → SameOthers v w → HasHand v who
    → hand_of v who ≡ notice ∷ rest → has v.heap.holds notice.object ≡ true
    → w.heap.holds ≡ one_fewer v.heap.holds notice.object → AreReported v → AreReported (with_hand w who rest)
spent_reported v w who notice rest others there full held fewer out n =
    let few = out n in
    let same = same_reported v w n others in
    let set = hand_tally w who rest n (others_have v w who others there) in
    let was = ap (λ (h : List Notice). tally (map object_of h) n) (same_hand v w who others ∙ full) in
    let first = tally-first notice.object (map object_of rest) n in
    let one = tally-first notice.object [] n in
    let less = fewer_tally v.heap.holds notice.object n held in
    let holds = ap (λ hs. tally hs n) fewer in
    let still = ap (λ (h : Heap). tally h.holds n) (hand_heap w who rest) in
    omega (arith, few, same, set, was, first, one, less, holds, still)

-- ---- queues

-- notices come to stand in their queues
standing_tally : (w : World) (notices : List Notice) (n : ℕ) → AllByRecursion (λ x. x.queue < length w.queues) notices
    → tally (reported (standing w notices)) n ≡ tally (reported w) n + tally (map object_of notices) n
standing_tally w [] n all = omega arith
standing_tally w (notice ∷ rest) n all =
    let lists : Lists Notice = queue_at w notice.queue in
    let longer : Lists Notice = with_parcel lists notice in
    let next : World = with_queue w notice.queue longer in
    let later : AllByRecursion (λ (x : Notice). x.queue < length next.queues) rest =
    rw (length-set w.queues notice.queue longer) all.1 in
    let more = standing_tally next rest n later in
    let placed = queue_tally w notice.queue longer n all.0 in
    let grown : tally (map object_of longer.stands) n ≡ tally (map object_of lists.stands) n
    + tally (notice.object ∷ []) n =
    ap (λ ns. tally ns n) (map-append object_of lists.stands (notice ∷ []))
    ∙ tally-append (map object_of lists.stands) (notice.object ∷ []) n in
    let one = tally-first notice.object [] n in
    let split = tally-first notice.object (map object_of rest) n in
    omega (arith, more, placed, grown, one, split)

has_same : (v w : World) (who : Actor) → record w { queues = [] } ≡ record v { queues = [] } → HasHand v who
    → HasHand w who
has_same v w (Mutator m) is there = subst (λ (u : World). m < length u.mutator_hands) (sym is) there
has_same v w (Worker k) is there = subst (λ (u : World). k < length u.worker_hands) (sym is) there

hand_same : (v w : World) (who : Actor) → record w { queues = [] } ≡ record v { queues = [] }
    → hand_of w who ≡ hand_of v who
hand_same v w (Mutator m) is = ap (λ (u : World). slice_index_or u.mutator_hands m []) is
hand_same v w (Worker k) is = ap (λ (u : World). slice_index_or u.worker_hands k []) is

-- that became of a hand's notices: what was added of them stands in the queues
put_reported : (v : World) (who : Actor) (ds : List Done) → HasHand v who
    → AllByRecursion (λ (x : Notice). x.queue < length v.queues) (hand_of v who) → AreReported v
    → AreReported (put_in v who ds)
put_reported v who [] there within out n = out n
put_reported v who (d ∷ ds) there within out n =
    let hand : List Notice = hand_of v who in
    let added : List Notice = added_among hand (d ∷ ds) in
    let left : List Notice = not_added hand (d ∷ ds) in
    let w : World = standing v added in
    let same = standing_hands v added in
    let few = out n in
    let stood = standing_tally v added n (all_added (λ (x : Notice). x.queue < length v.queues) hand (d ∷ ds) within) in
    let set = hand_tally w who left n (has_same v w who same there) in
    let was = ap (λ (h : List Notice). tally (map object_of h) n) (hand_same v w who same) in
    let parts = tally-parts hand (d ∷ ds) n in
    let holds : tally (put_in v who (d ∷ ds)).heap.holds n ≡ tally v.heap.holds n =
    ap (λ (u : World). tally u.heap.holds n) (put_keeps v who (d ∷ ds)) in
    omega (arith, few, stood, set, was, parts, holds)

-- notices that stand in a queue go into an empty hand
took_reported : (w : World) (m q : ℕ) (notice : Notice) (more : List Notice) → m < length w.mutator_hands
    → hand_of w (Mutator m) ≡ [] → q < length w.queues → AreTakenFrom (queue_at w q).stands (notice ∷ more)
    → AreReported w → AreReported (took w m q (map object_of (notice ∷ more)))
took_reported w m q notice more there free within are out n =
    let taken : List Notice = notice ∷ more in
    let ns : List ℕ = map object_of taken in
    let l : Lists Notice = queue_at w q in
    let rest : List Notice = without_notices l.stands ns in
    let u : World = with_queue w q (taken_out l ns) in
    let few = out n in
    let placed = queue_tally w q (taken_out l ns) n within in
    let set = hand_tally u (Mutator m) (notices_of l.stands ns) n there in
    let was = ap (λ (h : List Notice). tally (map object_of h) n) free in
    let found = ap (λ (h : List Notice). tally (map object_of h) n) (taken_found l.stands taken are) in
    let split : tally (map object_of (taken ++ rest)) n ≡ tally ns n + tally (map object_of rest) n =
    ap (λ ms. tally ms n) (map-append object_of taken rest) ∙ tally-append ns (map object_of rest) n in
    let whole = taken_tally l.stands taken n are in
    omega (arith, few, placed, set, was, found, split, whole)

closed_reported : (w : World) (q : ℕ) → q < length w.queues → AreReported w → AreReported (closed_queue w q)
closed_reported w q within out n =
    let few = out n in
    let placed = queue_tally w q (record (queue_at w q) { closed = true }) n within in
    omega (arith, few, placed)

-- ---- the forms of a row

in_world : (b : State) (w : World) → b.world ≡ w → AreReported w → AreReported b.world
in_world b w is out = subst AreReported (sym is) out

given : (c b : State) (answer reply : Reply) → Gives answer c reply b → AreReported c.world → AreReported b.world
given c b answer reply gives out = in_world b c.world (ap (λ (s : State). s.world) gives.1 ∙ ticked_world c) out

-- a row of the heap that gives notices into an empty hand, if it gives any
gives_notices : (a c b : State) (who : Actor) (notices : List Notice) (asked : NamedStep) (step : Step)
    (answer reply : Reply) → SameOthers a.world c.world → HasHand a.world who → hand_of a.world who ≡ []
    → c.world.heap.holds ≡ holds_after a.world.heap.holds asked reply → reply ≡ answer
    → holds_after a.world.heap.holds asked answer ≡ more_of_each a.world.heap.holds notices
    → handed c.world step answer ≡ taking c.world who notices → b ≡ with_handed c step reply
    → AreReported a.world → AreReported b.world
gives_notices a c b who notices asked step answer reply others there free held is more into left out =
    in_world b (taking c.world who notices)
    (ap (λ (s : State). s.world) left ∙ ap (handed c.world step) is ∙ into)
    (given_reported a.world c.world who notices others there free
    (held ∙ ap (holds_after a.world.heap.holds asked) is ∙ more) out)

unhooks : (a c b : State) (m s : ℕ) (held queue : Option ℕ) (reply : Reply) → SameOthers a.world c.world
    → m < length a.world.mutator_hands → hand_of a.world (Mutator m) ≡ []
    → c.world.heap.holds ≡ holds_after a.world.heap.holds (heap.Unhook m s) reply
    → Unhooks a m s held queue reply c → b ≡ with_handed c (steps.Unhook m s) reply → AreReported a.world
    → AreReported b.world
unhooks a c b m s None queue reply others there free holds row left out =
    gives_notices a c b (Mutator m) [] (heap.Unhook m s) (steps.Unhook m s) replies.Nothing reply others there free
    holds row.0 refl refl left out
unhooks a c b m s (Some n) None reply others there free holds row left out =
    gives_notices a c b (Mutator m) [] (heap.Unhook m s) (steps.Unhook m s) replies.Nothing reply others there free
    holds row.0 refl refl left out
unhooks a c b m s (Some n) (Some q) reply others there free holds row left out =
    gives_notices a c b (Mutator m) (record { object = n; queue = q; cause = Own } ∷ []) (heap.Unhook m s)
    (steps.Unhook m s) (replies.Notice n q Own) reply others there free holds row.0 refl refl left out

hands : (a c b : State) (k : ℕ) (asked : NamedStep) (step : Step) (answer : Reply) (ps : List Pending) (reply : Reply)
    → SameOthers a.world c.world → k < length a.world.worker_hands → hand_of a.world (Worker k) ≡ []
    → c.world.heap.holds ≡ holds_after a.world.heap.holds asked reply
    → holds_after a.world.heap.holds asked answer ≡ more_of_each a.world.heap.holds (told_notices answer)
    → handed c.world step answer ≡ taking c.world (Worker k) (told_notices answer)
    → told_notices answer ≡ map (notice_from k) ps → HandsOn a k answer ps reply c → b ≡ with_handed c step reply
    → AreReported a.world → AreReported b.world
hands a c b k asked step answer ps reply others there free holds more into tells row left out =
    gives_notices a c b (Worker k) (map (notice_from k) ps) asked step answer reply others there free holds row.0
    (more ∙ ap (more_of_each a.world.heap.holds) tells) (into ∙ ap (taking c.world (Worker k)) tells) left out

-- one that spends a hand's first notice
spends : (a c b : State) (who : Actor) (notice : Notice) (rest : List Notice) (asked : NamedStep) (step : Step)
    (answer reply : Reply) → IsRight a.world → SameOthers a.world c.world → hand_of a.world who ≡ notice ∷ rest
    → c.world.heap.holds ≡ holds_after a.world.heap.holds asked reply → reply ≡ answer
    → holds_after a.world.heap.holds asked answer ≡ one_fewer a.world.heap.holds notice.object
    → handed c.world step answer ≡ with_rest c.world who → b ≡ with_handed c step reply → AreReported a.world
    → AreReported b.world
spends a c b who notice rest asked step answer reply right others full held is fewer spends_it left out =
    let there = holding_hand a.world who notice rest full in
    in_world b (with_hand c.world who rest)
    (ap (λ (s : State). s.world) left ∙ ap (handed c.world step) is
    ∙ spends_it
    ∙ ap (λ (hand : List Notice). with_hand c.world who (rest_of hand)) (same_hand a.world c.world who others ∙ full))
    (spent_reported a.world c.world who notice rest others there full
    (counted_hand a.world who notice rest there full right.counted)
    (held ∙ ap (holds_after a.world.heap.holds asked) is ∙ fewer) out)

-- ---- rows of queues

-- a hand names queues that are there
hand_within : (w : World) (who : Actor) → IsSound w
    → AllByRecursion (λ (x : Notice). x.queue < length w.queues) (hand_of w who)
hand_within w who sound =
    subst (λ count. AllByRecursion (λ (x : Notice). x.queue < count) (hand_of w who)) (sym sound.queues)
    (sound.hands_below who)

puts_into : (a b : State) (who : Actor) (notice : Notice) (rest : List Notice) (again shut : Bool) (reply : Reply)
    → IsSound a.world → HasHand a.world who → PutsInto again shut a who notice rest reply b → AreReported a.world
    → AreReported b.world
puts_into a b who notice rest true shut reply sound there row out = given a b replies.Already reply row out
puts_into a b who notice rest false true reply sound there row out = given a b replies.Closed reply row out
puts_into a b who notice rest false false reply sound there row out =
    elim row [
      | inl added ↦
          given (with_world a (put_in a.world who (Added ∷ []))) b _ reply added
          (put_reported a.world who (Added ∷ []) there (hand_within a.world who sound) out)
      | inr refused ↦ in_world b a.world (ap (λ (s : State). s.world) refused.1) out
    ]

puts : (a b : State) (who : Actor) (hand : List Notice) (reply : Reply) → IsSound a.world → hand_of a.world who ≡ hand
    → Puts a who hand reply b → AreReported a.world → AreReported b.world
puts a b who [] reply sound is row out = absurd row
puts a b who (notice ∷ rest) reply sound is row out =
    puts_into a b who notice rest _ _ reply sound (holding_hand a.world who notice rest is) row out

puts_all : (a b : State) (who : Actor) (hand : List Notice) (reply : Reply) → IsSound a.world
    → hand_of a.world who ≡ hand → PutsAll a who hand reply b → AreReported a.world → AreReported b.world
puts_all a b who [] reply sound is row out = absurd row
puts_all a b who (notice ∷ rest) reply sound is row out =
    given (with_world a (put_in a.world who row.0.done)) b (replies.Outs row.0) reply row.3
    (put_reported a.world who row.0.done (holding_hand a.world who notice rest is) (hand_within a.world who sound) out)

polls : (a b : State) (m q : ℕ) (tell : List ℕ → Reply) (taken : List Notice) (reply : Reply)
    → m < length a.world.mutator_hands → hand_of a.world (Mutator m) ≡ [] → q < length a.world.queues
    → AreTakenFrom (queue_at a.world q).stands taken → Polls a m q tell taken reply b → AreReported a.world
    → AreReported b.world
polls a b m q tell [] reply there free within are row out = given a b _ reply row out
polls a b m q tell (notice ∷ more) reply there free within are row out =
    let ns : List ℕ = map object_of (notice ∷ more) in
    given (with_world a (took a.world m q ns)) b (tell ns) reply row
    (took_reported a.world m q notice more there free within are out)

closes : (a b : State) (q : ℕ) (shut : Bool) (reply : Reply) → q < length a.world.queues → Closes a q shut reply b
    → AreReported a.world → AreReported b.world
closes a b q true reply within row out = given a b _ reply row out
closes a b q false reply within row out =
    given (with_world a (closed_queue a.world q)) b replies.Done reply row (closed_reported a.world q within out)

-- ---- rows

module _ (p : Profile) (a b : State) (right : IsRight a.world) (out : AreReported a.world) where
  stood_once : (q : ℕ) → AreDistinct (map object_of (queue_at a.world q).stands)
  stood_once q =
      distinct_behind (queue_at a.world q).taken (map object_of (queue_at a.world q).stands)
      (are_distinct _ (right.once q))

  plain_accepted : (c : State) (step : PlainStep) (reply : Reply) → plain_refusal a step ≡ None
      → HeapAccepts a (heap.Plain step) reply c → AreReported c.world
  plain_accepted c step reply none row n =
      let few = out n in
      let keeps = heap_keeps a c (heap.Plain step) reply (registered a (heap.Plain step) none) row in
      let same = same_reported a.world c.world n keeps.others in
      let holds = ap (λ hs. tally hs n) (heap_holds a c (heap.Plain step) reply row) in
      omega (arith, few, same, holds)

  anew_reported : (anew : Bool) (step : PlainStep) (reply : Reply) → plain_refusal a step ≡ None
      → AcceptsAnew p anew a step reply b → AreReported b.world
  anew_reported true step reply none row =
      in_world b row.0.world (ap (λ (s : State). s.world) row.2.1) (plain_accepted row.0 step reply none row.1)
  anew_reported false step reply none row = plain_accepted b step reply none row

  plain_reported : (step : PlainStep) (reply : Reply) → plain_refusal a step ≡ None → PlainAcceptsAs p a step reply b
      → AreReported b.world
  plain_reported (plain.Scan k) (replies.Scanned n) none row =
      in_world b a.world (ap (λ (s : State). s.world) row.2.1 ∙ ticked_world (with_scanned a k n)) out
  plain_reported (plain.Scan k) reply none row = plain_accepted b (plain.Scan k) reply none row
  plain_reported plain.EndMark reply none row =
      subst (λ (s : State). AreReported s.world) (sym row.after) out
  plain_reported step reply none row = anew_reported (says_anew a step reply) step reply none row

  adopts : (m d : ℕ) (hand : List Notice) (reply : Reply) → hand_of a.world (Mutator m) ≡ hand
      → AcceptsAskingAs p a (spending a.world (λ hold. heap.Adopt m d hold) hand) (steps.Adopt m d) reply b
      → AreReported b.world
  adopts m d [] reply is row = absurd row
  adopts m d (notice ∷ rest) reply is row =
      let asked : NamedStep = heap.Adopt m d (hold_of a.world notice) in
      let keeps = heap_keeps a row.0 asked reply tt row.1 in
      spends a row.0 b (Mutator m) notice rest asked (steps.Adopt m d) (replies.Object notice.object) reply right
      keeps.others is (heap_holds a row.0 asked reply row.1) row.1.0 refl refl row.2 out

  releases : (who : Actor) (hand : List Notice) (reply : Reply) → hand_of a.world who ≡ hand
      → AcceptsAskingAs p a (spending a.world (λ hold. heap.Release hold) hand) (steps.Release who) reply b
      → AreReported b.world
  releases who [] reply is row = absurd row
  releases who (notice ∷ rest) reply is row =
      let asked : NamedStep = heap.Release (hold_of a.world notice) in
      let keeps = heap_keeps a row.0 asked reply tt row.1 in
      spends a row.0 b who notice rest asked (steps.Release who) replies.Done reply right keeps.others is
      (heap_holds a row.0 asked reply row.1) row.1.0 refl refl row.2 out

  step_reported : (step : Step) (reply : Reply) → refusal a step ≡ None → IsAnswerAs p a None step reply b
      → AreReported b.world
  step_reported (steps.Plain step) reply none row =
      plain_reported step reply none
      (subst (λ (s : State). PlainAcceptsAs p a step reply s) (sym row.2) row.1)
  step_reported (steps.Unhook m s) reply none row =
      let first = unless_passes (has_slot a.world.heap m s) _ _ none in
      let both = and_parts (is_mutator a.world.heap m) _ first.0 in
      let keeps = heap_keeps a row.0 (heap.Unhook m s) reply tt row.1 in
      unhooks a row.0 b m s _ _ reply keeps.others (mutator_within a.world m right.sound both.0)
      (empty_hand (hand_of a.world (Mutator m)) _ first.1) (heap_holds a row.0 (heap.Unhook m s) reply row.1) row.1
      row.2 out
  step_reported (steps.Put who) reply none row = puts a b who (hand_of a.world who) reply right.sound refl row out
  step_reported (steps.Puts who) reply none row = puts_all a b who (hand_of a.world who) reply right.sound refl row out
  step_reported (steps.Poll m q) reply none row =
      let first = unless_passes (is_mutator a.world.heap m) _ _ none in
      let second = unless_passes (is_queue a.world.heap q) _ _ first.1 in
      polls a b m q one_taken row.0 reply (mutator_within a.world m right.sound first.0)
      (empty_hand (hand_of a.world (Mutator m)) None second.1) (queue_within a.world q right.sound second.0)
      (taken_stands p.order 1 (queue_at a.world q).stands row.0 (stood_once q) row.1) row.2 out
  step_reported (steps.Polls m q max) reply none row =
      let first = unless_passes (is_mutator a.world.heap m) _ _ none in
      let second = unless_passes (is_queue a.world.heap q) _ _ first.1 in
      let third = unless_passes (fits max (length (hand_of a.world (Mutator m)))) _ _ second.1 in
      polls a b m q replies.TookSome row.0 reply (mutator_within a.world m right.sound first.0)
      (empty_hand (hand_of a.world (Mutator m)) None third.1) (queue_within a.world q right.sound second.0)
      (taken_stands p.order max (queue_at a.world q).stands row.0 (stood_once q) row.1) row.2 out
  step_reported (steps.Adopt m d) reply none row = adopts m d (hand_of a.world (Mutator m)) reply refl row
  step_reported (steps.Release who) reply none row = releases who (hand_of a.world who) reply refl row
  step_reported (steps.Close m q) reply none row =
      let first = unless_passes (is_mutator a.world.heap m) _ _ none in
      let second = unless_passes (is_queue a.world.heap q) _ _ first.1 in
      closes a b q (queue_at a.world q).closed reply (queue_within a.world q right.sound second.0) row out
  step_reported (steps.Hand k) reply none row =
      let first = unless_passes (is_worker a.world.heap k) _ _ none in
      let ps = pending_of a.world k in
      let keeps = heap_keeps a row.0 (heap.Hand k) reply tt row.1 in
      hands a row.0 b k (heap.Hand k) (steps.Hand k) (one_handed k (take 1 ps)) (take 1 ps) reply keeps.others
      (worker_within a.world k right.sound first.0) (empty_hand (hand_of a.world (Worker k)) _ first.1)
      (heap_holds a row.0 (heap.Hand k) reply row.1) refl refl (tells_one k ps) row.1 row.2 out
  step_reported (steps.Hands k max) reply none row =
      let first = unless_passes (is_worker a.world.heap k) _ _ none in
      let second = unless_passes (fits max (length (hand_of a.world (Worker k)))) _ _ first.1 in
      let ps = pending_of a.world k in
      let asked : NamedStep = heap.Hands k max [] in
      let keeps = heap_keeps a row.0 asked reply tt row.1 in
      hands a row.0 b k asked (steps.Hands k max) (all_handed k (batch_of max ps)) (batch_of max ps) reply keeps.others
      (worker_within a.world k right.sound first.0) (empty_hand (hand_of a.world (Worker k)) _ second.1)
      (heap_holds a row.0 asked reply row.1) refl refl (tells_all k max ps) row.1 row.2 out

  row_reported : (row : Row) → IsRowAs p a row b → AreReported b.world
  row_reported row h = of_fault (refusal a row.step) refl h
    where
      of_fault : (fault : Option Fault) → refusal a row.step ≡ fault → IsAnswerAs p a fault row.step row.reply b
          → AreReported b.world
      of_fault (Some fault) is refused = in_world b a.world (ap (λ (s : State). s.world) refused.1) out
      of_fault None is accepted = step_reported row.step row.reply is accepted

pub lawful_reported : (p : Profile) (config : Config) (a : State) → Lawful p config a → AreReported a.world
lawful_reported p config =
    lawful_holds p config (λ a. AreReported a.world) (λ n. omega arith)
    (λ a b row lawful out h. row_reported p a b (lawful_right p config a lawful) out row h)
