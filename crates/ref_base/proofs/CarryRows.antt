-- What a row of the world carries on: whatever holds of each object, of each notice that is out or will be given, and
-- of the cycle holds afterwards where it holds of what the row makes anew.
use Rattle.ref_base.proofs.Common.{arith, ◌≡◌, ℕ, Bool, true, false, List, [], ◌∷◌, Option, Some, None, refl}
use Rattle.ref_base.proofs.Common.{sym, ap, ◌∙◌, subst, inl, inr, AllByRecursion, Object, slot_at, reference_at}
use Rattle.ref_base.proofs.Common.{registered_in, Lists, with_parcel, World, Notice, Pending, first_world}
use Rattle.ref_base.proofs.Common.{object_of, hand_of, queue_at, pending_of, with_hand, NamedStep, hold_of, spending}
use Rattle.ref_base.proofs.Common.{handed, put_in, notice_of, State, with_world, with_handed, AcceptsAsking, Unhooks}
use Rattle.ref_base.proofs.Common.{HandsOn, PutsInto, Puts, Polls, Closes, Accepts, IsAnswer, IsRow, reference_of}
use Rattle.ref_base.proofs.Common.{refusal, Config, Actor, Mutator, Worker, Own, Fault, Step, Reply, Row}
use Rattle.ref_base.proofs.Common.{heap_step, rest_of, with_rest}
use Rattle.ref_base.proofs.Places.{all_push, all_rest}
use Rattle.ref_base.proofs.RowForms.{asked_of}
use Rattle.ref_base.proofs.SoundWorlds.{first_queue, first_hand, first_pending}
use Rattle.ref_base.proofs.CarryLaws.{Carries, Lasts, all_without_first, carries_hand, carries_queue}
use Rattle.ref_base.proofs.Common.{map, take, notice_from, told_notices, taking, standing, with_queue, added_among}
use Rattle.ref_base.proofs.Common.{not_added, Done, took, taken_out, notices_of, without_notices, PutsAll, one_taken}
use Rattle.ref_base.proofs.Common.{one_handed, all_handed, batch_of}
use Rattle.ref_base.specs.Members.{without_first}
use Rattle.ref_base.specs.declared.out.Done.TheVariants.{Added}
use Rattle.ref_base.proofs.BatchParts.{all_joined, all_added, all_left, all_take, all_batch, all_given, tells_one}
use Rattle.ref_base.proofs.BatchParts.{tells_all}
use Rattle.ref_base.proofs.CarryLaws.{in_world, given}
use Rattle.ref_base.proofs.CarryHeaps.{Anew, heap_carries}
use Rattle.ref_base.specs.declared.heap_step.HeapStep.TheVariants as heap
use Rattle.ref_base.specs.declared.step.Step.TheVariants as steps
use Rattle.ref_base.specs.declared.reply.Reply.TheVariants as replies

-- the notice of that number among these is one of them
pub all_notice_of : (P : Notice → Type 0) (notices : List Notice) (n : ℕ) → AllByRecursion P notices
    → AllByRecursion P (notice_of notices n)
all_notice_of P [] n all = tt
all_notice_of P (notice ∷ rest) n all = grind (arith, all_notice_of P rest n all.1)

pub all_notices_of : (P : Notice → Type 0) (notices : List Notice) (ns : List ℕ) → AllByRecursion P notices
    → AllByRecursion P (notices_of notices ns)
all_notices_of P notices [] all = tt
all_notices_of P notices (n ∷ ns) all =
    all_joined P (notice_of notices n) (notices_of (without_first object_of notices n) ns)
    (all_notice_of P notices n all)
    (all_notices_of P (without_first object_of notices n) ns (all_without_first P object_of notices n all))

all_without_notices : (P : Notice → Type 0) (notices : List Notice) (ns : List ℕ) → AllByRecursion P notices
    → AllByRecursion P (without_notices notices ns)
all_without_notices P notices [] all = all
all_without_notices P notices (n ∷ ns) all =
    all_without_notices P (without_first object_of notices n) ns (all_without_first P object_of notices n all)

left_by : (c b : State) (step : Step) (answer reply : Reply) → reply ≡ answer → b ≡ with_handed c step reply
    → b.world ≡ handed c.world step answer
left_by c b step answer reply is left =
    ap (λ (s : State). s.world) left ∙ ap (λ (r : Reply). handed c.world step r) is

module _ (O : Object → Type 0) (P : Notice → Type 0) (C : ℕ → Type 0) where
  -- what a row makes anew: an object, a pending reference, or a notice of a reference that was unhooked
  abbrev pub Mints : State → Step → Reply → Type 0
  Mints a (steps.Plain step) reply = Anew O P C a (heap.Plain step) reply
  Mints a (steps.Unhook m s) reply =
      (n q : ℕ) → reply ≡ replies.Notice n q Own → registered_in (reference_at a.world.heap n) ≡ Some q
      → P (record { object = n; queue = q; cause = Own })
  Mints a step reply = Unit {0}

  -- ---- queues

  stands_carries : (w : World) (notices : List Notice) → AllByRecursion P notices → Carries O P C w
      → Carries O P C (standing w notices)
  stands_carries w [] all carries = carries
  stands_carries w (notice ∷ rest) all carries =
      let lists : Lists Notice = queue_at w notice.queue in
      stands_carries (with_queue w notice.queue (with_parcel lists notice)) rest all.1
      (carries_queue O P C w notice.queue (with_parcel lists notice)
      (all_push P lists.stands notice (carries.stands notice.queue) all.0) carries)

  -- what holds of each notice holds of a hand's
  pub hand_carries : (w : World) (who : Actor) → Carries O P C w → AllByRecursion P (hand_of w who)
  hand_carries w (Mutator m) carries = carries.of_mutators m
  hand_carries w (Worker k) carries = carries.of_workers k

  put_carries : (w : World) (who : Actor) (ds : List Done) → Carries O P C w → Carries O P C (put_in w who ds)
  put_carries w who [] carries = carries
  put_carries w who (d ∷ ds) carries =
      let hand : List Notice = hand_of w who in
      let all = hand_carries w who carries in
      carries_hand O P C (standing w (added_among hand (d ∷ ds))) who (not_added hand (d ∷ ds))
      (all_left P hand (d ∷ ds) all)
      (stands_carries w (added_among hand (d ∷ ds)) (all_added P hand (d ∷ ds) all) carries)

  took_carries : (w : World) (m q : ℕ) (ns : List ℕ) → Carries O P C w → Carries O P C (took w m q ns)
  took_carries w m q [] carries = carries
  took_carries w m q (n ∷ ns) carries =
      let lists : Lists Notice = queue_at w q in
      carries_hand O P C (with_queue w q (taken_out lists (n ∷ ns))) (Mutator m) (notices_of lists.stands (n ∷ ns))
      (all_notices_of P lists.stands (n ∷ ns) (carries.stands q))
      (carries_queue O P C w q (taken_out lists (n ∷ ns)) (all_without_notices P lists.stands (n ∷ ns) (carries.stands
      q))
      carries)

  puts_into : (a b : State) (who : Actor) (notice : Notice) (rest : List Notice) (again shut : Bool) (reply : Reply)
      → Carries O P C a.world → PutsInto again shut a who notice rest reply b → Carries O P C b.world
  puts_into a b who notice rest true shut reply carries row = given O P C a b replies.Already reply row carries
  puts_into a b who notice rest false true reply carries row = given O P C a b replies.Closed reply row carries
  puts_into a b who notice rest false false reply carries row =
      elim row [
        | inl added ↦
            given O P C (with_world a (put_in a.world who (Added ∷ []))) b _ reply added
            (put_carries a.world who (Added ∷ []) carries)
        | inr refused ↦ in_world O P C b a.world (ap (λ (s : State). s.world) refused.1) carries
      ]

  puts : (a b : State) (who : Actor) (hand : List Notice) (reply : Reply) → Carries O P C a.world
      → Puts a who hand reply b → Carries O P C b.world
  puts a b who [] reply carries row = absurd row
  puts a b who (notice ∷ rest) reply carries row = puts_into a b who notice rest _ _ reply carries row

  puts_all : (a b : State) (who : Actor) (hand : List Notice) (reply : Reply) → Carries O P C a.world
      → PutsAll a who hand reply b → Carries O P C b.world
  puts_all a b who [] reply carries row = absurd row
  puts_all a b who (notice ∷ rest) reply carries row =
      given O P C (with_world a (put_in a.world who row.0.done)) b (replies.Outs row.0) reply row.3
      (put_carries a.world who row.0.done carries)

  polls : (a b : State) (m q : ℕ) (tell : List ℕ → Reply) (stands : List Notice) (reply : Reply)
      → Carries O P C a.world → Polls a m q tell stands reply b → Carries O P C b.world
  polls a b m q tell [] reply carries row = given O P C a b _ reply row carries
  polls a b m q tell (notice ∷ rest) reply carries row =
      let ns : List ℕ = map object_of (notice ∷ rest) in
      given O P C (with_world a (took a.world m q ns)) b (tell ns) reply row (took_carries a.world m q ns carries)

  closes : (a b : State) (q : ℕ) (shut : Bool) (reply : Reply) → Carries O P C a.world → Closes a q shut reply b
      → Carries O P C b.world
  closes a b q true reply carries row = given O P C a b replies.Closed reply row carries
  closes a b q false reply carries row = search (given, carries_queue, carries.stands q)

  -- ---- hands

  -- a row that gives this to a hand
  hands_over : (c b : State) (who : Actor) (hand : List Notice) (step : Step) (answer reply : Reply)
      → handed c.world step answer ≡ with_hand c.world who hand → AllByRecursion P hand → reply ≡ answer
      → b ≡ with_handed c step reply → Carries O P C c.world → Carries O P C b.world
  hands_over c b who hand step answer reply into is told left carries =
      in_world O P C b (with_hand c.world who hand) (left_by c b step answer reply told left ∙ into)
      (carries_hand O P C c.world who hand is carries)

  -- and one that leaves the hands
  hands_none : (c b : State) (step : Step) (answer reply : Reply) → handed c.world step answer ≡ c.world
      → reply ≡ answer → b ≡ with_handed c step reply → Carries O P C c.world → Carries O P C b.world
  hands_none c b step answer reply still told left carries =
      in_world O P C b c.world (left_by c b step answer reply told left ∙ still) carries

  unhooks : (a c b : State) (m s : ℕ) (held queue : Option ℕ) (reply : Reply) → Mints a (steps.Unhook m s) reply
      → registered_in (reference_of a.world.heap held) ≡ queue → Unhooks a m s held queue reply c
      → b ≡ with_handed c (steps.Unhook m s) reply → Carries O P C c.world → Carries O P C b.world
  unhooks a c b m s None queue reply mints is row left carries =
      hands_none c b (steps.Unhook m s) replies.Nothing reply refl row.0 left carries
  unhooks a c b m s (Some n) None reply mints is row left carries =
      hands_none c b (steps.Unhook m s) replies.Nothing reply refl row.0 left carries
  unhooks a c b m s (Some n) (Some q) reply mints is row left carries =
      hands_over c b (Mutator m) (record { object = n; queue = q; cause = Own } ∷ []) (steps.Unhook m s)
      (replies.Notice n q Own) reply refl (mints n q row.0 is, tt) row.0 left carries

  takes : (w : World) (who : Actor) (notices : List Notice) → AllByRecursion P notices → Carries O P C w
      → Carries O P C (taking w who notices)
  takes w who [] all carries = carries
  takes w who (notice ∷ rest) all carries = carries_hand O P C w who (notice ∷ rest) all carries

  hands : (a c b : State) (k : ℕ) (step : Step) (answer : Reply) (ps : List Pending) (reply : Reply)
      → ((w : World) (r : Reply) → handed w step r ≡ taking w (Worker k) (told_notices r))
      → told_notices answer ≡ map (notice_from k) ps → AllByRecursion (λ p. P (notice_from k p)) ps
      → HandsOn a k answer ps reply c → b ≡ with_handed c step reply → Carries O P C c.world → Carries O P C b.world
  hands a c b k step answer ps reply into tells all row left carries =
      in_world O P C b (taking c.world (Worker k) (map (notice_from k) ps))
      (left_by c b step answer reply row.0 left ∙ into c.world answer ∙ ap (taking c.world (Worker k)) tells)
      (takes c.world (Worker k) (map (notice_from k) ps) (all_given P k ps all) carries)

  -- a row that takes the first from a hand
  hands_back : (c b : State) (who : Actor) (step : Step) (answer reply : Reply)
      → handed c.world step answer ≡ with_rest c.world who → reply ≡ answer → b ≡ with_handed c step reply
      → Carries O P C c.world → Carries O P C b.world
  hands_back c b who step answer reply shorter told left carries =
      hands_over c b who (rest_of (hand_of c.world who)) step answer reply shorter
      (all_rest P (hand_of c.world who) (hand_carries c.world who carries)) told left carries

  -- ---- rows

  module _ (lasts : Lasts O) where
    adopts : (a b : State) (m d : ℕ) (hand : List Notice) (reply : Reply) → Carries O P C a.world
        → AcceptsAsking a (spending a.world (λ hold. heap.Adopt m d hold) hand) (steps.Adopt m d) reply b
        → Carries O P C b.world
    adopts a b m d [] reply carries row = absurd row
    adopts a b m d (notice ∷ rest) reply carries row =
        hands_back row.0 b (Mutator m) (steps.Adopt m d) (replies.Object notice.object) reply refl row.1.0 row.2
        (heap_carries O P C lasts a row.0 (heap.Adopt m d (hold_of a.world notice)) reply tt carries row.1)

    releases : (a b : State) (who : Actor) (hand : List Notice) (reply : Reply) → Carries O P C a.world
        → AcceptsAsking a (spending a.world (λ hold. heap.Release hold) hand) (steps.Release who) reply b
        → Carries O P C b.world
    releases a b who [] reply carries row = absurd row
    releases a b who (notice ∷ rest) reply carries row =
        hands_back row.0 b who (steps.Release who) replies.Done reply refl row.1.0 row.2
        (heap_carries O P C lasts a row.0 (heap.Release (hold_of a.world notice)) reply tt carries row.1)

    -- a row of the heap that leaves the hands
    quiet : (a b : State) (asked : NamedStep) (step : Step) (reply : Reply) → Anew O P C a asked reply
        → Carries O P C a.world → AcceptsAsking a (Some asked) step reply b
        → ((w : World) → handed w step reply ≡ w) → Carries O P C b.world
    quiet a b asked step reply anew carries row still = grind (arith, heap_carries)

    accepted : (a b : State) (step : Step) (reply : Reply) → Mints a step reply → Carries O P C a.world
        → Accepts a step reply b → Carries O P C b.world
    accepted a b (steps.Unhook m s) reply mints carries row =
        unhooks a row.0 b m s (slot_at a.world.heap m s) _ reply mints refl row.1 row.2
        (heap_carries O P C lasts a row.0 (heap.Unhook m s) reply tt carries row.1)
    accepted a b (steps.Put who) reply mints carries row =
        puts a b who (hand_of a.world who) reply carries row
    accepted a b (steps.Puts who) reply mints carries row =
        puts_all a b who (hand_of a.world who) reply carries row
    accepted a b (steps.Poll m q) reply mints carries row = polls a b m q one_taken _ reply carries row
    accepted a b (steps.Polls m q max) reply mints carries row =
        polls a b m q replies.TookSome _ reply carries row
    accepted a b (steps.Adopt m d) reply mints carries row =
        adopts a b m d (hand_of a.world (Mutator m)) reply carries row
    accepted a b (steps.Release who) reply mints carries row =
        releases a b who (hand_of a.world who) reply carries row
    accepted a b (steps.Close m q) reply mints carries row =
        closes a b q (queue_at a.world q).closed reply carries row
    accepted a b (steps.Hand k) reply mints carries row =
        let ps = pending_of a.world k in
        hands a row.0 b k (steps.Hand k) (one_handed k (take 1 ps)) (take 1 ps) reply (λ _ _. refl) (tells_one k ps)
        (all_take (λ p. P (notice_from k p)) 1 ps (carries.pendings k)) row.1 row.2
        (heap_carries O P C lasts a row.0 (heap.Hand k) reply tt carries row.1)
    accepted a b (steps.Hands k max) reply mints carries row =
        let ps = pending_of a.world k in
        hands a row.0 b k (steps.Hands k max) (all_handed k (batch_of max ps)) (batch_of max ps) reply (λ _ _. refl)
        (tells_all k max ps) (all_batch (λ p. P (notice_from k p)) max ps (carries.pendings k)) row.1 row.2
        (heap_carries O P C lasts a row.0 (heap.Hands k max []) reply tt carries row.1)
    accepted a b step reply mints carries row =
        quiet a b (asked_of (heap_step a.world step)) step reply mints carries row (λ _. refl)

    answered : (a b : State) (step : Step) (reply : Reply) (fault : Option Fault) → Mints a step reply
        → Carries O P C a.world → IsAnswer a fault step reply b → Carries O P C b.world
    answered a b step reply (Some fault) mints carries row =
        in_world O P C b a.world (ap (λ (s : State). s.world) row.1) carries
    answered a b step reply None mints carries row = accepted a b step reply mints carries row

    -- a row carries on what holds of all
    pub row_carries : (a : State) (row : Row) (b : State) → Mints a row.step row.reply → Carries O P C a.world
        → IsRow a row b → Carries O P C b.world
    row_carries a row b mints carries h = answered a b row.step row.reply (refusal a row.step) mints carries h

-- ---- at first

pub nothing_pending : (P : Pending → Type 0) (config : Config) (k : ℕ)
    → AllByRecursion P (pending_of (first_world config) k)
nothing_pending P config k = subst (AllByRecursion P) (sym (first_pending config k)) tt

pub first_carries : (O : Object → Type 0) (P : Notice → Type 0) (C : ℕ → Type 0) (config : Config) → C 0
    → Carries O P C (first_world config)
first_carries O P C config is = record {
  objects = tt;
  pendings = λ k. nothing_pending (λ p. P (notice_from k p)) config k;
  of_mutators = λ m. subst (AllByRecursion P) (sym (first_hand config (Mutator m))) tt;
  of_workers = λ k. subst (AllByRecursion P) (sym (first_hand config (Worker k))) tt;
  stands = λ q. rw (first_queue config q) tt;
  goes_on = is;
}

-- ---- what holds of less holds of more

pub all_more : {X : Type 0} (P R : X → Type 0) (xs : List X) → ((x : X) → P x → R x) → AllByRecursion P xs
    → AllByRecursion R xs
all_more P R [] more all = tt
all_more P R (x ∷ xs) more all = (more x all.0, all_more P R xs more all.1)

pub carries_more : (O Q : Object → Type 0) (P R : Notice → Type 0) (C D : ℕ → Type 0) (w : World)
    → ((o : Object) → O o → Q o) → ((notice : Notice) → P notice → R notice) → D w.cycle → Carries O P C w
    → Carries Q R D w
carries_more O Q P R C D w of_objects of_notices of_cycle carries = grind (arith, all_more)
