-- Why there is a notice in a hand: a worker's comes from its own clearing; a mutator's from the reference's own call,
-- or it was put in its queue before.
use Rattle.ref_base.proofs.Common.{arith, ◌≡◌, ℕ, Bool, true, false, if◌then◌else◌, List, [], ◌∷◌, map}
use Rattle.ref_base.proofs.Common.{◌⊎◌, inl, inr, sym, subst, AllByRecursion, has, Lists, enqueued, was_put}
use Rattle.ref_base.proofs.Common.{World, Notice, first_world, object_of, hand_of, queue_at, with_hand, with_queue}
use Rattle.ref_base.proofs.Common.{told_notices, told_dones, told_taken, taking, with_rest, rest_of, put_in, took}
use Rattle.ref_base.proofs.Common.{notices_of, taken_out, standing, with_parcel, added_among, not_added, Done, refl}
use Rattle.ref_base.proofs.BatchParts.{all_left}
use Rattle.ref_base.proofs.Common.{closed_queue, State, first_state, refusal, IsAnswer, IsRow, IsRun, Config, Actor}
use Rattle.ref_base.proofs.Common.{Mutator, Worker, Step, Reply, Row}
use Rattle.ref_base.proofs.HasLaws.{has-left, has-right}
use Rattle.ref_base.proofs.Places.{set_each, all_rest}
use Rattle.ref_base.proofs.SoundWorlds.{IsSound, first_hand, first_sound, IsOwn as IsFor}
use Rattle.ref_base.proofs.CarryRows.{all_notices_of, all_more}
use Rattle.ref_base.proofs.RowLaws.{row_goes}
use Rattle.ref_base.proofs.LegalQueues.{run_sound}
use Rattle.ref_base.proofs.RunFronts.{legal_holds}
use Rattle.ref_base.proofs.SameOthers.{same_hand}
use Rattle.ref_base.proofs.RowHands.{others_after, row_hands, IsOwn, IsBy, unhook_tells, hand_tells, hands_tell}
use Rattle.ref_base.specs.declared.step.Step.TheVariants as steps

-- ---- what holds of each notice in each hand in its own way

module _ (P : Actor → Notice → Type 0) where
  abbrev pub OfHands : World → Type 0
  OfHands w = (who : Actor) → AllByRecursion (P who) (hand_of w who)

  set_hand : (w : World) (who : Actor) (hand : List Notice) → AllByRecursion (P who) hand → OfHands w
      → OfHands (with_hand w who hand)
  set_hand w (Mutator m) hand is all (Mutator k) =
      set_each (λ i h. AllByRecursion (P (Mutator i)) h) w.mutator_hands m hand (λ _. []) is (λ i. all (Mutator i)) k
  set_hand w (Mutator m) hand is all (Worker k) = all (Worker k)
  set_hand w (Worker m) hand is all (Mutator k) = all (Mutator k)
  set_hand w (Worker m) hand is all (Worker k) =
      set_each (λ i h. AllByRecursion (P (Worker i)) h) w.worker_hands m hand (λ _. []) is (λ i. all (Worker i)) k

  set_queue : (w : World) (q : ℕ) (lists : Lists Notice) → OfHands w → OfHands (with_queue w q lists)
  set_queue w q lists all (Mutator m) = all (Mutator m)
  set_queue w q lists all (Worker k) = all (Worker k)

  takes : (w : World) (who : Actor) (told : List Notice) → AllByRecursion (P who) told → OfHands w
      → OfHands (taking w who told)
  takes w who [] is all = all
  takes w who (notice ∷ rest) is all = set_hand w who (notice ∷ rest) is all

  spends : (w : World) (who : Actor) (told : Bool) → OfHands w → OfHands (if told then with_rest w who else w)
  spends w who true all = set_hand w who (rest_of (hand_of w who)) (all_rest (P who) (hand_of w who) (all who)) all
  spends w who false all = all

  stood : (w : World) (notices : List Notice) → OfHands w → OfHands (standing w notices)
  stood w [] all = all
  stood w (notice ∷ rest) all =
      let lists : Lists Notice = with_parcel (queue_at w notice.queue) notice in
      stood (with_queue w notice.queue lists) rest (set_queue w notice.queue lists all)

  puts : (w : World) (who : Actor) (ds : List Done) → OfHands w → OfHands (put_in w who ds)
  puts w who [] all = all
  puts w who (d ∷ ds) all =
      let hand : List Notice = hand_of w who in
      let added : List Notice = added_among hand (d ∷ ds) in
      set_hand (standing w added) who (not_added hand (d ∷ ds)) (all_left (P who) hand (d ∷ ds) (all who))
      (stood w added all)

  polls : (w : World) (m q : ℕ) (ns : List ℕ)
      → AllByRecursion (P (Mutator m)) (notices_of (queue_at w q).stands ns) → OfHands w → OfHands (took w m q ns)
  polls w m q [] found all = all
  polls w m q (n ∷ ns) found all =
      let lists : Lists Notice = taken_out (queue_at w q) (n ∷ ns) in
      set_hand (with_queue w q lists) (Mutator m) (notices_of (queue_at w q).stands (n ∷ ns)) found
      (set_queue w q lists all)

  closes : (w : World) (q : ℕ) (told : Bool) → OfHands w → OfHands (if told then closed_queue w q else w)
  closes w q true all = set_queue w q (record (queue_at w q) { closed = true }) all
  closes w q false all = all

  -- what a row gives into a hand
  abbrev IsGiven : World → Step → Reply → Type 0
  IsGiven w (steps.Unhook m s) reply = AllByRecursion (P (Mutator m)) (told_notices reply)
  IsGiven w (steps.Hand k) reply = AllByRecursion (P (Worker k)) (told_notices reply)
  IsGiven w (steps.Hands k max) reply = AllByRecursion (P (Worker k)) (told_notices reply)
  IsGiven w (steps.Poll m q) reply =
      (ns : List ℕ) → AllByRecursion (P (Mutator m)) (notices_of (queue_at w q).stands ns)
  IsGiven w (steps.Polls m q max) reply =
      (ns : List ℕ) → AllByRecursion (P (Mutator m)) (notices_of (queue_at w q).stands ns)
  IsGiven w step reply = Unit {0}

  row_of_hands : (w : World) (step : Step) (reply : Reply) → IsGiven w step reply → OfHands w
      → OfHands (others_after w step reply)
  row_of_hands w (steps.Unhook m s) reply is all = takes w (Mutator m) (told_notices reply) is all
  row_of_hands w (steps.Hand k) reply is all = takes w (Worker k) (told_notices reply) is all
  row_of_hands w (steps.Hands k max) reply is all = takes w (Worker k) (told_notices reply) is all
  row_of_hands w (steps.Put who) reply is all = puts w who (told_dones reply) all
  row_of_hands w (steps.Puts who) reply is all = puts w who (told_dones reply) all
  row_of_hands w (steps.Poll m q) reply is all = polls w m q (told_taken reply) (is (told_taken reply)) all
  row_of_hands w (steps.Polls m q max) reply is all = polls w m q (told_taken reply) (is (told_taken reply)) all
  row_of_hands w step reply is all = search (spends, closes, refl)

-- ---- causes

-- the notice is of its reference's own call, or it was put in its queue before
abbrev pub IsOwnOrPut : World → Notice → Type 0
IsOwnOrPut w notice = IsOwn notice ⊎ (was_put object_of (queue_at w notice.queue) notice ≡ true)

abbrev pub HasCause : World → Actor → Notice → Type 0
HasCause w (Mutator m) notice = IsOwnOrPut w notice
HasCause w (Worker k) notice = IsBy k notice

abbrev pub HaveCauses : World → Type 0
HaveCauses w = OfHands (HasCause w) w

-- what was put stays so
abbrev Grows : World → World → Type 0
Grows v w =
    (q n : ℕ) → has (enqueued object_of (queue_at v q)) n ≡ true → has (enqueued object_of (queue_at w q)) n ≡ true

row_grows : (a : State) (row : Row) (b : State) → IsSound a.world → IsRow a row b → Grows a.world b.world
row_grows a row b sound h q n put = grind (arith, row_goes, has-left)

cause_grows : (v w : World) (who : Actor) (notice : Notice) → Grows v w → HasCause v who notice → HasCause w who notice
cause_grows v w (Mutator m) notice grows is =
    elim is [ inl own ↦ inl own | inr put ↦ inr (grows notice.queue notice.object put) ]
cause_grows v w (Worker k) notice grows is = is

-- what stands in a queue was put in it
stands_put : (w : World) (q : ℕ) (notices : List Notice) → AllByRecursion (IsFor q) notices
    → ((n : ℕ) → has (map object_of notices) n ≡ true → has (enqueued object_of (queue_at w q)) n ≡ true)
    → AllByRecursion (IsOwnOrPut w) notices
stands_put w q [] all put = tt
stands_put w q (notice ∷ rest) all put = grind (arith, stands_put w q rest all.1)

found_put : (a b : State) (q : ℕ) → IsSound a.world → Grows a.world b.world → (ns : List ℕ)
    → AllByRecursion (IsOwnOrPut b.world) (notices_of (queue_at a.world q).stands ns)
found_put a b q sound grows ns =
    let lists : Lists Notice = queue_at a.world q in
    all_notices_of (IsOwnOrPut b.world) lists.stands ns
    (stands_put b.world q lists.stands (sound.own q)
    (λ n there. grows q n (has-right lists.taken (map object_of lists.stands) n there)))

own_given : (w : World) (told : List Notice) → AllByRecursion IsOwn told → AllByRecursion (IsOwnOrPut w) told
own_given w [] is = tt
own_given w (notice ∷ rest) is = (inl is.0, own_given w rest is.1)

gives_cause : (a b : State) (step : Step) (reply : Reply) → IsSound a.world → Grows a.world b.world
    → IsAnswer a (refusal a step) step reply b → IsGiven (HasCause b.world) a.world step reply
gives_cause a b (steps.Unhook m s) reply sound grows row =
    own_given b.world (told_notices reply) (unhook_tells a b m s reply (refusal a (steps.Unhook m s)) row)
gives_cause a b (steps.Hand k) reply sound grows row = hand_tells a b k reply (refusal a (steps.Hand k)) row
gives_cause a b (steps.Hands k max) reply sound grows row =
    hands_tell a b k max reply (refusal a (steps.Hands k max)) row
gives_cause a b (steps.Poll m q) reply sound grows row = found_put a b q sound grows
gives_cause a b (steps.Polls m q max) reply sound grows row = found_put a b q sound grows
gives_cause a b step reply sound grows row = tt

row_causes : (a : State) (row : Row) (b : State) → IsSound a.world → HaveCauses a.world → IsRow a row b
    → HaveCauses b.world
row_causes a row b sound have h who =
    let grows = row_grows a row b sound h in
    let next : World = others_after a.world row.step row.reply in
    let all = row_of_hands (HasCause b.world) a.world row.step row.reply
    (gives_cause a b row.step row.reply sound grows h)
    (λ other. all_more (HasCause a.world other) (HasCause b.world other) (hand_of a.world other)
    (λ notice is. cause_grows a.world b.world other notice grows is) (have other)) in
    subst (AllByRecursion (HasCause b.world who))
    (sym (same_hand next b.world who (row_hands a b row.step row.reply (refusal a row.step) h))) (all who)

first_causes : (config : Config) → HaveCauses (first_world config)
first_causes config who =
    subst (AllByRecursion (HasCause (first_world config) who)) (sym (first_hand config who)) tt

-- and so it is after every legal trace
pub legal_causes : (config : Config) (rows : List Row) (b : State) → IsRun (first_state config) rows b
    → HaveCauses b.world
legal_causes config rows b run =
    legal_holds config (λ past a. HaveCauses a.world)
    (λ past a row c before have h.
    row_causes a row c (run_sound (first_state config) past a (first_sound config) before) have h)
    (first_causes config) rows b run
