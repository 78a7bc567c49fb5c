-- In a mark of a collector of any profile that keeps no more, a set is known that has just what may be kept, and all
-- that was scanned and made in it. Each row of the mark that brings nothing new keeps it; the others are rows of the
-- abstract collector under the profile's policy, whose laws say what they bring.
use Rattle.ref_base.proofs.Common.{◌≡◌, ℕ, Bool, true, false, if◌then◌else◌, List, [], ◌∷◌, Option, Some, None, refl}
use Rattle.ref_base.proofs.Common.{sym, ap, ◌∙◌, subst, inl, inr, is_some, false≢true, is_kept, Graph, State, World}
use Rattle.ref_base.proofs.Common.{Notice, AreCounted, AcceptsAsking, HeapAccepts, IsRow, NamedStep, IsAnswer, numbers}
use Rattle.ref_base.proofs.Common.{ticked, with_world, with_hand, with_handed, handed, taking, with_rest, hand_of}
use Rattle.ref_base.proofs.Common.{spending, hold_of, heap_step, refusal, after_queues, graph_of, told_notices}
use Rattle.ref_base.proofs.Common.{told_object, is_done}
use Rattle.ref_base.specs.Refusals.{plain_refusal}
use Rattle.ref_base.proofs.ClosedRows.{closed_same}
use Rattle.ref_base.proofs.RowForms.{ticked_world}
use Rattle.ref_base.proofs.ReplayKeeps.{but_hands, handed_keeps, queues_keep}
use Rattle.ref_base.proofs.Bases.{base, refuses}
use Rattle.ref_base.proofs.PlainRows.{plain_row, accepted_plain}
use Rattle.ref_base.proofs.Fitting.{saying}
use Rattle.ref_base.proofs.EverRows.{KeepsEver, one_moment, ticked_moments}
use Rattle.ref_base.proofs.MarkFacts.{seen_same, ticked_same}
use Rattle.ref_base.proofs.EverWorlds.{Knows, BringsNone, known_row}
use Rattle.ref_base.specs.declared.actor.Actor.{Actor}
use Rattle.ref_base.specs.declared.actor.Actor.TheVariants.{Mutator, Worker}
use Rattle.ref_base.specs.declared.fault.Fault.{Fault}
use Rattle.ref_base.specs.declared.policy.Policy.{Policy}
use Rattle.ref_base.specs.declared.phase.Phase.TheVariants.{Marking}
use Rattle.ref_base.specs.declared.row.Row.{Row}
use Rattle.ref_base.specs.declared.step.Step.{Step}
use Rattle.ref_base.specs.declared.step.Step.TheVariants as steps
use Rattle.ref_base.specs.declared.heap_step.HeapStep.TheVariants as heap
use Rattle.ref_base.specs.declared.plain_step.PlainStep.{PlainStep}
use Rattle.ref_base.specs.declared.plain_step.PlainStep.TheVariants as plain
use Rattle.ref_base.specs.declared.reply.Reply.{Reply}
use Rattle.ref_judge.specs.ProfiledRows.{IsRowAs, IsAnswerAs, AcceptsAskingAs, HeapAcceptsAs}
use Rattle.ref_judge.specs.declared.profile.Profile.{Profile}
use Rattle.ref_judge.proofs.UnchangedRows.{plain_accepted_as}
use Rattle.ref_judge.proofs.ProfiledBases.{one_base_as}
use Rattle.ref_judge.proofs.KeptFacts.{IsKeptSet}
use Rattle.ref_judge.proofs.OtherPolicies.{profiled, policy_as, ever_under, under_ever, IsMutators, HandsOver}
use Rattle.ref_judge.proofs.OtherPolicies.{heap_under, mutator_under, scan_under}

-- ---- what is known

-- what a set has that is known under the profile's policy is just what may be kept
pub known_kept_set : (p : Profile) (V : ℕ → Type 0) (a : State) → p.keeps_more ≡ false → Knows V (profiled p a)
    → IsKeptSet p V a
known_kept_set p V a less knows = record {
  sound = λ n is. inl (ever_under p a.world.policy a.moments n (knows.0.sound n is));
  complete = λ n may.
      elim may [
        | inl ever ↦ knows.0.complete n (under_ever p a.world.policy a.moments n ever)
        | inr more ↦ absurd (false≢true (sym less ∙ more.0))
      ];
}

-- what is known of a state is known of each that has its world, its moments, what it scanned, and when it began
abbrev Told : State → World × List Graph × List (List ℕ) × ℕ
Told a = (a.world, a.moments, a.scanned, a.born)

known_told : (V : ℕ → Type 0) (a b : State) → Told b ≡ Told a → Knows V a → Knows V b
known_told V a b same knows =
    of_parts
    (subst (λ (x : World × List Graph × List (List ℕ) × ℕ).
    Knows V (record a { world = x.0; moments = x.1; scanned = x.2; born = x.3 })) (sym same) knows)
  where
    of_parts : Knows V (record a { world = b.world; moments = b.moments; scanned = b.scanned; born = b.born })
        → Knows V b
    of_parts all = (
      record { sound = all.0.sound; complete = all.0.complete; closed = all.0.closed },
      record { scanned = all.1.scanned; young = all.1.young },
    )

-- ---- hands

-- the policy is no part of what is left in the hands
hand_under : (q : Policy) (w : World) (who : Actor) (hand : List Notice)
    → record (with_hand w who hand) { policy = q } ≡ with_hand (record w { policy = q }) who hand
hand_under q w (Mutator m) hand = refl
hand_under q w (Worker k) hand = refl

taking_under : (q : Policy) (w : World) (who : Actor) (told : List Notice)
    → record (taking w who told) { policy = q } ≡ taking (record w { policy = q }) who told
taking_under q w who [] = refl
taking_under q w who (notice ∷ rest) = hand_under q w who (notice ∷ rest)

rest_under : (q : Policy) (w : World) (who : Actor) (spent : Bool)
    → record (if spent then with_rest w who else w) { policy = q }
    ≡ (if spent then with_rest (record w { policy = q }) who else record w { policy = q })
rest_under q w (Mutator m) true = refl
rest_under q w (Worker k) true = refl
rest_under q w who false = refl

handed_under : (q : Policy) (w : World) (step : Step) (reply : Reply)
    → record (handed w step reply) { policy = q } ≡ handed (record w { policy = q }) step reply
handed_under q w (steps.Unhook m s) reply = taking_under q w (Mutator m) (told_notices reply)
handed_under q w (steps.Hand k) reply = taking_under q w (Worker k) (told_notices reply)
handed_under q w (steps.Hands k max) reply = taking_under q w (Worker k) (told_notices reply)
handed_under q w (steps.Adopt m d) reply = rest_under q w (Mutator m) (is_some (told_object reply))
handed_under q w (steps.Release who) reply = rest_under q w who (is_done reply)
handed_under q w step reply = refl

with_handed_under : (p : Profile) (c : State) (step : Step) (reply : Reply)
    → profiled p (with_handed c step reply) ≡ with_handed (profiled p c) step reply
with_handed_under p c step reply =
    let w : World = handed c.world step reply in
    let policy : w.policy ≡ c.world.policy = ap (λ (v : World). v.policy) (handed_keeps c.world step reply) in
    ap (λ (q : Policy). record c { world = record w { policy = policy_as p q }; left = false }) policy
    ∙ ap (λ (v : World). record c { world = v; left = false })
    (handed_under (policy_as p c.world.policy) c.world step reply)

-- ---- rows of queues

module _ (p : Profile) (V : ℕ → Type 0) (a b : State) (marks : a.world.phase ≡ Marking) (knows : Knows V (profiled p a))
  where
    -- a row that leaves such a world, and its moment, keeps what is known
    known_beside : (w : World) → but_hands w ≡ but_hands a.world → base b ≡ base (ticked (with_world a w))
        → Knows V (profiled p b)
    known_beside w others is =
        let c : State = with_world a w in
        let world : b.world ≡ w = ap (λ (s : State). s.world) is ∙ ticked_world c in
        let beside : but_hands b.world ≡ but_hands a.world = ap but_hands world ∙ others in
        let policy : b.world.policy ≡ a.world.policy = ap (λ (v : World). v.policy) beside in
        let phase : w.phase ≡ Marking = ap (λ (v : World). v.phase) others ∙ marks in
        let same = ticked_same c in (
          one_moment V V (profiled p a) (profiled p b) knows.0 (λ n is. is)
              (ap (λ (s : State). s.moments) is ∙ ticked_moments c phase
              ∙ ap (λ (v : World). graph_of v ∷ a.moments) (sym world))
              (ap (policy_as p) policy) (λ n is. inl is)
              (closed_same (is_kept (policy_as p a.world.policy)) V (profiled p a).world (profiled p b).world
              (ap (λ (v : World). v.heap.slots) beside) (ap (λ (v : World). v.heap.holds) beside)
              (ap (λ (v : World). v.pending) beside) (ap (λ (v : World). v.heap.objects) beside) knows.0.closed),
          seen_same V (profiled p a) (profiled p b) (
            ap (λ (s : State). s.scanned) is ∙ same.0,
            ap (λ (s : State). s.born) is ∙ same.1,
            ap (λ (v : World). numbers v.heap.objects) beside,
          )
              knows.1,
        )

    -- whether it is refused after all or not
    known_queues : (step : Step) (reply : Reply)
        → base b ≡ (if refuses reply then base a else base (ticked (with_world a (after_queues a.world step reply))))
        → Knows V (profiled p b)
    known_queues step reply = of_refusal (refuses reply)
      where
        of_refusal : (refused : Bool)
            → base b ≡ (if refused then base a else base (ticked (with_world a (after_queues a.world step reply))))
            → Knows V (profiled p b)
        of_refusal true is =
            known_told V (profiled p a) (profiled p b) (ap (λ (s : State). Told (profiled p s)) is) knows
        of_refusal false is = known_beside (after_queues a.world step reply) (queues_keep a.world step reply) is

-- ---- rows of a heap

-- whether a step of a mutator is refused, the policy doesn't tell
passes_under : (p : Profile) (a : State) (step : PlainStep) → IsMutators step → plain_refusal a step ≡ None
    → plain_refusal (profiled p a) step ≡ None
passes_under p a plain.EndMark inside none = absurd inside
passes_under p a step inside none = none

-- a row of a mutator is one of the abstract collector under the profile's policy
pub mutator_row_under : (p : Profile) (a b : State) (step : PlainStep) (reply : Reply) → IsMutators step
    → plain_refusal a step ≡ None → IsRowAs p a (plain_row step reply) b
    → IsRow (profiled p a) (plain_row step reply) (profiled p b)
mutator_row_under p a b step reply inside none h =
    accepted_plain (profiled p a) (profiled p b) step reply (passes_under p a step inside none)
    (mutator_under p a b step reply inside (plain_accepted_as p a b step reply none h))

-- and a scan is one, from the state that says so whether an object is left
pub scan_row_under : (p : Profile) (a b : State) (k : ℕ) (reply : Reply) → p.keeps_more ≡ false
    → plain_refusal a (plain.Scan k) ≡ None → IsRowAs p a (plain_row (plain.Scan k) reply) b
    → (left : Bool) × IsRow (saying (profiled p a) left) (plain_row (plain.Scan k) reply) (profiled p b)
scan_row_under p a b k reply less none h =
    let row = scan_under p a b less k reply (plain_accepted_as p a b (plain.Scan k) reply none h) in
    (row.0, accepted_plain (saying (profiled p a) row.0) (profiled p b) (plain.Scan k) reply none row.1)

module _ (p : Profile) (a b : State) where
  handing_over : (c : State) (asked : NamedStep) (reply : Reply) → HandsOver asked → HeapAcceptsAs p a asked reply c
      → HeapAccepts a asked reply c
  handing_over c (heap.Plain step) reply over row = absurd over
  handing_over c asked reply over row = row

  -- a step that hands something over
  asked_under : (asked : NamedStep) (step : Step) (reply : Reply) → HandsOver asked
      → AcceptsAskingAs p a (Some asked) step reply b
      → AcceptsAsking (profiled p a) (Some asked) step reply (profiled p b)
  asked_under asked step reply over row = (
    profiled p row.0,
    heap_under p a row.0 asked reply over (handing_over row.0 asked reply over row.1),
    ap (profiled p) row.2 ∙ with_handed_under p row.0 step reply,
  )

  adopts_under : (m d : ℕ) (hand : List Notice) (reply : Reply)
      → AcceptsAskingAs p a (spending a.world (λ hold. heap.Adopt m d hold) hand) (steps.Adopt m d) reply b
      → AcceptsAsking (profiled p a) (spending a.world (λ hold. heap.Adopt m d hold) hand) (steps.Adopt m d) reply
      (profiled p b)
  adopts_under m d [] reply row = absurd row
  adopts_under m d (notice ∷ rest) reply row =
      asked_under (heap.Adopt m d (hold_of a.world notice)) (steps.Adopt m d) reply tt row

  releases_under : (who : Actor) (hand : List Notice) (reply : Reply)
      → AcceptsAskingAs p a (spending a.world (λ hold. heap.Release hold) hand) (steps.Release who) reply b
      → AcceptsAsking (profiled p a) (spending a.world (λ hold. heap.Release hold) hand) (steps.Release who) reply
      (profiled p b)
  releases_under who [] reply row = absurd row
  releases_under who (notice ∷ rest) reply row =
      asked_under (heap.Release (hold_of a.world notice)) (steps.Release who) reply tt row

-- ---- rows that bring nothing new

module _ (p : Profile) (V : ℕ → Type 0) (a b : State) (less : p.keeps_more ≡ false) (counted : AreCounted a.world)
    (marks : a.world.phase ≡ Marking) (knows : Knows V (profiled p a)) where
  -- by a row of the abstract collector
  by_row : (left : Bool) (row : Row) → BringsNone row.step → IsRow (saying (profiled p a) left) row (profiled p b)
      → Knows V (profiled p b)
  by_row left row brings h =
      known_row V (saying (profiled p a) left) (profiled p b) row counted marks brings
      (known_told V (profiled p a) (saying (profiled p a) left) refl knows) h

  -- which isn't refused
  by_answer : (step : Step) (reply : Reply) → BringsNone step → refusal (profiled p a) step ≡ None
      → AcceptsAsking (profiled p a) (heap_step a.world step) step reply (profiled p b) → Knows V (profiled p b)
  by_answer step reply brings none row =
      by_row false (record { step = step; reply = reply }) brings
      (subst (λ (o : Option Fault). IsAnswer (profiled p a) o step reply (profiled p b)) (sym none) row)

  known_mutator : (step : PlainStep) (reply : Reply) → IsMutators step → KeepsEver (heap.Plain step)
      → plain_refusal a step ≡ None → IsRowAs p a (plain_row step reply) b → Knows V (profiled p b)
  known_mutator step reply inside keeps none h =
      by_row false (plain_row step reply) keeps (mutator_row_under p a b step reply inside none h)

  known_plain : (step : PlainStep) (reply : Reply) → KeepsEver (heap.Plain step) → plain_refusal a step ≡ None
      → IsRowAs p a (plain_row step reply) b → Knows V (profiled p b)
  known_plain (plain.Scan k) reply keeps none h =
      let row = scan_row_under p a b k reply less none h in
      by_row row.0 (plain_row (plain.Scan k) reply) keeps row.1
  known_plain (plain.Store m s i v) reply keeps none h = known_mutator (plain.Store m s i v) reply tt keeps none h
  known_plain (plain.Load m d s i) reply keeps none h = known_mutator (plain.Load m d s i) reply tt keeps none h
  known_plain (plain.Copy m d s) reply keeps none h = known_mutator (plain.Copy m d s) reply tt keeps none h
  known_plain (plain.Drop m s) reply keeps none h = known_mutator (plain.Drop m s) reply tt keeps none h
  known_plain (plain.Clear m s) reply keeps none h = known_mutator (plain.Clear m s) reply tt keeps none h
  known_plain (plain.RefersTo m s v) reply keeps none h = known_mutator (plain.RefersTo m s v) reply tt keeps none h
  known_plain step reply keeps none h = absurd keeps

  known_step : (step : Step) (reply : Reply) → BringsNone step → refusal a step ≡ None
      → AcceptsAskingAs p a (heap_step a.world step) step reply b
      → IsRowAs p a (record { step = step; reply = reply }) b → Knows V (profiled p b)
  known_step (steps.Plain step) reply brings none row h = known_plain step reply brings none h
  known_step (steps.Unhook m s) reply brings none row h =
      by_answer (steps.Unhook m s) reply tt none (asked_under p a b (heap.Unhook m s) (steps.Unhook m s) reply tt row)
  known_step (steps.Hand k) reply brings none row h =
      by_answer (steps.Hand k) reply tt none (asked_under p a b (heap.Hand k) (steps.Hand k) reply tt row)
  known_step (steps.Hands k max) reply brings none row h =
      by_answer (steps.Hands k max) reply tt none
      (asked_under p a b (heap.Hands k max []) (steps.Hands k max) reply tt row)
  known_step (steps.Adopt m d) reply brings none row h =
      by_answer (steps.Adopt m d) reply tt none (adopts_under p a b m d (hand_of a.world (Mutator m)) reply row)
  known_step (steps.Release who) reply brings none row h =
      by_answer (steps.Release who) reply tt none (releases_under p a b who (hand_of a.world who) reply row)
  known_step step reply brings none row h =
      known_queues p V a b marks knows step reply
      (one_base_as p a b (record { step = step; reply = reply }) h)

  -- a row of a mark that makes and gets nothing keeps what is known
  pub known_row_as : (row : Row) → BringsNone row.step → IsRowAs p a row b → Knows V (profiled p b)
  known_row_as row brings h = of_fault (refusal a row.step) refl h
    where
      of_fault : (fault : Option Fault) → refusal a row.step ≡ fault → IsAnswerAs p a fault row.step row.reply b
          → Knows V (profiled p b)
      of_fault (Some fault) is refused = subst (λ (s : State). Knows V (profiled p s)) (sym refused.1) knows
      of_fault None is accepted = known_step row.step row.reply brings is accepted h
