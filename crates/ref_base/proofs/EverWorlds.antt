-- What is known in a mark: a set that has just what was ever kept in it, and all that it scanned and made. Each row of
-- the mark keeps it, or says what joins it; a begin makes it.
use Rattle.ref_base.proofs.Common.{◌≡◌, ℕ, ◌+◌, ◌*◌, ◌<◌, true, false, List, [], ◌∷◌, length, Option, Some, None, refl}
use Rattle.ref_base.proofs.Common.{sym, ap, ◌∙◌, subst, inl, inr, ◌⊎◌, is_there, numbers, slot_at, World, Notice}
use Rattle.ref_base.proofs.Common.{hand_of, graph_of, NamedStep, heap_step, spending, State, HeapAccepts, IsRow}
use Rattle.ref_base.proofs.Common.{AreCounted, referent_got, reference_of, heap_refusal, Mutator, Marking, Step, Reply}
use Rattle.ref_base.proofs.Common.{Row, ticked, with_world, after_queues, handed, Policy, EverKept, IsKept, is_kept}
use Rattle.ref_base.proofs.Common.{Strength, Urgency, Fault, refusal, nulls, plain_object, new_reference, Allowed}
use Rattle.ref_base.proofs.Common.{EndsPath, IsPath, has, targets_at, present, pending_numbers, pending_of}
use Rattle.ref_base.proofs.Common.{slice_index_or, ◌++◌}
use Rattle.ref_base.specs.Refusals.{plain_refusal}
use Rattle.ref_base.proofs.CarryRows.{all_more}
use Rattle.ref_base.proofs.HasLaws.{has-left, has-right}
use Rattle.ref_base.proofs.Lookups.{has-present_at}
use Rattle.ref_base.proofs.PathLaws.{root_ends, target_ends}
use Rattle.ref_base.proofs.OffSets.{pending_roots}
use Rattle.ref_base.proofs.ApartWorlds.{OfValue, IsClosed}
use Rattle.ref_base.proofs.ClosedRows.{closed_same}
use Rattle.ref_base.proofs.Outcomes.{Becomes}
use Rattle.ref_base.proofs.ReplayKeeps.{but_hands, handed_keeps, queues_keep}
use Rattle.ref_base.proofs.RowForms.{ticked_world}
use Rattle.ref_base.proofs.RowKinds.{IsOfHeap, row_kind}
use Rattle.ref_base.proofs.PlainRows.{plain_row, plain_accepted, refused_same}
use Rattle.ref_base.proofs.EverRows.{IsEver, KeepsEver, WithNext, one_moment, ever_row, ever_got, ever_new, ever_refer}
use Rattle.ref_base.proofs.EverRows.{ever_begun, ticked_moments}
use Rattle.ref_base.proofs.MarkFacts.{HasSeen, seen_same, seen_row, seen_more, seen_scan, seen_made, seen_begun}
use Rattle.ref_base.proofs.MarkFacts.{ticked_same, same_twice}
use Rattle.ref_base.specs.declared.heap_step.HeapStep.TheVariants as heap
use Rattle.ref_base.specs.declared.plain_step.PlainStep.TheVariants as plain
use Rattle.ref_base.specs.declared.step.Step.TheVariants as steps

-- the set has just what was ever kept in this mark, and all that was scanned and made in it
abbrev pub Knows : (ℕ → Type 0) → State → Type 0
Knows V a = IsEver V a × HasSeen V a

-- ---- other hands and queues

-- the world is another in hands and queues alone
ever_beside : (V : ℕ → Type 0) (a : State) (w : World) → but_hands w ≡ but_hands a.world → IsEver V a
    → IsEver V (with_world a w)
ever_beside V a w same ever =
    let policy : w.policy ≡ a.world.policy = ap (λ (v : World). v.policy) same in
    record {
      sound = λ n is. subst (λ (p : Policy). EverKept p a.moments n) (sym policy) (ever.sound n is);
      complete = λ n kept. ever.complete n (subst (λ (p : Policy). EverKept p a.moments n) policy kept);
      closed = subst (λ (p : Policy). IsClosed (is_kept p) V w) (sym policy) (closed_beside V a w same ever);
    }
  where
    closed_beside : (V : ℕ → Type 0) (a : State) (w : World) → but_hands w ≡ but_hands a.world → IsEver V a
        → IsClosed (is_kept a.world.policy) V w
    closed_beside V a w same ever =
        closed_same (is_kept a.world.policy) V a.world w (ap (λ (v : World). v.heap.slots) same)
        (ap (λ (v : World). v.heap.holds) same) (ap (λ (v : World). v.pending) same)
        (ap (λ (v : World). v.heap.objects) same) ever.closed

-- and what was seen
seen_beside : (V : ℕ → Type 0) (a : State) (w : World) → but_hands w ≡ but_hands a.world → HasSeen V a
    → HasSeen V (with_world a w)
seen_beside V a w same seen =
    seen_same V a (with_world a w) (refl, refl, ap (λ (v : World). numbers v.heap.objects) same) seen

-- a moment more of a mark, at which the graph has nothing new
ever_ticked : (V : ℕ → Type 0) (c b : State) → c.world.phase ≡ Marking → b.world ≡ c.world
    → b.moments ≡ (ticked c).moments → IsEver V c → IsEver V b
ever_ticked V c b marks world moments ever =
    one_moment V V c b ever (λ n is. is)
    (moments ∙ ticked_moments c marks ∙ ap (λ (w : World). graph_of w ∷ c.moments) (sym world))
    (ap (λ (w : World). w.policy) world) (λ n is. inl is)
    (subst (λ (w : World). IsClosed (is_kept c.world.policy) V w) (sym world) ever.closed)

-- ---- rows that bring nothing new

-- the step makes nothing, gets nothing, and neither begins nor ends anything
abbrev pub BringsNone : Step → Type 0
BringsNone (steps.Plain step) = KeepsEver (heap.Plain step)
BringsNone step = Unit {0}

-- what it asks of its heap, if anything, is so
abbrev IfAsked : Option NamedStep → Type 0
IfAsked None = Unit {0}
IfAsked (Some asked) = KeepsEver asked

-- what is asked of a heap for a notice of the hand brings nothing new
asks_adopt : (w : World) (m d : ℕ) (hand : List Notice) → IfAsked (spending w (λ hold. heap.Adopt m d hold) hand)
asks_adopt w m d [] = tt
asks_adopt w m d (notice ∷ rest) = tt

asks_release : (w : World) (hand : List Notice) → IfAsked (spending w (λ hold. heap.Release hold) hand)
asks_release w [] = tt
asks_release w (notice ∷ rest) = tt

-- a step that brings nothing new asks for nothing that does
asks_such : (w : World) (step : Step) → BringsNone step → IfAsked (heap_step w step)
asks_such w (steps.Plain step) brings = brings
asks_such w (steps.Adopt m d) brings = asks_adopt w m d (hand_of w (Mutator m))
asks_such w (steps.Release who) brings = asks_release w (hand_of w who)
asks_such w step brings = tt

module _ (V : ℕ → Type 0) (a b : State) (marks : a.world.phase ≡ Marking) (knows : Knows V a) where
  -- a row of the heap that brings nothing new keeps what was seen
  seen_kept : (step : NamedStep) (reply : Reply) → KeepsEver step → HeapAccepts a step reply b → HasSeen V b
  seen_kept (heap.Plain (plain.Scan k)) reply keeps row = seen_scan V a b k reply knows.0 knows.1 row
  seen_kept (heap.Plain (plain.Get m d s)) reply keeps row = absurd keeps
  seen_kept step reply keeps row = seen_row V a b step reply keeps row knows.1

  -- and what is known
  heap_known : (step : NamedStep) (reply : Reply) → KeepsEver step → heap_refusal a step ≡ None
      → HeapAccepts a step reply b → Knows V b
  heap_known step reply keeps none row =
      (ever_row V a b knows.0 marks step reply keeps none row, seen_kept step reply keeps row)

  -- a row of queues keeps what is known
  queues_known : (step : Step) (reply : Reply) → Becomes (with_world a (after_queues a.world step reply)) b → Knows V b
  queues_known step reply becomes = elim becomes [
    | inl same ↦ subst (Knows V) (sym same) beside
    | inr more ↦ elim more [
      | inl tick ↦ ticks (ap (λ (s : State). s.world) tick) (ap (λ (s : State). s.moments) tick)
          (ap (λ (s : State). s.scanned) tick) (ap (λ (s : State). s.born) tick)
      | inr but ↦ ticks (ap (λ (s : State). s.world) but.1) (ap (λ (s : State). s.moments) but.1)
          (ap (λ (s : State). s.scanned) but.1) (ap (λ (s : State). s.born) but.1)
    ]
  ]
    where
      w : World
      w = after_queues a.world step reply

      c : State
      c = with_world a w

      others : but_hands w ≡ but_hands a.world
      others = queues_keep a.world step reply

      beside : Knows V c
      beside = (ever_beside V a w others knows.0, seen_beside V a w others knows.1)

      ticks : b.world ≡ (ticked c).world → b.moments ≡ (ticked c).moments → b.scanned ≡ (ticked c).scanned
          → b.born ≡ (ticked c).born → Knows V b
      ticks world moments scanned born = (
        ever_ticked V c b (ap (λ (v : World). v.phase) others ∙ marks) (world ∙ ticked_world c) moments beside.0,
        seen_same V c b
            (same_twice c (ticked c) b (ticked_same c)
            (scanned, born, ap (λ (v : World). numbers v.heap.objects) world)) beside.1,
      )

-- a refused row leaves what is known
pub known_refused : (V : ℕ → Type 0) (a b : State) (row : Row) (fault : Fault) → refusal a row.step ≡ Some fault
    → Knows V a → IsRow a row b → Knows V b
known_refused V a b row fault refused knows h = subst (Knows V) (sym (refused_same a b row fault refused h)) knows

-- and so does a row of a mark that makes and gets nothing
pub known_row : (V : ℕ → Type 0) (a b : State) (row : Row) → AreCounted a.world → a.world.phase ≡ Marking
    → BringsNone row.step → Knows V a → IsRow a row b → Knows V b
known_row V a b row counted marks brings knows h =
    elim (row_kind a row b counted h) [
      | inl of ↦ subst (Knows V) (sym of.same) knows
      | inr others ↦ elim others [
        | inl of ↦ queues_known V a b marks knows row.step row.reply of.becomes
        | inr of ↦ handed_on of
      ]
    ]
  where
    handed_on : IsOfHeap a row b → Knows V b
    handed_on of =
        let c : State = of.left in
        let keeps : KeepsEver of.asked = subst IfAsked of.asks (asks_such a.world row.step brings) in
        let there : Knows V c = heap_known V a c marks knows of.asked row.reply keeps of.passes of.accepts in
        let others : but_hands (handed c.world row.step row.reply) ≡ but_hands c.world =
        handed_keeps c.world row.step row.reply in
        subst (Knows V) (sym of.after) (
          ever_beside V c (handed c.world row.step row.reply) others there.0,
          seen_beside V c (handed c.world row.step row.reply) others there.1,
        )

-- ---- rows that bring something new

module _ (V : ℕ → Type 0) (a b : State) (marks : a.world.phase ≡ Marking) (knows : Knows V a) where
  -- a get brings what it answers, and what kept paths lead to from there
  pub known_got : (more : ℕ → Type 0) (m d s : ℕ) (reply : Reply) → ((n : ℕ) → V n → more n)
      → IsClosed (is_kept a.world.policy) more a.world
      → OfValue more (referent_got (reference_of a.world.heap (slot_at a.world.heap m s)))
      → ((n : ℕ) → more n → V n ⊎ IsKept a.world.policy (graph_of b.world) n)
      → plain_refusal a (plain.Get m d s) ≡ None → IsRow a (plain_row (plain.Get m d s) reply) b → Knows more b
  known_got more m d s reply wider closed got old_or_now none h =
      let row = plain_accepted a b (plain.Get m d s) reply none h in (
        ever_got V a b knows.0 marks more m d s reply wider closed got old_or_now none row,
        seen_row more a b (heap.Plain (plain.Get m d s)) reply tt row (seen_more V more a wider knows.1),
      )

  -- a making brings the new object
  pub known_new : (m d k : ℕ) (reply : Reply) → is_there a.world.heap.objects a.next ≡ false
      → 16 * m + d < length a.world.heap.slots → plain_refusal a (plain.New m d k) ≡ None
      → IsRow a (plain_row (plain.New m d k) reply) b → Knows (WithNext V a) b
  known_new m d k reply new within none h =
      let row = plain_accepted a b (plain.New m d k) reply none h in (
        ever_new V a b knows.0 marks m d k reply new within none row,
        seen_made V a b m d (plain_object a.next (nulls k)) reply refl row knows.1,
      )

  -- and so does one of a reference
  pub known_refer : (m : ℕ) (strength : Strength) (d s : ℕ) (q : Option ℕ) (k : ℕ) (reply : Reply)
      → is_there a.world.heap.objects a.next ≡ false → 16 * m + d < length a.world.heap.slots
      → plain_refusal a (plain.Refer m strength d s q k) ≡ None
      → IsRow a (plain_row (plain.Refer m strength d s q k) reply) b → Knows (WithNext V a) b
  known_refer m strength d s q k reply new within none h =
      let row = plain_accepted a b (plain.Refer m strength d s q k) reply none h in (
        ever_refer V a b knows.0 marks m strength d s q k reply new within none row,
        seen_made V a b m d (new_reference a.world.heap a.next strength (slot_at a.world.heap m s) q k) reply refl row
            knows.1,
      )

-- as a mark begins, a closed set is known of which each is kept then, where each number that is there is below the next
pub known_begun : (V : ℕ → Type 0) (a b : State) (now : ℕ) (how : Urgency) (reply : Reply)
    → ((n : ℕ) → is_there a.world.heap.objects n ≡ true → n < a.next)
    → ((n : ℕ) → V n → IsKept b.world.policy (graph_of b.world) n) → IsClosed (is_kept b.world.policy) V b.world
    → plain_refusal a (plain.Begin now how) ≡ None → IsRow a (plain_row (plain.Begin now how) reply) b → Knows V b
known_begun V a b now how reply below kept closed none h =
    let row = plain_accepted a b (plain.Begin now how) reply none h in
    (ever_begun V a b now how reply kept closed row, seen_begun V a b now how reply below row)

-- ---- what is kept as a mark begins

-- where whatever a root names is there, and whatever an object refers to, what paths lead to is closed
paths_closed : (allow : Allowed) (w : World)
    → ((n : ℕ) → has (graph_of w).roots n ≡ true → is_there w.heap.objects n ≡ true)
    → ((m n : ℕ) → is_there w.heap.objects m ≡ true → has (targets_at allow w.heap.objects m) n ≡ true
    → is_there w.heap.objects n ≡ true)
    → IsClosed allow (EndsPath allow (graph_of w)) w
paths_closed allow w roots targets = record {
  slots = λ i. in_slot i (slice_index_or w.heap.slots i None) refl;
  holds = λ n held.
      root n
      (has-left (present w.heap.slots ++ w.heap.holds) (pending_numbers w.pending) n
      (has-right (present w.heap.slots) w.heap.holds n held));
  pendings = λ k.
      all_more (λ p. has (pending_numbers w.pending) p.object ≡ true) (λ p. EndsPath allow (graph_of w) p.object)
      (pending_of w k)
      (λ p pends.
      root p.object (has-right (present w.heap.slots ++ w.heap.holds) (pending_numbers w.pending) p.object pends))
      (pending_roots w.pending k);
  targets = λ m n ends target.
      target_ends allow (graph_of w) m n ends target (targets m n (there m ends.0 ends.1) target);
}
  where
    root : (n : ℕ) → has (graph_of w).roots n ≡ true → EndsPath allow (graph_of w) n
    root n is = root_ends allow (graph_of w) n (roots n is) is

    in_slot : (i : ℕ) (value : Option ℕ) → slice_index_or w.heap.slots i None ≡ value
        → OfValue (EndsPath allow (graph_of w)) value
    in_slot i None is = tt
    in_slot i (Some n) is =
        root n
        (has-left (present w.heap.slots ++ w.heap.holds) (pending_numbers w.pending) n
        (has-left (present w.heap.slots) w.heap.holds n (has-present_at w.heap.slots i n is)))

    there : (n : ℕ) (before : List ℕ) → IsPath allow (graph_of w) n before → is_there w.heap.objects n ≡ true
    there n [] path = path.0
    there n (m ∷ before) path = path.0

-- as a mark begins, just what is kept then is known, where nothing that is named is missing
pub known_kept : (a b : State) (now : ℕ) (how : Urgency) (reply : Reply)
    → ((n : ℕ) → is_there a.world.heap.objects n ≡ true → n < a.next)
    → ((n : ℕ) → has (graph_of b.world).roots n ≡ true → is_there b.world.heap.objects n ≡ true)
    → ((m n : ℕ) → is_there b.world.heap.objects m ≡ true
    → has (targets_at (is_kept b.world.policy) b.world.heap.objects m) n ≡ true
    → is_there b.world.heap.objects n ≡ true)
    → plain_refusal a (plain.Begin now how) ≡ None → IsRow a (plain_row (plain.Begin now how) reply) b
    → Knows (IsKept b.world.policy (graph_of b.world)) b
known_kept a b now how reply below roots targets none h =
    known_begun (IsKept b.world.policy (graph_of b.world)) a b now how reply below (λ n kept. kept)
    (paths_closed (is_kept b.world.policy) b.world roots targets) none h
