-- What a judge does at a get: in a mark one that answers an object marks what kept paths lead to from there, and says
-- anew whether an object is left.
use Rattle.ref_base.proofs.Common.{arith, ◌≡◌, ℕ, ◌+◌, ◌*◌, ◌<◌, Bool, true, false, ◌&&◌, ◌||◌, ◌==◌, List, [], ◌∷◌}
use Rattle.ref_base.proofs.Common.{◌++◌}
use Rattle.ref_base.proofs.Common.{length, refl, sym, ap, ◌∙◌, subst, inl, inr, ◌⊎◌, Option, Some, None, is_some}
use Rattle.ref_base.proofs.Common.{nat_lt}
use Rattle.ref_base.proofs.Common.{and_parts, false≢true, true≢false, cases_Bool, has, State, Heap, Graph, Object}
use Rattle.ref_base.proofs.Common.{Reference, Allowed, EndsPath, IsPath, is_there, is_in, is_kept, targets_at}
use Rattle.ref_base.proofs.Common.{targets_of}
use Rattle.ref_base.proofs.Common.{allowed_referent, if_any, any_referent, present, graph_of, Pending, pending_of}
use Rattle.ref_base.proofs.Common.{pending_numbers, object_at, reference_of, reference_in, referent_got}
use Rattle.ref_base.proofs.Common.{slot_at, changed_in, got, got_at, with_reference, ticked, on_heap, Gets}
use Rattle.ref_base.proofs.Common.{GivesAnewIf, length-set}
use Rattle.std.specs.Prelude.{◌≤◌, Ok}
use Rattle.ref_base.specs.CollectorRows.{value_reply, PlainAccepts, IsBut, list_at}
use Rattle.ref_base.specs.Forgetting.{heap_but}
use Rattle.ref_base.specs.Paths.{is_phantom}
use Rattle.ref_base.specs.Refusals.{plain_refusal, get_refusal, has_slot, has_slots}
use Rattle.ref_base.specs.declared.config.Config.{Config}
use Rattle.ref_base.specs.declared.phase.Phase.{Phase}
use Rattle.ref_base.specs.declared.phase.Phase.TheVariants.{Marking}
use Rattle.ref_base.specs.declared.plain_step.PlainStep.{PlainStep}
use Rattle.ref_base.specs.declared.plain_step.PlainStep.TheVariants as plain
use Rattle.ref_base.specs.declared.policy.Policy.{Policy}
use Rattle.ref_base.specs.declared.reply.Reply.{Reply}
use Rattle.ref_base.specs.declared.reply.Reply.TheVariants as replies
use Rattle.ref_base.specs.declared.step.Step.TheVariants.{Plain}
use Rattle.ref_base.proofs.ApartWorlds.{IsClosed, OfValue}
use Rattle.ref_base.proofs.CarryRows.{all_more}
use Rattle.ref_base.proofs.EverWorlds.{Knows}
use Rattle.ref_base.proofs.Forgetting.{heap_but-none}
use Rattle.ref_base.proofs.HasLaws.{has-cases, has-left, has-right, has-first, has-single}
use Rattle.ref_base.proofs.Lookups.{lookup-changed, has-present_at, has-present_here}
use Rattle.ref_base.proofs.PathLaws.{ends-wider, targets_of-wider}
use Rattle.ref_base.proofs.LegalMarks.{slot_within}
use Rattle.ref_base.proofs.PlainRows.{plain_row, accepted_plain}
use Rattle.ref_base.proofs.RowForms.{unless_passes}
use Rattle.ref_objects.specs.Grounds.{Ground, IsWellFormed, read_as, ground_brought, ground_with_heap, Space}
use Rattle.ref_objects.specs.Grounds.{cleared_in_at}
use Rattle.ref_objects.specs.Grounds.{MayGrow}
use Rattle.ref_objects.specs.declared.stage.Stage.TheVariants.{Tuned}
use Rattle.ref_space.specs.Tables.{Tag}
use Rattle.ref_space.specs.Worklists.{Worklist}
use Rattle.ref_judge.specs.Judged.{Judged, unheld, is_behind_mark, is_put, is_going}
use Rattle.ref_judge.specs.KeptBounds.{may_keep}
use Rattle.ref_judge.specs.LeftCounts.{unmarked_if}
use Rattle.ref_judge.specs.Policies.{profiled, policy_as}
use Rattle.ref_judge.specs.ProfiledRows.{IsRowAs, says_anew, AcceptsAnew, PlainAcceptsAs}
use Rattle.ref_judge.specs.Spreading.{IsButMarks, Spread, HasGot}
use Rattle.ref_judge.specs.Standing.{StandsFor, DoesAs, LeadsOne, IsSettled, IsOfSomeState, KnowsKept, Lawful}
use Rattle.ref_judge.specs.Standing.{DecidesAs}
use Rattle.ref_judge.specs.declared.profile.Profile.{Profile}
use Rattle.ref_judge.proofs.BegunJudges.{worklist_same}
use Rattle.ref_judge.proofs.SomeFits.{either_true}
use Rattle.ref_judge.proofs.KnownGains.{known_got_as}
use Rattle.ref_judge.proofs.KnownJudges.{marks_of}
use Rattle.ref_judge.proofs.LeftJudged.{left_decides}
use Rattle.ref_judge.proofs.LegalFacts.{Facts, legal_facts, lawful_row}
use Rattle.ref_judge.proofs.LoadRows.{brought_none}
use Rattle.ref_judge.proofs.OtherPolicies.{kept_under}
use Rattle.ref_judge.proofs.SameObjects.{SameObjects, same_got, references_same}
use Rattle.ref_judge.proofs.SoundJudges.{leads_anew, leads_same, sound_after, not_anew}
use Rattle.ref_judge.proofs.SpreadLemmas.{ends_more, spread_itself}
use Rattle.ref_judge.proofs.StandingHeaps.{reference_of_same, got_same, refusal_same}
use Rattle.ref_judge.proofs.StandingRows.{moved_to, ticked_moved}
use Rattle.ref_judge.proofs.UnchangedRows.{accepted_plain_as, row_common}

-- ---- what the answer leads to

-- a referent that a get answers is the only one to which its reference leads
one_referent : (allow : Allowed) (r : Option Reference) (k n : ℕ) → referent_got r ≡ Some k
    → has (allowed_referent allow r) n ≡ true → k ≡ n
one_referent allow None k n is h = absurd (false≢true h)
one_referent allow (Some r) k n is h =
    elim (cases_Bool (is_phantom r.strength)) [
      | inl phantom ↦ absurd (none_some (simp phantom at is))
      | inr other ↦
          elim (cases_Bool (allow r)) [
            | inl may ↦ one r.referent (simp other at is) (simp may at h)
            | inr not_so ↦ absurd (false≢true (simp not_so at h))
          ]
    ]
  where
    none_some : None ≡ Some k → ⊥
    none_some same = absurd cc

    one : (v : Option ℕ) → v ≡ Some k → has (if_any v) n ≡ true → k ≡ n
    one None is h = absurd (false≢true h)
    one (Some i) is h = grind (arith, has-single, is, h)

-- what an object led to before the get, it leads to still, or that is the answer
abbrev StillLeads : Allowed → ℕ → Option Object → Option Object → Type 0
StillLeads allow k o next =
    (n : ℕ) → has (targets_of allow o) n ≡ true → (has (targets_of allow next) n ≡ true) ⊎ (k ≡ n)

object_leads : (allow : Allowed) (k clock : ℕ) (o : Object) → referent_got o.reference ≡ Some k
    → StillLeads allow k (Some o) (Some (with_reference (got_at clock) o))
object_leads allow k clock o is n target =
    elim (has-cases (present o.fields) (allowed_referent allow o.reference) n target) [
      | inl field ↦
          inl (has-left (present o.fields)
          (allowed_referent allow (with_reference (got_at clock) o).reference) n field)
      | inr referent ↦ inr (one_referent allow o.reference k n is referent)
    ]

heap_leads : (allow : Allowed) (h : Heap) (held : Option ℕ) (clock k i : ℕ)
    → referent_got (reference_of h held) ≡ Some k
    → StillLeads allow k (object_at h.objects i)
    (object_at (changed_in h held (with_reference (got_at clock))).objects i)
heap_leads allow h None clock k i is = λ n target. inl target
heap_leads allow h (Some r) clock k i is =
    lookup-changed (StillLeads allow k) h.objects r (with_reference (got_at clock)) (λ o. refl)
    (λ o n target. inl target)
    (λ o at. object_leads allow k clock o (ap (λ (x : Option Object). referent_got (reference_in x)) (sym at) ∙ is)) i

-- where a get answers nothing it changes no object
got_leads : (allow : Allowed) (h : Heap) (m d s : ℕ) (value : Option ℕ) (i n : ℕ)
    → referent_got (reference_of h (slot_at h m s)) ≡ value
    → has (targets_at allow h.objects i) n ≡ true
    → (has (targets_at allow (got h m d s value).objects i) n ≡ true) ⊎ (value ≡ Some n)
got_leads allow h m d s None i n is target = inl target
got_leads allow h m d s (Some k) i n is target =
    elim (heap_leads allow h (slot_at h m s) h.clock k i is n target) [
      | inl still ↦ inl still
      | inr same ↦ inr (ap Some same)
    ]

-- the answer is what some object leads to
led_by : (h : Heap) (held : Option ℕ) (k : ℕ) → referent_got (reference_of h held) ≡ Some k
    → (r : ℕ) × (held ≡ Some r) × (has (targets_at any_referent h.objects r) k ≡ true)
led_by h None k is = absurd (none_some is)
  where
    none_some : None ≡ Some k → ⊥
    none_some same = absurd cc
led_by h (Some r) k is = (r, refl, of_object (object_at h.objects r) is)
  where
    of_reference : (r : Reference) → referent_got (Some r) ≡ Some k
        → has (allowed_referent any_referent (Some r)) k ≡ true
    of_reference r is =
        elim (cases_Bool (is_phantom r.strength)) [
          | inl phantom ↦ absurd (none_some (simp phantom at is))
          | inr other ↦
              let names : r.referent ≡ Some k = simp other at is in
              ap (λ (v : Option ℕ). has (if_any v) k) names ∙ has-first k []
        ]
      where
        none_some : None ≡ Some k → ⊥
        none_some same = absurd cc

    of_object : (o : Option Object) → referent_got (reference_in o) ≡ Some k
        → has (targets_of any_referent o) k ≡ true
    of_object None is = absurd (none_some is)
      where
        none_some : None ≡ Some k → ⊥
        none_some same = absurd cc
    of_object (Some o) is =
        has-right (present o.fields) (allowed_referent any_referent o.reference) k (of_some o.reference is)
      where
        of_some : (x : Option Reference) → referent_got x ≡ Some k → has (allowed_referent any_referent x) k ≡ true
        of_some None is = absurd (none_some is)
          where
            none_some : None ≡ Some k → ⊥
            none_some same = absurd cc
        of_some (Some r) is = of_reference r is

slots_got : (h : Heap) (m d s : ℕ) (value : Option ℕ) (k : ℕ) → value ≡ Some k → 16 * m + d < length h.slots
    → has (present (got h m d s value).slots) k ≡ true
slots_got h m d s None k is within = absurd cc
slots_got h m d s (Some i) k is within =
    subst (λ (n : ℕ). has (present (got h m d s (Some i)).slots) n ≡ true) (same is)
    (has-present_here (changed_in h (slot_at h m s) (with_reference (got_at h.clock))).slots (16 * m + d) i
    (subst (λ (slots : List (Option ℕ)). 16 * m + d < length slots) (sym (slots_same (slot_at h m s))) within))
  where
    same : Some i ≡ Some k → i ≡ k
    same is = cc

    slots_same : (held : Option ℕ) → (changed_in h held (with_reference (got_at h.clock))).slots ≡ h.slots
    slots_same None = refl
    slots_same (Some r) = refl

-- ---- what may be kept then

module _ (old : Judged) (a : State) (stands : StandsFor old a) (m d s : ℕ) (value : Option ℕ) (h : Ground)
    (answers : value ≡ referent_got (reference_of a.world.heap (slot_at a.world.heap m s)))
    (within : 16 * m + d < length a.world.heap.slots) where
  facts : Facts old.config a
  facts = legal_facts old.profile old.config a stands.lawful

  -- the heap after the get
  abbrev g : Heap
  g = got a.world.heap m d s value

  same : SameObjects a.world.heap g
  same = same_got a.world.heap m d s value

  abbrev may : Allowed
  may = may_keep old.profile a.world.policy

  abbrev keeps : Allowed
  keeps = is_kept (policy_as old.profile a.world.policy)

  module _ (marks : a.world.phase ≡ Marking) (start : Ground) (objects : start.heap.objects ≡ g.objects)
      (was : start.marked ≡ old.ground.marked) (none_doomed : a.doomed ≡ [])
      (spread : Spread keeps start (if_any value) h [])
      (knows : Knows (λ n. has old.ground.marked n ≡ true) (profiled old.profile a)) where
    start_marked : (n : ℕ) → has start.marked n ≡ has old.ground.marked n
    start_marked n = ap (λ ns. has ns n) was

    wider : (n : ℕ) → has old.ground.marked n ≡ true → has h.marked n ≡ true
    wider n is = spread.wider n (start_marked n ∙ is)

    there_start : (n : ℕ) → is_there start.heap.objects n ≡ is_there a.world.heap.objects n
    there_start n = ap (λ (os : List Object). is_there os n) objects ∙ same.there n

    of_value : (v : Option ℕ) → OfValue (λ n. has old.ground.marked n ≡ true) v
        → OfValue (λ n. has h.marked n ≡ true) v
    of_value None is = tt
    of_value (Some n) is = wider n is

    -- what an object that is there leads to is there
    led_there : (i n : ℕ) → is_there a.world.heap.objects i ≡ true
        → has (targets_at any_referent a.world.heap.objects i) n ≡ true → is_there a.world.heap.objects n ≡ true
    led_there i n there target =
        (facts.names.targets i n there (ap (λ (ds : List ℕ). has ds i) none_doomed) target).0

    answer_there : (k : ℕ) → value ≡ Some k → is_there a.world.heap.objects k ≡ true
    answer_there k is =
        let led = led_by a.world.heap (slot_at a.world.heap m s) k (sym answers ∙ is) in
        led_there led.0 k
        (facts.names.roots led.0
        (has-left (present a.world.heap.slots ++ a.world.heap.holds) (pending_numbers a.world.pending) led.0
        (has-left (present a.world.heap.slots) a.world.heap.holds led.0
        (has-present_at a.world.heap.slots (16 * m + s) led.0 led.1)))).0 led.2

    -- the answer is marked
    answer_marked : (v : Option ℕ) → value ≡ v → OfValue (λ n. has h.marked n ≡ true) v
    answer_marked None is = tt
    answer_marked (Some k) is =
        spread.rooted k (subst (λ (v : Option ℕ). has (if_any v) k ≡ true) (sym is) (has-first k []))
        (there_start k ∙ answer_there k is)

    path_there : (n : ℕ) (before : List ℕ)
        → IsPath keeps (record { objects = start.heap.objects; roots = if_any value }) n before
        → is_there start.heap.objects n ≡ true
    path_there n [] path = path.0
    path_there n (i ∷ before) path = path.0

    led : (i n : ℕ) → has h.marked i ≡ true → has (targets_at may a.world.heap.objects i) n ≡ true
        → has h.marked n ≡ true
    led i n marked target =
        elim (cases_Bool (has old.ground.marked i)) [
          | inl old_one ↦ wider n (knows.0.closed.targets i n old_one kept)
          | inr new ↦
              elim (spread.reached i marked) [
                | inl before ↦ absurd (true≢false (sym before ∙ start_marked i ∙ new))
                | inr ends ↦
                    let there : is_there a.world.heap.objects i ≡ true =
                    sym (there_start i) ∙ path_there i ends.0 ends.1 in
                    of_either i n marked new there target
                    (got_leads keeps a.world.heap m d s value i n (sym answers) kept)
              ]
        ]
      where
        kept : has (targets_at keeps a.world.heap.objects i) n ≡ true
        kept = targets_of-wider may keeps (λ r is. kept_under old.profile a.world.policy r ∙ is)
            (object_at a.world.heap.objects i) n target

        of_either : (i n : ℕ) → has h.marked i ≡ true → has old.ground.marked i ≡ false
            → is_there a.world.heap.objects i ≡ true → has (targets_at may a.world.heap.objects i) n ≡ true
            → (has (targets_at keeps g.objects i) n ≡ true) ⊎ (value ≡ Some n) → has h.marked n ≡ true
        of_either i n marked new there target (inl still) =
            spread.closed i n marked (start_marked i ∙ new) refl
            (subst (λ (os : List Object). has (targets_at keeps os i) n ≡ true) (sym objects) still)
            (there_start n
            ∙ led_there i n there
            (targets_of-wider may any_referent (λ r is. refl) (object_at a.world.heap.objects i) n target))
        of_either i n marked new there target (inr answer) = answer_marked (Some n) answer

    closed : IsClosed may (λ n. has h.marked n ≡ true) a.world
    closed = record {
      slots = λ i. of_value _ (knows.0.closed.slots i);
      holds = λ n held. wider n (knows.0.closed.holds n held);
      pendings = λ k.
          all_more (λ (p : Pending). has old.ground.marked p.object ≡ true)
          (λ (p : Pending). has h.marked p.object ≡ true) (pending_of a.world k) (λ p is. wider p.object is)
          (knows.0.closed.pendings k);
      targets = led;
    }

    old_or_now : (b : State) → b.world.heap ≡ g → b.world.pending ≡ a.world.pending → (n : ℕ)
        → has h.marked n ≡ true → (has old.ground.marked n ≡ true) ⊎ EndsPath may (graph_of b.world) n
    old_or_now b heap pending n marked =
        elim (spread.reached n marked) [
          | inl before ↦ inl (sym (start_marked n) ∙ before)
          | inr ends ↦
              inr (ends-wider keeps may (λ r is. sym (kept_under old.profile a.world.policy r) ∙ is) (graph_of b.world)
              n
              (subst (λ (os : List Object).
              EndsPath keeps (record { objects = os; roots = (graph_of b.world).roots }) n)
              (objects ∙ ap (λ (x : Heap). x.objects) (sym heap))
              (ends_more keeps start.heap.objects (if_any value) (graph_of b.world).roots (root value refl) n ends)))
        ]
      where
        root : (v : Option ℕ) → value ≡ v → (k : ℕ) → has (if_any v) k ≡ true
            → has (graph_of b.world).roots k ≡ true
        root None is k in_it = absurd (false≢true in_it)
        root (Some i) is k in_it =
            let slot : has (present b.world.heap.slots) k ≡ true =
            subst (λ (x : Heap). has (present x.slots) k ≡ true) (sym heap)
            (slots_got a.world.heap m d s value k (is ∙ ap Some (has-single i k in_it)) within) in
            has-left (present b.world.heap.slots ++ b.world.heap.holds) (pending_numbers b.world.pending) k
            (has-left (present b.world.heap.slots) b.world.heap.holds k slot)

    knows_got : (b : State) (reply : Reply) → b.world.heap ≡ g → b.world.pending ≡ a.world.pending
        → plain_refusal a (plain.Get m d s) ≡ None → IsRowAs old.profile a (plain_row (plain.Get m d s) reply) b
        → Knows (λ n. has h.marked n ≡ true) (profiled old.profile b)
    knows_got b reply heap pending none row =
        known_got_as old.profile (λ n. has old.ground.marked n ≡ true) a b marks knows
        (λ n. has h.marked n ≡ true) m d s reply wider closed
        (subst (OfValue (λ n. has h.marked n ≡ true)) answers (answer_marked value refl))
        (old_or_now b heap pending) none row

  -- ---- the state after the get

  abbrev judge_got : Bool → Bool → Judged
  judge_got left none = record old { ground = h; may_be_left = left; may_be_none = none }

  stands_got : (moments : List Graph) (said left none : Bool) → h.heap ≡ got old.ground.heap m d s value
      → h.next ≡ old.ground.next → h.tags ≡ old.ground.tags
      → (is_behind_mark old.phase ≡ true → h.marked ≡ old.ground.marked)
      → KnowsKept (judge_got left none) (moved_to a g moments said)
      → Lawful old.profile old.config (moved_to a g moments said)
      → StandsFor (judge_got left none) (moved_to a g moments said)
  stands_got moments said left none heap next tags marked kept lawful = record {
    lawful = lawful;
    heap = heap ∙ got_same old a stands m d s value;
    next = next ∙ stands.next;
    holds = stands.holds ∙ ap length (sym (holds_got a.world.heap value));
    mutator_hands = stands.mutator_hands;
    worker_hands = stands.worker_hands;
    lines = stands.lines;
    phase = stands.phase;
    cycle = stands.cycle;
    policy = stands.policy;
    born = stands.born;
    count = stands.count;
    chosen = stands.chosen;
    doomed = stands.doomed;
    kept = kept;
    live = λ past n there.
        ap (λ (ns : List ℕ). has ns n) (marked past) ∙ stands.live past n (sym (same.there n) ∙ there);
    tags = record {
      old = λ n. subst (λ (ts : List Tag). cleared_in_at ts n ≤ old.cycle) (sym tags) (stands.tags.old n);
      scanned = λ judging n there.
          ap (λ (ts : List Tag). cleared_in_at ts n == old.cycle) tags
          ∙ stands.tags.scanned judging n (sym (same.there n) ∙ there);
      put = λ n q is.
          ap (λ (ts : List Tag). is_put ts n) tags ∙ stands.tags.put n q (sym (same.registered n) ∙ is);
    };
    finders = record {
      pending = stands.finders.pending;
      within = stands.finders.within;
      found = λ judging k.
          stands.finders.found judging k ∙ sym (references_same a.world.heap g (list_at a.scanned k) same);
      cleared = stands.finders.cleared;
    };
  }
    where
      holds_got : (x : Heap) (v : Option ℕ) → (got x m d s v).holds ≡ x.holds
      holds_got x None = refl
      holds_got x (Some n) = of_held x (slot_at x m s)
        where
          of_held : (x : Heap) (held : Option ℕ)
              → (changed_in x held (with_reference (got_at x.clock))).holds ≡ x.holds
          of_held x None = refl
          of_held x (Some r) = refl

-- ---- the rows

gets_same : (a : State) (m d s : ℕ) (value : Option ℕ) → (is_some value && is_in a.world.phase Marking) ≡ false
    → Gets a m d s value (value_reply value) (ticked (on_heap a (got a.world.heap m d s value)))
gets_same a m d s None same = (refl, refl)
gets_same a m d s (Some n) same = simp same (refl, refl)

gets_plain : (a : State) (m d s : ℕ) (value : Option ℕ) → (is_some value && is_in a.world.phase Marking) ≡ false
    → says_anew a (plain.Get m d s) (value_reply value) ≡ false
gets_plain a m d s None same = grind arith
gets_plain a m d s (Some n) same = simp same refl

-- a get of a mark that answers an object may say that none is left
row_got : (p : Profile) (a : State) (m d s n : ℕ)
    → referent_got (reference_of a.world.heap (slot_at a.world.heap m s)) ≡ Some n
    → is_in a.world.phase Marking ≡ true
    → let g = got a.world.heap m d s (Some n) in
    PlainAcceptsAs p a (plain.Get m d s) (replies.Object n) (moved_to a g (ticked (on_heap a g)).moments false)
row_got p a m d s n value now =
    let step : PlainStep = plain.Get m d s in
    let reply : Reply = replies.Object n in
    let c : State = on_heap a (got a.world.heap m d s (Some n)) in
    let b : State = moved_to a c.world.heap (ticked c).moments false in
    let none : IsBut (ticked c) b = (
      false,
      ap (λ (s : State). record s { left = false }) (sym (ticked_moved a c.world.heap)),
      λ said. absurd (false≢true said),
    ) in
    let accepts : PlainAccepts a step reply b =
    subst (λ (v : Option ℕ). Gets a m d s v reply b) (sym value)
    (subst (λ (anew : Bool). GivesAnewIf anew reply c reply b) (sym now) (refl, none)) in
    subst (λ (anew : Bool). AcceptsAnew p anew a step reply b)
    (sym (let anew : (is_in a.world.phase Marking && true) ≡ true = simp now refl in anew))
    (b, accepts, (false, refl, λ said. absurd (false≢true said)))

-- ---- what the judge's objects are

-- the objects answered this value, and are these
pub record Answered (old : Judged) (m d s : ℕ) (value : Option ℕ) (start : Ground) : Type 0 where
  pub refused : get_refusal old.ground.heap m d s ≡ None
  pub answer : value ≡ read_as old.ground false (referent_got
      (reference_of old.ground.heap (slot_at old.ground.heap m s)))
  pub after :
      let v = read_as old.ground false (referent_got (reference_of old.ground.heap (slot_at old.ground.heap m s))) in
      start ≡ ground_with_heap (ground_brought old.ground v) (got old.ground.heap m d s v)
  pub formed : IsWellFormed start

read_shown : (g : Ground) (value : Option ℕ) → read_as g false value ≡ value
read_shown g None = refl
read_shown g (Some n) = refl

length_got : (h : Heap) (m d s : ℕ) (value : Option ℕ) → length (got h m d s value).slots ≡ length h.slots
length_got h m d s None = length-set h.slots (16 * m + d) None
length_got h m d s (Some n) =
    length-set (changed_in h (slot_at h m s) (with_reference (got_at h.clock))).slots (16 * m + d) (Some n)
    ∙ of_held (slot_at h m s)
  where
    of_held : (held : Option ℕ) → length (changed_in h held (with_reference (got_at h.clock))).slots ≡ length h.slots
    of_held None = refl
    of_held (Some r) = refl

config_got : (h : Heap) (m d s : ℕ) (value : Option ℕ) → (got h m d s value).config ≡ h.config
config_got h m d s None = refl
config_got h m d s (Some n) = of_held (slot_at h m s)
  where
    of_held : (held : Option ℕ) → (changed_in h held (with_reference (got_at h.clock))).config ≡ h.config
    of_held None = refl
    of_held (Some r) = refl

module _ (old : Judged) (settled : IsSettled old) (m d s : ℕ) (value : Option ℕ) (start : Ground)
    (answered : Answered old m d s value start) where
  start_is : start ≡ record old.ground { heap = got old.ground.heap m d s value }
  start_is =
      let v = read_as old.ground false (referent_got (reference_of old.ground.heap (slot_at old.ground.heap m s))) in
      answered.after
      ∙ ap (λ (space : Space). record old.ground { space = space; heap = got old.ground.heap m d s v })
      (brought_none old.ground.space v settled.none_to_move)
      ∙ ap (λ (x : Option ℕ). record old.ground { heap = got old.ground.heap m d s x }) (sym answered.answer)

  within_old : 16 * m + d < length old.ground.heap.slots
  within_old =
      let whole : length old.ground.heap.slots ≡ 16 * old.ground.heap.config.mutators =
      sym (length_got old.ground.heap m d s value)
      ∙ ap (λ (x : Ground). length x.heap.slots) (sym start_is) ∙ answered.formed.orderly.slots
      ∙ ap (λ (x : Ground). 16 * x.heap.config.mutators) start_is
      ∙ ap (λ (c : Config). 16 * c.mutators) (config_got old.ground.heap m d s value) in
      slot_within old.ground.heap m d whole
      (and_parts (has_slot old.ground.heap m d) (nat_lt s 16)
      (unless_passes (has_slots old.ground.heap m d s) _ _ answered.refused).0).0

  module _ (a : State) (stands : StandsFor old a) where
    answers_state : value ≡ referent_got (reference_of a.world.heap (slot_at a.world.heap m s))
    answers_state =
        answered.answer ∙ read_shown old.ground _
        ∙ ap referent_got (reference_of_same old a stands m s)

    within_state : 16 * m + d < length a.world.heap.slots
    within_state = subst (λ (x : Heap). 16 * m + d < length x.slots) stands.heap within_old

    passes : plain_refusal a (plain.Get m d s) ≡ None
    passes = sym (refusal_same old a stands (plain.Get m d s) tt) ∙ answered.refused

    -- in a mark nothing is doomed
    none_out : is_in old.phase Marking ≡ true → a.doomed ≡ []
    none_out marks =
        (legal_facts old.profile old.config a stands.lawful).names.none_doomed
        (not_past a.world.phase (subst (λ (p : Phase). is_in p Marking ≡ true) stands.phase marks))
      where
        not_past : (p : Phase) → is_in p Marking ≡ true → is_behind_mark p ≡ false
        not_past Marking is = refl
        not_past p is = absurd (false≢true is)

    objects_start : is_in old.phase Marking ≡ true
        → start.heap.objects ≡ (got a.world.heap m d s value).objects
    objects_start marks =
        ap (λ (x : Ground). x.heap.objects) start_is
        ∙ ap (λ (x : Heap). x.objects) (got_same old a stands m d s value
        ∙ ap (λ (ds : List ℕ). heap_but ds (unheld (got a.world.heap m d s value))) (none_out marks)
        ∙ heap_but-none (unheld (got a.world.heap m d s value)))

    -- what is known after the get
    kept_then : (h : Ground) (b : State) (reply : Reply)
        → HasGot old.profile.keeps_more (policy_as old.profile old.policy) value start h
        → b.world.heap ≡ got a.world.heap m d s value → b.world.pending ≡ a.world.pending
        → IsRowAs old.profile a (plain_row (plain.Get m d s) reply) b
        → is_in old.phase Marking ≡ true → old.profile.keeps_more ≡ false
        → Knows (λ n. has h.marked n ≡ true) (profiled old.profile b)
    kept_then h b reply has_got heap pending row marks less =
        knows_got old a stands m d s value h answers_state within_state (marks_of old a stands marks) start
        (objects_start marks) (ap (λ (x : Ground). x.marked) start_is) (none_out marks)
        (subst (λ (q : Policy). Spread (is_kept (policy_as old.profile q)) start (if_any value) h []) stands.policy
        (has_got.spread less))
        (stands.kept marks less) b reply heap pending passes row

    module _ (h : Ground) (left none : Bool) (is_but : IsButMarks start h)
        (marks_stay : is_behind_mark old.phase ≡ true → h.marked ≡ start.marked) where
      stands_then : (moments : List Graph) (said : Bool) (reply : Reply)
          → (is_in old.phase Marking ≡ true
          → HasGot old.profile.keeps_more (policy_as old.profile old.policy) value start h)
          → IsRowAs old.profile a (plain_row (plain.Get m d s) reply)
          (moved_to a (got a.world.heap m d s value) moments said)
          → StandsFor (record old { ground = h; may_be_left = left; may_be_none = none })
          (moved_to a (got a.world.heap m d s value) moments said)
      stands_then moments said reply has_got row =
          stands_got old a stands m d s value h answers_state within_state moments said left none
          (ap (λ (x : Ground). x.heap) is_but ∙ ap (λ (x : Ground). x.heap) start_is)
          (ap (λ (x : Ground). x.next) is_but ∙ ap (λ (x : Ground). x.next) start_is)
          (ap (λ (x : Ground). x.tags) is_but ∙ ap (λ (x : Ground). x.tags) start_is)
          (λ past. marks_stay past ∙ ap (λ (x : Ground). x.marked) start_is)
          (λ marks less.
          kept_then h (moved_to a (got a.world.heap m d s value) moments said) reply (has_got marks) refl refl row marks
          less)
          (lawful_row old.profile old.config a (moved_to a (got a.world.heap m d s value) moments said)
          (plain_row (plain.Get m d s) reply) stands.lawful row)

    -- where nothing is said anew
    leads_plain : (is_some value && is_in old.phase Marking) ≡ false
        → LeadsOne old (Plain (plain.Get m d s)) (Ok (value_reply value)) (record old { ground = start }) a
    leads_plain plainly =
        let step : PlainStep = plain.Get m d s in
        let g : Heap = got a.world.heap m d s value in
        let moments : List Graph = (ticked (on_heap a g)).moments in
        let b : State = moved_to a g moments a.left in
        let as_before : (is_some value && is_in a.world.phase Marking) ≡ false =
        subst (λ (p : Phase). (is_some value && is_in p Marking) ≡ false) stands.phase plainly in
        let accepts : PlainAccepts a step (value_reply value) b =
        subst (PlainAccepts a step (value_reply value)) (ticked_moved a g)
        (subst (λ (v : Option ℕ). Gets a m d s v (value_reply value) (ticked (on_heap a g))) answers_state
        (gets_same a m d s value as_before)) in
        let row : IsRowAs old.profile a (plain_row step (value_reply value)) b =
        row_common old.profile a b (plain_row step (value_reply value)) (inr (gets_plain a m d s value as_before))
        (accepted_plain a b step (value_reply value) passes accepts) in
        leads_same old (record old { ground = start }) a b (Plain step) (Ok (value_reply value)) row
        (stands_then start old.may_be_left old.may_be_none refl (λ past. refl) moments a.left (value_reply value)
        (λ marks. record { same = refl; spread = λ less. none_got value refl (none_said marks) }) row)
        (not_anew a step (value_reply value) (gets_plain a m d s value as_before))
        (record { left = refl; none = refl; some = refl; finders = λ k. refl })
      where
        none_said : is_in old.phase Marking ≡ true → is_some value ≡ false
        none_said marks = grind (arith, marks, plainly)

        none_got : (v : Option ℕ) → value ≡ v → is_some v ≡ false
            → Spread (is_kept (policy_as old.profile old.policy)) start (if_any v) start []
        none_got None is none = spread_itself (is_kept (policy_as old.profile old.policy)) start [] refl
        none_got (Some n) is none = absurd (true≢false none)

    -- where it is
    leads_said : (n : ℕ) (h : Ground) (left : Bool) → value ≡ Some n → is_in old.phase Marking ≡ true
        → HasGot old.profile.keeps_more (policy_as old.profile old.policy) value start h
        → left ≡ nat_lt (h.next + old.scanned + unmarked_if old.profile.keeps_more h)
        (length h.heap.objects + old.born)
        → LeadsOne old (Plain (plain.Get m d s)) (Ok (replies.Object n))
        (record old { ground = h; may_be_left = left; may_be_none = true }) a
    leads_said n h left is marks has_got counts =
        let step : PlainStep = plain.Get m d s in
        let g : Heap = got a.world.heap m d s value in
        let moments : List Graph = (ticked (on_heap a g)).moments in
        let b : State = moved_to a g moments false in
        let new : Judged = record old { ground = h; may_be_left = left; may_be_none = true } in
        let now : is_in a.world.phase Marking ≡ true =
        subst (λ (p : Phase). is_in p Marking ≡ true) stands.phase marks in
        let row : IsRowAs old.profile a (plain_row step (replies.Object n)) b =
        accepted_plain_as old.profile a b step (replies.Object n) passes
        (subst (λ (v : Option ℕ).
        PlainAcceptsAs old.profile a step (replies.Object n)
        (moved_to a (got a.world.heap m d s v) (ticked (on_heap a (got a.world.heap m d s v))).moments false)) (sym is)
        (row_got old.profile a m d s n (sym answers_state ∙ is) now)) in
        let stands_now : StandsFor new b =
        stands_then h left true has_got.same (λ past. absurd (no_mark old.phase past marks)) moments false
        (replies.Object n) (λ x. has_got) row in
        leads_anew old new a b (Plain step) (Ok (replies.Object n)) row stands_now (simp now refl) refl
        (subst (λ (bit : Bool). DecidesAs old.profile bit b) (sym counts) (left_decides new b stands_now marks))
      where
        no_mark : (p : Phase) → is_behind_mark p ≡ true → is_in p Marking ≡ true → ⊥
        no_mark Marking past is = false≢true past
        no_mark p past is = false≢true is

  -- ---- what its marks ask for

  pub got_tuned : (is_some value && is_in old.phase Marking) ≡ true → start.space.stage ≡ Tuned
  got_tuned anew =
      ap (λ (x : Ground). x.space.stage) start_is
      ∙ settled.tuned (going old.phase (and_parts (is_some value) (is_in old.phase Marking) anew).1)
    where
      going : (p : Phase) → is_in p Marking ≡ true → is_going p ≡ true
      going Marking is = refl
      going p is = absurd (false≢true is)

  pub got_room : MayGrow start old.grey
  got_room =
      let few = answered.formed.few in
      let cells : start.heap.config.cells ≡ old.grey.room =
      ap (λ (x : Ground). x.heap.config.cells) start_is
      ∙ ap (λ (c : Config). c.cells) (config_got old.ground.heap m d s value ∙ settled.config)
      ∙ sym settled.grey_room in
      record {
        room = omega (arith, few, cells);
        marked = subst (λ (ns : List ℕ). length ns ≤ length start.marked) (sym settled.none_grey) (omega arith);
      }

  -- ---- what it does

  pub gets_to : (is_some value && is_in old.phase Marking) ≡ false
      → DoesAs old (Plain (plain.Get m d s)) (Ok (value_reply value)) (record old { ground = start })
  gets_to plainly = (refl, refl, λ a stands. leads_plain a stands plainly)

  settled_got : (h : Ground) (grey : Worklist) (left none : Bool) → grey.stands ≡ [] → grey.room ≡ old.grey.room
      → IsButMarks start h → (is_in old.phase Marking ≡ true → (left || none) ≡ true)
      → IsSettled (record old { ground = h; grey = grey; may_be_left = left; may_be_none = none })
  settled_got h grey left none none_grey room is_but may = record {
    none_grey = none_grey;
    grey_room = room ∙ settled.grey_room;
    doomed_room = settled.doomed_room;
    config = ap (λ (x : Ground). x.heap.config) is_but ∙ ap (λ (x : Ground). x.heap.config) start_is
        ∙ config_got old.ground.heap m d s value ∙ settled.config;
    none_to_move = ap (λ (x : Ground). x.space.still_to_move) is_but
        ∙ ap (λ (x : Ground). x.space.still_to_move) start_is ∙ settled.none_to_move;
    none_chosen = ap (λ (x : Ground). x.space.has_choice) is_but
        ∙ ap (λ (x : Ground). x.space.has_choice) start_is ∙ settled.none_chosen;
    tuned = λ going. ap (λ (x : Ground). x.space.stage) is_but ∙ ap (λ (x : Ground). x.space.stage) start_is
        ∙ settled.tuned going;
    colour = ap (λ (x : Ground). x.space.last) is_but ∙ ap (λ (x : Ground). x.space.last) start_is ∙ settled.colour;
    condemning = ap (λ (x : Ground). x.condemning) is_but ∙ ap (λ (x : Ground). x.condemning) start_is
        ∙ settled.condemning;
    may = may;
    waits = settled.waits;
  }

  module _ (h : Ground) (grey : Worklist) (left : Bool)
      (has_got : HasGot old.profile.keeps_more (policy_as old.profile old.policy) value start h)
      (none_grey : grey.stands ≡ []) (room : grey.room ≡ old.grey.room)
      (counts : left ≡ nat_lt (h.next + old.scanned + unmarked_if old.profile.keeps_more h)
      (length h.heap.objects + old.born)) (anew : (is_some value && is_in old.phase Marking) ≡ true) where
    parts : (is_some value ≡ true) × (is_in old.phase Marking ≡ true)
    parts = and_parts (is_some value) (is_in old.phase Marking) anew

    said_of : (v : Option ℕ) → value ≡ v → is_some v ≡ true
        → DoesAs old (Plain (plain.Get m d s)) (Ok (value_reply v))
        (record old { ground = h; may_be_left = left; may_be_none = true })
    said_of None is some = absurd (false≢true some)
    said_of (Some n) is some = (refl, refl, λ a stands. leads_said a stands n h left is parts.1 has_got counts)

    pub gets_anew_to : DoesAs old (Plain (plain.Get m d s)) (Ok (value_reply value))
        (record old { ground = h; grey = grey; may_be_left = left; may_be_none = true })
    gets_anew_to =
        subst (λ (l : Worklist).
        DoesAs old (Plain (plain.Get m d s)) (Ok (value_reply value))
        (record old { ground = h; grey = l; may_be_left = left; may_be_none = true }))
        (sym (worklist_same old.grey grey settled.none_grey none_grey room)) (said_of value refl parts.0)

    pub got_sound : IsOfSomeState old
        → IsOfSomeState (record old { ground = h; grey = grey; may_be_left = left; may_be_none = true })
    got_sound sound =
        let new : Judged = record old { ground = h; grey = grey; may_be_left = left; may_be_none = true } in
        sound_after old new (Plain (plain.Get m d s)) (Ok (value_reply value)) refl sound gets_anew_to
        (settled_got h grey left true none_grey room has_got.same (λ marks. either_true left))

  pub plainly_sound : (is_some value && is_in old.phase Marking) ≡ false → IsOfSomeState old
      → IsOfSomeState (record old { ground = start })
  plainly_sound plainly sound =
      sound_after old (record old { ground = start }) (Plain (plain.Get m d s)) (Ok (value_reply value)) refl sound
      (gets_to plainly)
      (settled_got start old.grey old.may_be_left old.may_be_none settled.none_grey refl refl settled.may)
