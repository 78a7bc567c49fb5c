-- A judge at a begin: just what may be kept is marked, and it stands for the state of the mark that begins.
use Rattle.ref_base.proofs.Common.{arith, ◌≡◌, ℕ, ◌+◌, ◌==◌, Bool, true, false, nat_lt, List, [], ◌∷◌, ◌++◌, map}
use Rattle.ref_base.proofs.Common.{length, refl, sym, ap, ◌∙◌, subst, inl, inr, ◌⊎◌, Option, Some, None}
use Rattle.ref_base.proofs.Common.{false≢true, true≢false, has, State, Heap, Object, Allowed, EndsPath}
use Rattle.ref_base.proofs.Common.{is_there, is_in, is_kept, targets_at, any_referent, present, graph_of}
use Rattle.ref_base.proofs.Common.{Pending, pending_of, pending_numbers, joined, emptied, slice_index_or, ticked}
use Rattle.ref_base.proofs.Common.{object_at}
use Rattle.ref_base.proofs.Common.{IsPath, zero, suc}
use Rattle.std.specs.Prelude.{◌≤◌, Ok, Err}
use Rattle.ref_base.specs.CollectorRows.{free_cells, list_at, IsBut, references_among}
use Rattle.ref_base.specs.Forgetting.{heap_but}
use Rattle.ref_base.specs.Heaps.{with_clock}
use Rattle.ref_base.specs.KeptPaths.{policy_from}
use Rattle.ref_base.specs.Refusals.{plain_refusal, begin_refusal}
use Rattle.ref_base.specs.declared.fault.Fault.{Fault}
use Rattle.ref_base.specs.declared.phase.Phase.{Phase}
use Rattle.ref_base.specs.declared.phase.Phase.TheVariants.{Idle, Marking}
use Rattle.ref_base.specs.declared.policy.Policy.{Policy}
use Rattle.ref_base.specs.declared.urgency.Urgency.{Urgency}
use Rattle.ref_base.specs.declared.plain_step.PlainStep.TheVariants as plain
use Rattle.ref_base.specs.declared.reply.Reply.{Reply}
use Rattle.ref_base.specs.declared.reply.Reply.TheVariants as replies
use Rattle.ref_base.specs.declared.step.Step.TheVariants.{Plain}
use Rattle.ref_base.proofs.ApartWorlds.{IsClosed, OfValue}
use Rattle.ref_base.proofs.CarryRows.{all_more}
use Rattle.ref_base.proofs.EverWorlds.{Knows}
use Rattle.ref_base.proofs.Fitting.{saying, begun_to}
use Rattle.ref_base.proofs.FoundLists.{joined-emptied}
use Rattle.ref_base.proofs.Forgetting.{heap_but-none}
use Rattle.ref_base.proofs.HasLaws.{has-append}
use Rattle.ref_base.proofs.Lookups.{has-present_at}
use Rattle.ref_base.proofs.OffSets.{pending_roots}
use Rattle.ref_base.proofs.PathLaws.{ends-wider, targets_of-wider}
use Rattle.ref_base.proofs.PlainRows.{plain_row}
use Rattle.ref_base.proofs.RowForms.{unless_passes}
use Rattle.ref_objects.specs.Grounds.{Ground, marks_begun, ground_with_heap, cleared_in_at}
use Rattle.ref_space.specs.Tables.{Tag}
use Rattle.ref_space.specs.Worklists.{Worklist}
use Rattle.ref_space.specs.declared.colour.Colour.TheVariants.{A}
use Rattle.ref_judge.specs.Judged.{Judged, Finder, unheld, is_behind_mark, is_put, no_finder}
use Rattle.ref_judge.specs.KeptBounds.{may_keep}
use Rattle.ref_judge.specs.LeftCounts.{unmarked_if}
use Rattle.ref_judge.specs.declared.worker.Found.{Found}
use Rattle.ref_judge.specs.Policies.{profiled, policy_as}
use Rattle.ref_judge.specs.ProfiledRows.{IsRowAs}
use Rattle.ref_judge.specs.Spreading.{IsButMarks, Spread, judged_roots, without_found, reported_by, reported_in}
use Rattle.ref_judge.specs.Standing.{StandsFor, TagsTell, FindersTell, DoesAs, LeadsOne, DecidesAs, IsSettled}
use Rattle.ref_judge.specs.Standing.{IsOfSomeState}
use Rattle.ref_judge.proofs.KnownGains.{known_begun_as}
use Rattle.ref_judge.proofs.LeftJudged.{left_decides}
use Rattle.ref_judge.proofs.SoundJudges.{refused_does, sound_after}
use Rattle.ref_judge.proofs.LegalFacts.{Facts, legal_facts, lawful_row}
use Rattle.ref_judge.proofs.OtherPolicies.{kept_under}
use Rattle.ref_judge.proofs.RootsJudged.{root_judged, judged_root, pending_kept}
use Rattle.ref_judge.proofs.SomeFits.{either_true}
use Rattle.ref_judge.proofs.SpreadLemmas.{ends_more}
use Rattle.ref_judge.proofs.UnchangedRows.{accepted_plain_as}

-- the objects as a mark begins, before any is marked
abbrev pub begun_ground : Ground → ℕ → Ground
begun_ground g now = marks_begun (ground_with_heap g (with_clock g.heap now)) A

abbrev pub begun_policy : Judged → ℕ → Urgency → Policy
begun_policy j now how = policy_from j.ground.heap.config (free_cells j.ground.heap) now how

-- just what may be kept is marked
pub record IsBegun (j : Judged) (now : ℕ) (how : Urgency) (h : Ground) : Type 0 where
  pub same : IsButMarks (begun_ground j.ground now) h
  pub kept :
      j.profile.keeps_more ≡ false
      → Spread (is_kept (policy_as j.profile (begun_policy j now how))) (begun_ground j.ground now)
      (judged_roots (begun_ground j.ground now).heap j.hands j.lines (map without_found j.workers)) h []

-- the judge in the mark
abbrev pub judge_begun : Judged → ℕ → Urgency → Ground → Bool → Judged
judge_begun j now how h left = record j {
  ground = h;
  workers = map without_found j.workers;
  phase = Marking;
  cycle = j.cycle + 1;
  policy = begun_policy j now how;
  born = j.ground.next;
  scanned = 0;
  may_be_left = left;
  may_be_none = true;
}

-- and the state, which says that none is left
abbrev pub state_begun : State → ℕ → Urgency → State
state_begun a now how = saying (ticked (begun_to a now how)) false

module _ (j : Judged) (a : State) (stands : StandsFor j a) (now : ℕ) (how : Urgency) (h : Ground)
    (begun : IsBegun j now how h) (idle : is_in j.phase Idle ≡ true) where
  facts : Facts j.config a
  facts = legal_facts j.profile j.config a stands.lawful

  none_doomed : a.doomed ≡ []
  none_doomed =
      facts.names.none_doomed (not_past a.world.phase (subst (λ (p : Phase). is_in p Idle ≡ true) stands.phase idle))
    where
      not_past : (p : Phase) → is_in p Idle ≡ true → is_behind_mark p ≡ false
      not_past Idle is = refl
      not_past p is = absurd (false≢true is)

  -- nothing is doomed: the judge has the heap of the state, but for the holds
  same_heap : j.ground.heap ≡ unheld a.world.heap
  same_heap =
      stands.heap ∙ ap (λ (d : List ℕ). heap_but d (unheld a.world.heap)) none_doomed ∙ heap_but-none
      (unheld a.world.heap)

  same_objects : j.ground.heap.objects ≡ a.world.heap.objects
  same_objects = ap (λ (x : Heap). x.objects) same_heap

  policy_same : begun_policy j now how ≡ (state_begun a now how).world.policy
  policy_same = ap (λ (x : Heap). policy_from x.config (free_cells x) now how) same_heap

  there_same : (n : ℕ) → is_there a.world.heap.objects n ≡ is_there j.ground.heap.objects n
  there_same n = ap (λ (os : List Object). is_there os n) (sym same_objects)

  -- ---- what is kept

  abbrev pol : Policy
  pol = (state_begun a now how).world.policy

  abbrev may : Allowed
  may = may_keep j.profile pol

  abbrev keeps : Allowed
  keeps = is_kept (policy_as j.profile pol)

  abbrev counted : List ℕ
  counted = judged_roots (begun_ground j.ground now).heap j.hands j.lines (map without_found j.workers)

  counted_are : counted ≡ judged_roots j.ground.heap j.hands j.lines j.workers
  counted_are =
      ap (λ (ns : List ℕ).
      present j.ground.heap.slots ++ reported_by j.hands.mutators ++ reported_by j.hands.workers
      ++ reported_in j.lines ++ ns) (pending_kept j.workers)

  module _ (less : j.profile.keeps_more ≡ false) where
    spread : Spread keeps (begun_ground j.ground now) counted h []
    spread =
        subst (λ (q : Policy).
        Spread (is_kept (policy_as j.profile q)) (begun_ground j.ground now) counted h []) policy_same (begun.kept less)

    ends : (n : ℕ) → has h.marked n ≡ true
        → EndsPath keeps (record { objects = j.ground.heap.objects; roots = counted }) n
    ends n marked = elim (spread.reached n marked) [ inl was ↦ absurd (false≢true was) | inr path ↦ path ]

    graph_ends : (n : ℕ) → has h.marked n ≡ true → EndsPath may (graph_of (state_begun a now how).world) n
    graph_ends n marked =
        let roots : List ℕ = (graph_of a.world).roots in
        let more : EndsPath keeps (record { objects = j.ground.heap.objects; roots = roots }) n =
        ends_more keeps j.ground.heap.objects counted roots
        (λ m root. judged_root j a stands m (ap (λ ns. has ns m) (sym counted_are) ∙ root)) n (ends n marked) in
        let own : EndsPath keeps (graph_of (state_begun a now how).world) n =
        subst (λ (os : List Object). EndsPath keeps (record { objects = os; roots = roots }) n) same_objects more in
        ends-wider keeps may (λ r is. sym (kept_under j.profile pol r) ∙ is)
        (graph_of (state_begun a now how).world) n own

    rooted : (n : ℕ) → has (graph_of a.world).roots n ≡ true → has h.marked n ≡ true
    rooted n root =
        spread.rooted n (ap (λ ns. has ns n) counted_are ∙ root_judged j a stands n root)
        (sym (there_same n) ∙ (facts.names.roots n root).0)

    there_marked : (m : ℕ) → has h.marked m ≡ true → is_there a.world.heap.objects m ≡ true
    there_marked m marked = there_same m ∙ of_path (ends m marked).0 (ends m marked).1
      where
        of_path : (before : List ℕ)
            → IsPath keeps (record { objects = j.ground.heap.objects; roots = counted }) m before
            → is_there j.ground.heap.objects m ≡ true
        of_path [] path = path.0
        of_path (k ∷ before) path = path.0

    led : (m n : ℕ) → has h.marked m ≡ true → has (targets_at may a.world.heap.objects m) n ≡ true
        → has h.marked n ≡ true
    led m n marked target =
        let os : List Object = a.world.heap.objects in
        let any : has (targets_at any_referent os m) n ≡ true =
        targets_of-wider may any_referent (λ r is. refl) (object_at os m) n target in
        let there : is_there os n ≡ true =
        (facts.names.targets m n (there_marked m marked) (ap (λ (d : List ℕ). has d m) none_doomed) any).0 in
        let kept : has (targets_at keeps os m) n ≡ true =
        targets_of-wider may keeps (λ r is. kept_under j.profile pol r ∙ is) (object_at os m) n target in
        spread.closed m n marked refl refl
        (subst (λ (xs : List Object). has (targets_at keeps xs m) n ≡ true) (sym same_objects) kept)
        (sym (there_same n) ∙ there)

    closed : IsClosed may (λ n. has h.marked n ≡ true) (state_begun a now how).world
    closed = record {
      slots = λ i. in_slot i (slice_index_or a.world.heap.slots i None) refl;
      holds = λ n held. rooted n (is_root n (inr (inl held)));
      pendings = λ k.
          all_more (λ (p : Pending). has (pending_numbers a.world.pending) p.object ≡ true)
          (λ (p : Pending). has h.marked p.object ≡ true) (pending_of a.world k)
          (λ p waits. rooted p.object (is_root p.object (inr (inr waits)))) (pending_roots a.world.pending k);
      targets = led;
    }
      where
        is_root : (n : ℕ)
            → (has (present a.world.heap.slots) n ≡ true)
            ⊎ ((has a.world.heap.holds n ≡ true) ⊎ (has (pending_numbers a.world.pending) n ≡ true))
            → has (graph_of a.world).roots n ≡ true
        is_root n either = grind (arith, has-append)

        in_slot : (i : ℕ) (value : Option ℕ) → slice_index_or a.world.heap.slots i None ≡ value
            → OfValue (λ n. has h.marked n ≡ true) value
        in_slot i None is = tt
        in_slot i (Some n) is = rooted n (is_root n (inl (has-present_at a.world.heap.slots i n is)))

    knows : (reply : Reply) → plain_refusal a (plain.Begin now how) ≡ None
        → IsRowAs j.profile a (plain_row (plain.Begin now how) reply) (state_begun a now how)
        → Knows (λ n. has h.marked n ≡ true) (profiled j.profile (state_begun a now how))
    knows reply none row =
        known_begun_as j.profile (λ n. has h.marked n ≡ true) a (state_begun a now how) now how reply
        facts.numbers.below graph_ends closed none row

  -- ---- the row

  row_begun : plain_refusal a (plain.Begin now how) ≡ None
      → IsRowAs j.profile a (plain_row (plain.Begin now how) (replies.Cycle (a.world.cycle + 1)))
      (state_begun a now how)
  row_begun none =
      let but : IsBut (ticked (begun_to a now how)) (state_begun a now how) =
      (false, refl, λ said. absurd (false≢true said)) in
      accepted_plain_as j.profile a (state_begun a now how) (plain.Begin now how) (replies.Cycle (a.world.cycle + 1))
      none (state_begun a now how, (refl, but), (false, refl, λ said. absurd (false≢true said)))

  -- ---- the state

  tags_are : h.tags ≡ j.ground.tags
  tags_are = ap (λ (x : Ground). x.tags) begun.same

  list_emptied : (lists : List (List ℕ)) (k : ℕ) → list_at (emptied lists) k ≡ []
  list_emptied [] k = refl
  list_emptied (ns ∷ lists) zero = refl
  list_emptied (ns ∷ lists) (suc k) = list_emptied lists k

  finder_emptied : (ws : List Finder) (k : ℕ)
      → (slice_index_or (map without_found ws) k no_finder).found ≡ []
  finder_emptied [] k = refl
  finder_emptied (w ∷ ws) zero = refl
  finder_emptied (w ∷ ws) (suc k) = finder_emptied ws k

  finder_at_first : (ws : List Finder) (k : ℕ) → (slice_index_or (map without_found ws) k no_finder).at ≡ 0
  finder_at_first [] k = refl
  finder_at_first (w ∷ ws) zero = refl
  finder_at_first (w ∷ ws) (suc k) = finder_at_first ws k

  waiting_kept : (ws : List Finder)
      → map (λ (w : Finder). w.pending) (map without_found ws) ≡ map (λ (w : Finder). w.pending) ws
  waiting_kept [] = refl
  waiting_kept (w ∷ ws) = ap (λ ps. w.pending ∷ ps) (waiting_kept ws)

  tags_tell : (left : Bool) → TagsTell (judge_begun j now how h left) (state_begun a now how)
  tags_tell left = record {
    old = λ n. subst (λ (ts : List Tag). cleared_in_at ts n ≤ j.cycle + 1) (sym tags_are)
        (let less = stands.tags.old n in omega (arith, less));
    scanned = λ judging n there.
        subst (λ (ts : List Tag). (cleared_in_at ts n == j.cycle + 1) ≡ has (joined (emptied a.scanned)) n)
        (sym tags_are)
        (past n (stands.tags.old n) ∙ sym (ap (λ (ns : List ℕ). has ns n) (joined-emptied a.scanned)));
    put = λ n q is.
        ap (λ (ts : List Tag). is_put ts n) tags_are ∙ stands.tags.put n q is;
  }
    where
      past : (n : ℕ) → cleared_in_at j.ground.tags n ≤ j.cycle → (cleared_in_at j.ground.tags n == j.cycle + 1) ≡ false
      past n less = grind (arith, less)

  finders_tell : (left : Bool) → FindersTell (judge_begun j now how h left) (state_begun a now how)
  finders_tell left = record {
    pending = waiting_kept j.workers ∙ stands.finders.pending;
    within = λ k. subst (λ (at : ℕ). at ≤ length (slice_index_or (map without_found j.workers) k no_finder).found)
        (sym (finder_at_first j.workers k)) (omega arith);
    found = λ judging k.
        ap (λ (fs : List Found). map (λ (f : Found). f.object) fs) (finder_emptied j.workers k)
        ∙ sym (ap (λ (ns : List ℕ). references_among a.world.heap.objects ns) (list_emptied a.scanned k));
    cleared = λ clearing k. absurd (false≢true clearing);
  }

  pub stands_begun : (left : Bool) → plain_refusal a (plain.Begin now how) ≡ None
      → StandsFor (judge_begun j now how h left) (state_begun a now how)
  stands_begun left none = record {
    lawful = lawful_row j.profile j.config a (state_begun a now how)
        (plain_row (plain.Begin now how) (replies.Cycle (a.world.cycle + 1))) stands.lawful (row_begun none);
    heap = ap (λ (x : Ground). x.heap) begun.same ∙ ap (λ (x : Heap). with_clock x now) same_heap
        ∙ sym (heap_but-none (unheld (with_clock a.world.heap now)));
    next = ap (λ (x : Ground). x.next) begun.same ∙ stands.next;
    holds = stands.holds;
    mutator_hands = stands.mutator_hands;
    worker_hands = stands.worker_hands;
    lines = stands.lines;
    phase = refl;
    cycle = ap (λ (n : ℕ). n + 1) stands.cycle;
    policy = policy_same;
    born = stands.next;
    count = λ marks. sym (ap length (joined-emptied a.scanned));
    chosen = stands.chosen;
    doomed = stands.doomed ∙ none_doomed;
    kept = λ marks less. knows less (replies.Cycle (a.world.cycle + 1)) none (row_begun none);
    live = λ past n there. absurd (false≢true past);
    tags = tags_tell left;
    finders = finders_tell left;
  }

  -- ---- what it does

  pub leads_begun : (left : Bool) → plain_refusal a (plain.Begin now how) ≡ None
      → left ≡ nat_lt (h.next + 0 + unmarked_if j.profile.keeps_more h) (length h.heap.objects + j.ground.next)
      → LeadsOne j (Plain (plain.Begin now how)) (Ok (replies.Cycle (j.cycle + 1))) (judge_begun j now how h left) a
  leads_begun left none counts =
      let stands_now = stands_begun left none in
      record {
        state = state_begun a now how;
        row = subst (λ (n : ℕ).
            IsRowAs j.profile a (plain_row (plain.Begin now how) (replies.Cycle (n + 1))) (state_begun a now how))
            (sym stands.cycle) (row_begun none);
        stands = stands_now;
        says = (
          refl,
          subst (λ (bit : Bool). DecidesAs j.profile bit (state_begun a now how)) (sym counts)
              (left_decides (judge_begun j now how h left) (state_begun a now how) stands_now refl),
        );
      }

-- the judge's objects refuse a begin as each state does
begin_passes : (j : Judged) (a : State) → StandsFor j a → (now : ℕ) (how : Urgency)
    → begin_refusal j.phase j.ground.heap.clock j.cycle now ≡ plain_refusal a (plain.Begin now how)
begin_passes j a stands now how = rw (stands.phase, ap (λ (x : Heap). x.clock) stands.heap, stands.cycle) refl

pub begins : (j : Judged) (now : ℕ) (how : Urgency) (h : Ground) (left : Bool) → IsBegun j now how h
    → begin_refusal j.phase j.ground.heap.clock j.cycle now ≡ None
    → left ≡ nat_lt (h.next + 0 + unmarked_if j.profile.keeps_more h) (length h.heap.objects + j.ground.next)
    → DoesAs j (Plain (plain.Begin now how)) (Ok (replies.Cycle (j.cycle + 1))) (judge_begun j now how h left)
begins j now how h left begun none counts = (
  refl,
  refl,
  λ a stands.
      leads_begun j a stands now how h begun (unless_passes (is_in j.phase Idle) _ _ none).0 left
      (sym (begin_passes j a stands now how) ∙ none) counts,
)

pub begin_refused : (j : Judged) (now : ℕ) (how : Urgency) (fault : Fault)
    → begin_refusal j.phase j.ground.heap.clock j.cycle now ≡ Some fault
    → DoesAs j (Plain (plain.Begin now how)) (Err fault) j
begin_refused j now how fault refused =
    refused_does j (Plain (plain.Begin now how)) fault
    (λ a stands. sym (begin_passes j a stands now how) ∙ refused)

-- ---- as the code does it

pub worklist_same : (l m : Worklist) → l.stands ≡ [] → m.stands ≡ [] → m.room ≡ l.room → m ≡ l
worklist_same l m old new room =
    ap (λ (ns : List ℕ). record { stands = ns; room = m.room }) (new ∙ sym old)
    ∙ ap (λ (k : ℕ). record { stands = l.stands; room = k }) room

settled_begun : (j : Judged) (now : ℕ) (how : Urgency) (h : Ground) (left : Bool) → IsSettled j
    → IsBegun j now how h → IsSettled (judge_begun j now how h left)
settled_begun j now how h left settled begun = record {
  none_grey = settled.none_grey;
  grey_room = settled.grey_room;
  doomed_room = settled.doomed_room;
  config = ap (λ (x : Ground). x.heap.config) begun.same ∙ settled.config;
  none_to_move = ap (λ (x : Ground). x.space.still_to_move) begun.same ∙ settled.none_to_move;
  none_chosen = ap (λ (x : Ground). x.space.has_choice) begun.same ∙ settled.none_chosen;
  tuned = λ going. ap (λ (x : Ground). x.space.stage) begun.same;
  colour = ap (λ (x : Ground). x.space.last) begun.same;
  condemning = ap (λ (x : Ground). x.condemning) begun.same;
  may = λ marks. either_true left;
  waits = λ clearing. absurd (false≢true clearing);
}

pub begun_kept : (j : Judged) (now : ℕ) (how : Urgency) (g h : Ground) (ws : List Finder) (policy by : Policy)
    → g ≡ begun_ground j.ground now → ws ≡ map without_found j.workers → policy ≡ begun_policy j now how
    → by ≡ policy_as j.profile policy → Spread (is_kept by) g (judged_roots g.heap j.hands j.lines ws) h []
    → IsBegun j now how h
begun_kept j now how g h ws policy by is workers same goes marks = record {
  same = subst (λ (x : Ground). IsButMarks x h) is marks.same;
  kept = λ less.
      subst (λ (x : Ground).
      Spread (is_kept (policy_as j.profile (begun_policy j now how))) x
      (judged_roots x.heap j.hands j.lines (map without_found j.workers)) h []) is
      (subst (λ (q : Policy).
      Spread (is_kept (policy_as j.profile q)) g (judged_roots g.heap j.hands j.lines (map without_found j.workers)) h
      [])
      same
      (subst (λ (q : Policy).
      Spread (is_kept q) g (judged_roots g.heap j.hands j.lines (map without_found j.workers)) h [])
      goes
      (subst (λ (fs : List Finder). Spread (is_kept by) g (judged_roots g.heap j.hands j.lines fs) h []) workers
      marks)));
}

pub begun_more : (j : Judged) (now : ℕ) (how : Urgency) (g : Ground) → g ≡ begun_ground j.ground now
    → j.profile.keeps_more ≡ true → IsBegun j now how g
begun_more j now how g is more = record {
  same = subst (IsButMarks (begun_ground j.ground now)) (sym is) refl;
  kept = λ less. absurd (true≢false (sym more ∙ less));
}

-- the judge that the code makes
abbrev pub judge_made : Judged → Ground → List Finder → Policy → ℕ → Worklist → Bool → Judged
judge_made j h ws pol born grey left = record j {
  ground = h;
  workers = ws;
  phase = Marking;
  cycle = j.cycle + 1;
  policy = pol;
  born = born;
  scanned = 0;
  may_be_left = left;
  may_be_none = true;
  grey = grey;
}

module _ (j : Judged) (sound : IsOfSomeState j) (now : ℕ) (how : Urgency) (h : Ground) (ws : List Finder) (pol : Policy)
    (born : ℕ) (grey : Worklist) (left : Bool) (begun : IsBegun j now how h)
    (workers : ws ≡ map without_found j.workers) (policy : pol ≡ begun_policy j now how) (next : born ≡ j.ground.next)
    (none_grey : grey.stands ≡ []) (room : grey.room ≡ j.grey.room)
    (none : begin_refusal j.phase j.ground.heap.clock j.cycle now ≡ None)
    (counts : left ≡ nat_lt (h.next + 0 + unmarked_if j.profile.keeps_more h) (length h.heap.objects + born)) where
  made_is : judge_made j h ws pol born grey left ≡ judge_begun j now how h left
  made_is = rw (workers, policy, next, worklist_same j.grey grey sound.settled.none_grey none_grey room) refl

  pub made_does : DoesAs j (Plain (plain.Begin now how)) (Ok (replies.Cycle (j.cycle + 1)))
      (judge_made j h ws pol born grey left)
  made_does =
      rw made_is
      (begins j now how h left begun none
      (counts ∙ ap (λ (k : ℕ). nat_lt (h.next + 0 + unmarked_if j.profile.keeps_more h) (length h.heap.objects + k))
      next))

  pub made_sound : IsOfSomeState (judge_made j h ws pol born grey left)
  made_sound =
      sound_after j (judge_made j h ws pol born grey left) (Plain (plain.Begin now how))
      (Ok (replies.Cycle (j.cycle + 1))) refl sound made_does
      (rw made_is (settled_begun j now how h left sound.settled begun))
