-- A judge's value after a mark's end: it is of the states to which the row leads, just what is spared is marked, and
-- each reference that a worker scanned says whether it was cleared.
use Rattle.ref_base.proofs.Common.{arith, ◌≡◌, ℕ, ◌≤◌, ◌==◌, ◌||◌, ◌&&◌, Bool, true, false, not, nat_lt, List, []}
use Rattle.ref_base.proofs.Common.{◌∷◌, ◌++◌, map, length, Option, Some, None, refl, sym, ap, ◌∙◌, subst, inl, inr}
use Rattle.ref_base.proofs.Common.{cases_Bool, and_parts, false≢true, has, joined, list_at, Object}
use Rattle.ref_base.proofs.Common.{Reference}
use Rattle.ref_base.proofs.Common.{Heap, is_there, numbers, object_at, reference_at, reference_in, State}
use Rattle.ref_base.proofs.Common.{graph_of}
use Rattle.ref_base.proofs.Common.{is_in, doomed_at, new_clears, refers_into, present, mark_ended, shown, cleared}
use Rattle.ref_base.proofs.Common.{is_some}
use Rattle.ref_base.proofs.Common.{with_reference, references_among, IsRising}
use Rattle.std.proofs.Math.ListN.{get_or-map}
use Rattle.std.proofs.lemmas.List.{length-map}
use Rattle.ref_base.specs.DoomedSets.{unscanned}
use Rattle.ref_base.specs.Forgetting.{heap_but}
use Rattle.ref_base.specs.Heaps.{registered_in}
use Rattle.ref_base.specs.declared.phase.Phase.TheVariants.{Marking, Clearing}
use Rattle.ref_base.specs.declared.plain_step.PlainStep.TheVariants as plain
use Rattle.ref_base.specs.declared.reply.Reply.TheVariants as replies
use Rattle.ref_base.specs.declared.step.Step.TheVariants.{Plain}
use Rattle.ref_base.proofs.Fitting.{Fits, saying}
use Rattle.ref_base.proofs.Forgetting.{heap_but-none}
use Rattle.ref_base.proofs.FoundFits.{MayFind}
use Rattle.ref_base.proofs.FoundRows.{FitsFound}
use Rattle.ref_base.proofs.MarkEndRows.{refs_of, AllScanned, ended_to}
use Rattle.ref_base.proofs.Reshaping.{at-reshaped, is_there-reshaped}
use Rattle.ref_base.proofs.ShownObjects.{shown-shape}
use Rattle.ref_base.proofs.Subsequences.{sub_all}
use Rattle.ref_space.specs.Worklists.{with_more, emptied_list}
use Rattle.ref_space.specs.declared.colour.Colour.TheVariants.{B}
use Rattle.ref_objects.specs.Grounds.{Ground, marks_begun, with_condemned, unmarked, IsClosed, named_in}
use Rattle.ref_space.specs.Worklists.{Worklist}
use Rattle.ref_judge.specs.Judged.{Judged, Finder, finder_at, no_finder, found_by, still_left, unheld, AreToldCleared}
use Rattle.ref_judge.specs.KeptBounds.{MayDoomAs}
use Rattle.ref_judge.specs.MarkEnding.{spares, dooms, mark_end, may_end, ended, told_found, told_each, EndsAll}
use Rattle.ref_judge.specs.ProfiledRows.{IsRowAs}
use Rattle.ref_judge.specs.Standing.{StandsFor, AreLawful, IsSettled, HasNone, LeadsOn, TellsOf, FitsIt, FitsIn}
use Rattle.ref_judge.specs.Standing.{TagsTell, FindersTell, Lawful}
use Rattle.ref_judge.specs.declared.worker.Found.{Found}
use Rattle.ref_judge.proofs.EndChecks.{ends_so, so_ends, doomed_is, objects_same, spared, refers_same, rising, judging}
use Rattle.ref_judge.proofs.EndChecks.{in_mark}
use Rattle.ref_judge.proofs.EndChecks.{not_past, has-unscanned, spared_out}
use Rattle.ref_judge.proofs.EndingRows.{IsOff, doom_parts_as, end_row, end_fits_as, fits_end_as}
use Rattle.ref_judge.proofs.KeptFacts.{ends_where_as, ends_where_more}
use Rattle.ref_judge.proofs.KnownRows.{known_kept_set}
use Rattle.ref_judge.proofs.LegalFacts.{Facts, legal_facts, lawful_row}
use Rattle.ref_judge.proofs.ObjectWalks.{map-same, object_first, object_later}
use Rattle.ref_base.proofs.RisingLists.{rising-tail}
use Rattle.ref_base.proofs.HasLaws.{has-left, has-right, has-cases}
use Rattle.ref_base.proofs.Common.{or_cases, eqb-true, any_is, referent_of, changed_reference, targets_at}
use Rattle.ref_base.proofs.Common.{pending_numbers}
use Rattle.ref_base.proofs.Common.{Allowed}
use Rattle.ref_base.specs.Paths.{any_referent, allowed_referent, if_any, targets_of}
use Rattle.ref_judge.specs.KeptBounds.{must_keep}
use Rattle.ref_judge.proofs.EndChecks.{target_there}
use Rattle.ref_base.proofs.Common.{zero, suc}
use Rattle.ref_base.proofs.NewClears.{has-new_clears}
use Rattle.ref_base.proofs.FoundLists.{references_among-has}
use Rattle.std.specs.Prelude.{if◌then◌else◌, drop, Ok}
use Rattle.ref_objects.specs.Grounds.{cleared_in_at}
use Rattle.ref_judge.specs.Judged.{is_put}
use Rattle.ref_base.specs.DoomedSets.{is_new_clear}

-- where no root is doomed, and nothing that must be kept leads to what is, the mark may doom that
pub may_doom_as : (j : Judged) (a : State) → StandsFor j a → is_in j.phase Marking ≡ true
    → IsOff j.profile a (doomed_at a) → MayDoomAs j.profile a (doomed_at a)
may_doom_as j a stands marks off =
    elim (cases_Bool j.profile.keeps_more) [
      | inl more ↦ ends_where_more j.profile a more off
      | inr less ↦
          let knows = stands.kept marks less in
          ends_where_as j.profile (λ n. has j.ground.marked n ≡ true) a
          ((known_kept_set j.profile (λ n. has j.ground.marked n ≡ true) a less knows).sound)
          (record { scanned = knows.1.scanned; young = knows.1.young }) off
    ]

-- what isn't marked is what is doomed
unmarked_is : (os : List Object) (f : Object → Object) (marked scanned : List ℕ) (born : ℕ) → IsRising (numbers os)
    → ((o : Object) → (f o).no ≡ o.no)
    → ((o : Object) → object_at os o.no ≡ Some o
    → has marked o.no ≡ not (nat_lt o.no born && not (has scanned o.no)))
    → unmarked (map f os) marked ≡ unscanned os born scanned
unmarked_is [] f marked scanned born rising number same = refl
unmarked_is (o ∷ os) f marked scanned born rising number same =
    let own = same o (object_first o os) in
    let rest =
    unmarked_is os f marked scanned born (rising-tail o.no (numbers os) rising) number
    (λ p at. same p (object_later o os rising p at)) in
    let is = ap (λ n. has marked n) (number o) ∙ own in
    elim (cases_Bool (nat_lt o.no born && not (has scanned o.no))) [
      | inl left ↦
          let un : has marked (f o).no ≡ false = is ∙ ap not left in
          simp (left, un) (ap (λ n. n ∷ unmarked (map f os) marked) (number o) ∙ ap (λ ns. o.no ∷ ns) rest)
      | inr other ↦
          let so : has marked (f o).no ≡ true = is ∙ ap not other in
          simp (other, so) rest
    ]

-- the value that the mark's end leaves
abbrev pub ended_judge : Judged → Ground → Judged
ended_judge j g = record j {
  ground = with_condemned g;
  workers = map (λ (w : Finder). told_each (mark_end j) j.ground w) j.workers;
  phase = Clearing;
  some_left = false;
  doomed = with_more (emptied_list j.doomed) (unmarked g.heap.objects g.marked);
}

module _ (j : Judged) (g : Ground) (a : State) (stands : StandsFor j a) (fits : AreLawful j a)
    (marks : is_in j.phase Marking ≡ true) (none : j.may_be_none ≡ true) (count : ℕ) (may : may_end j count ≡ true)
    (ends : EndsAll (mark_end j) (marks_begun j.ground B) g) where
  abbrev doomed : List ℕ
  doomed = doomed_at a

  abbrev objects : List Object
  objects = a.world.heap.objects

  abbrev all_found : List (List ℕ)
  all_found = map (λ ns. references_among objects ns) a.scanned

  -- the state in which workers found all that they scanned
  abbrev after : State
  after = mark_ended (saying a false) doomed all_found

  checks : (count ≡ length doomed) × IsOff j.profile a doomed × AllScanned a
  checks = ends_so j a stands marks count may

  facts : Facts j.config a
  facts = legal_facts j.profile j.config a stands.lawful

  marking : is_in a.world.phase Marking ≡ true
  marking = in_mark j a stands marks

  -- ---- the row

  fits_after : FitsFound (ended_to a) (refs_of a) false after
  fits_after = (
    all_found,
    refl,
    length-map a.scanned (λ ns. references_among objects ns),
    record {
      each = λ k.
          subst (MayFind (refs_of a k) (ended_to a).cleared)
          (sym (get_or-map (λ ns. references_among objects ns) a.scanned k []))
          (sub_all (refs_of a k), λ m h clear. h);
      left = λ said. absurd (false≢true said);
    },
  )

  from_before : (t : State) → FitsFound (ended_to a) (refs_of a) false t
      → (s : State) × Fits a j.may_be_left j.may_be_none s × IsRowAs j.profile s (end_row a) t
  from_before t after =
      fits_end_as j.profile a t j.may_be_left j.may_be_none marking none
      (may_doom_as j a stands marks checks.1) checks.2 after

  fits_before : (s : State) → Fits a j.may_be_left j.may_be_none s → FitsIt j a s
  fits_before s fits = subst (λ m. FitsIn m (is_in j.phase Clearing) j a s) (sym marks) fits

  lawful : Lawful j.profile j.config after
  lawful =
      let from = from_before after fits_after in
      lawful_row j.profile j.config from.0 after (end_row a) (fits from.0 (fits_before from.0 from.1)) from.2

  -- ---- the heap

  not_not : (b : Bool) → not (not b) ≡ b
  not_not true = refl
  not_not false = refl

  spares_so : (n : ℕ) → is_there objects n ≡ true → not (has doomed n) ≡ spared j a stands marks n
  spares_so n there = ap not (doomed_is j a stands marks n there) ∙ not_not (spared j a stands marks n)

  shown_one : (o : Object) → object_at objects o.no ≡ Some o
      → ended (mark_end j) j.ground.tags o ≡ shown doomed o
  shown_one o at =
      let there : is_there objects o.no ≡ true = ap is_some at in
      let refers = refers_same j a stands marks o.no there in
      let read : reference_at a.world.heap o.no ≡ o.reference = ap (λ x. reference_in x) at in
      let same : refers_into (has doomed) o.reference ≡ refers_into (dooms (mark_end j) j.ground.tags) o.reference =
      subst (λ (r : Option Reference). refers_into (has doomed) r ≡ refers_into (dooms (mark_end j) j.ground.tags) r)
      read refers in
      ap (λ b. if b then with_reference cleared o else o)
      (ap (λ b. b && refers_into (dooms (mark_end j) j.ground.tags) o.reference) (sym (spares_so o.no there))
      ∙ ap (λ b. not (has doomed o.no) && b) (sym same))

  shown_same : map (λ o. ended (mark_end j) j.ground.tags o) j.ground.heap.objects ≡ map (λ o. shown doomed o) objects
  shown_same =
      ap (λ ps. map (λ o. ended (mark_end j) j.ground.tags o) ps) (objects_same j a stands marks)
      ∙ map-same (λ o. ended (mark_end j) j.ground.tags o) (λ o. shown doomed o) objects (rising j a stands marks)
      shown_one

  -- just what isn't doomed is marked
  marked_so : (n : ℕ) → is_there objects n ≡ true → has g.marked n ≡ not (has doomed n)
  marked_so n there =
      let now : is_there j.ground.heap.objects n ≡ true =
      ap (λ ps. is_there ps n) (objects_same j a stands marks) ∙ there in
      ends.marked n ∙ simp now (sym (spares_so n there))

  unmarked_same : unmarked g.heap.objects g.marked ≡ doomed
  unmarked_same =
      ap (λ (h : Heap). unmarked h.objects g.marked) ends.heap
      ∙ ap (λ ps. unmarked (map (λ o. ended (mark_end j) j.ground.tags o) ps) g.marked) (objects_same j a stands marks)
      ∙ unmarked_is objects (λ o. ended (mark_end j) j.ground.tags o) g.marked (joined a.scanned) a.born
      (rising j a stands marks) (λ o. grind arith) (λ o at.
      let there : is_there objects o.no ≡ true = ap is_some at in
      marked_so o.no there
      ∙ ap not (has-unscanned objects a.born (joined a.scanned) o.no ∙ simp there refl))

  heap_plain : j.ground.heap ≡ unheld a.world.heap
  heap_plain =
      stands.heap ∙ ap (λ d. heap_but d (unheld a.world.heap)) (facts.names.none_doomed (not_past j a stands marks))
      ∙ heap_but-none (unheld a.world.heap)

  heap_same : (with_condemned g).heap ≡ heap_but doomed (unheld after.world.heap)
  heap_same =
      ap (λ d. heap_but d g.heap) unmarked_same
      ∙ ap (λ (h : Heap). heap_but doomed h) (ends.heap
      ∙ ap (λ (h : Heap). record h {
        objects = map (λ o. ended (mark_end j) j.ground.tags o) j.ground.heap.objects;
      }) heap_plain
      ∙ ap (λ ps. record (unheld a.world.heap) { objects = ps }) shown_same)

  -- ---- what it is of

  there_same : (n : ℕ) → is_there (map (λ o. shown doomed o) objects) n ≡ is_there objects n
  there_same n = is_there-reshaped (λ o. shown doomed o) (shown-shape doomed) objects n

  live : (n : ℕ) → is_there (map (λ o. shown doomed o) objects) n ≡ true → has g.marked n ≡ not (has doomed n)
  live n there = marked_so n (sym (there_same n) ∙ there)

  tags : TagsTell (ended_judge j g) after
  tags = record {
    old = λ n. subst (λ ts. cleared_in_at ts n ≤ j.cycle) (sym ends.tags) (stands.tags.old n);
    scanned = λ is n there.
        ap (λ ts. cleared_in_at ts n == j.cycle) ends.tags
        ∙ stands.tags.scanned (judging j a stands marks) n (sym (there_same n) ∙ there);
    put = λ n q is.
        ap (λ ts. is_put ts n) ends.tags ∙ stands.tags.put n q (sym (queue_same n) ∙ is);
  }
    where
      queue_same : (n : ℕ)
          → registered_in (reference_at after.world.heap n) ≡ registered_in (reference_at a.world.heap n)
      queue_same n =
          at-reshaped (λ o. shown doomed o) (shown-shape doomed) (λ o. registered_in (reference_in o)) objects n
          (λ o. (shown-shape doomed).queue o)

  -- ---- what workers found

  told_here : Found → Found
  told_here f = told_found (mark_end j) j.ground f

  told_pending : (ws : List Finder)
      → map (λ (w : Finder). w.pending) (map (λ (w : Finder). told_each (mark_end j) j.ground w) ws)
      ≡ map (λ (w : Finder). w.pending) ws
  told_pending [] = refl
  told_pending (w ∷ ws) = ap (λ rest. w.pending ∷ rest) (told_pending ws)

  told_objects : (found : List Found)
      → map (λ (f : Found). f.object) (map (λ (f : Found). told_found (mark_end j) j.ground f) found)
      ≡ map (λ (f : Found). f.object) found
  told_objects [] = refl
  told_objects (f ∷ found) = ap (λ rest. f.object ∷ rest) (told_objects found)

  finder_same : (k : ℕ) → finder_at (ended_judge j g) k ≡ told_each (mark_end j) j.ground (finder_at j k)
  finder_same k = get_or-map (λ (w : Finder). told_each (mark_end j) j.ground w) j.workers k no_finder

  found_same : (k : ℕ) → found_by (ended_judge j g) k ≡ refs_of a k
  found_same k =
      ap (λ (w : Finder). map (λ (f : Found). f.object) w.found) (finder_same k)
      ∙ told_objects (finder_at j k).found ∙ stands.finders.found (judging j a stands marks) k

  refs_shown : (ns : List ℕ) → references_among (map (λ o. shown doomed o) objects) ns ≡ references_among objects ns
  refs_shown [] = refl
  refs_shown (n ∷ ns) =
      let same : is_some (reference_in (object_at (map (λ o. shown doomed o) objects) n))
      ≡ is_some (reference_in (object_at objects n)) =
      at-reshaped (λ o. shown doomed o) (shown-shape doomed) (λ o. is_some (reference_in o)) objects n
      (λ o. (shown-shape doomed).is_reference o) in
      ap (λ b. if b then n ∷ references_among (map (λ o. shown doomed o) objects) ns
      else references_among (map (λ o. shown doomed o) objects) ns) same
      ∙ ap (λ rest. if is_some (reference_in (object_at objects n)) then n ∷ rest else rest) (refs_shown ns)

  clears_so : (k n : ℕ) → has (refs_of a k) n ≡ true
      → refers_into (dooms (mark_end j) j.ground.tags) (reference_at j.ground.heap n)
      ≡ has (new_clears objects doomed) n
  clears_so k n ref =
      let scanned : has (joined a.scanned) n ≡ true =
      joined_at a.scanned k n (references_among-has objects (list_at a.scanned k) n ref) in
      let there : is_there objects n ≡ true = facts.scanned.there marking n scanned in
      let tag = stands.tags.scanned (judging j a stands marks) n there ∙ scanned in
      let own : spared j a stands marks n ≡ true = spared_by (nat_lt n j.born) tag in
      let out = spared_out j a stands marks n there own in
      ap (λ ps. refers_into (dooms (mark_end j) j.ground.tags) (reference_in (object_at ps n)))
      (objects_same j a stands marks)
      ∙ sym (refers_same j a stands marks n there)
      ∙ sym (has-new_clears objects doomed n (rising j a stands marks) ∙ simp (there, out) refl)
    where
      spared_by : (old : Bool) {seen : Bool} → seen ≡ true → (not old || seen) ≡ true
      spared_by true is = is
      spared_by false is = refl

      joined_at : (lists : List (List ℕ)) (k n : ℕ) → has (list_at lists k) n ≡ true → has (joined lists) n ≡ true
      joined_at [] k n h = absurd (false≢true h)
      joined_at (l ∷ lists) zero n h = has-left l (joined lists) n h
      joined_at (l ∷ lists) (suc k) n h = has-right l (joined lists) n (joined_at lists k n h)

  told_all : (found : List Found) → ((n : ℕ) → has (map (λ (f : Found). f.object) found) n ≡ true
      → refers_into (dooms (mark_end j) j.ground.tags) (reference_at j.ground.heap n)
      ≡ has (new_clears objects doomed) n)
      → AreToldCleared (new_clears objects doomed) (map (λ (f : Found). told_found (mark_end j) j.ground f) found)
  told_all [] each = tt
  told_all (f ∷ found) each = (each f.object (grind arith), told_all found (λ n h. each n (grind arith)))

  finders : FindersTell (ended_judge j g) after
  finders = record {
    pending = told_pending j.workers ∙ stands.finders.pending;
    within = λ k. subst (λ (w : Finder). w.at ≤ length w.found) (sym (finder_same k)) (omega arith);
    found = λ is k. found_same k ∙ sym (refs_shown (list_at a.scanned k));
    cleared = λ is k.
        subst (λ (w : Finder). AreToldCleared (new_clears objects doomed) w.found) (sym (finder_same k))
        (told_all (finder_at j k).found (λ n h.
        clears_so k n (ap (λ ns. has ns n) (sym (stands.finders.found (judging j a stands marks) k)) ∙ h)));
  }

  pub stands_after : StandsFor (ended_judge j g) after
  stands_after = record {
    lawful = lawful;
    heap = heap_same;
    next = ends.next ∙ stands.next;
    holds = stands.holds;
    mutator_hands = stands.mutator_hands;
    worker_hands = stands.worker_hands;
    lines = stands.lines;
    phase = refl;
    cycle = stands.cycle;
    policy = stands.policy;
    born = stands.born;
    count = λ no. absurd (false≢true no);
    chosen = stands.chosen;
    doomed = unmarked_same;
    kept = λ no. absurd (false≢true no);
    live = λ past n there. live n there;
    tags = tags;
    finders = finders;
  }

  -- ---- the states that fit

  left_same : (k : ℕ) → still_left (ended_judge j g) k ≡ refs_of a k
  left_same k =
      ap (λ (w : Finder). drop w.at (map (λ (f : Found). f.object) w.found)) (finder_same k)
      ∙ told_objects (finder_at j k).found ∙ stands.finders.found (judging j a stands marks) k

  -- lists of which each may be what its worker found
  found_on : (t : State) → FitsFound (ended_to a) (refs_of a) false t
      → FitsFound after (still_left (ended_judge j g)) false t
  found_on t fits = (
    fits.0,
    fits.1,
    fits.2,
    record {
      each = λ k. subst (λ ns. MayFind ns (ended_to a).cleared (list_at fits.0 k)) (sym (left_same k)) (fits.3.each k);
      left = fits.3.left;
    },
  )

  found_back : (t : State) → FitsFound after (still_left (ended_judge j g)) false t
      → FitsFound (ended_to a) (refs_of a) false t
  found_back t fits = (
    fits.0,
    fits.1,
    fits.2,
    record {
      each = λ k. subst (λ ns. MayFind ns (ended_to a).cleared (list_at fits.0 k)) (left_same k) (fits.3.each k);
      left = fits.3.left;
    },
  )

  pub leads_after : LeadsOn j (ended_judge j g) (record { step = Plain plain.EndMark; reply = replies.Doomed count }) a
  leads_after = record {
    state = after;
    stands = stands_after;
    on = λ s t here h.
        found_on t (end_fits_as j.profile a t j.may_be_left j.may_be_none marking s count facts.scanned.once
        (subst (λ m. FitsIn m (is_in j.phase Clearing) j a s) marks here) h).4;
    back = λ t there.
        let from = from_before t (found_back t there) in (
          from.0,
          fits_before from.0 from.1,
          subst (λ n. IsRowAs j.profile from.0 (record { step = Plain plain.EndMark; reply = replies.Doomed n }) t)
              (sym checks.0) from.2,
        );
  }

-- ---- the value

-- it is settled
pub settled_after : (j : Judged) (g : Ground) → IsSettled j → EndsAll (mark_end j) (marks_begun j.ground B) g
    → IsSettled (ended_judge j g)
settled_after j g settled ends = record {
  none_grey = settled.none_grey;
  grey_room = settled.grey_room;
  doomed_room = settled.doomed_room;
  config = ap (λ (h : Heap). h.config) ends.heap ∙ settled.config;
  none_to_move = ap (λ s. s.still_to_move) ends.space ∙ settled.none_to_move;
  none_chosen = ap (λ s. s.has_choice) ends.space ∙ settled.none_chosen;
  tuned = λ going. ap (λ s. s.stage) ends.space;
  colour = ap (λ s. s.last) ends.space;
  condemning = refl;
  may = λ no. absurd (false≢true no);
  waits = λ clears some. absurd (false≢true some);
}

-- and tells of the row
pub ended_tells : (j : Judged) (g : Ground) (count : ℕ) → is_in j.phase Marking ≡ true → j.may_be_none ≡ true
    → may_end j count ≡ true → EndsAll (mark_end j) (marks_begun j.ground B) g
    → TellsOf j (record { step = Plain plain.EndMark; reply = replies.Doomed count }) (Ok tt) (ended_judge j g)
ended_tells j g count marks none may ends =
    (refl, refl, λ a stands fits. leads_after j g a stands fits marks none count may ends)

-- a mark that may not end so has no row
pub ends_none : (j : Judged) (count : ℕ) → is_in j.phase Marking ≡ true
    → (j.may_be_none && may_end j count) ≡ false → (a : State) → StandsFor j a
    → HasNone j (record { step = Plain plain.EndMark; reply = replies.Doomed count }) a
ends_none j count marks refuses a stands s t here h =
    let facts = legal_facts j.profile j.config a stands.lawful in
    let all =
    end_fits_as j.profile a t j.may_be_left j.may_be_none (in_mark j a stands marks) s count facts.scanned.once
    (subst (λ m. FitsIn m (is_in j.phase Clearing) j a s) marks here) h in
    let may =
    so_ends j a stands marks count all.1 (doom_parts_as j.profile a (doomed_at a) all.2) all.3 in
    absurd (false≢true (sym refuses ∙ (let ok = all.0 in simp (ok, may) refl)))

-- what holds of it, holds where its parts are equal
pub ended_as : (P : Judged → Type 0) (j : Judged) (g ground : Ground) (workers : List Finder) (doomed : Worklist)
    → ground ≡ with_condemned g → workers ≡ map (λ (w : Finder). told_each (mark_end j) j.ground w) j.workers
    → doomed ≡ with_more (emptied_list j.doomed) (unmarked g.heap.objects g.marked) → P (ended_judge j g)
    → P (record j { ground = ground; workers = workers; phase = Clearing; some_left = false; doomed = doomed })
ended_as P j g ground workers doomed same found listed holds =
    subst (λ (x : Ground).
    P (record j { ground = x; workers = workers; phase = Clearing; some_left = false; doomed = doomed })) (sym same)
    (subst (λ (ws : List Finder).
    P (record j { ground = with_condemned g; workers = ws; phase = Clearing; some_left = false; doomed = doomed }))
    (sym found)
    (subst (λ (d : Worklist).
    P (record j {
      ground = with_condemned g;
      workers = map (λ (w : Finder). told_each (mark_end j) j.ground w) j.workers;
      phase = Clearing;
      some_left = false;
      doomed = d;
    })) (sym listed) holds))

-- the object found, changed
found_changed : (f : Object → Object) (os : List Object) (n : ℕ) (o : Object) → ((p : Object) → (f p).no ≡ p.no)
    → object_at os n ≡ Some o → object_at (map f os) n ≡ Some (f o)
found_changed f [] n o number at = absurd cc
found_changed f (p ∷ os) n o number at = grind (arith, number p, found_changed f os n o number)

-- nothing that is marked then refers to what isn't, and no slot names it
module _ (j : Judged) (g : Ground) (a : State) (stands : StandsFor j a) (fits : AreLawful j a)
    (marks : is_in j.phase Marking ≡ true) (none : j.may_be_none ≡ true) (count : ℕ) (may : may_end j count ≡ true)
    (ends : EndsAll (mark_end j) (marks_begun j.ground B) g) where
  off_all : IsOff j.profile a (doomed_at a)
  off_all = (ends_so j a stands marks count may).1

  -- what is there and isn't doomed is marked
  mark_of : (n : ℕ) → is_there a.world.heap.objects n ≡ true → has (doomed_at a) n ≡ false → has g.marked n ≡ true
  mark_of n there out = marked_so j g a stands fits marks none count may ends n there ∙ ap not out

  shown_fields : (d : List ℕ) (o : Object) → (shown d o).fields ≡ o.fields
  shown_fields d o = grind arith

  found_no : (os : List Object) (k : ℕ) (o : Object) → object_at os k ≡ Some o → o.no ≡ k
  found_no [] k o at = absurd cc
  found_no (p ∷ os) k o at = grind (arith, found_no os k o)

  referent_allowed : (r : Option Reference) → if_any (referent_of r) ≡ allowed_referent any_referent r
  referent_allowed None = refl
  referent_allowed (Some r) = refl

  refers_doomed_one : (r : Option Reference) (n : ℕ) → has (if_any (referent_of r)) n ≡ true
      → has (doomed_at a) n ≡ true → refers_into (has (doomed_at a)) r ≡ true
  refers_doomed_one None n h is = absurd (false≢true h)
  refers_doomed_one (Some r) n h is = of_value r.referent h
    where
      of_value : (value : Option ℕ) → has (if_any value) n ≡ true → any_is (has (doomed_at a)) value ≡ true
      of_value None h = absurd (false≢true h)
      of_value (Some m) h =
          elim (or_cases (m == n) false h) [
            | inl same ↦ ap (λ k. has (doomed_at a) k) (eqb-true m n same) ∙ is
            | inr none ↦ absurd (false≢true none)
          ]

  -- a reference that is cleared refers to nothing, and another that is spared to nothing doomed
  referent_out : (o : Object) (n : ℕ) → has (doomed_at a) o.no ≡ false
      → has (if_any (referent_of (shown (doomed_at a) o).reference)) n ≡ true
      → (has (if_any (referent_of o.reference)) n ≡ true) × (has (doomed_at a) n ≡ false)
  referent_out o n outside h =
      elim (cases_Bool (is_new_clear (doomed_at a) o)) [
        | inl clear ↦ absurd (false≢true (sym (none_left o.reference) ∙ simp clear at h))
        | inr stays ↦
            let same : has (if_any (referent_of o.reference)) n ≡ true = simp stays at h in (
              same,
              elim (cases_Bool (has (doomed_at a) n)) [
                | inl is ↦
                    let refers = refers_doomed_one o.reference n same is in
                    absurd (false≢true (sym stays ∙ simp (outside, refers) refl))
                | inr out ↦ out
              ],
            )
      ]
    where
      none_left : (r : Option Reference) → has (if_any (referent_of (changed_reference cleared r))) n ≡ false
      none_left None = refl
      none_left (Some r) = refl

  named_marked : (m n : ℕ) → has g.marked m ≡ true → has (named_in (object_at g.heap.objects m)) n ≡ true
      → has g.marked n ≡ true
  named_marked m n is named = of_object (object_at a.world.heap.objects m) refl
    where
      both : (is_there j.ground.heap.objects m ≡ true) × (spares (mark_end j) j.ground.tags m ≡ true)
      both =
          and_parts (is_there j.ground.heap.objects m) (spares (mark_end j) j.ground.tags m) (sym (ends.marked m) ∙ is)

      there : is_there a.world.heap.objects m ≡ true
      there = ap (λ ps. is_there ps m) (sym (objects_same j a stands marks)) ∙ both.0

      outside : has (doomed_at a) m ≡ false
      outside = spared_out j a stands marks m there both.1

      read : object_at g.heap.objects m ≡ object_at (map (λ o. shown (doomed_at a) o) a.world.heap.objects) m
      read =
          ap (λ (h : Heap). object_at h.objects m) ends.heap
          ∙ ap (λ ps. object_at ps m) (shown_same j g a stands fits marks none count may ends)

      led : (allow : Allowed) (o : Object) → object_at a.world.heap.objects m ≡ Some o
          → has (targets_of allow (Some o)) n ≡ true → has (targets_at allow a.world.heap.objects m) n ≡ true
      led allow o at h = ap (λ x. has (targets_of allow x) n) at ∙ h

      of_object : (found : Option Object) → object_at a.world.heap.objects m ≡ found → has g.marked n ≡ true
      of_object None at = absurd (false≢true (sym (ap is_some at) ∙ there))
      of_object (Some o) at =
          let number = found_no a.world.heap.objects m o at in
          let after : Object = shown (doomed_at a) o in
          let now : has (present after.fields ++ if_any (referent_of after.reference)) n ≡ true =
          subst (λ x. has (named_in x) n ≡ true)
          (read ∙ found_changed (λ p. shown (doomed_at a) p) a.world.heap.objects m o (λ p. grind arith) at) named in
          elim (has-cases (present after.fields) (if_any (referent_of after.reference)) n now) [
            | inl field ↦
                let own : has (present o.fields) n ≡ true =
                ap (λ vs. has (present vs) n) (sym (shown_fields (doomed_at a) o)) ∙ field in
                let must = must_keep j.profile a.world.policy in
                mark_of n
                (target_there j a stands marks m n there
                (led any_referent o at (has-left (present o.fields) (allowed_referent any_referent o.reference) n own)))
                (off_all.1 m n there outside
                (led must o at (has-left (present o.fields) (allowed_referent must o.reference) n own)))
            | inr kept ↦
                let out = referent_out o n (ap (λ k. has (doomed_at a) k) number ∙ outside) kept in
                mark_of n
                (target_there j a stands marks m n there
                (led any_referent o at (has-right (present o.fields) (allowed_referent any_referent o.reference) n
                (ap (λ ns. has ns n) (sym (referent_allowed o.reference)) ∙ out.0)))) out.1
          ]

  pub closed_after : IsClosed g.heap (has g.marked)
  closed_after = record { rooted = rooted; closed = named_marked }
    where
      plain_heap : j.ground.heap ≡ unheld a.world.heap
      plain_heap = heap_plain j g a stands fits marks none count may ends

      rooted : (n : ℕ) → has (present g.heap.slots ++ g.heap.holds) n ≡ true → has g.marked n ≡ true
      rooted n h =
          elim (has-cases (present g.heap.slots) g.heap.holds n h) [
            | inl slot ↦
                let held : has (present a.world.heap.slots) n ≡ true =
                ap (λ vs. has (present vs) n)
                (sym (ap (λ (x : Heap). x.slots) ends.heap ∙ ap (λ (x : Heap). x.slots) plain_heap)) ∙ slot in
                let root : has (graph_of a.world).roots n ≡ true =
                has-left (present a.world.heap.slots ++ a.world.heap.holds) (pending_numbers a.world.pending) n
                (has-left (present a.world.heap.slots) a.world.heap.holds n held) in
                let there = ((legal_facts j.profile j.config a stands.lawful).names.roots n root).0 in
                mark_of n there (off_all.0 n there root)
            | inr hold ↦
                absurd (false≢true (ap (λ ns. has ns n)
                (sym (ap (λ (x : Heap). x.holds) ends.heap ∙ ap (λ (x : Heap). x.holds) plain_heap)) ∙ hold))
          ]
