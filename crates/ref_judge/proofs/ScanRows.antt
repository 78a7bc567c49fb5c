-- A worker's scan: which objects are left, as a judge knows, and what a judge tells of a scan of one, and of none.
use Rattle.ref_base.proofs.Common.{arith, ◌≡◌, ◌≤◌, ℕ, ◌<◌, ◌+◌, ◌==◌, ◌&&◌, ◌||◌, Bool, true, false, not, nat_lt, List}
use Rattle.ref_base.proofs.Common.{[], ◌∷◌}
use Rattle.ref_base.proofs.Common.{◌++◌, length, map, None, refl, sym, ap, ◌∙◌, subst, inl, inr, ◌⊎◌, and_parts}
use Rattle.ref_base.proofs.Common.{cases_Bool}
use Rattle.ref_base.proofs.Common.{false≢true, true≢false, has, joined, list_at, State, is_in, is_there, is_some}
use Rattle.ref_base.proofs.Common.{eqb-true, eq-eqb}
use Rattle.ref_base.proofs.Common.{ltb-true, reference_in, object_at, graph_of, ticked, slice_set, reference_at, Object}
use Rattle.ref_base.proofs.Common.{get_or-set_same, get_or-set_other}
use Rattle.ref_base.proofs.Common.{if◌then◌else◌, or_cases, numbers, length-map}
use Rattle.ref_base.proofs.Lookups.{is_there-has}
use Rattle.std.specs.Prelude.{Ok}
use Rattle.std.proofs.lemmas.Bool.{lt-ltb}
use Rattle.std.proofs.lemmas.List.{length-append}
use Rattle.ref_base.specs.CollectorRows.{references_among}
use Rattle.ref_base.specs.Refusals.{work_refusal, plain_refusal}
use Rattle.ref_base.specs.declared.phase.Phase.{Phase}
use Rattle.ref_base.specs.declared.phase.Phase.TheVariants.{Marking, Clearing}
use Rattle.ref_base.specs.declared.plain_step.PlainStep.TheVariants as plain
use Rattle.ref_base.specs.declared.reply.Reply.{Reply}
use Rattle.ref_base.specs.declared.reply.Reply.TheVariants as replies
use Rattle.ref_base.specs.declared.row.Row.{Row}
use Rattle.ref_base.proofs.Fitting.{Fits, may, saying, with_scanned}
use Rattle.ref_base.proofs.FoundLists.{with_last, joined-with_last, has-with_last}
use Rattle.ref_base.proofs.MarkEndRows.{refs_of}
use Rattle.ref_base.proofs.PlainRows.{plain_row}
use Rattle.ref_space.specs.Tables.{Tag}
use Rattle.ref_objects.specs.Grounds.{IsWellFormed, cleared_in_at, link_at, with_cleared_tag}
use Rattle.ref_judge.specs.Finding.{if_found, noted}
use Rattle.ref_judge.specs.Judged.{Judged, Finder, no_finder, finder_at, found_by, is_behind_mark, is_left_in}
use Rattle.ref_judge.specs.LeftCounts.{unmarked_if}
use Rattle.ref_judge.specs.ProfiledRows.{IsRowAs, IsLeftAs, ScansAs}
use Rattle.ref_judge.specs.Standing.{StandsFor, AreLawful, IsOfSomeState, FitsIt, HasNone, LeadsOn, TellsOf}
use Rattle.ref_judge.specs.Standing.{Lawful, DecidesAs}
use Rattle.ref_judge.specs.declared.worker.Found.{Found}
use Rattle.ref_judge.proofs.AnewRows.{alike, back_alike, decides_alike}
use Rattle.ref_judge.proofs.EndChecks.{in_mark, judging, objects_same}
use Rattle.ref_judge.proofs.FittingRows.{scan_fits_as, fits_scan_as, scan_none_fits_as, fits_scan_none_as}
use Rattle.ref_judge.proofs.FreeAnswers.{scan_answers_as}
use Rattle.ref_judge.proofs.KeptFacts.{IsKeptSet, isnt}
use Rattle.ref_judge.proofs.KnownJudges.{kept_row}
use Rattle.ref_judge.proofs.LegalFacts.{Facts, legal_facts, lawful_row}
use Rattle.ref_judge.proofs.LeftJudged.{left_decides, is_kept_set, kept_if, kept_parts, parts_kept}
use Rattle.ref_judge.proofs.MarkRuns.{lawful_rising, lawful_all_there}
use Rattle.ref_judge.proofs.MarkTold.{mark_fits, fits_mark}
use Rattle.ref_judge.proofs.MemberCounts.{distinct_fit}
use Rattle.ref_judge.proofs.PassedRows.{pending_kept}
use Rattle.ref_judge.proofs.WorkerPlaces.{goes, within_workers, within_scanned}
use Rattle.ref_judge.proofs.PutLinks.{tagged, registered_tagged}
use Rattle.ref_judge.proofs.SoundJudges.{sound_told}
use Rattle.ref_judge.proofs.TestedRows.{work_known}
use Rattle.ref_judge.proofs.UnchangedRows.{plain_accepted_as, accepted_plain_as}

-- who marks is past no mark, and clears nothing
marks_alone : (q : Phase) → is_in q Marking ≡ true → (is_behind_mark q ≡ false) × (is_in q Clearing ≡ false)
marks_alone Marking is = (refl, refl)
marks_alone q is = absurd (false≢true is)

-- ---- tags

-- an object that has a tag is cleared in this cycle then
cleared_here : (ts : List Tag) (n cycle : ℕ) → has (tagged ts) n ≡ true
    → cleared_in_at (with_cleared_tag ts n cycle) n ≡ cycle
cleared_here [] n cycle there = absurd (false≢true there)
cleared_here (t ∷ ts) n cycle there = grind (arith, cleared_here ts n cycle)

cleared_other : (ts : List Tag) (n m cycle : ℕ) → (n == m) ≡ false
    → cleared_in_at (with_cleared_tag ts n cycle) m ≡ cleared_in_at ts m
cleared_other [] n m cycle apart = refl
cleared_other (t ∷ ts) n m cycle apart = grind (arith, cleared_other ts n m cycle)

link_same : (ts : List Tag) (n m cycle : ℕ) → link_at (with_cleared_tag ts n cycle) m ≡ link_at ts m
link_same [] n m cycle = refl
link_same (t ∷ ts) n m cycle = grind (arith, link_same ts n m cycle)

-- ---- lists

-- one list more is scanned by one
length-with_last : (lists : List (List ℕ)) (k n : ℕ) → k < length lists
    → length (joined lists) + 1 ≡ length (joined (with_last lists k n))
length-with_last lists k n within =
    let parts = joined-with_last lists k n within in
    let before = ap (λ (ns : List ℕ). length ns) parts.2 ∙ length-append parts.0 parts.1 in
    let after = ap (λ (ns : List ℕ). length ns) parts.3 ∙ length-append parts.0 (n ∷ parts.1) in
    omega (arith, before, after)

abbrev objects_of : List Found → List ℕ
objects_of fs = map (λ (f : Found). f.object) fs

-- what was scanned last is found where it is a reference
found_last : (os : List Object) (fs : List Found) (ns : List ℕ) (n : ℕ) → objects_of fs ≡ references_among os ns
    → objects_of (fs ++ if_found (is_some (reference_in (object_at os n))) n) ≡ references_among os (ns ++ n ∷ [])
found_last os fs ns n same =
    mapped fs (if_found (is_some (reference_in (object_at os n))) n)
    ∙ ap (λ ms. ms ++ objects_of (if_found (is_some (reference_in (object_at os n))) n)) same ∙ sym (last ns)
  where
    mapped : (fs gs : List Found) → objects_of (fs ++ gs) ≡ objects_of fs ++ objects_of gs
    mapped [] gs = refl
    mapped (f ∷ fs) gs = ap (λ ms. f.object ∷ ms) (mapped fs gs)

    one : (is : Bool) → (if is then n ∷ [] else []) ≡ objects_of (if_found is n)
    one true = refl
    one false = refl

    last : (ms : List ℕ)
        → references_among os (ms ++ n ∷ [])
        ≡ references_among os ms ++ objects_of (if_found (is_some (reference_in (object_at os n))) n)
    last [] = one (is_some (reference_in (object_at os n)))
    last (m ∷ ms) = grind (arith, last ms)

-- ---- what is left

module _ (j : Judged) (a : State) (stands : StandsFor j a) (marks : is_in j.phase Marking ≡ true) where
  kept_set : IsKeptSet j.profile
      (λ n. has (kept_if j.profile.keeps_more j.ground.marked a.world.heap.objects) n ≡ true) a
  kept_set =
      is_kept_set j.profile j.config a (legal_facts j.profile j.config a stands.lawful) (in_mark j a stands marks)
      (lawful_rising j.profile j.config a stands.lawful)
      (lawful_all_there j.profile j.config a stands.lawful (in_mark j a stands marks)) j.ground.marked
      (stands.kept marks) j.profile.keeps_more refl

  -- an object that is left, as the judge knows, is left
  pub left_as : (n : ℕ) → is_left_in j n ≡ true → IsLeftAs j.profile a n
  left_as n left =
      let both =
      and_parts (is_there j.ground.heap.objects n && (j.profile.keeps_more || has j.ground.marked n))
      (nat_lt n j.born && not (cleared_in_at j.ground.tags n == j.cycle)) left in
      let may = and_parts (is_there j.ground.heap.objects n) (j.profile.keeps_more || has j.ground.marked n) both.0 in
      let old = and_parts (nat_lt n j.born) (not (cleared_in_at j.ground.tags n == j.cycle)) both.1 in
      let there : is_there a.world.heap.objects n ≡ true =
      ap (λ os. is_there os n) (sym (objects_same j a stands marks)) ∙ may.0 in (
        kept_set.sound n (parts_kept j.profile.keeps_more j.ground.marked a.world.heap.objects n there may.1),
        subst (λ (b : ℕ). n < b) stands.born (ltb-true n j.born old.0),
        sym (stands.tags.scanned (judging j a stands marks) n there) ∙ isnt _ old.1,
      )

  -- and back
  pub as_left : (n : ℕ) → IsLeftAs j.profile a n → is_left_in j n ≡ true
  as_left n left =
      let parts =
      kept_parts j.profile.keeps_more j.ground.marked a.world.heap.objects n (kept_set.complete n left.0) in
      let there : is_there j.ground.heap.objects n ≡ true =
      ap (λ os. is_there os n) (objects_same j a stands marks) ∙ parts.0 in
      let may = parts.1 in
      let old : nat_lt n j.born ≡ true = lt-ltb n j.born (subst (λ (b : ℕ). n < b) (sym stands.born) left.1) in
      let new : (cleared_in_at j.ground.tags n == j.cycle) ≡ false =
      stands.tags.scanned (judging j a stands marks) n parts.0 ∙ left.2 in
      simp (there, may, old, new) refl

  -- a row of a scan of an object tells that one may be left, and that this one is
  scanned_parts : (s t : State) (k n : ℕ) → plain_refusal a (plain.Scan k) ≡ None → FitsIt j a s
      → IsRowAs j.profile s (plain_row (plain.Scan k) (replies.Scanned n)) t
      → (j.may_be_left ≡ true) × IsLeftAs j.profile a n
  scanned_parts s t k n none fits h = of_said free.0 free.1 free.2
    where
      free : Fits a j.may_be_left j.may_be_none s
      free = mark_fits j marks a s fits

      of_said : (left : Bool) → s ≡ saying a left → may left j.may_be_left j.may_be_none ≡ true
          → (j.may_be_left ≡ true) × IsLeftAs j.profile a n
      of_said left same ok =
          let row : ScansAs j.profile (saying a left) k (replies.Scanned n) t =
          plain_accepted_as j.profile (saying a left) t (plain.Scan k) (replies.Scanned n) none
          (subst (λ (u : State). IsRowAs j.profile u (plain_row (plain.Scan k) (replies.Scanned n)) t) same h) in
          (subst (λ (said : Bool). may said j.may_be_left j.may_be_none ≡ true) row.0 ok, row.1)

-- what is said of what is left is no part of what a judge's value is of
stands_saying : (j : Judged) (a : State) → StandsFor j a → (left : Bool) → Lawful j.profile j.config (saying a left)
    → StandsFor j (saying a left)
stands_saying j a s left lawful = record {
  lawful = lawful;
  heap = s.heap;
  next = s.next;
  holds = s.holds;
  mutator_hands = s.mutator_hands;
  worker_hands = s.worker_hands;
  lines = s.lines;
  phase = s.phase;
  cycle = s.cycle;
  policy = s.policy;
  born = s.born;
  count = s.count;
  chosen = s.chosen;
  doomed = s.doomed;
  kept = s.kept;
  live = s.live;
  tags = record { old = s.tags.old; scanned = s.tags.scanned; put = s.tags.put };
  finders = record {
    pending = s.finders.pending;
    within = s.finders.within;
    found = s.finders.found;
    cleared = s.finders.cleared;
  };
}

-- ---- the value after a scan

abbrev pub scanned_judge : Judged → ℕ → ℕ → Bool → Judged
scanned_judge j k n left = record j {
  ground = record j.ground { tags = with_cleared_tag j.ground.tags n j.cycle };
  workers = slice_set j.workers k (noted (finder_at j k) (is_some (reference_at j.ground.heap n)) n);
  scanned = j.scanned + 1;
  may_be_left = left;
  may_be_none = true;
}

module _ (j : Judged) (k n : ℕ) (a : State) (stands : StandsFor j a) (fits : AreLawful j a)
    (marks : is_in j.phase Marking ≡ true) (none : work_refusal j.ground.heap j.phase Marking k ≡ None)
    (said : j.may_be_left ≡ true) (is : is_left_in j n ≡ true) (formed : IsWellFormed j.ground) where
  marking : is_in a.world.phase Marking ≡ true
  marking = in_mark j a stands marks

  passes : plain_refusal a (plain.Scan k) ≡ None
  passes = sym (work_known j a stands Marking k) ∙ none

  left : IsLeftAs j.profile a n
  left = left_as j a stands marks n is

  -- the state that says that an object is left
  abbrev says : State
  says = saying a true

  says_lawful : Lawful j.profile j.config says
  says_lawful = fits says (fits_mark j marks a says (true, refl, said))

  says_stands : StandsFor j says
  says_stands = stands_saying j a stands true says_lawful

  -- the state that the scan leaves
  abbrev after : State
  after = record a {
    scanned = with_last a.scanned k n;
    moments = graph_of a.world ∷ a.moments;
    left = false;
  }

  after_is : after ≡ saying (ticked (with_scanned a k n)) false
  after_is = let m = marking in simp m refl

  row : IsRowAs j.profile says (plain_row (plain.Scan k) (replies.Scanned n)) after
  row =
      accepted_plain_as j.profile says after (plain.Scan k) (replies.Scanned n) passes (
        refl,
        left,
        (false, (let m = marking in simp m refl), λ no. absurd (false≢true no)),
      )

  lawful : Lawful j.profile j.config after
  lawful = lawful_row j.profile j.config says after (plain_row (plain.Scan k) (replies.Scanned n)) says_lawful row

  there : is_there j.ground.heap.objects n ≡ true
  there =
      (and_parts (is_there j.ground.heap.objects n) (j.profile.keeps_more || has j.ground.marked n)
      (and_parts (is_there j.ground.heap.objects n && (j.profile.keeps_more || has j.ground.marked n))
      (nat_lt n j.born && not (cleared_in_at j.ground.tags n == j.cycle)) is).0).0

  within : k < length j.workers
  within = within_workers j Marking k none a stands

  lists : k < length a.scanned
  lists = within_scanned j Marking k none a stands

  -- ---- tags

  old_tag : (m : ℕ) → cleared_in_at (with_cleared_tag j.ground.tags n j.cycle) m ≤ j.cycle
  old_tag m =
      elim (cases_Bool (n == m)) [
        | inl same ↦
            let own = eqb-true n m same in
            let is =
            cleared_here j.ground.tags n j.cycle (registered_tagged j.ground n 0 formed there) in
            subst (λ (i : ℕ). cleared_in_at (with_cleared_tag j.ground.tags n j.cycle) i ≤ j.cycle) own
            (omega (arith, is))
        | inr apart ↦
            let is = cleared_other j.ground.tags n m j.cycle apart in
            let least = stands.tags.old m in
            omega (arith, is, least)
      ]

  scanned_tag : (m : ℕ) → is_there a.world.heap.objects m ≡ true
      → (cleared_in_at (with_cleared_tag j.ground.tags n j.cycle) m == j.cycle)
      ≡ has (joined (with_last a.scanned k n)) m
  scanned_tag m at =
      elim (cases_Bool (n == m)) [
        | inl same ↦
            let here : cleared_in_at (with_cleared_tag j.ground.tags n j.cycle) m ≡ j.cycle =
            subst (λ (i : ℕ). cleared_in_at (with_cleared_tag j.ground.tags n j.cycle) i ≡ j.cycle) (eqb-true n m same)
            (cleared_here j.ground.tags n j.cycle (registered_tagged j.ground n 0 formed there)) in
            eq-eqb _ _ here ∙ sym (has-with_last a.scanned k n m lists ∙ simp same refl)
        | inr apart ↦
            ap (λ (c : ℕ). c == j.cycle) (cleared_other j.ground.tags n m j.cycle apart)
            ∙ stands.tags.scanned (judging j a stands marks) m at
            ∙ sym (has-with_last a.scanned k n m lists ∙ simp apart refl)
      ]

  -- ---- finders

  abbrev noted_one : Finder
  noted_one = noted (finder_at j k) (is_some (reference_at j.ground.heap n)) n

  module _ (bit : Bool) where
    abbrev new : Judged
    new = scanned_judge j k n bit

    finder_here : finder_at new k ≡ noted_one
    finder_here = get_or-set_same j.workers k noted_one no_finder within

    finder_apart : (i : ℕ) → (i == k) ≡ false → finder_at new i ≡ finder_at j i
    finder_apart i apart =
        get_or-set_other j.workers k i noted_one no_finder (λ same. true≢false (sym (eq-eqb i k same) ∙ apart))

    place : (P : Finder → ℕ → Type 0) → P noted_one k → ((i : ℕ) → P (finder_at j i) i) → (i : ℕ)
        → P (finder_at new i) i
    place P own others i =
        elim (cases_Bool (i == k)) [
          | inl same ↦
              subst (λ (m : ℕ). P (finder_at new m) m) (sym (eqb-true i k same))
              (subst (λ (w : Finder). P w k) (sym finder_here) own)
          | inr apart ↦ subst (λ (w : Finder). P w i) (sym (finder_apart i apart)) (others i)
        ]

    found_here : map (λ (f : Found). f.object) noted_one.found ≡ refs_of after k
    found_here =
        ap (λ (os : List Object).
        objects_of ((finder_at j k).found ++ if_found (is_some (reference_in (object_at os n))) n))
        (objects_same j a stands marks)
        ∙ found_last a.world.heap.objects (finder_at j k).found (list_at a.scanned k) n
        (stands.finders.found (judging j a stands marks) k)
        ∙ ap (λ (ns : List ℕ). references_among a.world.heap.objects ns)
        (sym (get_or-set_same a.scanned k (list_at a.scanned k ++ n ∷ []) [] lists))

    found_new : (i : ℕ) → found_by new i ≡ refs_of after i
    found_new i =
        elim (cases_Bool (i == k)) [
          | inl same ↦
              subst (λ (m : ℕ). found_by new m ≡ refs_of after m) (sym (eqb-true i k same))
              (ap (λ (w : Finder). map (λ (f : Found). f.object) w.found) finder_here ∙ found_here)
          | inr apart ↦
              ap (λ (w : Finder). map (λ (f : Found). f.object) w.found) (finder_apart i apart)
              ∙ stands.finders.found (judging j a stands marks) i
              ∙ ap (λ (ns : List ℕ). references_among a.world.heap.objects ns)
              (sym (get_or-set_other a.scanned k i (list_at a.scanned k ++ n ∷ []) []
              (λ same. true≢false (sym (eq-eqb i k same) ∙ apart))))
        ]

    within_new : (i : ℕ) → (finder_at new i).at ≤ length (finder_at new i).found
    within_new =
        place (λ w i. w.at ≤ length w.found)
        (let long =
        length-append (finder_at j k).found (if_found (is_some (reference_at j.ground.heap n)) n) in
        let least = stands.finders.within k in omega (arith, long, least)) stands.finders.within

    pub stands_scanned : StandsFor new after
    stands_scanned = record {
      lawful = lawful;
      heap = stands.heap;
      next = stands.next;
      holds = stands.holds;
      mutator_hands = stands.mutator_hands;
      worker_hands = stands.worker_hands;
      lines = stands.lines;
      phase = stands.phase;
      cycle = stands.cycle;
      policy = stands.policy;
      born = stands.born;
      count = λ m. ap (λ (c : ℕ). c + 1) (stands.count marks) ∙ length-with_last a.scanned k n lists;
      chosen = stands.chosen;
      doomed = stands.doomed;
      kept = λ m less.
          kept_row j says after (plain_row (plain.Scan k) (replies.Scanned n)) says_stands tt row marks less;
      live = λ past. absurd (false≢true (sym (marks_alone j.phase marks).0 ∙ past));
      tags = record {
        old = old_tag;
        scanned = λ judges m at. scanned_tag m at;
        put = λ m q registered.
            ap (λ (l : ℕ). not (l == 0)) (link_same j.ground.tags n m j.cycle) ∙ stands.tags.put m q registered;
      };
      finders = record {
        pending = pending_kept j.workers k noted_one refl ∙ stands.finders.pending;
        within = within_new;
        found = λ judges i. found_new i;
        cleared = λ clears. absurd (false≢true (sym (marks_alone j.phase marks).1 ∙ clears));
      };
    }

  -- ---- the row

  -- the bit tells whether an object is left then
  abbrev tells : Bool → Type 0
  tells bit =
      bit ≡ nat_lt (j.ground.next + (j.scanned + 1) + unmarked_if j.profile.keeps_more j.ground)
      (length j.ground.heap.objects + j.born)

  pub leads_scanned : (bit : Bool) → tells bit
      → LeadsOn j (scanned_judge j k n bit) (plain_row (plain.Scan k) (replies.Scanned n)) a
  leads_scanned bit told = record {
    state = after;
    stands = stands_scanned bit;
    on = λ s t fit h.
        let now =
        scan_fits_as j.profile a t k j.may_be_left j.may_be_none passes s n bit decided (mark_fits j marks a s fit) h in
        fits_mark (scanned_judge j k n bit) marks after t
        (alike (ticked (with_scanned a k n)) after t false bit after_is now.2);
    back = λ t fit.
        let from =
        fits_scan_as j.profile a t k j.may_be_left j.may_be_none passes n bit decided said left
        (back_alike (ticked (with_scanned a k n)) after t false bit after_is
        (mark_fits (scanned_judge j k n bit) marks after t fit)) in
        (from.0, fits_mark j marks a from.0 from.1, from.2);
  }
    where
      decided : DecidesAs j.profile bit (ticked (with_scanned a k n))
      decided =
          decides_alike j.profile (ticked (with_scanned a k n)) after false bit after_is
          (subst (λ (b : Bool). DecidesAs j.profile b after) (sym told)
          (left_decides (scanned_judge j k n bit) after (stands_scanned bit) marks))

-- ---- what a judge tells

module _ (j : Judged) (k n : ℕ) (none : work_refusal j.ground.heap j.phase Marking k ≡ None) where
  marks : is_in j.phase Marking ≡ true
  marks = goes j Marking k none

  -- of a scan of an object that is left
  pub scanned_told : (bit : Bool) → j.may_be_left ≡ true → is_left_in j n ≡ true → IsWellFormed j.ground
      → bit ≡ nat_lt (j.ground.next + (j.scanned + 1) + unmarked_if j.profile.keeps_more j.ground)
      (length j.ground.heap.objects + j.born)
      → TellsOf j (plain_row (plain.Scan k) (replies.Scanned n)) (Ok tt) (scanned_judge j k n bit)
  scanned_told bit said is formed told =
      (refl, refl, λ a stands fits. leads_scanned j k n a stands fits marks none said is formed bit told)

  pub scanned_sound : (bit : Bool) → IsOfSomeState j → j.may_be_left ≡ true → is_left_in j n ≡ true
      → IsWellFormed j.ground
      → bit ≡ nat_lt (j.ground.next + (j.scanned + 1) + unmarked_if j.profile.keeps_more j.ground)
      (length j.ground.heap.objects + j.born)
      → IsOfSomeState (scanned_judge j k n bit)
  scanned_sound bit sound said is formed told =
      let settled = sound.settled in
      sound_told j (scanned_judge j k n bit) (plain_row (plain.Scan k) (replies.Scanned n)) sound
      (scanned_told bit said is formed told)
      (record {
        none_grey = settled.none_grey;
        grey_room = settled.grey_room;
        doomed_room = settled.doomed_room;
        config = settled.config;
        none_to_move = settled.none_to_move;
        none_chosen = settled.none_chosen;
        tuned = settled.tuned;
        colour = settled.colour;
        condemning = settled.condemning;
        may = λ m. or_true bit;
        waits = λ clears. absurd (false≢true (sym (marks_alone j.phase marks).1 ∙ clears));
      })
    where
      or_true : (b : Bool) → (b || true) ≡ true
      or_true true = refl
      or_true false = refl

  -- of a scan of one that isn't, or where none may be left
  pub scanned_none : (j.may_be_left ≡ false) ⊎ (is_left_in j n ≡ false) → (a : State) → StandsFor j a
      → HasNone j (plain_row (plain.Scan k) (replies.Scanned n)) a
  scanned_none refuses a stands s t fits h =
      let parts = scanned_parts j a stands marks s t k n (sym (work_known j a stands Marking k) ∙ none) fits h in
      elim refuses [
        | inl none ↦ false≢true (sym none ∙ parts.0)
        | inr seen ↦ false≢true (sym seen ∙ as_left j a stands marks n parts.1)
      ]

  -- fewer were scanned than there are objects
  pub scanned_few : IsOfSomeState j → is_left_in j n ≡ true → j.scanned + 1 ≤ length j.ground.heap.objects
  scanned_few sound is =
      let a : State = sound.state in
      let stands = sound.stands in
      let facts = legal_facts j.profile j.config a stands.lawful in
      let left = left_as j a stands marks n is in
      let all =
      distinct_fit (n ∷ joined a.scanned) (numbers a.world.heap.objects) (left.2, facts.scanned.once)
      (λ m h. sym (is_there-has a.world.heap.objects m) ∙ each a stands facts left m h) in
      let many = length-map a.world.heap.objects (λ (o : Object). o.no) in
      let count = stands.count marks in
      let same = ap (λ (os : List Object). length os) (objects_same j a stands marks) in
      omega (arith, all, many, count, same)
    where
      each : (a : State) → StandsFor j a → (facts : Facts j.config a) → IsLeftAs j.profile a n → (m : ℕ)
          → has (n ∷ joined a.scanned) m ≡ true → is_there a.world.heap.objects m ≡ true
      each a stands facts left m h =
          elim (or_cases (n == m) (has (joined a.scanned) m) h) [
            | inl own ↦ subst (λ (i : ℕ). is_there a.world.heap.objects i ≡ true) (eqb-true n m own) (there a stands)
            | inr before ↦ facts.scanned.there (in_mark j a stands marks) m before
          ]
        where
          there : (a : State) → StandsFor j a → is_there a.world.heap.objects n ≡ true
          there a stands =
              ap (λ os. is_there os n) (sym (objects_same j a stands marks))
              ∙ (and_parts (is_there j.ground.heap.objects n) (j.profile.keeps_more || has j.ground.marked n)
              (and_parts (is_there j.ground.heap.objects n && (j.profile.keeps_more || has j.ground.marked n))
              (nat_lt n j.born && not (cleared_in_at j.ground.tags n == j.cycle)) is).0).0

-- ---- where none is left

abbrev none_row : ℕ → Row
none_row k = plain_row (plain.Scan k) replies.Nothing

abbrev pub none_left : Judged → Judged
none_left j = record j { may_be_left = false }

module _ (j : Judged) (k : ℕ) (a : State) (stands : StandsFor j a) (fits : AreLawful j a)
    (marks : is_in j.phase Marking ≡ true) (none : work_refusal j.ground.heap j.phase Marking k ≡ None)
    (may_none : j.may_be_none ≡ true) where
  may_scan : plain_refusal a (plain.Scan k) ≡ None
  may_scan = sym (work_known j a stands Marking k) ∙ none

  -- the state a moment later
  abbrev later : State
  later = record a { moments = graph_of a.world ∷ a.moments; left = false }

  later_is : later ≡ saying (ticked a) false
  later_is = let m = in_mark j a stands marks in simp m refl

  from : (t : State) → Fits later false true t
      → (s : State) × Fits a j.may_be_left j.may_be_none s × IsRowAs j.profile s (none_row k) t
  from t fit =
      fits_scan_none_as j.profile a t k j.may_be_left j.may_be_none may_scan may_none
      (back_alike (ticked a) later t false false later_is fit)

  first : (s : State) × Fits a j.may_be_left j.may_be_none s × IsRowAs j.profile s (none_row k) later
  first = from later (false, refl, refl)

  first_lawful : Lawful j.profile j.config first.0
  first_lawful = fits first.0 (fits_mark j marks a first.0 first.1)

  first_stands : StandsFor j first.0
  first_stands =
      subst (StandsFor j) (sym first.1.1)
      (stands_saying j a stands first.1.0 (subst (Lawful j.profile j.config) first.1.1 first_lawful))

  stands_later : StandsFor (none_left j) later
  stands_later = record {
    lawful = lawful_row j.profile j.config first.0 later (none_row k) first_lawful first.2;
    heap = stands.heap;
    next = stands.next;
    holds = stands.holds;
    mutator_hands = stands.mutator_hands;
    worker_hands = stands.worker_hands;
    lines = stands.lines;
    phase = stands.phase;
    cycle = stands.cycle;
    policy = stands.policy;
    born = stands.born;
    count = stands.count;
    chosen = stands.chosen;
    doomed = stands.doomed;
    kept = λ m less. kept_row j first.0 later (none_row k) first_stands tt first.2 m less;
    live = stands.live;
    tags = record { old = stands.tags.old; scanned = stands.tags.scanned; put = stands.tags.put };
    finders = record {
      pending = stands.finders.pending;
      within = stands.finders.within;
      found = stands.finders.found;
      cleared = stands.finders.cleared;
    };
  }

  leads_later : LeadsOn j (none_left j) (none_row k) a
  leads_later = record {
    state = later;
    stands = stands_later;
    on = λ s t fit h.
        let now =
        scan_none_fits_as j.profile a t k j.may_be_left j.may_be_none may_scan s (mark_fits j marks a s fit) h in
        fits_mark (none_left j) marks later t
        (subst (λ (b : Bool). Fits later false b t) (sym may_none)
        (alike (ticked a) later t false false later_is now.1));
    back = λ t fit.
        let before =
        from t (subst (λ (b : Bool). Fits later false b t) may_none (mark_fits (none_left j) marks later t fit)) in
        (before.0, fits_mark j marks a before.0 before.1, before.2);
  }

module _ (j : Judged) (k : ℕ) (none : work_refusal j.ground.heap j.phase Marking k ≡ None) where
  marking_now : is_in j.phase Marking ≡ true
  marking_now = goes j Marking k none

  -- a worker tells that none is left
  pub none_told : j.may_be_none ≡ true → TellsOf j (none_row k) (Ok tt) (none_left j)
  none_told may_none = (refl, refl, λ a stands fits. leads_later j k a stands fits marking_now none may_none)

  pub none_sound : IsOfSomeState j → j.may_be_none ≡ true → IsOfSomeState (none_left j)
  none_sound sound may_none =
      let settled = sound.settled in
      sound_told j (none_left j) (none_row k) sound (none_told may_none)
      (record {
        none_grey = settled.none_grey;
        grey_room = settled.grey_room;
        doomed_room = settled.doomed_room;
        config = settled.config;
        none_to_move = settled.none_to_move;
        none_chosen = settled.none_chosen;
        tuned = settled.tuned;
        colour = settled.colour;
        condemning = settled.condemning;
        may = λ m. may_none;
        waits = settled.waits;
      })

  -- and doesn't, where it may not be said
  pub none_none : j.may_be_none ≡ false → (a : State) → StandsFor j a → HasNone j (none_row k) a
  none_none refuses a stands s t fit h =
      let now =
      scan_none_fits_as j.profile a t k j.may_be_left j.may_be_none (sym (work_known j a stands Marking k) ∙ none) s
      (mark_fits j marking_now a s fit) h in
      false≢true (sym refuses ∙ now.0)

  -- no other answer is one of a scan
  pub others_none : (reply : Reply) → (reply ≡ replies.Nothing → ⊥) → ((n : ℕ) → reply ≡ replies.Scanned n → ⊥)
      → (a : State) → StandsFor j a → HasNone j (plain_row (plain.Scan k) reply) a
  others_none reply no_none no_object a stands s t fit h =
      let free = mark_fits j marking_now a s fit in
      let passes : plain_refusal s (plain.Scan k) ≡ None =
      subst (λ (u : State). plain_refusal u (plain.Scan k) ≡ None) (sym free.1)
      (sym (work_known j a stands Marking k) ∙ none) in
      elim (scan_answers_as j.profile s t k reply passes h) [
        | inl nothing ↦ no_none nothing
        | inr object ↦ no_object object.0 object.1
      ]
