-- What a judge looks at as a mark ends is what the mark's end asks: that no root is doomed, that nothing which must be
-- kept leads from outside into the doomed, that what is cleared was scanned, and how many are doomed.
use Rattle.ref_base.proofs.Common.{arith, ◌≡◌, ℕ, ◌+◌, ◌≤◌, ◌==◌, ◌||◌, ◌&&◌, Bool, true, false, not, nat_lt, List, []}
use Rattle.ref_base.proofs.Common.{◌∷◌, ◌++◌, map, length, Option, Some, None, refl, sym, ap, ◌∙◌, subst, inl, inr}
use Rattle.ref_base.proofs.Common.{cases_Bool, or_cases, and_parts, false≢true, true≢false, eqb-true, has, joined}
use Rattle.ref_base.proofs.Common.{Object}
use Rattle.ref_base.proofs.Common.{Reference, Heap, is_there, numbers, object_at, reference_at, reference_in, State}
use Rattle.ref_base.proofs.Common.{graph_of, is_in, doomed_at, new_clears, refers_into, any_is, present, targets_at}
use Rattle.ref_base.proofs.Common.{pending_numbers, Notice, Pending, in_hands, in_queues, tally, Lists, is_kept}
use Rattle.ref_base.proofs.Common.{IsRising}
use Rattle.std.specs.List.{list_all}
use Rattle.std.proofs.lemmas.List.Folds.{list_all-append}
use Rattle.ref_base.specs.CountedHolds.{reported}
use Rattle.ref_base.specs.DoomedSets.{unscanned}
use Rattle.ref_base.specs.Paths.{any_referent, allowed_referent, if_any, targets_of}
use Rattle.ref_base.specs.Worlds.{object_of}
use Rattle.ref_base.specs.declared.phase.Phase.{Phase}
use Rattle.ref_base.specs.declared.phase.Phase.TheVariants.{Marking}
use Rattle.ref_base.specs.declared.policy.Policy.{Policy}
use Rattle.ref_base.proofs.DoomExact.{OffRoots}
use Rattle.ref_base.proofs.HasLaws.{has-append, has-cases, has-left, has-right}
use Rattle.ref_base.proofs.HoldCounts.{tally-has}
use Rattle.ref_base.proofs.LeftCounts.{left_among}
use Rattle.ref_base.proofs.Lookups.{is_there-has}
use Rattle.ref_base.proofs.MarkEndRows.{AllScanned, all_scanned, scanned_all}
use Rattle.ref_base.proofs.NewClears.{has-new_clears}
use Rattle.ref_space.specs.Tables.{fields_in}
use Rattle.ref_objects.specs.Grounds.{Ground, cleared_in_at, IsWellFormed}
use Rattle.std.specs.Prelude.{◌^◌}
use Rattle.ref_judge.specs.Judged.{Judged, Line, Finder, AreHands, AreLines, is_judging, is_behind_mark}
use Rattle.std.proofs.lemmas.List.{length-map}
use Rattle.std.proofs.lemmas.Bool.{eq-eqb}
use Rattle.std.specs.Prelude.{if◌then◌else◌}
use Rattle.ref_judge.specs.KeptBounds.{must_keep}
use Rattle.ref_judge.specs.MarkEnding.{spares, dooms, passes, must_stay, leads_out, mark_end, are_roots_spared, may_end}
use Rattle.ref_judge.specs.MarkEnding.{AreFew}
use Rattle.ref_judge.specs.Standing.{StandsFor}
use Rattle.ref_judge.specs.declared.hand.Hand.{Hand}
use Rattle.ref_judge.specs.declared.profile.Profile.{Profile}
use Rattle.ref_judge.proofs.EndingRows.{IsOff, OffEdgesBy}
use Rattle.ref_judge.proofs.RootsJudged.{held_reported}
use Rattle.ref_judge.proofs.LeftJudged.{marking_objects, left_counts}
use Rattle.ref_judge.proofs.LegalFacts.{Facts, legal_facts}
use Rattle.ref_judge.proofs.MarkRuns.{lawful_rising, lawful_all_there}
use Rattle.ref_judge.proofs.MemberCounts.{rising_distinct}

-- ---- lists of which each passes

-- each of these passes exactly where all do
pub all_pass : (test : ℕ → Bool) (ns : List ℕ) → list_all test ns ≡ true → (n : ℕ) → has ns n ≡ true
    → test n ≡ true
all_pass test [] all n h = absurd (false≢true h)
all_pass test (m ∷ ns) all n h =
    let parts = and_parts (test m) (list_all test ns) all in
    elim (or_cases (m == n) (has ns n) h) [
      | inl here ↦ subst (λ (k : ℕ). test k ≡ true) (eqb-true m n here) parts.0
      | inr later ↦ all_pass test ns parts.1 n later
    ]

pub pass_all : (test : ℕ → Bool) (ns : List ℕ) → ((n : ℕ) → has ns n ≡ true → test n ≡ true)
    → list_all test ns ≡ true
pass_all test [] each = refl
pass_all test (n ∷ ns) each =
    let own : test n ≡ true = each n (grind arith) in
    simp own (pass_all test ns (λ m h. each m (grind arith)))

passes-present : (test : ℕ → Bool) (vs : List (Option ℕ)) → list_all (passes test) vs ≡ list_all test (present vs)
passes-present test [] = refl
passes-present test (None ∷ vs) = passes-present test vs
passes-present test (Some n ∷ vs) = ap (λ b. test n && b) (passes-present test vs)

-- two bits of which each says the other
alike : (x y : Bool) → (x ≡ true → y ≡ true) → (y ≡ true → x ≡ true) → x ≡ y
alike true y to from = sym (to refl)
alike false true to from = from refl
alike false false to from = refl

has-tally : (ns : List ℕ) (n : ℕ) → has ns n ≡ true → 1 ≤ tally ns n
has-tally [] n h = absurd (false≢true h)
has-tally (m ∷ ns) n h = grind (arith, has-tally ns n)

-- what hands, queues and pending lists have passes
hands_pass : (test : ℕ → Bool) (hands : List Hand) (of : List (List Notice)) → AreHands hands of
    → list_all (λ (h : Hand). list_all test h.objects) hands ≡ list_all test (in_hands of)
hands_pass test [] [] are = refl
hands_pass test [] (notices ∷ of) are = absurd are
hands_pass test (hand ∷ hands) [] are = absurd are
hands_pass test (hand ∷ hands) (notices ∷ of) are =
    rw (list_all-append test (map object_of notices) (in_hands of), are.0.0, hands_pass test hands of are.1) refl

lines_pass : (test : ℕ → Bool) (lines : List Line) (qs : List (Lists Notice)) → AreLines lines qs
    → list_all (λ (l : Line). list_all test l.stands) lines ≡ list_all test (in_queues qs)
lines_pass test [] [] are = refl
lines_pass test [] (q ∷ qs) are = absurd are
lines_pass test (line ∷ lines) [] are = absurd are
lines_pass test (line ∷ lines) (q ∷ qs) are =
    rw (list_all-append test (map object_of q.stands) (in_queues qs), are.0.stands, lines_pass test lines qs are.1) refl

one_pending : (test : ℕ → Bool) (ps : List Pending)
    → list_all (λ (p : Pending). test p.object) ps ≡ list_all test (map (λ p. p.object) ps)
one_pending test [] = refl
one_pending test (p ∷ ps) = ap (λ b. test p.object && b) (one_pending test ps)

pending_pass : (test : ℕ → Bool) (workers : List Finder)
    → list_all (λ (w : Finder). list_all (λ (p : Pending). test p.object) w.pending) workers
    ≡ list_all test (pending_numbers (map (λ (w : Finder). w.pending) workers))
pending_pass test [] = refl
pending_pass test (w ∷ workers) =
    rw (
      list_all-append test (map (λ p. p.object) w.pending)
          (pending_numbers (map (λ (v : Finder). v.pending) workers)),
      one_pending test w.pending,
      pending_pass test workers,
    ) refl

-- ---- what is doomed

pub has-unscanned : (os : List Object) (born : ℕ) (scanned : List ℕ) (n : ℕ)
    → has (unscanned os born scanned) n ≡ (is_there os n && (nat_lt n born && not (has scanned n)))
has-unscanned [] born scanned n = refl
has-unscanned (o ∷ os) born scanned n = grind (arith, has-unscanned os born scanned n)

left-unscanned : (os : List Object) (born : ℕ) (scanned : List ℕ)
    → left_among born scanned (numbers os) ≡ unscanned os born scanned
left-unscanned [] born scanned = refl
left-unscanned (o ∷ os) born scanned =
    elim (cases_Bool (nat_lt o.no born && not (has scanned o.no))) [
      | inl is ↦ simp is (ap (λ ns. o.no ∷ ns) (left-unscanned os born scanned))
      | inr other ↦ simp other (left-unscanned os born scanned)
    ]

-- what must be kept is led to
target_wide : (p : Profile) (policy : Policy) (o : Option Object) (n : ℕ)
    → has (targets_of (must_keep p policy) o) n ≡ true → has (targets_of any_referent o) n ≡ true
target_wide p policy None n target = target
target_wide p policy (Some o) n target =
    elim (has-cases (present o.fields) (allowed_referent (must_keep p policy) o.reference) n target) [
      | inl field ↦ has-left (present o.fields) (allowed_referent any_referent o.reference) n field
      | inr kept ↦
          has-right (present o.fields) (allowed_referent any_referent o.reference) n (wide o.reference kept)
    ]
  where
    wide : (r : Option Reference) → has (allowed_referent (must_keep p policy) r) n ≡ true
        → has (allowed_referent any_referent r) n ≡ true
    wide None kept = kept
    wide (Some r) kept =
        elim (cases_Bool (must_keep p policy r)) [
          | inl must ↦ simp must at kept
          | inr free ↦ absurd (false≢true (simp free at kept))
        ]

module _ (j : Judged) (a : State) (stands : StandsFor j a) (marks : is_in j.phase Marking ≡ true) where
  abbrev pub os : List Object
  os = a.world.heap.objects

  abbrev pub spared : ℕ → Bool
  spared = spares (mark_end j) j.ground.tags

  facts : Facts j.config a
  facts = legal_facts j.profile j.config a stands.lawful

  pub rising : IsRising (numbers os)
  rising = lawful_rising j.profile j.config a stands.lawful

  pub objects_same : j.ground.heap.objects ≡ os
  objects_same = marking_objects j a stands marks

  slots_same : j.ground.heap.slots ≡ a.world.heap.slots
  slots_same = ap (λ (h : Heap). h.slots) stands.heap

  pub in_mark : is_in a.world.phase Marking ≡ true
  in_mark = ap (λ p. is_in p Marking) (sym stands.phase) ∙ marks

  pub not_past : is_behind_mark a.world.phase ≡ false
  not_past = past_marking a.world.phase in_mark
    where
      past_marking : (p : Phase) → is_in p Marking ≡ true → is_behind_mark p ≡ false
      past_marking Marking is = refl
      past_marking p is = absurd (false≢true is)

  pub judging : is_judging j.phase ≡ true
  judging = simp marks refl

  -- an object is doomed exactly where it isn't spared
  pub doomed_is : (n : ℕ) → is_there os n ≡ true → has (doomed_at a) n ≡ not (spared n)
  doomed_is n there =
      let tag = stands.tags.scanned judging n there in
      has-unscanned os a.born (joined a.scanned) n
      ∙ rw (there, sym tag, sym stands.born) (both (nat_lt n j.born) (cleared_in_at j.ground.tags n == j.cycle))
    where
      both : (old seen : Bool) → (old && not seen) ≡ not (not old || seen)
      both true true = refl
      both true false = refl
      both false true = refl
      both false false = refl

  pub spared_out : (n : ℕ) → is_there os n ≡ true → spared n ≡ true → has (doomed_at a) n ≡ false
  spared_out n there is = doomed_is n there ∙ ap not is

  pub out_spared : (n : ℕ) → is_there os n ≡ true → has (doomed_at a) n ≡ false → spared n ≡ true
  out_spared n there out = isnt (spared n) (sym (doomed_is n there) ∙ out)
    where
      isnt : (b : Bool) → not b ≡ false → b ≡ true
      isnt true is = refl
      isnt false is = absurd (true≢false is)

  -- ---- roots

  abbrev roots_read : List ℕ
  roots_read = present a.world.heap.slots ++ reported a.world ++ pending_numbers a.world.pending

  roots_tested : are_roots_spared j ≡ list_all spared roots_read
  roots_tested =
      let w = a.world in
      rw (
        slots_same,
        passes-present spared w.heap.slots,
        hands_pass spared j.hands.mutators w.mutator_hands stands.mutator_hands,
        hands_pass spared j.hands.workers w.worker_hands stands.worker_hands,
        lines_pass spared j.lines w.queues stands.lines,
        pending_pass spared j.workers,
        stands.finders.pending,
      )
      (regrouped (list_all spared (present w.heap.slots)) (list_all spared (in_hands w.mutator_hands))
      (list_all spared (in_hands w.worker_hands)) (list_all spared (in_queues w.queues))
      (list_all spared (pending_numbers w.pending))
      ∙ sym (all_read (present w.heap.slots) (in_hands w.mutator_hands) (in_hands w.worker_hands) (in_queues w.queues)
      (pending_numbers w.pending)))
    where
      regrouped : (p m k l q : Bool) → (p && ((m && k) && (l && q))) ≡ (p && ((m && (k && l)) && q))
      regrouped p m k l q = grind arith

      all_read : (ps ms ks ls qs : List ℕ) → list_all spared (ps ++ (ms ++ ks ++ ls) ++ qs)
          ≡ (list_all spared ps && ((list_all spared ms && (list_all spared ks && list_all spared ls))
          && list_all spared qs))
      all_read ps ms ks ls qs = grind (arith, list_all-append)

  holds_same : (n : ℕ) → has a.world.heap.holds n ≡ has (reported a.world) n
  holds_same n =
      alike (has a.world.heap.holds n) (has (reported a.world) n)
      (held_reported j.profile j.config a stands.lawful n)
      (λ h.
      let own = has-tally (reported a.world) n h in
      let counted = facts.notices.counted n in
      tally-has a.world.heap.holds n (omega (arith, own, counted)))

  roots_same : (n : ℕ) → has roots_read n ≡ has (graph_of a.world).roots n
  roots_same n = grind (arith, has-append, holds_same n)

  -- no root is doomed exactly where all roots are spared
  pub roots_off : are_roots_spared j ≡ true → OffRoots (graph_of a.world) (doomed_at a)
  roots_off is n there root =
      spared_out n there (all_pass spared roots_read (sym roots_tested ∙ is) n (roots_same n ∙ root))

  pub off_roots : OffRoots (graph_of a.world) (doomed_at a) → are_roots_spared j ≡ true
  off_roots off =
      roots_tested ∙ pass_all spared roots_read (λ n h.
      let root = sym (roots_same n) ∙ h in
      let there = (facts.names.roots n root).0 in
      out_spared n there (off n there root))

  -- ---- edges

  abbrev leads : ℕ → Bool
  leads = leads_out (mark_end j) j.ground

  read_same : (n : ℕ) → object_at j.ground.heap.objects n ≡ object_at os n
  read_same n = ap (λ ps. object_at ps n) objects_same

  must_same : (r : Reference) → must_keep j.profile a.world.policy r ≡ (not j.profile.soft_free && is_kept j.policy r)
  must_same r = rw (stands.policy) (of_free j.profile.soft_free)
    where
      of_free : (free : Bool) → (if free then (λ (x : Reference). false) else is_kept a.world.policy) r
          ≡ (not free && is_kept a.world.policy r)
      of_free true = refl
      of_free false = refl

  -- what is spared leads nowhere, where the test says so
  leads_none : list_all (λ n. not (spared n) || not (leads n)) (numbers j.ground.heap.objects) ≡ true → (n : ℕ)
      → is_there os n ≡ true → spared n ≡ true → leads n ≡ false
  leads_none is n there own =
      let at : has (numbers j.ground.heap.objects) n ≡ true =
      ap (λ ps. has (numbers ps) n) objects_same ∙ sym (is_there-has os n) ∙ there in
      let either = all_pass (λ k. not (spared k) || not (leads k)) (numbers j.ground.heap.objects) is n at in
      isnt (leads n) (simp own at either)
    where
      isnt : (b : Bool) → not b ≡ true → b ≡ false
      isnt true is = absurd (false≢true is)
      isnt false is = refl

  -- it leads nowhere by fields, nor as a reference
  abbrev fields_pass : ℕ → Type 0
  fields_pass n = list_all (passes spared) (fields_in (object_at os n)) ≡ true

  abbrev clears_right : ℕ → Type 0
  clears_right n =
      refers_into (dooms (mark_end j) j.ground.tags) (reference_at a.world.heap n) ≡ true
      → (must_stay (mark_end j) (reference_at a.world.heap n) ≡ false)
      × ((cleared_in_at j.ground.tags n == j.cycle) ≡ true)

  leads_parts : (n : ℕ) → leads n ≡ false → fields_pass n × clears_right n
  leads_parts n is =
      of_bits (list_all (passes spared) (fields_in (object_at os n)))
      (refers_into (dooms (mark_end j) j.ground.tags) (reference_at a.world.heap n))
      (must_stay (mark_end j) (reference_at a.world.heap n)) (cleared_in_at j.ground.tags n == j.cycle)
      (leads_same n is)
    where
      leads_same : (n : ℕ) → leads n ≡ false
          → (not (list_all (passes spared) (fields_in (object_at os n)))
          || (refers_into (dooms (mark_end j) j.ground.tags) (reference_at a.world.heap n)
          && (must_stay (mark_end j) (reference_at a.world.heap n)
          || not (cleared_in_at j.ground.tags n == j.cycle)))) ≡ false
      leads_same n is =
          subst (λ (ps : List Object).
          (not (list_all (passes spared) (fields_in (object_at ps n)))
          || (refers_into (dooms (mark_end j) j.ground.tags) (reference_in (object_at ps n))
          && (must_stay (mark_end j) (reference_in (object_at ps n))
          || not (cleared_in_at j.ground.tags n == j.cycle)))) ≡ false) objects_same is

      of_bits : (f r m s : Bool) → (not f || (r && (m || not s))) ≡ false
          → (f ≡ true) × (r ≡ true → (m ≡ false) × (s ≡ true))
      of_bits false r m s is = absurd (true≢false is)
      of_bits true true true s is = absurd (true≢false is)
      of_bits true true false true is = (refl, λ _. (refl, refl))
      of_bits true true false false is = absurd (true≢false is)
      of_bits true false m s is = (refl, λ no. absurd (false≢true no))

  parts_lead : (n : ℕ) → fields_pass n → clears_right n → leads n ≡ false
  parts_lead n fields clears =
      subst (λ (ps : List Object).
      (not (list_all (passes spared) (fields_in (object_at ps n)))
      || (refers_into (dooms (mark_end j) j.ground.tags) (reference_in (object_at ps n))
      && (must_stay (mark_end j) (reference_in (object_at ps n))
      || not (cleared_in_at j.ground.tags n == j.cycle)))) ≡ false) (sym objects_same)
      (of_bits (list_all (passes spared) (fields_in (object_at os n)))
      (refers_into (dooms (mark_end j) j.ground.tags) (reference_at a.world.heap n))
      (must_stay (mark_end j) (reference_at a.world.heap n)) (cleared_in_at j.ground.tags n == j.cycle) fields clears)
    where
      of_bits : (f r m s : Bool) → f ≡ true → (r ≡ true → (m ≡ false) × (s ≡ true))
          → (not f || (r && (m || not s))) ≡ false
      of_bits false r m s f clears = absurd (false≢true f)
      of_bits true true m s f clears =
          let both = clears refl in simp (both.0, both.1) refl
      of_bits true false m s f clears = refl

  -- what an object leads to is there
  pub target_there : (m n : ℕ) → is_there os m ≡ true → has (targets_at any_referent os m) n ≡ true
      → is_there os n ≡ true
  target_there m n there target =
      (facts.names.targets m n there (ap (λ d. has d m) (facts.names.none_doomed not_past)) target).0

  isnt : (b : Bool) → not b ≡ true → b ≡ false
  isnt true is = absurd (false≢true is)
  isnt false is = refl

  -- a referent that must be kept is spared, where such a reference is never cleared
  referent_spared : (r : Option Reference) (n : ℕ)
      → (refers_into (dooms (mark_end j) j.ground.tags) r ≡ true → must_stay (mark_end j) r ≡ false)
      → has (allowed_referent (must_keep j.profile a.world.policy) r) n ≡ true → spared n ≡ true
  referent_spared None n stays kept = absurd (false≢true kept)
  referent_spared (Some r) n stays kept =
      elim (cases_Bool (must_keep j.profile a.world.policy r)) [
        | inl must ↦ of_referent must r.referent refl (simp must at kept)
        | inr free ↦ absurd (false≢true (simp free at kept))
      ]
    where
      of_referent : must_keep j.profile a.world.policy r ≡ true → (value : Option ℕ) → r.referent ≡ value
          → has (if_any value) n ≡ true → spared n ≡ true
      of_referent must None is h = absurd (false≢true h)
      of_referent must (Some m) is h =
          elim (or_cases (m == n) false h) [
            | inl same ↦
                elim (cases_Bool (spared m)) [
                  | inl own ↦ subst (λ (k : ℕ). spared k ≡ true) (eqb-true m n same) own
                  | inr doomed ↦
                      let refers : any_is (dooms (mark_end j) j.ground.tags) r.referent ≡ true =
                      ap (λ v. any_is (dooms (mark_end j) j.ground.tags) v) is ∙ ap not doomed in
                      absurd (false≢true (sym (stays refers) ∙ sym (must_same r) ∙ must))
                ]
            | inr none ↦ absurd (false≢true none)
          ]

  -- what refers to a doomed object, refers to one that isn't spared
  doomed_refers : (r : Option Reference) → refers_into (has (doomed_at a)) r ≡ true
      → refers_into (dooms (mark_end j) j.ground.tags) r ≡ true
  doomed_refers None refers = absurd (false≢true refers)
  doomed_refers (Some r) refers = of_referent r.referent refers
    where
      of_referent : (value : Option ℕ) → any_is (has (doomed_at a)) value ≡ true
          → any_is (dooms (mark_end j) j.ground.tags) value ≡ true
      of_referent None refers = absurd (false≢true refers)
      of_referent (Some m) refers =
          let there =
          (and_parts (is_there os m) _ (sym (has-unscanned os a.born (joined a.scanned) m) ∙ refers)).0 in
          sym (doomed_is m there) ∙ refers

  -- and back, of what is there
  refers_doomed : (r : Option Reference)
      → ((m : ℕ) → has (allowed_referent any_referent r) m ≡ true → is_there os m ≡ true)
      → refers_into (dooms (mark_end j) j.ground.tags) r ≡ true → refers_into (has (doomed_at a)) r ≡ true
  refers_doomed None there refers = absurd (false≢true refers)
  refers_doomed (Some r) there refers = of_referent r.referent there refers
    where
      of_referent : (value : Option ℕ) → ((m : ℕ) → has (if_any value) m ≡ true → is_there os m ≡ true)
          → any_is (dooms (mark_end j) j.ground.tags) value ≡ true → any_is (has (doomed_at a)) value ≡ true
      of_referent None there refers = absurd (false≢true refers)
      of_referent (Some m) there refers = doomed_is m (there m (grind arith)) ∙ refers

  -- what a reference refers to is there
  pub referents : (n m : ℕ) → is_there os n ≡ true
      → has (allowed_referent any_referent (reference_at a.world.heap n)) m ≡ true → is_there os m ≡ true
  referents n m there h = target_there n m there (of_object (object_at os n) h)
    where
      of_object : (o : Option Object) → has (allowed_referent any_referent (reference_in o)) m ≡ true
          → has (targets_of any_referent o) m ≡ true
      of_object None h = h
      of_object (Some o) h = has-right (present o.fields) (allowed_referent any_referent o.reference) m h

  -- so it refers to a doomed object exactly where that isn't spared
  pub refers_same : (n : ℕ) → is_there os n ≡ true
      → refers_into (has (doomed_at a)) (reference_at a.world.heap n)
      ≡ refers_into (dooms (mark_end j) j.ground.tags) (reference_at a.world.heap n)
  refers_same n there =
      alike (refers_into (has (doomed_at a)) (reference_at a.world.heap n))
      (refers_into (dooms (mark_end j) j.ground.tags) (reference_at a.world.heap n))
      (doomed_refers (reference_at a.world.heap n))
      (refers_doomed (reference_at a.world.heap n) (λ m h. referents n m there h))

  pub edges_off : list_all (λ n. not (spared n) || not (leads n)) (numbers j.ground.heap.objects) ≡ true
      → OffEdgesBy (must_keep j.profile a.world.policy) (graph_of a.world) (doomed_at a) × AllScanned a
  edges_off is = (off, all_scanned a rising scanned)
    where
      off : OffEdgesBy (must_keep j.profile a.world.policy) (graph_of a.world) (doomed_at a)
      off m n there outside target =
          let parts = leads_parts m (leads_none is m there (out_spared m there outside)) in
          spared_out n (target_there m n there (target_wide j.profile a.world.policy (object_at os m) n target))
          (kept_spared (object_at os m) n parts.0 parts.1 target)
        where
          kept_spared : (o : Option Object) (n : ℕ) → list_all (passes spared) (fields_in o) ≡ true
              → (refers_into (dooms (mark_end j) j.ground.tags) (reference_in o) ≡ true
              → (must_stay (mark_end j) (reference_in o) ≡ false)
              × ((cleared_in_at j.ground.tags m == j.cycle) ≡ true))
              → has (targets_of (must_keep j.profile a.world.policy) o) n ≡ true → spared n ≡ true
          kept_spared None n fields clears target = absurd (false≢true target)
          kept_spared (Some o) n fields clears target =
              elim (has-cases (present o.fields) (allowed_referent (must_keep j.profile a.world.policy) o.reference) n
              target) [
                | inl field ↦ all_pass spared (present o.fields) (sym (passes-present spared o.fields) ∙ fields) n field
                | inr kept ↦ referent_spared o.reference n (λ refers. (clears refers).0) kept
              ]

      scanned : (n : ℕ) → has (new_clears os (doomed_at a)) n ≡ true → has (joined a.scanned) n ≡ true
      scanned n clear =
          let parts = and_parts (is_there os n) _ (sym (has-new_clears os (doomed_at a) n rising) ∙ clear) in
          let refers = and_parts (not (has (doomed_at a) n)) _ parts.1 in
          let own = out_spared n parts.0 (isnt (has (doomed_at a) n) refers.0) in
          let clears = (leads_parts n (leads_none is n parts.0 own)).1 in
          sym (stands.tags.scanned judging n parts.0)
          ∙ (clears (doomed_refers (reference_at a.world.heap n) refers.1)).1

  pub off_edges : OffEdgesBy (must_keep j.profile a.world.policy) (graph_of a.world) (doomed_at a) → AllScanned a
      → list_all (λ n. not (spared n) || not (leads n)) (numbers j.ground.heap.objects) ≡ true
  off_edges off scanned =
      pass_all (λ k. not (spared k) || not (leads k)) (numbers j.ground.heap.objects) (λ n h.
      let there : is_there os n ≡ true =
      is_there-has os n ∙ ap (λ ps. has (numbers ps) n) (sym objects_same) ∙ h in
      elim (cases_Bool (spared n)) [
        | inl own ↦
            let none = parts_lead n (fields n there own) (clears n there own) in
            simp (own, none) refl
        | inr doomed ↦ simp doomed refl
      ])
    where
      fields : (n : ℕ) → is_there os n ≡ true → spared n ≡ true → fields_pass n
      fields n there own = all_fields (object_at os n) refl
        where
          all_fields : (o : Option Object) → object_at os n ≡ o → list_all (passes spared) (fields_in o) ≡ true
          all_fields None is = refl
          all_fields (Some o) is =
              passes-present spared o.fields ∙ pass_all spared (present o.fields) (λ m h.
              let target : has (targets_at (must_keep j.profile a.world.policy) os n) m ≡ true =
              ap (λ x. has (targets_of (must_keep j.profile a.world.policy) x) m) is
              ∙ has-left (present o.fields) (allowed_referent (must_keep j.profile a.world.policy) o.reference) m h in
              out_spared m
              (target_there n m there (target_wide j.profile a.world.policy (object_at os n) m target))
              (off n m there (spared_out n there own) target))

      stays : (n : ℕ) → is_there os n ≡ true → spared n ≡ true
          → refers_into (dooms (mark_end j) j.ground.tags) (reference_at a.world.heap n) ≡ true
          → must_stay (mark_end j) (reference_at a.world.heap n) ≡ false
      stays n there own refers = of_object (object_at os n) refl refers
        where
          leads_into : (o : Object) → object_at os n ≡ Some o → (r : Reference) → o.reference ≡ Some r → (m : ℕ)
              → r.referent ≡ Some m → must_keep j.profile a.world.policy r ≡ true → spared m ≡ true
          leads_into o is r ref m held must =
              let target : has (targets_at (must_keep j.profile a.world.policy) os n) m ≡ true =
              ap (λ x. has (targets_of (must_keep j.profile a.world.policy) x) m) is
              ∙ has-right (present o.fields) (allowed_referent (must_keep j.profile a.world.policy) o.reference) m
              (ap (λ x. has (allowed_referent (must_keep j.profile a.world.policy) x) m) ref
              ∙ ap (λ b. has (if b then if_any r.referent else []) m) must ∙ ap (λ v. has (if_any v) m) held
              ∙ grind arith) in
              out_spared m
              (target_there n m there (target_wide j.profile a.world.policy (object_at os n) m target))
              (off n m there (spared_out n there own) target)

          of_object : (o : Option Object) → object_at os n ≡ o
              → refers_into (dooms (mark_end j) j.ground.tags) (reference_in o) ≡ true
              → must_stay (mark_end j) (reference_in o) ≡ false
          of_object None is refers = refl
          of_object (Some o) is refers = of_reference o.reference refl refers
            where
              of_reference : (r : Option Reference) → o.reference ≡ r
                  → refers_into (dooms (mark_end j) j.ground.tags) r ≡ true → must_stay (mark_end j) r ≡ false
              of_reference None ref refers = refl
              of_reference (Some r) ref refers = of_referent r.referent refl refers
                where
                  of_referent : (value : Option ℕ) → r.referent ≡ value
                      → any_is (dooms (mark_end j) j.ground.tags) value ≡ true
                      → must_stay (mark_end j) (Some r) ≡ false
                  of_referent None held refers = absurd (false≢true refers)
                  of_referent (Some m) held refers =
                      elim (cases_Bool (must_keep j.profile a.world.policy r)) [
                        | inl must ↦
                            absurd (false≢true (ap not (sym (leads_into o is r ref m held must)) ∙ refers))
                        | inr free ↦ sym (must_same r) ∙ free
                      ]

      clears : (n : ℕ) → is_there os n ≡ true → spared n ≡ true → clears_right n
      clears n there own refers =
          let doomed = refers_doomed (reference_at a.world.heap n) (λ m h. referents n m there h) refers in (
            stays n there own refers,
            stands.tags.scanned judging n there
                ∙ scanned_all a scanned n (has-new_clears os (doomed_at a) n rising
                ∙ (let out = spared_out n there own in simp (there, out, doomed) refl)),
          )

  -- ---- how many

  pub many : length os + j.born ≡ j.ground.next + j.scanned + length (doomed_at a)
  many =
      let there = lawful_all_there j.profile j.config a stands.lawful in_mark in
      let counts =
      left_counts a.born a.next (joined a.scanned) (numbers os) facts.scanned.old
      (λ n h. sym (is_there-has os n) ∙ facts.scanned.there in_mark n h)
      (λ n least most. sym (is_there-has os n) ∙ there.1 n least most)
      (λ n h. facts.numbers.below n (is_there-has os n ∙ h)) facts.numbers.born facts.scanned.once
      (rising_distinct (numbers os) rising) in
      let doomed : length (left_among a.born (joined a.scanned) (numbers os)) ≡ length (doomed_at a) =
      ap length (left-unscanned os a.born (joined a.scanned)) in
      let long : length (numbers os) ≡ length os = length-map os (λ (o : Object). o.no) in
      let next = stands.next in
      let born = stands.born in
      let count = stands.count marks in
      omega (arith, counts, doomed, long, next, born, count)

  -- ---- all

  pub ends_so : (count : ℕ) → may_end j count ≡ true
      → (count ≡ length (doomed_at a)) × IsOff j.profile a (doomed_at a) × AllScanned a
  ends_so count is =
      let parts = and_parts _ _ is in
      let later = and_parts _ _ parts.1 in
      let edges = edges_off later.1 in
      let same = eqb-true (count + j.ground.next + j.scanned) (length j.ground.heap.objects + j.born) parts.0 in
      let objects = ap (λ (ps : List Object). length ps) objects_same in
      let all = many in
      (omega (arith, same, objects, all), (roots_off later.0, edges.0), edges.1)

  pub so_ends : (count : ℕ) → count ≡ length (doomed_at a) → IsOff j.profile a (doomed_at a) → AllScanned a
      → may_end j count ≡ true
  so_ends count is off scanned =
      let objects = ap (λ (ps : List Object). length ps) objects_same in
      let all = many in
      let same : (count + j.ground.next + j.scanned == length j.ground.heap.objects + j.born) ≡ true =
      eq-eqb (count + j.ground.next + j.scanned) (length j.ground.heap.objects + j.born)
      (omega (arith, is, objects, all)) in
      let roots = off_roots off.0 in
      let edges = off_edges off.1 scanned in
      simp (same, roots, edges) refl

-- the numbers of a heap are few
pub few_of : (g : Ground) → IsWellFormed g → g.next ≤ 2 ^ 32 → AreFew g
few_of g well most = record {
  rising = well.orderly.rising;
  few = λ n h.
      let below = well.orderly.below n (is_there-has g.heap.objects n ∙ h) in omega (arith, below, most);
}
