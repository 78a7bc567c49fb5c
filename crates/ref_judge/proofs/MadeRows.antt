-- A judge after a row that makes an object: it stands for the state that the row leaves.
use Rattle.ref_base.proofs.Common.{arith, ◌≡◌, ℕ, ◌+◌, ◌*◌, ◌<◌, Bool, true, false, ◌||◌, ◌==◌, refl, sym, ap, ◌∙◌}
use Rattle.ref_base.proofs.Common.{subst, zero, suc, List, [], ◌∷◌, length, Option, None, inl, inr, has, cases_Bool}
use Rattle.ref_base.proofs.Common.{or_left, or_right, or_cases, Object, is_there, Heap, made, Graph, State, ticked}
use Rattle.ref_base.proofs.Common.{is_in, joined, with_heap, IsRow, and_parts, nat_lt, eq-eqb, eqb-true, false≢true}
use Rattle.ref_base.proofs.Common.{slot_at, nulls, plain_object, new_reference}
use Rattle.std.specs.Prelude.{◌≤◌, Ok}
use Rattle.ref_base.specs.CollectorRows.{list_at}
use Rattle.ref_base.specs.declared.fault.Fault.TheVariants.{NoSuchActor}
use Rattle.ref_base.specs.declared.strength.Strength.{Strength}
use Rattle.ref_base.specs.Refusals.{has_slot, has_slots, plain_refusal, new_refusal, refer_refusal}
use Rattle.ref_base.specs.QueueLists.{enqueued}
use Rattle.ref_base.specs.Worlds.{queue_at, object_of}
use Rattle.ref_base.specs.declared.phase.Phase.{Phase}
use Rattle.ref_base.specs.declared.phase.Phase.TheVariants.{Idle, Marking, Clearing, Sweeping, Moving}
use Rattle.ref_base.specs.declared.plain_step.PlainStep.{PlainStep}
use Rattle.ref_base.specs.declared.plain_step.PlainStep.TheVariants as plain
use Rattle.ref_base.specs.declared.reply.Reply.{Reply}
use Rattle.ref_base.specs.declared.reply.Reply.TheVariants as replies
use Rattle.ref_base.specs.declared.row.Row.{Row}
use Rattle.ref_base.specs.declared.step.Step.TheVariants.{Plain}
use Rattle.ref_base.proofs.EverRows.{WithNext}
use Rattle.ref_base.proofs.EverWorlds.{Knows}
use Rattle.ref_base.proofs.HasLaws.{has-left, has-right}
use Rattle.ref_base.proofs.LegalMarks.{slot_within}
use Rattle.ref_base.proofs.RowForms.{unless_passes}
use Rattle.ref_base.proofs.PlainRows.{plain_row, accepted_plain}
use Rattle.ref_objects.specs.Grounds.{Ground, with_new_object, IsWellFormed}
use Rattle.ref_judge.specs.Judged.{has_one_answer, Judged, is_behind_mark, is_going, is_judging}
use Rattle.ref_judge.specs.MadeGrounds.{kept_made}
use Rattle.ref_judge.specs.Policies.{profiled}
use Rattle.ref_judge.specs.ProfiledRows.{IsRowAs}
use Rattle.ref_judge.specs.Standing.{StandsFor, TagsTell, FindersTell, MarksLive, DoesAs, LeadsOne, IsSettled}
use Rattle.ref_judge.specs.Standing.{IsOfSomeState, is_anew}
use Rattle.ref_judge.proofs.BegunCycles.{lawful_begun}
use Rattle.ref_judge.proofs.KnownGains.{known_new_as, known_refer_as}
use Rattle.ref_judge.proofs.KnownJudges.{known_alike, marks_of}
use Rattle.ref_judge.proofs.LegalFacts.{Facts, legal_facts, lawful_row}
use Rattle.ref_judge.proofs.MadeGrounds.{has_made, made_marks, cleared_in_new, link_new, cleared_in_more, link_more}
use Rattle.ref_judge.proofs.MadeGrounds.{object_at_other, references_more}
use Rattle.ref_judge.proofs.SoundJudges.{leads_same, sound_after}
use Rattle.ref_judge.proofs.UnchangedRows.{IsCommonRow, row_common}
use Rattle.ref_judge.proofs.StandingHeaps.{there_same, made_same, refusal_same, config_same}

-- the judge with one more object, and these marks
abbrev pub making : Judged → ℕ → ℕ → Object → List ℕ → Judged
making old m d o marks = record old { ground = record (with_new_object old.ground m d o) { marked = marks } }

-- the state with it, after these moments
abbrev pub made_to : State → ℕ → ℕ → Object → List Graph → State
made_to a m d o moments =
    record a { world = with_heap a.world (made a.world.heap m d o); next = a.next + 1; moments = moments }

judging_goes : (phase : Phase) → is_judging phase ≡ true → is_going phase ≡ true
judging_goes Idle is = is
judging_goes Marking is = refl
judging_goes Clearing is = refl
judging_goes Sweeping is = refl
judging_goes Moving is = is

past_goes : (phase : Phase) → is_behind_mark phase ≡ true → is_going phase ≡ true
past_goes Idle is = is
past_goes Marking is = refl
past_goes Clearing is = refl
past_goes Sweeping is = refl
past_goes Moving is = is

marking_goes : (phase : Phase) → is_in phase Marking ≡ true → is_going phase ≡ true
marking_goes Idle is = is
marking_goes Marking is = refl
marking_goes Clearing is = refl
marking_goes Sweeping is = refl
marking_goes Moving is = is

-- the marks with that of the object
abbrev MarksMade : Judged → ℕ → List ℕ → Type 0
MarksMade old n marks =
    is_going old.phase ≡ true → (k : ℕ) → has marks k ≡ ((n == k) || has old.ground.marked k)

none_is_false : (b : Bool) → (b ≡ true → ⊥) → b ≡ false
none_is_false b isnt = elim (cases_Bool b) [ inl holds ↦ absurd (isnt holds) | inr is ↦ is ]

one_of_joined : (lists : List (List ℕ)) (k n : ℕ) → has (list_at lists k) n ≡ true → has (joined lists) n ≡ true
one_of_joined [] k n within = absurd (false≢true within)
one_of_joined (ns ∷ rest) zero n within = has-left ns (joined rest) n within
one_of_joined (ns ∷ rest) (suc k) n within = has-right ns (joined rest) n (one_of_joined rest k n within)

module _ (old : Judged) (a : State) (stands : StandsFor old a) (formed : IsWellFormed old.ground) (m d : ℕ) (o : Object)
    (number : o.no ≡ a.next) (marks : List ℕ) (marked : MarksMade old o.no marks) (moments : List Graph) where
  facts : Facts old.config a
  facts = legal_facts old.profile old.config a stands.lawful

  -- no object has its number yet
  new : is_there a.world.heap.objects o.no ≡ false
  new =
      none_is_false (is_there a.world.heap.objects o.no)
      (λ there. omega (arith, facts.numbers.below o.no there, number))

  new_judged : is_there old.ground.heap.objects o.no ≡ false
  new_judged = there_same old a stands o.no ∙ new

  kept : has a.doomed o.no ≡ false
  kept =
      none_is_false (has a.doomed o.no)
      (λ dooms. false≢true (sym new ∙ facts.names.doomed_there o.no dooms))

  live : MarksLive (making old m d o marks) (made_to a m d o moments)
  live past n there =
      grind (
        arith,
        object_at_other a.world.heap.objects o n,
        marked (past_goes old.phase past) n,
        stands.live past n,
        kept,
      )

  -- nor was it scanned or put
  not_scanned : has (joined a.scanned) o.no ≡ false
  not_scanned =
      none_is_false (has (joined a.scanned) o.no)
      (λ scans. omega (arith, facts.scanned.old o.no scans, facts.numbers.born, number))

  not_put : (q : ℕ) → has (enqueued object_of (queue_at a.world q)) o.no ≡ false
  not_put q =
      none_is_false (has (enqueued object_of (queue_at a.world q)) o.no)
      (λ puts. omega (arith, facts.numbers.put_below q o.no puts, number))

  begun : is_judging old.phase ≡ true → 0 < old.cycle
  begun judges =
      subst (λ (cycle : ℕ). 0 < cycle) (sym stands.cycle)
      (lawful_begun old.profile old.config a stands.lawful
      (subst (λ (phase : Phase). is_going phase ≡ true) stands.phase (judging_goes old.phase judges)))

  tags_tell : TagsTell (making old m d o marks) (made_to a m d o moments)
  tags_tell = record {
    old = λ n. subst (λ (c : ℕ). c ≤ old.cycle) (sym (cleared_in_more old.ground.tags o.no n)) (stands.tags.old n);
    scanned = λ judges n there.
        grind (
          arith,
          cleared_in_more old.ground.tags o.no n,
          cleared_in_new old.ground.tags old.ground.heap.objects o.no formed.tagged new_judged,
          object_at_other a.world.heap.objects o n,
          stands.tags.scanned judges n,
          begun judges,
          not_scanned,
        );
    put = λ n q is.
        grind (
          arith,
          link_more old.ground.tags o.no n,
          link_new old.ground.tags old.ground.heap.objects o.no formed.tagged new_judged,
          object_at_other a.world.heap.objects o n,
          stands.tags.put n q,
          not_put q,
        );
  }

  finders_tell : FindersTell (making old m d o marks) (made_to a m d o moments)
  finders_tell = record {
    pending = stands.finders.pending;
    within = stands.finders.within;
    found = λ judges k.
        stands.finders.found judges k
        ∙ sym (references_more a.world.heap.objects o (list_at a.scanned k)
        (none_is_false (has (list_at a.scanned k) o.no)
        (λ scans. false≢true (sym not_scanned ∙ one_of_joined a.scanned k o.no scans))));
    cleared = stands.finders.cleared;
  }

  stands_made : (row : Row) → IsRowAs old.profile a row (made_to a m d o moments)
      → (is_in old.phase Marking ≡ true → old.profile.keeps_more ≡ false
      → Knows (WithNext (λ n. has old.ground.marked n ≡ true) a) (profiled old.profile (made_to a m d o moments)))
      → StandsFor (making old m d o marks) (made_to a m d o moments)
  stands_made row accepted knows = record {
    lawful = lawful_row old.profile old.config a (made_to a m d o moments) row stands.lawful accepted;
    heap = made_same old a stands m d o kept;
    next = ap (λ n. n + 1) stands.next;
    holds = stands.holds;
    mutator_hands = stands.mutator_hands;
    worker_hands = stands.worker_hands;
    lines = stands.lines;
    phase = stands.phase;
    cycle = stands.cycle;
    policy = stands.policy;
    born = stands.born;
    count = stands.count;
    chosen = stands.chosen;
    doomed = stands.doomed;
    kept = λ is less.
        let with_it = marked (marking_goes old.phase is) in
        known_alike (WithNext (λ n. has old.ground.marked n ≡ true) a) (λ n. has marks n ≡ true)
        (profiled old.profile (made_to a m d o moments))
        (λ n within.
        elim within [
          | inl was ↦ with_it n ∙ or_right (o.no == n) (has old.ground.marked n) was
          | inr next ↦
              with_it n ∙ or_left (o.no == n) (has old.ground.marked n) (eq-eqb o.no n (number ∙ sym next))
        ])
        (λ n within.
        elim (or_cases (o.no == n) (has old.ground.marked n) (sym (with_it n) ∙ within)) [
          | inl own ↦ inr (sym (eqb-true o.no n own) ∙ number)
          | inr was ↦ inl was
        ])
        (knows is less);
    live = live;
    tags = tags_tell;
    finders = finders_tell;
  }

-- ---- the rows

-- the judge with what was made, which is marked in a mark
abbrev pub with_made : Judged → ℕ → ℕ → Object → Judged
with_made old m d o = record old { ground = kept_made old.phase (with_new_object old.ground m d o) o.no }

abbrev marks_made : Judged → ℕ → ℕ → Object → List ℕ
marks_made old m d o = (kept_made old.phase (with_new_object old.ground m d o) o.no).marked

with_made_is : (old : Judged) (m d : ℕ) (o : Object) → with_made old m d o ≡ making old m d o (marks_made old m d o)
with_made_is old m d o =
    ap (λ (g : Ground). record old { ground = g }) (made_marks old.phase (with_new_object old.ground m d o) o.no)

abbrev after_made : State → ℕ → ℕ → Object → State
after_made a m d o = record a { world = with_heap a.world (made a.world.heap m d o); next = a.next + 1 }

ticked_made : (a : State) (m d : ℕ) (o : Object)
    → ticked (after_made a m d o) ≡ made_to a m d o (ticked (after_made a m d o)).moments
ticked_made a m d o =
    elim (cases_Bool (is_in a.world.phase Marking)) [ inl marks ↦ simp marks refl | inr other ↦ simp other refl ]

module _ (old : Judged) (a : State) (stands : StandsFor old a) (settled : IsSettled old)
    (formed : IsWellFormed old.ground) (m d : ℕ) (step : PlainStep) (none : plain_refusal a step ≡ None) where
  made_leads : (o p : Object) → o.no ≡ a.next → p ≡ o
      → IsRow a (plain_row step (replies.Object a.next)) (ticked (after_made a m d o))
      → IsCommonRow a (plain_row step (replies.Object a.next))
      → is_anew a (Plain step) (Ok (replies.Object a.next)) ≡ false
      → (is_in old.phase Marking ≡ true → old.profile.keeps_more ≡ false → (b : State)
      → IsRowAs old.profile a (plain_row step (replies.Object a.next)) b
      → Knows (WithNext (λ n. has old.ground.marked n ≡ true) a) (profiled old.profile b))
      → LeadsOne old (Plain step) (Ok (replies.Object old.ground.next)) (with_made old m d p) a
  made_leads o p number same accepted common anew knows =
      let b : State = made_to a m d o (ticked (after_made a m d o)).moments in
      let row : Row = plain_row step (replies.Object a.next) in
      let accepts : IsRowAs old.profile a row b =
      row_common old.profile a b row common (subst (IsRow a row) (ticked_made a m d o) accepted) in
      let stands_now : StandsFor (making old m d o (marks_made old m d o)) b =
      stands_made old a stands formed m d o number (marks_made old m d o)
      (has_made old.phase old.ground m d o settled.condemning) (ticked (after_made a m d o)).moments row accepts
      (λ is less. knows is less b accepts) in
      subst (λ (n : ℕ). LeadsOne old (Plain step) (Ok (replies.Object n)) (with_made old m d p) a) (sym stands.next)
      (subst (λ (x : Object). LeadsOne old (Plain step) (Ok (replies.Object a.next)) (with_made old m d x) a) (sym same)
      (subst (λ (new : Judged). LeadsOne old (Plain step) (Ok (replies.Object a.next)) new a)
      (sym (with_made_is old m d o))
      (leads_same old (making old m d o (marks_made old m d o)) a b (Plain step) (Ok (replies.Object a.next)) accepts
      stands_now anew (record { left = refl; none = refl; some = refl; finders = λ k. refl }))))

  new_next : is_there a.world.heap.objects a.next ≡ false
  new_next =
      let facts = legal_facts old.profile old.config a stands.lawful in
      none_is_false (is_there a.world.heap.objects a.next) (λ there. omega (arith, facts.numbers.below a.next there))

  within : has_slot a.world.heap m d ≡ true → 16 * m + d < length a.world.heap.slots
  within slot =
      slot_within a.world.heap m d
      (subst (λ (h : Heap). length h.slots ≡ 16 * h.config.mutators) stands.heap formed.orderly.slots) slot

module _ (old : Judged) (settled : IsSettled old) (formed : IsWellFormed old.ground) where
  pub makes : (m d k : ℕ) → new_refusal old.ground.heap old.ground.next m d k ≡ None
      → DoesAs old (Plain (plain.New m d k)) (Ok (replies.Object old.ground.next))
      (with_made old m d (plain_object old.ground.next (nulls k)))
  makes m d k none = (refl, refl, leads)
    where
      leads : (a : State) → StandsFor old a
          → LeadsOne old (Plain (plain.New m d k)) (Ok (replies.Object old.ground.next))
          (with_made old m d (plain_object old.ground.next (nulls k))) a
      leads a stands =
          let step : PlainStep = plain.New m d k in
          let passes : plain_refusal a step ≡ None = sym (refusal_same old a stands step tt) ∙ none in
          let slot = (unless_passes (has_slot a.world.heap m d) NoSuchActor _ passes).0 in
          made_leads old a stands settled formed m d step passes (plain_object a.next (nulls k))
          (plain_object old.ground.next (nulls k)) refl (ap (λ (n : ℕ). plain_object n (nulls k)) stands.next)
          (accepted_plain a _ step (replies.Object a.next) passes (refl, refl)) (inr tt) refl
          (λ is less b row.
          known_new_as old.profile (λ n. has old.ground.marked n ≡ true) a b (marks_of old a stands is)
          (stands.kept is less) m d k (replies.Object a.next)
          (new_next old a stands settled formed m d step passes)
          (within old a stands settled formed m d step passes slot) passes row)

  pub refers : (m : ℕ) (strength : Strength) (d s : ℕ) (q : Option ℕ) (k : ℕ)
      → refer_refusal old.ground.heap old.ground.next m d s q k ≡ None
      → let h = old.ground.heap in
      DoesAs old (Plain (plain.Refer m strength d s q k)) (Ok (replies.Object old.ground.next))
      (with_made old m d (new_reference h old.ground.next strength (slot_at h m s) q k))
  refers m strength d s q k none = (refl, refl, leads)
    where
      leads : (a : State) → StandsFor old a
          → let h = old.ground.heap in
          LeadsOne old (Plain (plain.Refer m strength d s q k)) (Ok (replies.Object old.ground.next))
          (with_made old m d (new_reference h old.ground.next strength (slot_at h m s) q k)) a
      leads a stands =
          let step : PlainStep = plain.Refer m strength d s q k in
          let passes : plain_refusal a step ≡ None = sym (refusal_same old a stands step tt) ∙ none in
          let slots = (unless_passes (has_slots a.world.heap m d s) NoSuchActor _ passes).0 in
          let slot = (and_parts (has_slot a.world.heap m d) (nat_lt s 16) slots).0 in
          made_leads old a stands settled formed m d step passes
          (new_reference a.world.heap a.next strength (slot_at a.world.heap m s) q k)
          (new_reference old.ground.heap old.ground.next strength (slot_at old.ground.heap m s) q k) refl
          (ap (λ (h : Heap). new_reference h old.ground.next strength (slot_at h m s) q k) stands.heap
          ∙ ap (λ (n : ℕ). new_reference a.world.heap n strength (slot_at a.world.heap m s) q k) stands.next)
          (accepted_plain a _ step (replies.Object a.next) passes (refl, refl)) (inr tt) refl
          (λ is less b row.
          known_refer_as old.profile (λ n. has old.ground.marked n ≡ true) a b (marks_of old a stands is)
          (stands.kept is less) m strength d s q k (replies.Object a.next)
          (new_next old a stands settled formed m d step passes)
          (within old a stands settled formed m d step passes slot) passes row)

-- the invariant holds again
pub made_sound : (old : Judged) (m d : ℕ) (o : Object) (step : PlainStep) (reply : Reply) → IsOfSomeState old
    → DoesAs old (Plain step) (Ok reply) (with_made old m d o) → has_one_answer step ≡ true
    → IsOfSomeState (with_made old m d o)
made_sound old m d o step reply sound does one =
    let leads = does.2 sound.state sound.stands in
    sound_after old (with_made old m d o) (Plain step) (Ok reply) one sound does
    (subst IsSettled (sym (with_made_is old m d o))
    (of_config (subst (λ (j : Judged). j.ground.heap.config ≡ j.config) (with_made_is old m d o)
    (config_same (with_made old m d o) leads.state leads.stands))))
  where
    of_config : (making old m d o (marks_made old m d o)).ground.heap.config ≡ old.config
        → IsSettled (making old m d o (marks_made old m d o))
    of_config config = assumption (sound.settled, config)
