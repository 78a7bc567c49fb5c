-- What a sweep and its end do to a judge.
use Rattle.ref_base.proofs.Common.{arith, ◌≡◌, ℕ, Bool, true, false, List, Option, Some, None, refl, sym, ◌∙◌, ap}
use Rattle.ref_base.proofs.Common.{subst, inl, inr, State, is_in}
use Rattle.ref_base.proofs.Common.{[], ◌∷◌, take-append-drop, ◌++◌, ◌||◌, ◌==◌, not, take, drop, length, map, has}
use Rattle.ref_base.proofs.Common.{Object, Heap, object_at, reference_at, reference_in, registered_in}
use Rattle.ref_base.proofs.Common.{without, with_heap, cases_Bool, true≢false, ticked, Sweeps, IsRising}
use Rattle.std.specs.Prelude.{Ok, min}
use Rattle.ref_base.specs.Forgetting.{forgotten, heap_but}
use Rattle.ref_base.specs.Worlds.{with_swept}
use Rattle.ref_base.proofs.AgreeHeaps.{there-without}
use Rattle.ref_base.proofs.HasLaws.{has-append, has-left}
use Rattle.ref_base.proofs.SeenObjects.{object_at-gone, object_at-without}
use Rattle.ref_objects.specs.Grounds.{IsWellFormed}
use Rattle.ref_judge.specs.FreedGrounds.{all_freed}
use Rattle.ref_judge.proofs.FreedGrounds.{Rest, rest_of_ground, all_freed_rest, all_freed_heap, all_freed_old}
use Rattle.ref_judge.proofs.FreedGrounds.{all_freed_link}
use Rattle.ref_judge.proofs.FreedGrounds.{without-forgotten}
use Rattle.ref_base.specs.CollectorRows.{sweep_ended}
use Rattle.ref_base.specs.Refusals.{unless, is_empty, work_refusal}
use Rattle.ref_base.specs.declared.fault.Fault.{Fault}
use Rattle.ref_base.specs.declared.fault.Fault.TheVariants.{WrongPhase, SweepLeft}
use Rattle.ref_base.specs.declared.heap_step.HeapStep.TheVariants as heap
use Rattle.ref_base.specs.declared.phase.Phase.{Phase}
use Rattle.ref_base.specs.declared.phase.Phase.TheVariants.{Idle, Marking, Clearing, Sweeping}
use Rattle.ref_base.specs.declared.plain_step.PlainStep.TheVariants as plain
use Rattle.ref_base.specs.declared.reply.Reply.{Reply}
use Rattle.ref_base.specs.declared.reply.Reply.TheVariants as replies
use Rattle.ref_base.specs.declared.step.Step.TheVariants as steps
use Rattle.ref_base.proofs.PhaseLaws.{of_phase}
use Rattle.ref_base.proofs.PlainRows.{plain_row}
use Rattle.ref_base.specs.Refusals.{plain_refusal}
use Rattle.ref_judge.specs.Judged.{Judged, is_behind_mark, is_judging, unheld}
use Rattle.ref_judge.specs.ProfiledRows.{IsRowAs}
use Rattle.ref_judge.specs.Standing.{StandsFor, DoesAs, Lawful, IsSettled, IsOfSomeState}
use Rattle.ref_judge.proofs.LegalFacts.{lawful_row, legal_facts}
use Rattle.ref_judge.proofs.Rephasing.{rephased, stands_rephased, settled_rephased}
use Rattle.ref_judge.proofs.SoundJudges.{leads_same, says_itself, sound_after}
use Rattle.ref_judge.proofs.TestedRows.{work_known}
use Rattle.ref_judge.proofs.UnchangedRows.{accepted_plain_as}

-- ---- the end of a sweep

-- why it is refused
abbrev pub end_refusal : Judged → Option Fault
end_refusal j = unless (is_in j.phase Sweeping) WrongPhase (unless (is_empty j.doomed.stands) SweepLeft None)

pub end_known : (j : Judged) (a : State) → StandsFor j a → end_refusal j ≡ plain_refusal a plain.EndSweep
end_known j a stands =
    ap (λ (phase : Phase). unless (is_in phase Sweeping) WrongPhase (unless (is_empty j.doomed.stands) SweepLeft None))
    stands.phase
    ∙ ap (λ (ns : List ℕ). unless (is_in a.world.phase Sweeping) WrongPhase (unless (is_empty ns) SweepLeft None))
    stands.doomed

module _ (j : Judged) (none : end_refusal j ≡ None) where
  sweeping : (a : State) → StandsFor j a → j.phase ≡ Sweeping
  sweeping a stands = stands.phase ∙ (of_phase a (heap.Plain plain.EndSweep) (sym (end_known j a stands) ∙ none)).0

  pub end_does : DoesAs j (steps.Plain plain.EndSweep) (Ok replies.Done) (rephased j Idle false false)
  end_does = (
    refl,
    refl,
    λ a stands.
        let b : State = sweep_ended a in
        let row : IsRowAs j.profile a (plain_row plain.EndSweep replies.Done) b =
        accepted_plain_as j.profile a b plain.EndSweep replies.Done (sym (end_known j a stands) ∙ none) (refl, refl) in
        leads_same j (rephased j Idle false false) a b (steps.Plain plain.EndSweep) (Ok replies.Done) row
        (stands_rephased j Idle false false refl refl a a.found
        (lawful_row j.profile j.config a b (plain_row plain.EndSweep replies.Done) stands.lawful row) stands
        (λ past. absurd cc))
        refl (record { left = refl; none = refl; some = refl; finders = λ k. refl }),
  )

  pub end_sound : IsOfSomeState j → IsOfSomeState (rephased j Idle false false)
  end_sound sound =
      let phase : j.phase ≡ Sweeping = sweeping sound.state sound.stands in
      sound_after j (rephased j Idle false false) (steps.Plain plain.EndSweep) (Ok replies.Done) refl sound end_does
      (settled_rephased j Idle false false refl refl sound.settled (λ going. absurd cc)
      (ap (λ (p : Phase). is_in p Marking) phase) refl)

-- ---- a sweep

-- the judge once the front of the doomed is freed, and the back left
abbrev pub swept_judge : Judged → List ℕ → List ℕ → Judged
swept_judge j front back =
    record j { ground = all_freed j.ground front; doomed = record j.doomed { stands = back } }

-- the state so
abbrev pub swept_state : State → List ℕ → List ℕ → ℕ → State
swept_state a front back count = record a {
  world = with_swept
      (with_heap a.world (record a.world.heap { objects = without front a.world.heap.objects })) count;
  doomed = back;
}

module _ (j : Judged) (a : State) (stands : StandsFor j a) (phase : j.phase ≡ Sweeping)
    (condemns : j.ground.condemning ≡ true)
    (well : IsWellFormed j.ground) (front back : List ℕ) (is : front ++ back ≡ a.doomed) where
  past : is_behind_mark j.phase ≡ true
  past = ap is_behind_mark phase

  unmarked : (n : ℕ) → has front n ≡ true → has j.ground.marked n ≡ false
  unmarked n first =
      let doomed : has a.doomed n ≡ true = subst (λ (l : List ℕ). has l n ≡ true) is (has-left front back n first) in
      stands.live past n
      ((legal_facts j.profile j.config a stands.lawful).names.doomed_there n doomed)
      ∙ ap (λ (b : Bool). not b) doomed

  left_doomed : (n : ℕ) → has front n ≡ false → has a.doomed n ≡ has back n
  left_doomed n kept =
      ap (λ (l : List ℕ). has l n) (sym is) ∙ has-append front back n ∙ ap (λ (b : Bool). b || has back n) kept

  swept_heap : (all_freed j.ground front).heap
      ≡ heap_but back (unheld (record a.world.heap { objects = without front a.world.heap.objects }))
  swept_heap =
      let os : List Object = a.world.heap.objects in
      all_freed_heap j.ground front condemns unmarked
      ∙ ap (λ (h : Heap). record h { objects = without front h.objects }) stands.heap
      ∙ ap (λ (l : List Object). record (unheld a.world.heap) { objects = l })
      (ap (λ (d : List ℕ). without front (map (λ o. forgotten d o) os)) (sym is) ∙ without-forgotten front back os)

  -- what is registered still is so as it was
  still_registered : (n q : ℕ)
      → registered_in (reference_in (object_at (without front a.world.heap.objects) n)) ≡ Some q
      → (has front n ≡ false) × (registered_in (reference_at a.world.heap n) ≡ Some q)
  still_registered n q known =
      elim (cases_Bool (has front n)) [
        | inl out ↦
            absurd
            (differ
            (sym (ap (λ (o : Option Object). registered_in (reference_in o))
            (object_at-gone front a.world.heap.objects n out)) ∙ known))
        | inr kept ↦ (
          kept,
          sym (ap (λ (o : Option Object). registered_in (reference_in o))
              (object_at-without front a.world.heap.objects n kept)) ∙ known,
        )
      ]
    where
      differ : None ≡ Some q → ⊥
      differ same = absurd cc

  stands_swept : (count : ℕ) → Lawful j.profile j.config (swept_state a front back count)
      → StandsFor (swept_judge j front back) (swept_state a front back count)
  stands_swept count lawful = record {
    lawful = lawful;
    heap = swept_heap;
    next = ap (λ (r : Rest). r.next) rest ∙ stands.next;
    holds = stands.holds;
    mutator_hands = stands.mutator_hands;
    worker_hands = stands.worker_hands;
    lines = stands.lines;
    phase = stands.phase;
    cycle = stands.cycle;
    policy = stands.policy;
    born = stands.born;
    count = λ marks. absurd (no_mark marks);
    chosen = stands.chosen;
    doomed = refl;
    kept = λ marks more. absurd (no_mark marks);
    live = λ is_past n there.
        let left = there-without front a.world.heap.objects n there in
        ap (λ (r : Rest). has r.marked n) rest ∙ stands.live is_past n left.1
        ∙ ap (λ (b : Bool). not b) (left_doomed n left.0);
    tags = record {
      old = (all_freed_old j.ground front j.cycle (record {
        rising = subst IsRising (sym well.tagged) well.orderly.rising;
        old = stands.tags.old;
      })).old;
      scanned = λ judging n there. absurd (no_judging judging);
      put = λ n q known.
          let still = still_registered n q known in
          ap (λ (link : ℕ). not (link == 0)) (all_freed_link j.ground front n still.0)
          ∙ stands.tags.put n q still.1;
    };
    finders = record {
      pending = stands.finders.pending;
      within = stands.finders.within;
      found = λ judging k. absurd (no_judging judging);
      cleared = λ clears k. absurd (no_clearing clears);
    };
  }
    where
      rest : rest_of_ground (all_freed j.ground front) ≡ rest_of_ground j.ground
      rest = all_freed_rest j.ground front

      no_mark : is_in j.phase Marking ≡ true → ⊥
      no_mark marks = true≢false (sym marks ∙ ap (λ (p : Phase). is_in p Marking) phase)

      no_clearing : is_in j.phase Clearing ≡ true → ⊥
      no_clearing clears = true≢false (sym clears ∙ ap (λ (p : Phase). is_in p Clearing) phase)

      no_judging : is_judging j.phase ≡ true → ⊥
      no_judging judging = true≢false (sym judging ∙ ap is_judging phase)

-- outside a mark no moment of it is kept
unticked : (c : State) → is_in c.world.phase Marking ≡ false → ticked c ≡ c
unticked c other = simp other refl

-- what a sweep answers where something is doomed
sweeps_some : (a : State) (ds : List ℕ) → is_in a.world.phase Marking ≡ false → (is_empty ds ≡ true → ⊥)
    → Sweeps a ds (replies.Swept (min 64 (length ds))) (swept_state a (take 64 ds) (drop 64 ds) (min 64 (length ds)))
sweeps_some a [] other some = absurd (some refl)
sweeps_some a (n ∷ ns) other some =
    (refl, sym (unticked (swept_state a (take 64 (n ∷ ns)) (drop 64 (n ∷ ns)) (min 64 (length (n ∷ ns)))) other))

-- and where nothing is
sweeps_none : (a : State) (ds : List ℕ) → is_in a.world.phase Marking ≡ false → ds ≡ []
    → Sweeps a ds replies.Nothing a
sweeps_none a [] other none = (refl, sym (unticked a other))
sweeps_none a (n ∷ ns) other none = absurd cc

empty_list : (ds : List ℕ) → is_empty ds ≡ true → ds ≡ []
empty_list [] empty = refl
empty_list (d ∷ ds) empty = absurd cc

none_counted : (ds : List ℕ) → min 64 (length ds) ≡ 0 → ds ≡ []
none_counted [] none = refl
none_counted (d ∷ ds) none = absurd (omega (arith, none))

pub some_counted : (ds : List ℕ) → (min 64 (length ds) ≡ 0 → ⊥) → is_empty ds ≡ true → ⊥
some_counted ds some empty =
    some (ap (λ (l : List ℕ). min 64 (length l)) (empty_list ds empty))

-- the judge after a sweep
abbrev pub after_sweep : Judged → Judged
after_sweep j = swept_judge j (take 64 j.doomed.stands) (drop 64 j.doomed.stands)

module _ (j : Judged) (k : ℕ) (none : work_refusal j.ground.heap j.phase Sweeping k ≡ None) where
  in_sweep : (a : State) → StandsFor j a → j.phase ≡ Sweeping
  in_sweep a stands =
      stands.phase ∙ of_phase a (heap.Plain (plain.Sweep k)) (sym (work_known j a stands Sweeping k) ∙ none)

  no_mark_in : (a : State) → StandsFor j a → is_in a.world.phase Marking ≡ false
  no_mark_in a stands = ap (λ (p : Phase). is_in p Marking) (sym stands.phase ∙ in_sweep a stands)

  -- where something is doomed, the first of it is freed
  pub sweep_does : j.ground.condemning ≡ is_behind_mark j.phase → IsWellFormed j.ground
      → (is_empty j.doomed.stands ≡ true → ⊥)
      → DoesAs j (steps.Plain (plain.Sweep k)) (Ok (replies.Swept (min 64 (length j.doomed.stands)))) (after_sweep j)
  sweep_does condemns well some = (
    refl,
    refl,
    λ a stands.
        let ds : List ℕ = j.doomed.stands in
        let b : State = swept_state a (take 64 ds) (drop 64 ds) (min 64 (length ds)) in
        let reply : Reply = replies.Swept (min 64 (length ds)) in
        let row : IsRowAs j.profile a (plain_row (plain.Sweep k) reply) b =
        accepted_plain_as j.profile a b (plain.Sweep k) reply (sym (work_known j a stands Sweeping k) ∙ none)
        (subst (λ (l : List ℕ). Sweeps a l reply b) stands.doomed (sweeps_some a ds (no_mark_in a stands) some)) in
        leads_same j (after_sweep j) a b (steps.Plain (plain.Sweep k)) (Ok reply) row
        (stands_swept j a stands (in_sweep a stands) (condemns ∙ ap is_behind_mark (in_sweep a stands)) well
        (take 64 ds) (drop 64 ds) (take-append-drop 64 ds ∙ stands.doomed) (min 64 (length ds))
        (lawful_row j.profile j.config a b (plain_row (plain.Sweep k) reply) stands.lawful row))
        refl (record { left = refl; none = refl; some = refl; finders = λ i. refl }),
  )

  -- and where nothing is, nothing changes
  no_sweep_does : j.doomed.stands ≡ []
      → DoesAs j (steps.Plain (plain.Sweep k)) (Ok replies.Nothing) j
  no_sweep_does empty = (
    refl,
    refl,
    λ a stands.
        leads_same j j a a (steps.Plain (plain.Sweep k)) (Ok replies.Nothing)
        (accepted_plain_as j.profile a a (plain.Sweep k) replies.Nothing (sym (work_known j a stands Sweeping k) ∙ none)
        (sweeps_none a a.doomed (no_mark_in a stands) (sym stands.doomed ∙ empty)))
        stands refl (says_itself j),
  )

  -- nothing is freed then
  no_sweep : j.doomed.stands ≡ [] → after_sweep j ≡ j
  no_sweep empty =
      ap (λ (ds : List ℕ). swept_judge j (take 64 ds) (drop 64 ds)) empty
      ∙ ap (λ (ds : List ℕ). record j { doomed = record j.doomed { stands = ds } }) (sym empty)

  -- a sweep that frees none
  pub none_does : min 64 (length j.doomed.stands) ≡ 0
      → DoesAs j (steps.Plain (plain.Sweep k)) (Ok replies.Nothing) (after_sweep j)
  none_does count =
      let empty = none_counted j.doomed.stands count in
      subst (λ (new : Judged). DoesAs j (steps.Plain (plain.Sweep k)) (Ok replies.Nothing) new) (sym (no_sweep empty))
      (no_sweep_does empty)

  -- the judge is settled after it
  settled_swept : IsSettled j → IsWellFormed j.ground → (a : State) → StandsFor j a → (front back : List ℕ)
      → front ++ back ≡ a.doomed → IsSettled (swept_judge j front back)
  settled_swept settled well a stands front back is =
      let rest = all_freed_rest j.ground front in
      let condemns = settled.condemning ∙ ap is_behind_mark (in_sweep a stands) in
      record {
        none_grey = settled.none_grey;
        grey_room = settled.grey_room;
        doomed_room = settled.doomed_room;
        config = ap (λ (h : Heap). h.config)
            (swept_heap j a stands (in_sweep a stands) condemns well front back is)
            ∙ ap (λ (h : Heap). h.config) (sym stands.heap) ∙ settled.config;
        none_to_move = ap (λ (r : Rest). r.still_to_move) rest ∙ settled.none_to_move;
        none_chosen = ap (λ (r : Rest). r.has_choice) rest ∙ settled.none_chosen;
        tuned = λ going. ap (λ (r : Rest). r.stage) rest ∙ settled.tuned going;
        colour = ap (λ (r : Rest). r.last) rest ∙ settled.colour;
        condemning = ap (λ (r : Rest). r.condemning) rest ∙ settled.condemning;
        may = settled.may;
        waits = settled.waits;
      }

  pub sound_swept : IsOfSomeState j → IsWellFormed j.ground → IsOfSomeState (after_sweep j)
  sound_swept sound well =
      let ds : List ℕ = j.doomed.stands in
      elim (cases_Bool (is_empty ds)) [
        | inl empty ↦ subst IsOfSomeState (sym (no_sweep (empty_list ds empty))) sound
        | inr some ↦
            sound_after j (after_sweep j) (steps.Plain (plain.Sweep k)) (Ok (replies.Swept (min 64 (length ds)))) refl
            sound
            (sweep_does sound.settled.condemning well (λ empty. true≢false (sym empty ∙ some)))
            (settled_swept sound.settled well sound.state sound.stands (take 64 ds) (drop 64 ds)
            (take-append-drop 64 ds ∙ sound.stands.doomed))
      ]
