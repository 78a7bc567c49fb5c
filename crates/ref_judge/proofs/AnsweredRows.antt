-- What a judge makes of a row whose step has one answer: with that answer the row leads the states that fit on, and
-- with another no state that fits has it.
use Rattle.ref_base.proofs.Common.{◌≡◌, ℕ, Bool, true, false, ◌&&◌, ◌||◌, List, [], ◌∷◌, Option, Some, None, refl}
use Rattle.ref_base.proofs.Common.{sym, ap, ◌∙◌, subst, inl, inr, ◌⊎◌, cases_Bool, State, World, Notice, NamedStep}
use Rattle.ref_base.proofs.Common.{is_in}
use Rattle.ref_base.proofs.Common.{is_some, heap_step, spending, hand_of, after_queues, with_handed}
use Rattle.ref_base.proofs.Common.{ticked, with_world, value_reply}
use Rattle.ref_base.proofs.Common.{true≢false, false≢true}
use Rattle.std.specs.Prelude.{Result, Ok, Err, if◌then◌else◌}
use Rattle.ref_base.specs.CollectorRows.{sweep_ended}
use Rattle.ref_base.specs.Refusals.{plain_refusal, unless}
use Rattle.ref_base.specs.Told.{told_object}
use Rattle.ref_base.specs.declared.actor.Actor.TheVariants.{Mutator}
use Rattle.ref_base.specs.declared.fault.Fault.{Fault}
use Rattle.ref_base.specs.declared.phase.Phase.{Phase}
use Rattle.ref_base.specs.declared.phase.Phase.TheVariants.{Idle, Marking, Clearing, Sweeping}
use Rattle.ref_base.specs.declared.heap_step.HeapStep.TheVariants as heap
use Rattle.ref_base.specs.declared.plain_step.PlainStep.{PlainStep}
use Rattle.ref_base.specs.declared.plain_step.PlainStep.TheVariants as plain
use Rattle.ref_base.specs.declared.step.Step.{Step}
use Rattle.ref_base.specs.declared.step.Step.TheVariants as steps
use Rattle.ref_base.specs.declared.reply.Reply.{Reply}
use Rattle.ref_base.specs.declared.reply.Reply.TheVariants as replies
use Rattle.ref_base.specs.declared.row.Row.{Row}
use Rattle.ref_base.proofs.Bases.{base, base_after, lead_of, refuses}
use Rattle.ref_base.proofs.Fitting.{Fits, saying, begun_to}
use Rattle.ref_base.proofs.FreeRows.{KeepsRow, SaysNone}
use Rattle.ref_base.proofs.OutcomeParts.{outcome_phase}
use Rattle.ref_base.proofs.PlainRows.{plain_row}
use Rattle.ref_base.proofs.ReplayKeeps.{handed_keeps, queues_keep, EndsNoPhase}
use Rattle.ref_base.proofs.RowForms.{ticked_world}
use Rattle.ref_judge.specs.Judged.{has_one, Judged}
use Rattle.ref_judge.specs.ProfiledRows.{IsRowAs, IsAnswerAs, says_anew}
use Rattle.ref_judge.specs.Standing.{StandsFor, IsSettled, FitsIn, FitsIt, LeadsOn, HasNone, DoesAs, LeadsOne}
use Rattle.ref_judge.specs.Standing.{IsOneAnswer, is_anew}
use Rattle.ref_judge.specs.Standing.{reply_of_result, SaysRightly}
use Rattle.ref_judge.specs.declared.profile.Profile.{Profile}
use Rattle.ref_judge.proofs.AnewRows.{LeadsAnew, itself, load_leads, get_leads, begin_leads}
use Rattle.ref_judge.proofs.FittingRows.{begin_but_as}
use Rattle.ref_judge.proofs.FreeAnswers.{load_answers_as, get_answers_as}
use Rattle.ref_judge.proofs.OneAnswers.{one_answer}
use Rattle.ref_judge.proofs.ProfiledBases.{one_base_as}
use Rattle.ref_judge.proofs.ToldRows.{kept_leads, kept_none}
use Rattle.ref_judge.proofs.UnchangedRows.{plain_accepted_as}

-- ---- rows that say nothing anew read nothing of what is free

-- a value that isn't told as an object in a mark says nothing anew
value_says : (a : State) (reply : Reply) (value : Option ℕ) → reply ≡ value_reply value
    → (is_in a.world.phase Marking && is_some (told_object reply)) ≡ false → SaysNone a reply
value_says a reply None is none = inl is
value_says a reply (Some n) is none =
    inr (outside (is_in a.world.phase Marking)
    (ap (λ (r : Reply). is_in a.world.phase Marking && is_some (told_object r)) (sym is) ∙ none))
  where
    outside : (marks : Bool) → (marks && true) ≡ false → marks ≡ false
    outside true is = is
    outside false is = refl

-- a refusal tells no object
refused_says : (marks : Bool) → (marks && false) ≡ false
refused_says true = refl
refused_says false = refl

-- nor the number of a cycle
no_cycle : {n : ℕ} {fault : Fault} → replies.Refused fault ≡ replies.Cycle n → ⊥
no_cycle is = absurd cc

module _ (p : Profile) (a b : State) where
  load_keeps : (m d s i : ℕ) (result : Result Reply Fault) → is_anew a (steps.Plain (plain.Load m d s i)) result ≡ false
      → IsRowAs p a (plain_row (plain.Load m d s i) (reply_of_result result)) b
      → (fault : Option Fault) → plain_refusal a (plain.Load m d s i) ≡ fault
      → KeepsRow a (plain_row (plain.Load m d s i) (reply_of_result result))
  load_keeps m d s i result none h (Some fault) is = (tt, inl (fault, is))
  load_keeps m d s i (Ok (replies.Refused fault)) none h None is = (
    tt,
    inr (value_says a (replies.Refused fault) _ (load_answers_as p a b m d s i (replies.Refused fault) is h)
        (refused_says (is_in a.world.phase Marking))),
  )
  load_keeps m d s i (Ok reply) none h None is =
      (tt, inr (value_says a reply _ (load_answers_as p a b m d s i reply is h) none))
  load_keeps m d s i (Err fault) none h None is = (
    tt,
    inr (value_says a (replies.Refused fault) _ (load_answers_as p a b m d s i (replies.Refused fault) is h)
        (refused_says (is_in a.world.phase Marking))),
  )

  get_keeps : (m d s : ℕ) (result : Result Reply Fault) → is_anew a (steps.Plain (plain.Get m d s)) result ≡ false
      → IsRowAs p a (plain_row (plain.Get m d s) (reply_of_result result)) b
      → (fault : Option Fault) → plain_refusal a (plain.Get m d s) ≡ fault
      → KeepsRow a (plain_row (plain.Get m d s) (reply_of_result result))
  get_keeps m d s result none h (Some fault) is = (tt, inl (fault, is))
  get_keeps m d s (Ok (replies.Refused fault)) none h None is = (
    tt,
    inr (value_says a (replies.Refused fault) _ (get_answers_as p a b m d s (replies.Refused fault) is h)
        (refused_says (is_in a.world.phase Marking))),
  )
  get_keeps m d s (Ok reply) none h None is =
      (tt, inr (value_says a reply _ (get_answers_as p a b m d s reply is h) none))
  get_keeps m d s (Err fault) none h None is = (
    tt,
    inr (value_says a (replies.Refused fault) _ (get_answers_as p a b m d s (replies.Refused fault) is h)
        (refused_says (is_in a.world.phase Marking))),
  )

  begin_keeps : (now : ℕ) (how : _) (result : Result Reply Fault)
      → is_anew a (steps.Plain (plain.Begin now how)) result ≡ false
      → IsRowAs p a (plain_row (plain.Begin now how) (reply_of_result result)) b
      → (fault : Option Fault) → plain_refusal a (plain.Begin now how) ≡ fault
      → KeepsRow a (plain_row (plain.Begin now how) (reply_of_result result))
  begin_keeps now how result none h (Some fault) is = (tt, inl (fault, is))
  begin_keeps now how (Ok (replies.Refused fault)) none h None is =
      absurd (no_cycle (plain_accepted_as p a b (plain.Begin now how) (replies.Refused fault) is h).1.0)
  begin_keeps now how (Ok reply) none h None is = absurd (true≢false none)
  begin_keeps now how (Err fault) none h None is =
      absurd (no_cycle (plain_accepted_as p a b (plain.Begin now how) (replies.Refused fault) is h).1.0)

  -- so such a row reads nothing of what is free
  pub reads_none : (step : Step) (result : Result Reply Fault) → has_one step ≡ true → is_anew a step result ≡ false
      → IsRowAs p a (record { step = step; reply = reply_of_result result }) b
      → KeepsRow a (record { step = step; reply = reply_of_result result })
  reads_none (steps.Plain (plain.Load m d s i)) result one none h =
      load_keeps m d s i result none h (plain_refusal a (plain.Load m d s i)) refl
  reads_none (steps.Plain (plain.Get m d s)) result one none h =
      get_keeps m d s result none h (plain_refusal a (plain.Get m d s)) refl
  reads_none (steps.Plain (plain.Begin now how)) result one none h =
      begin_keeps now how result none h (plain_refusal a (plain.Begin now how)) refl
  reads_none (steps.Plain (plain.Scan k)) result one none h = absurd cc
  reads_none (steps.Plain plain.EndMark) result one none h = absurd cc
  reads_none (steps.Plain (plain.ClearNext k)) result one none h = absurd cc
  reads_none (steps.Plain plain.EndClear) result one none h = absurd cc
  reads_none step result one none h = (tt, inr tt)

-- ---- nor do they begin or end a mark or clearing

-- what the step asks of its heap ends no phase
abbrev AsksNoPhase : Option NamedStep → Type 0
AsksNoPhase None = Unit {0}
AsksNoPhase (Some asked) = EndsNoPhase asked

-- a step with one answer that neither begins nor ends a cycle asks for none
abbrev IsMiddle : Step → Type 0
IsMiddle (steps.Plain step) = EndsNoPhase (heap.Plain step)
IsMiddle step = Unit {0}

asks_no_phase : (w : World) (step : Step) → IsMiddle step → AsksNoPhase (heap_step w step)
asks_no_phase w (steps.Plain step) middle = middle
asks_no_phase w (steps.Adopt m d) middle = of_hand (hand_of w (Mutator m))
  where
    of_hand : (hand : List Notice) → AsksNoPhase (spending w (λ hold. heap.Adopt m d hold) hand)
    of_hand [] = tt
    of_hand (notice ∷ rest) = tt
asks_no_phase w (steps.Release who) middle = of_hand (hand_of w who)
  where
    of_hand : (hand : List Notice) → AsksNoPhase (spending w (λ hold. heap.Release hold) hand)
    of_hand [] = tt
    of_hand (notice ∷ rest) = tt
asks_no_phase w step middle = tt

module _ (a b : State) where
  abbrev led : Option NamedStep → Step → Reply → State
  led None step reply = ticked (with_world a (after_queues a.world step reply))
  led (Some asked) step reply = with_handed (ticked (lead_of a asked reply)) step reply

  led_phase : (asked : Option NamedStep) (step : Step) (reply : Reply) → AsksNoPhase asked
      → (led asked step reply).world.phase ≡ a.world.phase
  led_phase None step reply middle =
      ap (λ (w : World). w.phase) (ticked_world (with_world a (after_queues a.world step reply)))
      ∙ ap (λ (w : World). w.phase) (queues_keep a.world step reply)
  led_phase (Some asked) step reply middle =
      ap (λ (w : World). w.phase) (handed_keeps (ticked (lead_of a asked reply)).world step reply)
      ∙ ap (λ (w : World). w.phase) (ticked_world (lead_of a asked reply)) ∙ of_step asked middle
    where
      of_step : (asked : NamedStep) → EndsNoPhase asked → (lead_of a asked reply).world.phase ≡ a.world.phase
      of_step (heap.Plain plain.EndMark) none = absurd none
      of_step asked none = outcome_phase a asked reply none

  -- so the phase stays
  phase_stays : (row : Row) → IsMiddle row.step → base b ≡ base_after a row → b.world.phase ≡ a.world.phase
  phase_stays row middle is = of_refusal (refuses row.reply) is
    where
      of_refusal : (refused : Bool)
          → base b ≡ (if refused then base a else base (led (heap_step a.world row.step) row.step row.reply))
          → b.world.phase ≡ a.world.phase
      of_refusal true same = ap (λ (s : State). s.world.phase) same
      of_refusal false same =
          ap (λ (s : State). s.world.phase) same
          ∙ led_phase (heap_step a.world row.step) row.step row.reply (asks_no_phase a.world row.step middle)

-- whether a state marks, and whether it clears
abbrev SameFlags : State → State → Type 0
SameFlags a b =
    (is_in b.world.phase Marking ≡ is_in a.world.phase Marking)
    × (is_in b.world.phase Clearing ≡ is_in a.world.phase Clearing)

same_flags : (a b : State) → b.world.phase ≡ a.world.phase → SameFlags a b
same_flags a b same =
    (ap (λ (q : Phase). is_in q Marking) same, ap (λ (q : Phase). is_in q Clearing) same)

-- who sweeps neither marks nor clears
sweeps_alone : (q : Phase) → is_in q Sweeping ≡ true → (is_in q Marking ≡ false) × (is_in q Clearing ≡ false)
sweeps_alone Sweeping is = (refl, refl)
sweeps_alone q is = absurd cc

module _ (p : Profile) (a b : State) where
  swept_flags : (reply : Reply) (fault : Option Fault) → plain_refusal a plain.EndSweep ≡ fault
      → IsRowAs p a (plain_row plain.EndSweep reply) b → SameFlags a b
  swept_flags reply (Some fault) is h =
      same_flags a b (ap (λ (s : State). s.world.phase)
      (subst (λ (f : Option Fault). IsAnswerAs p a f (steps.Plain plain.EndSweep) reply b) is h).1)
  swept_flags reply None is h =
      let row = plain_accepted_as p a b plain.EndSweep reply is h in
      let idle : b.world.phase ≡ Idle =
      ap (λ (s : State). s.world.phase) row.1 ∙ ap (λ (w : World). w.phase) (ticked_world (sweep_ended a)) in
      let before = sweeps_alone a.world.phase (sweeping (is_in a.world.phase Sweeping) _ is) in (
        ap (λ (q : Phase). is_in q Marking) idle ∙ sym before.0,
        ap (λ (q : Phase). is_in q Clearing) idle ∙ sym
            before.1,
      )
    where
      sweeping : (sweeps : Bool) (later : Option Fault) → unless sweeps Fault.WrongPhase later ≡ None → sweeps ≡ true
      sweeping true later none = refl
      sweeping false later none = absurd cc

  begun_flags : (now : ℕ) (how : _) (result : Result Reply Fault)
      → is_anew a (steps.Plain (plain.Begin now how)) result ≡ false
      → IsRowAs p a (plain_row (plain.Begin now how) (reply_of_result result)) b
      → (fault : Option Fault) → plain_refusal a (plain.Begin now how) ≡ fault → SameFlags a b
  begun_flags now how result none h (Some fault) is =
      same_flags a b (ap (λ (s : State). s.world.phase)
      (subst (λ (f : Option Fault). IsAnswerAs p a f (steps.Plain (plain.Begin now how)) (reply_of_result result) b) is
      h).1)
  begun_flags now how (Ok (replies.Refused fault)) none h None is =
      absurd (no_cycle (plain_accepted_as p a b (plain.Begin now how) (replies.Refused fault) is h).1.0)
  begun_flags now how (Ok reply) none h None is = absurd (true≢false none)
  begun_flags now how (Err fault) none h None is =
      absurd (no_cycle (plain_accepted_as p a b (plain.Begin now how) (replies.Refused fault) is h).1.0)

  pub flags_stay : (step : Step) (result : Result Reply Fault) → has_one step ≡ true → is_anew a step result ≡ false
      → IsRowAs p a (record { step = step; reply = reply_of_result result }) b → SameFlags a b
  flags_stay (steps.Plain (plain.Begin now how)) result one none h =
      begun_flags now how result none h (plain_refusal a (plain.Begin now how)) refl
  flags_stay (steps.Plain plain.EndSweep) result one none h =
      swept_flags (reply_of_result result) (plain_refusal a plain.EndSweep) refl h
  flags_stay (steps.Plain plain.EndMark) result one none h = absurd cc
  flags_stay (steps.Plain plain.EndClear) result one none h = absurd cc
  flags_stay (steps.Plain plain.Select) result one none h = absurd cc
  flags_stay (steps.Plain plain.EndMove) result one none h = absurd cc
  flags_stay step result one none h =
      let row : Row = record { step = step; reply = reply_of_result result } in
      same_flags a b (phase_stays a b row tt (one_base_as p a b row h))

-- ---- what a judge makes of them

-- in a mark some state fits
some_fits : (a : State) (may_left may_none : Bool) → (may_left || may_none) ≡ true
    → (s : State) × Fits a may_left may_none s
some_fits a true may_none is = (saying a true, (true, refl, refl))
some_fits a false true is = (saying a false, (false, refl, refl))
some_fits a false false is = absurd (false≢true is)

-- a row that says anew, in a mark or as one begins
record IsAnew (old new : Judged) (a b : State) (step : PlainStep) (reply : Reply) : Type 0 where
  pub leads : LeadsAnew old.profile a b step reply new.may_be_left
  pub after : is_in new.phase Marking ≡ true
  pub before :
      (is_in old.phase Marking ≡ true) ⊎ ((is_in old.phase Marking ≡ false) × (is_in old.phase Clearing ≡ false))

-- what fits then may be said
said_before : (old : Judged) (a s : State)
    → (is_in old.phase Marking ≡ true) ⊎ ((is_in old.phase Marking ≡ false) × (is_in old.phase Clearing ≡ false))
    → FitsIt old a s → (may_left : Bool) × (may_none : Bool) × Fits a may_left may_none s
said_before old a s (inl marks) fits = (
  old.may_be_left,
  old.may_be_none,
  subst (λ (m : Bool). FitsIn m (is_in old.phase Clearing) old a s) marks fits,
)
said_before old a s (inr others) fits =
    let alone : s ≡ a =
    subst (λ (c : Bool). FitsIn false c old a s) others.1
    (subst (λ (m : Bool). FitsIn m (is_in old.phase Clearing) old a s) others.0 fits) in
    (true, true, subst (λ (u : State). Fits a true true u) (sym alone) (itself a))

module _ (old new : Judged) (a b : State) (step : PlainStep) (reply : Reply) (stands : StandsFor new b)
    (none : new.may_be_none ≡ true) (leads : LeadsAnew old.profile a b step reply new.may_be_left)
    (after : is_in new.phase Marking ≡ true) where
  -- what may be said afterwards fits
  now_fits : (t : State) → Fits b new.may_be_left true t → FitsIt new b t
  now_fits t fits =
      subst (λ (m : Bool). FitsIn m (is_in new.phase Clearing) new b t) (sym after)
      (subst (λ (n : Bool). Fits b new.may_be_left n t) (sym none) fits)

  fits_now : (t : State) → FitsIt new b t → Fits b new.may_be_left true t
  fits_now t fits =
      subst (λ (n : Bool). Fits b new.may_be_left n t) none
      (subst (λ (m : Bool). FitsIn m (is_in new.phase Clearing) new b t) after fits)

  -- in a mark
  anew_in_mark : is_in old.phase Marking ≡ true → (old.may_be_left || old.may_be_none) ≡ true
      → LeadsOn old new (plain_row step reply) a
  anew_in_mark before may = record {
    state = b;
    stands = stands;
    on = λ s t fits row.
        now_fits t (leads.on s t old.may_be_left old.may_be_none
        (subst (λ (m : Bool). FitsIn m (is_in old.phase Clearing) old a s) before fits) row);
    back = λ t fits.
        let some = some_fits a old.may_be_left old.may_be_none may in (
          some.0,
          subst (λ (m : Bool). FitsIn m (is_in old.phase Clearing) old a some.0) (sym before) some.1,
          leads.back some.0 t old.may_be_left old.may_be_none some.1 (fits_now t fits),
        );
  }

  -- as a mark begins
  anew_begun : is_in old.phase Marking ≡ false → is_in old.phase Clearing ≡ false
      → LeadsOn old new (plain_row step reply) a
  anew_begun marks clears = record {
    state = b;
    stands = stands;
    on = λ s t fits row. now_fits t (leads.on s t true true (at_first s (alone s fits)) row);
    back = λ t fits. (a, only a refl, leads.back a t true true (itself a) (fits_now t fits));
  }
    where
      alone : (s : State) → FitsIt old a s → s ≡ a
      alone s fits =
          subst (λ (c : Bool). FitsIn false c old a s) clears
          (subst (λ (m : Bool). FitsIn m (is_in old.phase Clearing) old a s) marks fits)

      only : (s : State) → s ≡ a → FitsIt old a s
      only s is =
          subst (λ (m : Bool). FitsIn m (is_in old.phase Clearing) old a s) (sym marks)
          (subst (λ (c : Bool). FitsIn false c old a s) (sym clears) is)

      at_first : (s : State) → s ≡ a → Fits a true true s
      at_first s is = subst (λ (u : State). Fits a true true u) (sym is) (itself a)

-- an object that is told in a mark isn't refused
object_accepted : (p : Profile) (a b : State) (step : PlainStep) (n : ℕ) (fault : Option Fault)
    → plain_refusal a step ≡ fault → IsRowAs p a (plain_row step (replies.Object n)) b → fault ≡ None
object_accepted p a b step n None is h = refl
object_accepted p a b step n (Some fault) is h =
    absurd (no_object (subst (λ (f : Option Fault). IsAnswerAs p a f (steps.Plain step) (replies.Object n) b) is h).0)
  where
    no_object : {n : ℕ} {fault : Fault} → replies.Object n ≡ replies.Refused fault → ⊥
    no_object is = absurd cc

cycle_accepted : (p : Profile) (a b : State) (step : PlainStep) (n : ℕ) (fault : Option Fault)
    → plain_refusal a step ≡ fault → IsRowAs p a (plain_row step (replies.Cycle n)) b → fault ≡ None
cycle_accepted p a b step n None is h = refl
cycle_accepted p a b step n (Some fault) is h =
    absurd (no_number (subst (λ (f : Option Fault). IsAnswerAs p a f (steps.Plain step) (replies.Cycle n) b) is h).0)
  where
    no_number : {n : ℕ} {fault : Fault} → replies.Cycle n ≡ replies.Refused fault → ⊥
    no_number is = absurd cc

-- a step that says nothing anew
other_says : (a : State) (step : PlainStep) (reply : Reply) → says_anew a step reply ≡ false
    → is_anew a (steps.Plain step) (Ok reply) ≡ false
other_says a step (replies.Refused fault) is = refl
other_says a step reply is = is

-- both tests hold where their conjunction does
marks_of : (marks told : Bool) → (marks && told) ≡ true → marks ≡ true
marks_of true told is = refl
marks_of false told is = absurd (false≢true is)

none_told : (marks : Bool) → (marks && false) ≡ true → ⊥
none_told true is = absurd (false≢true is)
none_told false is = absurd (false≢true is)

-- who is idle neither marks nor clears
idle_alone : (q : Phase) → is_in q Idle ≡ true → (is_in q Marking ≡ false) × (is_in q Clearing ≡ false)
idle_alone Idle is = (refl, refl)
idle_alone q is = absurd cc

idle_of : (idle : Bool) (later : Option Fault) → unless idle Fault.WrongPhase later ≡ None → idle ≡ true
idle_of true later none = refl
idle_of false later none = absurd cc

module _ (old new : Judged) (settled : IsSettled old) (a : State) (stands : StandsFor old a) where
  -- whether the judge's phase is that of the state, before and after
  marks_old : is_in old.phase Marking ≡ is_in a.world.phase Marking
  marks_old = ap (λ (q : Phase). is_in q Marking) stands.phase

  clears_old : is_in old.phase Clearing ≡ is_in a.world.phase Clearing
  clears_old = ap (λ (q : Phase). is_in q Clearing) stands.phase

  marks_new : (b : State) → StandsFor new b → is_in new.phase Marking ≡ is_in b.world.phase Marking
  marks_new b after = ap (λ (q : Phase). is_in q Marking) after.phase

  -- a row that says nothing anew
  kept_told : (step : Step) (result : Result Reply Fault) → has_one step ≡ true
      → (leads : LeadsOne old step result new a) → is_anew a step result ≡ false
      → LeadsOn old new (record { step = step; reply = reply_of_result result }) a
  kept_told step result one leads none =
      let b : State = leads.state in
      let flags = flags_stay old.profile a b step result one none leads.row in
      kept_leads old new (record { step = step; reply = reply_of_result result }) a b
      (reads_none old.profile a b step result one none leads.row) leads.row
      (subst (λ (anew : Bool). SaysRightly anew old new b) none leads.says) leads.stands
      (marks_new b leads.stands ∙ flags.0 ∙ sym marks_old)
      (ap (λ (q : Phase). is_in q Clearing) leads.stands.phase ∙ flags.1 ∙ sym clears_old)

  -- what a row that says anew says
  anew_says : (step : PlainStep) (result : Result Reply Fault) (leads : LeadsOne old (steps.Plain step) result new a)
      → is_anew a (steps.Plain step) result ≡ true → SaysRightly true old new leads.state
  anew_says step result leads is = subst (λ (anew : Bool). SaysRightly anew old new leads.state) is leads.says

  -- such a row comes in a mark or begins one, and says what fits
  object_told : (step : PlainStep) (n : ℕ) (leads : LeadsOne old (steps.Plain step) (Ok (replies.Object n)) new a)
      → is_in a.world.phase Marking ≡ true → EndsNoPhase (heap.Plain step)
      → LeadsAnew old.profile a leads.state step (replies.Object n) new.may_be_left
      → IsAnew old new a leads.state step (replies.Object n)
  object_told step n leads marks middle anew =
      let b : State = leads.state in
      let row : Row = plain_row step (replies.Object n) in
      let stays = phase_stays a b row middle (one_base_as old.profile a b row leads.row) in
      let before : is_in old.phase Marking ≡ true = marks_old ∙ marks in record {
        leads = anew;
        after = marks_new b leads.stands ∙ ap (λ (q : Phase). is_in q Marking) stays ∙ marks;
        before = inl before;
      }

  anew_told : (step : PlainStep) (reply : Reply) → (leads : LeadsOne old (steps.Plain step) (Ok reply) new a)
      → is_anew a (steps.Plain step) (Ok reply) ≡ true → IsAnew old new a leads.state step reply
  anew_told (plain.Load m d s i) (replies.Object n) leads is =
      let marks = marks_of (is_in a.world.phase Marking) true is in
      let load = plain.Load m d s i in
      object_told load n leads marks tt
      (load_leads old.profile a leads.state new.may_be_left (anew_says load (Ok (replies.Object n)) leads is).1 m d s i
      n
      marks (object_accepted old.profile a leads.state load n (plain_refusal a load) refl leads.row) leads.row)
  anew_told (plain.Get m d s) (replies.Object n) leads is =
      let marks = marks_of (is_in a.world.phase Marking) true is in
      let get = plain.Get m d s in
      object_told get n leads marks tt
      (get_leads old.profile a leads.state new.may_be_left (anew_says get (Ok (replies.Object n)) leads is).1 m d s n
      marks (object_accepted old.profile a leads.state get n (plain_refusal a get) refl leads.row) leads.row)
  anew_told (plain.Load m d s i) (replies.Refused fault) leads is = absurd (false≢true is)
  anew_told (plain.Load m d s i) reply leads is = absurd (none_told (is_in a.world.phase Marking) is)
  anew_told (plain.Get m d s) (replies.Refused fault) leads is = absurd (false≢true is)
  anew_told (plain.Get m d s) reply leads is = absurd (none_told (is_in a.world.phase Marking) is)
  anew_told (plain.Begin now how) reply leads is = of_refusal (plain_refusal a begin) refl
    where
      begin : PlainStep
      begin = plain.Begin now how

      of_refusal : (fault : Option Fault) → plain_refusal a begin ≡ fault → IsAnew old new a leads.state begin reply
      of_refusal (Some fault) refused =
          let told : reply ≡ replies.Refused fault =
          (subst (λ (f : Option Fault). IsAnswerAs old.profile a f (steps.Plain begin) reply leads.state) refused
          leads.row).0 in
          absurd (false≢true (subst (λ (r : Reply). is_anew a (steps.Plain begin) (Ok r) ≡ true) told is))
      of_refusal None none =
          let b : State = leads.state in
          let says = anew_says begin (Ok reply) leads is in
          let but = begin_but_as old.profile a a b now how reply true true none (itself a) leads.row in
          let idle = idle_alone a.world.phase (idle_of (is_in a.world.phase Idle) _ none) in record {
            leads = begin_leads old.profile a b new.may_be_left says.1 now how reply none leads.row;
            after = marks_new b leads.stands ∙ ap (λ (s : State). is_in s.world.phase Marking) but.1.1
                ∙ ap (λ (w : World). is_in w.phase Marking) (ticked_world (begun_to a now how));
            before = inr (marks_old ∙ idle.0, clears_old ∙ idle.1);
          }
  anew_told step reply leads is = absurd (false≢true (sym (other_says a step reply refl) ∙ is))

  -- with its one answer, a row leads the states that fit on
  pub told : (step : Step) (result : Result Reply Fault) → has_one step ≡ true → LeadsOne old step result new a
      → LeadsOn old new (record { step = step; reply = reply_of_result result }) a
  told step result one leads =
      elim (cases_Bool (is_anew a step result)) [
        | inl anew ↦ of_anew step result leads anew
        | inr none ↦ kept_told step result one leads none
      ]
    where
      of_anew : (step : Step) (result : Result Reply Fault) → LeadsOne old step result new a
          → is_anew a step result ≡ true → LeadsOn old new (record { step = step; reply = reply_of_result result }) a
      of_anew (steps.Plain step) (Ok reply) leads anew =
          let is = anew_told step reply leads anew in
          let b : State = leads.state in
          let none = (anew_says step (Ok reply) leads anew).0 in
          elim is.before [
            | inl marks ↦ anew_in_mark old new a b step reply leads.stands none is.leads is.after marks
                (settled.may marks)
            | inr others ↦ anew_begun old new a b step reply leads.stands none is.leads is.after others.0 others.1
          ]
      of_anew (steps.Plain step) (Err fault) leads anew = absurd (false≢true anew)
      of_anew step result leads anew = absurd (false≢true anew)

-- and with another no state that fits has it: each that fits has the one answer
module _ (old new : Judged) (settled : IsSettled old) (a : State) (stands : StandsFor old a) where
  pub told_none : (step : Step) (result : Result Reply Fault) (other : Reply) → has_one step ≡ true
      → LeadsOne old step result new a → (reply_of_result result ≡ other → ⊥)
      → HasNone old (record { step = step; reply = other }) a
  told_none step result other one leads differ s t fits row =
      elim (cases_Bool (is_anew a step result)) [
        | inl anew ↦ of_anew step result leads anew one differ row
        | inr none ↦
            kept_none old a leads.state step (reply_of_result result) other one
            (reads_none old.profile a leads.state step result one none leads.row) leads.row differ s t fits row
      ]
    where
      of_anew : (step : Step) (result : Result Reply Fault) (leads : LeadsOne old step result new a)
          → is_anew a step result ≡ true → has_one step ≡ true → (reply_of_result result ≡ other → ⊥)
          → IsRowAs old.profile s (record { step = step; reply = other }) t → ⊥
      of_anew (steps.Plain step) (Ok reply) leads anew one differ row =
          let is = anew_told old new settled a stands step reply leads anew in
          let b : State = leads.state in
          let (l, n, said) = said_before old a s is.before fits in
          differ (one_answer old.profile s reply other (steps.Plain step) (saying b false) t one
          (is.leads.back s (saying b false) l n said (false, refl, refl)) row)
      of_anew (steps.Plain step) (Err fault) leads anew one differ row = false≢true anew
      of_anew step result leads anew one differ row = false≢true anew

-- So with its one answer the step's row is taken, and with no other.
pub does_alone : (old new : Judged) (step : Step) (result : Result Reply Fault) (answer : Reply) → IsSettled old
    → has_one step ≡ true → DoesAs old step result new → answer ≡ reply_of_result result
    → IsOneAnswer old step answer new
does_alone old new step result answer settled one does is =
    subst (λ (r : Reply). IsOneAnswer old step r new) (sym is) (record {
      taken = (does.0, does.1, λ a stands fits. told old new settled a stands step result one (does.2 a stands));
      alone = λ other differ a stands.
          told_none old new settled a stands step result other one (does.2 a stands) differ;
    })
