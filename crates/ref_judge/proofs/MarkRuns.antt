-- What holds of each state: numbers rise; and in a mark what was ever there in it is there, and so is each object that
-- was made in it.
use Rattle.ref_base.proofs.Common.{arith, ◌≡◌, ℕ, ◌+◌, ◌<◌, Bool, true, false, if◌then◌else◌, List, [], ◌∷◌, ◌++◌}
use Rattle.ref_base.proofs.Common.{Option, Some, None, refl, sym, ap, ◌∙◌, subst, inl, inr, ◌⊎◌, false≢true, Object}
use Rattle.ref_base.proofs.Common.{State, World, is_there, numbers, IsRising, is_in, has, ticked, with_world, with_heap}
use Rattle.ref_base.proofs.Common.{made, nulls, plain_object, new_reference, slot_at, heap_step, NamedStep, refusal}
use Rattle.ref_base.proofs.Common.{after_queues, cases_Bool, handed, heap_refusal, is_done, is_selected, with_handed}
use Rattle.ref_base.proofs.Common.{Notice, hand_of, spending}
use Rattle.std.specs.Prelude.{◌≤◌}
use Rattle.ref_base.specs.CollectorRows.{Makes}
use Rattle.ref_base.specs.Refusals.{plain_refusal}
use Rattle.ref_base.specs.declared.actor.Actor.TheVariants.{Mutator}
use Rattle.ref_base.specs.declared.config.Config.{Config}
use Rattle.ref_base.specs.declared.fault.Fault.{Fault}
use Rattle.ref_base.specs.declared.phase.Phase.{Phase}
use Rattle.ref_base.specs.declared.phase.Phase.TheVariants.{Idle, Marking, Clearing, Sweeping, Moving}
use Rattle.ref_base.specs.declared.row.Row.{Row}
use Rattle.ref_base.specs.declared.reply.Reply.{Reply}
use Rattle.ref_base.specs.declared.step.Step.{Step}
use Rattle.ref_base.specs.declared.step.Step.TheVariants as steps
use Rattle.ref_base.specs.declared.heap_step.HeapStep.TheVariants as heap
use Rattle.ref_base.specs.declared.plain_step.PlainStep.{PlainStep}
use Rattle.ref_base.specs.declared.plain_step.PlainStep.TheVariants as plain
use Rattle.ref_base.proofs.Bases.{base, refuses, lead_of}
use Rattle.ref_base.proofs.EverRows.{InMark}
use Rattle.ref_base.proofs.OutcomeParts.{outcome_phase}
use Rattle.ref_base.specs.declared.urgency.Urgency.{Urgency}
use Rattle.ref_base.proofs.Fitting.{saying, begun_to}
use Rattle.ref_base.proofs.Lookups.{is_there-has}
use Rattle.ref_base.proofs.PhaseLaws.{of_phase}
use Rattle.ref_base.proofs.PlainRows.{plain_row}
use Rattle.ref_base.proofs.ReplayKeeps.{MakesNone, but_hands, handed_keeps, queues_keep, numbers_same}
use Rattle.ref_base.proofs.RowForms.{ticked_world}
use Rattle.ref_judge.specs.ProfiledRows.{IsRowAs, IsAnswerAs}
use Rattle.ref_judge.specs.Standing.{Lawful}
use Rattle.ref_judge.specs.declared.profile.Profile.{Profile}
use Rattle.ref_judge.proofs.LawfulRuns.{lawful_holds}
use Rattle.ref_judge.proofs.LawfulStates.{lawful_live}
use Rattle.ref_judge.proofs.MoreKept.{IsAllThere, IsMarkStep, AsksInMark, asks_in_mark, led_phase, all_there_row}
use Rattle.ref_judge.proofs.MoreKept.{all_there_begun}
use Rattle.ref_judge.proofs.ProfiledBases.{one_base_as}
use Rattle.ref_judge.proofs.UnchangedRows.{plain_accepted_as}

-- what was made in this mark is there
abbrev pub IsYoungThere : State → Type 0
IsYoungThere a = (n : ℕ) → a.born ≤ n → n < a.next → is_there a.world.heap.objects n ≡ true

abbrev pub IsWhole : State → Type 0
IsWhole a = a.world.phase ≡ Marking → IsAllThere a × IsYoungThere a

-- ---- what was made in the mark

-- where a row leads that isn't refused
abbrev lead_to : State → Option NamedStep → Step → Reply → State
lead_to a None step reply = ticked (with_world a (after_queues a.world step reply))
lead_to a (Some asked) step reply = with_handed (ticked (lead_of a asked reply)) step reply

-- what is asked of the heap, if anything, makes none
abbrev AsksNoMaking : Option NamedStep → Type 0
AsksNoMaking None = Unit {0}
AsksNoMaking (Some asked) = MakesNone asked

abbrev MakesNoObject : Step → Type 0
MakesNoObject (steps.Plain step) = MakesNone (heap.Plain step)
MakesNoObject step = Unit {0}

asks_no_making : (w : World) (step : Step) → MakesNoObject step → AsksNoMaking (heap_step w step)
asks_no_making w (steps.Plain step) none = none
asks_no_making w (steps.Adopt m d) none = of_hand (hand_of w (Mutator m))
  where
    of_hand : (hand : List Notice) → AsksNoMaking (spending w (λ hold. heap.Adopt m d hold) hand)
    of_hand [] = tt
    of_hand (notice ∷ rest) = tt
asks_no_making w (steps.Release who) none = of_hand (hand_of w who)
  where
    of_hand : (hand : List Notice) → AsksNoMaking (spending w (λ hold. heap.Release hold) hand)
    of_hand [] = tt
    of_hand (notice ∷ rest) = tt
asks_no_making w step none = tt

-- the numbers that are there, those that were given before the mark and till now, and the phase are as before
abbrev SameYoung : State → State → Type 0
SameYoung a b =
    (numbers b.world.heap.objects ≡ numbers a.world.heap.objects) × (b.next ≡ a.next) × (b.born ≡ a.born)
    × (b.world.phase ≡ a.world.phase)

young_led : (a : State) (step : NamedStep) (reply : Reply) → InMark step → MakesNone step
    → SameYoung a (lead_of a step reply)
young_led a (heap.Plain (plain.New m d k)) reply inside none = absurd none
young_led a (heap.Plain (plain.Refer m strength d s q k)) reply inside none = absurd none
young_led a (heap.Plain (plain.Begin now how)) reply inside none = absurd inside
young_led a (heap.Plain plain.EndMark) reply inside none = absurd inside
young_led a (heap.Plain (plain.ClearNext k)) reply inside none = absurd inside
young_led a (heap.Plain plain.EndClear) reply inside none = absurd inside
young_led a (heap.Plain (plain.Sweep k)) reply inside none = absurd inside
young_led a (heap.Plain plain.EndSweep) reply inside none = absurd inside
young_led a (heap.Plain plain.Select) reply inside none = absurd inside
young_led a (heap.Plain (plain.MoveNext k)) reply inside none = absurd inside
young_led a (heap.Plain plain.EndMove) reply inside none = absurd inside
young_led a (heap.Plain (plain.Scan k)) reply inside none = (refl, refl, refl, refl)
young_led a step reply inside none =
    (numbers_same a.world step reply tt, refl, refl, led_phase a step reply inside)

young_ticked : (c : State) → SameYoung c (ticked c)
young_ticked c =
    elim (cases_Bool (is_in c.world.phase Marking)) [
      | inl marks ↦ simp marks (refl, refl, refl, refl)
      | inr other ↦ simp other (refl, refl, refl, refl)
    ]

-- another world in hands and queues
young_beside : (c : State) (w : World) → but_hands w ≡ but_hands c.world → SameYoung c (with_world c w)
young_beside c w same = (
  ap (λ (v : World). numbers v.heap.objects) same,
  refl,
  refl,
  ap (λ (v : World). v.phase) same,
)

young_twice : (a b c : State) → SameYoung a b → SameYoung b c → SameYoung a c
young_twice a b c first second =
    (second.0 ∙ first.0, second.1 ∙ first.1, second.2 ∙ first.2, second.3 ∙ first.3)

young_lead : (a : State) (asked : Option NamedStep) (step : Step) (reply : Reply) → AsksInMark asked
    → AsksNoMaking asked → SameYoung a (lead_to a asked step reply)
young_lead a None step reply inside none =
    let c : State = with_world a (after_queues a.world step reply) in
    young_twice a c (ticked c) (young_beside a c.world (queues_keep a.world step reply)) (young_ticked c)
young_lead a (Some asked) step reply inside none =
    let c : State = lead_of a asked reply in
    young_twice a (ticked c) (with_handed (ticked c) step reply)
    (young_twice a c (ticked c) (young_led a asked reply inside none) (young_ticked c))
    (young_beside (ticked c) (handed (ticked c).world step reply) (handed_keeps (ticked c).world step reply))

young_base : (a b c : State) → base b ≡ base c → SameYoung a c → SameYoung a b
young_base a b c is same =
    young_twice a c b same (
      ap (λ (s : State). numbers s.world.heap.objects) is,
      ap (λ (s : State). s.next) is,
      ap (λ (s : State). s.born) is,
      ap (λ (s : State). s.world.phase) is,
    )

-- a row of a mark that makes none leaves them
young_row : (p : Profile) (a b : State) (row : Row) → IsMarkStep row.step → MakesNoObject row.step
    → IsRowAs p a row b → SameYoung a b
young_row p a b row inside none h = of_refusal (refuses row.reply) (one_base_as p a b row h)
  where
    of_refusal : (refused : Bool)
        → base b ≡ (if refused then base a else base (lead_to a (heap_step a.world row.step) row.step row.reply))
        → SameYoung a b
    of_refusal true is = young_base a b a is (refl, refl, refl, refl)
    of_refusal false is =
        young_base a b (lead_to a (heap_step a.world row.step) row.step row.reply) is
        (young_lead a (heap_step a.world row.step) row.step row.reply (asks_in_mark a.world row.step inside)
        (asks_no_making a.world row.step none))

young_stays : (a b : State) → SameYoung a b → IsYoungThere a → IsYoungThere b
young_stays a b same young n least most =
    is_there-has b.world.heap.objects n ∙ ap (λ ns. has ns n) same.0 ∙ sym (is_there-has a.world.heap.objects n)
    ∙ young n (subst (λ (k : ℕ). k ≤ n) same.2 least) (subst (λ (k : ℕ). n < k) same.1 most)

pushed_there : (os : List Object) (o : Object) (n : ℕ) → (is_there os n ≡ true) ⊎ (o.no ≡ n)
    → is_there (os ++ o ∷ []) n ≡ true
pushed_there [] o n (inl there) = absurd (false≢true there)
pushed_there [] o n (inr same) = grind arith
pushed_there (p ∷ os) o n either = grind (arith, pushed_there os o n)

-- ---- a mark's rows

whole_in_mark : (p : Profile) (a b : State) (row : Row) → IsMarkStep row.step → MakesNoObject row.step → IsWhole a
    → IsRowAs p a row b → IsWhole b
whole_in_mark p a b row inside none whole h =
    let same = young_row p a b row inside none h in
    λ marks.
    let was : a.world.phase ≡ Marking = sym same.3 ∙ marks in
    let there = whole was in (all_there_row p a b row was inside there.0 h, young_stays a b same there.1)

-- a making
module _ (p : Profile) (a b : State) (whole : IsWhole a) where
  whole_made : (row : Row) (m d : ℕ) (o : Object) (reply : Reply) → o.no ≡ a.next → IsMarkStep row.step
      → IsRowAs p a row b → Makes a m d o reply b → IsWhole b
  whole_made row m d o reply number inside h makes =
      let c : State = record a { world = with_heap a.world (made a.world.heap m d o); next = a.next + 1 } in
      let same : SameYoung c b = subst (λ (s : State). SameYoung c s) (sym makes.1) (young_ticked c) in
      λ marks.
      let was : a.world.phase ≡ Marking = sym same.3 ∙ marks in
      let there = whole was in
      (all_there_row p a b row was inside there.0 h, young_stays c b same (young_made o number there.1))
    where
      young_made : (o : Object) → o.no ≡ a.next → IsYoungThere a → (n : ℕ) → a.born ≤ n → n < a.next + 1
          → is_there (a.world.heap.objects ++ o ∷ []) n ≡ true
      young_made o number young n least most =
          grind (arith, pushed_there a.world.heap.objects o n, young n least, number)

-- a begin
module _ (p : Profile) (a b : State) where
  whole_begun : (now : ℕ) (how : Urgency) (reply : Reply) → plain_refusal a (plain.Begin now how) ≡ None
      → IsRowAs p a (plain_row (plain.Begin now how) reply) b → IsWhole b
  whole_begun now how reply none h =
      let (c, given, but) = plain_accepted_as p a b (plain.Begin now how) reply none h in
      let first : State = ticked (begun_to a now how) in
      let same : b ≡ saying first but.0 = but.1 ∙ ap (λ (s : State). saying s but.0) given.1.1 in
      λ marks. (
        all_there_begun p a b now how reply none h,
        λ n least most.
            absurd (none_made n (subst (λ (s : State). s.born ≤ n) same least)
            (subst (λ (s : State). n < s.next) same most)),
      )
    where
      none_made : (n : ℕ) → a.next ≤ n → n < a.next → ⊥
      none_made n least most = omega (arith, least, most)

-- ---- rows past a mark

-- the step comes past a mark
abbrev Leaves : NamedStep → Type 0
Leaves (heap.Plain (plain.ClearNext k)) = Unit {0}
Leaves (heap.Plain plain.EndClear) = Unit {0}
Leaves (heap.Plain (plain.Sweep k)) = Unit {0}
Leaves (heap.Plain plain.EndSweep) = Unit {0}
Leaves (heap.Plain plain.Select) = Unit {0}
Leaves (heap.Plain (plain.MoveNext k)) = Unit {0}
Leaves (heap.Plain plain.EndMove) = Unit {0}
Leaves step = ⊥

off : (p q : Phase) → p ≡ q → is_in q Marking ≡ false → is_in p Marking ≡ false
off p q same is = ap (λ (r : Phase). is_in r Marking) same ∙ is

done_off : (done : Bool) (w : World) (p : Phase) → is_in p Marking ≡ false → is_in w.phase Marking ≡ false
    → is_in (if done then record w { phase = p } else w).phase Marking ≡ false
done_off true w p new old = new
done_off false w p new old = old

was_off : (a : State) (step : NamedStep) → Leaves step → heap_refusal a step ≡ None
    → is_in a.world.phase Marking ≡ false
was_off a (heap.Plain (plain.ClearNext k)) leaves none =
    off a.world.phase Clearing (of_phase a (heap.Plain (plain.ClearNext k)) none) refl
was_off a (heap.Plain plain.EndClear) leaves none =
    off a.world.phase Clearing (of_phase a (heap.Plain plain.EndClear) none).0 refl
was_off a (heap.Plain (plain.Sweep k)) leaves none =
    off a.world.phase Sweeping (of_phase a (heap.Plain (plain.Sweep k)) none) refl
was_off a (heap.Plain plain.EndSweep) leaves none =
    off a.world.phase Sweeping (of_phase a (heap.Plain plain.EndSweep) none).0 refl
was_off a (heap.Plain plain.Select) leaves none =
    off a.world.phase Idle (of_phase a (heap.Plain plain.Select) none).0 refl
was_off a (heap.Plain (plain.MoveNext k)) leaves none =
    off a.world.phase Moving (of_phase a (heap.Plain (plain.MoveNext k)) none) refl
was_off a (heap.Plain plain.EndMove) leaves none =
    off a.world.phase Moving (of_phase a (heap.Plain plain.EndMove) none) refl
was_off a step leaves none = absurd leaves

-- they lead to no mark
leads_off : (a : State) (step : NamedStep) (reply : Reply) → Leaves step → heap_refusal a step ≡ None
    → is_in (lead_of a step reply).world.phase Marking ≡ false
leads_off a (heap.Plain plain.EndClear) reply leaves none =
    done_off (is_done reply) a.world Sweeping refl (was_off a (heap.Plain plain.EndClear) leaves none)
leads_off a (heap.Plain plain.EndSweep) reply leaves none =
    done_off (is_done reply) a.world Idle refl (was_off a (heap.Plain plain.EndSweep) leaves none)
leads_off a (heap.Plain plain.Select) reply leaves none =
    done_off (is_selected reply) a.world Moving refl (was_off a (heap.Plain plain.Select) leaves none)
leads_off a (heap.Plain plain.EndMove) reply leaves none =
    done_off (is_done reply) a.world Idle refl (was_off a (heap.Plain plain.EndMove) leaves none)
leads_off a (heap.Plain (plain.ClearNext k)) reply leaves none =
    off _ a.world.phase (outcome_phase a (heap.Plain (plain.ClearNext k)) reply tt)
    (was_off a (heap.Plain (plain.ClearNext k)) leaves none)
leads_off a (heap.Plain (plain.Sweep k)) reply leaves none =
    off _ a.world.phase (outcome_phase a (heap.Plain (plain.Sweep k)) reply tt)
    (was_off a (heap.Plain (plain.Sweep k)) leaves none)
leads_off a (heap.Plain (plain.MoveNext k)) reply leaves none =
    off _ a.world.phase (outcome_phase a (heap.Plain (plain.MoveNext k)) reply tt)
    (was_off a (heap.Plain (plain.MoveNext k)) leaves none)
leads_off a step reply leaves none = absurd leaves

whole_off : (p : Profile) (a b : State) (step : PlainStep) (reply : Reply) → Leaves (heap.Plain step)
    → heap_refusal a (heap.Plain step) ≡ None → IsRowAs p a (plain_row step reply) b → IsWhole b
whole_off p a b step reply leaves passes h marks =
    absurd (false≢true (sym (of_refusal (refuses reply) (one_base_as p a b (plain_row step reply) h))
    ∙ ap (λ (q : Phase). is_in q Marking) marks))
  where
    of_refusal : (refused : Bool)
        → base b ≡ (if refused then base a else base (lead_to a (Some (heap.Plain step)) (steps.Plain step) reply))
        → is_in b.world.phase Marking ≡ false
    of_refusal true is =
        off b.world.phase a.world.phase (ap (λ (s : State). s.world.phase) is)
        (was_off a (heap.Plain step) leaves passes)
    of_refusal false is =
        off b.world.phase (lead_of a (heap.Plain step) reply).world.phase
        (ap (λ (s : State). s.world.phase) is
        ∙ ap (λ (w : World). w.phase) (handed_keeps (ticked (lead_of a (heap.Plain step) reply)).world
        (steps.Plain step)
        reply)
        ∙ ap (λ (w : World). w.phase) (ticked_world (lead_of a (heap.Plain step) reply)))
        (leads_off a (heap.Plain step) reply leaves passes)

whole_ended : (p : Profile) (a b : State) (reply : Reply) → plain_refusal a plain.EndMark ≡ None
    → IsRowAs p a (plain_row plain.EndMark reply) b → IsWhole b
whole_ended p a b reply passes h marks =
    let row = plain_accepted_as p a b plain.EndMark reply passes h in
    absurd (differ (sym (ap (λ (s : State). s.world.phase) row.after) ∙ marks))
  where
    differ : Clearing ≡ Marking → ⊥
    differ same = absurd cc

-- ---- all rows

module _ (p : Profile) (a b : State) (whole : IsWhole a) where
  whole_plain : (step : PlainStep) (reply : Reply) → plain_refusal a step ≡ None
      → IsRowAs p a (plain_row step reply) b → IsWhole b
  whole_plain (plain.New m d k) reply none h =
      whole_made p a b whole (plain_row (plain.New m d k) reply) m d (plain_object a.next (nulls k)) reply refl tt
      h (plain_accepted_as p a b (plain.New m d k) reply none h)
  whole_plain (plain.Refer m strength d s q k) reply none h =
      whole_made p a b whole (plain_row (plain.Refer m strength d s q k) reply) m d
      (new_reference a.world.heap a.next strength (slot_at a.world.heap m s) q k) reply refl tt h
      (plain_accepted_as p a b (plain.Refer m strength d s q k) reply none h)
  whole_plain (plain.Begin now how) reply none h = whole_begun p a b now how reply none h
  whole_plain plain.EndMark reply none h = whole_ended p a b reply none h
  whole_plain (plain.ClearNext k) reply none h = whole_off p a b (plain.ClearNext k) reply tt none h
  whole_plain plain.EndClear reply none h = whole_off p a b plain.EndClear reply tt none h
  whole_plain (plain.Sweep k) reply none h = whole_off p a b (plain.Sweep k) reply tt none h
  whole_plain plain.EndSweep reply none h = whole_off p a b plain.EndSweep reply tt none h
  whole_plain plain.Select reply none h = whole_off p a b plain.Select reply tt none h
  whole_plain (plain.MoveNext k) reply none h = whole_off p a b (plain.MoveNext k) reply tt none h
  whole_plain plain.EndMove reply none h = whole_off p a b plain.EndMove reply tt none h
  whole_plain step reply none h = whole_in_mark p a b (plain_row step reply) tt tt whole h

  whole_step : (step : Step) (reply : Reply) → refusal a step ≡ None
      → IsRowAs p a (record { step = step; reply = reply }) b → IsWhole b
  whole_step (steps.Plain step) reply none h = whole_plain step reply none h
  whole_step step reply none h = whole_in_mark p a b (record { step = step; reply = reply }) tt tt whole h

  whole_row : (row : Row) → IsRowAs p a row b → IsWhole b
  whole_row row h = of_fault (refusal a row.step) refl h
    where
      of_fault : (fault : Option Fault) → refusal a row.step ≡ fault → IsAnswerAs p a fault row.step row.reply b
          → IsWhole b
      of_fault (Some fault) is refused = subst IsWhole (sym refused.1) whole
      of_fault None is accepted = whole_step row.step row.reply is h

lawful_whole : (p : Profile) (config : Config) (a : State) → Lawful p config a → IsWhole a
lawful_whole p config =
    lawful_holds p config IsWhole (λ marks. absurd (idle marks))
    (λ a b row lawful whole h. whole_row p a b whole row h)
  where
    idle : Idle ≡ Marking → ⊥
    idle same = absurd cc

pub lawful_rising : (p : Profile) (config : Config) (a : State) → Lawful p config a
    → IsRising (numbers a.world.heap.objects)
lawful_rising p config a lawful = (lawful_live p config a lawful).rising

pub lawful_all_there : (p : Profile) (config : Config) (a : State) → Lawful p config a
    → is_in a.world.phase Marking ≡ true → IsAllThere a × IsYoungThere a
lawful_all_there p config a lawful marks =
    lawful_whole p config a lawful (is_marking a.world.phase marks)
  where
    is_marking : (q : Phase) → is_in q Marking ≡ true → q ≡ Marking
    is_marking Marking is = refl
    is_marking q is = absurd (false≢true is)
