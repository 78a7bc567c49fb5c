-- A collector that keeps more may keep whatever is there: in a mark nothing goes away, so each object that a path ever
-- led to is there still. An object is left exactly where the mark's end would doom one.
use Rattle.ref_base.proofs.Common.{arith, ◌≡◌, ℕ, Bool, true, false, not, if◌then◌else◌, nat_lt, List, [], ◌∷◌, ◌++◌}
use Rattle.ref_base.proofs.Common.{Option, Some, None, refl, sym, ap, ◌∙◌, subst, inl, inr, ◌⊎◌, ltb-true, false≢true}
use Rattle.ref_base.proofs.Common.{has, joined, Object, Graph, Allowed, is_there, numbers, graph_of, State, World}
use Rattle.ref_base.proofs.Common.{Notice, if_any, NamedStep, heap_step, spending, hand_of, after_queues, with_handed}
use Rattle.ref_base.proofs.Common.{with_world, handed, ticked, doomed_at, IsPath, append-nil}
use Rattle.std.proofs.lemmas.Bool.{lt-ltb}
use Rattle.ref_base.specs.DoomedSets.{unscanned}
use Rattle.ref_base.specs.Refusals.{is_empty, plain_refusal}
use Rattle.ref_base.proofs.HasLaws.{has-left}
use Rattle.ref_base.proofs.Lookups.{is_there-has}
use Rattle.ref_base.proofs.RowForms.{ticked_world}
use Rattle.ref_base.proofs.OutcomeParts.{outcome_phase}
use Rattle.ref_base.proofs.ReplayKeeps.{EndsNoPhase, but_hands, handed_keeps, queues_keep, numbers_after}
use Rattle.ref_base.proofs.ReplayUnder.{made_number}
use Rattle.ref_base.proofs.Bases.{base, base_after, refuses, lead_of}
use Rattle.ref_base.proofs.PlainRows.{plain_row}
use Rattle.ref_base.proofs.Fitting.{saying, begun_to}
use Rattle.ref_base.proofs.EverRows.{InMark, leads_out, ticked_moments}
use Rattle.ref_base.specs.declared.actor.Actor.TheVariants.{Mutator}
use Rattle.ref_base.specs.declared.phase.Phase.TheVariants.{Marking}
use Rattle.ref_base.specs.declared.urgency.Urgency.{Urgency}
use Rattle.ref_base.specs.declared.row.Row.{Row}
use Rattle.ref_base.specs.declared.step.Step.{Step}
use Rattle.ref_base.specs.declared.step.Step.TheVariants as steps
use Rattle.ref_base.specs.declared.heap_step.HeapStep.TheVariants as heap
use Rattle.ref_base.specs.declared.plain_step.PlainStep.TheVariants as plain
use Rattle.ref_base.specs.declared.reply.Reply.{Reply}
use Rattle.ref_judge.specs.KeptBounds.{EverEnds, MayBeKept}
use Rattle.ref_judge.specs.ProfiledRows.{IsLeftAs, IsRowAs}
use Rattle.ref_judge.specs.declared.profile.Profile.{Profile}
use Rattle.ref_judge.proofs.UnchangedRows.{plain_accepted_as}
use Rattle.ref_judge.proofs.FittingRows.{DecidesAs}
use Rattle.ref_judge.proofs.KeptFacts.{some_member, member_some}
use Rattle.ref_judge.proofs.ProfiledBases.{one_base_as}

-- what was there at each of these moments is among these objects
abbrev pub AllIn : List Graph → List Object → Type 0
AllIn [] os = Unit {0}
AllIn (g ∷ gs) os = ((n : ℕ) → is_there g.objects n ≡ true → is_there os n ≡ true) × AllIn gs os

-- what was there at a moment of this mark is there
abbrev pub IsAllThere : State → Type 0
IsAllThere a = AllIn a.moments a.world.heap.objects

-- so each object that a path ever led to is there
pub ever_there : (allow : Allowed) (gs : List Graph) (os : List Object) (n : ℕ) → AllIn gs os → EverEnds allow gs n
    → is_there os n ≡ true
ever_there allow [] os n all ends = absurd ends
ever_there allow (g ∷ gs) os n all (inl (before, path)) = all.0 n (of_path before path)
  where
    of_path : (before : List ℕ) → IsPath allow g n before → is_there g.objects n ≡ true
    of_path [] path = path.0
    of_path (m ∷ before) path = path.0
ever_there allow (g ∷ gs) os n all (inr later) = ever_there allow gs os n all.1 later

-- where nothing goes away, all stay there
all_stay : (gs : List Graph) (os more : List Object) → ((n : ℕ) → is_there os n ≡ true → is_there more n ≡ true)
    → AllIn gs os → AllIn gs more
all_stay [] os more stay all = tt
all_stay (g ∷ gs) os more stay all = ((λ n there. stay n (all.0 n there)), all_stay gs os more stay all.1)

-- ---- what is left

-- what a mark's end dooms is there, was made before it and not scanned
doomed_member : (os : List Object) (born : ℕ) (scanned : List ℕ) (n : ℕ) → has (unscanned os born scanned) n ≡ true
    → (is_there os n ≡ true) × (nat_lt n born ≡ true) × (has scanned n ≡ false)
doomed_member [] born scanned n h = absurd (false≢true h)
doomed_member (o ∷ os) born scanned n h = grind (arith, doomed_member os born scanned n)

member_doomed : (os : List Object) (born : ℕ) (scanned : List ℕ) (n : ℕ) → is_there os n ≡ true
    → nat_lt n born ≡ true → has scanned n ≡ false → has (unscanned os born scanned) n ≡ true
member_doomed [] born scanned n there old new = absurd (false≢true there)
member_doomed (o ∷ os) born scanned n there old new = grind (arith, member_doomed os born scanned n)

-- an object is left exactly where the mark's end would doom one
pub left_decides_more : (p : Profile) (a : State) → p.keeps_more ≡ true → IsAllThere a
    → DecidesAs p (not (is_empty (doomed_at a))) a
left_decides_more p a more all = (some, one)
  where
    some : not (is_empty (doomed_at a)) ≡ true → (n : ℕ) × IsLeftAs p a n
    some is =
        let first = some_member (doomed_at a) is in
        let tells = doomed_member a.world.heap.objects a.born (joined a.scanned) first.0 first.1 in
        (first.0, (inr (more, tells.0), ltb-true first.0 a.born tells.1, tells.2))

    there : (n : ℕ) → MayBeKept p a n → is_there a.world.heap.objects n ≡ true
    there n (inl ever) = ever_there _ a.moments a.world.heap.objects n all ever
    there n (inr is) = is.1

    one : (n : ℕ) → IsLeftAs p a n → not (is_empty (doomed_at a)) ≡ true
    one n left =
        member_some (doomed_at a) n
        (member_doomed a.world.heap.objects a.born (joined a.scanned) n (there n left.0) (lt-ltb n a.born left.1)
        left.2)

-- ---- rows

-- nothing has gone, and at most the moment has joined those of the mark
abbrev GrowsFrom : State → State → Type 0
GrowsFrom a b =
    ((n : ℕ) → is_there a.world.heap.objects n ≡ true → is_there b.world.heap.objects n ≡ true)
    × ((b.moments ≡ a.moments) ⊎ (b.moments ≡ graph_of b.world ∷ a.moments))

grown_all : (a b : State) → GrowsFrom a b → IsAllThere a → IsAllThere b
grown_all a b (stay, inl same) all =
    subst (λ (gs : List Graph). AllIn gs b.world.heap.objects) (sym same)
    (all_stay a.moments a.world.heap.objects b.world.heap.objects stay all)
grown_all a b (stay, inr moment) all =
    subst (λ (gs : List Graph). AllIn gs b.world.heap.objects) (sym moment)
    ((λ n there. there), all_stay a.moments a.world.heap.objects b.world.heap.objects stay all)

-- what more numbers are there
more_there : (os more : List Object) (ns : List ℕ) → numbers more ≡ numbers os ++ ns → (n : ℕ)
    → is_there os n ≡ true → is_there more n ≡ true
more_there os more ns same n there =
    is_there-has more n ∙ ap (λ ks. has ks n) same
    ∙ has-left (numbers os) ns n (sym (is_there-has os n) ∙ there)

-- the step asks for what may come in a mark
abbrev pub AsksInMark : Option NamedStep → Type 0
AsksInMark None = Unit {0}
AsksInMark (Some asked) = InMark asked

-- the step may come in a mark, and neither begins nor ends one
abbrev pub IsMarkStep : Step → Type 0
IsMarkStep (steps.Plain step) = InMark (heap.Plain step)
IsMarkStep step = Unit {0}

pub asks_in_mark : (w : World) (step : Step) → IsMarkStep step → AsksInMark (heap_step w step)
asks_in_mark w (steps.Plain step) inside = inside
asks_in_mark w (steps.Adopt m d) inside = of_hand (hand_of w (Mutator m))
  where
    of_hand : (hand : List Notice) → AsksInMark (spending w (λ hold. heap.Adopt m d hold) hand)
    of_hand [] = tt
    of_hand (notice ∷ rest) = tt
asks_in_mark w (steps.Release who) inside = of_hand (hand_of w who)
  where
    of_hand : (hand : List Notice) → AsksInMark (spending w (λ hold. heap.Release hold) hand)
    of_hand [] = tt
    of_hand (notice ∷ rest) = tt
asks_in_mark w step inside = tt

module _ (a b : State) (marks : a.world.phase ≡ Marking) where
  -- a world that has all that was there, and its moment
  grows_to : (c : State) (w : World) → c.world.phase ≡ Marking → c.moments ≡ a.moments
      → ((n : ℕ) → is_there a.world.heap.objects n ≡ true → is_there c.world.heap.objects n ≡ true)
      → but_hands w ≡ but_hands c.world → base b ≡ base (with_world (ticked c) w) → GrowsFrom a b
  grows_to c w phase old stay others is =
      let world : b.world ≡ w = ap (λ (s : State). s.world) is in
      let beside : but_hands b.world ≡ but_hands c.world = ap but_hands world ∙ others in (
        λ n there.
            subst (λ (os : List Object). is_there os n ≡ true) (sym (ap (λ (v : World). v.heap.objects) beside))
            (stay n there),
        inr (
            ap (λ (s : State). s.moments) is ∙ ticked_moments c phase
            ∙ ap (λ (gs : List Graph). graph_of c.world ∷ gs) old
            ∙ ap (λ (v : World). graph_of v ∷ a.moments) (sym beside)
            ),
      )

-- a step that may come in a mark ends no phase
pub ends_no_phase : (step : NamedStep) → InMark step → EndsNoPhase step
ends_no_phase (heap.Plain (plain.Begin now how)) inside = absurd inside
ends_no_phase (heap.Plain plain.EndMark) inside = absurd inside
ends_no_phase (heap.Plain plain.EndClear) inside = absurd inside
ends_no_phase (heap.Plain plain.EndSweep) inside = absurd inside
ends_no_phase (heap.Plain plain.Select) inside = absurd inside
ends_no_phase (heap.Plain plain.EndMove) inside = absurd inside
ends_no_phase step inside = tt

-- where it leads, before its own moment, there are the moments of before
led_moments : (a : State) (step : NamedStep) (reply : Reply) → InMark step
    → (lead_of a step reply).moments ≡ a.moments
led_moments a (heap.Plain (plain.Begin now how)) reply inside = absurd inside
led_moments a (heap.Plain plain.EndMark) reply inside = absurd inside
led_moments a (heap.Plain (plain.ClearNext k)) reply inside = absurd inside
led_moments a (heap.Plain (plain.Sweep k)) reply inside = absurd inside
led_moments a step reply inside = refl

-- and the numbers of before, with that of what was made
led_numbers : (a : State) (step : NamedStep) (reply : Reply) → InMark step
    → numbers (lead_of a step reply).world.heap.objects
    ≡ numbers a.world.heap.objects ++ if_any (made_number step reply)
led_numbers a (heap.Plain (plain.Begin now how)) reply inside = absurd inside
led_numbers a (heap.Plain plain.EndMark) reply inside = absurd inside
led_numbers a (heap.Plain (plain.ClearNext k)) reply inside = absurd inside
led_numbers a (heap.Plain (plain.Sweep k)) reply inside = absurd inside
led_numbers a (heap.Plain (plain.Scan k)) reply inside = sym (append-nil (numbers a.world.heap.objects))
led_numbers a step reply inside = numbers_after a.world step reply

pub led_phase : (a : State) (step : NamedStep) (reply : Reply) → InMark step
    → (lead_of a step reply).world.phase ≡ a.world.phase
led_phase a step reply inside =
    ap (λ (s : State). s.world.phase) (leads_out a step reply inside)
    ∙ outcome_phase a step reply (ends_no_phase step inside)

module _ (a b : State) (marks : a.world.phase ≡ Marking) where
  -- where the row leads, by what it asks of its heap
  abbrev pub led_to : Option NamedStep → Step → Reply → State
  led_to None step reply = ticked (with_world a (after_queues a.world step reply))
  led_to (Some asked) step reply = with_handed (ticked (lead_of a asked reply)) step reply

  grows_led : (asked : Option NamedStep) (step : Step) (reply : Reply) → AsksInMark asked
      → base b ≡ base (led_to asked step reply) → GrowsFrom a b
  grows_led None step reply inside is =
      let c : State = with_world a (after_queues a.world step reply) in
      let others : but_hands c.world ≡ but_hands a.world = queues_keep a.world step reply in
      grows_to a b marks c (ticked c).world (ap (λ (v : World). v.phase) others ∙ marks) refl
      (λ n there.
      subst (λ (os : List Object). is_there os n ≡ true) (sym (ap (λ (v : World). v.heap.objects) others)) there)
      (ap but_hands (ticked_world c)) is
  grows_led (Some asked) step reply inside is =
      let c : State = lead_of a asked reply in
      grows_to a b marks c (handed (ticked c).world step reply) (led_phase a asked reply inside ∙ marks)
      (led_moments a asked reply inside)
      (more_there a.world.heap.objects c.world.heap.objects (if_any (made_number asked reply))
      (led_numbers a asked reply inside))
      (handed_keeps (ticked c).world step reply ∙ ap but_hands (ticked_world c)) is

  grows_row : (row : Row) → IsMarkStep row.step → base b ≡ base_after a row → GrowsFrom a b
  grows_row row inside = of_refusal (refuses row.reply)
    where
      of_refusal : (refused : Bool)
          → base b ≡ (if refused then base a else base (led_to (heap_step a.world row.step) row.step row.reply))
          → GrowsFrom a b
      of_refusal true is = (
        λ n there.
            subst (λ (os : List Object). is_there os n ≡ true)
            (sym (ap (λ (s : State). s.world.heap.objects) is)) there,
        inl (ap (λ (s : State). s.moments) is),
      )
      of_refusal false is =
          grows_led (heap_step a.world row.step) row.step row.reply (asks_in_mark a.world row.step inside) is

-- a row of a mark leaves it so that what was there at a moment of the mark is there
pub all_there_row : (p : Profile) (a b : State) (row : Row) → a.world.phase ≡ Marking → IsMarkStep row.step
    → IsAllThere a → IsRowAs p a row b → IsAllThere b
all_there_row p a b row marks inside all h =
    grown_all a b (grows_row a b marks row inside (one_base_as p a b row h)) all

-- and so it is as a mark begins
pub all_there_begun : (p : Profile) (a b : State) (now : ℕ) (how : Urgency) (reply : Reply)
    → plain_refusal a (plain.Begin now how) ≡ None → IsRowAs p a (plain_row (plain.Begin now how) reply) b
    → IsAllThere b
all_there_begun p a b now how reply none h =
    let (c, given, but) = plain_accepted_as p a b (plain.Begin now how) reply none h in
    let first : State = ticked (begun_to a now how) in
    let same : b ≡ saying first but.0 = but.1 ∙ ap (λ (s : State). saying s but.0) given.1.1 in
    subst IsAllThere (sym same) ((λ n there. there), tt)
