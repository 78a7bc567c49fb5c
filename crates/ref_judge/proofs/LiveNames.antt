-- What each row of a collector of any profile keeps of its heap: whatever a root names, or an object that isn't doomed
-- refers to, is there and isn't doomed; numbers rise, each below the next; and what is doomed is listed in order.
use Rattle.ref_base.proofs.Common.{arith, ◌≡◌, ℕ, zero, suc, ◌+◌, ◌<◌, ◌≤◌, Bool, true, false, if◌then◌else◌, List, []}
use Rattle.ref_base.proofs.Common.{◌∷◌, ◌++◌, take, drop, Option, Some, None, is_some, refl, sym, ap, ◌∙◌, subst, inl}
use Rattle.ref_base.proofs.Common.{inr, ◌⊎◌, cases_Bool, or_from, is_done, with_phase, false≢true, true≢false, has}
use Rattle.ref_base.proofs.Common.{Object, object_at, is_there, numbers, if_any, append-nil, any_referent}
use Rattle.ref_base.proofs.Common.{take-append-drop, IsRising, AllByRecursion, State, World, NamedStep, HeapAccepts}
use Rattle.ref_base.proofs.Common.{heap_refusal, doomed_at, told_cycle, graph_of, reference_at, registered_in}
use Rattle.ref_base.proofs.Common.{first_state, Pending, pending_of, joined, ◌*◌, map, Graph, Reference, is_kept}
use Rattle.ref_base.proofs.Common.{is_soft, no_referents, MayDoom, slice_index_or, new_clears, mark_ended, shown}
use Rattle.std.proofs.lemmas.Bool.{false_from_ne_true}
use Rattle.ref_base.specs.declared.config.Config.{Config}
use Rattle.ref_base.specs.declared.phase.Phase.TheVariants.{Idle, Marking, Clearing, Sweeping}
use Rattle.ref_base.specs.declared.reply.Reply.{Reply}
use Rattle.ref_base.specs.declared.reply.Reply.TheVariants as replies
use Rattle.ref_base.specs.declared.heap_step.HeapStep.TheVariants as heap
use Rattle.ref_base.specs.declared.plain_step.PlainStep.TheVariants as plain
use Rattle.ref_base.proofs.AgreeHeaps.{rising_last, there-without, unscanned-there}
use Rattle.ref_base.proofs.ApartWorlds.{IsClosed, OfValue, no_slot}
use Rattle.ref_base.proofs.CarryRows.{all_more, nothing_pending}
use Rattle.ref_base.proofs.ClosedRows.{closed_same, heap_closed}
use Rattle.ref_base.proofs.HasLaws.{has-left, has-right, has-first, has-cases, lacks-take, has-append, has-single}
use Rattle.ref_base.proofs.Lookups.{is_there-has}
use Rattle.ref_base.proofs.OffSets.{target_there, ended_closed}
use Rattle.ref_base.proofs.OldNames.{ended_old}
use Rattle.ref_base.proofs.PathLaws.{ends-wider, root_ends, targets_of-wider}
use Rattle.ref_base.proofs.WaitingClears.{new_clears-there}
use Rattle.ref_base.proofs.HeapTurns.{at_rest}
use Rattle.ref_base.proofs.Fitting.{with_scanned}
use Rattle.ref_base.proofs.OneQueue.{next_heap}
use Rattle.ref_base.proofs.Outcomes.{IsNoEnd, outcome, heap_outcome, settled}
use Rattle.ref_base.proofs.PhaseLaws.{of_phase}
use Rattle.ref_base.proofs.ReplayKeeps.{told_keeps, numbers_pended, numbers_after}
use Rattle.ref_base.proofs.ReplayUnder.{made_number}
use Rattle.ref_base.proofs.SeenObjects.{object_at-without, rising-without}
use Rattle.ref_base.proofs.Subsequences.{Sub, sub_through, sub_longer, sub_none}
use Rattle.ref_base.proofs.SweptLists.{swept_front, numbers-shown, unscanned-sub}
use Rattle.ref_base.proofs.OutcomeParts.{outcome_phase}
use Rattle.ref_base.specs.declared.policy.Policy.{Policy}
use Rattle.ref_base.specs.declared.urgency.Urgency.TheVariants.{Urgent}
use Rattle.ref_judge.specs.Judged.{is_behind_mark}
use Rattle.ref_judge.specs.KeptBounds.{MayDoomAs, must_keep}
use Rattle.ref_judge.specs.declared.profile.Profile.{Profile}
use Rattle.ref_judge.proofs.RowTurns.{IsTurnAs}

-- n is there, and not doomed
abbrev pub IsLive : State → ℕ → Type 0
IsLive a n = (is_there a.world.heap.objects n ≡ true) × (has a.doomed n ≡ false)

pub record LiveNames (a : State) : Type 0 where
  pub closed : IsClosed any_referent (IsLive a) a.world
  pub cleared : (n : ℕ) → has a.cleared n ≡ true → IsLive a n
  pub below : (n : ℕ) → is_there a.world.heap.objects n ≡ true → n < a.next
  pub born : a.born ≤ a.next
  pub rising : IsRising (numbers a.world.heap.objects)
  pub doomed : Sub a.doomed (numbers a.world.heap.objects)
  pub whole : is_behind_mark a.world.phase ≡ false → a.doomed ≡ []

-- ---- where a row leads that is no mark's end

-- the step frees nothing, and ends no mark
abbrev pub Stays : NamedStep → Type 0
Stays (heap.Plain (plain.Sweep k)) = ⊥
Stays (heap.Plain plain.EndMark) = ⊥
Stays step = Unit {0}

-- there are the objects of before, and what it makes
pub numbers_out : (a : State) (step : NamedStep) (reply : Reply) → Stays step
    → numbers (outcome a step reply).world.heap.objects
    ≡ numbers a.world.heap.objects ++ if_any (made_number step reply)
numbers_out a (heap.Plain (plain.Begin now how)) reply stays =
    told_keeps (λ (w : World). numbers w.heap.objects) (told_cycle reply) _ a.world (λ n. refl)
    ∙ sym (append-nil (numbers a.world.heap.objects))
numbers_out a (heap.Plain (plain.ClearNext k)) (replies.Cleared n) stays =
    numbers_pended a.world k n (registered_in (reference_at a.world.heap n))
    ∙ sym (append-nil (numbers a.world.heap.objects))
numbers_out a (heap.Plain (plain.ClearNext k)) reply stays = search (append-nil, sym)
numbers_out a (heap.Plain (plain.Sweep k)) reply stays = absurd stays
numbers_out a (heap.Plain plain.EndMark) reply stays = absurd stays
numbers_out a step reply stays = numbers_after a.world step reply

-- what is doomed is as before, or the cycle begins
doomed_out : (a : State) (step : NamedStep) (reply : Reply) → Stays step
    → ((outcome a step reply).doomed ≡ a.doomed)
    ⊎ ((heap_refusal a step ≡ None → a.world.phase ≡ Idle) × ((outcome a step reply).doomed ≡ []))
doomed_out a (heap.Plain (plain.Begin now how)) reply stays =
    inr (of_phase a (heap.Plain (plain.Begin now how)), refl)
doomed_out a (heap.Plain (plain.ClearNext k)) (replies.Cleared n) stays = inl refl
doomed_out a (heap.Plain (plain.ClearNext k)) reply stays = inl refl
doomed_out a (heap.Plain (plain.Sweep k)) reply stays = absurd stays
doomed_out a (heap.Plain plain.EndMark) reply stays = absurd stays
doomed_out a step reply stays = inl refl

-- what is made has the next number
made_next : (a c : State) (step : NamedStep) (reply : Reply) (n : ℕ) → HeapAccepts a step reply c
    → made_number step reply ≡ Some n → (n ≡ a.next) × (c.next ≡ a.next + 1)
made_next a c (heap.Plain (plain.New m d k)) reply n row made = grind arith
made_next a c (heap.Plain (plain.Refer m strength d s q k)) reply n row made = grind arith
made_next a c step reply n row made = absurd cc

lacks-drop : (i : ℕ) (ns : List ℕ) (n : ℕ) → has ns n ≡ false → has (drop i ns) n ≡ false
lacks-drop zero ns n lacks = lacks
lacks-drop (suc i) [] n lacks = lacks
lacks-drop (suc i) (m ∷ ns) n lacks = grind (arith, lacks-drop i ns n)

-- what is neither in the front nor behind it is in no part
lacks-both : (i : ℕ) (ns : List ℕ) (n : ℕ) → has (take i ns) n ≡ false → has (drop i ns) n ≡ false
    → has ns n ≡ false
lacks-both i ns n front back =
    ap (λ ms. has ms n) (sym (take-append-drop i ns)) ∙ has-append (take i ns) (drop i ns) n
    ∙ or_from (has (take i ns) n) (has (drop i ns) n) front back

-- what lives goes on living where nothing is freed
stays_live : (a : State) (step : NamedStep) (reply : Reply) → Stays step → (n : ℕ) → IsLive a n
    → IsLive (outcome a step reply) n
stays_live a step reply stays n live = (
  is_there-has (outcome a step reply).world.heap.objects n ∙ ap (λ ns. has ns n) (numbers_out a step reply stays)
      ∙ has-left (numbers a.world.heap.objects) (if_any (made_number step reply)) n
      (sym (is_there-has a.world.heap.objects n) ∙ live.0),
  elim (doomed_out a step reply stays) [
    | inl same ↦ ap (λ ns. has ns n) same ∙ live.1
    | inr none ↦ ap (λ ns. has ns n) none.1
  ],
)

-- and where the doomed are swept
swept_live : (a : State) (k : ℕ) (reply : Reply) (n : ℕ) → IsLive a n
    → IsLive (outcome a (heap.Plain (plain.Sweep k)) reply) n
swept_live a k (replies.Swept count) n live = (
  ap is_some
      (object_at-without (take 64 a.doomed) a.world.heap.objects n (lacks-take 64 a.doomed n live.1)) ∙ live.0,
  lacks-drop 64 a.doomed n live.1,
)
swept_live a k reply n live = live

live_out : (a : State) (step : NamedStep) (reply : Reply) → IsNoEnd step → (n : ℕ) → IsLive a n
    → IsLive (outcome a step reply) n
live_out a (heap.Plain (plain.Sweep k)) reply no_end n live = swept_live a k reply n live
live_out a (heap.Plain plain.EndMark) reply no_end n live = absurd no_end
live_out a step reply no_end n live = stays_live a step reply tt n live

-- what was there and lives afterwards lived before
was_spared : (a : State) (step : NamedStep) (reply : Reply) → Stays step → heap_refusal a step ≡ None
    → (a.world.phase ≡ Idle → a.doomed ≡ []) → (n : ℕ) → has (outcome a step reply).doomed n ≡ false
    → has a.doomed n ≡ false
was_spared a step reply stays none idle n spared =
    elim (doomed_out a step reply stays) [
      | inl same ↦ ap (λ ns. has ns n) (sym same) ∙ spared
      | inr begins ↦ ap (λ ns. has ns n) (idle (begins.0 none))
    ]

was_live : (a : State) (step : NamedStep) (reply : Reply) → IsNoEnd step → heap_refusal a step ≡ None
    → (a.world.phase ≡ Idle → a.doomed ≡ []) → (n : ℕ) → is_there a.world.heap.objects n ≡ true
    → IsLive (outcome a step reply) n → IsLive a n
was_live a (heap.Plain (plain.Sweep k)) (replies.Swept count) no_end none idle n there live = (
  there,
  lacks-both 64 a.doomed n (there-without (take 64 a.doomed) a.world.heap.objects n live.0).0 live.1,
)
was_live a (heap.Plain (plain.Sweep k)) reply no_end none idle n there live = live
was_live a (heap.Plain plain.EndMark) reply no_end none idle n there live = absurd no_end
was_live a step reply no_end none idle n there live =
    (there, was_spared a step reply tt none idle n live.1)

-- nothing is doomed but past a mark
whole_out : (a : State) (step : NamedStep) (reply : Reply) → IsNoEnd step → heap_refusal a step ≡ None
    → (is_behind_mark a.world.phase ≡ false → a.doomed ≡ [])
    → is_behind_mark (outcome a step reply).world.phase ≡ false → (outcome a step reply).doomed ≡ []
whole_out a (heap.Plain (plain.Begin now how)) reply no_end none whole off = refl
whole_out a (heap.Plain plain.EndMark) reply no_end none whole off = absurd no_end
whole_out a (heap.Plain plain.EndSweep) reply no_end none whole off = (of_phase a (heap.Plain plain.EndSweep) none).1
whole_out a (heap.Plain plain.EndClear) reply no_end none whole off =
    of_done (is_done reply) (of_phase a (heap.Plain plain.EndClear) none).0 off
  where
    of_done : (done : Bool) → a.world.phase ≡ Clearing
        → is_behind_mark (if done then with_phase a.world Sweeping else a.world).phase ≡ false → a.doomed ≡ []
    of_done true clears off = absurd (true≢false off)
    of_done false clears off = absurd (true≢false (sym (ap is_behind_mark clears) ∙ off))
whole_out a (heap.Plain plain.Select) reply no_end none whole off =
    whole (ap is_behind_mark (of_phase a (heap.Plain plain.Select) none).0)
whole_out a (heap.Plain plain.EndMove) reply no_end none whole off =
    whole (ap is_behind_mark (of_phase a (heap.Plain plain.EndMove) none))
whole_out a (heap.Plain (plain.Sweep k)) (replies.Swept count) no_end none whole off =
    absurd (true≢false (sym (ap is_behind_mark (of_phase a (heap.Plain (plain.Sweep k)) none)) ∙ off))
whole_out a (heap.Plain (plain.Sweep k)) reply no_end none whole off = whole off
whole_out a (heap.Plain (plain.ClearNext k)) reply no_end none whole off =
    absurd (true≢false (sym (ap is_behind_mark (outcome_phase a (heap.Plain (plain.ClearNext k)) reply tt
    ∙ of_phase a (heap.Plain (plain.ClearNext k)) none)) ∙ off))
whole_out a step reply no_end none whole off =
    whole (sym (ap is_behind_mark (outcome_phase a step reply tt)) ∙ off)

-- what is doomed stays listed in order
listed_out : (a : State) (step : NamedStep) (reply : Reply) → IsNoEnd step → IsRising (numbers a.world.heap.objects)
    → Sub a.doomed (numbers a.world.heap.objects)
    → Sub (outcome a step reply).doomed (numbers (outcome a step reply).world.heap.objects)
listed_out a (heap.Plain (plain.Sweep k)) (replies.Swept count) no_end rising sub =
    (swept_front (take 64 a.doomed) (drop 64 a.doomed) a.world.heap.objects rising
    (subst (λ ns. Sub ns (numbers a.world.heap.objects)) (sym (take-append-drop 64 a.doomed)) sub)).0
listed_out a (heap.Plain (plain.Sweep k)) reply no_end rising sub = sub
listed_out a (heap.Plain plain.EndMark) reply no_end rising sub = absurd no_end
listed_out a step reply no_end rising sub = of_doomed (doomed_out a step reply tt)
  where
    of_doomed : ((outcome a step reply).doomed ≡ a.doomed)
        ⊎ ((heap_refusal a step ≡ None → a.world.phase ≡ Idle) × ((outcome a step reply).doomed ≡ []))
        → Sub (outcome a step reply).doomed (numbers (outcome a step reply).world.heap.objects)
    of_doomed (inl same) =
        subst (λ ns. Sub ns (numbers (outcome a step reply).world.heap.objects)) (sym same)
        (subst (λ ns. Sub a.doomed ns) (sym (numbers_out a step reply tt))
        (sub_through a.doomed (numbers a.world.heap.objects) _ sub
        (sub_longer (numbers a.world.heap.objects) (if_any (made_number step reply)))))
    of_doomed (inr begins) =
        subst (λ ns. Sub ns (numbers (outcome a step reply).world.heap.objects)) (sym begins.1)
        (sub_none (numbers (outcome a step reply).world.heap.objects))

-- a row but a mark's end clears nothing more
cleared_out : (a : State) (step : NamedStep) (reply : Reply) → IsNoEnd step → (n : ℕ)
    → has (outcome a step reply).cleared n ≡ true → has a.cleared n ≡ true
cleared_out a (heap.Plain (plain.Begin now how)) reply no_end n h = absurd (false≢true h)
cleared_out a (heap.Plain plain.EndMark) reply no_end n h = absurd no_end
cleared_out a (heap.Plain (plain.ClearNext k)) (replies.Cleared m) no_end n h = h
cleared_out a (heap.Plain (plain.ClearNext k)) reply no_end n h = h
cleared_out a (heap.Plain (plain.Sweep k)) (replies.Swept count) no_end n h = h
cleared_out a (heap.Plain (plain.Sweep k)) reply no_end n h = h
cleared_out a step reply no_end n h = h

born_out : (a : State) (step : NamedStep) (reply : Reply) → IsNoEnd step
    → ((outcome a step reply).born ≡ a.born) ⊎ ((outcome a step reply).born ≡ a.next)
born_out a (heap.Plain (plain.Begin now how)) reply no_end = inr refl
born_out a (heap.Plain plain.EndMark) reply no_end = absurd no_end
born_out a (heap.Plain (plain.ClearNext k)) (replies.Cleared m) no_end = inl refl
born_out a (heap.Plain (plain.ClearNext k)) reply no_end = inl refl
born_out a (heap.Plain (plain.Sweep k)) (replies.Swept count) no_end = inl refl
born_out a (heap.Plain (plain.Sweep k)) reply no_end = inl refl
born_out a step reply no_end = inl refl

if_any-has : (o : Option ℕ) (n : ℕ) → has (if_any o) n ≡ true → o ≡ Some n
if_any-has None n h = absurd (false≢true h)
if_any-has (Some m) n h = ap Some (has-single m n h)

pub sub-has : (ms ns : List ℕ) (n : ℕ) → Sub ms ns → has ms n ≡ true → has ns n ≡ true
sub-has ms [] n sub h = sym (ap (λ l. has l n) sub) ∙ h
sub-has ms (k ∷ ns) n sub h =
    elim sub [
      | inl passed ↦ grind (arith, sub-has ms ns n passed)
      | inr taken ↦ grind (arith, sub-has taken.0 ns n taken.2)
    ]

-- more is closed too, where what is there and in it was in the set
closed_more : (V W : ℕ → Type 0) (w : World) → ((n : ℕ) → V n → W n)
    → ((m : ℕ) → W m → is_there w.heap.objects m ≡ true → V m) → IsClosed any_referent V w → IsClosed any_referent W w
closed_more V W w wider old closed = grind (arith, all_more, target_there)

module _ (a c : State) (step : NamedStep) (reply : Reply) (no_end : IsNoEnd step)
    (none : heap_refusal a step ≡ None) (row : HeapAccepts a step reply c) (names : LiveNames a) where
  leads : settled c ≡ settled (outcome a step reply)
  leads = heap_outcome a c step reply no_end row

  to_live : (n : ℕ) → IsLive a n → IsLive c n
  to_live n live = subst (λ (s : State). IsLive s n) (sym leads) (live_out a step reply no_end n live)

  from_live : (n : ℕ) → IsLive c n → is_there a.world.heap.objects n ≡ true → IsLive a n
  from_live n live there =
      was_live a step reply no_end none (λ is. names.whole (ap is_behind_mark is)) n there
      (subst (λ (s : State). IsLive s n) leads live)

  -- no object has the next number
  next_new : is_there a.world.heap.objects a.next ≡ false
  next_new = false_from_ne_true (is_there a.world.heap.objects a.next)
      (λ there. let less = names.below a.next there in absurd (omega (arith, less)))

  next_spared : has a.doomed a.next ≡ false
  next_spared = false_from_ne_true (has a.doomed a.next)
      (λ doomed.
      absurd (false≢true (sym next_new ∙ is_there-has a.world.heap.objects a.next
      ∙ sub-has a.doomed (numbers a.world.heap.objects) a.next names.doomed doomed)))

  made_there : Stays step → made_number step reply ≡ Some a.next → is_there c.world.heap.objects a.next ≡ true
  made_there stays made =
      is_there-has c.world.heap.objects a.next
      ∙ ap (λ ns. has ns a.next)
      (ap (λ (s : State). numbers s.world.heap.objects) leads ∙ numbers_out a step reply stays
      ∙ ap (λ (m : Option ℕ). numbers a.world.heap.objects ++ if_any m) made)
      ∙ has-right (numbers a.world.heap.objects) (a.next ∷ []) a.next (has-first a.next [])

  made_spared : Stays step → has c.doomed a.next ≡ false
  made_spared stays =
      ap (λ (s : State). has s.doomed a.next) leads ∙ elim (doomed_out a step reply stays) [
        | inl same ↦ ap (λ ns. has ns a.next) same ∙ next_spared
        | inr begins ↦ ap (λ ns. has ns a.next) begins.1
      ]

  below_kept : Stays step → (n : ℕ) → is_there c.world.heap.objects n ≡ true → n < c.next
  below_kept stays n there =
      let grows = next_heap a c step reply row in
      elim (has-cases (numbers a.world.heap.objects) (if_any (made_number step reply)) n
      (sym (ap (λ ns. has ns n) (ap (λ (s : State). numbers s.world.heap.objects) leads
      ∙ numbers_out a step reply stays)) ∙ sym (is_there-has c.world.heap.objects n) ∙ there)) [
        | inl before ↦
            let less = names.below n (is_there-has a.world.heap.objects n ∙ before) in omega (arith, less, grows)
        | inr new ↦
            let made = made_next a c step reply n row (if_any-has (made_number step reply) n new) in
            let is = made.0 in
            let next = made.1 in omega (arith, is, next)
      ]

  rising_kept : Stays step → IsRising (numbers c.world.heap.objects)
  rising_kept stays =
      subst IsRising (sym (ap (λ (s : State). numbers s.world.heap.objects) leads ∙ numbers_out a step reply stays))
      (of_made (made_number step reply) refl)
    where
      of_made : (made : Option ℕ) → made_number step reply ≡ made
          → IsRising (numbers a.world.heap.objects ++ if_any made)
      of_made None is = subst IsRising (sym (append-nil (numbers a.world.heap.objects))) names.rising
      of_made (Some n) is =
          let next : n ≡ a.next = (made_next a c step reply n row is).0 in
          rising_last (numbers a.world.heap.objects) n names.rising
          (λ m there. subst (λ (k : ℕ). m < k) (sym next) (names.below m (is_there-has a.world.heap.objects m ∙ there)))

  born_kept : c.born ≤ c.next
  born_kept =
      let grows = next_heap a c step reply row in
      let born = names.born in
      let is : c.born ≡ (outcome a step reply).born = ap (λ (s : State). s.born) leads in
      elim (born_out a step reply no_end) [
        | inl same ↦ omega (arith, grows, born, is, same)
        | inr next ↦ omega (arith, grows, is, next)
      ]

  -- a row keeps it that isn't a mark's end, where what is made lives, and numbers still rise
  live_accepted : (made_number step reply ≡ Some a.next → IsLive c a.next)
      → ((n : ℕ) → is_there c.world.heap.objects n ≡ true → n < c.next) → IsRising (numbers c.world.heap.objects)
      → LiveNames c
  live_accepted made below rising = record {
    closed = heap_closed (IsLive c) a c
        (closed_more (IsLive a) (IsLive c) a.world to_live from_live names.closed) step reply no_end none made
        (λ clearing n h. to_live n (names.cleared n h)) row;
    cleared = λ n h.
        to_live n (names.cleared n (cleared_out a step reply no_end n
        (ap (λ (ns : List ℕ). has ns n) (sym (ap (λ (s : State). s.cleared) leads)) ∙ h)));
    below = below;
    born = born_kept;
    rising = rising;
    doomed = subst (λ (s : State). Sub s.doomed (numbers s.world.heap.objects)) (sym leads)
        (listed_out a step reply no_end names.rising names.doomed);
    whole = λ off.
        ap (λ (s : State). s.doomed) leads
        ∙ whole_out a step reply no_end none names.whole
        (ap (λ (s : State). is_behind_mark s.world.phase) (sym leads) ∙ off);
  }

-- a sweep frees some of what is doomed
swept_below : (a c : State) (k : ℕ) (reply : Reply) → ((n : ℕ) → is_there a.world.heap.objects n ≡ true → n < a.next)
    → HeapAccepts a (heap.Plain (plain.Sweep k)) reply c
    → (n : ℕ) → is_there (outcome a (heap.Plain (plain.Sweep k)) reply).world.heap.objects n ≡ true → n < c.next
swept_below a c k (replies.Swept count) below row n there =
    let less = below n (there-without (take 64 a.doomed) a.world.heap.objects n there).1 in
    let grows = next_heap a c (heap.Plain (plain.Sweep k)) (replies.Swept count) row in
    omega (arith, less, grows)
swept_below a c k reply below row n there =
    let less = below n there in
    let grows = next_heap a c (heap.Plain (plain.Sweep k)) reply row in
    omega (arith, less, grows)

swept_rising : (a : State) (k : ℕ) (reply : Reply) → IsRising (numbers a.world.heap.objects)
    → IsRising (numbers (outcome a (heap.Plain (plain.Sweep k)) reply).world.heap.objects)
swept_rising a k (replies.Swept count) rising = rising-without (take 64 a.doomed) a.world.heap.objects rising
swept_rising a k reply rising = rising

live_swept : (a c : State) (k : ℕ) (reply : Reply) → heap_refusal a (heap.Plain (plain.Sweep k)) ≡ None
    → HeapAccepts a (heap.Plain (plain.Sweep k)) reply c → LiveNames a → LiveNames c
live_swept a c k reply none row names =
    let step : NamedStep = heap.Plain (plain.Sweep k) in
    let same : settled c ≡ settled (outcome a step reply) = heap_outcome a c step reply tt row in
    live_accepted a c step reply tt none row names (λ made. absurd (no_number made))
    (λ n there.
    swept_below a c k reply names.below row n
    (subst (λ (s : State). is_there s.world.heap.objects n ≡ true) same there))
    (subst (λ (s : State). IsRising (numbers s.world.heap.objects)) (sym same) (swept_rising a k reply names.rising))
  where
    no_number : None ≡ Some a.next → ⊥
    no_number made = absurd cc

live_stays : (a c : State) (step : NamedStep) (reply : Reply) → IsNoEnd step → Stays step
    → heap_refusal a step ≡ None → HeapAccepts a step reply c → LiveNames a → LiveNames c
live_stays a c step reply no_end stays none row names =
    live_accepted a c step reply no_end none row names
    (λ made. (
      made_there a c step reply no_end none row names stays made,
      made_spared a c step reply no_end none row names stays,
    ))
    (below_kept a c step reply no_end none row names stays) (rising_kept a c step reply no_end none row names stays)

live_step : (a c : State) (step : NamedStep) (reply : Reply) → IsNoEnd step → heap_refusal a step ≡ None
    → HeapAccepts a step reply c → LiveNames a → LiveNames c
live_step a c (heap.Plain (plain.Sweep k)) reply no_end none row names = live_swept a c k reply none row names
live_step a c (heap.Plain plain.EndMark) reply no_end none row names = absurd no_end
live_step a c step reply no_end none row names = live_stays a c step reply tt tt none row names

-- ---- a mark's end

-- the policy under which no soft reference is kept
abbrev hard_policy : Policy
hard_policy = record { clock = 0; urgency = Urgent; span = 0 }

-- the policy under which the abstract collector keeps what one of the profile must
abbrev must_policy : Profile → Policy → Policy
must_policy p policy = if p.soft_free then hard_policy else policy

hard_keeps : (r : Reference) → is_kept hard_policy r ≡ false
hard_keeps r = elim (cases_Bool (is_soft r.strength)) [ inl soft ↦ simp soft refl | inr other ↦ simp other refl ]

must_kept : (free : Bool) (policy : Policy) (r : Reference)
    → is_kept (if free then hard_policy else policy) r ≡ (if free then no_referents else is_kept policy) r
must_kept true policy r = hard_keeps r
must_kept false policy r = refl

new_clears-spared : (os : List Object) (d : List ℕ) (n : ℕ) → has (new_clears os d) n ≡ true → has d n ≡ false
new_clears-spared [] d n h = absurd (false≢true h)
new_clears-spared (o ∷ os) d n h = grind (arith, new_clears-spared os d n)

all_pair : (P Q R : Pending → Type 0) (ps : List Pending) → ((x : Pending) → P x → Q x → R x) → AllByRecursion P ps
    → AllByRecursion Q ps → AllByRecursion R ps
all_pair P Q R [] both all also = tt
all_pair P Q R (x ∷ ps) both all also = (both x all.0 also.0, all_pair P Q R ps both all.1 also.1)

of_both : (V W : ℕ → Type 0) (value : Option ℕ) → OfValue V value → OfValue W value → OfValue (λ n. V n × W n) value
of_both V W None of also = tt
of_both V W (Some n) of also = (of, also)

-- what is closed twice
closed_both : (V W : ℕ → Type 0) (w : World) → IsClosed any_referent V w → IsClosed any_referent W w
    → IsClosed any_referent (λ n. V n × W n) w
closed_both V W w first second = record {
  slots = λ i. of_both V W (slice_index_or w.heap.slots i None) (first.slots i) (second.slots i);
  holds = λ n held. (first.holds n held, second.holds n held);
  pendings = λ k.
      all_pair (λ x. V x.object) (λ x. W x.object) (λ x. V x.object × W x.object) (pending_of w k)
      (λ x is also. (is, also)) (first.pendings k) (second.pendings k);
  targets = λ m n is target. (first.targets m n is.0 target, second.targets m n is.1 target);
}

module _ (p : Profile) (a : State) (names : LiveNames a) (marks : a.world.phase ≡ Marking)
    (may : MayDoomAs p a (doomed_at a)) where
  abbrev doomed : List ℕ
  doomed = doomed_at a

  none_before : a.doomed ≡ []
  none_before = names.whole (ap is_behind_mark marks)

  -- the world under that policy
  abbrev must_world : World
  must_world = record a.world { policy = must_policy p a.world.policy }

  -- all that is there, as roots
  abbrev all_roots : Graph
  all_roots = record { objects = a.world.heap.objects; roots = numbers a.world.heap.objects }

  may_doom : MayDoom must_world.policy (graph_of must_world) (all_roots ∷ []) doomed
  may_doom = record {
    none_kept = λ n is ends.
        may.none_kept n is
        (ends-wider (is_kept must_world.policy) (must_keep p a.world.policy)
        (λ r kept. sym (must_kept p.soft_free a.world.policy r) ∙ kept) (graph_of a.world) n ends);
    never_kept = λ n there never.
        absurd (never (inl (root_ends (is_kept must_world.policy) all_roots n there
        (sym (is_there-has a.world.heap.objects n) ∙ there))));
    closed = λ m n there out target.
        may.closed m n there out
        (targets_of-wider (is_kept must_world.policy) (must_keep p a.world.policy)
        (λ r kept. sym (must_kept p.soft_free a.world.policy r) ∙ kept) (object_at a.world.heap.objects m) n target);
  }

  none_gone : IsClosed any_referent (λ n. has [] n ≡ false) must_world
  none_gone =
      closed_same any_referent (λ n. has [] n ≡ false) a.world must_world refl refl refl refl
      (closed_more (IsLive a) (λ n. has [] n ≡ false) a.world (λ n live. refl)
      (λ m out there. (there, ap (λ ns. has ns m) none_before)) names.closed)

  out_closed : (found : List (List ℕ))
      → IsClosed any_referent (λ n. has doomed n ≡ false) (mark_ended a doomed found).world
  out_closed found =
      closed_same any_referent (λ n. has doomed n ≡ false) _ (mark_ended a doomed found).world refl refl refl refl
      (ended_closed [] doomed must_world (all_roots ∷ []) may_doom
      (λ n is. unscanned-there a.world.heap.objects a.born (joined a.scanned) n is) none_gone)

  same_there : (n : ℕ)
      → is_there (map (λ o. shown doomed o) a.world.heap.objects) n ≡ is_there a.world.heap.objects n
  same_there n =
      is_there-has (map (λ o. shown doomed o) a.world.heap.objects) n
      ∙ ap (λ ns. has ns n) (numbers-shown a.world.heap.objects doomed) ∙ sym (is_there-has a.world.heap.objects n)

  live_ended : (found : List (List ℕ)) → LiveNames (mark_ended a doomed found)
  live_ended found =
      let c : State = mark_ended a doomed found in record {
        closed = closed_more (λ n. IsLive a n × (has doomed n ≡ false)) (IsLive c) c.world
            (λ n both. (same_there n ∙ both.0.0, both.1))
            (λ m live there. ((sym (same_there m) ∙ there, ap (λ ns. has ns m) none_before), live.1))
            (closed_both (IsLive a) (λ n. has doomed n ≡ false) c.world (ended_old (IsLive a) a found names.closed)
            (out_closed found));
        cleared = λ n new. (
          same_there n ∙ new_clears-there a.world.heap.objects doomed n new,
          new_clears-spared a.world.heap.objects doomed n new,
        );
        below = λ n there. names.below n (sym (same_there n) ∙ there);
        born = names.born;
        rising = subst IsRising (sym (numbers-shown a.world.heap.objects doomed)) names.rising;
        doomed = subst (λ ns. Sub doomed ns) (sym (numbers-shown a.world.heap.objects doomed))
            (unscanned-sub a.world.heap.objects a.born (joined a.scanned));
        whole = λ off. absurd (true≢false off);
      }

-- ---- a row

-- a state that differs in hands, queues and what marking looks at alone
live_same : (a b : State) → at_rest b ≡ at_rest a → LiveNames a → LiveNames b
live_same a b same names = from_rest b (subst LiveNames (sym same) (to_rest a names))
  where
    to_rest : (s : State) → LiveNames s → LiveNames (at_rest s)
    to_rest s names = record {
      closed = closed_same any_referent (IsLive s) s.world (at_rest s).world refl refl refl refl names.closed;
      cleared = names.cleared;
      below = names.below;
      born = names.born;
      rising = names.rising;
      doomed = names.doomed;
      whole = names.whole;
    }

    from_rest : (s : State) → LiveNames (at_rest s) → LiveNames s
    from_rest s names = record {
      closed = closed_same any_referent (IsLive s) (at_rest s).world s.world refl refl refl refl names.closed;
      cleared = names.cleared;
      below = names.below;
      born = names.born;
      rising = names.rising;
      doomed = names.doomed;
      whole = names.whole;
    }

pub live_turn : (p : Profile) (a b : State) (reply : Reply) → IsTurnAs p a reply b → LiveNames a → LiveNames b
live_turn p a b reply (inl same) names = live_same a b same names
live_turn p a b reply (inr (inl of)) names =
    live_same of.left b of.after (live_step a of.left of.step reply of.no_end of.passes of.accepts names)
live_turn p a b reply (inr (inr (inl of))) names =
    live_same (with_scanned a of.worker of.object) b of.after (assumption names)
live_turn p a b reply (inr (inr (inr of))) names =
    live_same of.left b of.after
    (subst LiveNames (sym of.ends.after)
    (live_ended p a names (of_phase a (heap.Plain plain.EndMark) of.passes) of.ends.may_doom of.ends.found))

pub first_live : (config : Config) → LiveNames (first_state config)
first_live config = record {
  closed = record {
    slots = no_slot (IsLive (first_state config)) (16 * config.mutators);
    holds = λ n held. absurd (false≢true held);
    pendings = λ k. nothing_pending (λ x. IsLive (first_state config) x.object) config k;
    targets = λ m n is target. absurd (false≢true target);
  };
  cleared = λ n h. absurd (false≢true h);
  below = λ n there. absurd (false≢true there);
  born = omega arith;
  rising = tt;
  doomed = refl;
  whole = λ off. refl;
}
