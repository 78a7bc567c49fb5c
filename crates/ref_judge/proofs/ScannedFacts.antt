-- What a cycle scanned was made before it; and a cycle that goes on has a number above 0.
use Rattle.ref_base.proofs.Common.{arith, ◌≡◌, ℕ, zero, suc, ◌<◌, Bool, true, false, if◌then◌else◌, List, [], ◌∷◌}
use Rattle.ref_base.proofs.Common.{◌++◌, None, refl, sym, ap, ◌∙◌, subst, inl, inr, ◌⊎◌, false≢true, has, joined, State}
use Rattle.ref_base.proofs.Common.{NamedStep, HeapAccepts, heap_refusal, is_done, is_selected, with_phase, replicate}
use Rattle.ref_base.specs.declared.config.Config.{Config}
use Rattle.ref_base.specs.declared.phase.Phase.{Phase}
use Rattle.ref_base.specs.declared.phase.Phase.TheVariants.{Idle, Moving}
use Rattle.ref_base.specs.declared.reply.Reply.{Reply}
use Rattle.ref_base.specs.declared.reply.Reply.TheVariants as replies
use Rattle.ref_base.specs.declared.heap_step.HeapStep.TheVariants as heap
use Rattle.ref_base.specs.declared.plain_step.PlainStep.TheVariants as plain
use Rattle.ref_base.proofs.FoundLists.{with_last, joined-emptied}
use Rattle.ref_base.proofs.Fitting.{with_scanned}
use Rattle.ref_base.proofs.HasLaws.{has-left, has-right, has-cases, has-single}
use Rattle.ref_base.proofs.OutcomeParts.{outcome_cycle, outcome_phase}
use Rattle.ref_base.proofs.Outcomes.{IsNoEnd, outcome, heap_outcome}
use Rattle.ref_base.proofs.PhaseLaws.{of_phase}
use Rattle.ref_judge.specs.Judged.{is_going}
use Rattle.ref_judge.specs.Standing.{Lawful}
use Rattle.ref_judge.specs.declared.profile.Profile.{Profile}
use Rattle.ref_judge.proofs.LawfulRuns.{lawful_holds}
use Rattle.ref_judge.proofs.LawfulStates.{lawful_turn}
use Rattle.ref_judge.proofs.RowTurns.{IsTurnAs}

-- ---- what was scanned

pub joined_last : (lists : List (List ℕ)) (k n m : ℕ) → has (joined (with_last lists k n)) m ≡ true
    → (n ≡ m) ⊎ (has (joined lists) m ≡ true)
joined_last [] k n m h = inr h
joined_last (ns ∷ lists) zero n m h =
    elim (has-cases (ns ++ n ∷ []) (joined lists) m h) [
      | inl here ↦ elim (has-cases ns (n ∷ []) m here) [
        | inl old ↦ inr (has-left ns (joined lists) m old)
        | inr last ↦ inl (has-single n m last)
      ]
      | inr behind ↦ inr (has-right ns (joined lists) m behind)
    ]
joined_last (ns ∷ lists) (suc k) n m h =
    elim (has-cases ns (joined (with_last lists k n)) m h) [
      | inl here ↦ inr (has-left ns (joined lists) m here)
      | inr behind ↦ elim (joined_last lists k n m behind) [
        | inl is ↦ inl is
        | inr old ↦ inr (has-right ns (joined lists) m old)
      ]
    ]

abbrev AreOld : State → Type 0
AreOld a = (n : ℕ) → has (joined a.scanned) n ≡ true → n < a.born

scan_old : (a : State) (k n : ℕ) → n < a.born → AreOld a → AreOld (with_scanned a k n)
scan_old a k n less old m h =
    elim (joined_last a.scanned k n m h) [
      | inl is ↦ subst (λ (j : ℕ). j < a.born) is less
      | inr before ↦ old m before
    ]

outcome_old : (a c : State) (step : NamedStep) (reply : Reply) → IsNoEnd step → HeapAccepts a step reply c → AreOld a
    → AreOld (outcome a step reply)
outcome_old a c (heap.Plain (plain.Scan k)) (replies.Scanned n) no_end row old = scan_old a k n row.1.1 old
outcome_old a c (heap.Plain (plain.Scan k)) reply no_end row old = old
outcome_old a c (heap.Plain (plain.Begin now how)) reply no_end row old =
    λ n h. absurd (false≢true (sym (ap (λ ns. has ns n) (joined-emptied a.scanned)) ∙ h))
outcome_old a c (heap.Plain plain.EndMark) reply no_end row old = absurd no_end
outcome_old a c (heap.Plain (plain.ClearNext k)) (replies.Cleared n) no_end row old = old
outcome_old a c (heap.Plain (plain.ClearNext k)) reply no_end row old = old
outcome_old a c (heap.Plain (plain.Sweep k)) (replies.Swept count) no_end row old = old
outcome_old a c (heap.Plain (plain.Sweep k)) reply no_end row old = old
outcome_old a c step reply no_end row old = old

old_turn : (p : Profile) (a b : State) (reply : Reply) → IsTurnAs p a reply b → AreOld a → AreOld b
old_turn p a b reply (inl same) old = subst AreOld (sym same) old
old_turn p a b reply (inr (inl of)) old =
    subst AreOld (sym of.after)
    (subst AreOld (sym (heap_outcome a of.left of.step reply of.no_end of.accepts))
    (outcome_old a of.left of.step reply of.no_end of.accepts old))
old_turn p a b reply (inr (inr (inl of))) old =
    subst AreOld (sym of.after) (scan_old a of.worker of.object of.is_left.1 old)
old_turn p a b reply (inr (inr (inr of))) old = subst AreOld (sym of.after) (subst AreOld (sym of.ends.after) old)

none_joined : (count n : ℕ) → has (joined (replicate count [])) n ≡ false
none_joined zero n = refl
none_joined (suc count) n = none_joined count n

pub lawful_old : (p : Profile) (config : Config) (a : State) → Lawful p config a → AreOld a
lawful_old p config =
    lawful_holds p config AreOld (λ n h. absurd (false≢true (sym (none_joined config.workers n) ∙ h)))
    (λ a b row lawful old h. old_turn p a b row.reply (lawful_turn p config a b row lawful h) old)

-- ---- the cycle

abbrev HasBegun : State → Type 0
HasBegun a = is_going a.world.phase ≡ true → 0 < a.world.cycle

not_going : (a : State) (p : Phase) → a.world.phase ≡ p → is_going p ≡ false → is_going a.world.phase ≡ true → ⊥
not_going a p is off going = absurd (false≢true (sym off ∙ ap is_going (sym is) ∙ going))

outcome_begun : (a c : State) (step : NamedStep) (reply : Reply) → IsNoEnd step → heap_refusal a step ≡ None
    → HeapAccepts a step reply c → HasBegun a → HasBegun (outcome a step reply)
outcome_begun a c (heap.Plain (plain.Begin now how)) reply no_end none row begun =
    subst (λ (r : Reply). HasBegun (outcome a (heap.Plain (plain.Begin now how)) r)) (sym row.0)
    (λ going. omega arith)
outcome_begun a c (heap.Plain plain.EndMark) reply no_end none row begun = absurd no_end
outcome_begun a c (heap.Plain plain.EndClear) reply no_end none row begun =
    subst (λ (r : Reply). HasBegun (outcome a (heap.Plain plain.EndClear) r)) (sym row.0)
    (λ going. begun (ap is_going (of_phase a (heap.Plain plain.EndClear) none).0))
outcome_begun a c (heap.Plain plain.EndSweep) reply no_end none row begun =
    subst (λ (r : Reply). HasBegun (outcome a (heap.Plain plain.EndSweep) r)) (sym row.0)
    (λ going. absurd (false≢true going))
outcome_begun a c (heap.Plain plain.Select) reply no_end none row begun =
    of_done (is_selected reply) (of_phase a (heap.Plain plain.Select) none).0
  where
    of_done : (done : Bool) → a.world.phase ≡ Idle
        → is_going (if done then with_phase a.world Moving else a.world).phase ≡ true
        → 0 < (if done then with_phase a.world Moving else a.world).cycle
    of_done true idle going = absurd (false≢true going)
    of_done false idle going = begun going
outcome_begun a c (heap.Plain plain.EndMove) reply no_end none row begun = of_done (is_done reply)
  where
    of_done : (done : Bool) → is_going (if done then with_phase a.world Idle else a.world).phase ≡ true
        → 0 < (if done then with_phase a.world Idle else a.world).cycle
    of_done true going = absurd (false≢true going)
    of_done false going = begun going
outcome_begun a c step reply no_end none row begun =
    λ going.
    subst (λ (k : ℕ). 0 < k) (sym (outcome_cycle a step reply tt))
    (begun (sym (ap is_going (outcome_phase a step reply tt)) ∙ going))

begun_turn : (p : Profile) (a b : State) (reply : Reply) → IsTurnAs p a reply b → HasBegun a → HasBegun b
begun_turn p a b reply (inl same) begun = subst HasBegun (sym same) begun
begun_turn p a b reply (inr (inl of)) begun =
    subst HasBegun (sym of.after)
    (subst HasBegun (sym (heap_outcome a of.left of.step reply of.no_end of.accepts))
    (outcome_begun a of.left of.step reply of.no_end of.passes of.accepts begun))
begun_turn p a b reply (inr (inr (inl of))) begun = subst HasBegun (sym of.after) begun
begun_turn p a b reply (inr (inr (inr of))) begun =
    subst HasBegun (sym of.after)
    (subst HasBegun (sym of.ends.after)
    (λ going. begun (ap is_going (of_phase a (heap.Plain plain.EndMark) of.passes))))

pub lawful_going : (p : Profile) (config : Config) (a : State) → Lawful p config a → is_going a.world.phase ≡ true
    → 0 < a.world.cycle
lawful_going p config =
    lawful_holds p config HasBegun (λ going. absurd (false≢true going))
    (λ a b row lawful begun h. begun_turn p a b row.reply (lawful_turn p config a b row lawful h) begun)
