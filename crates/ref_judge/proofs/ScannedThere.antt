-- In a mark what was scanned is there.
use Rattle.ref_base.proofs.Common.{◌≡◌, ℕ, Bool, true, false, if◌then◌else◌, List, None, refl, sym, ap, ◌∙◌, subst, inl}
use Rattle.ref_base.proofs.Common.{inr, false≢true, has, joined, is_there, numbers, if_any, State, World, NamedStep}
use Rattle.ref_base.proofs.Common.{HeapAccepts, heap_refusal, is_in, is_done, is_selected, with_phase, is_kept}
use Rattle.ref_base.specs.declared.config.Config.{Config}
use Rattle.ref_base.specs.declared.phase.Phase.{Phase}
use Rattle.ref_base.specs.declared.phase.Phase.TheVariants.{Idle, Marking, Clearing, Sweeping, Moving}
use Rattle.ref_base.specs.declared.reply.Reply.{Reply}
use Rattle.ref_base.specs.declared.reply.Reply.TheVariants as replies
use Rattle.ref_base.specs.declared.heap_step.HeapStep.TheVariants as heap
use Rattle.ref_base.specs.declared.plain_step.PlainStep.TheVariants as plain
use Rattle.ref_base.proofs.Fitting.{with_scanned}
use Rattle.ref_base.proofs.FoundLists.{joined-emptied}
use Rattle.ref_base.proofs.HasLaws.{has-left}
use Rattle.ref_base.proofs.Lookups.{is_there-has}
use Rattle.ref_base.proofs.OutcomeParts.{outcome_phase}
use Rattle.ref_base.proofs.Outcomes.{IsNoEnd, outcome, heap_outcome}
use Rattle.ref_base.proofs.PhaseLaws.{of_phase}
use Rattle.ref_base.proofs.ReplayUnder.{made_number}
use Rattle.ref_judge.specs.KeptBounds.{MayBeKept, may_keep}
use Rattle.ref_judge.specs.Standing.{Lawful}
use Rattle.ref_judge.specs.declared.profile.Profile.{Profile}
use Rattle.ref_judge.proofs.LawfulRuns.{lawful_holds}
use Rattle.ref_judge.proofs.LawfulStates.{lawful_turn}
use Rattle.ref_judge.proofs.LiveNames.{Stays, numbers_out}
use Rattle.ref_judge.proofs.MarkRuns.{lawful_all_there}
use Rattle.ref_judge.proofs.MoreKept.{IsAllThere, ever_there}
use Rattle.ref_judge.proofs.RowTurns.{IsTurnAs}
use Rattle.ref_judge.proofs.ScannedFacts.{joined_last}
use Rattle.ref_judge.proofs.StrictRows.{strict_ever}

abbrev IsScannedThere : State → Type 0
IsScannedThere a =
    is_in a.world.phase Marking ≡ true → (n : ℕ) → has (joined a.scanned) n ≡ true
    → is_there a.world.heap.objects n ≡ true

kept_there : (p : Profile) (a : State) (n : ℕ) → IsAllThere a → MayBeKept p a n
    → is_there a.world.heap.objects n ≡ true
kept_there p a n all (inl ever) = ever_there (may_keep p a.world.policy) a.moments a.world.heap.objects n all ever
kept_there p a n all (inr more) = more.1

scan_there : (a : State) (k n : ℕ) → (is_in a.world.phase Marking ≡ true → is_there a.world.heap.objects n ≡ true)
    → IsScannedThere a → IsScannedThere (with_scanned a k n)
scan_there a k n is there marks m h =
    elim (joined_last a.scanned k n m h) [
      | inl same ↦ subst (λ (j : ℕ). is_there a.world.heap.objects j ≡ true) same (is marks)
      | inr before ↦ there marks m before
    ]

-- the state is in no mark
not_marking : (a : State) (q : Phase) → a.world.phase ≡ q → is_in q Marking ≡ false → IsScannedThere a
not_marking a q is off marks n h = absurd (false≢true (sym off ∙ ap (λ (r : Phase). is_in r Marking) (sym is) ∙ marks))

done_off : (done : Bool) (w : World) (q r : Phase) → w.phase ≡ q → is_in q Marking ≡ false → is_in r Marking ≡ false
    → is_in (if done then with_phase w r else w).phase Marking ≡ true → ⊥
done_off true w q r is off next marks = absurd (false≢true (sym next ∙ marks))
done_off false w q r is off next marks =
    absurd (false≢true (sym off ∙ ap (λ (r : Phase). is_in r Marking) (sym is) ∙ marks))

module _ (a : State) (all : is_in a.world.phase Marking ≡ true → IsAllThere a) (there : IsScannedThere a) where
  stays_there : (step : NamedStep) (reply : Reply) → Stays step
      → (outcome a step reply).world.phase ≡ a.world.phase → (outcome a step reply).scanned ≡ a.scanned
      → IsScannedThere (outcome a step reply)
  stays_there step reply stays phase scanned marks n h =
      is_there-has (outcome a step reply).world.heap.objects n
      ∙ ap (λ ns. has ns n) (numbers_out a step reply stays)
      ∙ has-left (numbers a.world.heap.objects) (if_any (made_number step reply)) n
      (sym (is_there-has a.world.heap.objects n)
      ∙ there (sym (ap (λ (r : Phase). is_in r Marking) phase) ∙ marks) n
      (sym (ap (λ (lists : List (List ℕ)). has (joined lists) n) scanned) ∙ h))

  outcome_there : (c : State) (step : NamedStep) (reply : Reply) → IsNoEnd step → heap_refusal a step ≡ None
      → HeapAccepts a step reply c → IsScannedThere (outcome a step reply)
  outcome_there c (heap.Plain (plain.Scan k)) (replies.Scanned n) no_end none row =
      scan_there a k n
      (λ marks.
      ever_there (is_kept a.world.policy) a.moments a.world.heap.objects n (all marks)
      (strict_ever a.world.policy a.moments n row.1.0)) there
  outcome_there c (heap.Plain (plain.Scan k)) reply no_end none row = there
  outcome_there c (heap.Plain (plain.Begin now how)) reply no_end none row =
      λ marks n h. absurd (false≢true (sym (ap (λ ns. has ns n) (joined-emptied a.scanned)) ∙ h))
  outcome_there c (heap.Plain plain.EndMark) reply no_end none row = absurd no_end
  outcome_there c (heap.Plain plain.EndClear) reply no_end none row =
      λ marks n h.
      absurd (done_off (is_done reply) a.world Clearing Sweeping (of_phase a (heap.Plain plain.EndClear) none).0 refl
      refl marks)
  outcome_there c (heap.Plain plain.EndSweep) reply no_end none row =
      λ marks n h.
      absurd (done_off (is_done reply) a.world Sweeping Idle (of_phase a (heap.Plain plain.EndSweep) none).0 refl refl
      marks)
  outcome_there c (heap.Plain plain.Select) reply no_end none row =
      λ marks n h.
      absurd (done_off (is_selected reply) a.world Idle Moving (of_phase a (heap.Plain plain.Select) none).0 refl refl
      marks)
  outcome_there c (heap.Plain plain.EndMove) reply no_end none row =
      λ marks n h.
      absurd (done_off (is_done reply) a.world Moving Idle (of_phase a (heap.Plain plain.EndMove) none) refl refl
      marks)
  outcome_there c (heap.Plain (plain.ClearNext k)) reply no_end none row =
      not_marking (outcome a (heap.Plain (plain.ClearNext k)) reply) Clearing
      (outcome_phase a (heap.Plain (plain.ClearNext k)) reply tt
      ∙ of_phase a (heap.Plain (plain.ClearNext k)) none) refl
  outcome_there c (heap.Plain (plain.Sweep k)) reply no_end none row =
      not_marking (outcome a (heap.Plain (plain.Sweep k)) reply) Sweeping
      (outcome_phase a (heap.Plain (plain.Sweep k)) reply tt
      ∙ of_phase a (heap.Plain (plain.Sweep k)) none) refl
  outcome_there c step reply no_end none row =
      stays_there step reply tt (outcome_phase a step reply tt) refl

  there_turn : (p : Profile) (b : State) (reply : Reply) → IsTurnAs p a reply b → IsScannedThere b
  there_turn p b reply (inl same) = subst IsScannedThere (sym same) there
  there_turn p b reply (inr (inl of)) =
      subst IsScannedThere (sym of.after)
      (subst IsScannedThere (sym (heap_outcome a of.left of.step reply of.no_end of.accepts))
      (outcome_there of.left of.step reply of.no_end of.passes of.accepts))
  there_turn p b reply (inr (inr (inl of))) =
      subst IsScannedThere (sym of.after)
      (scan_there a of.worker of.object (λ marks. kept_there p a of.object (all marks) of.is_left.0) there)
  there_turn p b reply (inr (inr (inr of))) =
      subst IsScannedThere (sym of.after)
      (subst IsScannedThere (sym of.ends.after) (λ marks n h. absurd (false≢true marks)))

pub lawful_there : (p : Profile) (config : Config) (a : State) → Lawful p config a → IsScannedThere a
lawful_there p config =
    lawful_holds p config IsScannedThere (λ marks n h. absurd (false≢true marks))
    (λ a b row lawful there h.
    there_turn a (λ marks. (lawful_all_there p config a lawful marks).0) there p b row.reply
    (lawful_turn p config a b row lawful h))
