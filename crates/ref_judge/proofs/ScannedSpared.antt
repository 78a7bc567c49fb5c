-- What a cycle scanned isn't doomed.
use Rattle.ref_base.proofs.Common.{arith, ◌≡◌, ℕ, true, false, List, [], ◌∷◌, None, refl, sym, ap, ◌∙◌, subst, inl, inr}
use Rattle.ref_base.proofs.Common.{take, drop, take-append-drop, cases_Bool, false≢true, has, joined, State, Object}
use Rattle.ref_base.proofs.Common.{NamedStep, heap_refusal}
use Rattle.ref_base.specs.DoomedSets.{unscanned}
use Rattle.ref_base.specs.Refusals.{plain_refusal}
use Rattle.ref_base.specs.declared.config.Config.{Config}
use Rattle.ref_base.specs.declared.reply.Reply.{Reply}
use Rattle.ref_base.specs.declared.reply.Reply.TheVariants as replies
use Rattle.ref_base.specs.declared.heap_step.HeapStep.TheVariants as heap
use Rattle.ref_base.specs.declared.plain_step.PlainStep.TheVariants as plain
use Rattle.ref_base.proofs.HasLaws.{has-right}
use Rattle.ref_base.proofs.Outcomes.{IsNoEnd, outcome, heap_outcome}
use Rattle.ref_base.proofs.PhaseLaws.{of_phase}
use Rattle.ref_judge.specs.Judged.{is_behind_mark}
use Rattle.ref_judge.specs.Standing.{Lawful}
use Rattle.ref_judge.specs.declared.profile.Profile.{Profile}
use Rattle.ref_judge.proofs.LawfulRuns.{lawful_holds}
use Rattle.ref_judge.proofs.LawfulStates.{lawful_live, lawful_turn}
use Rattle.ref_judge.proofs.LiveNames.{LiveNames}
use Rattle.ref_judge.proofs.RowTurns.{IsTurnAs}

abbrev AreSpared : State → Type 0
AreSpared a = (n : ℕ) → has (joined a.scanned) n ≡ true → has a.doomed n ≡ false

-- a number behind a place is in the list
pub has_behind : (at : ℕ) (ns : List ℕ) (n : ℕ) → has (drop at ns) n ≡ true → has ns n ≡ true
has_behind at ns n h =
    subst (λ (ms : List ℕ). has ms n ≡ true) (take-append-drop at ns) (has-right (take at ns) (drop at ns) n h)

lacks_behind : (at : ℕ) (ns : List ℕ) (n : ℕ) → has ns n ≡ false → has (drop at ns) n ≡ false
lacks_behind at ns n lacks =
    elim (cases_Bool (has (drop at ns) n)) [
      | inl there ↦ absurd (false≢true (sym lacks ∙ has_behind at ns n there))
      | inr lacks_too ↦ lacks_too
    ]

-- a mark's end dooms nothing that was scanned
seen_spared : (os : List Object) (born : ℕ) (scanned : List ℕ) (n : ℕ) → has scanned n ≡ true
    → has (unscanned os born scanned) n ≡ false
seen_spared [] born scanned n seen = refl
seen_spared (o ∷ os) born scanned n seen = grind (arith, seen_spared os born scanned n)

module _ (a : State) (names : LiveNames a) (spared : AreSpared a) where
  -- while objects are scanned, none is doomed
  none_doomed : (k : ℕ) → plain_refusal a (plain.Scan k) ≡ None → a.doomed ≡ []
  none_doomed k none = names.whole (ap is_behind_mark (of_phase a (heap.Plain (plain.Scan k)) none))

  outcome_spared : (step : NamedStep) (reply : Reply) → IsNoEnd step → heap_refusal a step ≡ None
      → AreSpared (outcome a step reply)
  outcome_spared (heap.Plain (plain.Scan k)) reply no_end none =
      λ n h. ap (λ (ns : List ℕ). has ns n) (none_doomed k none)
  outcome_spared (heap.Plain (plain.Begin now how)) reply no_end none = λ n h. refl
  outcome_spared (heap.Plain plain.EndMark) reply no_end none = absurd no_end
  outcome_spared (heap.Plain (plain.ClearNext k)) (replies.Cleared n) no_end none = spared
  outcome_spared (heap.Plain (plain.ClearNext k)) reply no_end none = spared
  outcome_spared (heap.Plain (plain.Sweep k)) (replies.Swept count) no_end none =
      λ n h. lacks_behind 64 a.doomed n (spared n h)
  outcome_spared (heap.Plain (plain.Sweep k)) reply no_end none = spared
  outcome_spared step reply no_end none = spared

  spared_turn : (p : Profile) (b : State) (reply : Reply) → IsTurnAs p a reply b → AreSpared b
  spared_turn p b reply (inl same) = subst AreSpared (sym same) spared
  spared_turn p b reply (inr (inl of)) =
      subst AreSpared (sym of.after)
      (subst AreSpared (sym (heap_outcome a of.left of.step reply of.no_end of.accepts))
      (outcome_spared of.step reply of.no_end of.passes))
  spared_turn p b reply (inr (inr (inl of))) =
      subst AreSpared (sym of.after) (λ n h. ap (λ (ns : List ℕ). has ns n) (none_doomed of.worker of.passes))
  spared_turn p b reply (inr (inr (inr of))) =
      subst AreSpared (sym of.after)
      (subst AreSpared (sym of.ends.after)
      (λ n h. seen_spared a.world.heap.objects a.born (joined a.scanned) n h))

pub lawful_spared : (p : Profile) (config : Config) (a : State) → Lawful p config a → AreSpared a
lawful_spared p config =
    lawful_holds p config AreSpared (λ n h. refl)
    (λ a b row lawful spared h.
    spared_turn a (lawful_live p config a lawful) spared p b row.reply (lawful_turn p config a b row lawful h))
