-- Rows in which a profile has no word are those of the abstract collector. It has one where it is said anew whether an
-- object is left, where a scan answers an object, at a mark's end, and in what a poll takes.
use Rattle.ref_base.proofs.Common.{◌≡◌, ℕ, false, List, [], ◌∷◌, inl, inr, ◌⊎◌, refl, sym, ◌∙◌, subst, Option, Some}
use Rattle.ref_base.proofs.Common.{None, State, NamedStep, HeapAccepts, Scans, AcceptsAsking, IsAnswer, IsRow, refusal}
use Rattle.ref_base.proofs.Common.{heap_step, spending, hand_of, Notice}
use Rattle.std.specs.Prelude.{◌↔◌}
use Rattle.ref_base.specs.Refusals.{plain_refusal}
use Rattle.ref_base.specs.CollectorRows.{PlainAccepts}
use Rattle.ref_base.specs.declared.actor.Actor.{Actor}
use Rattle.ref_base.specs.declared.actor.Actor.TheVariants.{Mutator}
use Rattle.ref_base.specs.declared.fault.Fault.{Fault}
use Rattle.ref_base.specs.declared.reply.Reply.{Reply}
use Rattle.ref_base.specs.declared.row.Row.{Row}
use Rattle.ref_base.specs.declared.plain_step.PlainStep.{PlainStep}
use Rattle.ref_base.specs.declared.plain_step.PlainStep.TheVariants as plain
use Rattle.ref_base.specs.declared.heap_step.HeapStep.TheVariants as heap
use Rattle.ref_base.specs.declared.step.Step.{Step}
use Rattle.ref_base.specs.declared.step.Step.TheVariants as steps
use Rattle.ref_base.specs.declared.reply.Reply.TheVariants as replies
use Rattle.ref_base.proofs.PlainRows.{plain_row}
use Rattle.ref_judge.specs.ProfiledRows.{says_anew, AcceptsAnew, ScansAs, PlainAcceptsAs, HeapAcceptsAs}
use Rattle.ref_judge.specs.ProfiledRows.{AcceptsAskingAs, IsAnswerAs, IsRowAs}
use Rattle.ref_judge.specs.declared.profile.Profile.{Profile}

-- a profile has no word in this step of the heap with this answer
abbrev pub IsPlain : State → PlainStep → Reply → Type 0
IsPlain a (plain.Load m d s i) reply = says_anew a (plain.Load m d s i) reply ≡ false
IsPlain a (plain.Get m d s) reply = says_anew a (plain.Get m d s) reply ≡ false
IsPlain a (plain.Begin now how) reply = ⊥
IsPlain a (plain.Scan k) reply = reply ≡ replies.Nothing
IsPlain a plain.EndMark reply = ⊥
IsPlain a step reply = Unit {0}

-- nor in this step
abbrev pub IsCommon : State → Step → Reply → Type 0
IsCommon a (steps.Plain step) reply = IsPlain a step reply
IsCommon a (steps.Poll m q) reply = ⊥
IsCommon a (steps.Polls m q max) reply = ⊥
IsCommon a step reply = Unit {0}

-- nor in this row, where the step is refused, or is one of those
abbrev pub IsCommonRow : State → Row → Type 0
IsCommonRow a row = ((fault : Fault) × (refusal a row.step ≡ Some fault)) ⊎ IsCommon a row.step row.reply

module _ (p : Profile) (a b : State) where
  plain_common : (step : PlainStep) (reply : Reply) → IsPlain a step reply
      → PlainAcceptsAs p a step reply b ↔ PlainAccepts a step reply b
  plain_common (plain.Load m d s i) reply is =
      subst (λ anew. AcceptsAnew p anew a (plain.Load m d s i) reply b ↔ PlainAccepts a (plain.Load m d s i) reply b)
      (sym is) (λ row. row, λ row. row)
  plain_common (plain.Get m d s) reply is =
      subst (λ anew. AcceptsAnew p anew a (plain.Get m d s) reply b ↔ PlainAccepts a (plain.Get m d s) reply b)
      (sym is) (λ row. row, λ row. row)
  plain_common (plain.Begin now how) reply is = absurd is
  plain_common (plain.Scan k) reply is =
      subst (λ (r : Reply). ScansAs p a k r b ↔ Scans a k r b) (sym is) (λ row. row, λ row. row)
  plain_common plain.EndMark reply is = absurd is
  plain_common step reply is = (λ row. row, λ row. row)

module _ (p : Profile) (a b : State) where
  -- a step that asks its heap for this
  asking_common : (asked : NamedStep) (step : Step) (reply : Reply)
      → ((c : State) → HeapAcceptsAs p a asked reply c ↔ HeapAccepts a asked reply c)
      → AcceptsAskingAs p a (Some asked) step reply b ↔ AcceptsAsking a (Some asked) step reply b
  asking_common asked step reply same =
      (λ row. (row.0, (same row.0).0 row.1, row.2), λ row. (row.0, (same row.0).1 row.1, row.2))

  adopts_common : (m d : ℕ) (hand : List Notice) (reply : Reply)
      → AcceptsAskingAs p a (spending a.world (λ hold. heap.Adopt m d hold) hand) (steps.Adopt m d) reply b
      ↔ AcceptsAsking a (spending a.world (λ hold. heap.Adopt m d hold) hand) (steps.Adopt m d) reply b
  adopts_common m d [] reply = (λ row. row, λ row. row)
  adopts_common m d (notice ∷ rest) reply = (λ row. row, λ row. row)

  releases_common : (who : Actor) (hand : List Notice) (reply : Reply)
      → AcceptsAskingAs p a (spending a.world (λ hold. heap.Release hold) hand) (steps.Release who) reply b
      ↔ AcceptsAsking a (spending a.world (λ hold. heap.Release hold) hand) (steps.Release who) reply b
  releases_common who [] reply = (λ row. row, λ row. row)
  releases_common who (notice ∷ rest) reply = (λ row. row, λ row. row)

  accepted_common : (step : Step) (reply : Reply) → IsCommon a step reply
      → AcceptsAskingAs p a (heap_step a.world step) step reply b
      ↔ AcceptsAsking a (heap_step a.world step) step reply b
  accepted_common (steps.Plain step) reply is =
      asking_common (heap.Plain step) (steps.Plain step) reply (λ c. plain_common p a c step reply is)
  accepted_common (steps.Unhook m s) reply is = (λ row. row, λ row. row)
  accepted_common (steps.Hand k) reply is = (λ row. row, λ row. row)
  accepted_common (steps.Hands k max) reply is = (λ row. row, λ row. row)
  accepted_common (steps.Adopt m d) reply is = adopts_common m d (hand_of a.world (Mutator m)) reply
  accepted_common (steps.Release who) reply is = releases_common who (hand_of a.world who) reply
  accepted_common (steps.Poll m q) reply is = absurd is
  accepted_common (steps.Polls m q max) reply is = absurd is
  accepted_common step reply is = (λ row. row, λ row. row)

  answer_common : (row : Row) (fault : Option Fault) → refusal a row.step ≡ fault → IsCommonRow a row
      → IsAnswerAs p a fault row.step row.reply b ↔ IsAnswer a fault row.step row.reply b
  answer_common row (Some fault) is common = (λ h. h, λ h. h)
  answer_common row None is (inl refused) = absurd (differ (sym is ∙ refused.1))
    where
      differ : {fault : Fault} → None ≡ Some fault → ⊥
      differ same = absurd cc
  answer_common row None is (inr common) = accepted_common row.step row.reply common

  -- a row in which the profile has no word is one of the abstract collector
  pub common_row : (row : Row) → IsCommonRow a row → IsRowAs p a row b → IsRow a row b
  common_row row common = (answer_common row (refusal a row.step) refl common).0

  -- and back
  pub row_common : (row : Row) → IsCommonRow a row → IsRow a row b → IsRowAs p a row b
  row_common row common = (answer_common row (refusal a row.step) refl common).1

  -- where the step is not refused, its row is what the heap accepts
  pub plain_accepted_as : (step : PlainStep) (reply : Reply) → plain_refusal a step ≡ None
      → IsRowAs p a (plain_row step reply) b → PlainAcceptsAs p a step reply b
  plain_accepted_as step reply none h =
      let row = subst (λ (o : Option Fault). IsAnswerAs p a o (steps.Plain step) reply b) none h in
      subst (λ (s : State). PlainAcceptsAs p a step reply s) (sym row.2) row.1

  -- and what the heap accepts is its row
  pub accepted_plain_as : (step : PlainStep) (reply : Reply) → plain_refusal a step ≡ None
      → PlainAcceptsAs p a step reply b → IsRowAs p a (plain_row step reply) b
  accepted_plain_as step reply none row =
      subst (λ (o : Option Fault). IsAnswerAs p a o (steps.Plain step) reply b) (sym none) (b, row, refl)

  -- in clearing a look, and the end
  pub look_common : (k : ℕ) (reply : Reply)
      → IsRowAs p a (plain_row (plain.ClearNext k) reply) b ↔ IsRow a (plain_row (plain.ClearNext k) reply) b
  look_common k reply =
      let row = plain_row (plain.ClearNext k) reply in (common_row row (inr tt), row_common row (inr tt))

  pub clear_common : (reply : Reply)
      → IsRowAs p a (plain_row plain.EndClear reply) b ↔ IsRow a (plain_row plain.EndClear reply) b
  clear_common reply =
      let row = plain_row plain.EndClear reply in (common_row row (inr tt), row_common row (inr tt))
