-- Each row of a collector of any profile leaves the lists of what was scanned whole: no object stands twice in them,
-- and there is one for each worker.
use Rattle.ref_base.proofs.Common.{◌≡◌, ℕ, ◌<◌, Bool, true, false, if◌then◌else◌, List, [], ◌∷◌, ◌++◌, length, Option}
use Rattle.ref_base.proofs.Common.{Some, None, refl, sym, ap, ◌∙◌, subst, ltb-true, length-set, joined, list_at}
use Rattle.ref_base.proofs.Common.{State, World, Notice, NamedStep, heap_step, spending, hand_of, hold_of}
use Rattle.ref_base.proofs.Common.{after_queues, ticked, with_world, refusal}
use Rattle.ref_base.specs.Members.{AreDistinct}
use Rattle.ref_base.specs.Refusals.{is_worker, plain_refusal}
use Rattle.ref_base.proofs.RowForms.{ticked_world, unless_passes}
use Rattle.ref_base.proofs.RowChanges.{Changes, heap_tells}
use Rattle.ref_base.proofs.ReplayKeeps.{handed_keeps, queues_keep}
use Rattle.ref_base.proofs.FoundLists.{AreDistinct-with_last, joined-emptied, length-emptied}
use Rattle.ref_base.proofs.LegalMarks.{ListsAreWhole}
use Rattle.ref_base.proofs.MarkFacts.{ticked_same}
use Rattle.ref_base.proofs.Bases.{base, refuses}
use Rattle.ref_base.proofs.Fitting.{with_scanned}
use Rattle.ref_base.specs.declared.actor.Actor.{Actor}
use Rattle.ref_base.specs.declared.actor.Actor.TheVariants.{Mutator}
use Rattle.ref_base.specs.declared.config.Config.{Config}
use Rattle.ref_base.specs.declared.fault.Fault.{Fault}
use Rattle.ref_base.specs.declared.row.Row.{Row}
use Rattle.ref_base.specs.declared.step.Step.{Step}
use Rattle.ref_base.specs.declared.step.Step.TheVariants as steps
use Rattle.ref_base.specs.declared.heap_step.HeapStep.TheVariants as heap
use Rattle.ref_base.specs.declared.plain_step.PlainStep.{PlainStep}
use Rattle.ref_base.specs.declared.plain_step.PlainStep.TheVariants as plain
use Rattle.ref_base.specs.declared.reply.Reply.{Reply}
use Rattle.ref_base.specs.declared.reply.Reply.TheVariants as replies
use Rattle.ref_judge.specs.ProfiledRows.{says_anew, AcceptsAnew, ScansAs, PlainAcceptsAs, HeapAcceptsAs}
use Rattle.ref_judge.specs.ProfiledRows.{AcceptsAskingAs, IsAnswerAs, IsRowAs}
use Rattle.ref_judge.specs.declared.profile.Profile.{Profile}
use Rattle.ref_judge.proofs.UnchangedRows.{plain_accepted_as}
use Rattle.ref_judge.proofs.OtherPolicies.{HandsOver}
use Rattle.ref_judge.proofs.ProfiledBases.{one_base_as}

-- what was scanned and how many workers there are is as before
whole_same : (a b : State) → b.scanned ≡ a.scanned → b.world.heap.config ≡ a.world.heap.config → ListsAreWhole a
    → ListsAreWhole b
whole_same a b same config whole = (
  subst (λ (lists : List (List ℕ)). AreDistinct (joined lists)) (sym same) whole.0,
  ap (λ (lists : List (List ℕ)). length lists) same ∙ whole.1 ∙ ap (λ (c : Config). c.workers) (sym config),
)

-- the row scans no object
abbrev ScansNone : NamedStep → Reply → Type 0
ScansNone (heap.Plain (plain.Scan k)) (replies.Scanned n) = ⊥
ScansNone step reply = Unit {0}

-- a row of the abstract collector that scans none leaves them whole
whole_changed : (a c : State) (step : NamedStep) (reply : Reply) → ScansNone step reply → Changes a (Some step) reply c
    → ListsAreWhole a → ListsAreWhole c
whole_changed a c (heap.Plain (plain.Scan k)) (replies.Scanned n) none changes whole = absurd none
whole_changed a c (heap.Plain (plain.Begin now how)) (replies.Cycle n) none changes whole = (
  subst AreDistinct (sym (ap joined changes.scanned ∙ joined-emptied a.scanned)) tt,
  ap (λ (lists : List (List ℕ)). length lists) changes.scanned ∙ length-emptied a.scanned ∙ whole.1
      ∙ ap (λ (c : Config). c.workers) (sym changes.config),
)
whole_changed a c step reply none changes whole = whole_same a c changes.scanned changes.config whole

module _ (p : Profile) (a c : State) (whole : ListsAreWhole a) where
  whole_anew : (anew : Bool) (step : PlainStep) (reply : Reply) → ScansNone (heap.Plain step) reply
      → AcceptsAnew p anew a step reply c → ListsAreWhole c
  whole_anew true step reply none row =
      whole_same row.0 c (ap (λ (s : State). s.scanned) row.2.1) (ap (λ (s : State). s.world.heap.config) row.2.1)
      (whole_changed a row.0 (heap.Plain step) reply none (heap_tells a row.0 (heap.Plain step) reply row.1) whole)
  whole_anew false step reply none row =
      whole_changed a c (heap.Plain step) reply none (heap_tells a c (heap.Plain step) reply row) whole

  whole_scan : (k : ℕ) (reply : Reply) → plain_refusal a (plain.Scan k) ≡ None → ScansAs p a k reply c
      → ListsAreWhole c
  whole_scan k (replies.Scanned n) none row =
      let worker : k < a.world.heap.config.workers =
      ltb-true k a.world.heap.config.workers (unless_passes (is_worker a.world.heap k) _ _ none).0 in
      let within : k < length a.scanned = subst (λ (count : ℕ). k < count) (sym whole.1) worker in
      let d : State = with_scanned a k n in
      whole_same d c (ap (λ (s : State). s.scanned) row.2.1 ∙ (ticked_same d).0)
      (ap (λ (s : State). s.world.heap.config) row.2.1
      ∙ ap (λ (w : World). w.heap.config) (ticked_world d)) (
        AreDistinct-with_last a.scanned k n within whole.0 row.1.2,
        length-set a.scanned k (list_at a.scanned k ++ n ∷ []) ∙ whole.1,
      )
  whole_scan k reply none row =
      whole_changed a c (heap.Plain (plain.Scan k)) reply tt (heap_tells a c (heap.Plain (plain.Scan k)) reply row)
      whole

  whole_plain : (step : PlainStep) (reply : Reply) → plain_refusal a step ≡ None → PlainAcceptsAs p a step reply c
      → ListsAreWhole c
  whole_plain (plain.Scan k) reply none row = whole_scan k reply none row
  whole_plain plain.EndMark reply none row =
      whole_same a c (ap (λ (s : State). s.scanned) row.after)
      (ap (λ (s : State). s.world.heap.config) row.after) whole
  whole_plain step reply none row = whole_anew (says_anew a step reply) step reply tt row

  whole_handing : (step : NamedStep) (reply : Reply) → HandsOver step → HeapAcceptsAs p a step reply c
      → ListsAreWhole c
  whole_handing (heap.Plain step) reply over row = absurd over
  whole_handing step reply over row = whole_changed a c step reply tt (heap_tells a c step reply row) whole

module _ (p : Profile) (a b : State) (whole : ListsAreWhole a) where
  -- a step that hands something over
  whole_asked : (asked : NamedStep) (step : Step) (reply : Reply) → HandsOver asked
      → AcceptsAskingAs p a (Some asked) step reply b → ListsAreWhole b
  whole_asked asked step reply over (c, row, is) =
      whole_same c b (ap (λ (s : State). s.scanned) is)
      (ap (λ (s : State). s.world.heap.config) is
      ∙ ap (λ (w : World). w.heap.config) (handed_keeps c.world step reply))
      (whole_handing p a c whole asked reply over row)

  whole_adopts : (m d : ℕ) (hand : List Notice) (reply : Reply)
      → AcceptsAskingAs p a (spending a.world (λ hold. heap.Adopt m d hold) hand) (steps.Adopt m d) reply b
      → ListsAreWhole b
  whole_adopts m d [] reply row = absurd row
  whole_adopts m d (notice ∷ rest) reply row =
      whole_asked (heap.Adopt m d (hold_of a.world notice)) (steps.Adopt m d) reply tt row

  whole_releases : (who : Actor) (hand : List Notice) (reply : Reply)
      → AcceptsAskingAs p a (spending a.world (λ hold. heap.Release hold) hand) (steps.Release who) reply b
      → ListsAreWhole b
  whole_releases who [] reply row = absurd row
  whole_releases who (notice ∷ rest) reply row =
      whole_asked (heap.Release (hold_of a.world notice)) (steps.Release who) reply tt row

  -- a step of queues
  whole_queues : (step : Step) (reply : Reply) (refused : Bool)
      → base b ≡ (if refused then base a else base (ticked (with_world a (after_queues a.world step reply))))
      → ListsAreWhole b
  whole_queues step reply true is =
      whole_same a b (ap (λ (s : State). s.scanned) is) (ap (λ (s : State). s.world.heap.config) is) whole
  whole_queues step reply false is =
      let d : State = with_world a (after_queues a.world step reply) in
      whole_same a b (ap (λ (s : State). s.scanned) is ∙ (ticked_same d).0)
      (ap (λ (s : State). s.world.heap.config) is ∙ ap (λ (w : World). w.heap.config) (ticked_world d)
      ∙ ap (λ (w : World). w.heap.config) (queues_keep a.world step reply)) whole

  whole_step : (step : Step) (reply : Reply) → refusal a step ≡ None
      → AcceptsAskingAs p a (heap_step a.world step) step reply b
      → IsRowAs p a (record { step = step; reply = reply }) b → ListsAreWhole b
  whole_step (steps.Plain step) reply none row h =
      whole_plain p a b whole step reply none (plain_accepted_as p a b step reply none h)
  whole_step (steps.Unhook m s) reply none row h = whole_asked (heap.Unhook m s) (steps.Unhook m s) reply tt row
  whole_step (steps.Hand k) reply none row h = whole_asked (heap.Hand k) (steps.Hand k) reply tt row
  whole_step (steps.Hands k max) reply none row h = whole_asked (heap.Hands k max []) (steps.Hands k max) reply tt row
  whole_step (steps.Adopt m d) reply none row h = whole_adopts m d (hand_of a.world (Mutator m)) reply row
  whole_step (steps.Release who) reply none row h = whole_releases who (hand_of a.world who) reply row
  whole_step step reply none row h =
      whole_queues step reply (refuses reply) (one_base_as p a b (record { step = step; reply = reply }) h)

  -- a row leaves the lists whole
  pub whole_row_as : (row : Row) → IsRowAs p a row b → ListsAreWhole b
  whole_row_as row h = of_fault (refusal a row.step) refl h
    where
      of_fault : (fault : Option Fault) → refusal a row.step ≡ fault → IsAnswerAs p a fault row.step row.reply b
          → ListsAreWhole b
      of_fault (Some fault) is refused = subst ListsAreWhole (sym refused.1) whole
      of_fault None is accepted = whole_step row.step row.reply is accepted h
