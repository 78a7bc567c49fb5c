-- What comes of a row at its heap, of a collector of any profile: nothing, what the heap of the abstract collector
-- accepts, or a scan or a mark's end that the profile allows. Hands and queues are beside.
use Rattle.ref_base.proofs.Common.{◌≡◌, ℕ, Bool, true, false, List, [], ◌∷◌, map, Option, Some, None, refl, ap, ◌∙◌}
use Rattle.ref_base.proofs.Common.{subst, inl, inr, ◌⊎◌, State, World, Notice, NamedStep, HeapAccepts, heap_refusal}
use Rattle.ref_base.proofs.Common.{refusal, AreCounted, Polls, ticked, with_world, took, object_of, one_taken}
use Rattle.ref_base.specs.Refusals.{plain_refusal}
use Rattle.ref_base.specs.declared.fault.Fault.{Fault}
use Rattle.ref_base.specs.declared.row.Row.{Row}
use Rattle.ref_base.specs.declared.reply.Reply.{Reply}
use Rattle.ref_base.specs.declared.reply.Reply.TheVariants as replies
use Rattle.ref_base.specs.declared.heap_step.HeapStep.TheVariants as heap
use Rattle.ref_base.specs.declared.plain_step.PlainStep.{PlainStep}
use Rattle.ref_base.specs.declared.plain_step.PlainStep.TheVariants as plain
use Rattle.ref_base.specs.declared.step.Step.{Step}
use Rattle.ref_base.specs.declared.step.Step.TheVariants as steps
use Rattle.ref_base.proofs.EverRows.{InMark}
use Rattle.ref_base.proofs.Fitting.{with_scanned}
use Rattle.ref_base.proofs.HeapTurns.{at_rest}
use Rattle.ref_base.proofs.Outcomes.{IsNoEnd, settled, settled_ticked}
use Rattle.ref_base.proofs.ReplayKeeps.{but_hands, queues_keep, handed_keeps}
use Rattle.ref_base.proofs.RowKinds.{row_kind, IsOfHeap, IsOfQueues, queues_lead}
use Rattle.ref_judge.specs.ProfiledRows.{IsLeftAs, EndsMarkAs, AcceptsAnew, PlainAcceptsAs, IsAnswerAs, IsRowAs}
use Rattle.ref_judge.specs.ProfiledRows.{says_anew}
use Rattle.ref_judge.specs.declared.profile.Profile.{Profile}
use Rattle.ref_judge.proofs.MoreKept.{AsksInMark, IsMarkStep, asks_in_mark}
use Rattle.ref_judge.proofs.UnchangedRows.{common_row, plain_accepted_as}

-- the heap accepts a step that ends no mark
pub record IsAccepted (a : State) (reply : Reply) (b : State) : Type 0 where
  pub step : NamedStep
  pub no_end : IsNoEnd step
  pub passes : heap_refusal a step ≡ None
  pub left : State
  pub accepts : HeapAccepts a step reply left
  pub after : at_rest b ≡ at_rest left

-- a worker scans an object that is left
pub record IsScan (p : Profile) (a b : State) : Type 0 where
  pub worker : ℕ
  pub object : ℕ
  pub passes : plain_refusal a (plain.Scan worker) ≡ None
  pub is_left : IsLeftAs p a object
  pub after : at_rest b ≡ at_rest (with_scanned a worker object)

-- a mark ends
pub record IsEnd (p : Profile) (a : State) (reply : Reply) (b : State) : Type 0 where
  pub passes : plain_refusal a plain.EndMark ≡ None
  pub left : State
  pub ends : EndsMarkAs p a reply left
  pub after : at_rest b ≡ at_rest left

abbrev pub IsTurnAs : Profile → State → Reply → State → Type 0
IsTurnAs p a reply b =
    (at_rest b ≡ at_rest a) ⊎ (IsAccepted a reply b ⊎ (IsScan p a b ⊎ IsEnd p a reply b))

rest_ticked : (c : State) → at_rest (ticked c) ≡ at_rest c
rest_ticked c = ap (λ (s : State). with_world s (but_hands s.world)) (settled_ticked c)

in_mark_no_end : (step : NamedStep) → InMark step → IsNoEnd step
in_mark_no_end (heap.Plain plain.EndMark) inside = absurd inside
in_mark_no_end step inside = tt

module _ (p : Profile) (a b : State) where
  plain_turn : (step : PlainStep) (reply : Reply) → plain_refusal a step ≡ None → PlainAcceptsAs p a step reply b
      → IsTurnAs p a reply b
  plain_turn (plain.Scan k) (replies.Scanned n) none row =
      inr (inr (inl (record {
        worker = k;
        object = n;
        passes = none;
        is_left = row.1;
        after = ap at_rest row.2.1 ∙ rest_ticked (with_scanned a k n);
      })))
  plain_turn (plain.Scan k) reply none row =
      inr (inl (record {
        step = heap.Plain (plain.Scan k);
        no_end = tt;
        passes = none;
        left = b;
        accepts = row;
        after = refl;
      }))
  plain_turn plain.EndMark reply none row =
      inr (inr (inr (record { passes = none; left = b; ends = row; after = refl })))
  plain_turn step reply none row = of_anew (says_anew a step reply) row
    where
      of_anew : (anew : Bool) → AcceptsAnew p anew a step reply b → IsTurnAs p a reply b
      of_anew true row =
          inr (inl (record {
            step = heap.Plain step;
            no_end = tt;
            passes = none;
            left = row.0;
            accepts = row.1;
            after = ap at_rest row.2.1;
          }))
      of_anew false row =
          inr (inl (record {
            step = heap.Plain step;
            no_end = tt;
            passes = none;
            left = b;
            accepts = row;
            after = refl;
          }))

  polls_turn : (m q : ℕ) (tell : List ℕ → Reply) (taken : List Notice) (reply : Reply)
      → Polls a m q tell taken reply b → at_rest b ≡ at_rest a
  polls_turn m q tell [] reply row = ap at_rest row.1 ∙ rest_ticked a
  polls_turn m q tell (notice ∷ rest) reply row =
      let ns : List ℕ = map object_of (notice ∷ rest) in
      ap at_rest row.1 ∙ rest_ticked (with_world a (took a.world m q ns))
      ∙ ap (λ (w : World). settled (with_world a w)) (queues_keep a.world (steps.Polls m q 1) (replies.TookSome ns))

  -- a step that isn't plain, and no poll
  of_kind : (step : Step) (reply : Reply) → IsMarkStep step
      → IsOfQueues a (record { step = step; reply = reply }) b ⊎ IsOfHeap a (record { step = step; reply = reply }) b
      → IsTurnAs p a reply b
  of_kind step reply inside (inl of) =
      inl (ap (λ (s : State). with_world s (but_hands s.world)) (queues_lead of)
      ∙ ap (λ (w : World). settled (with_world a w)) (queues_keep a.world step reply))
  of_kind step reply inside (inr of) =
      inr (inl (record {
        step = of.asked;
        no_end = in_mark_no_end of.asked (subst AsksInMark of.asks (asks_in_mark a.world step inside));
        passes = of.passes;
        left = of.left;
        accepts = of.accepts;
        after = ap at_rest of.after
            ∙ ap (λ (w : World). settled (with_world of.left w)) (handed_keeps of.left.world step reply);
      }))

  module _ (counted : AreCounted a.world) where
    step_turn : (step : Step) (reply : Reply) → refusal a step ≡ None
        → IsRowAs p a (record { step = step; reply = reply }) b → IsTurnAs p a reply b
    step_turn (steps.Plain step) reply none h =
        plain_turn step reply none (plain_accepted_as p a b step reply none h)
    step_turn (steps.Poll m q) reply none h =
        let row = subst (λ (o : Option Fault). IsAnswerAs p a o (steps.Poll m q) reply b) none h in
        inl (polls_turn m q one_taken row.0 reply row.2)
    step_turn (steps.Polls m q max) reply none h =
        let row = subst (λ (o : Option Fault). IsAnswerAs p a o (steps.Polls m q max) reply b) none h in
        inl (polls_turn m q replies.TookSome row.0 reply row.2)
    step_turn step reply none h =
        let row : Row = record { step = step; reply = reply } in
        elim (row_kind a row b counted (common_row p a b row (inr tt) h)) [
          | inl of ↦ inl (ap at_rest of.same)
          | inr others ↦ of_kind step reply tt others
        ]

    pub turn_as : (row : Row) → IsRowAs p a row b → IsTurnAs p a row.reply b
    turn_as row h = of_fault (refusal a row.step) refl h
      where
        of_fault : (fault : Option Fault) → refusal a row.step ≡ fault → IsAnswerAs p a fault row.step row.reply b
            → IsTurnAs p a row.reply b
        of_fault (Some fault) is refused = inl (ap at_rest refused.1)
        of_fault None is accepted = step_turn row.step row.reply is h
