-- How the steps of a mark and of clearing are answered that read or leave open what is free in a state, by a collector
-- of any profile: no row of them has another answer than these.
use Rattle.ref_base.proofs.Common.{◌≡◌, ℕ, Bool, true, false, not, length, None, refl, inl, inr, ◌⊎◌, false≢true}
use Rattle.ref_base.proofs.Common.{slot_at, State, is_in, field_in, referent_got, reference_of, value_reply, doomed_at}
use Rattle.ref_base.proofs.Common.{unless}
use Rattle.ref_base.specs.Refusals.{plain_refusal}
use Rattle.ref_base.specs.CollectorRows.{PlainAccepts}
use Rattle.ref_base.proofs.PlainRows.{plain_row, accepted_plain}
use Rattle.ref_base.proofs.MarkAnswers.{load_answers, get_answers, clear_answers}
use Rattle.ref_base.specs.declared.phase.Phase.TheVariants.{Marking, Clearing}
use Rattle.ref_base.specs.declared.fault.Fault.TheVariants.{ClearingLeft, GreyLeft, WrongPhase}
use Rattle.ref_base.specs.declared.plain_step.PlainStep.{PlainStep}
use Rattle.ref_base.specs.declared.plain_step.PlainStep.TheVariants as plain
use Rattle.ref_base.specs.declared.step.Step.TheVariants as steps
use Rattle.ref_base.specs.declared.reply.Reply.{Reply}
use Rattle.ref_base.specs.declared.reply.Reply.TheVariants as replies
use Rattle.ref_judge.specs.ProfiledRows.{says_anew, AcceptsAnew, ScansAs, IsAnswerAs, IsRowAs}
use Rattle.ref_judge.specs.declared.profile.Profile.{Profile}
use Rattle.ref_judge.proofs.UnchangedRows.{plain_accepted_as, clear_common}

module _ (p : Profile) (a b : State) where
  -- the abstract collector answers so too
  pub also_accepted : (anew : Bool) (step : PlainStep) (reply : Reply) → AcceptsAnew p anew a step reply b
      → (c : State) × PlainAccepts a step reply c
  also_accepted true step reply row = (row.0, row.1)
  also_accepted false step reply row = (b, row)

  -- a load answers what the field holds
  pub load_answers_as : (m d s i : ℕ) (reply : Reply) → plain_refusal a (plain.Load m d s i) ≡ None
      → IsRowAs p a (plain_row (plain.Load m d s i) reply) b
      → reply ≡ value_reply (field_in a.world.heap (slot_at a.world.heap m s) i)
  load_answers_as m d s i reply none h =
      let load = plain.Load m d s i in
      let also = also_accepted (says_anew a load reply) load reply (plain_accepted_as p a b load reply none h) in
      load_answers a also.0 m d s i reply none (accepted_plain a also.0 load reply none also.1)

  -- a get answers what is got
  pub get_answers_as : (m d s : ℕ) (reply : Reply) → plain_refusal a (plain.Get m d s) ≡ None
      → IsRowAs p a (plain_row (plain.Get m d s) reply) b
      → reply ≡ value_reply (referent_got (reference_of a.world.heap (slot_at a.world.heap m s)))
  get_answers_as m d s reply none h =
      let get = plain.Get m d s in
      let also = also_accepted (says_anew a get reply) get reply (plain_accepted_as p a b get reply none h) in
      get_answers a also.0 m d s reply none (accepted_plain a also.0 get reply none also.1)

  -- a scan answers an object, or that none is left
  pub scan_answers_as : (k : ℕ) (reply : Reply) → plain_refusal a (plain.Scan k) ≡ None
      → IsRowAs p a (plain_row (plain.Scan k) reply) b
      → (reply ≡ replies.Nothing) ⊎ ((n : ℕ) × (reply ≡ replies.Scanned n))
  scan_answers_as k reply none h = of_reply reply (plain_accepted_as p a b (plain.Scan k) reply none h)
    where
      of_reply : (reply : Reply) → ScansAs p a k reply b
          → (reply ≡ replies.Nothing) ⊎ ((n : ℕ) × (reply ≡ replies.Scanned n))
      of_reply (replies.Scanned n) row = inr (n, refl)
      of_reply reply row = inl row.1.0

  -- in a mark its end is refused since an object is left, or answers how many it dooms
  pub end_answers_as : (reply : Reply) → is_in a.world.phase Marking ≡ true
      → IsRowAs p a (plain_row plain.EndMark reply) b
      → (reply ≡ replies.Refused GreyLeft) ⊎ (reply ≡ replies.Doomed (length (doomed_at a)))
  end_answers_as reply marks h = of_tests (is_in a.world.phase Marking) a.left marks h
    where
      of_tests : (marks left : Bool) → marks ≡ true
          → IsAnswerAs p a (unless marks WrongPhase (unless (not left) GreyLeft None)) (steps.Plain plain.EndMark) reply
          b
          → (reply ≡ replies.Refused GreyLeft) ⊎ (reply ≡ replies.Doomed (length (doomed_at a)))
      of_tests false left is row = absurd (false≢true is)
      of_tests true true is row = inl row.0
      of_tests true false is row = inr row.1.answer

  -- in clearing its end is refused since references are left, or is done
  pub clear_answers_as : (reply : Reply) → is_in a.world.phase Clearing ≡ true
      → IsRowAs p a (plain_row plain.EndClear reply) b
      → (reply ≡ replies.Refused ClearingLeft) ⊎ (reply ≡ replies.Done)
  clear_answers_as reply clears h = clear_answers a b reply clears ((clear_common p a b reply).0 h)
