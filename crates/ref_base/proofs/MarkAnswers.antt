-- How the steps of a mark and of clearing are answered that read or leave open what is free in a state: no row of them
-- has another answer than these.
use Rattle.ref_base.proofs.Common.{◌≡◌, ℕ, Bool, true, false, not, length, Option, Some, None, refl, inl, inr, ◌⊎◌}
use Rattle.ref_base.proofs.Common.{false≢true, slot_at, State, Scans, Loads, Gets, GivesAnewIf, IsAnswer, IsRow, is_in}
use Rattle.ref_base.proofs.Common.{field_in, referent_got, reference_of, value_reply, doomed_at, Marking, Clearing}
use Rattle.ref_base.proofs.Common.{Reply, unless, WrongPhase, GreyLeft, joined}
use Rattle.ref_base.specs.Refusals.{is_empty, plain_refusal}
use Rattle.ref_base.specs.declared.fault.Fault.TheVariants.{ClearingLeft}
use Rattle.ref_base.proofs.PlainRows.{plain_row, plain_accepted}
use Rattle.ref_base.specs.declared.plain_step.PlainStep.TheVariants as plain
use Rattle.ref_base.specs.declared.step.Step.TheVariants as steps
use Rattle.ref_base.specs.declared.reply.Reply.TheVariants as replies

module _ (a b : State) where
  -- a load answers what the field holds
  pub load_answers : (m d s i : ℕ) (reply : Reply) → plain_refusal a (plain.Load m d s i) ≡ None
      → IsRow a (plain_row (plain.Load m d s i) reply) b
      → reply ≡ value_reply (field_in a.world.heap (slot_at a.world.heap m s) i)
  load_answers m d s i reply none h = of_value _ (plain_accepted a b (plain.Load m d s i) reply none h)
    where
      of_marks : (marks : Bool) (n : ℕ) (c : State) → GivesAnewIf marks (replies.Object n) c reply b
          → reply ≡ replies.Object n
      of_marks true n c row = row.0
      of_marks false n c row = row.0

      of_value : (value : Option ℕ) → Loads a m d value reply b → reply ≡ value_reply value
      of_value None row = row.0
      of_value (Some n) row = of_marks (is_in a.world.phase Marking) n _ row

  -- a get answers what is got
  pub get_answers : (m d s : ℕ) (reply : Reply) → plain_refusal a (plain.Get m d s) ≡ None
      → IsRow a (plain_row (plain.Get m d s) reply) b
      → reply ≡ value_reply (referent_got (reference_of a.world.heap (slot_at a.world.heap m s)))
  get_answers m d s reply none h = of_value _ (plain_accepted a b (plain.Get m d s) reply none h)
    where
      of_marks : (marks : Bool) (n : ℕ) (c : State) → GivesAnewIf marks (replies.Object n) c reply b
          → reply ≡ replies.Object n
      of_marks true n c row = row.0
      of_marks false n c row = row.0

      of_value : (value : Option ℕ) → Gets a m d s value reply b → reply ≡ value_reply value
      of_value None row = row.0
      of_value (Some n) row = of_marks (is_in a.world.phase Marking) n _ row

  -- a scan answers an object, or that none is left
  pub scan_answers : (k : ℕ) (reply : Reply) → plain_refusal a (plain.Scan k) ≡ None
      → IsRow a (plain_row (plain.Scan k) reply) b
      → (reply ≡ replies.Nothing) ⊎ ((n : ℕ) × (reply ≡ replies.Scanned n))
  scan_answers k reply none h = of_reply reply (plain_accepted a b (plain.Scan k) reply none h)
    where
      of_reply : (reply : Reply) → Scans a k reply b
          → (reply ≡ replies.Nothing) ⊎ ((n : ℕ) × (reply ≡ replies.Scanned n))
      of_reply (replies.Scanned n) row = inr (n, refl)
      of_reply reply row = inl row.1.0

  -- in a mark its end is refused since an object is left, or answers how many it dooms
  pub end_answers : (reply : Reply) → is_in a.world.phase Marking ≡ true → IsRow a (plain_row plain.EndMark reply) b
      → (reply ≡ replies.Refused GreyLeft) ⊎ (reply ≡ replies.Doomed (length (doomed_at a)))
  end_answers reply marks h = of_tests (is_in a.world.phase Marking) a.left marks h
    where
      of_tests : (marks left : Bool) → marks ≡ true
          → IsAnswer a (unless marks WrongPhase (unless (not left) GreyLeft None)) (steps.Plain plain.EndMark) reply b
          → (reply ≡ replies.Refused GreyLeft) ⊎ (reply ≡ replies.Doomed (length (doomed_at a)))
      of_tests false left is row = absurd (false≢true is)
      of_tests true true is row = inl row.0
      of_tests true false is row = inr row.1.answer

  -- in clearing its end is refused since references are left, or is done
  pub clear_answers : (reply : Reply) → is_in a.world.phase Clearing ≡ true
      → IsRow a (plain_row plain.EndClear reply) b
      → (reply ≡ replies.Refused ClearingLeft) ⊎ (reply ≡ replies.Done)
  clear_answers reply clears h = of_tests (is_in a.world.phase Clearing) (is_empty (joined a.found)) clears h
    where
      of_tests : (clears none : Bool) → clears ≡ true
          → IsAnswer a (unless clears WrongPhase (unless none ClearingLeft None)) (steps.Plain plain.EndClear) reply b
          → (reply ≡ replies.Refused ClearingLeft) ⊎ (reply ≡ replies.Done)
      of_tests false none is row = absurd (false≢true is)
      of_tests true false is row = inl row.0
      of_tests true true is row = inr row.1.0
