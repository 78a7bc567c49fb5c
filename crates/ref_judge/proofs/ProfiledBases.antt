-- Each row of a collector of any profile leaves one base, which the base before, the step and the answer tell: that of
-- the abstract collector. What profiles differ in is what is free in a state, and which rows there are.
use Rattle.ref_base.proofs.Common.{arith, ◌≡◌, ◌≤◌, ℕ, zero, suc, Bool, true, false, if◌then◌else◌, List, [], ◌∷◌}
use Rattle.ref_base.proofs.Common.{length, map, take, Option, Some, None, refl, sym, ap, ◌∙◌, subst, inl, inr, State}
use Rattle.ref_base.proofs.Common.{Notice, Polls, Gives, ticked, with_world, took, told_taken, object_of, one_taken}
use Rattle.ref_base.proofs.Common.{queue_at, refusal}
use Rattle.std.specs.Prelude.{min, reverse}
use Rattle.ref_base.specs.Refusals.{plain_refusal}
use Rattle.ref_base.proofs.PlainRows.{plain_row, accepted_plain}
use Rattle.ref_base.proofs.Bases.{base, refuses, base_after, base_tells, one_base}
use Rattle.ref_base.proofs.FreeRows.{KeepsRow, freed, like}
use Rattle.ref_base.specs.declared.fault.Fault.{Fault}
use Rattle.ref_base.specs.declared.row.Row.{Row}
use Rattle.ref_base.specs.declared.reply.Reply.{Reply}
use Rattle.ref_base.specs.declared.reply.Reply.TheVariants as replies
use Rattle.ref_base.specs.declared.plain_step.PlainStep.{PlainStep}
use Rattle.ref_base.specs.declared.plain_step.PlainStep.TheVariants as plain
use Rattle.ref_base.specs.declared.step.Step.{Step}
use Rattle.ref_base.specs.declared.step.Step.TheVariants as steps
use Rattle.ref_judge.specs.ProfiledRows.{says_anew, AcceptsAnew, ScansAs, PlainAcceptsAs, MayTake, PollsAs, IsRowAs}
use Rattle.ref_judge.specs.ProfiledRows.{IsAnswerAs}
use Rattle.ref_judge.specs.declared.order.Order.{Order}
use Rattle.ref_judge.specs.declared.order.Order.TheVariants.{First, Last, Any}
use Rattle.ref_judge.specs.declared.profile.Profile.{Profile}
use Rattle.ref_judge.proofs.UnchangedRows.{common_row, plain_accepted_as}
use Rattle.ref_judge.proofs.KeepingRows.{free_kept_as}

-- ---- how many a poll takes

-- no more than were asked for are the first of a list
few_first : (count : ℕ) (stands : List Notice) → length (take count stands) ≤ count
few_first zero stands = grind arith
few_first (suc count) [] = grind arith
few_first (suc count) (notice ∷ rest) = grind (arith, few_first count rest)

least_few : (count stands : ℕ) → min count stands ≤ count
least_few count stands = grind arith

pub takes_few : (order : Order) (count : ℕ) (stands taken : List Notice) → MayTake order count stands taken
    → length taken ≤ count
takes_few First count stands taken may =
    subst (λ (ns : List Notice). length ns ≤ count) (sym may) (few_first count stands)
takes_few Last count stands taken may =
    subst (λ (ns : List Notice). length ns ≤ count) (sym may) (few_first count (reverse stands))
takes_few Any count stands taken may = subst (λ (k : ℕ). k ≤ count) (sym may.0) (least_few count (length stands))

-- an answer to a poll of one names all that it took, and refuses nothing
pub one_told : (taken : List Notice) → length taken ≤ 1
    → told_taken (one_taken (map object_of taken)) ≡ map object_of taken
one_told [] few = refl
one_told (notice ∷ []) few = refl
one_told (notice ∷ other ∷ rest) few = absurd (omega (arith, few))

one_refuses : (taken : List Notice) → refuses (one_taken (map object_of taken)) ≡ false
one_refuses [] = refl
one_refuses (notice ∷ rest) = refl

module _ (p : Profile) (a b : State) where
  -- ---- rows of a heap

  anew_base : (anew : Bool) (step : PlainStep) (reply : Reply) → plain_refusal a step ≡ None
      → AcceptsAnew p anew a step reply b → base b ≡ base_after a (plain_row step reply)
  anew_base true step reply none row =
      ap base row.2.1 ∙ one_base a row.0 (plain_row step reply) (accepted_plain a row.0 step reply none row.1)
  anew_base false step reply none row =
      one_base a b (plain_row step reply) (accepted_plain a b step reply none row)

  scan_base : (k : ℕ) (reply : Reply) → plain_refusal a (plain.Scan k) ≡ None → ScansAs p a k reply b
      → base b ≡ base_after a (plain_row (plain.Scan k) reply)
  scan_base k (replies.Scanned n) none row = ap base row.2.1
  scan_base k reply none row =
      one_base a b (plain_row (plain.Scan k) reply) (accepted_plain a b (plain.Scan k) reply none row)

  plain_base : (step : PlainStep) (reply : Reply) → plain_refusal a step ≡ None → PlainAcceptsAs p a step reply b
      → base b ≡ base_after a (plain_row step reply)
  plain_base (plain.Scan k) reply none row = scan_base k reply none row
  plain_base plain.EndMark reply none row =
      subst (λ (r : Reply). base b ≡ base_after a (plain_row plain.EndMark r)) (sym row.answer) (ap base row.after)
  plain_base step reply none row = anew_base (says_anew a step reply) step reply none row

  -- ---- polls

  -- the base after a poll, by what its answer names
  abbrev taken_to : ℕ → ℕ → Bool → List ℕ → State
  taken_to m q refused ns = if refused then base a else base (ticked (with_world a (took a.world m q ns)))

  abbrev polled_to : ℕ → ℕ → Reply → State
  polled_to m q reply = taken_to m q (refuses reply) (told_taken reply)

  none_base : (m q : ℕ) (shut : Bool) (reply : Reply)
      → Gives (if shut then replies.Closed else replies.Empty) a reply b → base b ≡ polled_to m q reply
  none_base m q true reply row = ap base row.1 ∙ ap (polled_to m q) (sym row.0)
  none_base m q false reply row = ap base row.1 ∙ ap (polled_to m q) (sym row.0)

  takes_base : (m q : ℕ) (tell : List ℕ → Reply) (taken : List Notice) (reply : Reply)
      → told_taken (tell (map object_of taken)) ≡ map object_of taken → refuses (tell (map object_of taken)) ≡ false
      → Polls a m q tell taken reply b → base b ≡ polled_to m q reply
  takes_base m q tell [] reply told tells row = none_base m q (queue_at a.world q).closed reply row
  takes_base m q tell (notice ∷ rest) reply told tells row =
      let answer : Reply = tell (map object_of (notice ∷ rest)) in
      ap base row.1 ∙ ap (taken_to m q false) (sym told)
      ∙ ap (λ (refused : Bool). taken_to m q refused (told_taken answer)) (sym tells)
      ∙ ap (polled_to m q) (sym row.0)

  poll_base : (m q : ℕ) (reply : Reply) → PollsAs p.order a m q 1 one_taken reply b → base b ≡ polled_to m q reply
  poll_base m q reply row =
      takes_base m q one_taken row.0 reply
      (one_told row.0 (takes_few p.order 1 (queue_at a.world q).stands row.0 row.1)) (one_refuses row.0) row.2

  polls_base : (m q max : ℕ) (reply : Reply) → PollsAs p.order a m q max replies.TookSome reply b
      → base b ≡ polled_to m q reply
  polls_base m q max reply row = takes_base m q replies.TookSome row.0 reply refl refl row.2

  -- ---- rows

  -- a row whose step is refused
  refused_base : (row : Row) (fault : Fault) → refusal a row.step ≡ Some fault → IsRowAs p a row b
      → base b ≡ base_after a row
  refused_base row fault is h = one_base a b row (common_row p a b row (inl (fault, is)) h)

  step_base : (step : Step) (reply : Reply) (fault : Option Fault) → refusal a step ≡ fault
      → IsRowAs p a (record { step = step; reply = reply }) b
      → base b ≡ base_after a (record { step = step; reply = reply })
  step_base step reply (Some fault) is h = refused_base (record { step = step; reply = reply }) fault is h
  step_base (steps.Plain step) reply None is h = plain_base step reply is (plain_accepted_as p a b step reply is h)
  step_base (steps.Poll m q) reply None is h =
      poll_base m q reply
      (subst (λ (o : Option Fault). IsAnswerAs p a o (steps.Poll m q) reply b) is h)
  step_base (steps.Polls m q max) reply None is h =
      polls_base m q max reply
      (subst (λ (o : Option Fault). IsAnswerAs p a o (steps.Polls m q max) reply b) is h)
  step_base step reply None is h =
      let row : Row = record { step = step; reply = reply } in one_base a b row (common_row p a b row (inr tt) h)

  -- a row leaves this base
  pub one_base_as : (row : Row) → IsRowAs p a row b → base b ≡ base_after a row
  one_base_as row h = step_base row.step row.reply (refusal a row.step) refl h

-- one row of two states of one base, of two profiles, leaves two states of one base
pub bases_agree_as : (p q : Profile) (a b c d : State) (row : Row) → base a ≡ base c → IsRowAs p a row b
    → IsRowAs q c row d → base b ≡ base d
bases_agree_as p q a b c d row same first second =
    one_base_as p a b row first ∙ base_tells a row ∙ ap (λ (s : State). base_after s row) same
    ∙ sym (base_tells c row) ∙ sym (one_base_as q c d row second)

-- there is one state that a row leaves that keeps what is free
pub one_left_as : (p : Profile) (a b c : State) (row : Row) → KeepsRow a row → IsRowAs p a row b → IsRowAs p a row c
    → b ≡ c
one_left_as p a b c row keeps first second =
    ap (λ (s : State). like s b) (bases_agree_as p p a b a c row refl first second)
    ∙ ap (λ (f : Bool × List (List ℕ)). freed (base c) f.0 f.1)
    (free_kept_as p a b row keeps first ∙ sym (free_kept_as p a c row keeps second))
