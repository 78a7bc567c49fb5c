-- Rows of a collector of any profile that read nothing of what is free in a state: each is a row of all states that
-- differ in that alone, and leaves it as it was. So they lead states that fit to states that fit, and back.
use Rattle.ref_base.proofs.Common.{◌≡◌, ℕ, Bool, true, false, List, [], ◌∷◌, Option, Some, None, refl, sym, ap, ◌∙◌}
use Rattle.ref_base.proofs.Common.{subst, inl, inr, cases_Bool, ◌&&◌, map, length, State, World, Notice, Gives}
use Rattle.ref_base.proofs.Common.{ticked, is_in, is_some, with_world, Polls, one_taken, took, object_of, refusal}
use Rattle.ref_base.proofs.FreeRows.{freed, like, free_of, cycle_of, SaysNone, ReadsNone, KeepsRow, free_row}
use Rattle.ref_base.proofs.FreeRows.{keeps_like}
use Rattle.ref_base.proofs.Fitting.{Fits, saying}
use Rattle.ref_base.proofs.FoundRows.{FitsFound, finding}
use Rattle.ref_base.proofs.FoundStates.{MayHaveFound}
use Rattle.ref_base.specs.Told.{told_object}
use Rattle.ref_base.specs.declared.fault.Fault.{Fault}
use Rattle.ref_base.specs.declared.phase.Phase.TheVariants.{Marking}
use Rattle.ref_base.specs.declared.row.Row.{Row}
use Rattle.ref_base.specs.declared.reply.Reply.{Reply}
use Rattle.ref_base.specs.declared.reply.Reply.TheVariants as replies
use Rattle.ref_base.specs.declared.plain_step.PlainStep.{PlainStep}
use Rattle.ref_base.specs.declared.plain_step.PlainStep.TheVariants as plain
use Rattle.ref_base.specs.declared.step.Step.{Step}
use Rattle.ref_base.specs.declared.step.Step.TheVariants as steps
use Rattle.ref_judge.specs.ProfiledRows.{PollsAs, IsAnswerAs, IsRowAs}
use Rattle.ref_judge.specs.declared.order.Order.{Order}
use Rattle.ref_judge.specs.declared.profile.Profile.{Profile}
use Rattle.ref_judge.proofs.UnchangedRows.{IsPlain, IsCommon, IsCommonRow, common_row, row_common}

-- ---- but for polls, a profile has no word in such a row

-- a poll, of one or of more
abbrev pub is_poll : Step → Bool
is_poll (steps.Poll m q) = true
is_poll (steps.Polls m q max) = true
is_poll step = false

-- what says nothing anew
not_anew : (a : State) (reply : Reply) → SaysNone a reply
    → (is_in a.world.phase Marking && is_some (told_object reply)) ≡ false
not_anew a reply (inl null) =
    ap (λ (r : Reply). is_in a.world.phase Marking && is_some (told_object r)) null
    ∙ nowhere (is_in a.world.phase Marking)
  where
    nowhere : (marks : Bool) → (marks && false) ≡ false
    nowhere true = refl
    nowhere false = refl
not_anew a reply (inr other) = simp other refl

plain_keeps : (a : State) (step : PlainStep) (reply : Reply) → ReadsNone a (steps.Plain step) reply
    → IsPlain a step reply
plain_keeps a (plain.Load m d s i) reply says = not_anew a reply says
plain_keeps a (plain.Get m d s) reply says = not_anew a reply says
plain_keeps a (plain.Begin now how) reply keeps = absurd keeps
plain_keeps a (plain.Scan k) reply keeps = absurd keeps
plain_keeps a plain.EndMark reply keeps = absurd keeps
plain_keeps a step reply keeps = tt

step_keeps : (a : State) (step : Step) (reply : Reply) → is_poll step ≡ false → ReadsNone a step reply
    → IsCommon a step reply
step_keeps a (steps.Plain step) reply other keeps = plain_keeps a step reply keeps
step_keeps a (steps.Poll m q) reply other keeps = absurd cc
step_keeps a (steps.Polls m q max) reply other keeps = absurd cc
step_keeps a step reply other keeps = tt

row_keeps : (a : State) (row : Row) → is_poll row.step ≡ false → KeepsRow a row → IsCommonRow a row
row_keeps a row other keeps =
    elim keeps.1 [ inl refused ↦ inl refused | inr reads ↦ inr (step_keeps a row.step row.reply other reads) ]

-- ---- polls

-- a moment more of a mark leaves what is free, and what the cycle scanned and cleared
ticked_as_freed : (c : State) (left : Bool) (found : List (List ℕ)) → ticked (freed c left found)
    ≡ freed (ticked c) left found
ticked_as_freed c left found =
    elim (cases_Bool (is_in c.world.phase Marking)) [ inl marks ↦ simp marks refl | inr other ↦ simp other refl ]

cycle_as_ticked : (c : State) → cycle_of (ticked c) ≡ cycle_of c
cycle_as_ticked c =
    elim (cases_Bool (is_in c.world.phase Marking)) [ inl marks ↦ simp marks refl | inr other ↦ simp other refl ]

module _ (p : Profile) (a t : State) (left : Bool) (found : List (List ℕ)) where
  -- what is so of the state that is like a, where the other has kept what is free in it, and what the cycle scanned and
  -- cleared
  abbrev Both : (State → Type 0) → Type 0
  Both P = P (like t a) × (free_of t ≡ (left, found)) × (cycle_of t ≡ cycle_of a)

  gives_both : (w : World) (answer reply : Reply) → Gives answer (with_world (freed a left found) w) reply t
      → Both (Gives answer (with_world a w) reply)
  gives_both w answer reply row =
      let c : State = with_world a w in
      let same : t ≡ freed (ticked c) left found = row.1 ∙ ticked_as_freed c left found in (
        (row.0, ap (λ (s : State). like s a) same ∙ sym (ticked_as_freed c a.left a.found)),
        ap free_of same,
        ap cycle_of same ∙ cycle_as_ticked c,
      )

  takes_both : (m q : ℕ) (tell : List ℕ → Reply) (taken : List Notice) (reply : Reply)
      → Polls (freed a left found) m q tell taken reply t → Both (Polls a m q tell taken reply)
  takes_both m q tell [] reply row = gives_both a.world _ reply row
  takes_both m q tell (notice ∷ rest) reply row =
      let ns : List ℕ = map object_of (notice ∷ rest) in gives_both (took a.world m q ns) (tell ns) reply row

  polls_both : (order : Order) (m q count : ℕ) (tell : List ℕ → Reply) (reply : Reply)
      → PollsAs order (freed a left found) m q count tell reply t → Both (PollsAs order a m q count tell reply)
  polls_both order m q count tell reply row =
      let all = takes_both m q tell row.0 reply row.2 in ((row.0, row.1, all.0), all.1, all.2)

  -- refused or not
  poll_both : (fault : Option Fault) (m q : ℕ) (reply : Reply)
      → IsAnswerAs p (freed a left found) fault (steps.Poll m q) reply t
      → Both (IsAnswerAs p a fault (steps.Poll m q) reply)
  poll_both (Some fault) m q reply row =
      ((row.0, ap (λ (s : State). like s a) row.1), ap free_of row.1, ap cycle_of row.1)
  poll_both None m q reply row = polls_both p.order m q 1 one_taken reply row

  polls_all_both : (fault : Option Fault) (m q max : ℕ) (reply : Reply)
      → IsAnswerAs p (freed a left found) fault (steps.Polls m q max) reply t
      → Both (IsAnswerAs p a fault (steps.Polls m q max) reply)
  polls_all_both (Some fault) m q max reply row =
      ((row.0, ap (λ (s : State). like s a) row.1), ap free_of row.1, ap cycle_of row.1)
  polls_all_both None m q max reply row = polls_both p.order m q max replies.TookSome reply row

  -- ---- rows

  step_both : (step : Step) (reply : Reply) → KeepsRow a (record { step = step; reply = reply })
      → IsRowAs p (freed a left found) (record { step = step; reply = reply }) t
      → Both (IsRowAs p a (record { step = step; reply = reply }))
  step_both (steps.Poll m q) reply keeps h = poll_both (refusal a (steps.Poll m q)) m q reply h
  step_both (steps.Polls m q max) reply keeps h = polls_all_both (refusal a (steps.Polls m q max)) m q max reply h
  step_both step reply keeps h =
      let row : Row = record { step = step; reply = reply } in
      let before : State = freed a left found in
      let all =
      free_row a t left found row keeps
      (common_row p before t row (row_keeps before row refl (keeps_like a t left found row keeps)) h) in
      (row_common p a (like t a) row (row_keeps a row refl keeps) all.0, all.1, all.2)

  -- a row that reads nothing of what is free is one of each state that differs in it alone, and leaves it as it was
  pub free_row_as : (row : Row) → KeepsRow a row → IsRowAs p (freed a left found) row t
      → IsRowAs p a row (like t a) × (free_of t ≡ (left, found)) × (cycle_of t ≡ cycle_of a)
  free_row_as row keeps h = step_both row.step row.reply keeps h

-- what is free stays as it was
pub free_kept_as : (p : Profile) (a b : State) (row : Row) → KeepsRow a row → IsRowAs p a row b
    → free_of b ≡ free_of a
free_kept_as p a b row keeps h = (free_row_as p a b a.left a.found row keeps h).1

-- and so what the cycle scanned and cleared
pub cycle_kept_as : (p : Profile) (a b : State) (row : Row) → KeepsRow a row → IsRowAs p a row b
    → cycle_of b ≡ cycle_of a
cycle_kept_as p a b row keeps h = (free_row_as p a b a.left a.found row keeps h).2

-- ---- in a mark

-- a row that keeps what is free leads each state that fits to one that fits
pub fits_on_as : (p : Profile) (a s t : State) (may_left may_none : Bool) (row : Row) → KeepsRow a row
    → Fits a may_left may_none s → IsRowAs p s row t → (b : State) × IsRowAs p a row b × Fits b may_left may_none t
fits_on_as p a s t may_left may_none row keeps fits h =
    let all = free_row_as p a t fits.0 a.found row keeps (subst (λ (u : State). IsRowAs p u row t) fits.1 h) in (
      like t a,
      all.0,
      (fits.0, ap (λ (f : Bool × List (List ℕ)). freed t f.0 f.1) all.1, fits.2),
    )

-- and each that fits afterwards comes from one that fitted
pub fits_back_as : (p : Profile) (a b t : State) (may_left may_none : Bool) (row : Row) → KeepsRow a row
    → IsRowAs p a row b → Fits b may_left may_none t → (s : State) × Fits a may_left may_none s × IsRowAs p s row t
fits_back_as p a b t may_left may_none row keeps h fits =
    let s : State = saying a fits.0 in
    let all = free_row_as p s b a.left a.found row (keeps_like a b fits.0 a.found row keeps) h in
    let found : b.found ≡ a.found = ap (λ x. x.1) (free_kept_as p a b row keeps h) in (
      s,
      (fits.0, refl, fits.2),
      subst (λ (u : State). IsRowAs p s row u)
          (sym (fits.1 ∙ ap (λ (fs : List (List ℕ)). freed b fits.0 fs) found)) all.0,
    )

-- ---- in clearing

-- a row that keeps what is free leads each state that fits to one that fits
pub found_on_as : (p : Profile) (a s t : State) (refs : ℕ → List ℕ) (some : Bool) (row : Row) → KeepsRow a row
    → FitsFound a refs some s → IsRowAs p s row t → (b : State) × IsRowAs p a row b × FitsFound b refs some t
found_on_as p a s t refs some row keeps fits h =
    let all = free_row_as p a t a.left fits.0 row keeps (subst (λ (u : State). IsRowAs p u row t) fits.1 h) in (
      like t a,
      all.0,
      (
        fits.0,
        ap (λ (f : Bool × List (List ℕ)). freed t f.0 f.1) all.1,
        fits.2 ∙ ap (λ (c : List (List ℕ) × List ℕ × ℕ). length c.0) (sym all.2),
        subst (λ (clears : List ℕ). MayHaveFound refs clears some fits.0)
            (ap (λ (c : List (List ℕ) × List ℕ × ℕ). c.1) (sym all.2)) fits.3,
      ),
    )

-- and each that fits afterwards comes from one that fitted
pub found_back_as : (p : Profile) (a b t : State) (refs : ℕ → List ℕ) (some : Bool) (row : Row) → KeepsRow a row
    → IsRowAs p a row b → FitsFound b refs some t → (s : State) × FitsFound a refs some s × IsRowAs p s row t
found_back_as p a b t refs some row keeps h fits =
    let s : State = finding a fits.0 in
    let all = free_row_as p s b a.left a.found row (keeps_like a b a.left fits.0 row keeps) h in
    let left : b.left ≡ a.left = ap (λ x. x.0) (free_kept_as p a b row keeps h) in
    let cycle = cycle_kept_as p a b row keeps h in (
      s,
      (
        fits.0,
        refl,
        fits.2 ∙ ap (λ (c : List (List ℕ) × List ℕ × ℕ). length c.0) cycle,
        subst (λ (clears : List ℕ). MayHaveFound refs clears some fits.0)
            (ap (λ (c : List (List ℕ) × List ℕ × ℕ). c.1) cycle) fits.3,
      ),
      subst (λ (u : State). IsRowAs p s row u) (sym (fits.1 ∙ ap (λ (l : Bool). freed b l fits.0) left)) all.0,
    )
