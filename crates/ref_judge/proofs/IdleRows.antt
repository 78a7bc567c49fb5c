-- Idle rows may be left out: each leaves its state as it is, but for a moment that counted already.
use Rattle.ref_base.proofs.Common.{◌≡◌, ℕ, true, false, ◌⊎◌, List, [], ◌∷◌, inl, inr, refl, sym, ap, ◌∙◌, subst, Graph}
use Rattle.ref_base.proofs.Common.{Option, Some, None, State, false≢true, take, ticked, is_in, cases_Bool, has, is_some}
use Rattle.ref_base.proofs.Common.{ClearsNext, Sweeps, HandsOn, Pending, one_handed, all_handed, list_at, pending_of}
use Rattle.ref_base.proofs.Common.{batch_of, refusal, heap_step, first_state, referent_of, reference_at, if◌then◌else◌}
use Rattle.ref_base.proofs.Common.{Bool}
use Rattle.ref_base.specs.declared.config.Config.{Config}
use Rattle.ref_base.specs.declared.row.Row.{Row}
use Rattle.ref_base.specs.declared.fault.Fault.{Fault}
use Rattle.ref_base.specs.declared.phase.Phase.TheVariants.{Marking}
use Rattle.ref_base.specs.declared.step.Step.{Step}
use Rattle.ref_base.specs.declared.step.Step.TheVariants as steps
use Rattle.ref_base.specs.declared.plain_step.PlainStep.{PlainStep}
use Rattle.ref_base.specs.declared.plain_step.PlainStep.TheVariants as plain
use Rattle.ref_base.specs.declared.reply.Reply.{Reply}
use Rattle.ref_base.specs.declared.reply.Reply.TheVariants as replies
use Rattle.ref_judge.specs.declared.profile.Profile.{Profile}
use Rattle.ref_judge.specs.IdleRows.{none_is_idle, is_idle_answer, is_idle, LeavesOut}
use Rattle.ref_judge.specs.ProfiledRows.{PlainAcceptsAs, IsAnswerAs, AcceptsAskingAs, IsRowAs, IsRunAs, IsLegalAs}
use Rattle.ref_judge.proofs.AlikeStates.{with_moments, Alike, CountsNow, is_refused}
use Rattle.ref_judge.proofs.AlikeRows.{row_follows}

-- ---- what an idle row leaves

-- b is a, or a with one moment more
abbrev OnlyTicks : State → State → Type 0
OnlyTicks a b = (b ≡ a) ⊎ (b ≡ ticked a)

-- what was looked at isn't `none`
none_cleared_ticks : (a b : State) (k : ℕ) (found : List ℕ) → ClearsNext a k found replies.Nothing b → b ≡ ticked a
none_cleared_ticks a b k [] row = row.1
none_cleared_ticks a b k (n ∷ rest) row =
    absurd (look_is_not_none (has a.cleared n) (is_some (referent_of (reference_at a.world.heap n))) row.0)
  where
    look_is_not_none : (cleared there : Bool)
        → replies.Nothing
        ≡ (if cleared then replies.Cleared n else (if there then replies.Kept n else replies.Skipped n)) → ⊥
    look_is_not_none true there is = absurd cc
    look_is_not_none false true is = absurd cc
    look_is_not_none false false is = absurd cc

none_swept_ticks : (a b : State) (doomed : List ℕ) → Sweeps a doomed replies.Nothing b → b ≡ ticked a
none_swept_ticks a b [] row = row.1
none_swept_ticks a b (n ∷ ns) row = let said = row.0 in absurd cc

none_handed_ticks : (a b : State) (k : ℕ) (some : List Pending) → HandsOn a k (one_handed k some) some replies.Nothing b
    → b ≡ ticked a
none_handed_ticks a b k [] row = row.1
none_handed_ticks a b k (first ∷ rest) row = let said = row.0 in absurd cc

none_of_all_handed_ticks : (a b : State) (k : ℕ) (some : List Pending)
    → HandsOn a k (all_handed k some) some replies.Nothing b → b ≡ ticked a
none_of_all_handed_ticks a b k [] row = row.1
none_of_all_handed_ticks a b k (first ∷ rest) row = let said = row.0 in absurd cc

none_of_plain_only_ticks : (p : Profile) (a b : State) (step : PlainStep) → none_is_idle (steps.Plain step) ≡ true
    → PlainAcceptsAs p a step replies.Nothing b → OnlyTicks a b
none_of_plain_only_ticks p a b (plain.Scan k) idle row = inr row.1.1
none_of_plain_only_ticks p a b (plain.ClearNext k) idle row = inr (none_cleared_ticks a b k (list_at a.found k) row)
none_of_plain_only_ticks p a b (plain.Sweep k) idle row = inr (none_swept_ticks a b a.doomed row)
none_of_plain_only_ticks p a b (plain.MoveNext k) idle row = inl row.1
none_of_plain_only_ticks p a b step idle row = absurd (false≢true idle)

none_asked_only_ticks : (p : Profile) (a b : State) (step : Step) → none_is_idle step ≡ true
    → AcceptsAskingAs p a (heap_step a.world step) step replies.Nothing b → OnlyTicks a b
none_asked_only_ticks p a b (steps.Plain step) idle (c, row, is) =
    elim (none_of_plain_only_ticks p a c step idle row) [ inl same ↦ inl (is ∙ same) | inr more ↦ inr (is ∙ more) ]
none_asked_only_ticks p a b (steps.Hand k) idle (c, row, is) =
    inr (is ∙ none_handed_ticks a c k (take 1 (pending_of a.world k)) row)
none_asked_only_ticks p a b (steps.Hands k max) idle (c, row, is) =
    inr (is ∙ none_of_all_handed_ticks a c k (batch_of max (pending_of a.world k)) row)
none_asked_only_ticks p a b step idle row = absurd (false≢true idle)

none_only_ticks : (p : Profile) (a b : State) (fault : Option Fault) (step : Step) → none_is_idle step ≡ true
    → IsAnswerAs p a fault step replies.Nothing b → OnlyTicks a b
none_only_ticks p a b (Some fault) step idle row = inl row.1
none_only_ticks p a b None step idle row = none_asked_only_ticks p a b step idle row

idle_answer_only_ticks : (p : Profile) (a b : State) (step : Step) (reply : Reply) → is_idle_answer step reply ≡ true
    → (is_refused reply ≡ true → b ≡ a) → IsAnswerAs p a (refusal a step) step reply b → OnlyTicks a b
idle_answer_only_ticks p a b step (replies.Refused fault) idle stays row = inl (stays refl)
idle_answer_only_ticks p a b step replies.Nothing idle stays row = none_only_ticks p a b (refusal a step) step idle row
idle_answer_only_ticks p a b step reply idle stays row = absurd (false≢true idle)

-- ---- runs

-- the moment counted already
ticked_is_still_alike : (a : State) (ms : List Graph) → CountsNow a → Alike a.moments ms → Alike (ticked a).moments ms
ticked_is_still_alike a ms counts alike =
    elim (cases_Bool (is_in a.world.phase Marking)) [
      | inl marks ↦ simp marks (λ allow n. (
        λ ends. elim ends [
          | inl now ↦ (alike allow n).0 (counts marks allow n now)
          | inr before ↦ (alike allow n).0 before
        ],
        λ ends. inr ((alike allow n).1 ends),
      ))
      | inr other ↦ simp other alike
    ]

ticked_only_adds_a_moment : (a : State) (ms : List Graph) → with_moments (ticked a) ms ≡ with_moments a ms
ticked_only_adds_a_moment a ms =
    elim (cases_Bool (is_in a.world.phase Marking)) [ inl marks ↦ simp marks refl | inr other ↦ simp other refl ]

-- what is alike to a state is alike to what an idle row leaves of it
record IsStill (a : State) (ms : List Graph) (b : State) : Type 0 where
  alike : Alike b.moments ms
  counts : CountsNow b
  same : with_moments b ms ≡ with_moments a ms

what_only_ticked_is_still_alike : (a b : State) (ms : List Graph) → CountsNow a → Alike a.moments ms → CountsNow b
    → OnlyTicks a b → IsStill a ms b
what_only_ticked_is_still_alike a b ms before alike counts (inl is) = record {
  alike = subst (λ (s : State). Alike s.moments ms) (sym is) alike;
  counts = counts;
  same = ap (λ (s : State). with_moments s ms) is;
}
what_only_ticked_is_still_alike a b ms before alike counts (inr is) = record {
  alike = subst (λ (s : State). Alike s.moments ms) (sym is) (ticked_is_still_alike a ms before alike);
  counts = counts;
  same = ap (λ (s : State). with_moments s ms) is ∙ ticked_only_adds_a_moment a ms;
}

idle_row_is_still_alike : (p : Profile) (a : State) (ms : List Graph) → Alike a.moments ms → CountsNow a → (row : Row)
    → is_idle row ≡ true → (b : State) → IsRowAs p a row b → IsStill a ms b
idle_row_is_still_alike p a ms alike counts row idle b is =
    let follows = row_follows p a ms alike counts row b is in
    what_only_ticked_is_still_alike a b ms counts alike follows.counts
    (idle_answer_only_ticks p a b row.step row.reply idle follows.refused is)

-- what is kept of a run is a run from each state that is alike to its first
kept_rows_run : (p : Profile) (a : State) (ms : List Graph) → Alike a.moments ms → CountsNow a → (rows kept : List Row)
    → LeavesOut rows kept → (last : State) → IsRunAs p a rows last
    → (end : State) × IsRunAs p (with_moments a ms) kept end
kept_rows_run p a ms alike counts [] [] out last run = (with_moments a ms, refl)
kept_rows_run p a ms alike counts [] (first ∷ kept) out last run = absurd out
kept_rows_run p a ms alike counts (row ∷ rows) [] (idle, out) last (b, is, run) =
    let still = idle_row_is_still_alike p a ms alike counts row idle b is in
    let rest = kept_rows_run p b ms still.alike still.counts rows [] out last run in
    (rest.0, subst (λ (s : State). IsRunAs p s [] rest.0) still.same rest.1)
kept_rows_run p a ms alike counts (row ∷ rows) (first ∷ kept) (inr (idle, out)) last (b, is, run) =
    let still = idle_row_is_still_alike p a ms alike counts row idle b is in
    let rest = kept_rows_run p b ms still.alike still.counts rows (first ∷ kept) out last run in
    (rest.0, subst (λ (s : State). IsRunAs p s (first ∷ kept) rest.0) still.same rest.1)
kept_rows_run p a ms alike counts (row ∷ rows) (first ∷ kept) (inl (same, out)) last (b, is, run) =
    let follows = row_follows p a ms alike counts row b is in
    let rest = kept_rows_run p b follows.moments follows.alike follows.counts rows kept out last run in
    let next = with_moments b follows.moments in
    (rest.0, (next, subst (λ (r : Row). IsRowAs p (with_moments a ms) r next) (sym same) follows.row, rest.1))

-- what is kept of a legal trace is legal
pub kept_rows_are_legal : (p : Profile) (config : Config) (rows kept : List Row) → LeavesOut rows kept
    → IsLegalAs p config rows → IsLegalAs p config kept
kept_rows_are_legal p config rows kept out legal =
    kept_rows_run p (first_state config) [] (λ allow n. (λ ends. ends, λ ends. ends))
    (λ marks allow n ends. absurd (false≢true marks)) rows kept out legal.0 legal.1
