-- From one row of a state to what becomes of all that fit: a row that reads nothing of what is free, or says anew
-- whether an object is left, takes the set of them on; and no other answer fits any of them.
use Rattle.ref_base.proofs.Common.{◌≡◌, ℕ, Bool, true, false, List, Option, Some, None, refl, sym}
use Rattle.ref_base.proofs.Common.{◌∙◌, subst, inl, State, refusal, is_in}
use Rattle.ref_base.proofs.Common.{list_at}
use Rattle.std.specs.Prelude.{Result, Ok, Err, MatchResult}
use Rattle.std.specs.Result.{result_err}
use Rattle.ref_base.specs.declared.fault.Fault.{Fault}
use Rattle.ref_base.specs.declared.phase.Phase.TheVariants.{Marking, Clearing}
use Rattle.ref_base.specs.declared.step.Step.{Step}
use Rattle.ref_base.specs.declared.reply.Reply.{Reply}
use Rattle.ref_base.specs.declared.reply.Reply.TheVariants as replies
use Rattle.ref_base.specs.declared.row.Row.{Row}
use Rattle.ref_base.proofs.Fitting.{Fits}
use Rattle.ref_base.proofs.FoundFits.{MayFind}
use Rattle.ref_base.proofs.FoundRows.{FitsFound}
use Rattle.ref_base.proofs.FreeRows.{KeepsRow, RefusedAlike, freed, like, keeps_like}
use Rattle.ref_judge.specs.Judged.{has_one, Judged, still_left}
use Rattle.ref_judge.specs.ProfiledRows.{IsRowAs, IsAnswerAs}
use Rattle.ref_judge.specs.Standing.{StandsFor, FitsIn, FitsIt, SaysTheSame, LeadsOn, HasNone, TellsOf}
use Rattle.ref_judge.specs.Standing.{HasOneAnswer, IsOneAnswer, refused_so}
use Rattle.ref_objects.specs.Grounds.{IsRefused}
use Rattle.ref_judge.specs.declared.profile.Profile.{Profile}
use Rattle.ref_judge.specs.declared.stop.Stop.{Stop}
use Rattle.ref_judge.proofs.KeepingRows.{free_row_as, fits_on_as, fits_back_as, found_on_as, found_back_as}
use Rattle.ref_judge.proofs.OneAnswers.{one_answer}
use Rattle.ref_judge.proofs.ProfiledBases.{one_left_as}

-- ---- rows that read nothing of what is free

-- what workers may have found, of lists that are the same
found_alike : (a s : State) (refs more : ℕ → List ℕ) (some also : Bool) → ((k : ℕ) → refs k ≡ more k) → some ≡ also
    → FitsFound a refs some s → FitsFound a more also s
found_alike a s refs more some also same is fits = (
  fits.0,
  fits.1,
  fits.2,
  record {
    each = λ k. subst (λ (ns : List ℕ). MayFind ns a.cleared (list_at fits.0 k)) (same k) (fits.3.each k);
    left = λ says. fits.3.left (is ∙ says);
  },
)

module _ (old new : Judged) (row : Row) (a b : State) (keeps : KeepsRow a row) (h : IsRowAs old.profile a row b)
    (says : SaysTheSame old new) where
  -- each that fits leads to one that fits
  kept_on : (marks clears : Bool) (s t : State) → FitsIn marks clears old a s → IsRowAs old.profile s row t
      → FitsIn marks clears new b t
  kept_on true clears s t fits r =
      let on = fits_on_as old.profile a s t old.may_be_left old.may_be_none row keeps fits r in
      let there : Fits b old.may_be_left old.may_be_none t =
      subst (λ (u : State). Fits u old.may_be_left old.may_be_none t)
      (one_left_as old.profile a on.0 b row keeps on.1 h) on.2 in
      subst (λ (l : Bool). Fits b l new.may_be_none t) (sym says.left)
      (subst (λ (n : Bool). Fits b old.may_be_left n t) (sym says.none) there)
  kept_on false true s t fits r =
      let on = found_on_as old.profile a s t (still_left old) old.some_left row keeps fits r in
      found_alike b t (still_left old) (still_left new) old.some_left new.some_left (λ k. sym (says.finders k))
      (sym says.some)
      (subst (λ (u : State). FitsFound u (still_left old) old.some_left t)
      (one_left_as old.profile a on.0 b row keeps on.1 h) on.2)
  kept_on false false s t fits r =
      one_left_as old.profile a t b row keeps (subst (λ (u : State). IsRowAs old.profile u row t) fits r) h

  -- and each that fits afterwards comes from one that fitted
  kept_back : (marks clears : Bool) (t : State) → FitsIn marks clears new b t
      → (s : State) × FitsIn marks clears old a s × IsRowAs old.profile s row t
  kept_back true clears t fits =
      fits_back_as old.profile a b t old.may_be_left old.may_be_none row keeps h
      (subst (λ (l : Bool). Fits b l old.may_be_none t) says.left
      (subst (λ (n : Bool). Fits b new.may_be_left n t) says.none fits))
  kept_back false true t fits =
      found_back_as old.profile a b t (still_left old) old.some_left row keeps h
      (found_alike b t (still_left new) (still_left old) new.some_left old.some_left says.finders says.some fits)
  kept_back false false t fits = (a, refl, subst (λ (u : State). IsRowAs old.profile a row u) (sym fits) h)

  -- so the set of those that fit is led on
  pub kept_leads : StandsFor new b → is_in new.phase Marking ≡ is_in old.phase Marking
      → is_in new.phase Clearing ≡ is_in old.phase Clearing → LeadsOn old new row a
  kept_leads stands marks clears =
      let before : Bool = is_in old.phase Marking in
      let clearing : Bool = is_in old.phase Clearing in
      let here : (t : State) → FitsIn before clearing new b t → FitsIt new b t =
      (λ t fits.
      subst (λ (m : Bool). FitsIn m (is_in new.phase Clearing) new b t) (sym marks)
      (subst (λ (c : Bool). FitsIn before c new b t) (sym clears) fits)) in
      let there : (t : State) → FitsIt new b t → FitsIn before clearing new b t =
      (λ t fits.
      subst (λ (c : Bool). FitsIn before c new b t) clears
      (subst (λ (m : Bool). FitsIn m (is_in new.phase Clearing) new b t) marks fits)) in record {
        state = b;
        stands = stands;
        on = λ s t fits r. here t (kept_on before clearing s t fits r);
        back = λ t fits. kept_back before clearing t (there t fits);
      }

-- ---- other answers

-- what fits differs in what is free alone
pub fits_free : (j : Judged) (a s : State) (marks clears : Bool) → FitsIn marks clears j a s
    → (left : Bool) × (found : List (List ℕ)) × (s ≡ freed a left found)
fits_free j a s true clears fits = (fits.0, a.found, fits.1)
fits_free j a s false true fits = (a.left, fits.0, fits.1)
fits_free j a s false false fits = (a.left, a.found, fits)

-- a row of the state is one of each that fits
pub kept_of : (p : Profile) (a b : State) (left : Bool) (found : List (List ℕ)) (row : Row) → KeepsRow a row
    → IsRowAs p a row b → (t : State) × IsRowAs p (freed a left found) row t
kept_of p a b left found row keeps h =
    let s : State = freed a left found in
    let all = free_row_as p s b a.left a.found row (keeps_like a b left found row keeps) h in (like b s, all.0)

-- no state that fits has another answer
pub kept_none : (old : Judged) (a b : State) (step : Step) (reply other : Reply) → has_one step ≡ true
    → KeepsRow a (record { step = step; reply = reply })
    → IsRowAs old.profile a (record { step = step; reply = reply }) b → (reply ≡ other → ⊥)
    → HasNone old (record { step = step; reply = other }) a
kept_none old a b step reply other one keeps h differ s t fits r =
    let (left, found, is) = fits_free old a s (is_in old.phase Marking) (is_in old.phase Clearing) fits in
    let row : Row = record { step = step; reply = reply } in
    let here = kept_of old.profile a b left found row keeps h in
    differ (one_answer old.profile (freed a left found) reply other step here.0 t one here.1
    (subst (λ (u : State). IsRowAs old.profile u (record { step = step; reply = other }) t) is r))

-- ---- refusals

-- a row of a refused step
refused_row : (p : Profile) (a : State) (step : Step) (fault : Fault) → refusal a step ≡ Some fault
    → IsRowAs p a (record { step = step; reply = replies.Refused fault }) a
refused_row p a step fault is =
    subst (λ (f : Option Fault). IsAnswerAs p a f step (replies.Refused fault) a) (sym is) (refl, refl)

-- want of memory is no illegal row
pub stops_apart : Stop.NoMemory ≡ Stop.Illegal → ⊥
stops_apart is = absurd cc

-- what is answered where a step is refused
refused_reply : (p : Profile) (a b : State) (step : Step) (fault : Fault) (reply : Reply)
    → refusal a step ≡ Some fault → IsRowAs p a (record { step = step; reply = reply }) b
    → reply ≡ replies.Refused fault
refused_reply p a b step fault reply is h =
    (subst (λ (f : Option Fault). IsAnswerAs p a f step reply b) is h).0

pub same_said : (j : Judged) → SaysTheSame j j
same_said j = record { left = refl; none = refl; some = refl; finders = λ k. refl }

-- Where a step is refused with one fault in each state of the judge's value, whatever is free in it, it is told rightly
-- whether it is answered so, and nothing changes.
pub refused_tells : (old : Judged) (step : Step) (fault : Fault) (reply : Reply) (verdict : Result (Unit {0}) Stop)
    → ((a : State) → StandsFor old a → (RefusedAlike a step) × (refusal a step ≡ Some fault))
    → MatchResult verdict (λ done. replies.Refused fault ≡ reply)
    (λ stop. (stop ≡ Stop.Illegal) × (replies.Refused fault ≡ reply → ⊥))
    → TellsOf old (record { step = step; reply = reply }) verdict old
refused_tells old step fault reply (Ok done) refused same = (
  refl,
  refl,
  λ a stands lawful.
      let is = refused a stands in
      let row : Row = record { step = step; reply = replies.Refused fault } in
      subst (λ (r : Reply). LeadsOn old old (record { step = step; reply = r }) a) same
      (kept_leads old old row a a (is.0, inl (fault, is.1)) (refused_row old.profile a step fault is.1) (same_said old)
      stands refl refl),
)
refused_tells old step fault reply (Err Stop.NoMemory) refused differ = absurd (stops_apart differ.0)
refused_tells old step fault reply (Err Stop.Illegal) refused differ = (
  λ a stands s t fits h.
      let is = refused a stands in
      let (left, found, free) = fits_free old a s (is_in old.phase Marking) (is_in old.phase Clearing) fits in
      let all =
      free_row_as old.profile a t left found (record { step = step; reply = reply }) (is.0, inl (fault, is.1))
      (subst (λ (u : State). IsRowAs old.profile u (record { step = step; reply = reply }) t) free h) in
      differ.1 (sym (refused_reply old.profile a (like t a) step fault reply is.1 all.0)),
  refl,
)

-- Where a step is refused, and the judge tells so of each row of it, with the refusal alone its row is taken.
abbrev pub RefusesRows : Judged → Step → Fault → Type 0
RefusesRows old step fault =
    (reply : Reply) (verdict : Result (Unit {0}) Stop)
    → MatchResult verdict (λ done. replies.Refused fault ≡ reply)
    (λ stop. (stop ≡ Stop.Illegal) × (replies.Refused fault ≡ reply → ⊥))
    → TellsOf old (record { step = step; reply = reply }) verdict old

pub refused_alone : (old : Judged) (step : Step) (fault : Fault) → RefusesRows old step fault
    → IsOneAnswer old step (replies.Refused fault) old
refused_alone old step fault refuses = record {
  taken = refuses (replies.Refused fault) (Ok tt) refl;
  alone = λ other differ. (refuses other (Err Stop.Illegal) (refl, differ)).0;
}

-- and where it isn't, nothing is said of its answer
pub refusal_alone : (old : Judged) (step : Step) (fault : Option Fault) (answer : Option Reply) → has_one step ≡ false
    → ((f : Fault) → fault ≡ Some f → RefusesRows old step f) → answer ≡ refused_so fault
    → HasOneAnswer old step answer old
refusal_alone old step None answer many refuses is =
    subst (λ (r : Option Reply). HasOneAnswer old step r old) (sym is) (many, refl)
refusal_alone old step (Some f) answer many refuses is =
    subst (λ (r : Option Reply). HasOneAnswer old step r old) (sym is) (refused_alone old step f (refuses f refl))

-- the fault of a check is that with which it refuses
pub err_refused : {T : Type 0} (refusal : Option Fault) (checked : Result T Fault) (f : Fault)
    → IsRefused refusal checked → result_err checked ≡ Some f → refusal ≡ Some f
err_refused refusal (Ok done) f is same = absurd cc
err_refused refusal (Err fault) f is same = is ∙ same
