-- What a judge makes of a row whose answer it looks at: where the step is refused, where the row leaves the state as it
-- was, and where no other state fits.
use Rattle.ref_base.proofs.Common.{◌≡◌, ℕ, Bool, true, false, List, Option, Some, None, refl, sym, ◌∙◌, subst, State}
use Rattle.ref_base.proofs.Common.{is_in, refusal}
use Rattle.std.specs.Prelude.{Result, Ok, Err, MatchResult}
use Rattle.ref_base.proofs.Common.{ap, Heap, false≢true, if◌then◌else◌}
use Rattle.ref_base.specs.Refusals.{unless, in_phase, work_refusal, select_refusal}
use Rattle.ref_base.specs.declared.fault.Fault.{Fault}
use Rattle.ref_base.specs.declared.fault.Fault.TheVariants.{WrongPhase}
use Rattle.ref_base.specs.declared.phase.Phase.{Phase}
use Rattle.ref_base.specs.declared.phase.Phase.TheVariants.{Marking, Clearing}
use Rattle.ref_base.specs.declared.reply.Reply.{Reply}
use Rattle.ref_base.specs.declared.reply.Reply.TheVariants.{Refused}
use Rattle.ref_base.specs.declared.row.Row.{Row}
use Rattle.ref_base.specs.declared.step.Step.{Step}
use Rattle.ref_base.proofs.FreeRows.{freed}
use Rattle.ref_judge.proofs.ToldRows.{refusal_alone, stops_apart}
use Rattle.ref_judge.specs.ProfiledRows.{IsAnswerAs, IsRowAs}
use Rattle.ref_judge.specs.Judged.{has_one, Judged}
use Rattle.ref_judge.specs.Standing.{StandsFor, FitsIn, FitsIt, HasNone, TellsOf, HasOneAnswer, refused_so}
use Rattle.ref_judge.specs.declared.stop.Stop.{Stop}
use Rattle.ref_judge.specs.declared.stop.Stop.TheVariants as stop

-- what a function says whose result is that of a test of the answer
abbrev pub IsTested : Result (Unit {0}) Stop → Type 0 → Type 0
IsTested result legal = MatchResult result (λ _. legal) (λ s. (s ≡ stop.Illegal) × (legal → ⊥))

-- and of one whose result is that of a bit
pub bit_tested : (result : Result (Unit {0}) Stop) (legal : Bool) → result ≡ (if legal then Ok tt else Err stop.Illegal)
    → IsTested result (legal ≡ true)
bit_tested result true is = subst (λ r. IsTested r (true ≡ true)) (sym is) refl
bit_tested result false is = subst (λ r. IsTested r (false ≡ true)) (sym is) (refl, λ same. false≢true same)

module _ (j : Judged) (a s : State) where
  -- a state that fits differs in nothing but what is free
  pub fits_freed : FitsIt j a s → (left : Bool) × (found : List (List ℕ)) × (s ≡ freed a left found)
  fits_freed fits = of_tests (is_in j.phase Marking) (is_in j.phase Clearing) fits
    where
      of_tests : (marks clears : Bool) → FitsIn marks clears j a s
          → (left : Bool) × (found : List (List ℕ)) × (s ≡ freed a left found)
      of_tests true clears fit = (fit.0, a.found, fit.1)
      of_tests false true fit = (a.left, fit.0, fit.1)
      of_tests false false fit = (a.left, a.found, fit)

  -- outside a mark and clearing only the state itself fits
  pub fits_itself : is_in j.phase Marking ≡ false → is_in j.phase Clearing ≡ false → FitsIt j a s → s ≡ a
  fits_itself no_mark no_clearing fits =
      subst (λ (clears : Bool). FitsIn false clears j a s) no_clearing
      (subst (λ (marks : Bool). FitsIn marks (is_in j.phase Clearing) j a s) no_mark fits)

  pub itself_fits : is_in j.phase Marking ≡ false → is_in j.phase Clearing ≡ false → s ≡ a → FitsIt j a s
  itself_fits no_mark no_clearing is =
      subst (λ (marks : Bool). FitsIn marks (is_in j.phase Clearing) j a s) (sym no_mark)
      (subst (λ (clears : Bool). FitsIn false clears j a s) (sym no_clearing) is)

module _ (j : Judged) (a : State) (stands : StandsFor j a) where
  -- a worker's step is refused as the judge knows
  pub work_known : (phase : Phase) (k : ℕ) → work_refusal j.ground.heap j.phase phase k
      ≡ work_refusal a.world.heap a.world.phase phase k
  work_known phase k =
      ap (λ (h : Heap). work_refusal h j.phase phase k) stands.heap
      ∙ ap (λ (now : Phase). work_refusal a.world.heap now phase k) stands.phase

  -- and so a step that another phase has
  pub phase_known : (phase : Phase) → unless (is_in j.phase phase) WrongPhase None ≡ in_phase a phase None
  phase_known phase = ap (λ (now : Phase). unless (is_in now phase) WrongPhase None) stands.phase

  -- and a choice
  pub select_known : select_refusal j.phase j.was_chosen ≡ select_refusal a.world.phase a.moved
  select_known =
      ap (λ (now : Phase). select_refusal now j.was_chosen) stands.phase
      ∙ ap (λ (chosen : Bool). select_refusal a.world.phase chosen) stands.chosen

module _ (j : Judged) (row : Row) where
  -- the row leaves each state that fits as it was
  abbrev pub Stays : Type 0
  Stays =
      (a s t : State) → StandsFor j a → FitsIt j a s
      → (IsRowAs j.profile s row t → t ≡ s) × IsRowAs j.profile s row s

  -- then nothing changes
  pub stays_told : Stays → TellsOf j row (Ok tt) j
  stays_told stays = (
    refl,
    refl,
    λ a stands lawful. record {
      state = a;
      stands = stands;
      on = λ s t fits h. subst (FitsIt j a) (sym ((stays a s t stands fits).0 h)) fits;
      back = λ t fits. (t, fits, (stays a t t stands fits).1);
    },
  )

  -- of a row that a test tells from others
  pub tested_told : (result : Result (Unit {0}) Stop) (legal : Type 0) → IsTested result legal → (legal → Stays)
      → ((legal → ⊥) → (a : State) → StandsFor j a → HasNone j row a) → TellsOf j row result j
  tested_told (Ok done) legal is stays none = stays_told (stays is)
  tested_told (Err stop.Illegal) legal not stays none = (none not.1, refl)
  tested_told (Err stop.NoMemory) legal not stays none = absurd (stops_apart not.0)

module _ (j : Judged) (step : Step) (reply : Reply) (fault : Fault)
    (refused : (a : State) → StandsFor j a → (left : Bool) (found : List (List ℕ))
    → refusal (freed a left found) step ≡ Some fault)
  where
    -- each state that fits refuses the step so
    refuses : (a s : State) → StandsFor j a → FitsIt j a s → refusal s step ≡ Some fault
    refuses a s stands fits =
        let free = fits_freed j a s fits in
        subst (λ (u : State). refusal u step ≡ Some fault) (sym free.2) (refused a stands free.0 free.1)

    -- a row of a step that is refused tells the fault alone
    pub refused_told : (result : Result (Unit {0}) Stop) → IsTested result (Refused fault ≡ reply)
        → TellsOf j (record { step = step; reply = reply }) result j
    refused_told (Ok done) legal =
        stays_told j (record { step = step; reply = reply }) (λ a s t stands fits. (
          λ h. (subst (λ o. IsAnswerAs j.profile s o step reply t) (refuses a s stands fits) h).1,
          subst (λ o. IsAnswerAs j.profile s o step reply s) (sym (refuses a s stands fits)) (sym legal, refl),
        ))
    refused_told (Err stop.Illegal) illegal = (
      λ a stands s t fits h.
          illegal.1 (sym (subst (λ o. IsAnswerAs j.profile s o step reply t) (refuses a s stands fits) h).0),
      refl,
    )
    refused_told (Err stop.NoMemory) illegal = absurd (stops_apart illegal.0)

-- A step that all states refuse that fit has one answer, and of another nothing is said.
pub refusal_told : (j : Judged) (step : Step) (fault : Option Fault) (answer : Option Reply) → has_one step ≡ false
    → ((f : Fault) → fault ≡ Some f → (a : State) → StandsFor j a → (left : Bool) (found : List (List ℕ))
    → refusal (freed a left found) step ≡ Some f)
    → answer ≡ refused_so fault → HasOneAnswer j step answer j
refusal_told j step fault answer many refused is =
    refusal_alone j step fault answer many
    (λ f same reply verdict told. refused_told j step reply f (refused f same) verdict told) is
