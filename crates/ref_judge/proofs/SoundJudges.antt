-- A judge after a row: it is sound where it does what the row says and is settled, and a row that is refused leaves it.
use Rattle.ref_base.proofs.Common.{◌≡◌, Bool, true, false, refl, sym, subst, Option, Some, State, refusal}
use Rattle.std.specs.Prelude.{Result, Ok, Err}
use Rattle.ref_base.specs.declared.fault.Fault.{Fault}
use Rattle.ref_base.specs.declared.reply.Reply.{Reply}
use Rattle.ref_base.specs.declared.reply.Reply.TheVariants.{Refused}
use Rattle.ref_base.specs.declared.plain_step.PlainStep.{PlainStep}
use Rattle.ref_base.specs.declared.step.Step.{Step}
use Rattle.ref_base.specs.declared.step.Step.TheVariants as steps
use Rattle.ref_judge.specs.Judged.{has_one, Judged}
use Rattle.ref_judge.specs.ProfiledRows.{IsRowAs, IsAnswerAs, says_anew}
use Rattle.ref_judge.specs.Standing.{StandsFor, IsSettled, IsOfSomeState, DoesAs, LeadsOne, SaysTheSame, SaysRightly}
use Rattle.ref_judge.specs.Standing.{is_anew, reply_of_result, DecidesAs, Lawful, AreLawful, LeadsOn, TellsOf}
use Rattle.ref_judge.specs.declared.profile.Profile.{Profile}
use Rattle.ref_base.specs.declared.config.Config.{Config}
use Rattle.ref_base.specs.declared.row.Row.{Row}
use Rattle.ref_judge.proofs.AnsweredRows.{told}
use Rattle.ref_judge.proofs.LegalFacts.{lawful_row}

-- ---- the invariant

-- where a row is told, rows lead to each state that fits afterwards
pub lawful_on : (old new : Judged) (row : Row) (a : State) → new.profile ≡ old.profile → new.config ≡ old.config
    → AreLawful old a → (leads : LeadsOn old new row a) → AreLawful new leads.state
lawful_on old new row a profile config fits leads t fits_new =
    let from = leads.back t fits_new in
    subst (λ (p : Profile). Lawful p new.config t) (sym profile)
    (subst (λ (c : Config). Lawful old.profile c t) (sym config)
    (lawful_row old.profile old.config from.0 t row (fits from.0 from.1) from.2))

-- a value that tells of a row is sound
pub sound_told : (old new : Judged) (row : Row) → IsOfSomeState old → TellsOf old row (Ok tt) new → IsSettled new
    → IsOfSomeState new
sound_told old new row sound tells settled =
    let leads = tells.2 sound.state sound.stands sound.fits in
    record {
      settled = settled;
      state = leads.state;
      stands = leads.stands;
      fits = lawful_on old new row sound.state tells.0 tells.1 sound.fits leads;
    }

-- and so is one after the row of a step with one answer
pub sound_after : (old new : Judged) (step : Step) (result : Result Reply Fault) → has_one step ≡ true
    → IsOfSomeState old → DoesAs old step result new → IsSettled new → IsOfSomeState new
sound_after old new step result one sound does settled =
    let a : State = sound.state in
    let leads = told old new sound.settled a sound.stands step result one (does.2 a sound.stands) in
    record {
      settled = settled;
      state = leads.state;
      stands = leads.stands;
      fits =
          lawful_on old new (record { step = step; reply = reply_of_result result }) a does.0 does.1 sound.fits leads;
    }

-- ---- what a row leads to

pub says_itself : (j : Judged) → SaysTheSame j j
says_itself j = record { left = refl; none = refl; some = refl; finders = λ k. refl }

-- a row that leaves such a state, and says nothing anew
pub leads_same : (old new : Judged) (a b : State) (step : Step) (result : Result Reply Fault)
    → IsRowAs old.profile a (record { step = step; reply = reply_of_result result }) b → StandsFor new b
    → is_anew a step result ≡ false → SaysTheSame old new → LeadsOne old step result new a
leads_same old new a b step result row stands anew same = record {
  state = b;
  row = row;
  stands = stands;
  says = subst (λ (is : Bool). SaysRightly is old new b) (sym anew) same;
}

-- a row that leaves such a state, and says anew whether an object is left
pub leads_anew : (old new : Judged) (a b : State) (step : Step) (result : Result Reply Fault)
    → IsRowAs old.profile a (record { step = step; reply = reply_of_result result }) b → StandsFor new b
    → is_anew a step result ≡ true → new.may_be_none ≡ true → DecidesAs old.profile new.may_be_left b
    → LeadsOne old step result new a
leads_anew old new a b step result row stands anew none decides = record {
  state = b;
  row = row;
  stands = stands;
  says = subst (λ (is : Bool). SaysRightly is old new b) (sym anew) (none, decides);
}

-- a reply says anew what its step and it do, but for a refusal
pub not_anew : (a : State) (step : PlainStep) (reply : Reply) → says_anew a step reply ≡ false
    → is_anew a (steps.Plain step) (Ok reply) ≡ false
not_anew a step (Refused fault) none = refl
not_anew a step reply none = none

-- what is refused says nothing anew
refused_anew : (a : State) (step : Step) (fault : Fault) → is_anew a step (Err fault) ≡ false
refused_anew a (steps.Plain step) fault = refl
refused_anew a step fault = refl

-- a row that is refused leaves what was there
pub refused_leads : (old : Judged) (a : State) (step : Step) (fault : Fault) → StandsFor old a
    → refusal a step ≡ Some fault → LeadsOne old step (Err fault) old a
refused_leads old a step fault stands refused =
    leads_same old old a a step (Err fault)
    (subst (λ (o : Option Fault). IsAnswerAs old.profile a o step (Refused fault) a) (sym refused) (refl, refl)) stands
    (refused_anew a step fault) (says_itself old)

pub refused_does : (old : Judged) (step : Step) (fault : Fault)
    → ((a : State) → StandsFor old a → refusal a step ≡ Some fault) → DoesAs old step (Err fault) old
refused_does old step fault refused =
    (refl, refl, λ a stands. refused_leads old a step fault stands (refused a stands))
