-- From rows that a judge took one by one to its verdict on the whole trace.
use Rattle.ref_base.proofs.Common.{◌≡◌, ℕ, ◌+◌, ◌<◌, ◌≤◌, List, [], ◌∷◌, ◌++◌, length, take, drop, refl}
use Rattle.ref_base.proofs.Common.{arith, sym, ◌∙◌, subst, State, first_state, zero, suc, slice_index_or}
use Rattle.ref_base.specs.Runs.{LeadsThrough}
use Rattle.ref_base.specs.declared.config.Config.{Config}
use Rattle.ref_base.specs.declared.row.Row.{Row}
use Rattle.ref_judge.specs.Judged.{Judged}
use Rattle.ref_judge.specs.ProfiledRows.{IsRowAs, IsRunAs, IsLegalAs}
use Rattle.ref_judge.specs.Standing.{StandsFor, FitsIt, LeadsOn, HasNone, IsNewJudge, Lawful, AreLawful, TakesRow}
use Rattle.ref_judge.specs.Standing.{IsSettled, IsIllegal, IsOneAnswer, IsLegalIn, IsAloneLegal, NamesAnswer, ObjectsTo}
use Rattle.ref_judge.specs.declared.rule.Breach.{Breach}
use Rattle.ref_judge.specs.declared.rule.Instead.{Instead}
use Rattle.ref_judge.specs.declared.rule.Instead.TheVariants.{Only, Among, Untold}
use Rattle.ref_judge.specs.declared.rule.Objection.{Objection}
use Rattle.ref_judge.specs.declared.rule.Objection.TheVariants.{Illegal, NoMemory}
use Rattle.ref_base.specs.declared.reply.Reply.{Reply}
use Rattle.ref_base.specs.declared.step.Step.{Step}
use Rattle.ref_judge.proofs.SomeFits.{between}
use Rattle.ref_judge.specs.Verdicts.{IsOnlyAnswer, NamesAnswerBehind}
use Rattle.ref_judge.specs.declared.profile.Profile.{Profile}

-- The judge took these rows: the states that fit what it was told are just those to which they lead.
pub record HasTaken (p : Profile) (config : Config) (rows : List Row) (j : Judged) : Type 0 where
  pub profile : j.profile ≡ p
  pub config_is : j.config ≡ config
  pub settled : IsSettled j
  pub state : State
  pub stands : StandsFor j state
  pub on : (b : State) → IsRunAs p (first_state config) rows b → FitsIt j state b
  pub back : (b : State) → FitsIt j state b → IsRunAs p (first_state config) rows b

-- one row more behind others
pub run_behind : {S E : Type 0} (leads : S → E → S → Type 0) (x y z : S) (es : List E) (e : E)
    → LeadsThrough leads x es y → leads y e z → LeadsThrough leads x (es ++ e ∷ []) z
run_behind leads x y z [] e run row = (z, subst (λ u. leads u e z) run row, refl)
run_behind leads x y z (first ∷ es) e run row =
    (run.0, run.1, run_behind leads run.0 y z es e run.2 row)

pub run_apart : {S E : Type 0} (leads : S → E → S → Type 0) (x z : S) (es : List E) (e : E)
    → LeadsThrough leads x (es ++ e ∷ []) z → (y : S) × LeadsThrough leads x es y × leads y e z
run_apart leads x z [] e run = (x, refl, subst (λ u. leads x e u) (sym run.2) run.1)
run_apart leads x z (first ∷ es) e run =
    let rest = run_apart leads run.0 z es e run.2 in (rest.0, (run.0, run.1, rest.1), rest.2)

-- a new judge took none
pub taken_first : (p : Profile) (config : Config) (j : Judged) → IsNewJudge p config j → HasTaken p config [] j
taken_first p config j first = record {
  profile = first.profile_is;
  config_is = first.config_is;
  settled = first.settled;
  state = first_state config;
  stands = first.stands;
  on = λ b is. subst (λ (s : State). FitsIt j (first_state config) s) (sym is) first.fits;
  back = λ b fits. first.alone b fits;
}

module _ (p : Profile) (config : Config) (rows : List Row) (old : Judged) (taken : HasTaken p config rows old) where
  -- rows lead to each state that fits
  pub taken_lawful : AreLawful old taken.state
  taken_lawful s fits =
      subst (λ (q : Profile). Lawful q old.config s) (sym taken.profile)
      (subst (λ (k : Config). Lawful p k s) (sym taken.config_is) (rows, taken.back s fits))

  -- the rows so far are a legal trace where some state fits
  pub taken_legal : (s : State) × FitsIt old taken.state s → IsLegalAs p config rows
  taken_legal some = (some.0, taken.back some.0 some.1)

module _ (p : Profile) (config : Config) (rows : List Row) (old : Judged) (taken : HasTaken p config rows old)
    (row : Row)
  where
    -- and one more
    pub taken_more : (new : Judged) → IsSettled new → new.profile ≡ old.profile → new.config ≡ old.config
        → LeadsOn old new row taken.state → HasTaken p config (rows ++ row ∷ []) new
    taken_more new settled profile config_is leads = record {
      profile = profile ∙ taken.profile;
      config_is = config_is ∙ taken.config_is;
      settled = settled;
      state = leads.state;
      stands = leads.stands;
      on = λ b run.
          let (s, before, last) = run_apart (IsRowAs p) (first_state config) b rows row run in
          leads.on s b (taken.on s before) (subst (λ (q : Profile). IsRowAs q s row b) (sym taken.profile) last);
      back = λ b fits.
          let (s, before, last) = leads.back b fits in
          run_behind (IsRowAs p) (first_state config) s b rows row (taken.back s before)
          (subst (λ (q : Profile). IsRowAs q s row b) taken.profile last);
    }

    -- a row that no state that fits has makes them illegal
    pub taken_none : HasNone old row taken.state → IsLegalAs p config (rows ++ row ∷ []) → ⊥
    taken_none none legal =
        let (s, before, last) = run_apart (IsRowAs p) (first_state config) legal.0 rows row legal.1 in
        none s legal.0 (taken.on s before) (subst (λ (q : Profile). IsRowAs q s row legal.0) (sym taken.profile) last)

-- the row of a step that a judge would take next is legal behind the rows that it took
taken_next : (p : Profile) (config : Config) (rows : List Row) (old : Judged) (taken : HasTaken p config rows old)
    (step : Step) (reply : Reply) → IsLegalIn old step reply
    → IsLegalAs p config (rows ++ record { step = step; reply = reply } ∷ [])
taken_next p config rows old taken step reply legal =
    let (s, t, fits, row) = legal taken.state taken.stands (taken_lawful p config rows old taken) in (
      t,
      run_behind (IsRowAs p) (first_state config) s t rows (record { step = step; reply = reply }) (taken.back s fits)
          (subst (λ (q : Profile). IsRowAs q s (record { step = step; reply = reply }) t) taken.profile row),
    )

-- and the only one where it alone is legal
taken_alone : (p : Profile) (config : Config) (rows : List Row) (old : Judged) (taken : HasTaken p config rows old)
    (step : Step) (reply : Reply) → IsAloneLegal old step reply → IsOnlyAnswer p config rows step reply
taken_alone p config rows old taken step reply alone = record {
  legal = taken_next p config rows old taken step reply alone.some;
  others = λ other differ.
      taken_none p config rows old taken (record { step = step; reply = other })
      (alone.alone other differ taken.state taken.stands);
}

-- what a judge names is named behind the rows that it took
pub taken_named : (p : Profile) (config : Config) (rows : List Row) (old : Judged) (taken : HasTaken p config rows old)
    (step : Step) (instead : Instead) → NamesAnswer old step instead → NamesAnswerBehind p config rows step instead
taken_named p config rows old taken step (Only reply) alone = taken_alone p config rows old taken step reply alone
taken_named p config rows old taken step (Among reply) (many, legal) =
    (many, taken_next p config rows old taken step reply legal)
taken_named p config rows old taken step Untold many = many

-- ---- the rows in front of one

pub row_at : (rows : List Row) (place : ℕ) (row : Row) → place < length rows → slice_index_or rows place row ≡ row
    → take (place + 1) rows ≡ take place rows ++ row ∷ []
row_at [] place row within is = absurd (omega arith)
row_at (first ∷ rows) zero row within is = grind arith
row_at (first ∷ rows) (suc place) row within is = grind (arith, row_at rows place row)

pub row_between : (rows : List Row) (place : ℕ) (row : Row) → place < length rows → slice_index_or rows place row ≡ row
    → rows ≡ take place rows ++ row ∷ drop (place + 1) rows
row_between [] place row within is = absurd (omega arith)
row_between (first ∷ rows) zero row within is = grind arith
row_between (first ∷ rows) (suc place) row within is = grind (arith, row_between rows place row)

pub length_front : (rows : List Row) (place : ℕ) → place < length rows → length (take place rows) ≡ place
length_front [] place within = absurd (omega arith)
length_front (first ∷ rows) zero within = grind arith
length_front (first ∷ rows) (suc place) within = grind (arith, length_front rows place)

pub all_taken : (rows : List Row) (place : ℕ) → length rows ≤ place → take place rows ≡ rows
all_taken [] zero out = grind arith
all_taken [] (suc place) out = grind arith
all_taken (first ∷ rows) zero out = absurd (omega arith)
all_taken (first ∷ rows) (suc place) out = grind (arith, all_taken rows place)

-- ---- rows to which it objects

pub objected : (old new : Judged) (row : Row) (objection : Objection) (breach : Breach) → objection ≡ Illegal breach
    → ObjectsTo old row objection new → IsIllegal old row × NamesAnswer old row.step breach.instead
objected old new row (Illegal breach) other is objects =
    subst (λ (o : Objection). ObjectsTo old row o new) is objects
objected old new row NoMemory other is objects = absurd cc

-- an answer is legal whose row is taken
pub taken_is_legal : (old new : Judged) (step : Step) (reply : Reply)
    → TakesRow old (record { step = step; reply = reply }) new → IsSettled new → IsLegalIn old step reply
taken_is_legal old new step reply takes settled a stands lawful =
    let leads = takes.2 a stands lawful in
    let (t, fits) = between new leads.state leads.stands settled in
    let (s, before, row) = leads.back t fits in
    (s, t, before, row)

-- a step's one answer is legal alone
pub one_is_legal : (old new : Judged) (step : Step) (answer : Reply) → IsOneAnswer old step answer new → IsSettled new
    → IsAloneLegal old step answer
one_is_legal old new step answer one settled = record {
  some = taken_is_legal old new step answer one.taken settled;
  alone = one.alone;
}

-- a row of a step with one answer
pub one_tells : (old new : Judged) (step : Step) (answer reply : Reply) → IsOneAnswer old step answer new
    → answer ≡ reply → TakesRow old (record { step = step; reply = reply }) new
one_tells old new step answer reply one same =
    subst (λ (r : Reply). TakesRow old (record { step = step; reply = r }) new) same one.taken

pub one_objects : (old new : Judged) (step : Step) (answer reply : Reply) (breach : Breach)
    → IsOneAnswer old step answer new → IsSettled new → (answer ≡ reply → ⊥) → breach.instead ≡ Only answer
    → ObjectsTo old (record { step = step; reply = reply }) (Illegal breach) new
one_objects old new step answer reply breach one settled differ only = (
  one.alone reply differ,
  subst (λ (i : Instead). NamesAnswer old step i) (sym only) (one_is_legal old new step answer one settled),
)
