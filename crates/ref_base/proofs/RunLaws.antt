-- A run of a machine can be cut at any entry, and goes on entry by entry; so what each entry keeps holds after all, and
-- what goes on over each entry holds over all. The laws of legal traces and of histories rest on these two inductions.
use Rattle.ref_base.proofs.Common.{arith, List, [], ◌∷◌, ◌++◌, refl, sym, subst, append-nil, append_assoc, State, IsRow}
use Rattle.ref_base.proofs.Common.{IsRun, IsLegal, Config, Row}
use Rattle.ref_base.specs.Runs.{LeadsThrough}

module _ {S E : Type 0} (leads : S → E → S → Type 0) where
  -- the entries in front lead to a state from which the others go on
  pub cut_at : (x : S) (front back : List E) (y : S) → LeadsThrough leads x (front ++ back) y
      → (mid : S) × LeadsThrough leads x front mid × LeadsThrough leads mid back y
  cut_at x [] back y run = (x, refl, run)
  cut_at x (e ∷ es) back y run = search (cut_at run.0 es back y run.2)

  -- a run goes on by one more entry
  pub one_on : (x : S) (es : List E) (y z : S) (e : E) → LeadsThrough leads x es y → leads y e z
      → LeadsThrough leads x (es ++ e ∷ []) z
  one_on x [] y z e run next = (z, subst (λ (s : S). leads s e z) run next, refl)
  one_on x (first ∷ es) y z e run next = (run.0, run.1, one_on run.0 es y z e run.2 next)

  module _ (first : S) (Q : List E → S → Type 0)
      (keeps : (past : List E) (x : S) (e : E) (y : S) → LeadsThrough leads first past x → Q past x → leads x e y
      → Q (past ++ e ∷ []) y) where
    -- what each entry keeps, and holds after the first entries of a run, holds after all
    pub holds_on : (past : List E) (x : S) (es : List E) (y : S) → LeadsThrough leads first past x → Q past x
        → LeadsThrough leads x es y → Q (past ++ es) y
    holds_on past x [] y before holds run =
        subst (λ rs. Q rs y) (sym (append-nil past)) (subst (λ (s : S). Q past s) (sym run) holds)
    holds_on past x (e ∷ es) y before holds run =
        subst (λ rs. Q rs y) (append_assoc past (e ∷ []) es)
        (holds_on (past ++ e ∷ []) run.0 es y (one_on first past x run.0 e before run.1)
        (keeps past x e run.0 before holds run.1) run.2)

    -- and so does what holds at first
    pub holds_after : Q [] first → (es : List E) (y : S) → LeadsThrough leads first es y → Q es y
    holds_after holds es y run = holds_on [] first es y refl holds run

  module _ (R : S → List E → S → Type 0) (none : (x : S) → R x [] x)
      (goes : (x : S) (e : E) (y : S) (es : List E) (z : S) → leads x e y → R y es z → R x (e ∷ es) z) where
    -- what holds of no entries, and of one more in front, holds of each run
    pub holds_over : (x : S) (es : List E) (y : S) → LeadsThrough leads x es y → R x es y
    holds_over x [] y run = subst (λ (s : S). R x [] s) (sym run) (none x)
    holds_over x (e ∷ es) y run = goes x e run.0 es y run.1 (holds_over run.0 es y run.2)

-- ---- of the abstract collector

pub cut : (a : State) (front back : List Row) (b : State) → IsRun a (front ++ back) b
    → (mid : State) × IsRun a front mid × IsRun mid back b
cut = cut_at IsRow

pub run_more : (a : State) (rows : List Row) (b c : State) (row : Row) → IsRun a rows b → IsRow b row c
    → IsRun a (rows ++ row ∷ []) c
run_more = one_on IsRow

-- the front of a legal trace is legal
pub front_is_legal : (config : Config) (front back : List Row) → IsLegal config (front ++ back) → IsLegal config front
front_is_legal config front back legal = grind (arith, cut)
