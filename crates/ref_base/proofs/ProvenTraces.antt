-- In every legal trace each notice that is out comes from the rows: one made its reference, registered with the
-- notice's queue, and one is its cause.
use Rattle.ref_base.proofs.Common.{arith, ◌≡◌, ℕ, Bool, true, ◌==◌, ◌&&◌, if◌then◌else◌, List, [], ◌∷◌, ◌++◌, Option}
use Rattle.ref_base.proofs.Common.{Some, None, refl, sym, ap, ◌∙◌, subst, inl, inr, AllByRecursion, cases_Bool, eq-eqb}
use Rattle.ref_base.proofs.Common.{Object, object_at, registered_in, reference_in, reference_at, World, Notice, hand_of}
use Rattle.ref_base.proofs.Common.{State, first_state, refusal, HeapAccepts, IsAnswer, IsRow, IsRun, registers}
use Rattle.ref_base.proofs.Common.{is_registered, IsProven, Config, Actor, Mutator, Worker, Cause, Own, Cycle, Urgency}
use Rattle.ref_base.proofs.Common.{Fault, Step, Reply, Row}
use Rattle.std.proofs.lemmas.Bool.{and_from}
use Rattle.ref_base.specs.Provenance.{has_row, unhooks, clears, cycle_after, cleared_from, IsCause, AreProven}
use Rattle.ref_base.proofs.CarryLaws.{Carries, Lasts}
use Rattle.ref_base.proofs.CarryRows.{Mints, row_carries, first_carries, carries_more}
use Rattle.ref_base.proofs.RunFronts.{legal_holds}
use Rattle.ref_base.specs.declared.heap_step.HeapStep.TheVariants as heap
use Rattle.ref_base.specs.declared.plain_step.PlainStep.TheVariants as plain
use Rattle.ref_base.specs.declared.step.Step.TheVariants as steps

-- ---- what rows have, more rows have

has_more : (is : Step → Reply → Bool) (rows more : List Row) → has_row is rows ≡ true → has_row is (rows ++ more) ≡ true
has_more is [] more has = absurd cc
has_more is (row ∷ rows) more has = grind (arith, has_more is rows more)

-- and so has the last
has_last : (is : Step → Reply → Bool) (rows : List Row) (row : Row) → is row.step row.reply ≡ true
    → has_row is (rows ++ row ∷ []) ≡ true
has_last is [] row fits = simp fits refl
has_last is (other ∷ rows) row fits = grind (arith, has_last is rows row fits)

-- the cycle after some rows
abbrev pub cycle_from : ℕ → List Row → ℕ
cycle_from now [] = now
cycle_from now (row ∷ rows) = cycle_from (cycle_after now row.step row.reply) rows

pub cycle_last : (now : ℕ) (rows : List Row) (row : Row)
    → cycle_from now (rows ++ row ∷ []) ≡ cycle_after (cycle_from now rows) row.step row.reply
cycle_last now [] row = refl
cycle_last now (other ∷ rows) row = cycle_last (cycle_after now other.step other.reply) rows row

cleared_more : (now cycle k n : ℕ) (rows more : List Row) → cleared_from now cycle k n rows ≡ true
    → cleared_from now cycle k n (rows ++ more) ≡ true
cleared_more now cycle k n [] more has = absurd cc
cleared_more now cycle k n (row ∷ rows) more has =
    let next : ℕ = cycle_after now row.step row.reply in
    elim (cases_Bool ((now == cycle) && clears k n row.step row.reply)) [
      | inl fits ↦ simp fits refl
      | inr other ↦ simp other
          (cleared_more next cycle k n rows more
          (subst (λ (t : Bool). (if t then true else cleared_from next cycle k n rows) ≡ true) other has))
    ]

-- the last clears in the cycle after those before it
cleared_last : (now cycle k n : ℕ) (rows : List Row) (row : Row) → cycle_from now rows ≡ cycle
    → clears k n row.step row.reply ≡ true → cleared_from now cycle k n (rows ++ row ∷ []) ≡ true
cleared_last now cycle k n [] row is fits =
    simp (and_from (now == cycle) (clears k n row.step row.reply) (eq-eqb now cycle is) fits) refl
cleared_last now cycle k n (other ∷ rows) row is fits =
    let next : ℕ = cycle_after now other.step other.reply in
    elim (cases_Bool ((now == cycle) && clears k n other.step other.reply)) [
      | inl first ↦ simp first refl
      | inr later ↦ simp later (cleared_last next cycle k n rows row is fits)
    ]

registered_is : (rows : List Row) (n q : ℕ) → is_registered rows n q ≡ has_row (registers n q) rows
registered_is [] n q = refl
registered_is (row ∷ rows) n q =
    ap (λ (later : Bool). if registers n q row.step row.reply then true else later) (registered_is rows n q)

pub registered_more : (rows more : List Row) (n q : ℕ) → is_registered rows n q ≡ true
    → is_registered (rows ++ more) n q ≡ true
registered_more rows more n q has =
    registered_is (rows ++ more) n q ∙ has_more (registers n q) rows more (sym (registered_is rows n q) ∙ has)

cause_more : (rows more : List Row) (n : ℕ) (cause : Cause) → IsCause rows n cause → IsCause (rows ++ more) n cause
cause_more rows more n Own is = has_more (unhooks n) rows more is
cause_more rows more n (Cycle cycle k) is = cleared_more 0 cycle k n rows more is

proven_more : (rows more : List Row) (notice : Notice) → IsProven rows notice → IsProven (rows ++ more) notice
proven_more rows more notice is = search (registered_more, cause_more)

-- ---- objects

-- an object that is a registered reference was made so by a row
abbrev pub IsMade : List Row → Object → Type 0
IsMade rows o = (q : ℕ) → registered_in o.reference ≡ Some q → is_registered rows o.no q ≡ true

pub made_lasts : (rows : List Row) → Lasts (IsMade rows)
made_lasts rows = grind arith

made_at : (rows : List Row) (os : List Object) (n q : ℕ) → AllByRecursion (IsMade rows) os
    → registered_in (reference_in (object_at os n)) ≡ Some q → is_registered rows n q ≡ true
made_at rows [] n q all there = absurd cc
made_at rows (o ∷ os) n q all there = grind (arith, made_at rows os n q all.1)

-- ---- rows

-- each object and each notice comes from the rows, and C holds of the cycle
abbrev pub KnownBut : (ℕ → Type 0) → List Row → World → Type 0
KnownBut C rows w = Carries (IsMade rows) (IsProven rows) C w

-- and they tell the cycle
abbrev pub Known : List Row → World → Type 0
Known rows w = KnownBut (λ c. cycle_from 0 rows ≡ c) rows w

-- so each reference that is registered was made so by one of these rows, and of more
pub made_more : (rows more : List Row) (w : World) → Known rows w → (n q : ℕ)
    → registered_in (reference_at w.heap n) ≡ Some q → is_registered (rows ++ more) n q ≡ true
made_more rows more w known n q there =
    registered_more rows more n q (made_at rows w.heap.objects n q known.objects there)

-- no row but a begin changes the cycle
abbrev pub Stays : ℕ → Step → ℕ → Type 0
Stays before (steps.Plain (plain.Begin now how)) c = Unit {0}
Stays before step c = c ≡ before

stays_at : (before : ℕ) (step : Step) → Stays before step before
stays_at before (steps.Plain (plain.Begin now how)) = tt
stays_at before step = refl

-- what the last row makes anew comes from it
pub mints : (past : List Row) (a : State) (step : Step) (reply : Reply) → cycle_from 0 past ≡ a.world.cycle
    → KnownBut (Stays a.world.cycle step) (past ++ record { step = step; reply = reply } ∷ []) a.world
    → Mints (IsMade (past ++ record { step = step; reply = reply } ∷ []))
    (IsProven (past ++ record { step = step; reply = reply } ∷ [])) (Stays a.world.cycle step) a step reply
mints past a (steps.Plain (plain.New m d k)) reply cycle known = λ is q there. absurd cc
mints past a (steps.Plain (plain.Refer m strength d s queue k)) reply cycle known =
    grind (arith, registered_is, has_last)
mints past a (steps.Unhook m s) reply cycle known = grind (arith, made_at, has_last)
mints past a (steps.Plain (plain.Begin now how)) reply cycle known = λ is. tt
mints past a (steps.Plain (plain.ClearNext k)) reply cycle known = grind (arith, made_at, cleared_last)
mints past a step reply cycle known = tt

-- a begin changes the cycle as it says
pub begun_cycle : (a b : State) (now : ℕ) (how : Urgency) (reply : Reply)
    → HeapAccepts a (heap.Plain (plain.Begin now how)) reply b
    → b.world.cycle ≡ cycle_after a.world.cycle (steps.Plain (plain.Begin now how)) reply
begun_cycle a b now how reply row = grind arith

answered_cycle : (a b : State) (now : ℕ) (how : Urgency) (reply : Reply) (fault : Option Fault)
    → IsAnswer a fault (steps.Plain (plain.Begin now how)) reply b
    → b.world.cycle ≡ cycle_after a.world.cycle (steps.Plain (plain.Begin now how)) reply
answered_cycle a b now how reply (Some fault) row = cc
answered_cycle a b now how reply None row =
    ap (λ (s : State). s.world.cycle) row.2 ∙ begun_cycle a row.0 now how reply row.1

-- and so each row does
step_cycle : (a b : State) (step : Step) (reply : Reply) → IsAnswer a (refusal a step) step reply b
    → Stays a.world.cycle step b.world.cycle → b.world.cycle ≡ cycle_after a.world.cycle step reply
step_cycle a b (steps.Plain (plain.Begin now how)) reply row stays =
    answered_cycle a b now how reply (refusal a (steps.Plain (plain.Begin now how))) row
step_cycle a b step reply row stays = stays

pub lifted : (past : List Row) (a : State) (row : Row) → Known past a.world
    → KnownBut (Stays a.world.cycle row.step) (past ++ row ∷ []) a.world
lifted past a row known = search (carries_more, registered_more, proven_more, stays_at)

pub row_known : (past : List Row) (a : State) (row : Row) (b : State) → Known past a.world → IsRow a row b
    → Known (past ++ row ∷ []) b.world
row_known past a row b known h =
    let more : List Row = past ++ row ∷ [] in
    let Stay : ℕ → Type 0 = Stays a.world.cycle row.step in
    let before : KnownBut Stay more a.world = lifted past a row known in
    let next : KnownBut Stay more b.world =
    row_carries (IsMade more) (IsProven more) Stay (made_lasts more) a row b
    (mints past a row.step row.reply known.goes_on before) before h in
    let cycle : cycle_from 0 more ≡ b.world.cycle =
    cycle_last 0 past row ∙ ap (λ c. cycle_after c row.step row.reply) known.goes_on
    ∙ sym (step_cycle a b row.step row.reply h next.goes_on) in
    carries_more (IsMade more) (IsMade more) (IsProven more) (IsProven more) Stay (λ c. cycle_from 0 more ≡ c) b.world
    (λ o is. is) (λ notice is. is) cycle next

-- ---- from the first state

hand_known : (rows : List Row) (w : World) (who : Actor) → Known rows w → AllByRecursion (IsProven rows) (hand_of w who)
hand_known rows w (Mutator m) known = known.of_mutators m
hand_known rows w (Worker k) known = known.of_workers k

pub legal_known : (config : Config) (rows : List Row) (b : State) → IsRun (first_state config) rows b
    → Known rows b.world
legal_known config rows b run =
    legal_holds config (λ past a. Known past a.world)
    (λ past a row c before known h. row_known past a row c known h)
    (first_carries (IsMade []) (IsProven []) (λ c. cycle_from 0 [] ≡ c) config refl) rows b run

-- what is out after a legal trace comes from its rows
pub legal_proven : (config : Config) (rows : List Row) (b : State) → IsRun (first_state config) rows b
    → AreProven rows b.world
legal_proven config rows b run = search (hand_known, legal_known config rows b run)
