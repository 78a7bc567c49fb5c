-- What a cycle clears was dead at its mark's end.
use Rattle.std.proofs.Common.{arith, ◌≡◌, ◌≤◌, ◌∷◌, [], refl, subst, sym, ap, ◌∙◌, ℕ, Bool, true, false, List}
use Rattle.std.proofs.Common.{Option, Some, None, inl, inr}
use Rattle.std.proofs.lemmas.Bool.{cases_eq, or_cases, false≢true, true≢false}
use Rattle.std.proofs.lemmas.Bool.Decides.{nat_tests}
use Rattle.ref_base.specs.Graphs.{Graph}
use Rattle.ref_base.specs.KeptPaths.{IsKept}
use Rattle.ref_base.specs.declared.policy.Policy.{Policy}
use Rattle.ref_process.proofs.KnownKeys.{known_in, is_known, each_known, all_keys, all_first, key_is}
use Rattle.ref_process.proofs.ListedKeys.{AllListed, AreKnown, after_listed, newly_listed, get_steady, clear_steady}
use Rattle.ref_process.proofs.ListedKeys.{enqueue_steady, look_steady, hand_steady, spend_steady, run_known}
use Rattle.ref_process.proofs.ListedKeys.{new_are_known}
use Rattle.ref_process.proofs.MarkedPaths.{kept_is_marked}
use Rattle.ref_process.proofs.PlaceRounds.{Onward, same, changed, dead, made, moved, EachOnward}
use Rattle.ref_process.proofs.Readings.{first_unmarked, clearing_by}
use Rattle.ref_process.proofs.RowChanges.{stands, row_onward}
use Rattle.ref_process.proofs.RunOrder.{at_key}
use Rattle.ref_process.specs.CycleRows.{new_crew, clears_key, was_cleared_by, RefersUnmarked, IsOfTheDead}
use Rattle.ref_process.specs.DeskRows.{Crew, DeskRow, Adds, Begins, Finds, EndsMarking, TakesMade, Looks, EndsClearing}
use Rattle.ref_process.specs.DeskRows.{Gets, Clears, Enqueues, Hands, Spends, Buries, Relocates, IsAnswered, after_row}
use Rattle.ref_process.specs.DeskRows.{IsRowBy}
use Rattle.ref_process.specs.DeskRows.{lists_at, at_desk, looked_key, IsRunBy, IsDeskRun}
use Rattle.ref_process.specs.Desks.{Desk, is_marking, is_clearing, made_reference, after_finding}
use Rattle.ref_process.specs.Desks.{with_made_key}
use Rattle.ref_process.specs.Looks.{look_first, look_at}
use Rattle.ref_process.specs.Places.{place_at, held_by, reference_under, with_new}
use Rattle.ref_process.specs.Promises.{MarksKept}
use Rattle.ref_process.specs.declared.found.Found.{Found}
use Rattle.ref_process.specs.declared.found.Found.TheVariants.{Keep, Listed, Nothing}
use Rattle.ref_process.specs.declared.key.Key.{Key}
use Rattle.ref_process.specs.declared.looked.Looked.{Looked}
use Rattle.ref_process.specs.declared.looked.Looked.TheVariants.{Cleared}
use Rattle.ref_process.specs.declared.phase.Phase.{Phase}
use Rattle.ref_process.specs.declared.phase.Phase.TheVariants.{Idle, Marking, Clearing}
use Rattle.ref_process.specs.declared.place.Place.{Place}
use Rattle.ref_process.specs.declared.place.Reference.{Reference}

-- ---- the cycle's number, and the phase

pub made_key_cycle : (d : Desk) (k : Key) (x : Found) → (with_made_key d k x).cycle ≡ d.cycle
made_key_cycle d k (Keep h) = refl
made_key_cycle d k Listed = refl
made_key_cycle d k Nothing = refl

pub made_key_phase : (d : Desk) (k : Key) (x : Found) → (with_made_key d k x).phase ≡ d.phase
made_key_phase d k (Keep h) = refl
made_key_phase d k Listed = refl
made_key_phase d k Nothing = refl

pub finding_cycle : (d : Desk) (x : Found) → (after_finding d x).cycle ≡ d.cycle
finding_cycle d (Keep h) = refl
finding_cycle d Listed = refl
finding_cycle d Nothing = refl

module _ (marked : ℕ → Bool) (c : Crew) where
  pub after_cycle : (row : DeskRow) → c.desk.cycle ≤ (after_row marked c row).desk.cycle
  after_cycle (Adds k owner strength referent queue x) =
      grind (
        arith,
        made_key_cycle
            (record c.desk { places = with_new c.desk.places k (made_reference c.desk owner strength referent queue) })
            k x,
      )
  after_cycle (Begins now u n) = grind arith
  after_cycle (Finds i k x) = grind (arith, finding_cycle c.desk x)
  after_cycle EndsMarking = grind arith
  after_cycle (TakesMade i) = grind arith
  after_cycle (Looks i l q) = grind (arith, (look_steady marked c.desk (lists_at c i).found).cycle)
  after_cycle EndsClearing = grind arith
  after_cycle (Gets k got) = grind (arith, (get_steady marked c.desk k (at_desk c k)).cycle)
  after_cycle (Clears k) = grind (arith, (clear_steady marked c.desk k (at_desk c k)).cycle)
  after_cycle (Enqueues k x) = grind (arith, (enqueue_steady marked c.desk k (at_desk c k)).cycle)
  after_cycle (Hands i x) = grind (arith, (hand_steady marked c.desk (lists_at c i).pending).cycle)
  after_cycle (Spends k) = grind (arith, (spend_steady marked c.desk k (at_desk c k)).cycle)
  after_cycle (Buries k) = grind arith
  after_cycle (Relocates to) = grind arith

  -- once a mark has ended, there is none until the next cycle begins
  pub after_late : (row : DeskRow) → IsAnswered marked c row → is_marking c.desk.phase ≡ false
      → (after_row marked c row).desk.cycle ≤ c.desk.cycle → is_marking (after_row marked c row).desk.phase ≡ false
  after_late (Adds k owner strength referent queue x) is late within =
      ap is_marking
      (made_key_phase
      (record c.desk { places = with_new c.desk.places k (made_reference c.desk owner strength referent queue) }) k x)
      ∙ late
  after_late (Begins now u n) is late within = absurd (grind (arith, within))
  after_late (Finds i k x) is late within = absurd (grind (arith, cases_eq, late, is.1))
  after_late EndsMarking is late within = refl
  after_late (TakesMade i) is late within = late
  after_late (Looks i l q) is late within =
      ap is_marking (look_steady marked c.desk (lists_at c i).found).phase ∙ late
  after_late EndsClearing is late within = refl
  after_late (Gets k got) is late within = ap is_marking (get_steady marked c.desk k (at_desk c k)).phase ∙ late
  after_late (Clears k) is late within = ap is_marking (clear_steady marked c.desk k (at_desk c k)).phase ∙ late
  after_late (Enqueues k x) is late within =
      ap is_marking (enqueue_steady marked c.desk k (at_desk c k)).phase ∙ late
  after_late (Hands i x) is late within =
      ap is_marking (hand_steady marked c.desk (lists_at c i).pending).phase ∙ late
  after_late (Spends k) is late within = ap is_marking (spend_steady marked c.desk k (at_desk c k)).phase ∙ late
  after_late (Buries k) is late within = late
  after_late (Relocates to) is late within = late

  -- a clearing was one before, once the mark has ended
  pub after_clears : (row : DeskRow) → IsAnswered marked c row → is_marking c.desk.phase ≡ false
      → is_clearing (after_row marked c row).desk.phase ≡ true → is_clearing c.desk.phase ≡ true
  after_clears (Adds k owner strength referent queue x) is late clears =
      sym
      (ap is_clearing
      (made_key_phase
      (record c.desk { places = with_new c.desk.places k (made_reference c.desk owner strength referent queue) }) k x))
      ∙ clears
  after_clears (Begins now u n) is late clears = absurd (true≢false (sym clears))
  after_clears (Finds i k x) is late clears = absurd (grind (arith, cases_eq, late, is.1))
  after_clears EndsMarking is late clears = absurd (grind (arith, cases_eq, late, is))
  after_clears (TakesMade i) is late clears = clears
  after_clears (Looks i l q) is late clears =
      sym (ap is_clearing (look_steady marked c.desk (lists_at c i).found).phase) ∙ clears
  after_clears EndsClearing is late clears = absurd (true≢false (sym clears))
  after_clears (Gets k got) is late clears =
      sym (ap is_clearing (get_steady marked c.desk k (at_desk c k)).phase) ∙ clears
  after_clears (Clears k) is late clears =
      sym (ap is_clearing (clear_steady marked c.desk k (at_desk c k)).phase) ∙ clears
  after_clears (Enqueues k x) is late clears =
      sym (ap is_clearing (enqueue_steady marked c.desk k (at_desk c k)).phase) ∙ clears
  after_clears (Hands i x) is late clears =
      sym (ap is_clearing (hand_steady marked c.desk (lists_at c i).pending).phase) ∙ clears
  after_clears (Spends k) is late clears =
      sym (ap is_clearing (spend_steady marked c.desk k (at_desk c k)).phase) ∙ clears
  after_clears (Buries k) is late clears = clears
  after_clears (Relocates to) is late clears = clears

  -- no object moves in a clearing
  pub clearing_stands : (row : DeskRow) → IsAnswered marked c row → is_clearing c.desk.phase ≡ true
      → stands row ≡ true
  clearing_stands (Relocates to) is clears = absurd (grind (arith, cases_eq, clears, is))
  clearing_stands row is clears = grind arith

  -- once a mark has ended, nothing is listed anew
  pub late_lists_none : (row : DeskRow) → IsAnswered marked c row → is_marking c.desk.phase ≡ false
      → newly_listed row ≡ []
  late_lists_none (Adds k owner strength referent queue x) is late =
      let none : x ≡ Nothing = grind (arith, late, is.2) in grind (arith, none)
  late_lists_none (Begins now u n) is late = refl
  late_lists_none (Finds i k x) is late = absurd (grind (arith, cases_eq, late, is.1))
  late_lists_none EndsMarking is late = refl
  late_lists_none (TakesMade i) is late = refl
  late_lists_none (Looks i l q) is late = refl
  late_lists_none EndsClearing is late = refl
  late_lists_none (Gets k got) is late = refl
  late_lists_none (Clears k) is late = refl
  late_lists_none (Enqueues k x) is late = refl
  late_lists_none (Hands i x) is late = refl
  late_lists_none (Spends k) is late = refl
  late_lists_none (Buries k) is late = refl
  late_lists_none (Relocates to) is late = refl

-- ---- what a reference refers to it referred to before

abbrev pub RefersIn : Place → ℕ → ℕ → Type 0
RefersIn p round h = (r : Reference) × (held_by p round ≡ Some r) × (r.referent ≡ Some h)

pub place_before : (p q : Place) → Onward true p q → (round h : ℕ) (t : Reference) → known_in p round ≡ true
    → held_by q round ≡ Some t → t.referent ≡ Some h → RefersIn p round h
place_before p q (same is) round h t known held refers = (t, grind (arith, is, held), refers)
place_before p q (changed r s was is rounds goes) round h t known held refers =
    let one : t ≡ s = grind (arith, cases_eq, is, held) in (
      r,
      grind (arith, cases_eq, was, rounds, held),
      goes.refers h (grind (arith, one, refers)),
    )
place_before p q (dead empty rounds) round h t known held refers = absurd (grind (arith, cases_eq, empty, held))
place_before p q (made s was is rounds untold) round h t known held refers =
    absurd (grind (arith, nat_tests, cases_eq, was, rounds, held, known))
place_before p q (moved r s was is rounds queue told moves) round h t known held refers = absurd (true≢false moves)

-- ---- since a mark's end

-- what holds of a later moment of the cycle, by how it was at the mark's end
pub record IsSince (c z : Crew) : Type 0 where
  pub late : is_marking z.desk.phase ≡ false
  pub listed : AllListed (is_known c.desk.places) z
  pub known : (k : Key) → is_known c.desk.places k ≡ true → is_known z.desk.places k ≡ true
  -- as long as it clears: afterwards objects may move
  pub refers :
      is_clearing z.desk.phase ≡ true → (k : Key) (h : ℕ) (t : Reference) → is_known c.desk.places k ≡ true
      → at_desk z k ≡ Some t → t.referent ≡ Some h → RefersIn (place_at c.desk.places k.place) k.round h

pub since_itself : (c : Crew) → is_marking c.desk.phase ≡ false → AreKnown c → IsSince c c
since_itself c late known = record {
  late = late;
  listed = known;
  known = λ k is. is;
  refers = λ clears k h t is at refers. (t, at, refers);
}

pub row_clears : (marked : ℕ → Bool) (c : Crew) (row : DeskRow) (e : Crew) → IsRowBy marked c row e
    → is_marking c.desk.phase ≡ false → is_clearing e.desk.phase ≡ true → is_clearing c.desk.phase ≡ true
row_clears marked c row e leads late clears =
    after_clears marked c row leads.0 late
    (subst (λ (x : Crew). is_clearing x.desk.phase ≡ true) leads.1 clears)

pub since_after : (marked : ℕ → Bool) (c z y : Crew) (row : DeskRow) → IsSince c z → IsRowBy marked z row y
    → y.desk.cycle ≤ z.desk.cycle → IsSince c y
since_after marked c z y row since leads within =
    let onward : EachOnward (stands row) z.desk.places y.desk.places = row_onward marked z row y leads in
    record {
      late =
          subst (λ (x : Crew). is_marking x.desk.phase ≡ false) (sym leads.1)
          (after_late marked z row leads.0 since.late
          (subst (λ (x : Crew). x.desk.cycle ≤ z.desk.cycle) leads.1 within));
      listed =
          subst (AllListed (is_known c.desk.places)) (sym leads.1)
          (after_listed (is_known c.desk.places) marked z since.listed row leads.0
          (ap (all_keys (is_known c.desk.places)) (late_lists_none marked z row leads.0 since.late)));
      known = λ k is. each_known (stands row) z.desk.places y.desk.places onward k (since.known k is);
      refers = λ clears k h t is at refers.
          let clearing : is_clearing z.desk.phase ≡ true = row_clears marked z row y leads since.late clears in
          let still : EachOnward true z.desk.places y.desk.places =
          subst (λ b. EachOnward b z.desk.places y.desk.places) (clearing_stands marked z row leads.0 clearing)
          onward in
          let before : RefersIn (place_at z.desk.places k.place) k.round h =
          place_before (place_at z.desk.places k.place) (place_at y.desk.places k.place) (still k.place) k.round h t
          (since.known k is) at refers in since.refers clearing k h before.0 is before.1 before.2;
    }

pub row_cycle : (marked : ℕ → Bool) (c : Crew) (row : DeskRow) (e : Crew) → IsRowBy marked c row e
    → c.desk.cycle ≤ e.desk.cycle
row_cycle marked c row e leads =
    subst (λ (x : Crew). c.desk.cycle ≤ x.desk.cycle) (sym leads.1) (after_cycle marked c row)

pub run_cycle : (marked : ℕ → Bool) (rows : List DeskRow) (c e : Crew) → IsRunBy marked c rows e
    → c.desk.cycle ≤ e.desk.cycle
run_cycle marked [] c e run = grind (arith, run)
run_cycle marked (row ∷ rest) c e run =
    let first : c.desk.cycle ≤ run.0.desk.cycle = row_cycle marked c row run.0 run.1 in
    let next : run.0.desk.cycle ≤ e.desk.cycle = run_cycle marked rest run.0 e run.2 in
    omega (arith, first, next)

-- ---- what a look clears

pub first_listed : (test : Key → Bool) (marked : ℕ → Bool) (ps : List Place) (ks : List Key) (l : Looked)
    → look_first marked ps ks ≡ Some l → all_keys test ks ≡ true → test (looked_key l) ≡ true
first_listed test marked ps [] l is all = absurd (grind arith)
first_listed test marked ps (k ∷ ks) l is all =
    let looked : look_at marked k (reference_under ps k) ≡ l = grind arith in
    let key : looked_key l ≡ k =
    subst (λ x. looked_key x ≡ k) looked (at_key marked k (reference_under ps k)) in
    ap test key ∙ all_first test k ks all

pub dead_of : (p : Policy) (g : Graph) (o : Option Reference) (r : Reference) (h : ℕ) → o ≡ Some r
    → r.referent ≡ Some h → ¬ (IsKept p g h) → IsOfTheDead p g o
dead_of p g o r h is refers kept_not = subst (IsOfTheDead p g) (sym is) (h, refers, kept_not)

pub unmarked_dead : (p : Policy) (g : Graph) (marked : ℕ → Bool) → MarksKept p g marked → (c z : Crew) → IsSince c z
    → is_clearing z.desk.phase ≡ true → (k : Key) (o : Option Reference) → at_desk z k ≡ o
    → is_known c.desk.places k ≡ true → RefersUnmarked marked o → IsOfTheDead p g (at_desk c k)
unmarked_dead p g marked promise c z since clears k None is known refers = absurd refers
unmarked_dead p g marked promise c z since clears k (Some r) is known refers =
    let before : RefersIn (place_at c.desk.places k.place) k.round refers.0 =
    since.refers clears k refers.0 r known is refers.1 in
    dead_of p g (at_desk c k) before.0 refers.0 before.1 before.2
    (λ kept. false≢true (sym refers.2 ∙ kept_is_marked p g marked promise refers.0 kept))

module _ (p : Policy) (g : Graph) (marked : ℕ → Bool) (promise : MarksKept p g marked) (c : Crew) (k : Key) where
  pub row_dead : (z : Crew) (row : DeskRow) (y : Crew) → IsSince c z → IsRowBy marked z row y
      → clears_key k row ≡ true → IsOfTheDead p g (at_desk c k)
  row_dead z (Looks i (Cleared j) q) y since leads is =
      subst (λ x. IsOfTheDead p g (at_desk c x)) (sym (key_is k j is))
      (unmarked_dead p g marked promise c z since
      (ap is_clearing (clearing_by z.desk.phase z.desk refl leads.0.1)) j (at_desk z j) refl
      (first_listed (is_known c.desk.places) marked z.desk.places (lists_at z i).found (Cleared j) leads.0.2
      (since.listed.found i))
      (first_unmarked marked z.desk.places (lists_at z i).found j leads.0.2))
  row_dead z row y since leads is = absurd (grind arith)

  pub run_dead : (rows : List DeskRow) (z e : Crew) → IsSince c z → IsRunBy marked z rows e
      → e.desk.cycle ≤ z.desk.cycle → was_cleared_by k rows ≡ true → IsOfTheDead p g (at_desk c k)
  run_dead [] z e since run within is = absurd (grind arith)
  run_dead (row ∷ rest) z e since run within is =
      let later : run.0.desk.cycle ≤ e.desk.cycle = run_cycle marked rest run.0 e run.2 in
      let first : z.desk.cycle ≤ run.0.desk.cycle = row_cycle marked z row run.0 run.1 in
      elim (or_cases (clears_key k row) (was_cleared_by k rest) is) [
        | inl here ↦ row_dead z row run.0 since run.1 here
        | inr behind ↦
            run_dead rest run.0 e
            (since_after marked c z run.0 row since run.1 (omega (arith, later, within)))
            run.2 (omega (arith, first, within)) behind
      ]

pub clearing_late : (phase : Phase) → is_clearing phase ≡ true → is_marking phase ≡ false
clearing_late Idle is = refl
clearing_late Marking is = absurd (grind arith)
clearing_late Clearing is = refl

pub cycle_dead : (p : Policy) (g : Graph) (marked : ℕ → Bool) → MarksKept p g marked → (span : ℕ) (workers : List ℕ)
    (before : List DeskRow) (c : Crew) → IsDeskRun (new_crew span workers) before c → is_clearing c.desk.phase ≡ true
    → (rows : List DeskRow) (e : Crew) → IsRunBy marked c rows e → e.desk.cycle ≡ c.desk.cycle → (k : Key)
    → was_cleared_by k rows ≡ true → IsOfTheDead p g (at_desk c k)
cycle_dead p g marked promise span workers before c history clearing rows e run within k is =
    run_dead p g marked promise c k rows c e
    (since_itself c (clearing_late c.desk.phase clearing)
    (run_known before (new_crew span workers) c history (new_are_known span workers)))
    run (omega (arith, within)) is
