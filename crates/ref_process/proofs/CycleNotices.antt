-- Each notice of a cycle is of what was dead at its mark's end.
use Rattle.std.proofs.Common.{arith, ◌≡◌, ◌<◌, ◌≤◌, ◌+◌, ◌∷◌, ◌++◌, [], refl, subst, sym, ap, ◌∙◌, ℕ, Bool, true}
use Rattle.std.proofs.Common.{false, List, Option, Some, None, length, map, zero, suc, inl, inr, is_some, if◌then◌else◌}
use Rattle.std.proofs.Common.{◌&&◌, ◌⊎◌}
use Rattle.std.proofs.lemmas.Bool.{cases_eq, true≢false, eqb-true, or_cases}
use Rattle.std.specs.Prelude.{slice_index_or}
use Rattle.ref_base.specs.Graphs.{Graph}
use Rattle.ref_base.specs.declared.policy.Policy.{Policy}
use Rattle.ref_process.proofs.KnownKeys.{key_is}
use Rattle.ref_process.proofs.ListedKeys.{AreKnown, Steady, get_steady, clear_steady, enqueue_steady, look_steady}
use Rattle.ref_process.proofs.ListedKeys.{hand_steady, spend_steady, run_known, new_are_known}
use Rattle.ref_process.proofs.RunDeaths.{IsSince, since_itself, since_after, row_dead, row_cycle, run_cycle}
use Rattle.ref_process.proofs.RunDeaths.{made_key_phase}
use Rattle.ref_process.proofs.RunDeaths.{made_key_cycle, finding_cycle}
use Rattle.ref_process.proofs.RunEnds.{key_itself}
use Rattle.ref_process.proofs.RunOrder.{changed_lists, other_lists, finding_pends}
use Rattle.ref_process.specs.CycleRows.{new_crew, IsOfTheDead, is_notice_of, hands_notice, was_noticed}
use Rattle.ref_process.specs.CycleRows.{clears_key, is_clear_of}
use Rattle.ref_process.specs.DeskRows.{Crew, DeskRow, Adds, Begins, Finds, EndsMarking, TakesMade, Looks, EndsClearing}
use Rattle.ref_process.specs.DeskRows.{Gets, Clears, Enqueues, Hands, Spends, Buries, Relocates, IsAnswered, after_row}
use Rattle.ref_process.specs.DeskRows.{IsRowBy}
use Rattle.ref_process.specs.DeskRows.{lists_at, at_desk, with_finder, IsRunBy, IsDeskRun}
use Rattle.ref_process.specs.Desks.{Desk, FinderLists, new_lists, is_marking, is_clearing, is_resting, lists_finding}
use Rattle.ref_process.specs.Desks.{lists_taking, made_reference, after_finding, mark_end_refusal}
use Rattle.ref_process.specs.Looks.{is_dying, look_through, look_at, look_first, lists_look, lists_look_at}
use Rattle.ref_process.specs.Notices.{handed_first, handed_at, handed_for, lists_hand, notice_queue}
use Rattle.ref_process.specs.Places.{reference_under, with_new}
use Rattle.ref_process.specs.Promises.{MarksKept}
use Rattle.ref_process.specs.declared.finder.Pending.{Pending}
use Rattle.ref_process.specs.declared.found.Found.{Found}
use Rattle.ref_process.specs.declared.found.Found.TheVariants.{Keep, Listed, Nothing}
use Rattle.ref_process.specs.declared.key.Key.{Key}
use Rattle.ref_process.specs.declared.looked.Looked.{Looked}
use Rattle.ref_process.specs.declared.looked.Looked.TheVariants.{Cleared}
use Rattle.ref_process.specs.declared.phase.Phase.{Phase}
use Rattle.ref_process.specs.declared.phase.Phase.TheVariants.{Idle, Marking, Clearing}
use Rattle.ref_process.specs.declared.place.Place.{Place}
use Rattle.ref_process.specs.declared.place.Reference.{Reference}

-- ---- what holds of each that is pending

abbrev pub Each : (Pending → Type 0) → List Pending → Type 0
Each Q [] = Unit {0}
Each Q (x ∷ xs) = Q x × Each Q xs

pub each_push : (Q : Pending → Type 0) (xs : List Pending) (x : Pending) → Each Q xs → Q x → Each Q (xs ++ x ∷ [])
each_push Q [] x each one = (one, tt)
each_push Q (y ∷ ys) x each one = (each.0, each_push Q ys x each.1 one)

pub each_more : (Q R : Pending → Type 0) → ((x : Pending) → Q x → R x) → (xs : List Pending) → Each Q xs → Each R xs
each_more Q R wider [] each = tt
each_more Q R wider (x ∷ xs) each = (wider x each.0, each_more Q R wider xs each.1)

abbrev pub AllPending : (Pending → Type 0) → Crew → Type 0
AllPending Q c = (i : ℕ) → Each Q (lists_at c i).pending

pub dying_cleared : (marked : ℕ → Bool) (k : Key) (h : Option ℕ) → is_dying marked h ≡ true
    → look_through marked k h ≡ Cleared k
dying_cleared marked k None dies = absurd (true≢false (sym dies))
dying_cleared marked k (Some h) dies = grind (arith, cases_eq, dies)

module _ (Q : Pending → Type 0) (marked : ℕ → Bool) (f : FinderLists) (cycle : ℕ) (k : Key)
    (each : Each Q f.pending) where
  pub pended_each : (h q : Option ℕ) → (look_through marked k h ≡ Cleared k → Q (record { key = k; cycle = cycle }))
      → (b : Bool) → is_dying marked h && is_some q ≡ b
      → Each Q (if b then record f { pending = f.pending ++ record { key = k; cycle = cycle } ∷ [] } else f).pending
  pended_each h q new true is =
      each_push Q f.pending (record { key = k; cycle = cycle }) each
      (new (dying_cleared marked k h (grind (arith, cases_eq, is))))
  pended_each h q new false is = each

  pub look_at_each : (o : Option Reference) → (look_at marked k o ≡ Cleared k → Q (record { key = k; cycle = cycle }))
      → Each Q (lists_look_at marked f cycle k o).pending
  look_at_each None new = each
  look_at_each (Some r) new = pended_each r.referent r.queue new (is_dying marked r.referent && is_some r.queue) refl

pub look_each : (Q : Pending → Type 0) (marked : ℕ → Bool) (d : Desk) (f : FinderLists) (ks : List Key)
    → Each Q f.pending
    → ((k : Key) → look_first marked d.places ks ≡ Some (Cleared k) → Q (record { key = k; cycle = d.cycle }))
    → Each Q (lists_look marked d f ks).pending
look_each Q marked d f [] each new = each
look_each Q marked d f (k ∷ ks) each new =
    look_at_each Q marked (record f { found = ks }) d.cycle k each (reference_under d.places k)
    (λ is. new k (ap (λ l. Some l) is))

pub hand_each : (Q : Pending → Type 0) (f : FinderLists) (xs : List Pending) → f.pending ≡ xs → Each Q xs
    → Each Q (lists_hand f xs).pending
hand_each Q f [] is each = subst (Each Q) (sym is) each
hand_each Q f (x ∷ xs) is each = each.1

-- Q holds of what a look at the first that was found makes pending
abbrev pub FitsNew : (Pending → Type 0) → (ℕ → Bool) → Crew → DeskRow → Type 0
FitsNew Q marked c row =
    (i : ℕ) (l : Looked) (q : Option ℕ) → row ≡ Looks i l q → (k : Key)
    → look_first marked c.desk.places (lists_at c i).found ≡ Some (Cleared k)
    → Q (record { key = k; cycle = c.desk.cycle })

module _ (Q : Pending → Type 0) (marked : ℕ → Bool) (c : Crew) (all : AllPending Q c) where
  pub changed_each : (d : Desk) (j : ℕ) (f : FinderLists) → j < length c.finders → Each Q f.pending
      → AllPending Q (with_finder c d j f)
  changed_each d j f there each i =
      elim (cases_eq i j) [
        | inl here ↦
            subst (λ n. Each Q (lists_at (with_finder c d j f) n).pending) (sym here)
            (subst (λ (g : FinderLists). Each Q g.pending) (sym (changed_lists c d j f there)) each)
        | inr other ↦ subst (λ (g : FinderLists). Each Q g.pending) (sym (other_lists c d j f i other)) (all i)
      ]

  pub after_each : (row : DeskRow) → IsAnswered marked c row → FitsNew Q marked c row
      → AllPending Q (after_row marked c row)
  after_each (Adds k owner strength referent queue x) is new = all
  after_each (Begins now u n) is new = all
  after_each (Finds j k x) is new =
      changed_each (after_finding c.desk x) j (lists_finding (lists_at c j) k x) is.0
      (subst (Each Q) (sym (finding_pends (lists_at c j) k x)) (all j))
  after_each EndsMarking is new = all
  after_each (TakesMade j) is new =
      changed_each (after_row marked c (TakesMade j)).desk j (lists_taking (lists_at c j) c.desk) is.0 (all j)
  after_each (Looks j l q) is new =
      changed_each (after_row marked c (Looks j l q)).desk j
      (lists_look marked c.desk (lists_at c j) (lists_at c j).found) is.0
      (look_each Q marked c.desk (lists_at c j) (lists_at c j).found (all j) (λ k first. new j l q refl k first))
  after_each EndsClearing is new = all
  after_each (Gets k got) is new = all
  after_each (Clears k) is new = all
  after_each (Enqueues k x) is new = all
  after_each (Hands j x) is new =
      changed_each (after_row marked c (Hands j x)).desk j (lists_hand (lists_at c j) (lists_at c j).pending) is.0
      (hand_each Q (lists_at c j) (lists_at c j).pending refl (all j))
  after_each (Spends k) is new = all
  after_each (Buries k) is new = all
  after_each (Relocates to) is new = all

pub row_each : (Q : Pending → Type 0) (marked : ℕ → Bool) (c : Crew) (row : DeskRow) (e : Crew) → AllPending Q c
    → IsRowBy marked c row e → FitsNew Q marked c row → AllPending Q e
row_each Q marked c row e all leads new =
    subst (AllPending Q) (sym leads.1) (after_each Q marked c all row leads.0 new)

-- ---- the cycle of what is pending

-- 1 in a mark, in which nothing is cleared, and else 0
abbrev pub in_mark : Phase → ℕ
in_mark Idle = 0
in_mark Marking = 1
in_mark Clearing = 0

-- it was cleared in this cycle at the latest, and in a mark in one before
abbrev pub IsBefore : Crew → Pending → Type 0
IsBefore c x = x.cycle + in_mark c.desk.phase ≤ c.desk.cycle

pub steady_before : (c e : Crew) → Steady c.desk e.desk → (x : Pending) → IsBefore c x → IsBefore e x
steady_before c e steady x before = grind (arith, steady.phase, steady.cycle, before)

pub placed_before : (c e : Crew) → e.desk.phase ≡ c.desk.phase → e.desk.cycle ≡ c.desk.cycle → (x : Pending)
    → IsBefore c x → IsBefore e x
placed_before c e phase cycle x before = grind (arith, phase, cycle, before)

pub finding_phase : (d : Desk) (x : Found) → (after_finding d x).phase ≡ d.phase
finding_phase d (Keep h) = refl
finding_phase d Listed = refl
finding_phase d Nothing = refl

pub marking_one : (phase : Phase) → is_marking phase ≡ true → in_mark phase ≡ 1
marking_one Idle is = absurd (true≢false (sym is))
marking_one Marking is = refl
marking_one Clearing is = absurd (true≢false (sym is))

module _ (marked : ℕ → Bool) (c : Crew) where
  pub after_before : (row : DeskRow) → (x : Pending) → IsBefore c x → IsBefore (after_row marked c row) x
  after_before (Adds k owner strength referent queue x) y before =
      placed_before c (after_row marked c (Adds k owner strength referent queue x))
      (made_key_phase
      (record c.desk { places = with_new c.desk.places k (made_reference c.desk owner strength referent queue) }) k x)
      (made_key_cycle
      (record c.desk { places = with_new c.desk.places k (made_reference c.desk owner strength referent queue) }) k x)
      y before
  after_before (Begins now u n) y before = omega (arith, before)
  after_before (Finds i k x) y before =
      placed_before c (after_row marked c (Finds i k x)) (finding_phase c.desk x) (finding_cycle c.desk x) y before
  after_before EndsMarking y before = omega (arith, before)
  after_before (TakesMade i) y before = before
  after_before (Looks i l q) y before =
      steady_before c (after_row marked c (Looks i l q)) (look_steady marked c.desk (lists_at c i).found) y before
  after_before EndsClearing y before = omega (arith, before)
  after_before (Gets k got) y before =
      steady_before c (after_row marked c (Gets k got)) (get_steady marked c.desk k (at_desk c k)) y before
  after_before (Clears k) y before =
      steady_before c (after_row marked c (Clears k)) (clear_steady marked c.desk k (at_desk c k)) y before
  after_before (Enqueues k x) y before =
      steady_before c (after_row marked c (Enqueues k x)) (enqueue_steady marked c.desk k (at_desk c k)) y before
  after_before (Hands i x) y before =
      steady_before c (after_row marked c (Hands i x)) (hand_steady marked c.desk (lists_at c i).pending) y before
  after_before (Spends k) y before =
      steady_before c (after_row marked c (Spends k)) (spend_steady marked c.desk k (at_desk c k)) y before
  after_before (Buries k) y before = before
  after_before (Relocates to) y before = before

pub look_clearing : (marked : ℕ → Bool) (c : Crew) (phase : Phase) → c.desk.phase ≡ phase → (row : DeskRow)
    → IsAnswered marked c row → (i : ℕ) (l : Looked) (q : Option ℕ) → row ≡ Looks i l q → phase ≡ Clearing
look_clearing marked c Clearing at row is i l q looks = refl
look_clearing marked c Idle at row is i l q looks =
    let refused = (subst (IsAnswered marked c) looks is).1 in absurd (grind (arith, cases_eq, at, refused))
look_clearing marked c Marking at row is i l q looks =
    let refused = (subst (IsAnswered marked c) looks is).1 in absurd (grind (arith, cases_eq, at, refused))

pub row_before : (marked : ℕ → Bool) (c : Crew) (row : DeskRow) (e : Crew) → AllPending (IsBefore c) c
    → IsRowBy marked c row e → AllPending (IsBefore e) e
row_before marked c row e all leads =
    subst (λ (x : Crew). AllPending (IsBefore x) x) (sym leads.1)
    (after_each (IsBefore (after_row marked c row)) marked c
    (λ i. each_more (IsBefore c) (IsBefore (after_row marked c row)) (after_before marked c row) (lists_at c i).pending
    (all i))
    row leads.0
    (λ i l q looks k first.
    after_before marked c row (record { key = k; cycle = c.desk.cycle })
    (let clearing : c.desk.phase ≡ Clearing = look_clearing marked c c.desk.phase refl row leads.0 i l q looks in
    grind (arith, clearing))))

pub run_before : (rows : List DeskRow) (c e : Crew) → IsDeskRun c rows e → AllPending (IsBefore c) c
    → AllPending (IsBefore e) e
run_before [] c e run all = subst (λ (x : Crew). AllPending (IsBefore x) x) (sym run) all
run_before (row ∷ rest) c e run all =
    run_before rest run.0 e run.2 (row_before run.1.0 c row run.0 all run.1.1)

pub none_pending : (workers : List ℕ) (i : ℕ) → (slice_index_or (map new_lists workers) i (new_lists 0)).pending ≡ []
none_pending [] i = refl
none_pending (w ∷ ws) zero = refl
none_pending (w ∷ ws) (suc i) = none_pending ws i

pub new_before : (span : ℕ) (workers : List ℕ) → AllPending (IsBefore (new_crew span workers)) (new_crew span workers)
new_before span workers i = subst (Each (IsBefore (new_crew span workers))) (sym (none_pending workers i)) tt

-- ---- what names a cycle is of what was dead at its mark's end

abbrev pub IsDeadIn : Policy → Graph → Crew → Pending → Type 0
IsDeadIn p g c x = x.cycle ≡ c.desk.cycle → IsOfTheDead p g (at_desk c x.key)

pub one_later : (b : Crew) (x : Pending) → in_mark b.desk.phase ≡ 1 → IsBefore b x → x.cycle ≡ b.desk.cycle → ⊥
one_later b x marks before same = omega (arith, marks, before, same)

pub mark_one : (d : Desk) → mark_end_refusal d ≡ None → in_mark d.phase ≡ 1
mark_one d allowed = marking_one d.phase (grind (arith, cases_eq, allowed))

-- at a mark's end nothing that is pending names the cycle
pub none_named : (p : Policy) (g : Graph) (marked : ℕ → Bool) (b c : Crew) → AllPending (IsBefore b) b
    → IsRowBy marked b EndsMarking c → AllPending (IsDeadIn p g c) c
none_named p g marked b c all ends =
    subst (λ (x : Crew). AllPending (IsDeadIn p g x) x) (sym ends.1)
    (λ i. each_more (IsBefore b) (IsDeadIn p g (after_row marked b EndsMarking))
    (λ x before same. absurd (one_later b x (mark_one b.desk ends.0) before same)) (lists_at b i).pending (all i))

pub same_looked : (l m : Looked) → Some l ≡ Some m → l ≡ m
same_looked l m is = cc

pub clears_by : (marked : ℕ → Bool) (z : Crew) (row : DeskRow) → IsAnswered marked z row → (i : ℕ) (l : Looked)
    (q : Option ℕ) → row ≡ Looks i l q → (k : Key)
    → look_first marked z.desk.places (lists_at z i).found ≡ Some (Cleared k) → clears_key k row ≡ true
clears_by marked z row is i l q looks k first =
    let answered : look_first marked z.desk.places (lists_at z i).found ≡ Some l =
    (subst (IsAnswered marked z) looks is).2 in
    let one : l ≡ Cleared k = same_looked l (Cleared k) (sym answered ∙ first) in
    ap (clears_key k) looks ∙ ap (is_clear_of k) one ∙ key_itself k

-- ---- the notices

module _ (Q : Pending → Type 0) (k : Key) (n : ℕ) where
  -- a pending one of this key and cycle, of which Q holds
  abbrev pub HasPending : Type 0
  HasPending = (y : Pending) × Q y × (y.key ≡ k) × (y.cycle ≡ n)

  pub for_notice : (y : Pending) → Q y → (w : ℕ) (m : Option ℕ) → is_notice_of n k (handed_for y w m) ≡ true
      → HasPending
  for_notice y holds w None is = absurd (true≢false (sym is))
  for_notice y holds w (Some q) is =
      (y, holds, sym (key_is k y.key (grind (arith, cases_eq, is))), grind (arith, cases_eq, eqb-true, is))

  pub at_notice : (y : Pending) → Q y → (w : ℕ) (o : Option Reference) → is_notice_of n k (handed_at y w o) ≡ true
      → HasPending
  at_notice y holds w None is = absurd (true≢false (sym is))
  at_notice y holds w (Some r) is = for_notice y holds w (notice_queue r) is

  pub first_notice : (ps : List Place) (w : ℕ) (xs : List Pending) → Each Q xs
      → is_notice_of n k (handed_first ps w xs) ≡ true → HasPending
  first_notice ps w [] each is = absurd (true≢false (sym is))
  first_notice ps w (y ∷ ys) each is = at_notice y each.0 w (reference_under ps y.key) is

module _ (p : Policy) (g : Graph) (c : Crew) (k : Key) where
  pub row_noticed : (marked : ℕ → Bool) (z : Crew) (row : DeskRow) → IsAnswered marked z row
      → AllPending (IsDeadIn p g c) z → hands_notice c.desk.cycle k row ≡ true → IsOfTheDead p g (at_desk c k)
  row_noticed marked z (Hands i x) is all tells =
      let pending : HasPending (IsDeadIn p g c) k c.desk.cycle =
      first_notice (IsDeadIn p g c) k c.desk.cycle z.desk.places (lists_at z i).worker (lists_at z i).pending (all i)
      (subst (λ y. is_notice_of c.desk.cycle k y ≡ true) is.1 tells) in
      subst (λ j. IsOfTheDead p g (at_desk c j)) pending.2 (pending.1 pending.3)
  row_noticed marked z row is all tells = absurd (grind (arith, tells))

-- ---- in the cycle

module _ (p : Policy) (g : Graph) (marked : ℕ → Bool) (promise : MarksKept p g marked) (c : Crew) where
  pub cycle_each : (z : Crew) (row : DeskRow) (y : Crew) → IsSince c z → AllPending (IsDeadIn p g c) z
      → IsRowBy marked z row y → AllPending (IsDeadIn p g c) y
  cycle_each z row y since all leads =
      row_each (IsDeadIn p g c) marked z row y all leads
      (λ i l q looks k first named.
      row_dead p g marked promise c k z row y since leads (clears_by marked z row leads.0 i l q looks k first))

  pub run_in_cycle : (rows : List DeskRow) (z d : Crew) → IsSince c z → AllPending (IsDeadIn p g c) z
      → IsRunBy marked z rows d → d.desk.cycle ≤ z.desk.cycle → IsSince c d × AllPending (IsDeadIn p g c) d
  run_in_cycle [] z d since all run within =
      (subst (IsSince c) (sym run) since, subst (AllPending (IsDeadIn p g c)) (sym run) all)
  run_in_cycle (row ∷ rest) z d since all run within =
      let later : run.0.desk.cycle ≤ d.desk.cycle = run_cycle marked rest run.0 d run.2 in
      let first : z.desk.cycle ≤ run.0.desk.cycle = row_cycle marked z row run.0 run.1 in
      run_in_cycle rest run.0 d (since_after marked c z run.0 row since run.1 (omega (arith, later, within)))
      (cycle_each z row run.0 since all run.1) run.2 (omega (arith, first, within))

  pub noticed_in_cycle : (rows : List DeskRow) (z d : Crew) → IsSince c z → AllPending (IsDeadIn p g c) z
      → IsRunBy marked z rows d → d.desk.cycle ≤ z.desk.cycle → (k : Key) → was_noticed c.desk.cycle k rows ≡ true
      → IsOfTheDead p g (at_desk c k)
  noticed_in_cycle [] z d since all run within k is = absurd (true≢false (sym is))
  noticed_in_cycle (row ∷ rest) z d since all run within k is =
      let later : run.0.desk.cycle ≤ d.desk.cycle = run_cycle marked rest run.0 d run.2 in
      let first : z.desk.cycle ≤ run.0.desk.cycle = row_cycle marked z row run.0 run.1 in
      elim (or_cases (hands_notice c.desk.cycle k row) (was_noticed c.desk.cycle k rest) is) [
        | inl here ↦ row_noticed p g c k marked z row run.1.0 all here
        | inr behind ↦
            noticed_in_cycle rest run.0 d
            (since_after marked c z run.0 row since run.1 (omega (arith, later, within)))
            (cycle_each z row run.0 since all run.1) run.2 (omega (arith, first, within)) k behind
      ]

-- ---- and afterwards

-- the cycle has ended: while none began since, none runs
pub record HasEnded (c z : Crew) : Type 0 where
  pub later : c.desk.cycle ≤ z.desk.cycle
  pub rests : z.desk.cycle ≡ c.desk.cycle → is_resting z.desk.phase ≡ true

pub resting_marks_not : (phase : Phase) → is_resting phase ≡ true → is_marking phase ≡ false
resting_marks_not Idle is = refl
resting_marks_not Marking is = absurd (true≢false (sym is))
resting_marks_not Clearing is = refl

pub resting_by : (phase : Phase) → is_marking phase ≡ false → is_clearing phase ≡ false → is_resting phase ≡ true
resting_by Idle late ended = refl
resting_by Marking late ended = absurd (true≢false late)
resting_by Clearing late ended = absurd (true≢false ended)

module _ (marked : ℕ → Bool) (c : Crew) (rests : is_resting c.desk.phase ≡ true) where
  pub after_rests : (row : DeskRow) → IsAnswered marked c row → (after_row marked c row).desk.cycle ≤ c.desk.cycle
      → is_resting (after_row marked c row).desk.phase ≡ true
  after_rests (Adds k owner strength referent queue x) is within =
      ap is_resting
      (made_key_phase
      (record c.desk { places = with_new c.desk.places k (made_reference c.desk owner strength referent queue) }) k x)
      ∙ rests
  after_rests (Begins now u n) is within = absurd (grind (arith, within))
  after_rests (Finds i k x) is within = ap is_resting (finding_phase c.desk x) ∙ rests
  after_rests EndsMarking is within =
      let marks_not : is_marking c.desk.phase ≡ false = resting_marks_not c.desk.phase rests in
      absurd (grind (arith, cases_eq, marks_not, is))
  after_rests (TakesMade i) is within = rests
  after_rests (Looks i l q) is within =
      ap is_resting (look_steady marked c.desk (lists_at c i).found).phase ∙ rests
  after_rests EndsClearing is within = refl
  after_rests (Gets k got) is within = ap is_resting (get_steady marked c.desk k (at_desk c k)).phase ∙ rests
  after_rests (Clears k) is within = ap is_resting (clear_steady marked c.desk k (at_desk c k)).phase ∙ rests
  after_rests (Enqueues k x) is within =
      ap is_resting (enqueue_steady marked c.desk k (at_desk c k)).phase ∙ rests
  after_rests (Hands i x) is within =
      ap is_resting (hand_steady marked c.desk (lists_at c i).pending).phase ∙ rests
  after_rests (Spends k) is within = ap is_resting (spend_steady marked c.desk k (at_desk c k)).phase ∙ rests
  after_rests (Buries k) is within = rests
  after_rests (Relocates to) is within = rests

pub ended_after : (marked : ℕ → Bool) (c z : Crew) (row : DeskRow) (y : Crew) → HasEnded c z → IsRowBy marked z row y
    → HasEnded c y
ended_after marked c z row y ended leads =
    let rises : z.desk.cycle ≤ y.desk.cycle = row_cycle marked z row y leads in
    let before : c.desk.cycle ≤ z.desk.cycle = ended.later in
    record {
      later = omega (arith, rises, before);
      rests = λ same.
          let still : z.desk.cycle ≡ c.desk.cycle = omega (arith, rises, before, same) in
          let within : y.desk.cycle ≤ z.desk.cycle = omega (arith, same, still) in
          subst (λ (x : Crew). is_resting x.desk.phase ≡ true) (sym leads.1)
          (after_rests marked z (ended.rests still) row leads.0
          (subst (λ (x : Crew). x.desk.cycle ≤ z.desk.cycle) leads.1 within));
    }

module _ (p : Policy) (g : Graph) (c : Crew) where
  pub later_each : (marked : ℕ → Bool) (z : Crew) (row : DeskRow) (y : Crew) → HasEnded c z
      → AllPending (IsDeadIn p g c) z → IsRowBy marked z row y → AllPending (IsDeadIn p g c) y
  later_each marked z row y ended all leads =
      row_each (IsDeadIn p g c) marked z row y all leads
      (λ i l q looks k first named.
      let clearing : z.desk.phase ≡ Clearing = look_clearing marked z z.desk.phase refl row leads.0 i l q looks in
      absurd (true≢false (sym (ended.rests named) ∙ ap is_resting clearing)))

  pub noticed_later : (more : List DeskRow) (z e : Crew) → HasEnded c z → AllPending (IsDeadIn p g c) z
      → IsDeskRun z more e → (k : Key) → was_noticed c.desk.cycle k more ≡ true → IsOfTheDead p g (at_desk c k)
  noticed_later [] z e ended all run k is = absurd (true≢false (sym is))
  noticed_later (row ∷ rest) z e ended all run k is =
      elim (or_cases (hands_notice c.desk.cycle k row) (was_noticed c.desk.cycle k rest) is) [
        | inl here ↦ row_noticed p g c k run.1.0 z row run.1.1.0 all here
        | inr behind ↦
            noticed_later rest run.0 e (ended_after run.1.0 c z row run.0 ended run.1.1)
            (later_each run.1.0 z row run.0 ended all run.1.1) run.2 k behind
      ]

pub noticed_parts : (n : ℕ) (k : Key) (rows more : List DeskRow) → was_noticed n k (rows ++ more) ≡ true
    → (was_noticed n k rows ≡ true) ⊎ (was_noticed n k more ≡ true)
noticed_parts n k [] more is = inr is
noticed_parts n k (row ∷ rest) more is =
    elim (or_cases (hands_notice n k row) (was_noticed n k (rest ++ more)) is) [
      | inl here ↦ inl (grind (arith, here))
      | inr behind ↦
          elim (noticed_parts n k rest more behind) [
            | inl first ↦ inl (grind (arith, cases_eq, first))
            | inr then_so ↦ inr then_so
          ]
    ]

module _ (p : Policy) (g : Graph) (marked : ℕ → Bool) (promise : MarksKept p g marked) (span : ℕ) (workers : List ℕ)
  where
    pub notices_dead : (before : List DeskRow) (b : Crew) → IsDeskRun (new_crew span workers) before b → (c : Crew)
        → IsRowBy marked b EndsMarking c → (rows : List DeskRow) (d : Crew) → IsRunBy marked c rows d
        → d.desk.cycle ≡ c.desk.cycle → is_clearing d.desk.phase ≡ false → (more : List DeskRow) (e : Crew)
        → IsDeskRun d more e → (k : Key) → was_noticed c.desk.cycle k (rows ++ more) ≡ true
        → IsOfTheDead p g (at_desk c k)
    notices_dead before b history c ends rows d run within ended more e later k is =
        let known_b : AreKnown b = run_known before (new_crew span workers) b history (new_are_known span workers) in
        let known : AreKnown c = run_known (EndsMarking ∷ []) b c (c, (marked, ends), refl) known_b in
        let late : is_marking c.desk.phase ≡ false =
        subst (λ (x : Crew). is_marking x.desk.phase ≡ false) (sym ends.1) refl in
        let since : IsSince c c = since_itself c late known in
        let all : AllPending (IsDeadIn p g c) c =
        none_named p g marked b c
        (run_before before (new_crew span workers) b history (new_before span workers)) ends in
        let end : IsSince c d × AllPending (IsDeadIn p g c) d =
        run_in_cycle p g marked promise c rows c d since all run (omega (arith, within)) in
        elim (noticed_parts c.desk.cycle k rows more is) [
          | inl first ↦
              noticed_in_cycle p g marked promise c rows c d since all run (omega (arith, within)) k first
          | inr then_so ↦
              noticed_later p g c more d e
              (record {
                later = omega (arith, within);
                rests = λ same. resting_by d.desk.phase end.0.late ended;
              })
              end.1 later k then_so
        ]
