-- At the end of a clearing each referent is marked.
use Rattle.std.proofs.Common.{arith, ◌≡◌, ◌<◌, ◌≤◌, ◌+◌, ◌∷◌, ◌++◌, [], refl, subst, sym, ap, ◌∙◌, ℕ, Bool, true, false}
use Rattle.std.proofs.Common.{List, Option, Some, None, length, zero, suc, inl, inr, is_some, ◌-◌, if◌then◌else◌}
use Rattle.std.proofs.lemmas.Bool.{cases_eq, cases_Bool, true≢false, eqb-true, eq-eqb}
use Rattle.std.proofs.lemmas.Bool.Decides.{nat_tests}
use Rattle.std.proofs.lemmas.List.Sums.{sum_by-cons}
use Rattle.std.specs.Prelude.{slice_index_or, slice_set}
use Rattle.ref_process.proofs.KnownKeys.{key_is}
use Rattle.ref_process.proofs.ListedKeys.{look_at_found, hand_found, look_steady, hand_steady, get_steady, clear_steady}
use Rattle.ref_process.proofs.ListedKeys.{enqueue_steady, spend_steady}
use Rattle.ref_process.proofs.RunDeaths.{after_late, row_clears, row_cycle, run_cycle, clearing_late}
use Rattle.ref_process.proofs.ListCounts.{all_found, IsCounted, row_counted, run_counted, none_counted}
use Rattle.ref_process.proofs.PlaceRounds.{Touches, untouched, touched, GoesOn, bury_here, new_here}
use Rattle.ref_process.proofs.Readings.{same_under, other_under, bury_under, new_under}
use Rattle.ref_process.proofs.RowChanges.{get_touches, clear_touches, enqueue_touches, look_touches, hand_touches}
use Rattle.ref_process.proofs.RowChanges.{spend_touches, made_key_places, finding_places}
use Rattle.ref_process.specs.CycleRows.{has_key, any_lists, is_listed, AreReported, makes_marked, make_marked, new_crew}
use Rattle.ref_process.specs.DeskRows.{Crew, DeskRow, Adds, Begins, Finds, EndsMarking, TakesMade, Looks, EndsClearing}
use Rattle.ref_process.specs.DeskRows.{Gets, Clears, Enqueues, Hands, Spends, Buries, Relocates, IsAnswered, after_row}
use Rattle.ref_process.specs.DeskRows.{IsRowBy}
use Rattle.ref_process.specs.DeskRows.{lists_at, at_desk, with_finder, IsRunBy, IsDeskRun}
use Rattle.ref_process.specs.Desks.{Desk, FinderLists, new_lists, death_refusal, made_reference, lists_taking}
use Rattle.ref_process.specs.Desks.{is_marking, is_clearing, clear_end_refusal, with_made_key}
use Rattle.ref_process.specs.Looks.{is_dying, after_look, after_look_at, lists_look, after_get, after_clear}
use Rattle.ref_process.specs.Notices.{after_enqueue, after_hand, after_spend, lists_hand}
use Rattle.ref_process.specs.Places.{reference_under, put_at, buried, with_new, is_new_key}
use Rattle.ref_process.specs.RowTallies.{same_key}
use Rattle.ref_process.specs.declared.found.Found.{Found}
use Rattle.ref_process.specs.declared.found.Found.TheVariants.{Keep, Listed, Nothing}
use Rattle.ref_process.specs.declared.key.Key.{Key}
use Rattle.ref_process.specs.declared.place.Place.{Place}
use Rattle.ref_process.specs.declared.place.Reference.{Reference}

-- ---- what a reference refers to it referred to before

-- the key has a reference to h
abbrev pub HasReferent : List Place → Key → ℕ → Type 0
HasReferent ps k h = (r : Reference) × (reference_under ps k ≡ Some r) × (r.referent ≡ Some h)

abbrev pub Backs : List Place → List Place → Type 0
Backs ps qs = (k : Key) (h : ℕ) → HasReferent qs k h → HasReferent ps k h

pub same_some : (r s : Reference) → Some r ≡ Some s → r ≡ s
same_some r s is = cc

pub same_handle : (g h : ℕ) → Some g ≡ Some h → g ≡ h
same_handle g h is = cc

pub no_handle : (h : ℕ) → None ≡ Some h → ⊥
no_handle h is = cc

pub some_not_none : (r : Reference) → Some r ≡ None → ⊥
some_not_none r is = cc

pub put_backs : (ps : List Place) (j : Key) (r s : Reference) → reference_under ps j ≡ Some r → GoesOn r s
    → Backs ps (put_at ps j s)
put_backs ps j r s is goes k h has =
    elim (cases_Bool (same_key k j)) [
      | inl here ↦
          let one : has.0 ≡ s =
          same_some has.0 s (sym has.1 ∙ (same_under ps j r is s k here).0) in
          let to : s.referent ≡ Some h = subst (λ (x : Reference). x.referent ≡ Some h) one has.2 in
          (r, (same_under ps j r is s k here).1, goes.refers h to)
      | inr other ↦ (has.0, sym (other_under ps j r is s k other) ∙ has.1, has.2)
    ]

pub touch_backs : (ps qs : List Place) → Touches ps qs → Backs ps qs
touch_backs ps qs (untouched is) = subst (Backs ps) (sym is) (λ k h has. has)
touch_backs ps qs (touched j r s was goes is) = subst (Backs ps) (sym is) (put_backs ps j r s was goes)

pub bury_none : (ps : List Place) (j : Key) (r : Reference) → reference_under ps j ≡ Some r → (k : Key)
    → same_key k j ≡ true → reference_under (buried ps j) k ≡ None
bury_none ps j r is k here = grind (arith, cases_eq, eqb-true, bury_here ps j r is)

pub new_is : (ps : List Place) (j : Key) → is_new_key ps j ≡ true → (s : Reference) (k : Key) → same_key k j ≡ true
    → reference_under (with_new ps j s) k ≡ Some s
new_is ps j new s k here = grind (arith, cases_eq, eqb-true, eq-eqb, new_here ps j new s)

pub new_backs : (marked : ℕ → Bool) (ps : List Place) (j : Key) → is_new_key ps j ≡ true → (s : Reference) (g : ℕ)
    → s.referent ≡ Some g → marked g ≡ true → (k : Key) (h : ℕ) → marked h ≡ false
    → HasReferent (with_new ps j s) k h → HasReferent ps k h
new_backs marked ps j new s g refers black k h white has =
    elim (cases_Bool (same_key k j)) [
      | inl here ↦
          let one : has.0 ≡ s = same_some has.0 s (sym has.1 ∙ new_is ps j new s k here) in
          let to : s.referent ≡ Some h = subst (λ (x : Reference). x.referent ≡ Some h) one has.2 in
          let same : g ≡ h = same_handle g h (sym refers ∙ to) in
          absurd (true≢false (sym black ∙ ap marked same ∙ white))
      | inr other ↦ (has.0, sym (new_under ps j new s k other) ∙ has.1, has.2)
    ]

pub bury_backs : (ps : List Place) (j : Key) (r : Reference) → reference_under ps j ≡ Some r → Backs ps (buried ps j)
bury_backs ps j r is k h has =
    elim (cases_Bool (same_key k j)) [
      | inl here ↦
          let none : reference_under (buried ps j) k ≡ None = bury_none ps j r is k here in
          absurd (some_not_none has.0 (sym has.1 ∙ none))
      | inr other ↦ (has.0, sym (bury_under ps j r is k other) ∙ has.1, has.2)
    ]

pub death_backs : (d : Desk) (j : Key) (o : Option Reference) → reference_under d.places j ≡ o
    → death_refusal d j ≡ None → Backs d.places (buried d.places j)
death_backs d j None is allowed = absurd (grind (arith, cases_eq))
death_backs d j (Some r) is allowed = bury_backs d.places j r is

module _ (marked : ℕ → Bool) (c : Crew) where
  -- what a row makes refers to what is marked, and else a reference refers to nothing new
  pub after_backs : (row : DeskRow) → IsAnswered marked c row → is_clearing c.desk.phase ≡ true
      → makes_marked marked row ≡ true → (k : Key) (h : ℕ) → marked h ≡ false
      → HasReferent (after_row marked c row).desk.places k h → HasReferent c.desk.places k h
  after_backs (Adds j owner strength referent queue x) is clears makes k h white has =
      new_backs marked c.desk.places j is.1 (made_reference c.desk owner strength referent queue) referent refl makes k
      h white
      (subst (λ ps. HasReferent ps k h)
      (made_key_places
      (record c.desk { places = with_new c.desk.places j (made_reference c.desk owner strength referent queue) }) j x)
      has)
  after_backs (Begins now u n) is clears makes k h white has = has
  after_backs (Finds i j x) is clears makes k h white has =
      subst (λ ps. HasReferent ps k h) (finding_places c.desk x) has
  after_backs EndsMarking is clears makes k h white has = has
  after_backs (TakesMade i) is clears makes k h white has = has
  after_backs (Looks i l q) is clears makes k h white has =
      touch_backs c.desk.places (after_row marked c (Looks i l q)).desk.places
      (look_touches marked c.desk (lists_at c i).found) k h has
  after_backs EndsClearing is clears makes k h white has = has
  after_backs (Gets j got) is clears makes k h white has =
      touch_backs c.desk.places (after_row marked c (Gets j got)).desk.places
      (get_touches marked c.desk j (at_desk c j) refl) k h has
  after_backs (Clears j) is clears makes k h white has =
      touch_backs c.desk.places (after_row marked c (Clears j)).desk.places
      (clear_touches marked c.desk j (at_desk c j) refl) k h has
  after_backs (Enqueues j x) is clears makes k h white has =
      touch_backs c.desk.places (after_row marked c (Enqueues j x)).desk.places
      (enqueue_touches marked c.desk j (at_desk c j) refl) k h has
  after_backs (Hands i x) is clears makes k h white has =
      touch_backs c.desk.places (after_row marked c (Hands i x)).desk.places
      (hand_touches c.desk (lists_at c i).pending) k h has
  after_backs (Spends j) is clears makes k h white has =
      touch_backs c.desk.places (after_row marked c (Spends j)).desk.places
      (spend_touches c.desk j (at_desk c j) refl) k h has
  after_backs (Buries j) is clears makes k h white has = death_backs c.desk j (at_desk c j) refl is k h has
  after_backs (Relocates to) is clears makes k h white has = absurd (grind (arith, cases_eq, clears, is))

-- ---- what is to be looked at

pub has_left : (js ks : List Key) (k : Key) → has_key js k ≡ true → has_key (js ++ ks) k ≡ true
has_left [] ks k has = absurd (true≢false (sym has))
has_left (j ∷ js) ks k has = grind (arith, cases_eq, has_left js ks k)

pub has_right : (js ks : List Key) (k : Key) → has_key ks k ≡ true → has_key (js ++ ks) k ≡ true
has_right [] ks k has = has
has_right (j ∷ js) ks k has = grind (arith, cases_eq, has_right js ks k has)

pub made_key_has : (d : Desk) (j : Key) (x : Found) (k : Key) → has_key d.made k ≡ true
    → has_key (with_made_key d j x).made k ≡ true
made_key_has d j (Keep h) k has = has
made_key_has d j Listed k has = has_left d.made (j ∷ []) k has
made_key_has d j Nothing k has = has

pub any_keeps : (fs : List FinderLists) (i : ℕ) (f : FinderLists) (k : Key)
    → (has_key (slice_index_or fs i (new_lists 0)).found k ≡ true → has_key f.found k ≡ true)
    → any_lists fs k ≡ true → any_lists (slice_set fs i f) k ≡ true
any_keeps [] i f k keeps any = any
any_keeps (g ∷ gs) zero f k keeps any = grind (arith, cases_eq, keeps)
any_keeps (g ∷ gs) (suc i) f k keeps any = grind (arith, cases_eq, any_keeps gs i f k keeps)

pub any_has : (fs : List FinderLists) (i : ℕ) (f : FinderLists) (k : Key) → i < length fs
    → has_key f.found k ≡ true → any_lists (slice_set fs i f) k ≡ true
any_has [] i f k there has = absurd (omega (arith, there))
any_has (g ∷ gs) zero f k there has = grind (arith, cases_eq, has)
any_has (g ∷ gs) (suc i) f k there has = grind (arith, cases_eq, any_has gs i f k (omega (arith, there)) has)

pub none_has : (ks : List Key) (k : Key) → length ks ≡ 0 → has_key ks k ≡ false
none_has [] k none = refl
none_has (j ∷ js) k none = absurd (omega (arith, none))

pub none_lists : (fs : List FinderLists) (k : Key) → all_found fs ≡ 0 → any_lists fs k ≡ false
none_lists [] k none = refl
none_lists (f ∷ fs) k none =
    let sum : length f.found + all_found fs ≡ 0 =
    sym (sum_by-cons (λ (g : FinderLists). length g.found) f fs) ∙ none in
    let first : length f.found ≡ 0 = omega (arith, sum) in
    let rest : any_lists fs k ≡ false = none_lists fs k (omega (arith, sum)) in
    grind (arith, cases_eq, none_has f.found k first, rest)

module _ (marked : ℕ → Bool) (c : Crew) (k : Key) where
  pub taking_listed : (i : ℕ) → i < length c.finders → is_listed c k ≡ true
      → is_listed (after_row marked c (TakesMade i)) k ≡ true
  taking_listed i there listed =
      grind (
        arith,
        cases_eq,
        any_has c.finders i (lists_taking (lists_at c i) c.desk) k there,
        has_right (lists_at c i).found c.desk.made k,
        any_keeps c.finders i (lists_taking (lists_at c i) c.desk) k (has_left (lists_at c i).found c.desk.made k),
      )

  pub changed_listed : (d : Desk) (i : ℕ) (f : FinderLists) → d.made ≡ c.desk.made
      → (has_key (lists_at c i).found k ≡ true → has_key f.found k ≡ true) → is_listed c k ≡ true
      → is_listed (with_finder c d i f) k ≡ true
  changed_listed d i f same keeps listed = grind (arith, cases_eq, same, any_keeps c.finders i f k keeps)

  pub same_listed : (d : Desk) → d.made ≡ c.desk.made → is_listed c k ≡ true
      → is_listed (record c { desk = d }) k ≡ true
  same_listed d same listed = grind (arith, cases_eq, same)

pub key_itself : (k : Key) → same_key k k ≡ true
key_itself k = grind (arith, eq-eqb)

-- the first that was found refers to nothing unmarked after the look
module _ (marked : ℕ → Bool) (d : Desk) (j : Key) (r : Reference) (is : reference_under d.places j ≡ Some r)
    (h : ℕ) where
  pub looked_by : (b : Bool) → is_dying marked r.referent ≡ b
      → HasReferent
      (if b
      then record d { places = put_at d.places j (record r { referent = None; is_pending = is_some r.queue }) }
      else d).places j h
      → marked h ≡ true
  looked_by true dies has =
      let gone : Reference = record r { referent = None; is_pending = is_some r.queue } in
      let one : has.0 ≡ gone =
      same_some has.0 gone (sym has.1 ∙ (same_under d.places j r is gone j (key_itself j)).0) in
      let to : None ≡ Some h = subst (λ (x : Reference). x.referent ≡ Some h) one has.2 in absurd (no_handle h to)
  looked_by false lives has =
      let one : has.0 ≡ r = same_some has.0 r (sym has.1 ∙ is) in
      let to : r.referent ≡ Some h = subst (λ (x : Reference). x.referent ≡ Some h) one has.2 in
      let alive : is_dying marked (Some h) ≡ false = subst (λ o. is_dying marked o ≡ false) to lives in
      grind (arith, cases_eq, alive)

pub looked_marked : (marked : ℕ → Bool) (d : Desk) (j : Key) (o : Option Reference) → reference_under d.places j ≡ o
    → (h : ℕ) → HasReferent (after_look_at marked d j o).places j h → marked h ≡ true
looked_marked marked d j None is h has = absurd (some_not_none has.0 (sym has.1 ∙ is))
looked_marked marked d j (Some r) is h has = looked_by marked d j r is h (is_dying marked r.referent) refl has

-- a look lists all but what it looked at
pub look_listed : (marked : ℕ → Bool) (c : Crew) (i : ℕ) (ks : List Key) → (lists_at c i).found ≡ ks → (k : Key)
    (h : ℕ) → marked h ≡ false → HasReferent (after_look marked c.desk ks).places k h → is_listed c k ≡ true
    → is_listed (with_finder c (after_look marked c.desk ks) i (lists_look marked c.desk (lists_at c i) ks)) k ≡ true
look_listed marked c i [] is k h white has listed =
    changed_listed marked c k c.desk i (lists_at c i) refl (λ was. was) listed
look_listed marked c i (j ∷ ks) is k h white has listed =
    elim (cases_Bool (same_key k j)) [
      | inl here ↦
          let black : marked h ≡ true =
          looked_marked marked (record c.desk { listed = c.desk.listed - 1 }) j (reference_under c.desk.places j) refl h
          (subst (λ x. HasReferent (after_look marked c.desk (j ∷ ks)).places x h) (key_is k j here) has) in
          absurd (true≢false (sym black ∙ white))
      | inr other ↦
          changed_listed marked c k (after_look marked c.desk (j ∷ ks)) i
          (lists_look marked c.desk (lists_at c i) (j ∷ ks)) (look_steady marked c.desk (j ∷ ks)).made
          (λ was.
          let first : has_key (j ∷ ks) k ≡ true = subst (λ js. has_key js k ≡ true) is was in
          let rest : has_key ks k ≡ true = grind (arith, cases_eq, first, other) in
          ap (λ js. has_key js k)
          (look_at_found marked (record (lists_at c i) { found = ks }) c.desk.cycle j (reference_under c.desk.places j))
          ∙ rest)
          listed
    ]

-- ---- by each row, once the mark has ended

module _ (marked : ℕ → Bool) (c : Crew) (late : is_marking c.desk.phase ≡ false) (k : Key) (h : ℕ)
    (white : marked h ≡ false) where
  pub after_lists : (row : DeskRow) → IsAnswered marked c row → HasReferent (after_row marked c row).desk.places k h
      → is_listed c k ≡ true → is_listed (after_row marked c row) k ≡ true
  after_lists (Adds j owner strength referent queue x) is has listed =
      grind (
        arith,
        cases_eq,
        listed,
        made_key_has
            (record c.desk { places = with_new c.desk.places j (made_reference c.desk owner strength referent queue) })
            j x k,
      )
  after_lists (Begins now u n) is has listed = listed
  after_lists (Finds i j x) is has listed = absurd (grind (arith, cases_eq, late, is.1))
  after_lists EndsMarking is has listed = listed
  after_lists (TakesMade i) is has listed = taking_listed marked c k i is.0 listed
  after_lists (Looks i l q) is has listed = look_listed marked c i (lists_at c i).found refl k h white has listed
  after_lists EndsClearing is has listed = listed
  after_lists (Gets j got) is has listed =
      same_listed marked c k (after_get marked c.desk j (at_desk c j)) (get_steady marked c.desk j (at_desk c j)).made
      listed
  after_lists (Clears j) is has listed =
      same_listed marked c k (after_clear marked c.desk j (at_desk c j))
      (clear_steady marked c.desk j (at_desk c j)).made listed
  after_lists (Enqueues j x) is has listed =
      same_listed marked c k (after_enqueue marked c.desk j (at_desk c j))
      (enqueue_steady marked c.desk j (at_desk c j)).made listed
  after_lists (Hands i x) is has listed =
      changed_listed marked c k (after_hand c.desk (lists_at c i).pending) i
      (lists_hand (lists_at c i) (lists_at c i).pending) (hand_steady marked c.desk (lists_at c i).pending).made
      (λ was. ap (λ js. has_key js k) (hand_found (lists_at c i) (lists_at c i).pending) ∙ was) listed
  after_lists (Spends j) is has listed =
      same_listed marked c k (after_spend c.desk j (at_desk c j)) (spend_steady marked c.desk j (at_desk c j)).made
      listed
  after_lists (Buries j) is has listed = listed
  after_lists (Relocates to) is has listed = listed

pub row_reported : (marked : ℕ → Bool) (c : Crew) (row : DeskRow) (e : Crew) → IsRowBy marked c row e
    → is_clearing c.desk.phase ≡ true → makes_marked marked row ≡ true → AreReported marked c → AreReported marked e
row_reported marked c row e leads clears makes reported =
    subst (AreReported marked) (sym leads.1)
    (λ k r h is refers white.
    let before : HasReferent c.desk.places k h =
    after_backs marked c row leads.0 clears makes k h white (r, is, refers) in
    after_lists marked c (clearing_late c.desk.phase clears) k h white row leads.0 (r, is, refers)
    (reported k before.0 h before.1 before.2 white))

-- ---- along the rows of a clearing

pub row_late : (marked : ℕ → Bool) (c : Crew) (row : DeskRow) (e : Crew) → IsRowBy marked c row e
    → is_marking c.desk.phase ≡ false → e.desk.cycle ≤ c.desk.cycle → is_marking e.desk.phase ≡ false
row_late marked c row e leads late within =
    subst (λ (x : Crew). is_marking x.desk.phase ≡ false) (sym leads.1)
    (after_late marked c row leads.0 late (subst (λ (x : Crew). x.desk.cycle ≤ c.desk.cycle) leads.1 within))

-- what clears at its end cleared from the first
pub run_clears : (marked : ℕ → Bool) (rows : List DeskRow) (c e : Crew) → IsRunBy marked c rows e
    → is_marking c.desk.phase ≡ false → e.desk.cycle ≤ c.desk.cycle → is_clearing e.desk.phase ≡ true
    → is_clearing c.desk.phase ≡ true
run_clears marked [] c e run late within clears =
    subst (λ (x : Crew). is_clearing x.desk.phase ≡ true) run clears
run_clears marked (row ∷ rest) c e run late within clears =
    let later : run.0.desk.cycle ≤ e.desk.cycle = run_cycle marked rest run.0 e run.2 in
    let first : c.desk.cycle ≤ run.0.desk.cycle = row_cycle marked c row run.0 run.1 in
    row_clears marked c row run.0 run.1 late
    (run_clears marked rest run.0 e run.2
    (row_late marked c row run.0 run.1 late (omega (arith, later, within))) (omega (arith, first, within)) clears)

pub run_reported : (marked : ℕ → Bool) (rows : List DeskRow) (c e : Crew) → IsRunBy marked c rows e
    → is_marking c.desk.phase ≡ false → e.desk.cycle ≤ c.desk.cycle → is_clearing e.desk.phase ≡ true
    → make_marked marked rows ≡ true → AreReported marked c → IsCounted c → AreReported marked e × IsCounted e
run_reported marked [] c e run late within clears makes reported counted =
    (subst (AreReported marked) (sym run) reported, subst IsCounted (sym run) counted)
run_reported marked (row ∷ rest) c e run late within clears makes reported counted =
    let later : run.0.desk.cycle ≤ e.desk.cycle = run_cycle marked rest run.0 e run.2 in
    let first : c.desk.cycle ≤ run.0.desk.cycle = row_cycle marked c row run.0 run.1 in
    run_reported marked rest run.0 e run.2
    (row_late marked c row run.0 run.1 late (omega (arith, later, within))) (omega (arith, first, within)) clears
    (grind (arith, cases_eq, makes))
    (row_reported marked c row run.0 run.1 (run_clears marked (row ∷ rest) c e run late within clears)
    (grind (arith, cases_eq, makes)) reported)
    (row_counted marked c row run.0 run.1 counted)

-- ---- at its end

pub ended_none : (d : Desk) → clear_end_refusal d ≡ None → (d.listed ≡ 0) × (length d.made ≡ 0)
ended_none d allowed =
    (grind (arith, nat_tests, cases_eq, eqb-true), grind (arith, nat_tests, cases_eq, eqb-true))

pub ended_clears : (d : Desk) → clear_end_refusal d ≡ None → is_clearing d.phase ≡ true
ended_clears d allowed = grind (arith, cases_eq)

pub none_listed : (e : Crew) → IsCounted e → clear_end_refusal e.desk ≡ None → (k : Key) → is_listed e k ≡ false
none_listed e counted allowed k =
    let none : (e.desk.listed ≡ 0) × (length e.desk.made ≡ 0) = ended_none e.desk allowed in
    let lists : any_lists e.finders k ≡ false = none_lists e.finders k (sym counted ∙ none.0) in
    let made : has_key e.desk.made k ≡ false = none_has e.desk.made k none.1 in
    grind (arith, lists, made)

pub white_absurd : (marked : ℕ → Bool) (e : Crew) → AreReported marked e → IsCounted e → clear_end_refusal e.desk ≡ None
    → (k : Key) (r : Reference) (h : ℕ) → at_desk e k ≡ Some r → r.referent ≡ Some h → marked h ≡ true
white_absurd marked e reported counted allowed k r h is refers =
    elim (cases_Bool (marked h)) [
      | inl black ↦ black
      | inr white ↦
          absurd (true≢false (sym (reported k r h is refers white) ∙ none_listed e counted allowed k))
    ]

pub ends_marked : (marked : ℕ → Bool) (span : ℕ) (workers : List ℕ) (before : List DeskRow) (c : Crew)
    → IsDeskRun (new_crew span workers) before c → is_clearing c.desk.phase ≡ true → AreReported marked c
    → (rows : List DeskRow) (e : Crew) → IsRunBy marked c rows e → e.desk.cycle ≡ c.desk.cycle
    → make_marked marked rows ≡ true → (f : Crew) → IsRowBy marked e EndsClearing f → (k : Key) (r : Reference) (h : ℕ)
    → at_desk f k ≡ Some r → r.referent ≡ Some h → marked h ≡ true
ends_marked marked span workers before c history clearing reported rows e run within makes f ends k r h is refers =
    let later : AreReported marked e × IsCounted e =
    run_reported marked rows c e run (clearing_late c.desk.phase clearing) (omega (arith, within))
    (ended_clears e.desk ends.0) makes reported
    (run_counted before (new_crew span workers) c history (none_counted workers)) in
    white_absurd marked e later.0 later.1 ends.0 k r h
    (subst (λ (x : Crew). at_desk x k ≡ Some r) ends.1 is) refers
