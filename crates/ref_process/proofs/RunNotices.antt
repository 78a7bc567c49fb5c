-- A reference has one notice at most.
use Rattle.std.proofs.Common.{arith, ◌≡◌, ◌≤◌, ◌+◌, ◌∷◌, [], refl, subst, sym, ℕ, Bool, true, false, List, Option}
use Rattle.std.proofs.Common.{Some, None, if◌then◌else◌, nat_lt, ◌==◌}
use Rattle.std.proofs.lemmas.Bool.{cases_eq, eqb-true}
use Rattle.std.proofs.lemmas.Bool.Decides.{nat_tests}
use Rattle.ref_base.specs.declared.cause.Cause.TheVariants.{Own}
use Rattle.ref_process.proofs.PlaceRounds.{Onward, same, changed, dead, made, moved, EachOnward, GoesOn, put_onward}
use Rattle.ref_process.proofs.PlaceRounds.{put_here}
use Rattle.ref_process.proofs.PlaceRounds.{under_held, under_round}
use Rattle.ref_process.proofs.RowChanges.{stands, after_onward, cut_on, told_on, on_trans}
use Rattle.ref_process.specs.DeskRows.{Crew, DeskRow, Adds, Begins, Finds, EndsMarking, TakesMade, Looks, EndsClearing}
use Rattle.ref_process.specs.DeskRows.{Gets, Clears, Enqueues, Hands, Spends, Buries, Relocates, IsAnswered, after_row}
use Rattle.ref_process.specs.DeskRows.{IsDeskRow}
use Rattle.ref_process.specs.DeskRows.{lists_at, at_desk, IsDeskRun}
use Rattle.ref_process.specs.Desks.{Desk}
use Rattle.ref_process.specs.Looks.{cut_in}
use Rattle.ref_process.specs.Notices.{notice_queue, notice_for, told_for, enqueued_of, after_enqueue, handed_for}
use Rattle.ref_process.specs.Notices.{handed_at, handed_first, after_hand, after_hand_at}
use Rattle.ref_process.specs.Places.{place_at, reference_under, put_at}
use Rattle.ref_process.specs.RowTallies.{same_key, one_of, one_if_handed, told_by, times_told}
use Rattle.ref_process.specs.declared.finder.Pending.{Pending}
use Rattle.ref_process.specs.declared.key.Key.{Key}
use Rattle.ref_process.specs.declared.place.Place.{Place}
use Rattle.ref_process.specs.declared.place.Reference.{Reference}

-- 1 where a notice of the key may be given yet, and else 0
abbrev pub untold_in : Option Reference → ℕ
untold_in None = 1
untold_in (Some r) = if r.is_told then 0 else 1

abbrev pub untold : Place → ℕ → ℕ
untold p round = if nat_lt round p.round then 0 else (if p.round == round then untold_in p.held else 1)

abbrev pub left_untold : List Place → Key → ℕ
left_untold ps k = untold (place_at ps k.place) k.round

-- the number never rises
pub untold_falls : (still : Bool) (p q : Place) → Onward still p q → (round : ℕ) → untold q round ≤ untold p round
untold_falls still p q (same is) round = grind (arith, is)
untold_falls still p q (changed r s was is rounds goes) round =
    grind (arith, nat_tests, cases_eq, was, is, rounds, goes.told)
untold_falls still p q (dead empty rounds) round = grind (arith, nat_tests, cases_eq, empty, rounds)
untold_falls still p q (made s was is rounds untold_yet) round =
    grind (arith, nat_tests, cases_eq, was, is, rounds, untold_yet)
untold_falls still p q (moved r s was is rounds queue told moves) round =
    grind (arith, nat_tests, cases_eq, was, is, rounds, told)

pub each_falls : (still : Bool) (ps qs : List Place) → EachOnward still ps qs → (k : Key)
    → left_untold qs k ≤ left_untold ps k
each_falls still ps qs onward k =
    untold_falls still (place_at ps k.place) (place_at qs k.place) (onward k.place) k.round

pub in_most : (o : Option Reference) → untold_in o ≤ 1
in_most None = grind arith
in_most (Some r) = grind (arith, cases_eq)

pub untold_most : (p : Place) (round : ℕ) → untold p round ≤ 1
untold_most p round = grind (arith, nat_tests, cases_eq, in_most p.held)

-- ---- a notice that is given

pub queue_untold : (r : Reference) (q : ℕ) → notice_queue r ≡ Some q → r.is_told ≡ false
queue_untold r q is = grind (arith, cases_eq)

module _ (ps : List Place) (j : Key) (r : Reference) (is : reference_under ps j ≡ Some r) (k : Key) where
  pub was_untold : same_key k j ≡ true → r.is_told ≡ false → left_untold ps k ≡ 1
  was_untold here untold_yet =
      grind (arith, nat_tests, cases_eq, eqb-true, under_held ps j r is, under_round ps j r is)

  pub is_told_then : (s : Reference) → same_key k j ≡ true → s.is_told ≡ true → left_untold (put_at ps j s) k ≡ 0
  is_told_then s here told = grind (arith, nat_tests, cases_eq, eqb-true, put_here ps j r is s)

  pub tells_once : (s : Reference) → GoesOn r s → r.is_told ≡ false → s.is_told ≡ true
      → (if same_key k j then 1 else 0) + left_untold (put_at ps j s) k ≤ left_untold ps k
  tells_once s goes untold_yet told =
      grind (
        arith,
        cases_eq,
        each_falls true ps (put_at ps j s) (put_onward ps j r is s goes) k,
        was_untold,
        is_told_then s,
      )

  pub tells_none : (s : Reference) → GoesOn r s → 0 + left_untold (put_at ps j s) k ≤ left_untold ps k
  tells_none s goes = grind (arith, each_falls true ps (put_at ps j s) (put_onward ps j r is s goes) k)

pub enqueue_with : (marked : ℕ → Bool) (d : Desk) (j : Key) (r : Reference) → reference_under d.places j ≡ Some r
    → (k : Key) (m : Option ℕ) → notice_queue r ≡ m
    → one_of k (notice_for j Own m) + left_untold (put_at d.places j (told_for (cut_in marked d.phase r) m)) k
    ≤ left_untold d.places k
enqueue_with marked d j r is k None has_queue =
    tells_none d.places j r is k (cut_in marked d.phase r) (cut_on marked d.phase r)
enqueue_with marked d j r is k (Some q) has_queue =
    tells_once d.places j r is k (told_for (cut_in marked d.phase r) (Some q))
    (on_trans r (cut_in marked d.phase r) (told_for (cut_in marked d.phase r) (Some q)) (cut_on marked d.phase r)
    (told_on (cut_in marked d.phase r) (Some q)))
    (queue_untold r q has_queue) refl

pub enqueue_tells : (marked : ℕ → Bool) (d : Desk) (j : Key) (o : Option Reference) → reference_under d.places j ≡ o
    → (k : Key)
    → one_of k (enqueued_of j o) + left_untold (after_enqueue marked d j o).places k ≤ left_untold d.places k
enqueue_tells marked d j None is k = grind arith
enqueue_tells marked d j (Some r) is k = enqueue_with marked d j r is k (notice_queue r) refl

pub handed_on : (r : Reference) (m : Option ℕ) → GoesOn r (record (told_for r m) { is_pending = false })
handed_on r None = record { queue = refl; told = λ is. is; refers = λ h is. is }
handed_on r (Some q) = record { queue = refl; told = λ is. refl; refers = λ h is. is }

pub hand_with : (d : Desk) (x : Pending) (w : ℕ) (r : Reference) → reference_under d.places x.key ≡ Some r → (k : Key)
    (m : Option ℕ) → notice_queue r ≡ m
    → one_if_handed k (handed_for x w m)
    + left_untold (put_at d.places x.key (record (told_for r m) { is_pending = false })) k
    ≤ left_untold d.places k
hand_with d x w r is k None has_queue =
    tells_none d.places x.key r is k (record (told_for r None) { is_pending = false }) (handed_on r None)
hand_with d x w r is k (Some q) has_queue =
    tells_once d.places x.key r is k (record (told_for r (Some q)) { is_pending = false }) (handed_on r (Some q))
    (queue_untold r q has_queue) refl

pub hand_at_tells : (d : Desk) (x : Pending) (w : ℕ) (o : Option Reference) → reference_under d.places x.key ≡ o
    → (k : Key)
    → one_if_handed k (handed_at x w o) + left_untold (after_hand_at d x.key o).places k ≤ left_untold d.places k
hand_at_tells d x w None is k = grind arith
hand_at_tells d x w (Some r) is k = hand_with d x w r is k (notice_queue r) refl

pub hand_tells : (d : Desk) (w : ℕ) (xs : List Pending) (k : Key)
    → one_if_handed k (handed_first d.places w xs) + left_untold (after_hand d xs).places k ≤ left_untold d.places k
hand_tells d w [] k = grind arith
hand_tells d w (x ∷ xs) k = hand_at_tells d x w (reference_under d.places x.key) refl k

-- ---- along a run

module _ (marked : ℕ → Bool) (c : Crew) (k : Key) where
  pub quiet : (row : DeskRow) → IsAnswered marked c row
      → 0 + left_untold (after_row marked c row).desk.places k ≤ left_untold c.desk.places k
  quiet row is =
      grind (
        arith,
        each_falls (stands row) c.desk.places (after_row marked c row).desk.places (after_onward marked c row is) k,
      )

  pub after_tells : (row : DeskRow) → IsAnswered marked c row
      → told_by k row + left_untold (after_row marked c row).desk.places k ≤ left_untold c.desk.places k
  after_tells (Adds j owner strength referent queue x) is = quiet (Adds j owner strength referent queue x) is
  after_tells (Begins now u n) is = quiet (Begins now u n) is
  after_tells (Finds i j x) is = quiet (Finds i j x) is
  after_tells EndsMarking is = quiet EndsMarking is
  after_tells (TakesMade i) is = quiet (TakesMade i) is
  after_tells (Looks i l q) is = quiet (Looks i l q) is
  after_tells EndsClearing is = quiet EndsClearing is
  after_tells (Gets j got) is = quiet (Gets j got) is
  after_tells (Clears j) is = quiet (Clears j) is
  after_tells (Enqueues j x) is =
      subst
      (λ y. one_of k y + left_untold (after_row marked c (Enqueues j x)).desk.places k ≤ left_untold c.desk.places k)
      (sym is.1) (enqueue_tells marked c.desk j (at_desk c j) refl k)
  after_tells (Hands i x) is =
      subst
      (λ y. one_if_handed k y + left_untold (after_row marked c (Hands i x)).desk.places k
      ≤ left_untold c.desk.places k)
      (sym is.1) (hand_tells c.desk (lists_at c i).worker (lists_at c i).pending k)
  after_tells (Spends j) is = quiet (Spends j) is
  after_tells (Buries j) is = quiet (Buries j) is
  after_tells (Relocates to) is = quiet (Relocates to) is

pub row_tells : (c : Crew) (row : DeskRow) (e : Crew) → IsDeskRow c row e → (k : Key)
    → told_by k row + left_untold e.desk.places k ≤ left_untold c.desk.places k
row_tells c row e leads k =
    subst (λ (x : Crew). told_by k row + left_untold x.desk.places k ≤ left_untold c.desk.places k) (sym leads.1.1)
    (after_tells leads.0 c k row leads.1.0)

pub run_tells : (rows : List DeskRow) (c e : Crew) → IsDeskRun c rows e → (k : Key)
    → times_told k rows + left_untold e.desk.places k ≤ left_untold c.desk.places k
run_tells [] c e run k = grind (arith, run)
run_tells (row ∷ rest) c e run k =
    grind (arith, row_tells c row run.0 run.1 k, run_tells rest run.0 e run.2 k)

pub told_once : (rows : List DeskRow) (c e : Crew) → IsDeskRun c rows e → (k : Key) → times_told k rows ≤ 1
told_once rows c e run k =
    grind (arith, run_tells rows c e run k, untold_most (place_at c.desk.places k.place) k.round)
