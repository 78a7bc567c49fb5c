-- What a row changes of the places.
use Rattle.std.proofs.Common.{arith, ◌≡◌, ◌-◌, ◌∷◌, [], refl, subst, sym, ℕ, Bool, true, false, List}
use Rattle.std.proofs.Common.{Option, Some, None, is_some, if◌then◌else◌, ◌&&◌}
use Rattle.std.proofs.lemmas.Bool.{cases_eq}
use Rattle.ref_base.specs.Paths.{is_soft}
use Rattle.ref_process.proofs.MovedPlaces.{moved_onward}
use Rattle.ref_process.proofs.PlaceRounds.{Touches, untouched, touched, touch_onward, EachOnward, GoesOn, each_same}
use Rattle.ref_process.proofs.PlaceRounds.{bury_onward, new_onward}
use Rattle.ref_process.specs.DeskRows.{Crew, DeskRow, Adds, Begins, Finds, EndsMarking, TakesMade, Looks, EndsClearing}
use Rattle.ref_process.specs.DeskRows.{Gets, Clears, Enqueues, Hands, Spends, Buries, Relocates, IsRowBy, IsAnswered}
use Rattle.ref_process.specs.DeskRows.{after_row}
use Rattle.ref_process.specs.DeskRows.{lists_at, at_desk}
use Rattle.ref_process.specs.Desks.{Desk, with_made_key, made_reference, after_finding, death_refusal}
use Rattle.ref_process.specs.Looks.{reads_in, is_dying, cut_in, after_get, after_clear, after_look, after_look_at}
use Rattle.ref_process.specs.Notices.{notice_queue, told_for, after_enqueue, after_hand, after_hand_at, after_spend}
use Rattle.ref_process.specs.Places.{reference_under, put_at, with_new, buried}
use Rattle.ref_process.specs.declared.finder.Pending.{Pending}
use Rattle.ref_process.specs.declared.found.Found.{Found}
use Rattle.ref_process.specs.declared.found.Found.TheVariants.{Keep, Listed, Nothing}
use Rattle.ref_process.specs.declared.key.Key.{Key}
use Rattle.ref_process.specs.declared.phase.Phase.{Phase}
use Rattle.ref_process.specs.declared.place.Place.{Place}
use Rattle.ref_process.specs.declared.place.Reference.{Reference}

-- ---- how a reference goes on

pub stamped_on : (r : Reference) (n : ℕ) → GoesOn r (record r { stamp = n })
stamped_on r n = record { queue = refl; told = λ is. is; refers = λ h is. is }

pub cut_on : (marked : ℕ → Bool) (phase : Phase) (r : Reference) → GoesOn r (cut_in marked phase r)
cut_on marked phase r = record {
  queue = grind (arith, cases_eq);
  told = λ is. grind (arith, cases_eq);
  refers = λ h is. grind (arith, cases_eq);
}

pub told_on : (r : Reference) (q : Option ℕ) → GoesOn r (told_for r q)
told_on r None = record { queue = refl; told = λ is. is; refers = λ h is. is }
told_on r (Some q) = record { queue = refl; told = λ is. refl; refers = λ h is. is }

pub on_trans : (r s t : Reference) → GoesOn r s → GoesOn s t → GoesOn r t
on_trans r s t first next = record {
  queue = grind (arith, first.queue, next.queue);
  told = λ is. next.told (first.told is);
  refers = λ h is. first.refers h (next.refers h is);
}

-- ---- how the places go on, by what a call does to the reference of a key

pub by_test : (b : Bool) (d e : Desk) (ps : List Place) → Touches ps d.places → Touches ps e.places
    → Touches ps (if b then d else e).places
by_test true d e ps then_so else_so = then_so
by_test false d e ps then_so else_so = else_so

pub get_touches : (marked : ℕ → Bool) (d : Desk) (k : Key) (o : Option Reference) → reference_under d.places k ≡ o
    → Touches d.places (after_get marked d k o).places
get_touches marked d k None is = untouched refl
get_touches marked d k (Some r) is =
    by_test (is_soft r.strength && is_some (reads_in marked d.phase r.referent))
    (record d { places = put_at d.places k (record r { stamp = d.policy.clock }) }) d d.places
    (touched k r (record r { stamp = d.policy.clock }) is (stamped_on r d.policy.clock) refl)
    (untouched refl)

pub clear_touches : (marked : ℕ → Bool) (d : Desk) (k : Key) (o : Option Reference) → reference_under d.places k ≡ o
    → Touches d.places (after_clear marked d k o).places
clear_touches marked d k None is = untouched refl
clear_touches marked d k (Some r) is = touched k r (cut_in marked d.phase r) is (cut_on marked d.phase r) refl

pub enqueue_touches : (marked : ℕ → Bool) (d : Desk) (k : Key) (o : Option Reference) → reference_under d.places k ≡ o
    → Touches d.places (after_enqueue marked d k o).places
enqueue_touches marked d k None is = untouched refl
enqueue_touches marked d k (Some r) is =
    touched k r (told_for (cut_in marked d.phase r) (notice_queue r)) is
    (on_trans r (cut_in marked d.phase r) (told_for (cut_in marked d.phase r) (notice_queue r))
    (cut_on marked d.phase r) (told_on (cut_in marked d.phase r) (notice_queue r))) refl

pub hand_at_touches : (d : Desk) (k : Key) (o : Option Reference) → reference_under d.places k ≡ o
    → Touches d.places (after_hand_at d k o).places
hand_at_touches d k None is = untouched refl
hand_at_touches d k (Some r) is =
    touched k r (record (told_for r (notice_queue r)) { is_pending = false }) is
    (on_trans r (told_for r (notice_queue r)) (record (told_for r (notice_queue r)) { is_pending = false })
    (told_on r (notice_queue r)) (record { queue = refl; told = λ is. is; refers = λ h is. is })) refl

pub hand_touches : (d : Desk) (xs : List Pending) → Touches d.places (after_hand d xs).places
hand_touches d [] = untouched refl
hand_touches d (x ∷ xs) = hand_at_touches d x.key (reference_under d.places x.key) refl

pub spend_touches : (d : Desk) (k : Key) (o : Option Reference) → reference_under d.places k ≡ o
    → Touches d.places (after_spend d k o).places
spend_touches d k None is = untouched refl
spend_touches d k (Some r) is =
    touched k r (record r { is_out = false }) is
    (record { queue = refl; told = λ is. is; refers = λ h is. is }) refl

pub look_at_touches : (marked : ℕ → Bool) (d : Desk) (k : Key) (o : Option Reference) → reference_under d.places k ≡ o
    → Touches d.places (after_look_at marked d k o).places
look_at_touches marked d k None is = untouched refl
look_at_touches marked d k (Some r) is =
    by_test (is_dying marked r.referent)
    (record d { places = put_at d.places k (record r { referent = None; is_pending = is_some r.queue }) }) d d.places
    (touched k r (record r { referent = None; is_pending = is_some r.queue }) is
    (record { queue = refl; told = λ is. is; refers = λ h is. grind arith }) refl)
    (untouched refl)

pub look_touches : (marked : ℕ → Bool) (d : Desk) (ks : List Key) → Touches d.places (after_look marked d ks).places
look_touches marked d [] = untouched refl
look_touches marked d (k ∷ ks) =
    look_at_touches marked (record d { listed = d.listed - 1 }) k (reference_under d.places k) refl

pub buries_onward : (d : Desk) (k : Key) (o : Option Reference) → reference_under d.places k ≡ o
    → death_refusal d k ≡ None → EachOnward true d.places (buried d.places k)
buries_onward d k None is allowed = grind (arith, cases_eq)
buries_onward d k (Some r) is allowed = bury_onward d.places k r is

pub made_key_places : (d : Desk) (k : Key) (x : Found) → (with_made_key d k x).places ≡ d.places
made_key_places d k (Keep h) = refl
made_key_places d k Listed = refl
made_key_places d k Nothing = refl

pub finding_places : (d : Desk) (x : Found) → (after_finding d x).places ≡ d.places
finding_places d (Keep h) = refl
finding_places d Listed = refl
finding_places d Nothing = refl

-- ---- and by each row

-- whether all objects stay where they are
abbrev pub stands : DeskRow → Bool
stands (Relocates to) = false
stands row = true

module _ (marked : ℕ → Bool) (c : Crew) where
  pub after_onward : (row : DeskRow) → IsAnswered marked c row
      → EachOnward (stands row) c.desk.places (after_row marked c row).desk.places
  after_onward (Adds k owner strength referent queue x) is =
      subst (EachOnward true c.desk.places)
      (sym (made_key_places
      (record c.desk {
        places = with_new c.desk.places k (made_reference c.desk owner strength referent queue);
      }) k x))
      (new_onward c.desk.places k is.1 (made_reference c.desk owner strength referent queue) refl)
  after_onward (Begins now _ n) is = each_same c.desk.places
  after_onward (Finds i k x) is =
      subst (EachOnward true c.desk.places) (sym (finding_places c.desk x)) (each_same c.desk.places)
  after_onward EndsMarking is = each_same c.desk.places
  after_onward (TakesMade i) is = each_same c.desk.places
  after_onward (Looks i l q) is =
      touch_onward c.desk.places (after_row marked c (Looks i l q)).desk.places
      (look_touches marked c.desk (lists_at c i).found)
  after_onward EndsClearing is = each_same c.desk.places
  after_onward (Gets k got) is =
      touch_onward c.desk.places (after_row marked c (Gets k got)).desk.places
      (get_touches marked c.desk k (at_desk c k) refl)
  after_onward (Clears k) is =
      touch_onward c.desk.places (after_row marked c (Clears k)).desk.places
      (clear_touches marked c.desk k (at_desk c k) refl)
  after_onward (Enqueues k x) is =
      touch_onward c.desk.places (after_row marked c (Enqueues k x)).desk.places
      (enqueue_touches marked c.desk k (at_desk c k) refl)
  after_onward (Hands i x) is =
      touch_onward c.desk.places (after_row marked c (Hands i x)).desk.places
      (hand_touches c.desk (lists_at c i).pending)
  after_onward (Spends k) is =
      touch_onward c.desk.places (after_row marked c (Spends k)).desk.places
      (spend_touches c.desk k (at_desk c k) refl)
  after_onward (Buries k) is = buries_onward c.desk k (reference_under c.desk.places k) refl is
  after_onward (Relocates to) is = moved_onward to c.desk.places

  pub row_onward : (row : DeskRow) (e : Crew) → IsRowBy marked c row e
      → EachOnward (stands row) c.desk.places e.desk.places
  row_onward row e leads =
      subst (λ (x : Crew). EachOnward (stands row) c.desk.places x.desk.places) (sym leads.1)
      (after_onward row leads.0)
