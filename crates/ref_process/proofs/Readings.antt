-- What a reference reads as, as rows go by.
use Rattle.std.proofs.Common.{arith, ◌≡◌, ◌+◌, ◌∷◌, [], refl, subst, sym, ap, ℕ, Bool, true, false, List, Option}
use Rattle.std.proofs.Common.{Some, None, is_some, if◌then◌else◌, ◌&&◌, ◌-◌, inl, inr}
use Rattle.std.proofs.lemmas.Bool.{cases_eq, cases_Bool, eqb-true, eq-eqb}
use Rattle.std.proofs.lemmas.List.{get_or-set_other}
use Rattle.ref_base.specs.Paths.{is_soft}
use Rattle.ref_process.proofs.PlaceRounds.{put_here, under_held, under_round, bury_here, new_here, new_other, new_empty}
use Rattle.ref_process.specs.CycleRows.{may_change, RefersUnmarked}
use Rattle.ref_process.specs.DeskRows.{Crew, DeskRow, Adds, Begins, Finds, EndsMarking, TakesMade, Looks, EndsClearing}
use Rattle.ref_process.specs.DeskRows.{Gets, Clears, Enqueues, Hands, Spends, Buries, Relocates, IsAnswered, after_row}
use Rattle.ref_process.specs.DeskRows.{IsRowBy}
use Rattle.ref_process.specs.DeskRows.{lists_at, at_desk}
use Rattle.ref_process.specs.Desks.{Desk, after_finding, with_made_key, made_reference, look_refusal, cycle_refusal}
use Rattle.ref_process.specs.Desks.{death_refusal}
use Rattle.ref_process.specs.Looks.{reads, reads_in, is_dying, cut_in, after_get, after_clear, after_look}
use Rattle.ref_process.specs.Looks.{after_look_at}
use Rattle.ref_process.specs.Looks.{look_first, look_at, look_through}
use Rattle.ref_process.specs.Notices.{notice_queue, told_for, after_enqueue, after_hand, after_hand_at, after_spend}
use Rattle.ref_process.specs.Places.{place_at, reference_under, put_at, with_new, buried, is_new_key, new_place}
use Rattle.ref_process.specs.RowTallies.{same_key}
use Rattle.ref_process.specs.declared.finder.Pending.{Pending}
use Rattle.ref_process.specs.declared.found.Found.{Found}
use Rattle.ref_process.specs.declared.found.Found.TheVariants.{Keep, Listed, Nothing}
use Rattle.ref_process.specs.declared.key.Key.{Key}
use Rattle.ref_process.specs.declared.looked.Looked.TheVariants.{Cleared}
use Rattle.ref_process.specs.declared.phase.Phase.{Phase}
use Rattle.ref_process.specs.declared.phase.Phase.TheVariants.{Idle, Marking, Clearing}
use Rattle.ref_process.specs.declared.place.Place.{Place}
use Rattle.ref_process.specs.declared.place.Reference.{Reference}

-- ---- the reference of a key, as that of a key is changed

module _ (ps : List Place) (j : Key) (r : Reference) (is : reference_under ps j ≡ Some r) (s : Reference)
    (k : Key) where
  pub same_under : same_key k j ≡ true
      → (reference_under (put_at ps j s) k ≡ Some s) × (reference_under ps k ≡ Some r)
  same_under here = (
    grind (arith, cases_eq, eqb-true, eq-eqb, put_here ps j r is s),
    grind (arith, cases_eq, eqb-true, eq-eqb, under_held ps j r is, under_round ps j r is),
  )

  pub other_under : same_key k j ≡ false → reference_under (put_at ps j s) k ≡ reference_under ps k
  other_under other =
      elim (cases_eq k.place j.place) [
        | inl here ↦
            grind (arith, cases_eq, eqb-true, eq-eqb, here, put_here ps j r is s, under_round ps j r is)
        | inr away ↦
            let same_place : place_at (put_at ps j s) k.place ≡ place_at ps k.place =
            get_or-set_other ps j.place k.place (record { round = j.round; held = Some s }) new_place away in
            grind (arith, same_place)
      ]

pub bury_under : (ps : List Place) (j : Key) (r : Reference) → reference_under ps j ≡ Some r → (k : Key)
    → same_key k j ≡ false → reference_under (buried ps j) k ≡ reference_under ps k
bury_under ps j r is k other =
    elim (cases_eq k.place j.place) [
      | inl here ↦ grind (arith, cases_eq, eqb-true, eq-eqb, here, bury_here ps j r is, under_round ps j r is)
      | inr away ↦
          let same_place : place_at (buried ps j) k.place ≡ place_at ps k.place =
          get_or-set_other ps j.place k.place (record { round = j.round + 1; held = None }) new_place away in
          grind (arith, same_place)
    ]

pub new_under : (ps : List Place) (j : Key) → is_new_key ps j ≡ true → (s : Reference) (k : Key)
    → same_key k j ≡ false → reference_under (with_new ps j s) k ≡ reference_under ps k
new_under ps j new s k other =
    elim (cases_eq k.place j.place) [
      | inl here ↦ grind (arith, cases_eq, eqb-true, eq-eqb, here, new_here ps j new s, new_empty ps j new)
      | inr away ↦ grind (arith, new_other ps j new s k.place away)
    ]

pub reads_as : (marked : ℕ → Bool) (d e : Desk) (phase : Phase) → d.phase ≡ phase → e.phase ≡ phase
    → (o p : Option Reference) → o ≡ p → reads marked e o ≡ reads marked d p
reads_as marked d e phase at_d at_e o None is = grind (arith, is)
reads_as marked d e phase at_d at_e o (Some r) is = grind (arith, is, at_d, at_e)

-- what keys read as stays, where that of j's reference does
pub reads_put : (marked : ℕ → Bool) (phase : Phase) (ps : List Place) (j : Key) (r : Reference)
    → reference_under ps j ≡ Some r → (s : Reference)
    → reads_in marked phase s.referent ≡ reads_in marked phase r.referent → (d e : Desk) → d.phase ≡ phase
    → e.phase ≡ phase → (k : Key)
    → reads marked e (reference_under (put_at ps j s) k) ≡ reads marked d (reference_under ps k)
reads_put marked phase ps j r is s same d e at_d at_e k =
    elim (cases_Bool (same_key k j)) [
      | inl here ↦
          grind (arith, (same_under ps j r is s k here).0, (same_under ps j r is s k here).1, same, at_d, at_e)
      | inr other ↦ reads_as marked d e phase at_d at_e (reference_under (put_at ps j s) k) (reference_under ps k)
          (other_under ps j r is s k other)
    ]

-- ---- by what a call does to the reference of a key

abbrev pub ReadsStay : (ℕ → Bool) → Desk → Desk → Key → Type 0
ReadsStay marked d e k = reads marked e (reference_under e.places k) ≡ reads marked d (reference_under d.places k)

module _ (marked : ℕ → Bool) (d : Desk) (j : Key) where
  pub stay_by : (b : Bool) (e f : Desk) (k : Key) → ReadsStay marked d e k → ReadsStay marked d f k
      → ReadsStay marked d (if b then e else f) k
  stay_by true e f k then_so else_so = then_so
  stay_by false e f k then_so else_so = else_so

  pub stay_where : (b : Bool) (e f : Desk) (k : Key) → (b ≡ true → ReadsStay marked d e k) → ReadsStay marked d f k
      → ReadsStay marked d (if b then e else f) k
  stay_where true e f k then_so else_so = then_so refl
  stay_where false e f k then_so else_so = else_so

  pub get_reads : (o : Option Reference) → reference_under d.places j ≡ o → (k : Key)
      → ReadsStay marked d (after_get marked d j o) k
  get_reads None is k = refl
  get_reads (Some r) is k =
      stay_by (is_soft r.strength && is_some (reads_in marked d.phase r.referent))
      (record d { places = put_at d.places j (record r { stamp = d.policy.clock }) }) d k
      (reads_put marked d.phase d.places j r is (record r { stamp = d.policy.clock }) refl d
      (record d { places = put_at d.places j (record r { stamp = d.policy.clock }) }) refl refl k)
      refl

  pub spend_reads : (o : Option Reference) → reference_under d.places j ≡ o → (k : Key)
      → ReadsStay marked d (after_spend d j o) k
  spend_reads None is k = refl
  spend_reads (Some r) is k =
      reads_put marked d.phase d.places j r is (record r { is_out = false }) refl d
      (record d { places = put_at d.places j (record r { is_out = false }) }) refl refl k

  pub hand_with_reads : (r : Reference) → reference_under d.places j ≡ Some r → (m : Option ℕ) (k : Key)
      → ReadsStay marked d (record d { places = put_at d.places j (record (told_for r m) { is_pending = false }) }) k
  hand_with_reads r is None k =
      reads_put marked d.phase d.places j r is (record r { is_pending = false }) refl d
      (record d { places = put_at d.places j (record r { is_pending = false }) }) refl refl k
  hand_with_reads r is (Some q) k =
      reads_put marked d.phase d.places j r is (record (told_for r (Some q)) { is_pending = false }) refl d
      (record d { places = put_at d.places j (record (told_for r (Some q)) { is_pending = false }) }) refl refl k

  pub hand_reads : (o : Option Reference) → reference_under d.places j ≡ o → (k : Key)
      → ReadsStay marked d (after_hand_at d j o) k
  hand_reads None is k = refl
  hand_reads (Some r) is k = hand_with_reads r is (notice_queue r) k

  -- in Clearing, a look clears what reads as null already
  pub dying_reads : (h : Option ℕ) → is_dying marked h ≡ true → reads_in marked Clearing h ≡ None
  dying_reads None dies = grind arith
  dying_reads (Some h) dies = grind (arith, cases_eq)

  pub look_reads : d.phase ≡ Clearing → (o : Option Reference) → reference_under d.places j ≡ o → (k : Key)
      → ReadsStay marked d (after_look_at marked d j o) k
  look_reads clearing None is k = refl
  look_reads clearing (Some r) is k =
      stay_where (is_dying marked r.referent)
      (record d { places = put_at d.places j (record r { referent = None; is_pending = is_some r.queue }) }) d k
      (λ dies.
      reads_put marked Clearing d.places j r is (record r { referent = None; is_pending = is_some r.queue })
      (sym (dying_reads r.referent dies)) d
      (record d { places = put_at d.places j (record r { referent = None; is_pending = is_some r.queue }) }) clearing
      clearing k)
      refl

  pub clear_reads : (o : Option Reference) → reference_under d.places j ≡ o → (k : Key) → same_key k j ≡ false
      → ReadsStay marked d (after_clear marked d j o) k
  clear_reads None is k other = refl
  clear_reads (Some r) is k other =
      ap (reads marked d) (other_under d.places j r is (cut_in marked d.phase r) k other)

  pub enqueue_reads : (o : Option Reference) → reference_under d.places j ≡ o → (k : Key) → same_key k j ≡ false
      → ReadsStay marked d (after_enqueue marked d j o) k
  enqueue_reads None is k other = refl
  enqueue_reads (Some r) is k other =
      ap (reads marked d)
      (other_under d.places j r is (told_for (cut_in marked d.phase r) (notice_queue r)) k other)

  pub bury_reads : (o : Option Reference) → reference_under d.places j ≡ o → death_refusal d j ≡ None → (k : Key)
      → same_key k j ≡ false → ReadsStay marked d (record d { places = buried d.places j }) k
  bury_reads None is allowed k other = absurd (grind (arith, cases_eq))
  bury_reads (Some r) is allowed k other = ap (reads marked d) (bury_under d.places j r is k other)

  pub new_reads : is_new_key d.places j ≡ true → (s : Reference) (k : Key) → same_key k j ≡ false
      → ReadsStay marked d (record d { places = with_new d.places j s }) k
  new_reads new s k other = ap (reads marked d) (new_under d.places j new s k other)

pub look_first_reads : (marked : ℕ → Bool) (d : Desk) → d.phase ≡ Clearing → (ks : List Key) (k : Key)
    → ReadsStay marked d (after_look marked d ks) k
look_first_reads marked d clearing [] k = refl
look_first_reads marked d clearing (j ∷ ks) k =
    look_reads marked (record d { listed = d.listed - 1 }) j clearing (reference_under d.places j) refl k

pub hand_first_reads : (marked : ℕ → Bool) (d : Desk) (xs : List Pending) (k : Key)
    → ReadsStay marked d (after_hand d xs) k
hand_first_reads marked d [] k = refl
hand_first_reads marked d (x ∷ xs) k = hand_reads marked d x.key (reference_under d.places x.key) refl k

pub finding_reads : (marked : ℕ → Bool) (d : Desk) (x : Found) (k : Key) → ReadsStay marked d (after_finding d x) k
finding_reads marked d (Keep h) k = refl
finding_reads marked d Listed k = refl
finding_reads marked d Nothing k = refl

pub made_key_reads : (marked : ℕ → Bool) (d e : Desk) (j : Key) (x : Found) (k : Key) → ReadsStay marked d e k
    → ReadsStay marked d (with_made_key e j x) k
made_key_reads marked d e j (Keep h) k stays = stays
made_key_reads marked d e j Listed k stays = stays
made_key_reads marked d e j Nothing k stays = stays

pub begun_reads : (marked : ℕ → Bool) (phase : Phase) (d e : Desk) → d.phase ≡ phase → e.phase ≡ Marking → (now : ℕ)
    → cycle_refusal d now ≡ None → (o : Option Reference) → reads marked e o ≡ reads marked d o
begun_reads marked Idle d e at_d at_e now allowed None = refl
begun_reads marked Idle d e at_d at_e now allowed (Some r) = grind (arith, at_d, at_e)
begun_reads marked Marking d e at_d at_e now allowed o = absurd (grind (arith, at_d))
begun_reads marked Clearing d e at_d at_e now allowed o = absurd (grind (arith, at_d))

pub clearing_by : (phase : Phase) (d : Desk) → d.phase ≡ phase → look_refusal d ≡ None → d.phase ≡ Clearing
clearing_by Idle d is allowed = absurd (grind (arith, is))
clearing_by Marking d is allowed = absurd (grind (arith, is))
clearing_by Clearing d is allowed = is

-- ---- by each row

module _ (marked : ℕ → Bool) (c : Crew) (k : Key) where
  pub after_reads : (row : DeskRow) → IsAnswered marked c row → may_change k row ≡ false
      → ReadsStay marked c.desk (after_row marked c row).desk k
  after_reads (Adds j owner strength referent queue x) is other =
      made_key_reads marked c.desk
      (record c.desk { places = with_new c.desk.places j (made_reference c.desk owner strength referent queue) }) j x k
      (new_reads marked c.desk j is.1 (made_reference c.desk owner strength referent queue) k other)
  after_reads (Begins now u n) is other =
      begun_reads marked c.desk.phase c.desk (after_row marked c (Begins now u n)).desk refl refl now is.0 (at_desk c k)
  after_reads (Finds i j x) is other = finding_reads marked c.desk x k
  after_reads EndsMarking is other = absurd (grind (arith, other))
  after_reads (TakesMade i) is other = refl
  after_reads (Looks i l q) is other =
      look_first_reads marked c.desk (clearing_by c.desk.phase c.desk refl is.1) (lists_at c i).found k
  after_reads EndsClearing is other = absurd (grind (arith, other))
  after_reads (Gets j got) is other = get_reads marked c.desk j (at_desk c j) refl k
  after_reads (Clears j) is other = clear_reads marked c.desk j (at_desk c j) refl k other
  after_reads (Enqueues j x) is other = enqueue_reads marked c.desk j (at_desk c j) refl k other
  after_reads (Hands i x) is other = hand_first_reads marked c.desk (lists_at c i).pending k
  after_reads (Spends j) is other = spend_reads marked c.desk j (at_desk c j) refl k
  after_reads (Buries j) is other = bury_reads marked c.desk j (at_desk c j) refl is k other
  after_reads (Relocates to) is other = absurd (grind (arith, other))

  pub row_reads : (row : DeskRow) (e : Crew) → IsRowBy marked c row e → may_change k row ≡ false
      → reads marked e.desk (at_desk e k) ≡ reads marked c.desk (at_desk c k)
  row_reads row e leads other =
      subst (λ (x : Crew). reads marked x.desk (at_desk x k) ≡ reads marked c.desk (at_desk c k)) (sym leads.1)
      (after_reads row leads.0 other)

-- ---- what a look clears

pub through_unmarked : (marked : ℕ → Bool) (j k : Key) (h : Option ℕ) → look_through marked j h ≡ Cleared k
    → (j ≡ k) × ((n : ℕ) × (h ≡ Some n) × (marked n ≡ false))
through_unmarked marked j k None is = absurd (grind arith)
through_unmarked marked j k (Some h) is = (grind (arith, cases_eq), (h, refl, grind (arith, cases_eq)))

pub at_unmarked : (marked : ℕ → Bool) (j k : Key) (o : Option Reference) → look_at marked j o ≡ Cleared k
    → (j ≡ k) × RefersUnmarked marked o
at_unmarked marked j k None is = absurd (grind arith)
at_unmarked marked j k (Some r) is = through_unmarked marked j k r.referent is

pub first_unmarked : (marked : ℕ → Bool) (ps : List Place) (ks : List Key) (k : Key)
    → look_first marked ps ks ≡ Some (Cleared k) → RefersUnmarked marked (reference_under ps k)
first_unmarked marked ps [] k is = absurd (grind arith)
first_unmarked marked ps (j ∷ ks) k is =
    let parts : (j ≡ k) × RefersUnmarked marked (reference_under ps j) =
    at_unmarked marked j k (reference_under ps j) (grind arith) in
    subst (λ i. RefersUnmarked marked (reference_under ps i)) parts.0 parts.1
