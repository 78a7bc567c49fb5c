-- The states that fit what a collector of any profile answered so far in a mark: how each row takes their set on, from
-- each of them to one, and to each from one of them. What fits is as for the abstract collector; when an object is left
-- the profile tells.
use Rattle.ref_base.proofs.Common.{◌≡◌, ℕ, ◌+◌, Bool, true, false, Option, Some, None, refl, sym}
use Rattle.ref_base.proofs.Common.{ap, ◌∙◌, subst, inl, inr, cases_Bool, false≢true, Heap}
use Rattle.ref_base.proofs.Common.{slot_at, got, with_slot, State, Loads, Gets, GivesAnewIf, IsBut}
use Rattle.ref_base.proofs.Common.{ticked, on_heap, field_in, referent_got, reference_of, is_in}
use Rattle.ref_base.specs.Refusals.{plain_refusal}
use Rattle.ref_base.proofs.PlainRows.{plain_row}
use Rattle.ref_base.proofs.Fitting.{may, saying, Fits, begun_to, loaded_to, got_to, with_scanned, refused_end}
use Rattle.ref_base.proofs.Fitting.{scan_none_fits, fits_scan_none, grey_fits}
use Rattle.ref_base.specs.declared.fault.Fault.TheVariants.{GreyLeft}
use Rattle.ref_base.specs.declared.phase.Phase.TheVariants.{Marking}
use Rattle.ref_base.specs.declared.urgency.Urgency.{Urgency}
use Rattle.ref_base.specs.declared.reply.Reply.{Reply}
use Rattle.ref_base.specs.declared.reply.Reply.TheVariants as replies
use Rattle.ref_base.specs.declared.plain_step.PlainStep.TheVariants as plain
use Rattle.ref_judge.specs.ProfiledRows.{IsLeftAs, IsButAs, says_anew, AcceptsAnew, ScansAs, IsRowAs}
use Rattle.ref_judge.specs.ProfiledRows.{EndsMarkAs}
pub use Rattle.ref_judge.specs.Standing.{DecidesAs}
use Rattle.ref_judge.specs.declared.profile.Profile.{Profile}
use Rattle.ref_judge.proofs.UnchangedRows.{common_row, row_common, plain_accepted_as, accepted_plain_as}

-- a moment more of a mark, and what is said, in either order
pub ticked_as_said : (a : State) (left : Bool) → ticked (saying a left) ≡ saying (ticked a) left
ticked_as_said a left =
    elim (cases_Bool (is_in a.world.phase Marking)) [ inl marks ↦ simp marks refl | inr other ↦ simp other refl ]

-- null is no object
null_names_none : {n : ℕ} → replies.Object n ≡ replies.Null → ⊥
null_names_none is = absurd cc

module _ (p : Profile) where
  -- ---- a state that says anew whether an object is left

  -- what is said anew fits, where a bit tells whether an object is left
  anew_fits_as : (c b : State) (is_left : Bool) → DecidesAs p is_left c → IsButAs p c b → Fits c is_left true b
  anew_fits_as c b is_left decides but = (but.0, but.1, said but.0 but.1 but.2)
    where
      said : (left : Bool) → b ≡ saying c left → (left ≡ true → (n : ℕ) × IsLeftAs p b n)
          → may left is_left true ≡ true
      said false same one = refl
      said true same one =
          let left = one refl in decides.1 left.0 (subst (λ (s : State). IsLeftAs p s left.0) same left.1)

  -- and what fits may be said anew
  fits_anew_as : (c b : State) (is_left : Bool) → DecidesAs p is_left c → Fits c is_left true b → IsButAs p c b
  fits_anew_as c b is_left decides fits = (fits.0, fits.1, one fits.0 fits.1 fits.2)
    where
      one : (left : Bool) → b ≡ saying c left → may left is_left true ≡ true → left ≡ true
          → (n : ℕ) × IsLeftAs p b n
      one true same ok said =
          let left = decides.0 ok in (left.0, subst (λ (s : State). IsLeftAs p s left.0) (sym same) left.1)
      one false same ok said = absurd (false≢true said)

  -- what the abstract collector says anew, a collector of the profile may say otherwise
  but_again : (first c b : State) → IsBut first c → IsButAs p c b → IsButAs p first b
  but_again first c b once again =
      (again.0, again.1 ∙ ap (λ (s : State). saying s again.0) once.1, again.2)

  -- and it may say so all that it says, where the abstract collector says that none is left
  but_twice : (first b : State) → IsButAs p first b
      → IsBut first (saying first false) × IsButAs p (saying first false) b
  but_twice first b but = ((false, refl, λ no. absurd (false≢true no)), but)

  -- ---- a mark begins

  -- a begin leads each state that fits to one that says anew
  pub begin_but_as : (a s t : State) (now : ℕ) (how : Urgency) (reply : Reply) (may_left may_none : Bool)
      → plain_refusal a (plain.Begin now how) ≡ None → Fits a may_left may_none s
      → IsRowAs p s (plain_row (plain.Begin now how) reply) t
      → (reply ≡ replies.Cycle (a.world.cycle + 1)) × IsButAs p (ticked (begun_to a now how)) t
  begin_but_as a s t now how reply may_left may_none none fits h =
      let begin = plain.Begin now how in
      let (c, row, but) =
      plain_accepted_as p (saying a fits.0) t begin reply none
      (subst (λ (u : State). IsRowAs p u (plain_row begin reply) t) fits.1 h) in
      (row.0, but_again (ticked (begun_to a now how)) c t row.1 but)

  -- so to one that fits
  pub begin_fits_as : (a s t : State) (now : ℕ) (how : Urgency) (reply : Reply) (may_left may_none is_left : Bool)
      → plain_refusal a (plain.Begin now how) ≡ None → DecidesAs p is_left (ticked (begun_to a now how))
      → Fits a may_left may_none s → IsRowAs p s (plain_row (plain.Begin now how) reply) t
      → (reply ≡ replies.Cycle (a.world.cycle + 1)) × Fits (ticked (begun_to a now how)) is_left true t
  begin_fits_as a s t now how reply may_left may_none is_left none decides fits h =
      let but = begin_but_as a s t now how reply may_left may_none none fits h in
      (but.0, anew_fits_as (ticked (begun_to a now how)) t is_left decides but.1)

  -- and each state that fits afterwards may follow each that fitted
  pub fits_begun_as : (a s t : State) (now : ℕ) (how : Urgency) (may_left may_none is_left : Bool)
      → plain_refusal a (plain.Begin now how) ≡ None → DecidesAs p is_left (ticked (begun_to a now how))
      → Fits a may_left may_none s → Fits (ticked (begun_to a now how)) is_left true t
      → IsRowAs p s (plain_row (plain.Begin now how) (replies.Cycle (a.world.cycle + 1))) t
  fits_begun_as a s t now how may_left may_none is_left none decides old fits =
      let begin = plain.Begin now how in
      let reply = replies.Cycle (a.world.cycle + 1) in
      let first : State = ticked (begun_to a now how) in
      let twice = but_twice first t (fits_anew_as first t is_left decides fits) in
      subst (λ (u : State). IsRowAs p u (plain_row begin reply) t) (sym old.1)
      (accepted_plain_as p (saying a old.0) t begin reply none
      (saying first false, (refl, twice.0), twice.1))

-- ---- a load or a get that answers an object in a mark

-- the answer names the object
names_it : (a c : State) (to : ℕ → Heap) (marks : Bool) (n k : ℕ) → marks ≡ true
    → GivesAnewIf marks (replies.Object k) (on_heap a (to k)) (replies.Object n) c
    → (Some k ≡ Some n) × IsBut (ticked (on_heap a (to n))) c
names_it a c to false n k is row = absurd (false≢true is)
names_it a c to true n k is row =
    let told : replies.Object n ≡ replies.Object k = row.0 in
    let same : k ≡ n = cc in
    (ap (λ (j : ℕ). Some j) same, subst (λ (j : ℕ). IsBut (ticked (on_heap a (to j))) c) same row.1)

-- an answer that names it says anew whether an object is left
names_anew : (a c : State) (h : Heap) (marks : Bool) (n : ℕ) → marks ≡ true → IsBut (ticked (on_heap a h)) c
    → GivesAnewIf marks (replies.Object n) (on_heap a h) (replies.Object n) c
names_anew a c h false n is but = absurd (false≢true is)
names_anew a c h true n is but = (refl, but)

module _ (p : Profile) (a s t : State) (may_left may_none is_left : Bool) (marks : is_in a.world.phase Marking ≡ true)
    (old : Fits a may_left may_none s) where
  -- the state that fits
  abbrev said : State
  said = saying a old.0

  loads_anew : (m d r i n : ℕ) → says_anew said (plain.Load m d r i) (replies.Object n) ≡ true
  loads_anew m d r i n = simp marks refl

  gets_anew : (m d r n : ℕ) → says_anew said (plain.Get m d r) (replies.Object n) ≡ true
  gets_anew m d r n = simp marks refl

  -- such a step leaves a state that says anew
  leaves_but : (h : Heap) (c : State) → IsBut (ticked (on_heap said h)) c → IsButAs p c t
      → IsButAs p (ticked (on_heap a h)) t
  leaves_but h c once but =
      subst (λ (u : State). IsButAs p u t) (ticked_as_said (on_heap a h) old.0)
      (but_again p (ticked (on_heap said h)) c t once but)

  -- and each state that fits may be left
  fit_is_left : (h : Heap) → DecidesAs p is_left (ticked (on_heap a h)) → Fits (ticked (on_heap a h)) is_left true t
      → IsButAs p (ticked (on_heap said h)) t
  fit_is_left h decides fits =
      subst (λ (u : State). IsButAs p u t) (sym (ticked_as_said (on_heap a h) old.0))
      (fits_anew_as p (ticked (on_heap a h)) t is_left decides fits)

  -- a load leads each state that fits to one that says anew
  pub load_but_as : (m d r i n : ℕ) → plain_refusal a (plain.Load m d r i) ≡ None
      → IsRowAs p s (plain_row (plain.Load m d r i) (replies.Object n)) t
      → (field_in a.world.heap (slot_at a.world.heap m r) i ≡ Some n) × IsButAs p (ticked (loaded_to a m d n)) t
  load_but_as m d r i n none h =
      let load = plain.Load m d r i in
      let reply = replies.Object n in
      let (c, row, but) =
      subst (λ flag. AcceptsAnew p flag said load reply t) (loads_anew m d r i n)
      (plain_accepted_as p said t load reply none (subst (λ (u : State). IsRowAs p u (plain_row load reply) t) old.1 h))
      in
      of_value c but (field_in a.world.heap (slot_at a.world.heap m r) i) row
    where
      of_value : (c : State) → IsButAs p c t → (value : Option ℕ) → Loads said m d value (replies.Object n) c
          → (value ≡ Some n) × IsButAs p (ticked (loaded_to a m d n)) t
      of_value c but None row = absurd (null_names_none row.0)
      of_value c but (Some k) row =
          let named =
          names_it said c (λ j. with_slot a.world.heap m d (Some j)) (is_in a.world.phase Marking) n k marks row in
          (named.0, leaves_but (with_slot a.world.heap m d (Some n)) c named.1 but)

  -- so to one that fits
  pub load_fits_as : (m d r i n : ℕ) → plain_refusal a (plain.Load m d r i) ≡ None
      → DecidesAs p is_left (ticked (loaded_to a m d n))
      → IsRowAs p s (plain_row (plain.Load m d r i) (replies.Object n)) t
      → (field_in a.world.heap (slot_at a.world.heap m r) i ≡ Some n) × Fits (ticked (loaded_to a m d n)) is_left true t
  load_fits_as m d r i n none decides h =
      let but = load_but_as m d r i n none h in
      (but.0, anew_fits_as p (ticked (loaded_to a m d n)) t is_left decides but.1)

  -- and each state that fits afterwards may follow each that fitted
  pub fits_loaded_as : (m d r i n : ℕ) → plain_refusal a (plain.Load m d r i) ≡ None
      → DecidesAs p is_left (ticked (loaded_to a m d n))
      → field_in a.world.heap (slot_at a.world.heap m r) i ≡ Some n
      → Fits (ticked (loaded_to a m d n)) is_left true t
      → IsRowAs p s (plain_row (plain.Load m d r i) (replies.Object n)) t
  fits_loaded_as m d r i n none decides is fits =
      let load = plain.Load m d r i in
      let reply = replies.Object n in
      let h = with_slot a.world.heap m d (Some n) in
      let first : State = ticked (on_heap said h) in
      let twice = but_twice p first t (fit_is_left h decides fits) in
      subst (λ (u : State). IsRowAs p u (plain_row load reply) t) (sym old.1)
      (accepted_plain_as p said t load reply none
      (subst (λ flag. AcceptsAnew p flag said load reply t) (sym (loads_anew m d r i n)) (
        saying first false,
        subst (λ (value : Option ℕ). Loads said m d value reply (saying first false)) (sym is)
            (names_anew said (saying first false) h (is_in a.world.phase Marking) n marks twice.0),
        twice.1,
      )))

  -- a get leads each state that fits to one that says anew
  pub get_but_as : (m d r n : ℕ) → plain_refusal a (plain.Get m d r) ≡ None
      → IsRowAs p s (plain_row (plain.Get m d r) (replies.Object n)) t
      → (referent_got (reference_of a.world.heap (slot_at a.world.heap m r)) ≡ Some n)
      × IsButAs p (ticked (got_to a m d r n)) t
  get_but_as m d r n none h =
      let get = plain.Get m d r in
      let reply = replies.Object n in
      let (c, row, but) =
      subst (λ flag. AcceptsAnew p flag said get reply t) (gets_anew m d r n)
      (plain_accepted_as p said t get reply none (subst (λ (u : State). IsRowAs p u (plain_row get reply) t) old.1 h))
      in
      of_value c but (referent_got (reference_of a.world.heap (slot_at a.world.heap m r))) row
    where
      of_value : (c : State) → IsButAs p c t → (value : Option ℕ) → Gets said m d r value (replies.Object n) c
          → (value ≡ Some n) × IsButAs p (ticked (got_to a m d r n)) t
      of_value c but None row = absurd (null_names_none row.0)
      of_value c but (Some k) row =
          let named =
          names_it said c (λ j. got a.world.heap m d r (Some j)) (is_in a.world.phase Marking) n k marks row in
          (named.0, leaves_but (got a.world.heap m d r (Some n)) c named.1 but)

  -- so to one that fits
  pub get_fits_as : (m d r n : ℕ) → plain_refusal a (plain.Get m d r) ≡ None
      → DecidesAs p is_left (ticked (got_to a m d r n)) → IsRowAs p s (plain_row (plain.Get m d r) (replies.Object n)) t
      → (referent_got (reference_of a.world.heap (slot_at a.world.heap m r)) ≡ Some n)
      × Fits (ticked (got_to a m d r n)) is_left true t
  get_fits_as m d r n none decides h =
      let but = get_but_as m d r n none h in
      (but.0, anew_fits_as p (ticked (got_to a m d r n)) t is_left decides but.1)

  -- and each state that fits afterwards may follow each that fitted
  pub fits_got_as : (m d r n : ℕ) → plain_refusal a (plain.Get m d r) ≡ None
      → DecidesAs p is_left (ticked (got_to a m d r n))
      → referent_got (reference_of a.world.heap (slot_at a.world.heap m r)) ≡ Some n
      → Fits (ticked (got_to a m d r n)) is_left true t
      → IsRowAs p s (plain_row (plain.Get m d r) (replies.Object n)) t
  fits_got_as m d r n none decides is fits =
      let get = plain.Get m d r in
      let reply = replies.Object n in
      let h = got a.world.heap m d r (Some n) in
      let first : State = ticked (on_heap said h) in
      let twice = but_twice p first t (fit_is_left h decides fits) in
      subst (λ (u : State). IsRowAs p u (plain_row get reply) t) (sym old.1)
      (accepted_plain_as p said t get reply none
      (subst (λ flag. AcceptsAnew p flag said get reply t) (sym (gets_anew m d r n)) (
        saying first false,
        subst (λ (value : Option ℕ). Gets said m d r value reply (saying first false)) (sym is)
            (names_anew said (saying first false) h (is_in a.world.phase Marking) n marks twice.0),
        twice.1,
      )))

-- ---- scans

module _ (p : Profile) (a t : State) (k : ℕ) (may_left may_none : Bool) (none : plain_refusal a (plain.Scan k) ≡ None)
  where
    -- a worker tells that nothing is left to scan
    pub scan_none_fits_as : (s : State) → Fits a may_left may_none s
        → IsRowAs p s (plain_row (plain.Scan k) replies.Nothing) t → (may_none ≡ true) × Fits (ticked a) false true t
    scan_none_fits_as s fits h =
        scan_none_fits a t k may_left may_none none s fits
        (common_row p s t (plain_row (plain.Scan k) replies.Nothing) (inr refl) h)

    -- and each that fits afterwards comes from one that fitted
    pub fits_scan_none_as : may_none ≡ true → Fits (ticked a) false true t
        → (s : State) × Fits a may_left may_none s × IsRowAs p s (plain_row (plain.Scan k) replies.Nothing) t
    fits_scan_none_as ok fits =
        let from = fits_scan_none a t k may_left may_none none ok fits in
        (from.0, from.1, row_common p from.0 t (plain_row (plain.Scan k) replies.Nothing) (inr refl) from.2)

    -- a worker scans an object that is left
    pub scan_fits_as : (s : State) (n : ℕ) (is_left : Bool) → DecidesAs p is_left (ticked (with_scanned a k n))
        → Fits a may_left may_none s → IsRowAs p s (plain_row (plain.Scan k) (replies.Scanned n)) t
        → (may_left ≡ true) × IsLeftAs p a n × Fits (ticked (with_scanned a k n)) is_left true t
    scan_fits_as s n is_left decides fits h = of_value fits.0 fits.1 fits.2
      where
        of_value : (left : Bool) → s ≡ saying a left → may left may_left may_none ≡ true
            → (may_left ≡ true) × IsLeftAs p a n × Fits (ticked (with_scanned a k n)) is_left true t
        of_value left same ok =
            let row : ScansAs p (saying a left) k (replies.Scanned n) t =
            plain_accepted_as p (saying a left) t (plain.Scan k) (replies.Scanned n) none
            (subst (λ (u : State). IsRowAs p u (plain_row (plain.Scan k) (replies.Scanned n)) t) same h) in (
              subst (λ (said : Bool). may said may_left may_none ≡ true) row.0 ok,
              row.1,
              anew_fits_as p (ticked (with_scanned a k n)) t is_left decides
                  (subst (λ (u : State). IsButAs p u t) (ticked_as_said (with_scanned a k n) left) row.2),
            )

    -- and each that fits afterwards comes from one that fitted
    pub fits_scan_as : (n : ℕ) (is_left : Bool) → DecidesAs p is_left (ticked (with_scanned a k n)) → may_left ≡ true
        → IsLeftAs p a n → Fits (ticked (with_scanned a k n)) is_left true t
        → (s : State) × Fits a may_left may_none s × IsRowAs p s (plain_row (plain.Scan k) (replies.Scanned n)) t
    fits_scan_as n is_left decides ok left fits = (
      saying a true,
      (true, refl, ok),
      accepted_plain_as p (saying a true) t (plain.Scan k) (replies.Scanned n) none (
        refl,
        left,
        subst (λ (u : State). IsButAs p u t) (sym (ticked_as_said (with_scanned a k n) true))
            (fits_anew_as p (ticked (with_scanned a k n)) t is_left decides fits),
      ),
    )

-- ---- an end of the mark that is refused, since an object is left

module _ (p : Profile) (a b : State) (may_left may_none : Bool) (marks : is_in a.world.phase Marking ≡ true) where
  -- each state that fits says that an object is left, and stays
  pub grey_fits_as : (s : State) → Fits a may_left may_none s → IsRowAs p s refused_end b
      → (may_left ≡ true) × Fits a true false b
  grey_fits_as s fits row = of_value fits.0 fits.1 fits.2
    where
      of_value : (left : Bool) → s ≡ saying a left → may left may_left may_none ≡ true
          → (may_left ≡ true) × Fits a true false b
      of_value true same ok =
          let there : IsRowAs p (saying a true) refused_end b =
          subst (λ (u : State). IsRowAs p u refused_end b) same row in
          grey_fits a (saying a true) b may_left may_none marks (true, refl, ok)
          (common_row p (saying a true) b refused_end (inl (GreyLeft, simp marks refl)) there)
      of_value false same ok =
          let there : IsRowAs p (saying a false) refused_end b =
          subst (λ (u : State). IsRowAs p u refused_end b) same row in
          let ends : EndsMarkAs p (saying a false) (replies.Refused GreyLeft) b =
          plain_accepted_as p (saying a false) b plain.EndMark (replies.Refused GreyLeft) (simp marks refl) there in
          absurd (no_count ends.answer)
        where
          no_count : {n : ℕ} → replies.Refused GreyLeft ≡ replies.Doomed n → ⊥
          no_count is = absurd cc

  -- and each that fits afterwards comes from one that fitted
  pub fits_grey_as : may_left ≡ true → Fits a true false b
      → (s : State) × Fits a may_left may_none s × IsRowAs p s refused_end b
  fits_grey_as ok fits = of_value fits.0 fits.1 fits.2
    where
      of_value : (left : Bool) → b ≡ saying a left → may left true false ≡ true
          → (s : State) × Fits a may_left may_none s × IsRowAs p s refused_end b
      of_value false same may_be = absurd (false≢true may_be)
      of_value true same may_be =
          let s : State = saying a true in
          let row : IsRowAs p s refused_end s = simp marks (refl, refl) in
          (s, (true, refl, ok), subst (λ (u : State). IsRowAs p s refused_end u) (sym same) row)
