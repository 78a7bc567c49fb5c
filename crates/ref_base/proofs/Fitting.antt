-- The states that fit what was answered so far in a mark: they differ in whether it is said that an object is left. How
-- each row takes their set on, from each of them to one, and to each from one of them.
use Rattle.ref_base.proofs.Common.{◌≡◌, ℕ, ◌+◌, Bool, true, false, List, ◌∷◌, [], ◌++◌, Option, Some, None, refl, sym}
use Rattle.ref_base.proofs.Common.{ap, ◌∙◌, subst, inl, inr, cases_Bool, true≢false, false≢true, slice_set, Heap}
use Rattle.ref_base.proofs.Common.{slot_at, got, with_slot, begun, State, Scans, Loads, Gets, GivesAnewIf, IsBut}
use Rattle.ref_base.proofs.Common.{IsLeft, IsRow, ticked, on_heap, begun_state, field_in, referent_got, reference_of}
use Rattle.ref_base.proofs.Common.{list_at, is_in, Marking, GreyLeft, Accepts, Reply, Row, Urgency}
use Rattle.ref_base.specs.CollectorRows.{free_cells}
use Rattle.ref_base.specs.Refusals.{plain_refusal}
use Rattle.ref_base.proofs.FreeRows.{KeepsRow, freed, like, free_row, free_kept, keeps_like}
use Rattle.ref_base.proofs.PlainRows.{plain_row, plain_accepted, accepted_plain}
use Rattle.ref_base.specs.declared.step.Step.TheVariants as steps
use Rattle.ref_base.specs.declared.plain_step.PlainStep.TheVariants as plain
use Rattle.ref_base.specs.declared.reply.Reply.TheVariants as replies

-- which of two bits tells whether this value may be said
abbrev pub may : Bool → Bool → Bool → Bool
may true may_left may_none = may_left
may false may_left may_none = may_none

-- the state that says so whether an object is left
abbrev pub saying : State → Bool → State
saying a left = record a { left = left }

-- the states that fit: this one, with what may be said of what is left
abbrev pub Fits : State → Bool → Bool → State → Type 0
Fits a may_left may_none b = (left : Bool) × (b ≡ saying a left) × (may left may_left may_none ≡ true)

-- the bit tells whether an object is left
abbrev pub Decides : Bool → State → Type 0
Decides is_left a = (is_left ≡ true → (n : ℕ) × IsLeft a n) × ((n : ℕ) → IsLeft a n → is_left ≡ true)

-- a moment more of a mark, and what is said, in either order
ticked_saying : (a : State) (left : Bool) → ticked (saying a left) ≡ saying (ticked a) left
ticked_saying a left =
    elim (cases_Bool (is_in a.world.phase Marking)) [ inl marks ↦ simp marks refl | inr other ↦ simp other refl ]

-- ---- rows that say nothing anew

-- a row that keeps what is free leads each state that fits to one that fits
pub fits_on : (a s t : State) (may_left may_none : Bool) (row : Row) → KeepsRow a row → Fits a may_left may_none s
    → IsRow s row t → (b : State) × IsRow a row b × Fits b may_left may_none t
fits_on a s t may_left may_none row keeps fits h =
    let all = free_row a t fits.0 a.found row keeps (subst (λ (u : State). IsRow u row t) fits.1 h) in (
      like t a,
      all.0,
      (fits.0, ap (λ (f : Bool × List (List ℕ)). freed t f.0 f.1) all.1, fits.2),
    )

-- and each that fits afterwards comes from one that fitted
pub fits_back : (a b t : State) (may_left may_none : Bool) (row : Row) → KeepsRow a row → IsRow a row b
    → Fits b may_left may_none t → (s : State) × Fits a may_left may_none s × IsRow s row t
fits_back a b t may_left may_none row keeps h fits =
    let s : State = saying a fits.0 in
    let all = free_row s b a.left a.found row (keeps_like a b fits.0 a.found row keeps) h in
    let found : b.found ≡ a.found = ap (λ x. x.1) (free_kept a b row keeps h) in (
      s,
      (fits.0, refl, fits.2),
      subst (λ (u : State). IsRow s row u)
          (sym (fits.1 ∙ ap (λ (fs : List (List ℕ)). freed b fits.0 fs) found)) all.0,
    )

-- ---- a state that says anew whether an object is left

-- what is said anew fits, where a bit tells whether an object is left
anew_fits : (c b : State) (is_left : Bool) → Decides is_left c → IsBut c b → Fits c is_left true b
anew_fits c b is_left decides but = (but.0, but.1, said but.0 but.1 but.2)
  where
    said : (left : Bool) → b ≡ saying c left → (left ≡ true → (n : ℕ) × IsLeft b n) → may left is_left true ≡ true
    said false same one = refl
    said true same one =
        let left = one refl in decides.1 left.0 (subst (λ (s : State). IsLeft s left.0) same left.1)

-- and what fits may be said anew
fits_anew : (c b : State) (is_left : Bool) → Decides is_left c → Fits c is_left true b → IsBut c b
fits_anew c b is_left decides fits = (fits.0, fits.1, one fits.0 fits.1 fits.2)
  where
    one : (left : Bool) → b ≡ saying c left → may left is_left true ≡ true → left ≡ true → (n : ℕ) × IsLeft b n
    one true same ok said =
        let left = decides.0 ok in (left.0, subst (λ (s : State). IsLeft s left.0) (sym same) left.1)
    one false same ok said = absurd (false≢true said)

-- ---- a mark begins

-- the state in which a mark has begun
abbrev pub begun_to : State → ℕ → Urgency → State
begun_to a now how = begun_state a (begun a.world (free_cells a.world.heap) now how (a.world.cycle + 1))

-- a begin leads each state that fits to one that fits
pub begin_fits : (a s t : State) (now : ℕ) (how : Urgency) (reply : Reply) (may_left may_none is_left : Bool)
    → plain_refusal a (plain.Begin now how) ≡ None → Decides is_left (ticked (begun_to a now how))
    → Fits a may_left may_none s → IsRow s (plain_row (plain.Begin now how) reply) t
    → (reply ≡ replies.Cycle (a.world.cycle + 1)) × Fits (ticked (begun_to a now how)) is_left true t
begin_fits a s t now how reply may_left may_none is_left none decides fits h =
    let row =
    plain_accepted (saying a fits.0) t (plain.Begin now how) reply none
    (subst (λ (u : State). IsRow u (plain_row (plain.Begin now how) reply) t) fits.1 h) in
    (row.0, anew_fits (ticked (begun_to a now how)) t is_left decides row.1)

-- and each state that fits afterwards may follow each that fitted
pub fits_begun : (a s t : State) (now : ℕ) (how : Urgency) (may_left may_none is_left : Bool)
    → plain_refusal a (plain.Begin now how) ≡ None → Decides is_left (ticked (begun_to a now how))
    → Fits a may_left may_none s → Fits (ticked (begun_to a now how)) is_left true t
    → IsRow s (plain_row (plain.Begin now how) (replies.Cycle (a.world.cycle + 1))) t
fits_begun a s t now how may_left may_none is_left none decides old fits =
    subst (λ (u : State). IsRow u (plain_row (plain.Begin now how) (replies.Cycle (a.world.cycle + 1))) t) (sym old.1)
    (accepted_plain (saying a old.0) t (plain.Begin now how) (replies.Cycle (a.world.cycle + 1)) none
    (refl, fits_anew (ticked (begun_to a now how)) t is_left decides fits))

-- ---- a load or a get that answers an object in a mark

-- the answer names the object, and the state fits
anew_gives : (a t : State) (to : ℕ → Heap) (marks : Bool) (n k : ℕ) (left is_left : Bool) → marks ≡ true
    → Decides is_left (ticked (on_heap a (to n)))
    → GivesAnewIf marks (replies.Object k) (on_heap (saying a left) (to k)) (replies.Object n) t
    → (Some k ≡ Some n) × Fits (ticked (on_heap a (to n))) is_left true t
anew_gives a t to false n k left is_left is decides row = absurd (false≢true is)
anew_gives a t to true n k left is_left is decides row =
    let told : replies.Object n ≡ replies.Object k = row.0 in
    let same : k ≡ n = cc in
    let but : IsBut (ticked (on_heap (saying a left) (to n))) t =
    subst (λ (j : ℕ). IsBut (ticked (on_heap (saying a left) (to j))) t) same row.1 in (
      ap (λ (j : ℕ). Some j) same,
      anew_fits (ticked (on_heap a (to n))) t is_left decides
          (subst (λ (c : State). IsBut c t) (ticked_saying (on_heap a (to n)) left) but),
    )

-- and each state that fits may be left
gives_anew : (a t : State) (h : Heap) (marks : Bool) (n : ℕ) (left is_left : Bool) → marks ≡ true
    → Decides is_left (ticked (on_heap a h)) → Fits (ticked (on_heap a h)) is_left true t
    → GivesAnewIf marks (replies.Object n) (on_heap (saying a left) h) (replies.Object n) t
gives_anew a t h false n left is_left is decides fits = absurd (false≢true is)
gives_anew a t h true n left is_left is decides fits = (
  refl,
  subst (λ (c : State). IsBut c t) (sym (ticked_saying (on_heap a h) left))
      (fits_anew (ticked (on_heap a h)) t is_left decides fits),
)

no_null : {n : ℕ} → replies.Object n ≡ replies.Null → ⊥
no_null is = absurd cc

-- the state in which the object was loaded, and that in which it was got
abbrev pub loaded_to : State → ℕ → ℕ → ℕ → State
loaded_to a m d n = on_heap a (with_slot a.world.heap m d (Some n))

abbrev pub got_to : State → ℕ → ℕ → ℕ → ℕ → State
got_to a m d s n = on_heap a (got a.world.heap m d s (Some n))

module _ (a s t : State) (may_left may_none is_left : Bool) (marks : is_in a.world.phase Marking ≡ true)
    (old : Fits a may_left may_none s) where
  -- a load leads each state that fits to one that fits
  pub load_fits : (m d r i n : ℕ) → plain_refusal a (plain.Load m d r i) ≡ None
      → Decides is_left (ticked (loaded_to a m d n))
      → IsRow s (plain_row (plain.Load m d r i) (replies.Object n)) t
      → (field_in a.world.heap (slot_at a.world.heap m r) i ≡ Some n) × Fits (ticked (loaded_to a m d n)) is_left true t
  load_fits m d r i n none decides h =
      of_value (field_in a.world.heap (slot_at a.world.heap m r) i)
      (plain_accepted (saying a old.0) t (plain.Load m d r i) (replies.Object n) none
      (subst (λ (u : State). IsRow u (plain_row (plain.Load m d r i) (replies.Object n)) t) old.1 h))
    where
      of_value : (value : Option ℕ) → Loads (saying a old.0) m d value (replies.Object n) t
          → (value ≡ Some n) × Fits (ticked (loaded_to a m d n)) is_left true t
      of_value None row = absurd (no_null row.0)
      of_value (Some k) row =
          anew_gives a t (λ j. with_slot a.world.heap m d (Some j)) (is_in a.world.phase Marking) n k old.0 is_left
          marks decides row

  -- and each state that fits afterwards may follow each that fitted
  pub fits_loaded : (m d r i n : ℕ) → plain_refusal a (plain.Load m d r i) ≡ None
      → Decides is_left (ticked (loaded_to a m d n)) → field_in a.world.heap (slot_at a.world.heap m r) i ≡ Some n
      → Fits (ticked (loaded_to a m d n)) is_left true t → IsRow s (plain_row (plain.Load m d r i) (replies.Object n)) t
  fits_loaded m d r i n none decides is fits =
      subst (λ (u : State). IsRow u (plain_row (plain.Load m d r i) (replies.Object n)) t) (sym old.1)
      (accepted_plain (saying a old.0) t (plain.Load m d r i) (replies.Object n) none
      (subst (λ (value : Option ℕ). Loads (saying a old.0) m d value (replies.Object n) t) (sym is)
      (gives_anew a t (with_slot a.world.heap m d (Some n)) (is_in a.world.phase Marking) n old.0 is_left marks decides
      fits)))

  -- a get leads each state that fits to one that fits
  pub get_fits : (m d r n : ℕ) → plain_refusal a (plain.Get m d r) ≡ None
      → Decides is_left (ticked (got_to a m d r n)) → IsRow s (plain_row (plain.Get m d r) (replies.Object n)) t
      → (referent_got (reference_of a.world.heap (slot_at a.world.heap m r)) ≡ Some n)
      × Fits (ticked (got_to a m d r n)) is_left true t
  get_fits m d r n none decides h =
      of_value (referent_got (reference_of a.world.heap (slot_at a.world.heap m r)))
      (plain_accepted (saying a old.0) t (plain.Get m d r) (replies.Object n) none
      (subst (λ (u : State). IsRow u (plain_row (plain.Get m d r) (replies.Object n)) t) old.1 h))
    where
      of_value : (value : Option ℕ) → Gets (saying a old.0) m d r value (replies.Object n) t
          → (value ≡ Some n) × Fits (ticked (got_to a m d r n)) is_left true t
      of_value None row = absurd (no_null row.0)
      of_value (Some k) row =
          anew_gives a t (λ j. got a.world.heap m d r (Some j)) (is_in a.world.phase Marking) n k old.0 is_left marks
          decides row

  -- and each state that fits afterwards may follow each that fitted
  pub fits_got : (m d r n : ℕ) → plain_refusal a (plain.Get m d r) ≡ None
      → Decides is_left (ticked (got_to a m d r n))
      → referent_got (reference_of a.world.heap (slot_at a.world.heap m r)) ≡ Some n
      → Fits (ticked (got_to a m d r n)) is_left true t → IsRow s (plain_row (plain.Get m d r) (replies.Object n)) t
  fits_got m d r n none decides is fits =
      subst (λ (u : State). IsRow u (plain_row (plain.Get m d r) (replies.Object n)) t) (sym old.1)
      (accepted_plain (saying a old.0) t (plain.Get m d r) (replies.Object n) none
      (subst (λ (value : Option ℕ). Gets (saying a old.0) m d r value (replies.Object n) t) (sym is)
      (gives_anew a t (got a.world.heap m d r (Some n)) (is_in a.world.phase Marking) n old.0 is_left marks decides
      fits)))

-- ---- a scan that answered none

-- each state that fits is led to one that fits
none_fits : (a s b : State) (k : ℕ) (may_left may_none : Bool) → Fits a may_left may_none s
    → Scans s k replies.Nothing b → (may_none ≡ true) × Fits (ticked a) false true b
none_fits a s b k may_left may_none fits row = of_value fits.0 fits.1 fits.2
  where
    of_value : (left : Bool) → s ≡ saying a left → may left may_left may_none ≡ true
        → (may_none ≡ true) × Fits (ticked a) false true b
    of_value true same ok = absurd (true≢false (sym (ap (λ (t : State). t.left) same) ∙ row.0))
    of_value false same ok = (ok, (false, row.1.1 ∙ ap ticked same ∙ ticked_saying a false, refl))

-- and each that fits afterwards comes from one that fitted
fits_none : (a b : State) (k : ℕ) (may_left may_none : Bool) → may_none ≡ true → Fits (ticked a) false true b
    → (s : State) × Fits a may_left may_none s × Scans s k replies.Nothing b
fits_none a b k may_left may_none ok fits = of_value fits.0 fits.1 fits.2
  where
    of_value : (left : Bool) → b ≡ saying (ticked a) left → may left false true ≡ true
        → (s : State) × Fits a may_left may_none s × Scans s k replies.Nothing b
    of_value true same said = absurd (false≢true said)
    of_value false same said =
        (saying a false, (false, refl, ok), (refl, (refl, same ∙ sym (ticked_saying a false))))

-- ---- a scan that answered an object

-- the state in which the worker has scanned the object
abbrev pub with_scanned : State → ℕ → ℕ → State
with_scanned a k n = record a { scanned = slice_set a.scanned k (list_at a.scanned k ++ n ∷ []) }

-- each state that fits is led to one that fits
scanned_fits : (a s b : State) (k n : ℕ) (may_left may_none is_left : Bool)
    → Decides is_left (ticked (with_scanned a k n)) → Fits a may_left may_none s → Scans s k (replies.Scanned n) b
    → (may_left ≡ true) × IsLeft a n × Fits (ticked (with_scanned a k n)) is_left true b
scanned_fits a s b k n may_left may_none is_left decides fits row = of_value fits.0 fits.1 fits.2
  where
    of_value : (left : Bool) → s ≡ saying a left → may left may_left may_none ≡ true
        → (may_left ≡ true) × IsLeft a n × Fits (ticked (with_scanned a k n)) is_left true b
    of_value false same ok = absurd (false≢true (sym (ap (λ (t : State). t.left) same) ∙ row.0))
    of_value true same ok =
        let but : IsBut (ticked (with_scanned (saying a true) k n)) b =
        subst (λ (t : State). IsBut (ticked (with_scanned t k n)) b) same row.2 in
        let less : IsBut (saying (ticked (with_scanned a k n)) true) b =
        subst (λ (t : State). IsBut t b) (ticked_saying (with_scanned a k n) true) but in (
          ok,
          subst (λ (t : State). IsLeft t n) same row.1,
          anew_fits (ticked (with_scanned a k n)) b is_left decides less,
        )

-- and each that fits afterwards comes from one that fitted
fits_scanned : (a b : State) (k n : ℕ) (may_left may_none is_left : Bool)
    → Decides is_left (ticked (with_scanned a k n)) → may_left ≡ true → IsLeft a n
    → Fits (ticked (with_scanned a k n)) is_left true b
    → (s : State) × Fits a may_left may_none s × Scans s k (replies.Scanned n) b
fits_scanned a b k n may_left may_none is_left decides ok left fits =
    let but : IsBut (saying (ticked (with_scanned a k n)) true) b =
    fits_anew (ticked (with_scanned a k n)) b is_left decides fits in (
      saying a true,
      (true, refl, ok),
      (refl, left, subst (λ (t : State). IsBut t b) (sym (ticked_saying (with_scanned a k n) true)) but),
    )

module _ (a t : State) (k : ℕ) (may_left may_none : Bool) (none : plain_refusal a (plain.Scan k) ≡ None) where
  -- a worker tells that nothing is left to scan
  pub scan_none_fits : (s : State) → Fits a may_left may_none s → IsRow s (plain_row (plain.Scan k) replies.Nothing) t
      → (may_none ≡ true) × Fits (ticked a) false true t
  scan_none_fits s fits h =
      none_fits a s t k may_left may_none fits
      (plain_accepted s t (plain.Scan k) replies.Nothing
      (subst (λ (u : State). plain_refusal u (plain.Scan k) ≡ None) (sym fits.1) none) h)

  -- and each that fits afterwards comes from one that fitted
  pub fits_scan_none : may_none ≡ true → Fits (ticked a) false true t
      → (s : State) × Fits a may_left may_none s × IsRow s (plain_row (plain.Scan k) replies.Nothing) t
  fits_scan_none ok fits =
      let from = fits_none a t k may_left may_none ok fits in (
        from.0,
        from.1,
        accepted_plain from.0 t (plain.Scan k) replies.Nothing
            (subst (λ (u : State). plain_refusal u (plain.Scan k) ≡ None) (sym from.1.1) none) from.2,
      )

  -- a worker scans an object that is left
  pub scan_fits : (s : State) (n : ℕ) (is_left : Bool) → Decides is_left (ticked (with_scanned a k n))
      → Fits a may_left may_none s → IsRow s (plain_row (plain.Scan k) (replies.Scanned n)) t
      → (may_left ≡ true) × IsLeft a n × Fits (ticked (with_scanned a k n)) is_left true t
  scan_fits s n is_left decides fits h =
      scanned_fits a s t k n may_left may_none is_left decides fits
      (plain_accepted s t (plain.Scan k) (replies.Scanned n)
      (subst (λ (u : State). plain_refusal u (plain.Scan k) ≡ None) (sym fits.1) none) h)

  -- and each that fits afterwards comes from one that fitted
  pub fits_scan : (n : ℕ) (is_left : Bool) → Decides is_left (ticked (with_scanned a k n)) → may_left ≡ true
      → IsLeft a n → Fits (ticked (with_scanned a k n)) is_left true t
      → (s : State) × Fits a may_left may_none s × IsRow s (plain_row (plain.Scan k) (replies.Scanned n)) t
  fits_scan n is_left decides ok left fits =
      let from = fits_scanned a t k n may_left may_none is_left decides ok left fits in (
        from.0,
        from.1,
        accepted_plain from.0 t (plain.Scan k) (replies.Scanned n)
            (subst (λ (u : State). plain_refusal u (plain.Scan k) ≡ None) (sym from.1.1) none) from.2,
      )

-- ---- an end of the mark that is refused, since an object is left

-- its row
abbrev pub refused_end : Row
refused_end = record { step = (steps.Plain plain.EndMark); reply = replies.Refused GreyLeft }

-- each state that fits says that an object is left, and stays
pub grey_fits : (a s b : State) (may_left may_none : Bool) → is_in a.world.phase Marking ≡ true
    → Fits a may_left may_none s → IsRow s refused_end b → (may_left ≡ true) × Fits a true false b
grey_fits a s b may_left may_none marks fits row = of_value fits.0 fits.1 fits.2
  where
    of_value : (left : Bool) → s ≡ saying a left → may left may_left may_none ≡ true
        → (may_left ≡ true) × Fits a true false b
    of_value true same ok =
        let there : IsRow (saying a true) refused_end b = subst (λ (t : State). IsRow t refused_end b) same row in
        (ok, (true, (simp marks at there).1, refl))
    of_value false same ok =
        let there : IsRow (saying a false) refused_end b = subst (λ (t : State). IsRow t refused_end b) same row in
        absurd (no_end (simp marks at there))
      where
        no_end : Accepts (saying a false) (steps.Plain plain.EndMark) (replies.Refused GreyLeft) b → ⊥
        no_end accepts = clash accepts.1.answer
          where
            clash : {n : ℕ} → replies.Refused GreyLeft ≡ replies.Doomed n → ⊥
            clash same = absurd cc

-- and each that fits afterwards comes from one that fitted
pub fits_grey : (a b : State) (may_left may_none : Bool) → is_in a.world.phase Marking ≡ true → may_left ≡ true
    → Fits a true false b → (s : State) × Fits a may_left may_none s × IsRow s refused_end b
fits_grey a b may_left may_none marks ok fits = of_value fits.0 fits.1 fits.2
  where
    of_value : (left : Bool) → b ≡ saying a left → may left true false ≡ true
        → (s : State) × Fits a may_left may_none s × IsRow s refused_end b
    of_value false same said = absurd (false≢true said)
    of_value true same said =
        let row : IsRow (saying a true) refused_end (saying a true) = simp marks (refl, refl) in
        (saying a true, (true, refl, ok), subst (λ (t : State). IsRow (saying a true) refused_end t) (sym same) row)
