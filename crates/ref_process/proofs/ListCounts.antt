-- How many keys the finders list, as rows go by.
use Rattle.std.proofs.Common.{arith, ◌≡◌, ◌<◌, ◌+◌, ◌-◌, ◌∷◌, ◌++◌, [], refl, subst, sym, ap, ◌∙◌, ℕ, Bool}
use Rattle.std.proofs.Common.{List, Option, Some, None, length, map}
use Rattle.std.proofs.lemmas.Bool.{cases_eq}
use Rattle.std.proofs.lemmas.List.{length-append, length_push}
use Rattle.std.proofs.lemmas.List.Sums.{sum_by-set}
use Rattle.std.specs.Prelude.{sum_by, slice_index_or, slice_set}
use Rattle.ref_process.proofs.ListedKeys.{look_at_found, hand_found}
use Rattle.ref_process.specs.DeskRows.{Crew, DeskRow, Adds, Begins, Finds, EndsMarking, TakesMade, Looks, EndsClearing}
use Rattle.ref_process.specs.DeskRows.{Gets, Clears, Enqueues, Hands, Spends, Buries, Relocates, IsAnswered, after_row}
use Rattle.ref_process.specs.DeskRows.{lists_at, at_desk, IsDeskRun, IsRowBy}
use Rattle.ref_process.specs.Desks.{Desk, FinderLists, new_lists, lists_finding, after_finding, lists_taking}
use Rattle.ref_process.specs.Desks.{with_made_key, made_reference}
use Rattle.ref_process.specs.Looks.{after_get, after_clear, after_look, after_look_at, lists_look}
use Rattle.ref_process.specs.Notices.{after_enqueue, after_hand, after_hand_at, after_spend, lists_hand}
use Rattle.ref_process.specs.Places.{reference_under, with_new}
use Rattle.ref_process.specs.declared.finder.Pending.{Pending}
use Rattle.ref_process.specs.declared.found.Found.{Found}
use Rattle.ref_process.specs.declared.found.Found.TheVariants.{Keep, Listed, Nothing}
use Rattle.ref_process.specs.declared.key.Key.{Key}
use Rattle.ref_process.specs.declared.place.Reference.{Reference}

-- how many keys the finders list
abbrev pub all_found : List FinderLists → ℕ
all_found fs = sum_by (λ (f : FinderLists). length f.found) fs

-- the desk counts them
abbrev pub IsCounted : Crew → Type 0
IsCounted c = c.desk.listed ≡ all_found c.finders

pub found_set : (fs : List FinderLists) (i : ℕ) (f : FinderLists) → i < length fs
    → all_found (slice_set fs i f) + length (slice_index_or fs i (new_lists 0)).found ≡ all_found fs + length f.found
found_set fs i f there = sum_by-set (λ (g : FinderLists). length g.found) fs i f (new_lists 0) there

-- ---- what calls of references leave of the count

pub get_counts : (marked : ℕ → Bool) (d : Desk) (k : Key) (o : Option Reference)
    → (after_get marked d k o).listed ≡ d.listed
get_counts marked d k None = refl
get_counts marked d k (Some r) = grind (arith, cases_eq)

pub clear_counts : (marked : ℕ → Bool) (d : Desk) (k : Key) (o : Option Reference)
    → (after_clear marked d k o).listed ≡ d.listed
clear_counts marked d k None = refl
clear_counts marked d k (Some r) = refl

pub enqueue_counts : (marked : ℕ → Bool) (d : Desk) (k : Key) (o : Option Reference)
    → (after_enqueue marked d k o).listed ≡ d.listed
enqueue_counts marked d k None = refl
enqueue_counts marked d k (Some r) = refl

pub spend_counts : (d : Desk) (k : Key) (o : Option Reference) → (after_spend d k o).listed ≡ d.listed
spend_counts d k None = refl
spend_counts d k (Some r) = refl

pub hand_at_counts : (d : Desk) (k : Key) (o : Option Reference) → (after_hand_at d k o).listed ≡ d.listed
hand_at_counts d k None = refl
hand_at_counts d k (Some r) = refl

pub hand_counts : (d : Desk) (xs : List Pending) → (after_hand d xs).listed ≡ d.listed
hand_counts d [] = refl
hand_counts d (x ∷ xs) = hand_at_counts d x.key (reference_under d.places x.key)

pub look_at_counts : (marked : ℕ → Bool) (d : Desk) (k : Key) (o : Option Reference)
    → (after_look_at marked d k o).listed ≡ d.listed
look_at_counts marked d k None = refl
look_at_counts marked d k (Some r) = grind (arith, cases_eq)

pub made_key_counts : (d : Desk) (k : Key) (x : Found) → (with_made_key d k x).listed ≡ d.listed
made_key_counts d k (Keep h) = refl
made_key_counts d k Listed = refl
made_key_counts d k Nothing = refl

-- ---- of a find, of taking what was made, and of a look

module _ (fs : List FinderLists) (i : ℕ) (there : i < length fs) (d : Desk) (counted : d.listed ≡ all_found fs) where
  pub finding_counts : (k : Key) (x : Found)
      → (after_finding d x).listed
      ≡ all_found (slice_set fs i (lists_finding (slice_index_or fs i (new_lists 0)) k x))
  finding_counts k (Keep h) =
      let set : all_found (slice_set fs i (slice_index_or fs i (new_lists 0)))
      + length (slice_index_or fs i (new_lists 0)).found
      ≡ all_found fs + length (slice_index_or fs i (new_lists 0)).found =
      found_set fs i (slice_index_or fs i (new_lists 0)) there in omega (arith, set, counted)
  finding_counts k Nothing =
      let set : all_found (slice_set fs i (slice_index_or fs i (new_lists 0)))
      + length (slice_index_or fs i (new_lists 0)).found
      ≡ all_found fs + length (slice_index_or fs i (new_lists 0)).found =
      found_set fs i (slice_index_or fs i (new_lists 0)) there in omega (arith, set, counted)
  finding_counts k Listed =
      let set = found_set fs i (lists_finding (slice_index_or fs i (new_lists 0)) k Listed) there in
      let longer : length ((slice_index_or fs i (new_lists 0)).found ++ k ∷ [])
      ≡ length (slice_index_or fs i (new_lists 0)).found + 1 =
      length_push (slice_index_or fs i (new_lists 0)).found k in grind (arith, set, longer, counted)

  pub taking_counts :
      d.listed + length d.made ≡ all_found (slice_set fs i (lists_taking (slice_index_or fs i (new_lists 0)) d))
  taking_counts =
      let set = found_set fs i (lists_taking (slice_index_or fs i (new_lists 0)) d) there in
      let longer : length ((slice_index_or fs i (new_lists 0)).found ++ d.made)
      ≡ length (slice_index_or fs i (new_lists 0)).found + length d.made =
      length-append (slice_index_or fs i (new_lists 0)).found d.made in grind (arith, set, longer, counted)

  -- a finder whose found keys are as many
  pub same_counts : (f : FinderLists) → f.found ≡ (slice_index_or fs i (new_lists 0)).found
      → d.listed ≡ all_found (slice_set fs i f)
  same_counts f is =
      let set = found_set fs i f there in
      let same : length f.found ≡ length (slice_index_or fs i (new_lists 0)).found = ap length is in
      omega (arith, set, same, counted)

  -- and one that has one fewer
  pub fewer_counts : (f : FinderLists) (k : Key) → (slice_index_or fs i (new_lists 0)).found ≡ k ∷ f.found
      → d.listed - 1 ≡ all_found (slice_set fs i f)
  fewer_counts f k is =
      let set = found_set fs i f there in
      let one : length (slice_index_or fs i (new_lists 0)).found ≡ length f.found + 1 = grind (arith, is) in
      omega (arith, set, one, counted)

pub look_counts : (marked : ℕ → Bool) (c : Crew) (i : ℕ) → i < length c.finders → IsCounted c → (ks : List Key)
    → (lists_at c i).found ≡ ks
    → (after_look marked c.desk ks).listed
    ≡ all_found (slice_set c.finders i (lists_look marked c.desk (lists_at c i) ks))
look_counts marked c i there counted [] is = same_counts c.finders i there c.desk counted (lists_at c i) refl
look_counts marked c i there counted (k ∷ ks) is =
    look_at_counts marked (record c.desk { listed = c.desk.listed - 1 }) k (reference_under c.desk.places k)
    ∙ fewer_counts c.finders i there c.desk counted (lists_look marked c.desk (lists_at c i) (k ∷ ks)) k
    (is
    ∙ ap (λ (js : List Key). k ∷ js)
    (sym
    (look_at_found marked (record (lists_at c i) { found = ks }) c.desk.cycle k (reference_under c.desk.places k))))

-- ---- by each row

module _ (marked : ℕ → Bool) (c : Crew) (counted : IsCounted c) where
  pub after_counted : (row : DeskRow) → IsAnswered marked c row → IsCounted (after_row marked c row)
  after_counted (Adds k owner strength referent queue x) is =
      made_key_counts
      (record c.desk { places = with_new c.desk.places k (made_reference c.desk owner strength referent queue) }) k x
      ∙ counted
  after_counted (Begins now u n) is = counted
  after_counted (Finds i k x) is = finding_counts c.finders i is.0 c.desk counted k x
  after_counted EndsMarking is = counted
  after_counted (TakesMade i) is = taking_counts c.finders i is.0 c.desk counted
  after_counted (Looks i l q) is = look_counts marked c i is.0 counted (lists_at c i).found refl
  after_counted EndsClearing is = counted
  after_counted (Gets k got) is = get_counts marked c.desk k (at_desk c k) ∙ counted
  after_counted (Clears k) is = clear_counts marked c.desk k (at_desk c k) ∙ counted
  after_counted (Enqueues k x) is = enqueue_counts marked c.desk k (at_desk c k) ∙ counted
  after_counted (Hands i x) is =
      hand_counts c.desk (lists_at c i).pending
      ∙ same_counts c.finders i is.0 c.desk counted (lists_hand (lists_at c i) (lists_at c i).pending)
      (hand_found (lists_at c i) (lists_at c i).pending)
  after_counted (Spends k) is = spend_counts c.desk k (at_desk c k) ∙ counted
  after_counted (Buries k) is = counted
  after_counted (Relocates to) is = counted

pub row_counted : (marked : ℕ → Bool) (c : Crew) (row : DeskRow) (e : Crew) → IsRowBy marked c row e → IsCounted c
    → IsCounted e
row_counted marked c row e leads counted =
    subst IsCounted (sym leads.1) (after_counted marked c counted row leads.0)

pub run_counted : (rows : List DeskRow) (c e : Crew) → IsDeskRun c rows e → IsCounted c → IsCounted e
run_counted [] c e run counted = subst IsCounted (sym run) counted
run_counted (row ∷ rest) c e run counted =
    run_counted rest run.0 e run.2 (row_counted run.1.0 c row run.0 run.1.1 counted)

pub none_counted : (workers : List ℕ) → 0 ≡ all_found (map new_lists workers)
none_counted [] = refl
none_counted (w ∷ ws) = let rest = none_counted ws in omega (arith, rest)
