-- Which keys the finders list, as rows go by.
use Rattle.std.proofs.Common.{arith, ◌≡◌, ◌<◌, ◌∷◌, ◌++◌, [], refl, subst, sym, ap, ◌∙◌, ℕ, Bool, true, false}
use Rattle.std.proofs.Common.{List, Option, Some, None, is_some, inl, inr, length, map, zero, suc, if◌then◌else◌, ◌&&◌}
use Rattle.std.proofs.Common.{◌-◌}
use Rattle.std.proofs.lemmas.Bool.{cases_eq}
use Rattle.std.proofs.lemmas.List.{append-nil}
use Rattle.std.specs.Prelude.{slice_index_or}
use Rattle.ref_base.specs.Paths.{is_soft}
use Rattle.ref_process.proofs.KnownKeys.{is_known, each_known, there_known, new_known, all_keys, all_both, all_more}
use Rattle.ref_process.proofs.KnownKeys.{all_rest}
use Rattle.ref_process.proofs.RowChanges.{stands, after_onward, made_key_places}
use Rattle.ref_process.proofs.RunOrder.{changed_lists, other_lists}
use Rattle.ref_process.specs.DeskRows.{Crew, DeskRow, Adds, Begins, Finds, EndsMarking, TakesMade, Looks, EndsClearing}
use Rattle.ref_process.specs.DeskRows.{Gets, Clears, Enqueues, Hands, Spends, Buries, Relocates, IsAnswered, after_row}
use Rattle.ref_process.specs.DeskRows.{lists_at, at_desk, with_finder, IsDeskRun}
use Rattle.ref_process.specs.CycleRows.{new_crew}
use Rattle.ref_process.specs.Desks.{Desk, FinderLists, lists_finding, lists_taking, with_made_key, made_reference}
use Rattle.ref_process.specs.Desks.{found_refusal, new_lists, after_finding}
use Rattle.ref_process.specs.Looks.{lists_look, lists_look_at, is_dying, after_look, after_look_at, after_get}
use Rattle.ref_process.specs.Looks.{after_clear}
use Rattle.ref_process.specs.Looks.{reads_in, cut_in}
use Rattle.ref_process.specs.Notices.{lists_hand, after_hand, after_hand_at, after_spend, after_enqueue, told_for}
use Rattle.ref_process.specs.Notices.{notice_queue}
use Rattle.ref_process.specs.Places.{reference_under, with_new, put_at}
use Rattle.ref_process.specs.declared.finder.Pending.{Pending}
use Rattle.ref_process.specs.declared.found.Found.{Found}
use Rattle.ref_process.specs.declared.found.Found.TheVariants.{Keep, Listed, Nothing}
use Rattle.ref_process.specs.declared.key.Key.{Key}
use Rattle.ref_process.specs.declared.place.Place.{Place}
use Rattle.ref_process.specs.declared.place.Reference.{Reference}

-- each key that is listed passes the test
pub record AllListed (test : Key → Bool) (c : Crew) : Type 0 where
  pub found : (i : ℕ) → all_keys test (lists_at c i).found ≡ true
  pub made : all_keys test c.desk.made ≡ true

abbrev pub if_listed : Key → Found → List Key
if_listed k (Keep h) = []
if_listed k Listed = k ∷ []
if_listed k Nothing = []

-- the keys that a row lists anew
abbrev pub newly_listed : DeskRow → List Key
newly_listed (Adds k owner strength referent queue x) = if_listed k x
newly_listed (Finds i k x) = if_listed k x
newly_listed row = []

-- ---- by each call

pub made_key_made : (d : Desk) (k : Key) (x : Found) → (with_made_key d k x).made ≡ d.made ++ if_listed k x
made_key_made d k (Keep h) = grind (arith, append-nil)
made_key_made d k Listed = refl
made_key_made d k Nothing = grind (arith, append-nil)

pub finding_found : (f : FinderLists) (k : Key) (x : Found) → (lists_finding f k x).found ≡ f.found ++ if_listed k x
finding_found f k (Keep h) = grind (arith, append-nil)
finding_found f k Listed = refl
finding_found f k Nothing = grind (arith, append-nil)

pub finding_made : (d : Desk) (x : Found) → (after_finding d x).made ≡ d.made
finding_made d (Keep h) = refl
finding_made d Listed = refl
finding_made d Nothing = refl

pub look_at_found : (marked : ℕ → Bool) (f : FinderLists) (cycle : ℕ) (k : Key) (o : Option Reference)
    → (lists_look_at marked f cycle k o).found ≡ f.found
look_at_found marked f cycle k None = refl
look_at_found marked f cycle k (Some r) = grind (arith, cases_eq)

pub look_found : (test : Key → Bool) (marked : ℕ → Bool) (d : Desk) (f : FinderLists) (ks : List Key) → f.found ≡ ks
    → all_keys test ks ≡ true → all_keys test (lists_look marked d f ks).found ≡ true
look_found test marked d f [] is all = ap (all_keys test) is
look_found test marked d f (k ∷ ks) is all =
    ap (all_keys test) (look_at_found marked (record f { found = ks }) d.cycle k (reference_under d.places k))
    ∙ all_rest test k ks all

pub hand_found : (f : FinderLists) (xs : List Pending) → (lists_hand f xs).found ≡ f.found
hand_found f [] = refl
hand_found f (x ∷ xs) = refl

-- ---- what calls of references leave of a desk

pub record Steady (d e : Desk) : Type 0 where
  pub made : e.made ≡ d.made
  pub phase : e.phase ≡ d.phase
  pub cycle : e.cycle ≡ d.cycle

pub steady : (d : Desk) → Steady d d
steady d = record { made = refl; phase = refl; cycle = refl }

pub placed_steady : (d : Desk) (ps : List Place) → Steady d (record d { places = ps })
placed_steady d ps = record { made = refl; phase = refl; cycle = refl }

pub steady_by : (b : Bool) (d e f : Desk) → Steady d e → Steady d f → Steady d (if b then e else f)
steady_by true d e f then_so else_so = then_so
steady_by false d e f then_so else_so = else_so

module _ (marked : ℕ → Bool) (d : Desk) (k : Key) where
  pub get_steady : (o : Option Reference) → Steady d (after_get marked d k o)
  get_steady None = steady d
  get_steady (Some r) =
      steady_by (is_soft r.strength && is_some (reads_in marked d.phase r.referent)) d
      (record d { places = put_at d.places k (record r { stamp = d.policy.clock }) }) d
      (placed_steady d (put_at d.places k (record r { stamp = d.policy.clock }))) (steady d)

  pub clear_steady : (o : Option Reference) → Steady d (after_clear marked d k o)
  clear_steady None = steady d
  clear_steady (Some r) = placed_steady d (put_at d.places k (cut_in marked d.phase r))

  pub enqueue_steady : (o : Option Reference) → Steady d (after_enqueue marked d k o)
  enqueue_steady None = steady d
  enqueue_steady (Some r) = placed_steady d (put_at d.places k (told_for (cut_in marked d.phase r) (notice_queue r)))

  pub look_at_steady : (e : Desk) → Steady d e → (o : Option Reference) → Steady d (after_look_at marked e k o)
  look_at_steady e before None = before
  look_at_steady e before (Some r) =
      steady_by (is_dying marked r.referent) d
      (record e { places = put_at e.places k (record r { referent = None; is_pending = is_some r.queue }) }) e
      (record { made = before.made; phase = before.phase; cycle = before.cycle }) before

  pub hand_at_steady : (o : Option Reference) → Steady d (after_hand_at d k o)
  hand_at_steady None = steady d
  hand_at_steady (Some r) =
      placed_steady d (put_at d.places k (record (told_for r (notice_queue r)) { is_pending = false }))

  pub spend_steady : (o : Option Reference) → Steady d (after_spend d k o)
  spend_steady None = steady d
  spend_steady (Some r) = placed_steady d (put_at d.places k (record r { is_out = false }))

pub look_steady : (marked : ℕ → Bool) (d : Desk) (ks : List Key) → Steady d (after_look marked d ks)
look_steady marked d [] = steady d
look_steady marked d (k ∷ ks) =
    look_at_steady marked d k (record d { listed = d.listed - 1 })
    (record { made = refl; phase = refl; cycle = refl }) (reference_under d.places k)

pub hand_steady : (marked : ℕ → Bool) (d : Desk) (xs : List Pending) → Steady d (after_hand d xs)
hand_steady marked d [] = steady d
hand_steady marked d (x ∷ xs) = hand_at_steady marked d x.key (reference_under d.places x.key)

-- ---- by each row

module _ (test : Key → Bool) (marked : ℕ → Bool) (c : Crew) (all : AllListed test c) where
  -- where the finders stay, and what is made too
  pub listed_same : (d : Desk) → d.made ≡ c.desk.made → AllListed test (record c { desk = d })
  listed_same d same = record { found = all.found; made = ap (all_keys test) same ∙ all.made }

  -- where one finder is changed
  pub listed_changed : (d : Desk) (j : ℕ) (f : FinderLists) → j < length c.finders → all_keys test f.found ≡ true
      → all_keys test d.made ≡ true → AllListed test (with_finder c d j f)
  listed_changed d j f there found made = record {
    found = λ i.
        elim (cases_eq i j) [
          | inl here ↦ grind (arith, here, found, changed_lists c d j f there)
          | inr other ↦ grind (arith, all.found i, other_lists c d j f i other)
        ];
    made = made;
  }

  pub after_listed : (row : DeskRow) → IsAnswered marked c row → all_keys test (newly_listed row) ≡ true
      → AllListed test (after_row marked c row)
  after_listed (Adds k owner strength referent queue x) is new =
      record {
        found = all.found;
        made =
            ap (all_keys test)
            (made_key_made
            (record c.desk { places = with_new c.desk.places k (made_reference c.desk owner strength referent queue) })
            k x)
            ∙ all_both test c.desk.made (if_listed k x) all.made new;
      }
  after_listed (Begins now u n) is new = listed_same (after_row marked c (Begins now u n)).desk refl
  after_listed (Finds j k x) is new =
      listed_changed (after_finding c.desk x) j (lists_finding (lists_at c j) k x) is.0
      (ap (all_keys test) (finding_found (lists_at c j) k x)
      ∙ all_both test (lists_at c j).found (if_listed k x) (all.found j) new)
      (ap (all_keys test) (finding_made c.desk x) ∙ all.made)
  after_listed EndsMarking is new = listed_same (after_row marked c EndsMarking).desk refl
  after_listed (TakesMade j) is new =
      listed_changed (after_row marked c (TakesMade j)).desk j (lists_taking (lists_at c j) c.desk) is.0
      (all_both test (lists_at c j).found c.desk.made (all.found j) all.made) refl
  after_listed (Looks j l q) is new =
      listed_changed (after_look marked c.desk (lists_at c j).found) j
      (lists_look marked c.desk (lists_at c j) (lists_at c j).found) is.0
      (look_found test marked c.desk (lists_at c j) (lists_at c j).found refl (all.found j))
      (ap (all_keys test) (look_steady marked c.desk (lists_at c j).found).made ∙ all.made)
  after_listed EndsClearing is new = listed_same (after_row marked c EndsClearing).desk refl
  after_listed (Gets k got) is new =
      listed_same (after_get marked c.desk k (at_desk c k)) (get_steady marked c.desk k (at_desk c k)).made
  after_listed (Clears k) is new =
      listed_same (after_clear marked c.desk k (at_desk c k)) (clear_steady marked c.desk k (at_desk c k)).made
  after_listed (Enqueues k x) is new =
      listed_same (after_enqueue marked c.desk k (at_desk c k)) (enqueue_steady marked c.desk k (at_desk c k)).made
  after_listed (Hands j x) is new =
      listed_changed (after_hand c.desk (lists_at c j).pending) j
      (lists_hand (lists_at c j) (lists_at c j).pending) is.0
      (ap (all_keys test) (hand_found (lists_at c j) (lists_at c j).pending) ∙ all.found j)
      (ap (all_keys test) (hand_steady marked c.desk (lists_at c j).pending).made ∙ all.made)
  after_listed (Spends k) is new =
      listed_same (after_spend c.desk k (at_desk c k)) (spend_steady marked c.desk k (at_desk c k)).made
  after_listed (Buries k) is new = listed_same (after_row marked c (Buries k)).desk refl
  after_listed (Relocates to) is new = listed_same (after_row marked c (Relocates to)).desk refl

-- ---- what is listed was given

abbrev pub AreKnown : Crew → Type 0
AreKnown c = AllListed (is_known c.desk.places) c

pub more_listed : (test more : Key → Bool) → ((k : Key) → test k ≡ true → more k ≡ true) → (c : Crew)
    → AllListed test c → AllListed more c
more_listed test more wider c all = record {
  found = λ i. all_more test more wider (lists_at c i).found (all.found i);
  made = all_more test more wider c.desk.made all.made;
}

pub if_listed_all : (test : Key → Bool) (k : Key) (x : Found) → test k ≡ true → all_keys test (if_listed k x) ≡ true
if_listed_all test k (Keep h) is = refl
if_listed_all test k Listed is = grind (arith, is)
if_listed_all test k Nothing is = refl

pub found_there : (d : Desk) (k : Key) (o : Option Reference) → reference_under d.places k ≡ o
    → found_refusal d k ≡ None → is_some o ≡ true
found_there d k None is allowed = absurd (grind (arith, cases_eq))
found_there d k (Some r) is allowed = refl

module _ (marked : ℕ → Bool) (c : Crew) where
  pub newly_known : (row : DeskRow) → IsAnswered marked c row
      → all_keys (is_known (after_row marked c row).desk.places) (newly_listed row) ≡ true
  newly_known (Adds k owner strength referent queue x) is =
      if_listed_all (is_known (after_row marked c (Adds k owner strength referent queue x)).desk.places) k x
      (subst (λ ps. is_known ps k ≡ true)
      (sym (made_key_places
      (record c.desk { places = with_new c.desk.places k (made_reference c.desk owner strength referent queue) }) k x))
      (new_known c.desk.places k is.1 (made_reference c.desk owner strength referent queue)))
  newly_known (Begins now u n) is = refl
  newly_known (Finds i k x) is =
      if_listed_all (is_known (after_row marked c (Finds i k x)).desk.places) k x
      (each_known true c.desk.places (after_row marked c (Finds i k x)).desk.places
      (after_onward marked c (Finds i k x) is) k
      (there_known c.desk.places k (at_desk c k) refl (found_there c.desk k (at_desk c k) refl is.1)))
  newly_known EndsMarking is = refl
  newly_known (TakesMade i) is = refl
  newly_known (Looks i l q) is = refl
  newly_known EndsClearing is = refl
  newly_known (Gets k got) is = refl
  newly_known (Clears k) is = refl
  newly_known (Enqueues k x) is = refl
  newly_known (Hands i x) is = refl
  newly_known (Spends k) is = refl
  newly_known (Buries k) is = refl
  newly_known (Relocates to) is = refl

  pub after_known : AreKnown c → (row : DeskRow) → IsAnswered marked c row → AreKnown (after_row marked c row)
  after_known known row is =
      after_listed (is_known (after_row marked c row).desk.places) marked c
      (more_listed (is_known c.desk.places) (is_known (after_row marked c row).desk.places)
      (each_known (stands row) c.desk.places (after_row marked c row).desk.places (after_onward marked c row is)) c
      known)
      row is (newly_known row is)

pub run_known : (rows : List DeskRow) (c e : Crew) → IsDeskRun c rows e → AreKnown c → AreKnown e
run_known [] c e run known = subst AreKnown (sym run) known
run_known (row ∷ rest) c e run known =
    run_known rest run.0 e run.2
    (subst AreKnown (sym run.1.1.1) (after_known run.1.0 c known row run.1.1.0))

pub none_found : (workers : List ℕ) (i : ℕ) → (slice_index_or (map new_lists workers) i (new_lists 0)).found ≡ []
none_found [] i = refl
none_found (w ∷ ws) zero = refl
none_found (w ∷ ws) (suc i) = none_found ws i

pub new_are_known : (span : ℕ) (workers : List ℕ) → AreKnown (new_crew span workers)
new_are_known span workers = record {
  found = λ i. ap (all_keys (is_known [])) (none_found workers i);
  made = refl;
}
