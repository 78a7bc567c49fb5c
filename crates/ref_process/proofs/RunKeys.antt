-- What stays of a key: it is past for good, and its queue stays.
use Rattle.std.proofs.Common.{arith, ◌≡◌, ◌<◌, ◌∷◌, [], refl, subst, sym, ℕ, Bool, List, Option}
use Rattle.std.proofs.Common.{Some, None, ◌⊎◌, inl, inr}
use Rattle.std.proofs.lemmas.Bool.{cases_eq, eqb-true}
use Rattle.ref_process.proofs.PlaceRounds.{Onward, same, changed, dead, made, moved, EachOnward, rounds_rise}
use Rattle.ref_process.proofs.PlaceRounds.{past_none, bury_here}
use Rattle.ref_process.proofs.RowChanges.{stands, row_onward}
use Rattle.ref_process.specs.DeskRows.{Crew, DeskRow, IsDeskRow, IsDeskRun, Buries, at_desk}
use Rattle.ref_process.specs.Desks.{Desk, death_refusal}
use Rattle.ref_process.specs.Places.{place_at, reference_under, held_by, buried}
use Rattle.ref_process.specs.RowTallies.{IsBygone}
use Rattle.ref_process.specs.declared.key.Key.{Key}
use Rattle.ref_process.specs.declared.place.Place.{Place}
use Rattle.ref_process.specs.declared.place.Reference.{Reference}

pub past_stays : (still : Bool) (ps qs : List Place) → EachOnward still ps qs → (k : Key) → IsBygone ps k
    → IsBygone qs k
past_stays still ps qs onward k past =
    grind (arith, rounds_rise still (place_at ps k.place) (place_at qs k.place) (onward k.place))

-- a reference is there later with its queue, or its key is past
abbrev pub StaysOrPast : Place → ℕ → Reference → Type 0
StaysOrPast q round r = ((s : Reference) × (held_by q round ≡ Some s) × (s.queue ≡ r.queue)) ⊎ (round < q.round)

pub place_stays : (still : Bool) (p q : Place) → Onward still p q → (round : ℕ) (r : Reference)
    → held_by p round ≡ Some r → StaysOrPast q round r
place_stays still p q (same is) round r held = inl (r, grind (arith, is), refl)
place_stays still p q (changed t s was is rounds goes) round r held =
    inl (s, grind (arith, cases_eq, eqb-true), grind (arith, cases_eq, goes.queue))
place_stays still p q (dead empty rounds) round r held = inr (grind (arith, cases_eq, eqb-true))
place_stays still p q (made s was is rounds untold) round r held = absurd (grind (arith, cases_eq))
place_stays still p q (moved t s was is rounds queue told moves) round r held =
    inl (s, grind (arith, cases_eq, eqb-true), grind (arith, cases_eq, queue))

pub row_stays : (c : Crew) (row : DeskRow) (e : Crew) → IsDeskRow c row e → (k : Key) (r : Reference)
    → at_desk c k ≡ Some r → StaysOrPast (place_at e.desk.places k.place) k.round r
row_stays c row e leads k r is =
    place_stays (stands row) (place_at c.desk.places k.place) (place_at e.desk.places k.place)
    (row_onward leads.0 c row e leads.1 k.place) k.round r is

pub run_past : (rows : List DeskRow) (c e : Crew) → IsDeskRun c rows e → (k : Key) → IsBygone c.desk.places k
    → IsBygone e.desk.places k
run_past [] c e run k past = subst (λ (x : Crew). IsBygone x.desk.places k) (sym run) past
run_past (row ∷ rest) c e run k past =
    run_past rest run.0 e run.2 k
    (past_stays (stands row) c.desk.places run.0.desk.places (row_onward run.1.0 c row run.0 run.1.1) k past)

-- ---- the queue

pub queue_by : (c z e : Crew) (k : Key) (r : Reference) → StaysOrPast (place_at z.desk.places k.place) k.round r
    → ((s t : Reference) → at_desk z k ≡ Some s → at_desk e k ≡ Some t → t.queue ≡ s.queue)
    → (IsBygone z.desk.places k → IsBygone e.desk.places k) → (t : Reference) → at_desk e k ≡ Some t → t.queue ≡ r.queue
queue_by c z e k r (inl here) later past t is =
    let first : here.0.queue ≡ r.queue = here.2 in
    let next : t.queue ≡ here.0.queue = later here.0 t here.1 is in cc
queue_by c z e k r (inr gone) later past t is =
    let none : at_desk e k ≡ None = past_none e.desk.places k (past gone) in absurd cc

pub run_queue : (rows : List DeskRow) (c e : Crew) → IsDeskRun c rows e → (k : Key) (r s : Reference)
    → at_desk c k ≡ Some r → at_desk e k ≡ Some s → s.queue ≡ r.queue
run_queue [] c e run k r s before after =
    let is : at_desk c k ≡ Some s = subst (λ (x : Crew). at_desk x k ≡ Some s) run after in grind arith
run_queue (row ∷ rest) c e run k r s before after =
    queue_by c run.0 e k r (row_stays c row run.0 run.1 k r before)
    (λ t u at_z at_e. run_queue rest run.0 e run.2 k t u at_z at_e)
    (λ past. run_past rest run.0 e run.2 k past) s after

-- ---- a death

pub death_past : (d : Desk) (k : Key) (o : Option Reference) → reference_under d.places k ≡ o
    → death_refusal d k ≡ None → IsBygone (buried d.places k) k
death_past d k None is allowed = grind (arith, cases_eq)
death_past d k (Some r) is allowed = grind (arith, bury_here d.places k r is)

pub buries_past : (c : Crew) (k : Key) (e : Crew) → IsDeskRow c (Buries k) e → IsBygone e.desk.places k
buries_past c k e leads =
    subst (λ (x : Crew). IsBygone x.desk.places k) (sym leads.1.1)
    (death_past c.desk k (at_desk c k) refl leads.1.0)
