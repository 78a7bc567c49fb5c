-- How places change: the reference of a key goes on, or is dead for good.
use Rattle.std.proofs.Common.{arith, ◌≡◌, ◌<◌, ◌≤◌, ◌+◌, ◌∷◌, ◌++◌, [], refl, ℕ, Bool, true, false, List, Some}
use Rattle.std.proofs.Common.{subst, sym, None, length, inl, inr}
use Rattle.std.proofs.lemmas.Bool.{cases_eq, eqb-true}
use Rattle.std.proofs.lemmas.Bool.Decides.{nat_tests}
use Rattle.std.proofs.lemmas.List.{get_or-set_same, get_or-set_other, get_or_append_left, get_or_push, get_or_past}
use Rattle.std.proofs.lemmas.List.{length_push}
use Rattle.std.proofs.Math.ListN.{get_or-eq_default}
use Rattle.ref_process.specs.Places.{new_place, place_at, reference_under, put_at, with_new, buried, is_new_key}
use Rattle.ref_process.specs.RowTallies.{IsBygone}
use Rattle.ref_process.specs.declared.key.Key.{Key}
use Rattle.ref_process.specs.declared.place.Place.{Place}
use Rattle.ref_process.specs.declared.place.Reference.{Reference}

-- a reference later on: it keeps what it is, its notice stays given, and it refers to nothing new
pub record GoesOn (r s : Reference) : Type 0 where
  pub queue : s.queue ≡ r.queue
  pub told : r.is_told ≡ true → s.is_told ≡ true
  pub refers : (h : ℕ) → s.referent ≡ Some h → r.referent ≡ Some h

-- what may become of a place. While all is still, no object moves.
pub data Onward (still : Bool) (p q : Place) : Type 0 where
  same : q ≡ p → Onward still p q
  changed :
      (r s : Reference) → p.held ≡ Some r → q.held ≡ Some s → q.round ≡ p.round → GoesOn r s → Onward still p q
  dead : q.held ≡ None → q.round ≡ p.round + 1 → Onward still p q
  made :
      (s : Reference) → p.held ≡ None → q.held ≡ Some s → q.round ≡ p.round → s.is_told ≡ false → Onward still p q
  moved :
      (r s : Reference) → p.held ≡ Some r → q.held ≡ Some s → q.round ≡ p.round → s.queue ≡ r.queue
      → s.is_told ≡ r.is_told → still ≡ false → Onward still p q

abbrev pub EachOnward : Bool → List Place → List Place → Type 0
EachOnward still ps qs = (n : ℕ) → Onward still (place_at ps n) (place_at qs n)

pub each_same : (ps : List Place) → EachOnward true ps ps
each_same ps n = same refl

-- ---- a key that has a reference

pub under_there : (ps : List Place) (k : Key) (r : Reference) → reference_under ps k ≡ Some r → k.place < length ps
under_there ps k r is = grind (arith, cases_eq, get_or-eq_default ps new_place)

pub under_held : (ps : List Place) (k : Key) (r : Reference) → reference_under ps k ≡ Some r
    → (place_at ps k.place).held ≡ Some r
under_held ps k r is = grind (arith, cases_eq)

pub under_round : (ps : List Place) (k : Key) (r : Reference) → reference_under ps k ≡ Some r
    → (place_at ps k.place).round ≡ k.round
under_round ps k r is = grind (arith, cases_eq, eqb-true)

module _ (ps : List Place) (k : Key) (r : Reference) (is : reference_under ps k ≡ Some r) where
  pub put_here : (s : Reference) → place_at (put_at ps k s) k.place ≡ record { round = k.round; held = Some s }
  put_here s = get_or-set_same ps k.place (record { round = k.round; held = Some s }) new_place (under_there ps k r is)

  pub put_onward : (s : Reference) → GoesOn r s → EachOnward true ps (put_at ps k s)
  put_onward s goes n =
      elim (cases_eq n k.place) [
        | inl here ↦
            changed r s (grind (arith, here, under_held ps k r is)) (grind (arith, here, put_here s))
            (grind (arith, here, put_here s, under_round ps k r is)) goes
        | inr other ↦ same (get_or-set_other ps k.place n (record { round = k.round; held = Some s }) new_place other)
      ]

  pub bury_here : place_at (buried ps k) k.place ≡ record { round = k.round + 1; held = None }
  bury_here =
      get_or-set_same ps k.place (record { round = k.round + 1; held = None }) new_place (under_there ps k r is)

  pub bury_onward : EachOnward true ps (buried ps k)
  bury_onward n =
      elim (cases_eq n k.place) [
        | inl here ↦
            dead (grind (arith, here, bury_here)) (grind (arith, here, bury_here, under_round ps k r is))
        | inr other ↦ same (get_or-set_other ps k.place n (record { round = k.round + 1; held = None }) new_place other)
      ]

-- a call leaves the places, or changes the reference of a key
pub data Touches (ps qs : List Place) : Type 0 where
  untouched : qs ≡ ps → Touches ps qs
  touched :
      (k : Key) (r s : Reference) → reference_under ps k ≡ Some r → GoesOn r s → qs ≡ put_at ps k s → Touches ps qs

pub touch_onward : (ps qs : List Place) → Touches ps qs → EachOnward true ps qs
touch_onward ps qs (untouched is) = subst (EachOnward true ps) (sym is) (each_same ps)
touch_onward ps qs (touched k r s was goes is) = subst (EachOnward true ps) (sym is) (put_onward ps k r was s goes)

-- ---- a new key

module _ (ps : List Place) (k : Key) (new : is_new_key ps k ≡ true) where
  pub new_empty : (place_at ps k.place).held ≡ None
  new_empty = grind (arith, nat_tests, cases_eq, get_or_past ps k.place new_place)

  pub new_round : (place_at ps k.place).round ≡ k.round
  new_round = grind (arith, nat_tests, cases_eq, eqb-true, get_or_past ps k.place new_place)

  pub new_within : k.place ≤ length ps
  new_within = grind (arith, nat_tests, cases_eq, eqb-true)

  pub new_here : (s : Reference) → place_at (with_new ps k s) k.place ≡ record { round = k.round; held = Some s }
  new_here s =
      grind (
        arith,
        nat_tests,
        new_within,
        get_or-set_same ps k.place (record { round = k.round; held = Some s }) new_place,
        get_or_push ps (record { round = k.round; held = Some s }) new_place k.place,
      )

  pub new_other : (s : Reference) (n : ℕ) → (n ≡ k.place → ⊥) → place_at (with_new ps k s) n ≡ place_at ps n
  new_other s n other =
      grind (
        arith,
        nat_tests,
        new_within,
        get_or-set_other ps k.place n (record { round = k.round; held = Some s }) new_place,
        get_or_append_left ps (record { round = k.round; held = Some s } ∷ []) new_place n,
        get_or_past ps n new_place,
        get_or_past (ps ++ record { round = k.round; held = Some s } ∷ []) n new_place,
        length_push ps (record { round = k.round; held = Some s }),
      )

  pub new_onward : (s : Reference) → s.is_told ≡ false → EachOnward true ps (with_new ps k s)
  new_onward s untold n =
      elim (cases_eq n k.place) [
        | inl here ↦
            made s (grind (arith, here, new_empty)) (grind (arith, here, new_here s))
            (grind (arith, here, new_here s, new_round)) untold
        | inr other ↦ same (new_other s n other)
      ]

-- ---- what follows of a place

pub rounds_rise : (still : Bool) (p q : Place) → Onward still p q → p.round ≤ q.round
rounds_rise still p q (same is) = grind (arith, is)
rounds_rise still p q (changed r s was is round goes) = grind (arith, round)
rounds_rise still p q (dead empty round) = grind (arith, round)
rounds_rise still p q (made s was is round untold) = grind (arith, round)
rounds_rise still p q (moved r s was is round queue told moves) = grind (arith, round)

-- a key that is past has no reference
pub past_none : (ps : List Place) (k : Key) → IsBygone ps k → reference_under ps k ≡ None
past_none ps k past = grind (arith, nat_tests, cases_eq)
