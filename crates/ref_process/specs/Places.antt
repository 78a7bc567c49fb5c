-- The places of a processor's references. A place is used again once its reference is dead, and its round is not.
use Rattle.std.specs.Prelude.{◌≡◌, ℕ, ◌+◌, ◌<◌, Bool, true, false, not, ◌&&◌, ◌||◌, ◌==◌, if◌then◌else◌, nat_lt}
use Rattle.std.specs.Prelude.{is_some, List, [], ◌∷◌, ◌++◌, length, slice_index_or, slice_set, Option, Some, None}
use Rattle.ref_base.specs.Members.{has, AreDistinct}
use Rattle.ref_process.specs.declared.key.Key.{Key}
use Rattle.ref_process.specs.declared.place.Place.{Place}
use Rattle.ref_process.specs.declared.place.Reference.{Reference}

-- a place that no reference had yet
abbrev pub new_place : Place
new_place = record { round = 0; held = None }

abbrev pub place_at : List Place → ℕ → Place
place_at ps n = slice_index_or ps n new_place

-- the reference of a place in this round, if it has one
abbrev pub held_by : Place → ℕ → Option Reference
held_by p round = if p.round == round then p.held else None

-- the reference of a key: none where it is dead, or was never made
abbrev pub reference_under : List Place → Key → Option Reference
reference_under ps k = held_by (place_at ps k.place) k.round

-- the place has no reference, and may have another: the last round is of none
abbrev pub is_vacant_place : Place → Bool
is_vacant_place p = not (is_some p.held) && nat_lt p.round 4294967295

-- whether place n is there and vacant
abbrev pub is_vacancy : List Place → ℕ → Bool
is_vacancy ps n = nat_lt n (length ps) && is_vacant_place (place_at ps n)

abbrev pub any_vacancy : List Place → Bool
any_vacancy [] = false
any_vacancy (p ∷ ps) = is_vacant_place p || any_vacancy ps

-- a key that the next reference may get: of a vacant place, and only where there is none of one more place
abbrev pub is_new_key : List Place → Key → Bool
is_new_key ps k =
    if any_vacancy ps
    then is_vacancy ps k.place && ((place_at ps k.place).round == k.round)
    else (k.place == length ps) && (k.round == 0)

-- the places with this reference under the key
abbrev pub put_at : List Place → Key → Reference → List Place
put_at ps k r = slice_set ps k.place (record { round = k.round; held = Some r })

-- the places with one more reference, under a new key
abbrev pub with_new : List Place → Key → Reference → List Place
with_new ps k r =
    if nat_lt k.place (length ps) then put_at ps k r else ps ++ record { round = k.round; held = Some r } ∷ []

-- the places once the reference of the key is dead: the round of the place rises
abbrev pub buried : List Place → Key → List Place
buried ps k = slice_set ps k.place (record { round = k.round + 1; held = None })

-- These are the vacant places, once each; and a reference has no last round.
pub record AreVacant (ps : List Place) (free : List ℕ) : Type 0 where
  pub all : (n : ℕ) → has free n ≡ is_vacancy ps n
  pub once : AreDistinct free
  pub rounds : (n : ℕ) → is_some (place_at ps n).held ≡ true → (place_at ps n).round < 4294967295
