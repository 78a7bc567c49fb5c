-- What the slots of a table hold, and what a write to one leaves.
use Rattle.ref_space.specs.Tables.{RoundView}
use Rattle.ref_space.proofs.Common.{◌≡◌, ℕ, ◌<◌, true, refl, sym, ◌∙◌, ap, subst, arith, List, length, get_or, set}
use Rattle.ref_space.proofs.Common.{Option}
use Rattle.ref_space.proofs.Common.{None, slice_index_or, get_or_read, length-map, IsSoundTable, IsSoundNaming, Tabled}
use Rattle.ref_space.proofs.Common.{Entry, Table, seen_table, slotted, held_at, target_of, target_by, occupants_of}
use Rattle.ref_space.proofs.Common.{leads_by}
use Rattle.std.proofs.Math.ListN.{get_or-map}
use Rattle.std.proofs.lemmas.List.{map-set}
use Rattle.ref_space.specs.Naming.{HasTarget, IsHealed}
use Rattle.ref_space.proofs.NamingLemmas.{each_at, each_set, leads_anyhow}
use Rattle.ref_space.specs.Moves.{Ways}

module _ {round : RoundView} {cells : List (Option Tabled)} {es : List Entry} {ways : Ways} {slots : List
    (Option ℕ)}
    {last room count index_room marked : ℕ}
    (sound : IsSoundTable round cells es ways last room count index_room marked × IsSoundNaming round ways cells es
    slots)
    {t : Table} (view : seen_table round ways cells es slots last room ≡ t) (place : ℕ) where
  abbrev name : Option ℕ → Option ℕ
  name = target_by ways (occupants_of cells)

  -- ---- what a slot holds

  pub slot_there : place < length t.slots → place < length slots
  slot_there within =
      omega (arith, within, sym (ap (λ (s : Table). length s.slots) view) ∙ length-map slots name)

  module _ (within : place < length t.slots) {v : Option ℕ} (reads : v ≡ get_or slots place v) where
    there : place < length slots
    there = slot_there within

    read : v ≡ slice_index_or slots place None
    read = get_or_read slots place v there reads None

    pub slot_leads : IsHealed t v
    slot_leads =
        subst (λ (s : Table). IsHealed s v) view
        (rw read (each_at (leads_by round.good ways (occupants_of cells) true) slots place refl sound.1.rooted))

    pub slot_led : HasTarget t v
    slot_led = leads_anyhow t.round.good t.ways t.occupants true v slot_leads

    pub slot_named : target_of t v ≡ held_at t place
    slot_named =
        ap (λ (s : Table). target_of s v) (sym view) ∙ ap name read ∙ sym (get_or-map name slots place None)
        ∙ ap (λ (s : Table). held_at s place) view

  -- ---- a write to it

  module _ (v : Option ℕ) where
    pub slot_sound : IsHealed t v
        → IsSoundTable round cells es ways last room count index_room marked × IsSoundNaming round ways cells es
        (set slots place v)
    slot_sound leads = (
      sound.0,
      record {
        listed = sound.1.listed;
        begun = sound.1.begun;
        apart = sound.1.apart;
        rooted = each_set (leads_by round.good ways (occupants_of cells) true) slots place v
            (ap (λ (s : Table). leads_by s.round.good s.ways s.occupants true v) view ∙ leads) sound.1.rooted;
        led = sound.1.led;
        read = sound.1.read;
      },
    )

    pub slot_seen : {n : Option ℕ} → target_of t v ≡ n
        → seen_table round ways cells es (set slots place v) last room ≡ slotted t place n
    slot_seen {n} is =
        ap (λ ns. record (seen_table round ways cells es slots last room) { slots = ns }) (map-set name slots place v)
        ∙ ap (λ (s : Table). slotted s place (target_of s v)) view ∙ ap (slotted t place) is
