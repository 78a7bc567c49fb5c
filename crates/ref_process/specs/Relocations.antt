-- What a processor has of objects that have moved. A function says where the object of each handle is now.
use Rattle.std.specs.Prelude.{ℕ, List, map, Option, Some, None}
use Rattle.ref_process.specs.Desks.{Desk, unless_met, is_resting}
use Rattle.ref_process.specs.declared.fault.ProcessFault.{ProcessFault}
use Rattle.ref_process.specs.declared.fault.ProcessFault.TheVariants.{WrongPhase}
use Rattle.ref_process.specs.declared.place.Place.{Place}
use Rattle.ref_process.specs.declared.place.Reference.{Reference}

-- objects have moved: between cycles alone
abbrev pub relocation_refusal : Desk → Option ProcessFault
relocation_refusal d = unless_met (is_resting d.phase) WrongPhase None

module _ (to : ℕ → ℕ) where
  -- the handle that the object has now, if there is one
  abbrev pub relocated_handle : Option ℕ → Option ℕ
  relocated_handle None = None
  relocated_handle (Some h) = Some (to h)

  -- the reference with its owner and its referent where they are now; all else stays
  abbrev pub relocated_reference : Reference → Reference
  relocated_reference r = record r { owner = relocated_handle r.owner; referent = relocated_handle r.referent }

  abbrev pub relocated_held : Option Reference → Option Reference
  relocated_held None = None
  relocated_held (Some r) = Some (relocated_reference r)

  -- the place in its round, whose reference has moved
  abbrev pub relocated_place : Place → Place
  relocated_place p = record { round = p.round; held = relocated_held p.held }

  abbrev pub relocated_places : List Place → List Place
  relocated_places ps = map relocated_place ps

  -- the references of all places have moved; all else stays
  abbrev pub after_relocation : Desk → Desk
  after_relocation d = record d { places = relocated_places d.places }
