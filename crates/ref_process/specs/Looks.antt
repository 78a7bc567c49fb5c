-- What a reference reads as, and what looking at one does. A test says which handles are marked.
use Rattle.std.specs.Prelude.{ℕ, ◌-◌, Bool, true, false, not, ◌&&◌, ◌==◌, if◌then◌else◌, is_some}
use Rattle.std.specs.Prelude.{List, [], ◌∷◌, ◌++◌, Option, Some, None}
use Rattle.ref_base.specs.Paths.{is_soft, is_phantom}
use Rattle.ref_process.specs.Desks.{Desk, FinderLists}
use Rattle.ref_process.specs.Places.{reference_under, put_at}
use Rattle.ref_process.specs.declared.key.Key.{Key}
use Rattle.ref_process.specs.declared.looked.Looked.{Looked}
use Rattle.ref_process.specs.declared.looked.Looked.TheVariants.{Cleared, Kept, Skipped}
use Rattle.ref_process.specs.declared.phase.Phase.{Phase}
use Rattle.ref_process.specs.declared.phase.Phase.TheVariants.{Idle, Marking, Clearing}
use Rattle.ref_process.specs.declared.place.Place.{Place}
use Rattle.ref_process.specs.declared.place.Reference.{Reference}

-- the two handles are there and one, or neither is
abbrev pub same_referent : Option ℕ → Option ℕ → Bool
same_referent None None = true
same_referent None (Some h) = false
same_referent (Some h) None = false
same_referent (Some h) (Some g) = h == g

module _ (marked : ℕ → Bool) where
  -- the handle, where it is marked
  abbrev pub if_marked : Option ℕ → Option ℕ
  if_marked None = None
  if_marked (Some h) = if marked h then Some h else None

  -- what a referent reads as: in Clearing, what isn't marked reads as null
  abbrev pub reads_in : Phase → Option ℕ → Option ℕ
  reads_in Idle referent = referent
  reads_in Marking referent = referent
  reads_in Clearing referent = if_marked referent

  -- what the reference of a key reads as
  abbrev pub reads : Desk → Option Reference → Option ℕ
  reads d None = None
  reads d (Some r) = reads_in d.phase r.referent

  -- what `get` answers: null of a phantom one
  abbrev pub got_of : Desk → Option Reference → Option ℕ
  got_of d None = None
  got_of d (Some r) = if is_phantom r.strength then None else reads_in d.phase r.referent

  -- a soft one that is got has the stamp of now
  abbrev pub after_get : Desk → Key → Option Reference → Desk
  after_get d k None = d
  after_get d k (Some r) =
      if is_soft r.strength && is_some (reads_in d.phase r.referent)
      then record d { places = put_at d.places k (record r { stamp = d.policy.clock }) }
      else d

  -- what `refers_to` answers
  abbrev pub refers_to : Desk → Option Reference → Option ℕ → Bool
  refers_to d r to = same_referent (reads d r) to

  -- a reference of which nothing reads as null has no referent
  abbrev pub cut_in : Phase → Reference → Reference
  cut_in phase r = if is_some (reads_in phase r.referent) then record r { referent = None } else r

  abbrev pub after_clear : Desk → Key → Option Reference → Desk
  after_clear d k None = d
  after_clear d k (Some r) = record d { places = put_at d.places k (cut_in d.phase r) }

  -- ---- looking at what was found

  -- there is a referent, and it isn't marked
  abbrev pub is_dying : Option ℕ → Bool
  is_dying None = false
  is_dying (Some h) = not (marked h)

  abbrev pub look_through : Key → Option ℕ → Looked
  look_through k None = Skipped k
  look_through k (Some h) = if marked h then Kept k else Cleared k

  -- what looking at a key answers, by its reference
  abbrev pub look_at : Key → Option Reference → Looked
  look_at k None = Skipped k
  look_at k (Some r) = look_through k r.referent

  -- what looking at the first that was found answers
  abbrev pub look_first : List Place → List Key → Option Looked
  look_first ps [] = None
  look_first ps (k ∷ ks) = Some (look_at k (reference_under ps k))

  -- a reference whose referent isn't marked is cleared, and pending if it has a queue
  abbrev pub after_look_at : Desk → Key → Option Reference → Desk
  after_look_at d k None = d
  after_look_at d k (Some r) =
      if is_dying r.referent
      then record d { places = put_at d.places k (record r { referent = None; is_pending = is_some r.queue }) }
      else d

  abbrev pub lists_look_at : FinderLists → ℕ → Key → Option Reference → FinderLists
  lists_look_at f cycle k None = f
  lists_look_at f cycle k (Some r) =
      if is_dying r.referent && is_some r.queue
      then record f { pending = f.pending ++ record { key = k; cycle = cycle } ∷ [] }
      else f

  -- the desk and the finder after a look at the first that was found
  abbrev pub after_look : Desk → List Key → Desk
  after_look d [] = d
  after_look d (k ∷ ks) = after_look_at (record d { listed = d.listed - 1 }) k (reference_under d.places k)

  abbrev pub lists_look : Desk → FinderLists → List Key → FinderLists
  lists_look d f [] = f
  lists_look d f (k ∷ ks) = lists_look_at (record f { found = ks }) d.cycle k (reference_under d.places k)
