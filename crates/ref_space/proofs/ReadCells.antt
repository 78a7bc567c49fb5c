-- A word that is written in the good colour, and counts as read then.
use Rattle.ref_space.proofs.Common.{◌≡◌, ℕ, List, Option, Some, None, refl, sym, ◌∙◌, ap, set, get_or, subst, true}
use Rattle.ref_space.proofs.Common.{get_or-set_same, get_or_read, Tabled, Entry, cell_at, option_map, occupant_in}
use Rattle.ref_space.proofs.Common.{IsSoundTable, IsSoundNaming, leads_by, occupants_of}
use Rattle.ref_space.proofs.PlaceLemmas.{IsPlaceOf, is_of-some, lies_there}
use Rattle.ref_space.proofs.NamingLemmas.{Keeps}
use Rattle.ref_space.proofs.CellChanges.{sound_there}
use Rattle.ref_space.proofs.ReadLemmas.{none_read, read_there, same_value, sound_read, sound_unread}
use Rattle.ref_space.specs.declared.word_name.WordName.{WordName}
use Rattle.ref_space.specs.Tables.{RoundView, word_in, word_name}
use Rattle.ref_space.specs.ColouredWords.{is_in_colour}
use Rattle.ref_space.specs.Moves.{Ways}

module _ {round : RoundView} {cells : List (Option Tabled)} {es : List Entry} {ways : Ways}
    {slots : List (Option ℕ)} {last room count index_room marked : ℕ}
    (sound : IsSoundTable round cells es ways last room count index_room marked
    × IsSoundNaming round ways cells es slots) {n p : ℕ} (place : IsPlaceOf cells es n p) (f : Tabled → Tabled)
    (keeps : (k : Tabled) → (f k).object.no ≡ k.object.no) {old new : Option Tabled} (was : old ≡ get_or cells p old)
    (is : new ≡ option_map f old) (holds : Keeps round.number (leads_by round.good ways (occupants_of cells)) f)
    (marks : (k : Tabled) → (f k).marked_in ≡ k.marked_in) where
  -- no word counts as read
  pub sound_then : {word : Option WordName} → word ≡ None
      → IsSoundTable (record round { read = word }) (set cells p new) es ways last room count index_room marked
      × IsSoundNaming (record round { read = word }) ways (set cells p new) es slots
  sound_then {word} none =
      sound_there (sound_unread sound none) place f f keeps was is holds
      (λ k read. none_read (record round { read = word }) none (f k)) marks

  own : (k : Tabled) × (cell_at cells p ≡ Some k) × (k.object.no ≡ n)
  own = is_of-some (cell_at cells p) n place.own

  written : new ≡ Some (f own.0)
  written = is ∙ ap (option_map f) (get_or_read cells p old place.within was None ∙ own.1)

  then_there : cell_at (set cells p new) p ≡ new
  then_there = get_or-set_same cells p new None place.within

  -- or the one that was written
  pub sound_written : (field : Option ℕ) → ((k : Tabled) → is_in_colour round.good (word_in field (f k).object) ≡ true)
      → {word : Option WordName} → word ≡ word_name (Some n) field
      → IsSoundTable (record round { read = word }) (set cells p new) es ways last room count index_room marked
      × IsSoundNaming (record round { read = word }) ways (set cells p new) es slots
  sound_written field good {word} named =
      let listed = (sound_then refl).1.listed in
      sound_read (sound_then refl) word
      (read_there listed
      (lies_there listed n p new then_there (ap occupant_in written ∙ ap Some (keeps own.0 ∙ own.2)))
      (record round { read = word }) field named
      (λ k at. subst (λ l. is_in_colour round.good (word_in field l.object) ≡ true)
      (same_value (sym written ∙ sym then_there ∙ at)) (good own.0)))
