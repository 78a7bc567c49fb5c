-- What is still to move, as a table tells it, and what an object that moves leaves as it was.
use Rattle.ref_space.proofs.Common.{◌≡◌, ℕ, ◌<◌, ◌==◌, Bool, true, false, not, refl, sym, ap, subst, ◌∙◌}
use Rattle.ref_space.proofs.Common.{arith, List, [], ◌∷◌, ◌++◌, length, set, map, Option, Some, None, is_none, is_some}
use Rattle.ref_space.proofs.Common.{inl, inr}
use Rattle.ref_space.proofs.Common.{cases_Bool, slice_index_or, Tabled, Table, Entry, tabled_by, occupants_of}
use Rattle.ref_space.proofs.Common.{occupant_in}
use Rattle.ref_space.proofs.Common.{seen_table, target_by, target_of, leads_by, cell_at, place_by, length-map}
use Rattle.ref_space.proofs.Common.{IsSoundTable, IsSoundNaming, false≢true, if◌then◌else◌}
use Rattle.std.proofs.lemmas.Bool.{true≢false, and_parts}
use Rattle.std.proofs.lemmas.Option.{none-some, same_Some}
use Rattle.std.proofs.lemmas.List.{get_or-set_other}
use Rattle.std.proofs.Math.ListN.{get_or-map}
use Rattle.ref_base.specs.Members.{has}
use Rattle.ref_space.specs.Tables.{RoundView, with_read, read_if_good}
use Rattle.ref_space.specs.declared.word_name.WordName.{WordName}
use Rattle.ref_space.specs.ColouredWords.{is_in_colour}
use Rattle.ref_space.specs.Naming.{IsHealed, IsInColour}
use Rattle.ref_space.proofs.Common.{changed_if}
use Rattle.ref_space.specs.ColouredWords.{has_colour, recoloured}
use Rattle.ref_space.specs.Pages.{left_in, is_chosen_place, has_chosen, taken_in}
use Rattle.ref_space.specs.Moves.{Ways, AreFree, forward_of, ways_left}
use Rattle.ref_space.specs.Naming.{HasTarget, IsHealed, IsSettled, stays_at, moves_from, leads_from, occupant_at}
use Rattle.ref_space.specs.Naming.{way_of}
use Rattle.ref_space.specs.Tables.{brought, left_of, moved_from, numbers_at, without_number, without_if_any}
use Rattle.ref_space.specs.Tables.{place_of_number}
use Rattle.ref_space.proofs.FreeLemmas.{some-vacant}
use Rattle.ref_space.proofs.OccupantLemmas.{numbered, only_here}
use Rattle.ref_space.proofs.PlaceLemmas.{IsPlaceOf, is_of-some, lies_there}
use Rattle.ref_space.proofs.HealedWords.{one_colour}
use Rattle.ref_space.proofs.WayLemmas.{there_way}
use Rattle.ref_space.specs.Tables.{field_in_cell, field_held, has_field, on_object, tabled_if, tabled_reference}
use Rattle.ref_base.specs.CollectorRows.{referent_of}
use Rattle.ref_base.specs.Heaps.{with_field, with_reference}
use Rattle.ref_space.specs.Naming.{tabled_of, changed_of, with_referent, IsReferentRead}
use Rattle.ref_space.specs.Tables.{held_at, word_name}
use Rattle.ref_space.proofs.CellChanges.{field_again, referent_again, few_places, nothing_left}
use Rattle.ref_space.proofs.HealLemmas.{healed_held, recoloured-healed}
use Rattle.ref_space.proofs.MoveLemmas.{none_chosen}
use Rattle.ref_space.specs.Tables.{slotted, tabled_held, with_tabled, with_occupant}
use Rattle.ref_space.specs.Pages.{next_cell, place_in_frame, placing}
use Rattle.ref_space.proofs.PlaceUses.{next_is}
use Rattle.ref_space.proofs.ReserveLemmas.{keeps_placing}
use Rattle.ref_space.proofs.LeftPlaces.{left_kept}
use Rattle.ref_space.proofs.LeftNumbers.{numbers_same}
use Rattle.ref_space.specs.Tables.{tabled_at}
use Rattle.ref_space.proofs.NamingLemmas.{tabled_at-named}
use Rattle.ref_space.proofs.CellChanges.{some-named}
use Rattle.ref_space.proofs.ChangeLemmas.{there}
use Rattle.ref_space.specs.Worklists.{first_in}
use Rattle.ref_base.specs.Paths.{if_any}
use Rattle.ref_space.proofs.Common.{get_or, get_or_read, eq-eqb}
use Rattle.ref_space.proofs.LeftNumbers.{left_lies, left-given, leaves_none, none_left, number_left, numbers_without}
use Rattle.ref_space.proofs.LeftNumbers.{without-other}
use Rattle.ref_space.proofs.LeftPlaces.{is_left}
use Rattle.ref_space.proofs.MovedLemmas.{its, leads_still, named_still, occupants_now, within_to}
use Rattle.ref_space.proofs.PlaceUses.{chosen_place-with}
use Rattle.ref_space.specs.Pages.{page_at}
use Rattle.std.proofs.Common.{◌%◌}
use Rattle.std.proofs.lemmas.List.{get_or-set_same}

module _ {round : RoundView} {cells : List (Option Tabled)} {es : List Entry} {ways : Ways} {slots : List (Option ℕ)}
    {last room count index_room marked : ℕ}
    (sound : IsSoundTable round cells es ways last room count index_room marked
    × IsSoundNaming round ways cells es slots) {t : Table} (view : seen_table round ways cells es slots last room ≡ t)
  where
    abbrev os : List (Option ℕ)
    os = occupants_of cells

    abbrev free : AreFree (map is_none cells) ways.forwards ways.pages.uses
    free = sound.0.placed.free

    -- nothing is left where nothing has to move
    pub settled_left : t.ways.tuned ≡ true → left_of t ≡ []
    settled_left is_tuned =
        ap left_of (sym view)
        ∙ none_left free os (some-vacant cells)
        (sound.0.placed.settled (ap (λ (s : Table). s.ways.tuned) view ∙ is_tuned))

    pub left_settled : left_of t ≡ [] → IsSettled ways os
    left_settled none = leaves_none free os (some-vacant cells) (ap left_of view ∙ none)

    pub lying_at : (n q : ℕ) → slice_index_or os q None ≡ Some n → IsPlaceOf cells es n q
    lying_at n q here =
        lies_there sound.1.listed n q (cell_at cells q) refl (sym (get_or-map occupant_in cells q None) ∙ here)

    -- it is there
    pub lying_there : (n q : ℕ) → slice_index_or t.occupants q None ≡ Some n → is_some (tabled_at t.tabled n) ≡ true
    lying_there n q here =
        let place = lying_at n q (ap (λ (s : Table). slice_index_or s.occupants q None) view ∙ here) in
        ap (λ (s : Table). is_some (tabled_at s.tabled n)) (sym view)
        ∙ ap is_some (tabled_at-named (target_by ways os) (tabled_by cells es) n)
        ∙ some-named (target_by ways os) (tabled_at (tabled_by cells es) n)
        ∙ sym (there sound.0.placed place)

    -- one is left just where it lies in a chosen page
    module _ {n p : ℕ} (place : IsPlaceOf cells es n p) where
      own_number : occupant_in (cell_at cells p) ≡ Some n
      own_number = let k = is_of-some (cell_at cells p) n place.own in ap occupant_in k.1 ∙ ap Some k.2

      own_lies : slice_index_or os p None ≡ Some n
      own_lies = get_or-map occupant_in cells p None ∙ own_number

      own_once : (q : ℕ) → slice_index_or os q None ≡ Some n → q ≡ p
      own_once q here =
          only_here cells es n p sound.1.listed place.listed own_number q (cell_at cells q) refl
          (sym (get_or-map occupant_in cells q None) ∙ here)

      pub number_place : place_of_number t.occupants n ≡ p
      number_place =
          ap (λ (s : Table). place_of_number s.occupants n) (sym view)
          ∙ numbered cells es n p sound.1.listed place.listed own_number

      pub left_number : has (left_of t) n ≡ is_chosen_place ways.pages.uses p
      left_number =
          ap (λ (s : Table). has (left_of s) n) (sym view)
          ∙ number_left free os (some-vacant cells) p n
          (let within = place.within in omega (arith, within, length-map cells is_none)) own_lies own_once

      -- what needn't move is as it was
      pub brought_still : is_chosen_place ways.pages.uses p ≡ false → brought t (Some n) ≡ t
      brought_still stays =
          ap (λ b. if b then moved_from t (place_of_number t.occupants n) else t) (left_number ∙ stays)

      pub left_still : is_chosen_place ways.pages.uses p ≡ false → without_number (left_of t) n ≡ left_of t
      left_still stays = without-other (left_of t) n (left_number ∙ stays)

      -- what has to move does
      pub brought_moved : is_chosen_place ways.pages.uses p ≡ true → moved_from t p ≡ brought t (Some n)
      brought_moved leaves =
          ap (moved_from t) (sym number_place)
          ∙ sym (ap (λ b. if b then moved_from t (place_of_number t.occupants n) else t) (left_number ∙ leaves))

      -- it lies where it was to go, which needn't move
      module _ (leaves : is_chosen_place ways.pages.uses p ≡ true) {to : ℕ} (goes : to ≡ forward_of ways.forwards p)
          {s : Table} (new : s ≡ moved_from t p) where
        pub moved_lies : slice_index_or s.occupants to None ≡ Some n
        moved_lies =
            ap (λ q. slice_index_or s.occupants q None) goes
            ∙ ap (λ (r : Table). slice_index_or r.occupants (forward_of ways.forwards p) None) new
            ∙ ap (λ (r : Table). slice_index_or (moved_from r p).occupants (forward_of ways.forwards p) None) (sym view)
            ∙ get_or-set_other (set os (forward_of ways.forwards p) (slice_index_or os p None)) p
            (forward_of ways.forwards p) None None
            (λ same.
            true≢false (sym leaves ∙ ap (is_chosen_place ways.pages.uses) (sym same)
            ∙ (its sound.0.placed place leaves).stays))
            ∙ get_or-set_same os (forward_of ways.forwards p) (slice_index_or os p None) None
            (let within = within_to sound.0.placed place leaves in
            omega (arith, within, length-map cells occupant_in))
            ∙ own_lies

        pub moved_stays : is_chosen_place s.ways.pages.uses to ≡ false
        moved_stays =
            ap (is_chosen_place s.ways.pages.uses) goes
            ∙ ap (λ (r : Table). is_chosen_place r.ways.pages.uses (forward_of ways.forwards p)) new
            ∙ ap (λ (r : Table). is_chosen_place (moved_from r p).ways.pages.uses (forward_of ways.forwards p))
            (sym view)
            ∙ chosen_place-with ways.pages.uses (page_at ways.pages.uses p) (p % 64) true (forward_of ways.forwards p)
            ∙ (its sound.0.placed place leaves).stays

      -- it is left no more
      pub left_moved : is_chosen_place ways.pages.uses p ≡ true
          → left_of (moved_from t p) ≡ without_number (left_of t) n
      left_moved leaves =
          ap (λ (s : Table). left_of (moved_from s p)) (sym view)
          ∙ ap (numbers_at after) (left-given ways.pages.uses free.framed free.whole p leaves)
          ∙ numbers_without os after p n (left_in ways.pages.uses) same own_once own_lies
          ∙ ap (λ (s : Table). without_number (left_of s) n) view
        where
          after : List (Option ℕ)
          after = set (set os (forward_of ways.forwards p) (slice_index_or os p None)) p None

          same : (q : ℕ) → has (left_in ways.pages.uses) q ≡ true → (q ≡ p → ⊥)
              → slice_index_or after q None ≡ slice_index_or os q None
          same q in_it not_from =
              let chosen = (is_left ways.pages.uses free.framed free.whole q in_it).chosen in
              let stays = (its sound.0.placed place leaves).stays in
              get_or-set_other (set os (forward_of ways.forwards p) (slice_index_or os p None)) p q None None not_from
              ∙ get_or-set_other os (forward_of ways.forwards p) q (slice_index_or os p None) None
              (λ same. true≢false (sym chosen ∙ ap (is_chosen_place ways.pages.uses) same ∙ stays))

      -- each word leads where it led
      pub kept_moved : is_chosen_place ways.pages.uses p ≡ true → {s : Table} → s ≡ moved_from t p → (v : Option ℕ)
          → HasTarget t v → (target_of s v ≡ target_of t v) × HasTarget s v
      kept_moved leaves {s} new v has_target =
          subst (λ (r : Table). (target_of r v ≡ target_of t v) × HasTarget r v) (sym new)
          (subst (λ (r : Table). (target_of (moved_from r p) v ≡ target_of r v) × HasTarget (moved_from r p) v) view (
            ap (λ xs. target_by (ways_left ways p) xs v) moved_os
                ∙ named_still sound.0.placed place leaves refl refl sound.1 false v led,
            ap (λ xs. leads_by round.good (ways_left ways p) xs false v) moved_os
                ∙ leads_still sound.0.placed place leaves refl refl sound.1 false v led,
          ))
        where
          led : leads_by round.good ways os false v ≡ true
          led = subst (λ (r : Table). HasTarget r v) (sym view) has_target

          moved_os : set (set os (forward_of ways.forwards p) (slice_index_or os p None)) p None
              ≡ occupants_of (set (set cells p None) (forward_of ways.forwards p) (cell_at cells p))
          moved_os =
              ap (λ o. set (set os (forward_of ways.forwards p) o) p None) own_lies
              ∙ sym (occupants_now sound.0.placed place leaves refl refl)

    -- ---- words

    -- a word of the good colour leads to what needn't move
    record LeadsHere (v : Option ℕ) : Type 0 where
      pub at : ℕ
      pub place : place_by v ≡ Some at
      pub stays : stays_at ways os at ≡ true

    stays_good : (w q : ℕ) → has_colour round.good (Some w) ≡ true
        → leads_from ways os (has_colour ways.last (Some w)) (Some q) ≡ true → stays_at ways os q ≡ true
    stays_good w q colour from =
        elim (cases_Bool (stays_at ways os q)) [
          | inl here ↦ here
          | inr goes ↦
              let moves = and_parts (has_colour ways.last (Some w)) (moves_from ways os q) (simp goes at from) in
              let chosen = (and_parts (is_chosen_place ways.pages.uses q) _ moves.1).0 in
              absurd (sound.1.apart q chosen (one_colour w ways.last round.good moves.0 colour))
        ]

    good_here : (w : ℕ) → leads_by round.good ways os false (Some w) ≡ true → has_colour round.good (Some w) ≡ true
        → LeadsHere (Some w)
    good_here w led colour =
        by (place_by (Some w)) refl
        (and_parts (leads_from ways os (has_colour ways.last (Some w)) (place_by (Some w))) _ led).0
      where
        by : (at : Option ℕ) → place_by (Some w) ≡ at
            → leads_from ways os (has_colour ways.last (Some w)) (place_by (Some w)) ≡ true → LeadsHere (Some w)
        by None at from =
            absurd (false≢true (sym (ap (leads_from ways os (has_colour ways.last (Some w))) at) ∙ from))
        by (Some q) at from =
            record {
              at = q;
              place = at;
              stays = stays_good w q colour (sym (ap (leads_from ways os (has_colour ways.last (Some w))) at) ∙ from);
            }

    -- so nothing moves for what lies in an open page
    pub stays_there : (p : ℕ) (o : Option ℕ) → is_some (slice_index_or t.occupants p None) ≡ true
        → slice_index_or t.occupants p None ≡ o → is_chosen_place ways.pages.uses p ≡ false
        → (brought t o ≡ t) × (without_if_any (left_of t) o ≡ left_of t)
    stays_there p None some is stays = absurd (false≢true (sym (ap is_some is) ∙ some))
    stays_there p (Some n) some is stays =
        let place = lying_at n p (ap (λ (s : Table). slice_index_or s.occupants p None) view ∙ is) in
        (brought_still place stays, left_still place stays)

    -- nor for a word of the good colour
    pub good_stays : (v : Option ℕ) → HasTarget t v → has_colour t.round.good v ≡ true
        → (brought t (target_of t v) ≡ t) × (without_if_any (left_of t) (target_of t v) ≡ left_of t)
    good_stays None has_target colour = absurd (false≢true colour)
    good_stays (Some w) has_target colour =
        let here = good_here w (subst (λ (s : Table). HasTarget s (Some w)) (sym view) has_target)
        (ap (λ (s : Table). has_colour s.round.good (Some w)) view ∙ colour) in
        let there = and_parts (is_some (slice_index_or os here.at None)) (not (is_chosen_place ways.pages.uses here.at))
        here.stays in
        let occupant = ap (λ (s : Table). slice_index_or s.occupants here.at None) (sym view) in
        stays_there here.at (target_of t (Some w)) (ap is_some occupant ∙ there.0)
        (occupant
        ∙ sym (ap (λ o. occupant_at os (way_of ways os o)) here.place
        ∙ ap (λ q. slice_index_or os q None) (there_way ways os here.at there.0))
        ∙ ap (λ (s : Table). target_of s (Some w)) view)
        (not_true (is_chosen_place ways.pages.uses here.at) there.1)
      where
        not_true : (b : Bool) → not b ≡ true → b ≡ false
        not_true true is = absurd (false≢true is)
        not_true false is = refl

    -- ---- where no page is chosen

    module _ (none : has_chosen ways.pages.uses ≡ false) where
      none_left_of : left_of t ≡ []
      none_left_of =
          ap left_of (sym view)
          ∙ ap (λ frames. numbers_at os (taken_in ways.pages.uses frames)) (none_chosen ways.pages.uses none)

      -- nothing moves
      pub nothing_moves : (n : Option ℕ) → (brought t n ≡ t) × (without_if_any (left_of t) n ≡ left_of t)
      nothing_moves None = (refl, refl)
      nothing_moves (Some n) = (
        ap (λ ns. if has ns n then moved_from t (place_of_number t.occupants n) else t) none_left_of,
        ap (λ ns. without_number ns n) none_left_of ∙ sym none_left_of,
      )

      -- and a word leads where it led once it has the good colour
      pub recoloured_held : (v : Option ℕ) → HasTarget t v
          → (target_of t (recoloured round.good v) ≡ target_of t v) × IsHealed t (recoloured round.good v)
      recoloured_held v has_target =
          subst (λ (s : Table).
          (target_of s (recoloured round.good v) ≡ target_of s v) × IsHealed s (recoloured round.good v)) view
          (subst (λ w. (target_by ways os w ≡ target_by ways os v) × (leads_by round.good ways os true w ≡ true))
          (sym (recoloured-healed round.good round.good ways os none false v led))
          (healed_held round.good ways os (nothing_left sound none) (few_places sound) round.good false v led))
        where
          led : leads_by round.good ways os false v ≡ true
          led = subst (λ (s : Table). HasTarget s v) (sym view) has_target

    -- ---- what is read of a cell

    pub number_at : (p : ℕ) {cell : Option Tabled} {number n : Option ℕ} → p < length cells
        → cell ≡ get_or cells p cell → number ≡ occupant_in cell → number ≡ n → slice_index_or t.occupants p None ≡ n
    number_at p {cell} within read told is =
        ap (λ (s : Table). slice_index_or s.occupants p None) (sym view) ∙ get_or-map occupant_in cells p None
        ∙ ap occupant_in (sym (get_or_read cells p cell within read None)) ∙ sym told ∙ is

    -- ---- the first that is left

    pub record IsFirstLeft (p : ℕ) : Type 0 where
      pub within : p < length cells
      pub leaves : is_chosen_place ways.pages.uses p ≡ true
      pub no : ℕ
      pub lies : slice_index_or t.occupants p None ≡ Some no
      pub first : first_in (left_of t) ≡ Some no

    first_there : (places : List ℕ) (p : ℕ) → first_in places ≡ Some p → has places p ≡ true
    first_there [] p is = absurd (none-some p is)
    first_there (q ∷ places) p is =
        let same : (q == p) ≡ true = eq-eqb q p (same_Some q p is) in simp same refl

    first_number : (places : List ℕ) (p n : ℕ) → first_in places ≡ Some p → slice_index_or os p None ≡ Some n
        → first_in (numbers_at os places) ≡ Some n
    first_number [] p n is here = absurd (none-some p is)
    first_number (q ∷ places) p n is here =
        let first : slice_index_or os q None ≡ Some n =
        ap (λ (o : Option ℕ). occupant_at os o) (let l : Option ℕ = Some q in is) ∙ here in
        ap (λ o. first_in (if_any o ++ numbers_at os places)) first

    pub first_left_is : (p : ℕ) → first_in (left_in ways.pages.uses) ≡ Some p → IsFirstLeft p
    first_left_is p is =
        by (slice_index_or os p None) refl
      where
        in_it : has (left_in ways.pages.uses) p ≡ true
        in_it = first_there (left_in ways.pages.uses) p is

        by : (o : Option ℕ) → slice_index_or os p None ≡ o → IsFirstLeft p
        by None none =
            absurd (false≢true (sym (ap is_some none) ∙ left_lies free os (some-vacant cells) p in_it))
        by (Some n) here =
            let its_place = is_left ways.pages.uses free.framed free.whole p in_it in
            record {
              within = let small = its_place.within in omega (arith, small, free.sized, length-map cells is_none);
              leaves = its_place.chosen;
              no = n;
              lies = ap (λ (s : Table). slice_index_or s.occupants p None) (sym view) ∙ here;
              first = ap (λ (s : Table). first_in (left_of s)) (sym view)
                  ∙ first_number (left_in ways.pages.uses) p n is here;
            }

    pub none_is_left : first_in (left_in ways.pages.uses) ≡ None → first_in (left_of t) ≡ None
    none_is_left none =
        ap (λ (s : Table). first_in (left_of s)) (sym view)
        ∙ ap (λ places. first_in (numbers_at os places)) (nothing (left_in ways.pages.uses) none)
      where
        nothing : (places : List ℕ) → first_in places ≡ None → places ≡ []
        nothing [] none = refl
        nothing (p ∷ places) none = absurd (none-some p (sym none))

    pub some_is_left : is_some (first_in (left_in ways.pages.uses)) ≡ is_some (first_in (left_of t))
    some_is_left = by (first_in (left_in ways.pages.uses)) refl
      where
        by : (at : Option ℕ) → first_in (left_in ways.pages.uses) ≡ at
            → is_some (first_in (left_in ways.pages.uses)) ≡ is_some (first_in (left_of t))
        by None is = ap is_some is ∙ sym (ap is_some (none_is_left is))
        by (Some p) is = ap is_some is ∙ sym (ap is_some (first_left_is p is).first)

    -- a new object is none of what is left
    pub left_made : (into : ℕ) (k : Tabled) (at : ℕ × ℕ) → next_cell ways.pages.uses ≡ Some at
        → left_of (with_tabled t into k) ≡ left_of t
    left_made into k at next =
        ap (λ (s : Table). left_of (with_tabled s into k)) (sym view)
        ∙ ap (λ o. numbers_at (with_occupant os o k.object.no) (left_in (placing ways.pages.uses))) next
        ∙ ap (numbers_at (set os (place_in_frame at) (Some k.object.no)))
        (left_kept ways.pages.uses (placing ways.pages.uses) free.framed free.whole (keeps_placing ways.pages.uses))
        ∙ numbers_same os (set os (place_in_frame at) (Some k.object.no)) (left_in ways.pages.uses)
        (λ q in_it.
        get_or-set_other os (place_in_frame at) q (Some k.object.no) None
        (λ same.
        true≢false (sym (is_left ways.pages.uses free.framed free.whole q in_it).chosen
        ∙ ap (is_chosen_place ways.pages.uses) same
        ∙ (next_is ways.pages.uses free.framed free.whole at next).stays)))
        ∙ ap left_of view

-- ---- what is loaded has moved

pub tabled_brought : (t : Table) (n : Option ℕ) → (brought t n).tabled ≡ t.tabled
tabled_brought t None = refl
tabled_brought t (Some n) =
    elim (cases_Bool (has (left_of t) n)) [ inl leaves ↦ simp leaves refl | inr stays ↦ simp stays refl ]

pub slots_brought : (t : Table) (n : Option ℕ) → (brought t n).slots ≡ t.slots
slots_brought t None = refl
slots_brought t (Some n) =
    elim (cases_Bool (has (left_of t) n)) [ inl leaves ↦ simp leaves refl | inr stays ↦ simp stays refl ]

pub held_is : (c : Option Tabled) (i : ℕ) {v : Option ℕ} → Some v ≡ field_in_cell c i → v ≡ field_held c i
held_is c i {v} is =
    elim (cases_Bool (has_field c i)) [
      | inl there ↦ ap or_null (simp there at is)
      | inr past ↦ absurd (none_is (simp past at is))
    ]
  where
    or_null : Option (Option ℕ) → Option ℕ
    or_null None = None
    or_null (Some v) = v

    none_is : {v : Option ℕ} → (let l : Option (Option ℕ) = Some v in l) ≡ None → ⊥
    none_is same = false≢true (sym (ap is_some same))

module _ (old mid : Table) (value object : Option ℕ) (after : mid ≡ brought old (target_of old value))
    (kept : (v : Option ℕ) → HasTarget old v → (target_of mid v ≡ target_of old v) × HasTarget mid v)
    (value_led : HasTarget old value) (object_led : HasTarget old object) where
  tabled_still : tabled_of mid object ≡ tabled_of old object
  tabled_still =
      ap (tabled_if mid.tabled) (kept object object_led).0
      ∙ ap (λ ks. tabled_if ks (target_of old object))
      (ap (λ (t : Table). t.tabled) after ∙ tabled_brought old (target_of old value))

  module _ (healed : Option ℕ) (named : target_of mid healed ≡ target_of mid value) where
    pub healed_named : target_of mid healed ≡ target_of old value
    healed_named = named ∙ (kept value value_led).0

    pub field_loaded_is : (i : ℕ) → Some (target_of old value) ≡ field_in_cell (tabled_of old object) i → {new : Table}
        → new ≡ changed_of mid object (on_object (with_field i (target_of mid healed))) → new ≡ mid
    field_loaded_is i held new_is =
        new_is
        ∙ field_again mid object i (target_of mid healed)
        (ap Some healed_named ∙ held ∙ ap (λ c. field_in_cell c i) (sym tabled_still))

    pub referent_loaded_is : target_of old value ≡ referent_of (tabled_reference (tabled_of old object)) → {new : Table}
        → new ≡ changed_of mid object (on_object (with_reference (with_referent (target_of mid healed)))) → new ≡ mid
    referent_loaded_is held new_is =
        new_is
        ∙ referent_again mid object (target_of mid healed)
        (healed_named ∙ held ∙ ap (λ c. referent_of (tabled_reference c)) (sym tabled_still))

no_field : (c : Option Tabled) (i : ℕ) → None ≡ field_in_cell c i → has_field c i ≡ false
no_field c i none =
    elim (cases_Bool (has_field c i)) [
      | inl there ↦ absurd (false≢true (ap is_some (simp there at none)))
      | inr past ↦ past
    ]

has_it : (c : Option Tabled) (i : ℕ) {n : Option ℕ} → Some n ≡ field_in_cell c i → has_field c i ≡ true
has_it c i held =
    elim (cases_Bool (has_field c i)) [
      | inl there ↦ there
      | inr past ↦ absurd (false≢true (sym (ap is_some (simp past at held))))
    ]

-- ---- the word that was read last

read_brought : (t : Table) (n : Option ℕ) (word : Option WordName)
    → with_read (brought t n) word ≡ brought (with_read t word) n
read_brought t None word = refl
read_brought t (Some n) word =
    elim (cases_Bool (has (left_of t) n)) [ inl leaves ↦ simp leaves refl | inr stays ↦ simp stays refl ]

read_changed_if : (t : Table) (n : Option ℕ) (f : Tabled → Tabled) (word : Option WordName)
    → changed_if (with_read t word) n f ≡ with_read (changed_if t n f) word
read_changed_if t None f word = refl
read_changed_if t (Some n) f word = refl

-- a word that was read stays so once it is read again
pub read_again : (t : Table) (name : Option WordName) (v : Option ℕ) {s : Table}
    → s ≡ with_read t (read_if_good t.round name (Some v)) → s ≡ with_read s (read_if_good s.round name (Some v))
read_again t name v {s} read =
    subst (λ (r : Table). r ≡ with_read r (read_if_good r.round name (Some v))) (sym read)
    (by (is_in_colour t.round.good v))
  where
    by : (b : Bool) → with_read t (if b then name else t.round.read)
        ≡ with_read t (if b then name else if b then name else t.round.read)
    by true = refl
    by false = refl

-- what was read of the reference that a slot holds
pub referent_is_read : (t : Table) (place : ℕ) (object v : Option ℕ) → target_of t object ≡ held_at t place
    → {s : Table} → s ≡ with_read t (read_if_good t.round (word_name (target_of t object) None) (Some v))
    → HasTarget s v → target_of s v ≡ referent_of (tabled_reference (tabled_of s object)) → IsReferentRead s place v
referent_is_read t place object v named {s} read led held = record {
  led = led;
  held = held ∙ ap (λ d. referent_of (tabled_reference (tabled_if s.tabled d))) here;
  read = read_again t (word_name (target_of t object) None) v read
      ∙ ap (λ d. with_read s (read_if_good s.round (word_name d None) (Some v))) (named ∙ there_too);
}
  where
    here : target_of s object ≡ held_at s place
    here = subst (λ (r : Table). target_of r object ≡ held_at r place) (sym read) named

    there_too : held_at t place ≡ held_at s place
    there_too = subst (λ (r : Table). held_at t place ≡ held_at r place) (sym read) refl

-- a field is loaded: its word is the one that was read last, and nothing changes where there is no such field
abbrev pub field_loaded : Table → Option WordName → Option Tabled → ℕ → Table
field_loaded t word c i = if has_field c i then brought (with_read t word) (field_held c i) else t

-- a word is loaded, which led where this value does in a table: it is good then, its object has moved, and its name is
-- the one of the word that was read last
pub record IsLoaded (t : Table) (name : Option WordName) (value : Option ℕ) (new : Table) (word : Option ℕ) : Type 0
  where
    pub named : target_of new word ≡ target_of t value
    pub healed : IsHealed new word
    pub good : IsInColour new.round.good word
    pub after : new ≡ brought (with_read t name) (target_of t value)
    pub left : left_of new ≡ without_if_any (left_of t) (target_of t value)

module _ (t old : Table) (name : Option WordName) (value : Option ℕ)
    (read : old ≡ with_read t (read_if_good t.round name (Some value))) where
  -- a good one is loaded as it is
  pub good_loaded : IsHealed old value → IsInColour old.round.good value → brought old (target_of old value) ≡ old
      → without_if_any (left_of old) (target_of old value) ≡ left_of old → IsLoaded t name value old value
  good_loaded healed good stays left = record {
    named = ap (λ (s : Table). target_of s value) read;
    healed = healed;
    good = good;
    after = sym stays
        ∙ ap (λ (s : Table). brought s (target_of s value))
        (read ∙ ap (λ b. with_read t (if b then name else t.round.read))
        (ap (λ (s : Table). is_in_colour s.round.good value) (sym read) ∙ good));
    left = sym left ∙ ap (λ (s : Table). without_if_any (left_of s) (target_of s value)) read;
  }

  -- and another is healed, once its object has moved
  pub healed_loaded : (mid : Table) (object : Option ℕ) (f : Tabled → Tabled) → mid ≡ brought old (target_of old value)
      → changed_of mid object f ≡ mid → {called : Option WordName} → called ≡ name → {new : Table}
      → new ≡ changed_of (with_read mid called) object f → (word : Option ℕ)
      → target_of mid word ≡ target_of old value → IsHealed mid word → IsInColour mid.round.good word
      → left_of mid ≡ without_if_any (left_of old) (target_of old value) → IsLoaded t name value new word
  healed_loaded mid object f moved again {called} same {new} new_is word named healed good left = record {
    named = ap (λ (s : Table). target_of s word) is ∙ named ∙ ap (λ (s : Table). target_of s value) read;
    healed = subst (λ (s : Table). IsHealed s word) (sym is) healed;
    good = subst (λ (s : Table). IsInColour s.round.good word) (sym is) good;
    after = is
        ∙ ap (λ (s : Table). with_read s called) (moved ∙ ap (λ (s : Table). brought s (target_of s value)) read)
        ∙ read_brought (with_read t (read_if_good t.round name (Some value))) (target_of t value) called
        ∙ ap (λ w. brought (with_read t w) (target_of t value)) same;
    left = ap left_of is ∙ left ∙ ap (λ (s : Table). without_if_any (left_of s) (target_of s value)) read;
  }
    where
      is : new ≡ with_read mid called
      is =
          new_is ∙ read_changed_if mid (target_of mid object) f called ∙ ap (λ (s : Table). with_read s called) again

pub slots_loaded : (t : Table) (word : Option WordName) (c : Option Tabled) (i : ℕ)
    → (field_loaded t word c i).slots ≡ t.slots
slots_loaded t word c i =
    elim (cases_Bool (has_field c i)) [
      | inl there ↦ simp there (slots_brought (with_read t word) (field_held c i))
      | inr past ↦ simp past refl
    ]

pub field_loaded_by : (t : Table) (word : Option WordName) (c : Option Tabled) (i : ℕ) {n : Option ℕ}
    → Some n ≡ field_in_cell c i → brought (with_read t word) n ≡ field_loaded t word c i
field_loaded_by t word c i held =
    ap (brought (with_read t word)) (held_is c i held)
    ∙ sym (ap (λ b. if b then brought (with_read t word) (field_held c i) else t) (has_it c i held))

-- where there is such a field, the slot holds what it does, and else nothing changes
module _ (t : Table) (word : Option WordName) (into from i : ℕ) (c : Option Tabled) (is : c ≡ tabled_held t from) where
  abbrev pub after_load : Table
  after_load =
      if has_field (tabled_held t from) i
      then slotted (brought (with_read t word) (field_held (tabled_held t from) i)) into
      (field_held (tabled_held t from) i)
      else t

  pub not_loaded : {s : Table} → None ≡ field_in_cell c i → s ≡ field_loaded t word c i → s ≡ after_load
  not_loaded none new =
      new ∙ ap (λ b. if b then brought (with_read t word) (field_held c i) else t) (no_field c i none)
      ∙ sym (ap (λ b. if b
      then slotted (brought (with_read t word) (field_held (tabled_held t from) i)) into
      (field_held (tabled_held t from) i) else t)
      (no_field (tabled_held t from) i (none ∙ ap (λ d. field_in_cell d i) is)))

  pub loaded : {s mid : Table} {n : Option ℕ} → Some n ≡ field_in_cell c i → mid ≡ field_loaded t word c i
      → s ≡ slotted mid into n → s ≡ after_load
  loaded {s} {mid} {n} held moved new =
      new ∙ ap (λ m. slotted m into n) (moved ∙ sym (field_loaded_by t word c i held))
      ∙ ap (λ n. slotted (brought (with_read t word) n) into n) (held_is c i held)
      ∙ ap (λ d. slotted (brought (with_read t word) (field_held d i)) into (field_held d i)) is
      ∙ sym (ap (λ b. if b
      then slotted (brought (with_read t word) (field_held (tabled_held t from) i)) into
      (field_held (tabled_held t from) i) else t)
      (ap (λ d. has_field d i) (sym is) ∙ has_it c i held))
