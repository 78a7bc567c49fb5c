-- What closed gaps and a new object do to a table's fields.
use Rattle.ref_space.proofs.Common.{◌≡◌, ℕ, ◌+◌, ◌*◌, ◌<◌, ◌==◌, refl, sym, ◌∙◌, ap, subst, List, [], ◌∷◌, ◌++◌}
use Rattle.ref_space.proofs.Common.{length, set, Option, Some, inl, inr, arith, cases_Bool, eq-eqb, false≢true}
use Rattle.ref_space.proofs.Common.{get_or-set_same, length-set, length_push, filter, is_live, tabled_by, seen_table}
use Rattle.ref_space.proofs.Common.{IsPlaced, IsSoundTable, Table, Tabled, with_tabled, Entry, next_place}
use Rattle.ref_space.proofs.Common.{next_cell, is_none, is_some, true, not, from_bool, ◌≤◌}
use Rattle.ref_space.proofs.Common.{AreIndexed, Each, IsSoundNaming, Reference, by_number, leads_by, made_entry, map}
use Rattle.ref_space.proofs.Common.{map-append, target_of, target_by, occupant_in, occupant_at, occupants_of, place_by}
use Rattle.ref_space.proofs.Common.{place_in}
use Rattle.ref_space.proofs.Common.{values_in, cell_at, is_of, None, Bool, eqb-true, get_or-set_other, length-map}
use Rattle.ref_space.proofs.ChangeLemmas.{seen_by}
use Rattle.ref_space.proofs.Common.{option_map, reference_by_number}
use Rattle.ref_space.proofs.TableLemmas.{map-nulls, has_word, word_place}
use Rattle.ref_space.proofs.NamingLemmas.{each_set, each_to, held_push, held_to, map_same, named_same}
use Rattle.std.proofs.lemmas.List.{map-set}
use Rattle.ref_space.proofs.WordLemmas.{IsGood, word_is_good}
use Rattle.ref_space.specs.ColouredWords.{IsCell, word_of_place}
use Rattle.ref_space.specs.Pages.{AreBetween}
use Rattle.ref_space.proofs.CallLemmas.{between-placed}
use Rattle.ref_space.proofs.Common.{◌/◌, ◌%◌}
use Rattle.std.proofs.Math.ListN.{get_or-map}
use Rattle.std.proofs.lemmas.List.Filters.{length-filter_both}
use Rattle.ref_space.specs.Places.{with_room}
use Rattle.ref_space.specs.Tables.{with_occupant, is_marked}
use Rattle.ref_space.specs.Naming.{IsHeldIn}
use Rattle.std.proofs.lemmas.Bool.{ne_eqb}
use Rattle.ref_space.proofs.TableLemmas.{all_null}
use Rattle.ref_space.proofs.Common.{referent_of, false}
use Rattle.ref_space.specs.declared.colour.Colour.{Colour}
use Rattle.ref_space.specs.Tables.{RoundView}
use Rattle.ref_space.proofs.ReadLemmas.{none_read}
use Rattle.ref_space.proofs.RoomLemmas.{always_room}
use Rattle.ref_space.proofs.FreeLemmas.{taken_next, IsTaken}
use Rattle.ref_space.proofs.MarkCounts.{marks_made}
use Rattle.ref_space.proofs.IndexLemmas.{place_in-new, Rises-push, NoneAbove-push, Rises-filter, NoneAbove-filter}
use Rattle.ref_space.proofs.PlaceLemmas.{tabled_by-set, tabled_by-push, tabled_by-filter, length-filter_live}
use Rattle.ref_space.specs.Moves.{Ways}
use Rattle.ref_space.specs.Tables.{ways_placed}
use Rattle.ref_space.specs.Pages.{place_in_frame, in_frame, opened}
use Rattle.std.specs.Prelude.{slice_index_or}
use Rattle.std.proofs.Common.{◌&&◌}
use Rattle.ref_space.specs.Pages.{is_chosen_place}
use Rattle.ref_space.specs.ColouredWords.{has_colour}
use Rattle.ref_space.specs.Naming.{stays_at, leads_from, way_of}
use Rattle.ref_space.proofs.NamingLemmas.{good_word}
use Rattle.ref_space.proofs.PlaceUses.{chosen_place-placed}
use Rattle.ref_space.proofs.WayLemmas.{IsKept, alike_kept, AreSame, alike_placed, held_named, held_leads, target-same}
use Rattle.ref_space.proofs.WayLemmas.{leads-same, there_way}
use Rattle.ref_space.specs.Moves.{NoneLeaves}

-- ---- gaps

-- closed gaps change nothing that is seen; the cells are looked at through a slice that was lent
pub seen_closed : {cells borrowed : List (Option Tabled)} {fs : List Entry} (es : List Entry) (round : RoundView)
    (ways : Ways) (last room : ℕ)
    (slots : List (Option ℕ)) → borrowed ≡ cells → fs ≡ filter (is_live borrowed) es
    → seen_table round ways cells fs slots last room ≡ seen_table round ways cells es slots last room
seen_closed {cells} {borrowed} {fs} es round ways last room slots same is =
    ap (λ ks. seen_by round ways last room ks slots (occupants_of cells))
    (ap (tabled_by cells) (is ∙ ap (λ cs. filter (is_live cs) es) same) ∙ tabled_by-filter cells es)

-- an entry of an object stays
place_in-filter : (cells : List (Option Tabled)) (es : List Entry) (n p : ℕ) → place_in es n ≡ Some p
    → is_of (cell_at cells p) n ≡ true → place_in (filter (is_live cells) es) n ≡ Some p
place_in-filter cells [] n p at own = absurd (cc)
place_in-filter cells (e ∷ es) n p at own = grind (arith, place_in-filter cells es n p)

listed_filter : (cells : List (Option Tabled)) (es : List Entry) → AreIndexed cells es
    → AreIndexed cells (filter (is_live cells) es)
listed_filter cells es listed p k at =
    let own : (k.object.no == k.object.no) ≡ true = eq-eqb k.object.no k.object.no refl in
    place_in-filter cells es k.object.no p (listed p k at) (rw at own)

-- closed gaps leave what words lead to
pub naming_relisted : {round : RoundView} {ways : Ways} {cells : List (Option Tabled)} {es fs : List Entry}
    {slots : List
    (Option ℕ)}
    → IsSoundNaming round ways cells es slots → AreIndexed cells fs → tabled_by cells fs ≡ tabled_by cells es
    → IsSoundNaming round ways cells fs slots
naming_relisted naming listed same = record {
  listed = listed;
  begun = naming.begun;
  apart = naming.apart;
  rooted = naming.rooted;
  led = rw same naming.led;
  read = naming.read;
}

pub naming_closed : {round : RoundView} {ways : Ways} {cells borrowed : List (Option Tabled)} {es fs : List Entry}
    {slots : List (Option ℕ)} → IsSoundNaming round ways cells es slots → borrowed ≡ cells
    → fs ≡ filter (is_live borrowed) es → IsSoundNaming round ways cells fs slots
naming_closed {round} {ways} {cells} {borrowed} {es} {fs} naming same is =
    let closed : fs ≡ filter (is_live cells) es = is ∙ ap (λ cs. filter (is_live cs) es) same in
    naming_relisted naming (subst (AreIndexed cells) (sym closed) (listed_filter cells es naming.listed))
    (ap (tabled_by cells) closed ∙ tabled_by-filter cells es)

pub placed_closed : {cells borrowed : List (Option Tabled)} {es fs : List Entry} {ways : Ways} {last : ℕ}
    → IsPlaced cells es ways last → borrowed ≡ cells → fs ≡ filter (is_live borrowed) es → IsPlaced cells fs ways last
placed_closed {cells} {borrowed} {es} {fs} {ways} {last} placed same is =
    grind (
      arith,
      length-filter_both (is_live cells) (λ e. not (is_live cells e)) (λ e. refl) es,
      length-filter_live,
      tabled_by-filter,
      Rises-filter,
      NoneAbove-filter,
    )

pub counted_closed : {round : RoundView} {cells borrowed : List (Option Tabled)} {es fs : List Entry} {ways : Ways}
    {last room count index_room marked : ℕ} → IsSoundTable round cells es ways last room count index_room marked
    → borrowed ≡ cells → fs ≡ filter (is_live borrowed) es → {capacity : ℕ} → capacity ≡ index_room
    → IsSoundTable round cells fs ways last room count capacity marked
counted_closed {round} {cells} {borrowed} {es} {fs} sound same is fits =
    let seen : tabled_by cells fs ≡ tabled_by cells es =
    ap (tabled_by cells) (is ∙ ap (λ cs. filter (is_live cs) es) same) ∙ tabled_by-filter cells es in
    grind (arith, placed_closed sound.placed same is, seen)

-- where not every cell has an object, the index has room for one more entry once its gaps are closed
pub record HasRoom (cells : List (Option Tabled)) (es fs : List Entry) (ways : Ways) (last : ℕ) : Type 0 where
  pub placed : IsPlaced cells fs ways last
  pub same : tabled_by cells fs ≡ tabled_by cells es
  pub room : length fs < length cells
  pub listed : AreIndexed cells es → AreIndexed cells fs

has_room : (cells : List (Option Tabled)) (es fs : List Entry) (ways : Ways) (last most : ℕ)
    → most ≡ length cells → fs ≡ with_room most cells es → length (tabled_by cells es) < length cells
    → IsPlaced cells es ways last → HasRoom cells es fs ways last
has_room cells es fs ways last most limit is spare placed =
    elim (cases_Bool (length es == most)) [
      | inl full ↦
          let closed : fs ≡ filter (is_live cells) es = is ∙ simp full refl in
          let size : length fs ≡ length (tabled_by cells es) = ap length closed ∙ length-filter_live cells es in
          record {
            placed = placed_closed placed refl closed;
            same = ap (tabled_by cells) closed ∙ tabled_by-filter cells es;
            room = omega (arith, spare, size);
            listed = λ listed. subst (AreIndexed cells) (sym closed) (listed_filter cells es listed);
          }
      | inr others ↦
          let unchanged : fs ≡ es = is ∙ simp others refl in
          let size : length fs ≡ length es = ap length unchanged in
          let ne : length es ≡ most → ⊥ = λ same. false≢true (sym others ∙ eq-eqb (length es) most same) in
          record {
            placed = subst (λ gs. IsPlaced cells gs ways last) (sym unchanged) placed;
            same = ap (tabled_by cells) unchanged;
            room = omega (arith, placed.few, size, ne, limit);
            listed = subst (AreIndexed cells) (sym unchanged);
          }
    ]

-- ---- one more entry

place_in-append : (es : List Entry) (e : Entry) (n p : ℕ) → place_in es n ≡ Some p → place_in (es ++ e ∷ []) n ≡ Some p
place_in-append [] e n p at = absurd (cc)
place_in-append (x ∷ xs) e n p at = grind (arith, place_in-append xs e n p)

place_in-last : (es : List Entry) (e : Entry) (n : ℕ) → place_in es n ≡ None → e.no ≡ n
    → place_in (es ++ e ∷ []) n ≡ Some e.place
place_in-last [] e n none own = let is : (e.no == n) ≡ true = eq-eqb e.no n own in simp is refl
place_in-last (x ∷ xs) e n none own = grind (arith, place_in-last xs e n)

abbrev number_or_0 : Option Tabled → ℕ
number_or_0 None = 0
number_or_0 (Some k) = k.object.no

-- ---- a new object

-- a new cell's object, by number
pub entry-named : (name : Option ℕ → Option ℕ) → name None ≡ None → (q n count : ℕ) (marked : Bool)
    (kept : Option Reference) {r : Option Reference} → option_map (reference_by_number name) kept ≡ r
    → by_number name (made_entry q n count kept marked) ≡ made_entry q n count r marked
entry-named name null q n count marked kept {r} is =
    λ i. record (made_entry q n count kept marked) {
      object = record {
        no = n;
        fields = map-nulls name None null count i;
        reference = is i;
      };
    }

-- it is marked where that is told
pub made_marked : (q n count : ℕ) (kept : Option Reference) (marked : Bool) → 1 ≤ q
    → is_marked q (made_entry q n count kept marked) ≡ marked
made_marked q n count kept true begun = eq-eqb q q refl
made_marked q n count kept false begun = ne_eqb 0 q (λ same. omega (arith, begun, same))

-- and healed: what it holds has the good colour
pub made_held : (q : ℕ) (good : Colour) (ways : Ways) (os : List (Option ℕ)) (n count : ℕ) (kept : Option Reference)
    (marked : Bool) → leads_by good ways os true (referent_of kept) ≡ true
    → IsHeldIn q (leads_by good ways os) (made_entry q n count kept marked)
made_held q good ways os n count kept marked leads =
    let own : (q == q) ≡ true = eq-eqb q q refl in (
      dated marked,
      omega arith,
      subst (λ b. Each (leads_by good ways os b) (values_in (made_entry q n count kept marked))) (sym own)
          (leads, all_null (leads_by good ways os true) refl count),
    )
  where
    dated : (marked : Bool) → (made_entry q n count kept marked).marked_in ≤ q
    dated true = omega arith
    dated false = omega arith

some-mapped : {X : Type 0} (f : X → X) (o : Option X) → is_some (option_map f o) ≡ is_some o
some-mapped f None = refl
some-mapped f (Some x) = refl

-- an object may be made: there may be one more, its place was taken, and the index has room
pub record CanMake (cells : List (Option Tabled)) (es fs : List Entry) (ways more : Ways) (last room : ℕ)
    (at : ℕ × ℕ) : Type 0
  where
    pub fewer : length (tabled_by cells es) < room
    pub closed : HasRoom cells es fs ways last
    pub taken : IsTaken cells ways.forwards ways.pages.uses more.pages.uses (place_in_frame at)
    pub next : next_cell ways.pages.uses ≡ Some at
    pub placed : more ≡ ways_placed ways

module _ {round : RoundView} {cells : List (Option Tabled)} {es : List Entry} {ways : Ways} {slots : List
    (Option ℕ)}
    {last room count index_room marked : ℕ}
    (sound : IsSoundTable round cells es ways last room count index_room marked × IsSoundNaming round ways cells es
    slots)
    {t : Table} (view : seen_table round ways cells es slots last room ≡ t) where
  module _ (spare : length t.tabled < t.room) where
    fewer : length (tabled_by cells es) < room
    fewer =
        let seen : length (map (by_number (target_by ways (occupants_of cells))) (tabled_by cells es)) < room =
        subst (λ (s : Table). length s.tabled < s.room) (sym view) spare in
        omega (arith, seen, length-map (tabled_by cells es) (by_number (target_by ways (occupants_of cells))))

    -- there is a next place
    has_place : is_some (next_place ways.pages.uses) ≡ true
    has_place =
        always_room ways.pages.uses sound.0.placed.free.whole
        (omega (arith, fewer, sound.0.open_fit, sound.0.placed.taken))

    pub has_cell : is_some (next_cell ways.pages.uses) ≡ true
    has_cell = some-mapped (in_frame ways.pages.uses) (next_place ways.pages.uses) ∙ has_place

    pub can_make : {borrowed : List (Option Tabled)} {fs : List Entry} {more : Ways} {size : ℕ}
        {next : Option (ℕ × ℕ)} {at : ℕ × ℕ} → borrowed ≡ cells → size ≡ length cells
        → fs ≡ with_room size borrowed es → next ≡ next_cell ways.pages.uses → more ≡ ways_placed ways
        → next ≡ Some at → CanMake cells es fs ways more last room at
    can_make {borrowed} {fs} {more} {size} {next} {at} same all made_room is after found =
        record {
          fewer = fewer;
          closed = has_room cells es fs ways last size (omega (arith, all))
              (made_room ∙ ap (λ cs. with_room size cs es) same) (omega (arith, fewer, sound.0.cells_fit))
              sound.0.placed;
          taken = subst (λ rs. IsTaken cells ways.forwards ways.pages.uses rs (place_in_frame at))
              (sym (ap (λ (s : Ways). s.pages.uses) after))
              (taken_next cells sound.0.placed.free at (sym is ∙ found) has_place);
          next = sym is ∙ found;
          placed = after;
        }

  -- it is made
  module _ {fs gs : List Entry} {more : Ways} {at : ℕ × ℕ} (can : CanMake cells es fs ways more last room at)
      (k : Tabled)
      (rises : t.last < k.object.no) {c : Option Tabled} (is : c ≡ Some k)
      (pushed : gs ≡ fs ++ record { no = k.object.no; place = place_in_frame at } ∷ []) where
    abbrev p : ℕ
    p = place_in_frame at

    new : last < k.object.no
    new = subst (λ (s : Table). s.last < k.object.no) (sym view) rises

    tabled_by-made : tabled_by (set cells p c) gs ≡ tabled_by cells es ++ k ∷ []
    tabled_by-made = grind (arith, new, place_in-new, get_or-set_same, tabled_by-push, tabled_by-set)

    length-made : length (tabled_by (set cells p c) gs) ≡ length (tabled_by cells es) + 1
    length-made = grind (arith, tabled_by-made, length_push)

    placed_made : IsPlaced (set cells p c) gs more k.object.no
    placed_made =
        let free = can.taken.free c (ap is_none is) in
        let rising : AreBetween 1 more.pages.uses more.pages.next =
        subst (λ (s : Ways). AreBetween 1 s.pages.uses s.pages.next) (sym can.placed)
        (between-placed ways.pages.uses (next_place ways.pages.uses) 1 ways.pages.next sound.0.placed.rising) in
        let next : more.pages.next ≡ ways.pages.next = ap (λ (s : Ways). s.pages.next) can.placed in
        let settled : more.tuned ≡ true → NoneLeaves (map is_none (set cells p c)) more.pages.uses =
        λ is_tuned. can.taken.settled c
        (sound.0.placed.settled (sym (ap (λ (s : Ways). s.tuned) can.placed) ∙ is_tuned)) in
        let forwards : more.forwards ≡ ways.forwards = ap (λ (s : Ways). s.forwards) can.placed in
        grind (
          arith,
          new,
          length-set,
          length_push,
          Rises-push,
          NoneAbove-push,
          length-made,
          rising,
          next,
          forwards,
          can.taken.more,
          settled,
        )

    table_made : {capacity marks : ℕ} → index_room ≤ capacity → marks ≡ from_bool (is_marked round.number k)
        → IsSoundTable round (set cells p c) gs more k.object.no room (count + 1) capacity (marked + marks)
    table_made {capacity} {marks} fits one =
        let open_fit : room ≤ 64 * length (opened more.pages.uses) =
        (let size = can.taken.pages in omega (arith, size, sound.0.open_fit)) in
        let twice = can.taken.size ∙ sound.0.twice in
        let packed = can.taken.packed ((room + 63) / 64) sound.0.packed
        (let few = can.fewer in omega (arith, few, sound.0.placed.taken)) in
        let counted = marks_made round.number (tabled_by cells es) k tabled_by-made one sound.0.marks_counted in
        grind (arith, placed_made, length-set, length-made, open_fit, twice, packed)

    -- ---- what words lead to then

    abbrev leads : Bool → Option ℕ → Bool
    leads = leads_by round.good ways (occupants_of cells)

    abbrev then : List (Option ℕ)
    then = occupants_of (set cells p c)

    occupants-made : then ≡ set (occupants_of cells) p (Some k.object.no)
    occupants-made =
        ap (λ c. occupants_of (set cells p c)) is ∙ map-set occupant_in cells p (Some k)

    same_ways : AreSame ways more
    same_ways = record {
      forwards = ap (λ (s : Ways). s.forwards) can.placed;
      last = ap (λ (s : Ways). s.last) can.placed;
      tuned = ap (λ (s : Ways). s.tuned) can.placed;
      chosen = λ q.
          ap (λ (s : Ways). is_chosen_place s.pages.uses q) can.placed
          ∙ chosen_place-placed ways.pages.uses (next_place ways.pages.uses) q;
    }

    -- what a word leads to lies where it did
    alike : (v : Option ℕ) (q : ℕ) → place_by v ≡ Some q
        → leads_from ways (occupants_of cells) (has_colour ways.last v) (Some q) ≡ true
        → IsKept ways (occupants_of cells) (set (occupants_of cells) p (Some k.object.no)) (has_colour ways.last v) q
    alike v q at leads =
        alike_kept ways (occupants_of cells) (set (occupants_of cells) p (Some k.object.no)) (has_colour ways.last v) q
        (alike_placed ways (occupants_of cells) p can.taken.stays (has_colour ways.last v) q leads (Some k.object.no)
        (get_or-map occupant_in cells p None ∙ ap occupant_in can.taken.none)) leads

    named_still : (b : Bool) (v : Option ℕ) → leads b v ≡ true
        → target_by more then v ≡ target_by ways (occupants_of cells) v
    named_still b v led =
        ap (λ os. target_by more os v) occupants-made
        ∙ target-same same_ways (set (occupants_of cells) p (Some k.object.no)) v
        ∙ held_named round.good ways (occupants_of cells) (set (occupants_of cells) p (Some k.object.no)) b v led
        (alike v)

    leads_still : (b : Bool) (v : Option ℕ) → leads b v ≡ true → leads_by round.good more then b v ≡ true
    leads_still b v led =
        ap (λ os. leads_by round.good more os b v) occupants-made
        ∙ leads-same same_ways (set (occupants_of cells) p (Some k.object.no)) round.good b v
        ∙ held_leads round.good ways (occupants_of cells) (set (occupants_of cells) p (Some k.object.no)) b v led
        (alike v)

    here : slice_index_or then p None ≡ Some k.object.no
    here =
        ap (λ os. slice_index_or os p None) occupants-made
        ∙ get_or-set_same (occupants_of cells) p (Some k.object.no) None
        (let size = length-map cells occupant_in in omega (arith, size, can.taken.within))

    stays_here : stays_at more then p ≡ true
    stays_here =
        ap (λ (o : Option ℕ). is_some o && not (is_chosen_place more.pages.uses p)) here
        ∙ ap not (same_ways.chosen p ∙ can.taken.stays)

    module _ (holds : IsHeldIn round.number leads k) (into : ℕ) {w : Option ℕ}
        (made : w ≡ word_of_place round.good (place_in_frame at)) where
      its_cell : IsCell (1 + p / 64) (p % 64)
      its_cell = has_word sound.0.placed.small p can.taken.within

      word : place_by w ≡ Some p
      word = rw made (word_place round.good p its_cell)

      is_good : IsGood round.good w
      is_good = subst (IsGood round.good) (sym made) (word_is_good round.good (1 + p / 64) (p % 64) its_cell)

      named_new : target_by more then w ≡ Some k.object.no
      named_new =
          ap (λ o. occupant_at then (way_of more then o)) word
          ∙ ap (λ q. slice_index_or then q None) (there_way more then p (ap is_some here)) ∙ here

      pub seen_made : (r : Option Reference) (n : ℕ) (marks : Bool)
          → by_number (target_of t) k ≡ made_entry round.number k.object.no n r marks
          → seen_table round more (set cells p c) gs (set slots into w) k.object.no room
          ≡ with_tabled t into (made_entry round.number k.object.no n r marks)
      seen_made r n marks entry =
          (λ i. record {
            tabled = tabled_then i;
            room = room;
            last = k.object.no;
            slots = slots_then i;
            ways = can.placed i;
            occupants = occupants_then i;
            round = round;
          })
          ∙ ap (λ (s : Table). with_tabled s into (by_number (target_of s) k)) view
          ∙ ap (with_tabled t into) entry
        where
          occupants_then : then ≡ with_occupant (occupants_of cells) (next_cell ways.pages.uses) k.object.no
          occupants_then =
              occupants-made ∙ ap (λ next. with_occupant (occupants_of cells) next k.object.no) (sym can.next)

          tabled_then : map (by_number (target_by more then)) (tabled_by (set cells p c) gs)
              ≡ map (by_number (target_by ways (occupants_of cells))) (tabled_by cells es)
              ++ by_number (target_by ways (occupants_of cells)) k ∷ []
          tabled_then =
              ap (map (by_number (target_by more then))) tabled_by-made
              ∙ named_same round.number leads (target_by more then) (target_by ways (occupants_of cells)) named_still
              (tabled_by cells es ++ k ∷ []) (held_push round.number leads (tabled_by cells es) k sound.1.led holds)
              ∙ map-append (by_number (target_by ways (occupants_of cells))) (tabled_by cells es) (k ∷ [])

          slots_then : map (target_by more then) (set slots into w)
              ≡ set (map (target_by ways (occupants_of cells)) slots) into (Some k.object.no)
          slots_then =
              map-set (target_by more then) slots into w
              ∙ ap (λ vs. set vs into (target_by more then w))
              (map_same round.number leads (target_by more then) (target_by ways
              (occupants_of cells)) named_still true slots
              sound.1.rooted)
              ∙ ap (set (map (target_by ways (occupants_of cells)) slots) into) named_new

      listed_made : AreIndexed (set cells p c) gs
      listed_made q l here =
          rw pushed
          (elim (cases_Bool (q == p)) [
            | inl own ↦
                let same : q ≡ p = eqb-true q p own in
                let here : Some k ≡ Some l =
                sym is ∙ sym (get_or-set_same cells p c None can.taken.within)
                ∙ ap (λ j. cell_at (set cells p c) j) (sym same) ∙ here in
                let number : l.object.no ≡ k.object.no = ap (λ (m : Option Tabled). number_or_0 m) (sym here) in
                place_in-last fs (record { no = k.object.no; place = p }) l.object.no
                (place_in-new fs l.object.no last can.closed.placed.given (rw number new)) (sym number)
                ∙ ap Some (sym same)
            | inr other ↦
                place_in-append fs (record { no = k.object.no; place = p }) l.object.no q
                (can.closed.listed sound.1.listed q l
                (sym (get_or-set_other cells p q c None (λ same. false≢true (sym other ∙ eq-eqb q p same))) ∙ here))
          ])

      pub sound_made : round.read ≡ None → {capacity marks : ℕ} → index_room ≤ capacity → marks ≡ from_bool
          (is_marked round.number k)
          → IsSoundTable round (set cells p c) gs more k.object.no room (count + 1) capacity (marked + marks)
          × IsSoundNaming round more (set cells p c) gs (set slots into w)
      sound_made none fits one = (
        table_made fits one,
        record {
          listed = listed_made;
          begun = sound.1.begun;
          apart = λ q chosen same. sound.1.apart q (sym (same_ways.chosen q) ∙ chosen) (sym same_ways.last ∙ same);
          rooted = each_set (leads_by round.good more then true) slots into w (good_word round.good more then p w word
              stays_here is_good)
              (each_to round.number leads (leads_by round.good more then) leads_still true slots sound.1.rooted);
          led = rw tabled_by-made
              (held_to round.number leads (leads_by round.good more then) leads_still (tabled_by cells es ++ k ∷ [])
              (held_push round.number leads (tabled_by cells es) k sound.1.led holds));
          read = λ q l at. none_read round none l;
        },
      )
