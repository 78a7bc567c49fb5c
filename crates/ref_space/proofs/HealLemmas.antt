-- A word that is written again in the good colour leads where it led.
use Rattle.ref_space.proofs.Common.{◌≡◌, ℕ, Bool, true, false, refl, sym, ◌∙◌, ap, arith, List, [], ◌∷◌, map, Option}
use Rattle.ref_space.proofs.Common.{Some, None, option_map, is_some, Reference, referent_of, false≢true, occupant_at}
use Rattle.ref_space.proofs.Common.{Tabled, Each, by_number, reference_by_number, leads_by, target_by}
use Rattle.ref_space.proofs.Common.{values_in, subst}
use Rattle.ref_space.specs.ColouredWords.{place_by, IsWordOf, is_coloured, colour_number}
use Rattle.ref_space.specs.Naming.{IsWordOfObject, IsWordHeld}
use Rattle.ref_space.specs.Tables.{with_healed, is_healed}
use Rattle.ref_space.proofs.Common.{◌==◌, eq-eqb}
use Rattle.ref_space.specs.declared.colour.Colour.{Colour}
use Rattle.ref_space.proofs.WordLemmas.{parts_of_word}
use Rattle.ref_space.proofs.WordLemmas.{is_word-parts_of, is_coloured-coloured, coloured-same}
use Rattle.ref_space.proofs.Common.{◌+◌, ◌-◌, ◌*◌, ◌%◌, ◌^◌, eqb-true, slice_index_or}
use Rattle.std.specs.Prelude.{nat_le}
use Rattle.ref_space.proofs.NamingLemmas.{Keeps, good_word}
use Rattle.ref_space.proofs.Common.{Use}
use Rattle.ref_space.specs.Naming.{bits_told}
use Rattle.std.proofs.lemmas.Bool.{le-leb}
use Rattle.ref_space.specs.Naming.{frame_at}
use Rattle.std.proofs.Common.{◌<◌, ◌/◌}
use Rattle.ref_space.specs.ColouredWords.{coloured_word}
use Rattle.ref_space.specs.ColouredWords.{IsCell}
use Rattle.ref_space.specs.Pages.{Use, use_of}
use Rattle.ref_space.specs.ColouredWords.{coloured_word, IsCell, bits_at, parts_of}
use Rattle.ref_space.specs.Naming.{bits_told, frame_at}
use Rattle.ref_space.proofs.WordLemmas.{parts_of-coloured}
use Rattle.ref_space.specs.Moves.{Ways}
use Rattle.std.proofs.Common.{length, zero, suc, ◌&&◌, ◌||◌, not, ◌≤◌}
use Rattle.ref_space.proofs.WordLemmas.{word_is_good}
use Rattle.ref_space.proofs.TableLemmas.{has_word, word_place}
use Rattle.std.proofs.lemmas.Bool.{and_parts}
use Rattle.ref_space.specs.ColouredWords.{has_colour, is_word, word_of_place}
use Rattle.ref_space.specs.Pages.{is_chosen_place, has_chosen, page_at}
use Rattle.ref_space.specs.ColouredWords.{recoloured}
use Rattle.std.proofs.lemmas.Bool.{leb-true}
use Rattle.ref_space.proofs.MoveLemmas.{some_chosen}
use Rattle.ref_space.proofs.WayLemmas.{there_way, gone_way, old_place, old_reached, reaches}
use Rattle.ref_space.specs.Naming.{IsSettled, healed_word, word_there, taken_way, stays_at, leads_from, way_from}
use Rattle.ref_space.specs.Naming.{way_of, IsHeldIn}
use Rattle.ref_space.proofs.Common.{cases_Bool}
use Rattle.std.proofs.lemmas.Bool.{cases_Bool}
use Rattle.ref_space.specs.ColouredWords.{is_in_colour, are_in_colour}
use Rattle.std.specs.Prelude.{if◌then◌else◌}
use Rattle.ref_space.specs.Tables.{word_in}
use Rattle.std.proofs.Math.ListN.{get_or-map}
use Rattle.std.proofs.Common.{inl, inr}

-- an object each of whose words was healed
abbrev pub healed_by : (Option ℕ → Option ℕ) → ℕ → Tabled → Tabled
healed_by heal n k = with_healed n (by_number heal k)

some_number : (n : Option ℕ) → is_some n ≡ true → (m : ℕ) × (n ≡ Some m)
some_number None some = absurd (false≢true some)
some_number (Some m) some = (m, refl)

-- where an object lies there is a place
pub some_within : (os : List (Option ℕ)) (p : ℕ) → is_some (slice_index_or os p None) ≡ true → p < length os
some_within [] p some = absurd (false≢true some)
some_within (o ∷ os) zero some = omega arith
some_within (o ∷ os) (suc p) some = let rest = some_within os p some in omega (arith, rest)

pub from_led : (good : Colour) (ways : Ways) (os : List (Option ℕ)) (b : Bool) (w : ℕ)
    → leads_by good ways os b (Some w) ≡ true
    → leads_from ways os (has_colour ways.last (Some w)) (place_by (Some w)) ≡ true
from_led good ways os b w leads =
    (and_parts (leads_from ways os (has_colour ways.last (Some w)) (place_by (Some w)))
    (is_word (Some w) && (not (b && ways.tuned) || has_colour good (Some w))) leads).0

reaches_value : (ways : Ways) (os : List (Option ℕ)) (is_last : Bool) (at : Option ℕ)
    → leads_from ways os is_last at ≡ true → is_some (occupant_at os (way_of ways os at)) ≡ true
reaches_value ways os is_last None leads = absurd (false≢true leads)
reaches_value ways os is_last (Some q) leads = reaches ways os is_last q leads

module _ (good : Colour) (ways : Ways) (os : List (Option ℕ)) (settled : IsSettled ways os)
    (small : length os ≤ 2 ^ 17) where
  abbrev heal : Option ℕ → Option ℕ
  heal = healed_word good ways os

  -- where it lies needn't move
  way_stays : (is_last : Bool) (q : ℕ) → leads_from ways os is_last (Some q) ≡ true
      → stays_at ways os (way_from ways os q) ≡ true
  way_stays is_last q leads =
      elim (cases_Bool (is_some (slice_index_or os q None))) [
        | inl there ↦
            ap (stays_at ways os) (there_way ways os q there)
            ∙ elim (cases_Bool (is_chosen_place ways.pages.uses q)) [
              | inl chosen ↦ absurd (false≢true (sym (settled q chosen) ∙ there))
              | inr stays ↦ simp (there, stays) refl
            ]
        | inr gone ↦ ap (stays_at ways os) (gone_way ways os q gone) ∙ old_reached ways os is_last q leads gone
      ]

  stays_within : (p : ℕ) → stays_at ways os p ≡ true → is_some (slice_index_or os p None) ≡ true
  stays_within p stays =
      (and_parts (is_some (slice_index_or os p None)) (not (is_chosen_place ways.pages.uses p)) stays).0

  -- so a word of that place may be held in its place
  healed_there : (is_last : Bool) (at : Option ℕ) → leads_from ways os is_last at ≡ true
      → (target_by ways os (word_there good (taken_way ways os at)) ≡ occupant_at os (way_of ways os at))
      × (leads_by good ways os true (word_there good (taken_way ways os at)) ≡ true)
  healed_there is_last None leads = absurd (false≢true leads)
  healed_there is_last (Some q) leads =
      let p : ℕ = way_from ways os q in
      let stays = way_stays is_last q leads in
      let some = stays_within p stays in
      let cell : IsCell (1 + p / 64) (p % 64) = has_word small p (some_within os p some) in
      let word : word_there good (taken_way ways os (Some q)) ≡ word_of_place good p = simp some refl in
      let at : place_by (word_of_place good p) ≡ Some p = word_place good p cell in (
        ap (target_by ways os) word ∙ ap (λ o. occupant_at os (way_of ways os o)) at
            ∙ ap (λ r. slice_index_or os r None) (there_way ways os p some),
        ap (leads_by good ways os true) word
            ∙ good_word good ways os p (word_of_place good p) at stays (word_is_good good (1 + p / 64) (p % 64) cell),
      )

  pub healed_held : (old : Colour) (b : Bool) (v : Option ℕ) → leads_by old ways os b v ≡ true
      → (target_by ways os (heal v) ≡ target_by ways os v) × (leads_by good ways os true (heal v) ≡ true)
  healed_held old b None leads = (refl, refl)
  healed_held old b (Some w) leads =
      healed_there (has_colour ways.last (Some w)) (place_by (Some w)) (from_led old ways os b w leads)

  each-healed : (old : Colour) (b : Bool) (vs : List (Option ℕ)) → Each (leads_by old ways os b) vs
      → Each (leads_by good ways os true) (map heal vs)
  each-healed old b [] each = tt
  each-healed old b (v ∷ vs) each = ((healed_held old b v each.0).1, each-healed old b vs each.1)

  map-healed : (old : Colour) (b : Bool) (vs : List (Option ℕ)) → Each (leads_by old ways os b) vs
      → map (target_by ways os) (map heal vs) ≡ map (target_by ways os) vs
  map-healed old b [] each = refl
  map-healed old b (v ∷ vs) each =
      ap (λ n. n ∷ map (target_by ways os) (map heal vs)) (healed_held old b v each.0).0
      ∙ ap (λ ns. target_by ways os v ∷ ns) (map-healed old b vs each.1)

  -- slots that are healed
  pub slots_healed : (old : Colour) (slots : List (Option ℕ)) → Each (leads_by old ways os false) slots
      → Each (leads_by good ways os true) (map heal slots)
  slots_healed old slots each = each-healed old false slots each

  pub slots-healed : (old : Colour) (slots : List (Option ℕ)) → Each (leads_by old ways os false) slots
      → map (target_by ways os) (map heal slots) ≡ map (target_by ways os) slots
  slots-healed old slots each = map-healed old false slots each

  -- an object that is healed
  referent-healed : (r : Option Reference)
      → referent_of (option_map (reference_by_number heal) r) ≡ heal (referent_of r)
  referent-healed None = refl
  referent-healed (Some r) = refl

  pub heal_leads : (n : ℕ) → Keeps n (leads_by good ways os) (healed_by heal n)
  heal_leads n k held =
      let own : (n == n) ≡ true = eq-eqb n n refl in (
        held.0,
        omega arith,
        subst (λ b. Each (leads_by good ways os b) (values_in (healed_by heal n k)))
            (sym own) (
              rw (referent-healed k.object.reference)
                  (healed_held good (is_healed n k) (referent_of k.object.reference) held.2.0).1,
              each-healed good (is_healed n k) k.object.fields held.2.1,
            ),
      )

  reference-healed : (old : Colour) (b : Bool) (r : Option Reference) → leads_by old ways os b (referent_of r) ≡ true
      → option_map (reference_by_number (target_by ways os)) (option_map (reference_by_number heal) r)
      ≡ option_map (reference_by_number (target_by ways os)) r
  reference-healed old b None leads = refl
  reference-healed old b (Some r) leads =
      ap (λ (n : Option ℕ). Some (record r { referent = n })) (healed_held old b r.referent leads).0

  pub heal-named : (n : ℕ) (k : Tabled) → IsHeldIn n (leads_by good ways os) k
      → by_number (target_by ways os) (healed_by heal n k) ≡ with_healed n (by_number (target_by ways os) k)
  heal-named n k held =
      λ i. record k {
        object = record k.object {
          fields = map-healed good (is_healed n k) k.object.fields held.2.1 i;
          reference = reference-healed good (is_healed n k) k.object.reference held.2.0 i;
        };
        healed_in = n;
      }

-- a healed word is null or has the good colour
module _ (good : Colour) (ways : Ways) (os : List (Option ℕ)) (small : length os ≤ 2 ^ 17) where
  heals_good : (v : Option ℕ) → is_in_colour good (healed_word good ways os v) ≡ true
  heals_good v = by (place_by v)
    where
      by : (at : Option ℕ) → is_in_colour good (word_there good (taken_way ways os at)) ≡ true
      by None = refl
      by (Some q) =
          let p : ℕ = way_from ways os q in
          elim (cases_Bool (is_some (slice_index_or os p None))) [
            | inl some ↦
                let cell : IsCell (1 + p / 64) (p % 64) = has_word small p (some_within os p some) in
                ap (λ b. is_in_colour good (word_there good (if b then Some p else None))) some
                ∙ (word_is_good good (1 + p / 64) (p % 64) cell).coloured
            | inr none ↦ ap (λ b. is_in_colour good (word_there good (if b then Some p else None))) none
          ]

  pub healed_good : (n : ℕ) (field : Option ℕ) (k : Tabled)
      → is_in_colour good (word_in field (healed_by (healed_word good ways os) n k).object) ≡ true
  healed_good n None k = by k.object.reference
    where
      by : (r : Option Reference)
          → is_in_colour good (referent_of (option_map (reference_by_number (healed_word good ways os)) r)) ≡ true
      by None = refl
      by (Some r) = heals_good r.referent
  healed_good n (Some i) k =
      ap (is_in_colour good) (get_or-map (healed_word good ways os) k.object.fields i None)
      ∙ heals_good (slice_index_or k.object.fields i None)

-- ---- where no page is chosen

-- there each word leads to the cell that it names: healed it is the same word in the good colour
module _ (good old : Colour) (ways : Ways) (os : List (Option ℕ)) (none : has_chosen ways.pages.uses ≡ false) where
  pub none_is_chosen : (q : ℕ) → is_chosen_place ways.pages.uses q ≡ false
  none_is_chosen q =
      elim (cases_Bool (is_chosen_place ways.pages.uses q)) [
        | inl chosen ↦
            absurd (false≢true (sym none ∙ some_chosen ways.pages.uses (page_at ways.pages.uses q) chosen))
        | inr stays ↦ stays
      ]

  named_there : (is_last : Bool) (q : ℕ) → leads_from ways os is_last (Some q) ≡ true
      → taken_way ways os (Some q) ≡ Some q
  named_there is_last q leads =
      elim (cases_Bool (is_some (slice_index_or os q None))) [
        | inl there ↦ simp there refl
        | inr gone ↦
            absurd (false≢true (sym (none_is_chosen q) ∙ old_place ways os is_last q leads gone))
      ]

  pub recoloured-healed : (b : Bool) (v : Option ℕ) → leads_by old ways os b v ≡ true
      → recoloured good v ≡ healed_word good ways os v
  recoloured-healed b None leads = refl
  recoloured-healed b (Some w) leads =
      let from = from_led old ways os b w leads in
      elim (cases_Bool (nat_le 64 (w % 2 ^ 62))) [
        | inl behind ↦
            let q : ℕ = w % 2 ^ 62 - 64 in
            let at : place_by (Some w) ≡ Some q = simp behind refl in
            let rest : colour_number good * 2 ^ 62 + w % 2 ^ 62 ≡ coloured_word good (1 + q / 64) (q % 64) =
            omega (arith, leb-true 64 (w % 2 ^ 62) behind) in
            ap Some rest
            ∙ sym (ap (word_there good) (ap (taken_way ways os) at
            ∙ named_there (has_colour ways.last (Some w)) q
            (ap (leads_from ways os (has_colour ways.last (Some w))) (sym at) ∙ from)))
        | inr before ↦
            let at : place_by (Some w) ≡ None = simp before refl in
            absurd (false≢true (ap (leads_from ways os (has_colour ways.last (Some w))) (sym at) ∙ from))
      ]

  each-recoloured : (b : Bool) (vs : List (Option ℕ)) → Each (leads_by old ways os b) vs
      → map (recoloured good) vs ≡ map (healed_word good ways os) vs
  each-recoloured b [] each = refl
  each-recoloured b (v ∷ vs) each =
      ap (λ w. w ∷ map (recoloured good) vs) (recoloured-healed b v each.0)
      ∙ ap (λ ws. healed_word good ways os v ∷ ws) (each-recoloured b vs each.1)

  reference-recoloured : (b : Bool) (r : Option Reference) → leads_by old ways os b (referent_of r) ≡ true
      → option_map (reference_by_number (recoloured good)) r
      ≡ option_map (reference_by_number (healed_word good ways os)) r
  reference-recoloured b None leads = refl
  reference-recoloured b (Some r) leads =
      ap (λ (n : Option ℕ). Some (record r { referent = n })) (recoloured-healed b r.referent leads)

  pub object-recoloured : (n m : ℕ) (k : Tabled) → IsHeldIn n (leads_by old ways os) k
      → healed_by (recoloured good) m k ≡ healed_by (healed_word good ways os) m k
  object-recoloured n m k held =
      λ i. record k {
        object = record k.object {
          fields = each-recoloured (is_healed n k) k.object.fields held.2.1 i;
          reference = reference-recoloured (is_healed n k) k.object.reference held.2.0 i;
        };
        healed_in = m;
      }

-- ---- the bits of what is held

-- each frame has a page, whose address is that of a word; and what leads to an object is a place of one of these
pub record AreAddressed (ways : Ways) (os : List (Option ℕ)) : Type 0 where
  pub address : (frame cell : ℕ) → frame < length ways.pages.uses → cell < 64
      → IsCell (use_of ways.pages.uses frame).address cell
  pub inside : (is_last : Bool) (q : ℕ) → leads_from ways os is_last (Some q) ≡ true
      → q / 64 < length ways.pages.uses

-- those of a word that is null or has a colour are so too
pub told_good : (good : Colour) (ways : Ways) (os : List (Option ℕ)) (b : Bool) (v : Option ℕ) → AreAddressed ways os
    → leads_by good ways os b v ≡ true → is_in_colour good v ≡ true
    → are_in_colour good (bits_told ways.pages.uses v) ≡ true
told_good good ways os b None addressed leads is = refl
told_good good ways os b (Some w) addressed leads is = by (place_by (Some w)) refl (from_led good ways os b w leads)
  where
    bits : ℕ
    bits = bits_told ways.pages.uses (Some w)

    coloured : is_coloured bits good ≡ true → are_in_colour good bits ≡ true
    coloured its =
        elim (cases_Bool (bits == 0)) [
          | inl null ↦ ap (λ c. c || is_coloured bits good) null
          | inr word ↦ ap (λ c. c || is_coloured bits good) word ∙ its
        ]

    by : (at : Option ℕ) → place_by (Some w) ≡ at → leads_from ways os (has_colour ways.last (Some w)) at ≡ true
        → are_in_colour good bits ≡ true
    by None at from = absurd (false≢true from)
    by (Some q) at from =
        let page = use_of ways.pages.uses (q / 64) in
        let inside = addressed.inside (has_colour ways.last (Some w)) q from in
        let fits = addressed.address (q / 64) 0 inside (omega arith) in
        let told : bits ≡ w / 2 ^ 62 * 2 ^ 62 + page.address * 64 + w % 64 =
        ap (λ o. bits_at (use_of ways.pages.uses (frame_at o)).address (Some w)) at in
        let top : bits / 2 ^ 62 ≡ w / 2 ^ 62 = (let below = fits.1 in omega (arith, told, below)) in
        coloured (ap (λ n. n == colour_number good) top ∙ is)

word_of_object : (good : Colour) (ways : Ways) (os : List (Option ℕ)) (b : Bool) (n word : ℕ)
    (own : Colour × ℕ × ℕ) → AreAddressed ways os → IsWordOf word own
    → leads_from ways os (has_colour ways.last (Some word)) (place_by (Some word)) ≡ true
    → target_by ways os (Some word) ≡ Some n
    → ((b && ways.tuned) ≡ true → is_coloured word good ≡ true)
    → IsWordOfObject good ways os b n (bits_told ways.pages.uses (Some word))
word_of_object good ways os b n word (colour, page, cell) addressed of leads named coloured =
    let pages : List Use = ways.pages.uses in
    let rest : word % 2 ^ 62 ≡ page * 64 + cell = omega (arith, of.1, of.0.1, of.0.2) in
    let place : word % 2 ^ 62 - 64 ≡ 64 * (page - 1) + cell = omega (arith, rest, of.0.0) in
    let behind : nat_le 64 (word % 2 ^ 62) ≡ true = le-leb 64 (word % 2 ^ 62) (omega (arith, rest, of.0.0)) in
    let at : place_by (Some word) ≡ Some (64 * (page - 1) + cell) = simp behind (ap Some place) in
    let lies : slice_index_or os (way_from ways os (64 * (page - 1) + cell)) None ≡ Some n =
    sym (ap (λ o. occupant_at os (way_of ways os o)) at) ∙ named in
    let whose : (64 * (page - 1) + cell) / 64 ≡ page - 1 = omega (arith, of.0.2) in
    let inside : page - 1 < length pages =
    (let own = addressed.inside (has_colour ways.last (Some word)) (64 * (page - 1) + cell)
    (ap (leads_from ways os (has_colour ways.last (Some word))) (sym at) ∙ leads) in omega (arith, own, whose)) in
    let fits = addressed.address (page - 1) cell inside of.0.2 in
    let frame : frame_at (place_by (Some word)) ≡ page - 1 = ap frame_at at ∙ whose in
    let top : word / 2 ^ 62 ≡ colour_number colour = omega (arith, of.1, of.0.1, of.0.2) in
    let low : word % 64 ≡ cell = omega (arith, of.1, of.0.2) in
    let bits : bits_told pages (Some word) ≡ coloured_word colour (use_of pages (page - 1)).address cell =
    ap (λ f. bits_at (use_of pages f).address (Some word)) frame
    ∙ ap (λ c. c * 2 ^ 62 + (use_of pages (page - 1)).address * 64 + word % 64) top
    ∙ ap (λ l. colour_number colour * 2 ^ 62 + (use_of pages (page - 1)).address * 64 + l) low in
    record {
      colour = colour;
      frame = page - 1;
      cell = cell;
      parts = ap parts_of bits ∙ parts_of-coloured colour (use_of pages (page - 1)).address cell fits;
      lies = lies;
      healed = λ has_to. same (coloured has_to);
    }
  where
    same : is_coloured word good ≡ true → colour ≡ good
    same is =
        let numbers : colour_number colour ≡ colour_number good =
        eqb-true (colour_number colour) (colour_number good)
        (sym (is_coloured-coloured colour good page cell of.0) ∙ ap (λ w. is_coloured w good) (sym of.1) ∙ is) in
        (coloured-same colour good page page cell cell of.0 of.0
        (ap (λ c. c * 2 ^ 62 + page * 64 + cell) numbers)).0

pub word_held : (good : Colour) (ways : Ways) (os : List (Option ℕ)) (b : Bool) (v : Option ℕ) (bits : ℕ)
    → AreAddressed ways os → bits ≡ bits_told ways.pages.uses v → leads_by good ways os b v ≡ true
    → IsWordHeld good ways os b (target_by ways os v) bits
word_held good ways os b None bits addressed own leads = own
word_held good ways os b (Some w) bits addressed own leads =
    let from = from_led good ways os b w leads in
    let named = some_number (target_by ways os (Some w))
    (reaches_value ways os (has_colour ways.last (Some w)) (place_by (Some w)) from) in
    let parts = parts_of_word w (grind arith) in
    rw (named.1, own)
    (word_of_object good ways os b named.0 w parts.0 addressed (is_word-parts_of w parts.0 parts.1) from named.1
    (λ has_to. grind arith))
