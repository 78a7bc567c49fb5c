-- A healed word leads to where its object lies, and so it does once pages are chosen, and once they have new addresses.
use Rattle.std.proofs.Common.{◌≡◌, ℕ, ◌/◌, ◌^◌, ◌&&◌, ◌||◌, Bool, true, false, not, refl, sym, ap, subst}
use Rattle.std.proofs.Common.{◌∙◌, arith, List, [], ◌∷◌, length, Option, Some, None, is_some, inl, inr}
use Rattle.std.specs.Prelude.{slice_index_or}
use Rattle.std.proofs.lemmas.Bool.{cases_Bool, false≢true, and_parts, eqb-true}
use Rattle.ref_space.specs.declared.colour.Colour.{Colour}
use Rattle.ref_space.specs.declared.colour.Colour.TheVariants.{A, B, R}
use Rattle.ref_space.specs.ColouredWords.{colour_number, is_coloured, has_colour, is_word, place_by}
use Rattle.ref_space.specs.Pages.{is_chosen_place}
use Rattle.ref_space.specs.Moves.{Ways}
use Rattle.ref_space.specs.Naming.{stays_at, moves_from, leads_from, leads_by, target_by, way_of, occupant_at}
use Rattle.ref_space.specs.Naming.{Each, EachHeld}
use Rattle.ref_space.specs.Tables.{Tabled, is_healed, unhealed_of, values_in}
use Rattle.ref_space.proofs.WordLemmas.{IsGood}
use Rattle.ref_space.proofs.WayLemmas.{there_way}

same_colour : (c d : Colour) → colour_number c ≡ colour_number d → c ≡ d
same_colour A A same = refl
same_colour A B same = absurd (omega (arith, same))
same_colour A R same = absurd (omega (arith, same))
same_colour B A same = absurd (omega (arith, same))
same_colour B B same = refl
same_colour B R same = absurd (omega (arith, same))
same_colour R A same = absurd (omega (arith, same))
same_colour R B same = absurd (omega (arith, same))
same_colour R R same = refl

pub one_colour : (w : ℕ) (c d : Colour) → is_coloured w c ≡ true → is_coloured w d ≡ true → c ≡ d
one_colour w c d one other =
    same_colour c d
    (sym (eqb-true (w / 2 ^ 62) (colour_number c) one) ∙ eqb-true (w / 2 ^ 62) (colour_number d) other)

-- ---- a healed word

-- its object lies at its place, and needn't move
pub record StaysHealed (good : Colour) (ways : Ways) (os : List (Option ℕ)) (v : Option ℕ) : Type 0 where
  pub at : ℕ
  pub place : place_by v ≡ Some at
  pub stays : stays_at ways os at ≡ true
  pub is : IsGood good v

module _ (good : Colour) (ways : Ways) (os : List (Option ℕ)) (is_tuned : ways.tuned ≡ true)
    (apart : (place : ℕ) → is_chosen_place ways.pages.uses place ≡ true → ways.last ≡ good → ⊥) where
  coloured : (b : Bool) → (not (true && ways.tuned) || b) ≡ true → b ≡ true
  coloured b is = simp is_tuned at is

  stays_still : (w q : ℕ) → has_colour good (Some w) ≡ true
      → leads_from ways os (has_colour ways.last (Some w)) (Some q) ≡ true → stays_at ways os q ≡ true
  stays_still w q colour leads =
      elim (cases_Bool (stays_at ways os q)) [
        | inl stays ↦ stays
        | inr goes ↦
            let moves = and_parts (has_colour ways.last (Some w)) (moves_from ways os q) (simp goes at leads) in
            let chosen = (and_parts (is_chosen_place ways.pages.uses q) _ moves.1).0 in
            absurd (apart q chosen (one_colour w ways.last good moves.0 colour))
      ]

  pub healed_stays : (w : ℕ) → leads_by good ways os true (Some w) ≡ true → StaysHealed good ways os (Some w)
  healed_stays w leads =
      let parts = and_parts (leads_from ways os (has_colour ways.last (Some w)) (place_by (Some w)))
      (is_word (Some w) && (not (true && ways.tuned) || has_colour good (Some w))) leads in
      let told = and_parts (is_word (Some w)) (not (true && ways.tuned) || has_colour good (Some w)) parts.1 in
      by (place_by (Some w)) refl parts.0 told.0 (coloured (has_colour good (Some w)) told.1)
    where
      by : (at : Option ℕ) → place_by (Some w) ≡ at
          → leads_from ways os (has_colour ways.last (Some w)) (place_by (Some w)) ≡ true → is_word (Some w) ≡ true
          → has_colour good (Some w) ≡ true → StaysHealed good ways os (Some w)
      by None at from word colour =
          absurd (false≢true (sym (ap (leads_from ways os (has_colour ways.last (Some w))) at) ∙ from))
      by (Some q) at from word colour = record {
        at = q;
        place = at;
        stays = stays_still w q colour (sym (ap (leads_from ways os (has_colour ways.last (Some w))) at) ∙ from);
        is = record { word = word; coloured = colour };
      }

  lies : (q : ℕ) → stays_at ways os q ≡ true → is_some (slice_index_or os q None) ≡ true
  lies q stays = (and_parts (is_some (slice_index_or os q None)) (not (is_chosen_place ways.pages.uses q)) stays).0

  -- ---- other ways

  module _ (more : Ways) where
    -- it leads to the same object
    pub target_still : (v : Option ℕ) → leads_by good ways os true v ≡ true
        → target_by more os v ≡ target_by ways os v
    target_still None leads = refl
    target_still (Some w) leads =
        let still = healed_stays w leads in
        let there = lies still.at still.stays in
        ap (λ o. occupant_at os (way_of more os o)) still.place
        ∙ ap (λ q. slice_index_or os q None) (there_way more os still.at there ∙ sym (there_way ways os still.at there))
        ∙ sym (ap (λ o. occupant_at os (way_of ways os o)) still.place)

    -- once pages are chosen its object may be one that is to move: the good colour is now that from before
    pub leads_chosen : more.last ≡ good → more.tuned ≡ false → (next : Colour) (v : Option ℕ)
        → leads_by good ways os true v ≡ true → (b : Bool) → leads_by next more os b v ≡ true
    leads_chosen last untuned next None leads b = refl
    leads_chosen last untuned next (Some w) leads b =
        let still = healed_stays w leads in
        let there = lies still.at still.stays in
        let old : has_colour more.last (Some w) ≡ true = ap (λ c. has_colour c (Some w)) last ∙ still.is.coloured in
        let from : leads_from more os (has_colour more.last (Some w)) (place_by (Some w)) ≡ true =
        ap (leads_from more os (has_colour more.last (Some w))) still.place
        ∙ ap (λ c. leads_from more os c (Some still.at)) old ∙ either still.at there in
        let word = still.is.word in
        ap (λ f. f && (is_word (Some w) && (not (b && more.tuned) || has_colour next (Some w)))) from
        ∙ ap (λ i. i && (not (b && more.tuned) || has_colour next (Some w))) word
        ∙ ap (λ t. not (b && t) || has_colour next (Some w)) untuned ∙ anyhow b (has_colour next (Some w))
      where
        either : (q : ℕ) → is_some (slice_index_or os q None) ≡ true → leads_from more os true (Some q) ≡ true
        either q there =
            elim (cases_Bool (is_chosen_place more.pages.uses q)) [
              | inl chosen ↦ simp (there, chosen) refl
              | inr open_page ↦ simp (there, open_page) refl
            ]

        anyhow : (b c : Bool) → (not (b && false) || c) ≡ true
        anyhow true c = refl
        anyhow false c = refl

    -- once no page is chosen
    pub leads_opened : ((q : ℕ) → is_chosen_place more.pages.uses q ≡ false) → (v : Option ℕ)
        → leads_by good ways os true v ≡ true → (b : Bool) → leads_by good more os b v ≡ true
    leads_opened open_all None leads b = refl
    leads_opened open_all (Some w) leads b =
        let still = healed_stays w leads in
        let there = lies still.at still.stays in
        let stays : stays_at more os still.at ≡ true = let own = open_all still.at in simp (there, own) refl in
        let from : leads_from more os (has_colour more.last (Some w)) (place_by (Some w)) ≡ true =
        ap (leads_from more os (has_colour more.last (Some w))) still.place ∙ simp stays refl in
        ap (λ f. f && (is_word (Some w) && (not (b && more.tuned) || has_colour good (Some w)))) from
        ∙ ap (λ i. i && (not (b && more.tuned) || has_colour good (Some w))) still.is.word
        ∙ ap (λ c. not (b && more.tuned) || c) still.is.coloured ∙ either (not (b && more.tuned))
      where
        either : (b : Bool) → (b || true) ≡ true
        either true = refl
        either false = refl

-- ---- where each object is healed

module _ (round : ℕ) (leads : Bool → Option ℕ → Bool) where
  some_unhealed : (n : ℕ) (ns : List ℕ) → n ∷ ns ≡ [] → ⊥
  some_unhealed n ns is = let size = ap length is in omega (arith, size)

  pub all_healed : (ks : List Tabled) → EachHeld round leads ks → unhealed_of round ks ≡ []
      → EachHeld round (λ b v. leads true v) ks
  all_healed [] held none = tt
  all_healed (k ∷ ks) held none =
      elim (cases_Bool (is_healed round k)) [
        | inl healed ↦ (
          (held.0.0, held.0.1, each_true (is_healed round k) healed (values_in k) held.0.2),
          all_healed ks held.1 (simp healed at none),
        )
        | inr other ↦ absurd (some_unhealed k.object.no (unhealed_of round ks) (simp other at none))
      ]
    where
      each_true : (b : Bool) → b ≡ true → (vs : List (Option ℕ)) → Each (leads b) vs → Each (leads true) vs
      each_true b is vs each = subst (λ c. Each (leads c) vs) is each
