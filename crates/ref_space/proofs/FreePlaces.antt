-- Which cells are free after an object was placed, after one went, and after one moved.
use Rattle.std.proofs.Common.{◌≡◌, ℕ, ◌*◌, ◌<◌, ◌==◌, Bool, true, false, sym, ap, ◌∙◌, arith, List, length, set}
use Rattle.std.proofs.Common.{inl, inr, ◌%◌, nat_lt, if◌then◌else◌}
use Rattle.std.specs.Prelude.{◌⊎◌}
use Rattle.std.proofs.lemmas.Bool.{cases_Bool, eqb-true, eqb-false, true≢false, false≢true}
use Rattle.std.proofs.lemmas.List.{get_or-set_same, get_or-set_other, length-set, get_or_past}
use Rattle.ref_space.specs.Pages.{Use, page_at, is_chosen_place, is_free_place, with_place}
use Rattle.ref_space.specs.Moves.{AreFree, IsTarget, IsReserved, Leaves, NoneLeaves, is_vacant, forward_of}
use Rattle.ref_space.proofs.FrameLemmas.{times-with}
use Rattle.ref_space.proofs.NextPlaces.{length-with}
use Rattle.ref_space.proofs.PageLemmas.{whole_with}
use Rattle.ref_space.proofs.PlaceUses.{chosen_place-with, free_place-same, free_place-other}
use Rattle.std.proofs.Common.{nat_lt, ◌≤◌}
use Rattle.std.proofs.Common.{ltb-true}
use Rattle.std.proofs.Common.{ltb-false}

-- ---- a place at which something lies, or doesn't any more

vacant-same : (bs : List Bool) (place : ℕ) (b : Bool) → place < length bs → is_vacant (set bs place b) place ≡ b
vacant-same bs place b within = get_or-set_same bs place b true within

pub vacant-other : (bs : List Bool) (place other : ℕ) (b : Bool) → (other ≡ place → ⊥)
    → is_vacant (set bs place b) other ≡ is_vacant bs other
vacant-other bs place other b apart = get_or-set_other bs place other b true apart

pub within_vacant : (bs : List Bool) (place : ℕ) → is_vacant bs place ≡ false → place < length bs
within_vacant bs place own =
    elim (cases_Bool (nat_lt place (length bs))) [
      | inl within ↦ ltb-true place (length bs) within
      | inr past ↦ absurd (true≢false (sym (get_or_past bs place true (ltb-false place (length bs) past)) ∙ own))
    ]

module _ {bs : List Bool} {fs : List ℕ} {ps : List Use} (are : AreFree bs fs ps) where
  pub leaves_within : (place : ℕ) → Leaves bs ps place → place < length bs
  leaves_within place leaves = within_vacant bs place leaves.1

  -- a free place of an open page is vacant, as it was, but for the one that changes
  free_elsewhere : (place other : ℕ) (b : Bool) → (other ≡ place → ⊥) → is_chosen_place ps other ≡ false
      → (now : List Use) → (other < length bs → is_free_place now other ≡ is_free_place ps other)
      → is_free_place now other ≡ true → is_vacant (set bs place b) other ≡ true
  free_elsewhere place other b apart open_page now as_before is_free =
      vacant-other bs place other b apart
      ∙ elim (cases_Bool (nat_lt other (length bs))) [
        | inl there ↦ are.free other open_page (sym (as_before (ltb-true other (length bs) there)) ∙ is_free)
        | inr past ↦ get_or_past bs other true (ltb-false other (length bs) past)
      ]

  -- ---- an object is placed

  module _ (place : ℕ) (within : place < length bs) (stays : is_chosen_place ps place ≡ false)
      (is_free : is_free_place ps place ≡ true) where
    abbrev placed : List Use
    placed = with_place ps place false

    abbrev more : List Bool
    more = set bs place false

    fits : place < 64 * length ps
    fits = omega (arith, within, are.sized)

    chosen_then : (other : ℕ) → is_chosen_place placed other ≡ is_chosen_place ps other
    chosen_then other = chosen_place-with ps (page_at ps place) (place % 64) false other

    left_before : (other : ℕ) → Leaves more placed other → Leaves bs ps other
    left_before other leaves =
        let chosen = sym (chosen_then other) ∙ leaves.0 in (
          chosen,
          sym (vacant-other bs place other false (λ same. true≢false (sym chosen ∙ ap (is_chosen_place ps) same
              ∙ stays)))
              ∙ leaves.1,
        )

    left_after : (other : ℕ) → Leaves bs ps other → Leaves more placed other
    left_after other leaves = (
      chosen_then other ∙ leaves.0,
      vacant-other bs place other false (λ same. true≢false (sym leaves.0 ∙ ap (is_chosen_place ps) same ∙ stays))
          ∙ leaves.1,
    )

    -- nothing is reserved there
    unreserved : (other : ℕ) → is_free_place ps other ≡ false → (other ≡ place → ⊥)
    unreserved other taken same = true≢false (sym is_free ∙ ap (is_free_place ps) (sym same) ∙ taken)

    free_other : (other : ℕ) → other < length bs → (other ≡ place → ⊥)
        → is_free_place placed other ≡ is_free_place ps other
    free_other other there apart =
        free_place-other ps are.framed are.whole place other false fits (omega (arith, there, are.sized)) apart

    pub free_pushed : AreFree more fs placed
    free_pushed = record {
      whole = whole_with ps (page_at ps place) (place % 64) false are.whole;
      framed = λ frame. times-with ps (page_at ps place) (place % 64) false frame
          ∙ are.framed frame
          ∙ ap (λ n. if nat_lt frame n then 1 else 0) (sym (length-with ps (page_at ps place) (place % 64) false));
      sized = length-set bs place false ∙ are.sized
          ∙ ap (λ n. 64 * n) (sym (length-with ps (page_at ps place) (place % 64) false));
      forwarded = are.forwarded ∙ sym (length-set bs place false);
      free = λ other open_page free_then. free_before other (sym (chosen_then other) ∙ open_page) free_then;
      taken = λ other there open_page taken_then.
          taken_before other (let size = length-set bs place false in omega (arith, there, size))
          (sym (chosen_then other) ∙ open_page) taken_then;
      left = λ other there chosen.
          let was = sym (chosen_then other) ∙ chosen in
          let apart : other ≡ place → ⊥ = λ same. true≢false (sym was ∙ ap (is_chosen_place ps) same ∙ stays) in
          let inside : other < length bs = (let size = length-set bs place false in omega (arith, there, size)) in
          free_other other inside apart ∙ are.left other inside was ∙ sym (vacant-other bs place other false apart);
      target = λ other leaves. target_then (forward_of fs other) (are.target other (left_before other leaves));
      apart = λ one other one_leaves other_leaves same.
          are.apart one other (left_before one one_leaves) (left_before other other_leaves) same;
    }
      where
        free_before : (other : ℕ) → is_chosen_place ps other ≡ false → is_free_place placed other ≡ true
            → is_vacant more other ≡ true
        free_before other open_page free_then =
            elim (cases_Bool (other == place)) [
              | inl own ↦
                  let same = eqb-true other place own in
                  absurd (false≢true
                  (sym (ap (is_free_place placed) same ∙ free_place-same ps are.framed are.whole place false fits)
                  ∙ free_then))
              | inr differs ↦
                  let apart = eqb-false other place differs in
                  free_elsewhere place other false apart open_page placed
                  (λ there. free_other other there apart) free_then
            ]

        taken_before : (other : ℕ) → other < length bs → is_chosen_place ps other ≡ false
            → is_free_place placed other ≡ false → (is_vacant more other ≡ false) ⊎ IsReserved more fs placed other
        taken_before other there open_page taken_then =
            elim (cases_Bool (other == place)) [
              | inl own ↦
                  inl (ap (is_vacant more) (eqb-true other place own) ∙ vacant-same bs place false within)
              | inr differs ↦
                  let apart = eqb-false other place differs in
                  elim (are.taken other there open_page (sym (free_other other there apart) ∙ taken_then)) [
                    | inl lies ↦ inl (vacant-other bs place other false apart ∙ lies)
                    | inr kept ↦ inr (kept.0, left_after kept.0 kept.1, kept.2)
                  ]
            ]

        target_then : (other : ℕ) → IsTarget bs ps other → IsTarget more placed other
        target_then other is =
            let apart = unreserved other is.kept in
            record {
              within = let size = length-set bs place false in let there = is.within in omega (arith, there, size);
              stays = chosen_then other ∙ is.stays;
              kept = free_other other is.within apart ∙ is.kept;
              vacant = vacant-other bs place other false apart ∙ is.vacant;
            }

  -- ---- an object goes

  module _ (none : NoneLeaves bs ps) (place : ℕ) (stays : is_chosen_place ps place ≡ false)
      (own : is_vacant bs place ≡ false) where
    abbrev after : List Use
    after = with_place ps place true

    abbrev fewer : List Bool
    fewer = set bs place true

    chosen_after : (other : ℕ) → is_chosen_place after other ≡ is_chosen_place ps other
    chosen_after other = chosen_place-with ps (page_at ps place) (place % 64) true other

    there_own : place < length bs
    there_own = within_vacant bs place own

    none_after : (other : ℕ) → Leaves fewer after other → ⊥
    none_after other leaves =
        let chosen = sym (chosen_after other) ∙ leaves.0 in
        let apart : other ≡ place → ⊥ =
        λ same. true≢false (sym chosen ∙ ap (is_chosen_place ps) same ∙ stays) in
        true≢false (sym (none other chosen) ∙ sym (vacant-other bs place other true apart) ∙ leaves.1)

    other_free : (other : ℕ) → other < length bs → (other ≡ place → ⊥)
        → is_free_place after other ≡ is_free_place ps other
    other_free other there apart =
        free_place-other ps are.framed are.whole place other true (omega (arith, there_own, are.sized))
        (omega (arith, there, are.sized)) apart

    pub free_given : AreFree fewer fs after
    free_given = record {
      whole = whole_with ps (page_at ps place) (place % 64) true are.whole;
      framed = λ frame. times-with ps (page_at ps place) (place % 64) true frame
          ∙ are.framed frame
          ∙ ap (λ n. if nat_lt frame n then 1 else 0) (sym (length-with ps (page_at ps place) (place % 64) true));
      sized = length-set bs place true ∙ are.sized
          ∙ ap (λ n. 64 * n) (sym (length-with ps (page_at ps place) (place % 64) true));
      forwarded = are.forwarded ∙ sym (length-set bs place true);
      free = λ other open_page free_then. free_then_vacant other (sym (chosen_after other) ∙ open_page) free_then;
      taken = λ other there open_page taken_then.
          inl (lies_still other (let size = length-set bs place true in omega (arith, there, size))
          (sym (chosen_after other) ∙ open_page) taken_then);
      left = λ other there chosen.
          let was = sym (chosen_after other) ∙ chosen in
          let apart : other ≡ place → ⊥ = λ same. true≢false (sym was ∙ ap (is_chosen_place ps) same ∙ stays) in
          let inside : other < length bs = (let size = length-set bs place true in omega (arith, there, size)) in
          other_free other inside apart ∙ are.left other inside was ∙ sym (vacant-other bs place other true apart);
      target = λ other leaves. absurd (none_after other leaves);
      apart = λ one other one_leaves other_leaves same. absurd (none_after one one_leaves);
    }
      where
        free_then_vacant : (other : ℕ) → is_chosen_place ps other ≡ false → is_free_place after other ≡ true
            → is_vacant fewer other ≡ true
        free_then_vacant other open_page free_then =
            elim (cases_Bool (other == place)) [
              | inl same ↦ ap (is_vacant fewer) (eqb-true other place same) ∙ vacant-same bs place true there_own
              | inr differs ↦
                  let apart = eqb-false other place differs in
                  free_elsewhere place other true apart open_page after
                  (λ there. other_free other there apart) free_then
            ]

        lies_still : (other : ℕ) → other < length bs → is_chosen_place ps other ≡ false
            → is_free_place after other ≡ false → is_vacant fewer other ≡ false
        lies_still other there open_page taken_then =
            elim (cases_Bool (other == place)) [
              | inl same ↦
                  absurd (true≢false
                  (sym (ap (is_free_place after) (eqb-true other place same)
                  ∙ free_place-same ps are.framed are.whole place true (omega (arith, there_own, are.sized)))
                  ∙ taken_then))
              | inr differs ↦
                  let apart = eqb-false other place differs in
                  vacant-other bs place other true apart
                  ∙ elim (are.taken other there open_page (sym (other_free other there apart) ∙ taken_then)) [
                    | inl lies ↦ lies
                    | inr kept ↦ absurd (true≢false (sym (none kept.0 kept.1.0) ∙ kept.1.1))
                  ]
            ]

  -- ---- an object moves

  module _ (from : ℕ) (leaves : Leaves bs ps from) where
    abbrev to : ℕ
    to = forward_of fs from

    abbrev there : List Bool
    there = set (set bs to false) from true

    its : IsTarget bs ps to
    its = are.target from leaves

    not_same : to ≡ from → ⊥
    not_same same = true≢false (sym leaves.0 ∙ ap (is_chosen_place ps) (sym same) ∙ its.stays)

    size_there : length there ≡ length bs
    size_there = length-set (set bs to false) from true ∙ length-set bs to false

    pub vacant_from : is_vacant there from ≡ true
    vacant_from =
        vacant-same (set bs to false) from true
        (let size = length-set bs to false in let within = leaves_within from leaves in omega (arith, size, within))

    pub lies_to : is_vacant there to ≡ false
    lies_to = vacant-other (set bs to false) from to true not_same ∙ vacant-same bs to false its.within

    pub vacant_else : (other : ℕ) → (other ≡ from → ⊥) → (other ≡ to → ⊥) → is_vacant there other ≡ is_vacant bs other
    vacant_else other not_from not_to =
        vacant-other (set bs to false) from other true not_from ∙ vacant-other bs to other false not_to

    -- its cell is free then
    abbrev left : List Use
    left = with_place ps from true

    fits_from : from < 64 * length ps
    fits_from = let within = leaves_within from leaves in omega (arith, within, are.sized)

    chosen_still : (other : ℕ) → is_chosen_place left other ≡ is_chosen_place ps other
    chosen_still other = chosen_place-with ps (page_at ps from) (from % 64) true other

    -- a place of an open page is another
    not_from : (other : ℕ) → is_chosen_place ps other ≡ false → other ≡ from → ⊥
    not_from other stays same = true≢false (sym leaves.0 ∙ ap (is_chosen_place ps) (sym same) ∙ stays)

    not_to : (other : ℕ) → is_chosen_place ps other ≡ true → other ≡ to → ⊥
    not_to other chosen same = true≢false (sym chosen ∙ ap (is_chosen_place ps) same ∙ its.stays)

    free_still : (other : ℕ) → other < length bs → (other ≡ from → ⊥)
        → is_free_place left other ≡ is_free_place ps other
    free_still other within apart =
        free_place-other ps are.framed are.whole from other true fits_from (omega (arith, within, are.sized)) apart

    still : (other : ℕ) → Leaves there left other → Leaves bs ps other
    still other leaves_there =
        let chosen = sym (chosen_still other) ∙ leaves_there.0 in
        let apart : other ≡ from → ⊥ =
        λ same. true≢false (sym vacant_from ∙ ap (is_vacant there) (sym same) ∙ leaves_there.1) in
        (chosen, sym (vacant_else other apart (not_to other chosen)) ∙ leaves_there.1)

    pub free_moved : AreFree there fs left
    free_moved = record {
      whole = whole_with ps (page_at ps from) (from % 64) true are.whole;
      framed = λ frame. times-with ps (page_at ps from) (from % 64) true frame
          ∙ are.framed frame
          ∙ ap (λ n. if nat_lt frame n then 1 else 0) (sym (length-with ps (page_at ps from) (from % 64) true));
      sized = size_there ∙ are.sized ∙ ap (λ n. 64 * n) (sym (length-with ps (page_at ps from) (from % 64) true));
      forwarded = are.forwarded ∙ sym size_there;
      free = λ other open_page. free_there other (sym (chosen_still other) ∙ open_page);
      taken = λ other within open_page.
          taken_there other (omega (arith, within, size_there)) (sym (chosen_still other) ∙ open_page);
      left = λ other within chosen.
          left_there other (omega (arith, within, size_there)) (sym (chosen_still other) ∙ chosen);
      target = target_there;
      apart = λ one other one_leaves other_leaves same.
          are.apart one other (still one one_leaves) (still other other_leaves) same;
    }
      where
        free_there : (other : ℕ) → is_chosen_place ps other ≡ false → is_free_place left other ≡ true
            → is_vacant there other ≡ true
        free_there other open_page is_free =
            elim (cases_Bool (nat_lt other (length bs))) [
              | inl within ↦
                  let there_is : other < length bs = ltb-true other (length bs) within in
                  let before = sym (free_still other there_is (not_from other open_page)) ∙ is_free in
                  let apart : other ≡ to → ⊥ =
                  λ same. true≢false (sym before ∙ ap (is_free_place ps) same ∙ its.kept) in
                  vacant_else other (not_from other open_page) apart ∙ are.free other open_page before
              | inr past ↦
                  let far : length bs ≤ other = ltb-false other (length bs) past in
                  get_or_past there other true (omega (arith, far, size_there))
            ]

        taken_there : (other : ℕ) → other < length bs → is_chosen_place ps other ≡ false
            → is_free_place left other ≡ false → (is_vacant there other ≡ false) ⊎ IsReserved there fs left other
        taken_there other within open_page taken =
            let apart = not_from other open_page in
            elim (cases_Bool (other == to)) [
              | inl same ↦ inl (ap (is_vacant there) (eqb-true other to same) ∙ lies_to)
              | inr differs ↦
                  let far = eqb-false other to differs in
                  elim (are.taken other within open_page (sym (free_still other within apart) ∙ taken)) [
                    | inl lies ↦ inl (vacant_else other apart far ∙ lies)
                    | inr kept ↦ inr (kept.0, kept_there other far kept.0 kept.1 kept.2, kept.2)
                  ]
            ]
          where
            kept_there : (other : ℕ) → (other ≡ to → ⊥) → (one : ℕ) → Leaves bs ps one → forward_of fs one ≡ other
                → Leaves there left one
            kept_there other far one one_leaves goes =
                let apart : one ≡ from → ⊥ = λ same. far (sym goes ∙ ap (forward_of fs) same) in (
                  chosen_still one ∙ one_leaves.0,
                  vacant_else one apart (not_to one one_leaves.0) ∙ one_leaves.1,
                )

        left_there : (other : ℕ) → other < length bs → is_chosen_place ps other ≡ true
            → is_free_place left other ≡ is_vacant there other
        left_there other within chosen =
            elim (cases_Bool (other == from)) [
              | inl same ↦
                  let is = eqb-true other from same in
                  ap (is_free_place left) is ∙ free_place-same ps are.framed are.whole from true fits_from
                  ∙ sym (ap (is_vacant there) is ∙ vacant_from)
              | inr differs ↦
                  let apart = eqb-false other from differs in
                  free_still other within apart ∙ are.left other within chosen
                  ∙ sym (vacant_else other apart (not_to other chosen))
            ]

        target_there : (other : ℕ) → Leaves there left other → IsTarget there left (forward_of fs other)
        target_there other leaves_there =
            let before = still other leaves_there in
            let is = are.target other before in
            let apart = not_from (forward_of fs other) is.stays in
            let far : forward_of fs other ≡ to → ⊥ =
            λ same. true≢false (sym vacant_from
            ∙ ap (is_vacant there) (sym (are.apart other from before leaves same)) ∙ leaves_there.1) in
            record {
              within = let inside = is.within in omega (arith, inside, size_there);
              stays = chosen_still (forward_of fs other) ∙ is.stays;
              kept = free_still (forward_of fs other) is.within apart ∙ is.kept;
              vacant = vacant_else (forward_of fs other) apart far ∙ is.vacant;
            }
