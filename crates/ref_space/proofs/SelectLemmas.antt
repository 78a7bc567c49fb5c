-- As pages are chosen, what lies there gets places in others, one after another.
use Rattle.std.proofs.Common.{◌≡◌, ℕ, zero, suc, ◌+◌, ◌*◌, ◌/◌, ◌%◌, ◌<◌, ◌≤◌, ◌==◌, Bool, true, false}
use Rattle.std.proofs.Common.{refl, sym, ap, subst, ◌∙◌, arith, List, [], ◌∷◌, ◌++◌, length, get_or, set, inl, inr}
use Rattle.std.proofs.Common.{nat_lt}
use Rattle.std.proofs.Common.{if◌then◌else◌, Option, Some, None, is_some, ltb-true, ltb-false, length-set}
use Rattle.std.specs.Prelude.{◌⊎◌}
use Rattle.std.proofs.lemmas.Bool.{cases_Bool, true≢false, false≢true, eqb-true, eqb-false, eq-eqb}
use Rattle.std.proofs.lemmas.List.{length-map}
use Rattle.std.proofs.lemmas.List.{append-nil, append_assoc, get_or-set_same, get_or-set_other, get_or_past}
use Rattle.ref_base.specs.Members.{has, AreDistinct}
use Rattle.ref_base.proofs.HasLaws.{has-cases, has-left, has-right}
use Rattle.ref_space.specs.Pages.{Use, Pages, use_at, place_of, AreWhole, AreFramed, AreBetween, Packed, opened}
use Rattle.ref_space.specs.Pages.{taken_of, chosen_frames, left_in, is_chosen_place, is_free_place, page_at, with_place}
use Rattle.ref_space.specs.Pages.{placing, next_place, next_cell, place_in_frame, in_frame, reserved, reserved_to}
use Rattle.ref_space.specs.Pages.{reserving}
use Rattle.ref_space.specs.Pages.{choosing, chosen_if_sparse, with_placed}
use Rattle.ref_space.specs.Moves.{AreFree, IsTarget, Leaves, is_vacant, forward_of}
use Rattle.ref_space.proofs.FrameLemmas.{times-with}
use Rattle.ref_space.proofs.NextPlaces.{length-with}
use Rattle.ref_space.proofs.PageLemmas.{whole_with}
use Rattle.ref_space.proofs.PlaceUses.{IsNext, next_is, chosen_place-with, free_place-same, free_place-other}
use Rattle.ref_space.proofs.CallLemmas.{between-placed, whole-choosing, framed-choosing}
use Rattle.ref_space.proofs.MoveLemmas.{some_chosen}
use Rattle.ref_space.proofs.RoomLemmas.{always_room, open_taken, opened_pages, packed_placing}
use Rattle.ref_space.proofs.ReserveLemmas.{KeepsChosen, pages_reserved}
use Rattle.ref_space.proofs.LeftPlaces.{is_left, left_has}
use Rattle.ref_space.proofs.FreePlaces.{within_vacant}

-- ---- some have places already

-- the place is that of one of these
abbrev pub IsGivenTo : List ℕ → List ℕ → ℕ → Type 0
IsGivenTo fs done place = (from : ℕ) × (has done from ≡ true) × (forward_of fs from ≡ place)

pub record ArePartly (bs : List Bool) (fs : List ℕ) (ps : List Use) (done : List ℕ) : Type 0 where
  pub whole : AreWhole ps
  pub framed : AreFramed ps
  pub sized : length bs ≡ 64 * length ps
  pub forwarded : length fs ≡ length bs
  pub free : (place : ℕ) → is_chosen_place ps place ≡ false → is_free_place ps place ≡ true
      → is_vacant bs place ≡ true
  pub taken : (place : ℕ) → place < length bs → is_chosen_place ps place ≡ false → is_free_place ps place ≡ false
      → (is_vacant bs place ≡ false) ⊎ IsGivenTo fs done place
  pub left : (place : ℕ) → place < length bs → is_chosen_place ps place ≡ true
      → is_free_place ps place ≡ is_vacant bs place
  pub target : (from : ℕ) → has done from ≡ true → IsTarget bs ps (forward_of fs from)
  pub apart : (one other : ℕ) → has done one ≡ true → has done other ≡ true
      → forward_of fs one ≡ forward_of fs other → one ≡ other

-- one more gets the next place
module _ {bs : List Bool} {fs : List ℕ} {ps : List Use} {done : List ℕ} (are : ArePartly bs fs ps done) (from : ℕ)
    (within : from < length bs) (new : has done from ≡ false) (at : ℕ × ℕ) (next : next_cell ps ≡ Some at) where
  abbrev to : ℕ
  to = place_in_frame at

  is : IsNext ps to
  is = next_is ps are.framed are.whole at next

  abbrev qs : List Use
  qs = with_place ps to false

  abbrev gs : List ℕ
  gs = set fs from to

  to_within : to < length bs
  to_within = let inside = is.within in omega (arith, inside, are.sized)

  chosen_then : (other : ℕ) → is_chosen_place qs other ≡ is_chosen_place ps other
  chosen_then other = chosen_place-with ps (page_at ps to) (to % 64) false other

  free_other : (other : ℕ) → other < length bs → (other ≡ to → ⊥) → is_free_place qs other ≡ is_free_place ps other
  free_other other there apart =
      free_place-other ps are.framed are.whole to other false is.within (omega (arith, there, are.sized)) apart

  free_own : is_free_place qs to ≡ false
  free_own = free_place-same ps are.framed are.whole to false is.within

  forward_own : forward_of gs from ≡ to
  forward_own = get_or-set_same fs from to from (omega (arith, within, are.forwarded))

  forward_other : (other : ℕ) → (other ≡ from → ⊥) → forward_of gs other ≡ forward_of fs other
  forward_other other apart = get_or-set_other fs from other to other apart

  not_from : (other : ℕ) → has done other ≡ true → other ≡ from → ⊥
  not_from other in_it same = true≢false (sym in_it ∙ ap (has done) same ∙ new)

  which : (other : ℕ) → has (done ++ from ∷ []) other ≡ true → (has done other ≡ true) ⊎ (from ≡ other)
  which other in_it =
      elim (has-cases done (from ∷ []) other in_it) [
        | inl before ↦ inl before
        | inr own ↦ inr (single own)
      ]
    where
      single : has (from ∷ []) other ≡ true → from ≡ other
      single own =
          elim (cases_Bool (from == other)) [
            | inl same ↦ eqb-true from other same
            | inr differs ↦ absurd (false≢true (simp differs at own))
          ]

  -- what lies elsewhere isn't to go there
  other_target : (other : ℕ) → has done other ≡ true → forward_of fs other ≡ to → ⊥
  other_target other in_it same =
      true≢false (sym is.is_free ∙ ap (is_free_place ps) (sym same) ∙ (are.target other in_it).kept)

  free_then : (other : ℕ) → is_chosen_place ps other ≡ false → is_free_place qs other ≡ true → is_vacant bs other ≡ true
  free_then other open_page is_free =
      elim (cases_Bool (nat_lt other (length bs))) [
        | inl there ↦
            let apart : other ≡ to → ⊥ =
            λ same. true≢false (sym is_free ∙ ap (is_free_place qs) same ∙ free_own) in
            are.free other open_page (sym (free_other other (ltb-true other (length bs) there) apart) ∙ is_free)
        | inr past ↦ get_or_past bs other true (ltb-false other (length bs) past)
      ]

  taken_then : (other : ℕ) → other < length bs → is_chosen_place ps other ≡ false → is_free_place qs other ≡ false
      → (is_vacant bs other ≡ false) ⊎ IsGivenTo gs (done ++ from ∷ []) other
  taken_then other there open_page taken =
      elim (cases_Bool (other == to)) [
        | inl same ↦
            let own : (from == from) ≡ true = eq-eqb from from refl in
            inr (from, has-right done (from ∷ []) from (simp own refl), forward_own ∙ sym (eqb-true other to same))
        | inr differs ↦
            let apart = eqb-false other to differs in
            elim (are.taken other there open_page (sym (free_other other there apart) ∙ taken)) [
              | inl lies ↦ inl lies
              | inr kept ↦ inr (
                kept.0,
                has-left done (from ∷ []) kept.0 kept.1,
                forward_other kept.0 (not_from kept.0 kept.1) ∙ kept.2,
              )
            ]
      ]

  target_then : (other : ℕ) → has (done ++ from ∷ []) other ≡ true → IsTarget bs qs (forward_of gs other)
  target_then other in_it =
      elim (which other in_it) [
        | inl before ↦
            let its = are.target other before in
            subst (IsTarget bs qs) (sym (forward_other other (not_from other before)))
            (record {
              within = its.within;
              stays = chosen_then (forward_of fs other) ∙ its.stays;
              kept = free_other (forward_of fs other) its.within (other_target other before) ∙ its.kept;
              vacant = its.vacant;
            })
        | inr own ↦
            subst (IsTarget bs qs) (sym (ap (forward_of gs) (sym own) ∙ forward_own))
            (record {
              within = to_within;
              stays = chosen_then to ∙ is.stays;
              kept = free_own;
              vacant = are.free to is.stays is.is_free;
            })
      ]

  apart_then : (one other : ℕ) → has (done ++ from ∷ []) one ≡ true → has (done ++ from ∷ []) other ≡ true
      → forward_of gs one ≡ forward_of gs other → one ≡ other
  apart_then one other one_in other_in same =
      elim (which one one_in) [
        | inl one_before ↦ elim (which other other_in) [
          | inl other_before ↦
              are.apart one other one_before other_before
              (sym (forward_other one (not_from one one_before)) ∙ same
              ∙ forward_other other (not_from other other_before))
          | inr own ↦
              absurd (other_target one one_before
              (sym (forward_other one (not_from one one_before)) ∙ same ∙ ap (forward_of gs) (sym own) ∙ forward_own))
        ]
        | inr one_own ↦ elim (which other other_in) [
          | inl other_before ↦
              absurd (other_target other other_before
              (sym (forward_other other (not_from other other_before)) ∙ sym same ∙ ap (forward_of gs) (sym one_own)
              ∙ forward_own))
          | inr own ↦ sym one_own ∙ own
        ]
      ]

  pub partly_more : ArePartly bs gs (placing ps) (done ++ from ∷ [])
  partly_more =
      subst (λ us. ArePartly bs gs us (done ++ from ∷ [])) (sym is.placed)
      (record {
        whole = whole_with ps (page_at ps to) (to % 64) false are.whole;
        framed = λ frame. times-with ps (page_at ps to) (to % 64) false frame ∙ are.framed frame
            ∙ ap (λ n. if nat_lt frame n then 1 else 0) (sym (length-with ps (page_at ps to) (to % 64) false));
        sized = are.sized ∙ ap (λ n. 64 * n) (sym (length-with ps (page_at ps to) (to % 64) false));
        forwarded = length-set fs from to ∙ are.forwarded;
        free = λ other open_page. free_then other (sym (chosen_then other) ∙ open_page);
        taken = λ other there open_page. taken_then other there (sym (chosen_then other) ∙ open_page);
        left = λ other there chosen.
            let was = sym (chosen_then other) ∙ chosen in
            let apart : other ≡ to → ⊥ =
            λ same. true≢false (sym was ∙ ap (is_chosen_place ps) same ∙ is.stays) in
            free_other other there apart ∙ are.left other there was;
        target = target_then;
        apart = apart_then;
      })

-- ---- one after another

pub record AreReserved (bs : List Bool) (state : Pages × List ℕ) (done xs : List ℕ) : Type 0 where
  pub partly : ArePartly bs (reserving state xs).1 (reserving state xs).0.uses (done ++ xs)
  pub taken : taken_of (opened (reserving state xs).0.uses) ≡ taken_of (opened state.0.uses) + length xs
  pub pages : length (opened (reserving state xs).0.uses) ≡ length (opened state.0.uses)
  pub next : (reserving state xs).0.next ≡ state.0.next
  pub packed : (c : ℕ) → Packed c (opened state.0.uses) → taken_of (opened state.0.uses) + length xs ≤ 64 * c
      → Packed c (opened (reserving state xs).0.uses)
  pub rising : (least end : ℕ) → AreBetween least state.0.uses end → AreBetween least (reserving state xs).0.uses end

record HasNext (ps : List Use) : Type 0 where
  pub at : ℕ × ℕ
  pub is : next_cell ps ≡ Some at

has_next : (ps : List Use) → is_some (next_place ps) ≡ true → HasNext ps
has_next ps there = by (next_place ps) refl
  where
    by : (at : Option (ℕ × ℕ)) → next_place ps ≡ at → HasNext ps
    by None is = absurd (false≢true (sym (ap is_some is) ∙ there))
    by (Some own) is = record { at = in_frame ps own; is = grind (arith, is) }

pub reserved_all : (bs : List Bool) (xs : List ℕ) (state : Pages × List ℕ) (done : List ℕ)
    → ArePartly bs state.1 state.0.uses done → AreDistinct xs
    → ((p : ℕ) → has xs p ≡ true → has done p ≡ false) → ((p : ℕ) → has xs p ≡ true → p < length bs)
    → taken_of (opened state.0.uses) + length xs ≤ 64 * length (opened state.0.uses)
    → AreReserved bs state done xs
reserved_all bs [] state done partly distinct apart within room = record {
  partly = subst (ArePartly bs state.1 state.0.uses) (sym (append-nil done)) partly;
  taken = omega arith;
  pages = refl;
  next = refl;
  packed = λ c packed fits. packed;
  rising = λ least end rising. rising;
}
reserved_all bs (x ∷ xs) state done partly distinct apart within room =
    let there : is_some (next_place state.0.uses) ≡ true =
    always_room state.0.uses partly.whole (omega (arith, room)) in
    let next = has_next state.0.uses there in
    let own : (x == x) ≡ true = eq-eqb x x refl in
    let first : has (x ∷ xs) x ≡ true = simp own refl in
    let more = partly_more partly x (within x first) (apart x first) next.at next.is in
    let pages : (reserved state x).0 ≡ with_placed state.0 = pages_reserved state x in
    let uses : (reserved state x).0.uses ≡ placing state.0.uses = ap (λ (p : Pages). p.uses) pages in
    let forwards : (reserved state x).1 ≡ set state.1 x (place_in_frame next.at) =
    ap (λ o. (reserved_to o x state).1) next.is in
    let one = open_taken state.0.uses there in
    let same = opened_pages state.0.uses in
    let taken : taken_of (opened (reserved state x).0.uses) ≡ suc (taken_of (opened state.0.uses)) =
    ap (λ us. taken_of (opened us)) uses ∙ one in
    let size : length (opened (reserved state x).0.uses) ≡ length (opened state.0.uses) =
    ap (λ us. length (opened us)) uses ∙ same in
    let rest = reserved_all bs xs (reserved state x) (done ++ x ∷ [])
    (subst (λ fs. ArePartly bs fs (reserved state x).0.uses (done ++ x ∷ [])) (sym forwards)
    (subst (λ us. ArePartly bs (set state.1 x (place_in_frame next.at)) us (done ++ x ∷ [])) (sym uses) more))
    distinct.1
    (λ p in_it. not_done x xs done p in_it (distinct.0) (apart p (has-right (x ∷ []) xs p in_it)))
    (λ p in_it. within p (has-right (x ∷ []) xs p in_it)) (omega (arith, room, taken, size)) in
    record {
      partly = subst (ArePartly bs (reserving (reserved state x) xs).1 (reserving (reserved state x) xs).0.uses)
          (append_assoc done (x ∷ []) xs) rest.partly;
      taken = let all = rest.taken in omega (arith, all, taken);
      pages = rest.pages ∙ size;
      next = rest.next ∙ ap (λ (p : Pages). p.next) pages;
      packed = λ c packed fits.
          rest.packed c
          (subst (λ us. Packed c (opened us)) (sym uses)
          (packed_placing c state.0.uses partly.whole packed (omega (arith, fits))))
          (omega (arith, fits, taken));
      rising = λ least end rising.
          rest.rising least end
          (subst (λ us. AreBetween least us end) (sym uses)
          (between-placed state.0.uses (next_place state.0.uses) least end rising));
    }
  where
    not_done : (x : ℕ) (xs done : List ℕ) (p : ℕ) → has xs p ≡ true → has xs x ≡ false → has done p ≡ false
        → has (done ++ x ∷ []) p ≡ false
    not_done x xs done p in_it once apart = by (has (done ++ x ∷ []) p) refl
      where
        by : (b : Bool) → has (done ++ x ∷ []) p ≡ b → has (done ++ x ∷ []) p ≡ false
        by false is = is
        by true is =
            elim (has-cases done (x ∷ []) p is) [
              | inl before ↦ absurd (true≢false (sym before ∙ apart))
              | inr own ↦
                  elim (cases_Bool (x == p)) [
                    | inl same ↦
                        absurd (true≢false (sym in_it ∙ ap (has xs) (sym (eqb-true x p same)) ∙ once))
                    | inr differs ↦ absurd (false≢true (simp differs at own))
                  ]
            ]

-- ---- then all have places

pub all_reserved : {bs : List Bool} {fs : List ℕ} {ps us : List Use} → AreFramed ps → AreWhole ps
    → KeepsChosen ps us → ArePartly bs fs us (left_in ps) → AreFree bs fs us
all_reserved {bs} {fs} {ps} {us} framed whole kept partly = record {
  whole = partly.whole;
  framed = partly.framed;
  sized = partly.sized;
  forwarded = partly.forwarded;
  free = partly.free;
  taken = λ place within open_page taken.
      elim (partly.taken place within open_page taken) [
        | inl lies ↦ inl lies
        | inr given ↦ inr (given.0, leaves given.0 given.1, given.2)
      ];
  left = partly.left;
  target = λ place it_leaves. partly.target place (listed place it_leaves);
  apart = λ one other one_leaves other_leaves. partly.apart one other (listed one one_leaves)
      (listed other other_leaves);
}
  where
    same : (place : ℕ) → is_chosen_place ps place ≡ true → is_free_place us place ≡ is_free_place ps place
    same place chosen = ap (λ (p : Use). get_or p.free (place % 64) false) (kept.same (place / 64) chosen)

    leaves : (place : ℕ) → has (left_in ps) place ≡ true → Leaves bs us place
    leaves place in_it =
        let its = is_left ps framed whole place in_it in
        let chosen = kept.flag (place / 64) ∙ its.chosen in
        let inside = its.within in (
          chosen,
          sym (partly.left place (omega (arith, inside, partly.sized, kept.size)) chosen)
              ∙ same place its.chosen ∙ its.taken,
        )

    listed : (place : ℕ) → Leaves bs us place → has (left_in ps) place ≡ true
    listed place its =
        let chosen = sym (kept.flag (place / 64)) ∙ its.0 in
        left_has ps framed whole place chosen
        (sym (same place chosen) ∙ partly.left place (within_vacant bs place its.1) its.0 ∙ its.1)

-- ---- at first none has

module _ (ps : List Use) where
  chosen_frame : (p : Use) → (chosen_if_sparse p).frame ≡ p.frame
  chosen_frame p = grind arith

  chosen_free : (p : Use) → (chosen_if_sparse p).free ≡ p.free
  chosen_free p = grind arith

place-choosing : (ps : List Use) (frame : ℕ) → place_of (choosing ps) frame ≡ place_of ps frame
place-choosing [] frame = refl
place-choosing (p ∷ ps) frame =
    ap (λ f. if f == frame then 0 else suc (place_of (choosing ps) frame)) (chosen_frame ps p)
    ∙ ap (λ n. if p.frame == frame then 0 else suc n) (place-choosing ps frame)

free-choosing : (ps : List Use) (page : ℕ) → (use_at (choosing ps) page).free ≡ (use_at ps page).free
free-choosing [] page = refl
free-choosing (p ∷ ps) zero = chosen_free ps p
free-choosing (p ∷ ps) (suc page) = free-choosing ps page

pub free_place-choosing : (ps : List Use) (place : ℕ) → is_free_place (choosing ps) place ≡ is_free_place ps place
free_place-choosing ps place =
    ap (λ q. get_or (use_at (choosing ps) q).free (place % 64) false) (place-choosing ps (place / 64))
    ∙ ap (λ bs. get_or bs (place % 64) false) (free-choosing ps (page_at ps place))

pub none_there : (ps : List Use) → chosen_frames ps ≡ [] → (place : ℕ) → is_chosen_place ps place ≡ false
none_there ps none place = by (is_chosen_place ps place) refl
  where
    by : (b : Bool) → is_chosen_place ps place ≡ b → is_chosen_place ps place ≡ false
    by false is = is
    by true is =
        absurd (false≢true (sym (ap (λ fs. nat_lt 0 (length fs)) none) ∙ some_chosen ps (page_at ps place) is))

pub partly_first : {bs : List Bool} {fs : List ℕ} {ps : List Use} → AreFree bs fs ps → chosen_frames ps ≡ []
    → ArePartly bs fs (choosing ps) []
partly_first {bs} {fs} {ps} are none = record {
  whole = whole-choosing ps are.whole;
  framed = framed-choosing ps are.framed;
  sized = are.sized ∙ ap (λ n. 64 * n) (sym (length-map ps chosen_if_sparse));
  forwarded = are.forwarded;
  free = λ place open_page is_free. are.free place (none_there ps none place) (sym (free_place-choosing ps place)
      ∙ is_free);
  taken = λ place within open_page taken. inl (lies place within (sym (free_place-choosing ps place) ∙ taken));
  left = λ place within chosen. free_place-choosing ps place ∙ as_free place within (is_free_place ps place) refl;
  target = λ from in_it. absurd (false≢true in_it);
  apart = λ one other one_in. absurd (false≢true one_in);
}
  where
    lies : (place : ℕ) → place < length bs → is_free_place ps place ≡ false → is_vacant bs place ≡ false
    lies place within taken =
        elim (are.taken place within (none_there ps none place) taken) [
          | inl own ↦ own
          | inr kept ↦ absurd (true≢false (sym kept.1.0 ∙ none_there ps none kept.0))
        ]

    as_free : (place : ℕ) → place < length bs → (b : Bool) → is_free_place ps place ≡ b
        → is_free_place ps place ≡ is_vacant bs place
    as_free place within true is = is ∙ sym (are.free place (none_there ps none place) is)
    as_free place within false is = is ∙ sym (lies place within is)
