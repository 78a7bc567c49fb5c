-- The objects that are still to move, by number: just those that lie in chosen pages, in order.
use Rattle.std.proofs.Common.{◌≡◌, ℕ, zero, suc, ◌+◌, ◌*◌, ◌/◌, ◌%◌, ◌<◌, ◌==◌, Bool, true, false, not}
use Rattle.std.proofs.Common.{refl, sym, ap, subst, ◌∙◌, arith, List, [], ◌∷◌, ◌++◌, length, set, inl, inr}
use Rattle.std.proofs.Common.{Option, Some, None, is_some}
use Rattle.std.specs.Prelude.{slice_index_or}
use Rattle.std.proofs.lemmas.Bool.{cases_Bool, true≢false, false≢true, eqb-true, eqb-false, eq-eqb, ne_eqb}
use Rattle.ref_base.specs.Members.{has}
use Rattle.ref_base.specs.Paths.{if_any}
use Rattle.ref_base.proofs.HasLaws.{has-right}
use Rattle.ref_space.specs.Pages.{Use, use_at, use_of, place_of, with_cell, with_free, with_place, page_at, AreWhole}
use Rattle.ref_space.specs.Pages.{AreFramed}
use Rattle.ref_space.specs.Pages.{chosen_frames, taken_places, taken_in, left_in, is_chosen_place}
use Rattle.ref_space.specs.Moves.{AreFree, NoneLeaves, is_vacant}
use Rattle.ref_space.specs.Tables.{numbers_at, without_number}
use Rattle.ref_space.proofs.FrameLemmas.{framed_there, frame-place}
use Rattle.ref_space.proofs.MoveLemmas.{chosen-with}
use Rattle.ref_space.proofs.LeftLemmas.{use-other}
use Rattle.ref_space.proofs.PlaceUses.{place-with, chosen_within}
use Rattle.ref_space.proofs.ReserveLemmas.{whole_chosen}
use Rattle.ref_space.proofs.LeftPlaces.{IsLeft, is_left, left_has, frame_is_chosen, not_first, frame_place}

-- ---- lists without a number

pub without-other : (ns : List ℕ) (n : ℕ) → has ns n ≡ false → without_number ns n ≡ ns
without-other [] n none = refl
without-other (m ∷ ms) n none =
    elim (cases_Bool (m == n)) [
      | inl same ↦ absurd (true≢false (simp same at none))
      | inr other ↦ simp other (ap (λ ns. m ∷ ns) (without-other ms n (simp other at none)))
    ]

without-append : (ms ns : List ℕ) (n : ℕ) → without_number (ms ++ ns) n ≡ without_number ms n ++ without_number ns n
without-append [] ns n = refl
without-append (m ∷ ms) ns n = grind (arith, without-append ms ns n)

not_in : (ns : List ℕ) (n : ℕ) → (has ns n ≡ true → ⊥) → has ns n ≡ false
not_in ns n none = by (has ns n) refl
  where
    by : (b : Bool) → has ns n ≡ b → has ns n ≡ false
    by false is = is
    by true is = absurd (none is)

-- ---- a cell of a chosen page is left

places-given : (start : ℕ) (bs : List Bool) (c : ℕ) → c < length bs
    → taken_places start (set bs c true) ≡ without_number (taken_places start bs) (start + c)
places-given start [] c within = absurd (omega arith)
places-given start (true ∷ bs) zero within =
    sym (ap (without_number (taken_places (suc start) bs)) (let same : start + 0 ≡ start = omega arith in same)
    ∙ without-other (taken_places (suc start) bs) start (not_first start bs))
places-given start (false ∷ bs) zero within =
    let same : (start == start + 0) ≡ true = eq-eqb start (start + 0) (omega arith) in
    sym (simp same (ap (without_number (taken_places (suc start) bs)) (let e : start + 0 ≡ start = omega arith in e)
    ∙ without-other (taken_places (suc start) bs) start (not_first start bs)))
places-given start (true ∷ bs) (suc c) within =
    places-given (suc start) bs c (omega arith)
    ∙ ap (without_number (taken_places (suc start) bs)) (let e : suc start + c ≡ start + suc c = omega arith in e)
places-given start (false ∷ bs) (suc c) within =
    let other : (start == start + suc c) ≡ false = ne_eqb start (start + suc c) (λ same. omega (arith, same)) in
    sym (simp other (ap (λ ns. start ∷ ns)
    (sym (places-given (suc start) bs c (omega arith)
    ∙ ap (without_number (taken_places (suc start) bs)) (let e : suc start + c ≡ start + suc c = omega arith in e)))))

use-same : (ps : List Use) (page cell : ℕ) (is_free : Bool) → page < length ps
    → use_at (with_cell ps page cell is_free) page ≡ with_free cell is_free (use_at ps page)
use-same [] page cell is_free within = absurd (omega arith)
use-same (p ∷ ps) zero cell is_free within = refl
use-same (p ∷ ps) (suc page) cell is_free within = use-same ps page cell is_free (omega arith)

module _ (ps : List Use) (framed : AreFramed ps) (whole : AreWhole ps) (from : ℕ)
    (chosen : is_chosen_place ps from ≡ true) where
  frame_within : from / 64 < length ps
  frame_within = chosen_within ps framed from chosen

  abbrev qs : List Use
  qs = with_place ps from true

  own_use : use_of qs (from / 64) ≡ with_free (from % 64) true (use_of ps (from / 64))
  own_use =
      ap (use_at qs) (place-with ps (page_at ps from) (from % 64) true (from / 64))
      ∙ use-same ps (page_at ps from) (from % 64) true (framed_there ps framed (from / 64) frame_within)

  other_use : (f : ℕ) → f < length ps → (f ≡ from / 64 → ⊥) → use_of qs f ≡ use_of ps f
  other_use f within apart =
      ap (use_at qs) (place-with ps (page_at ps from) (from % 64) true f)
      ∙ use-other ps (page_at ps from) (from % 64) true (place_of ps f)
      (λ same.
      apart (sym (frame-place ps f (framed_there ps framed f within)) ∙ ap (λ q. (use_at ps q).frame) same
      ∙ frame-place ps (from / 64) (framed_there ps framed (from / 64) frame_within)))

  taken_in-left : (fs : List ℕ) → ((f : ℕ) → has fs f ≡ true → has (chosen_frames ps) f ≡ true)
      → taken_in qs fs ≡ without_number (taken_in ps fs) from
  taken_in-left [] among = refl
  taken_in-left (f ∷ fs) among =
      let self : (f == f) ≡ true = eq-eqb f f refl in
      let is_chosen = frame_is_chosen ps framed whole f (among f (simp self refl)) in
      let size = whole_chosen ps f whole is_chosen in
      ap (λ places. places ++ taken_in qs fs) (own f is_chosen size)
      ∙ ap (λ places. without_number (taken_places (64 * f) (use_of ps f).free) from ++ places)
      (taken_in-left fs (λ g in_it. among g (has-right (f ∷ []) fs g in_it)))
      ∙ sym (without-append (taken_places (64 * f) (use_of ps f).free) (taken_in ps fs) from)
    where
      own : (f : ℕ) → (use_of ps f).chosen ≡ true → length (use_of ps f).free ≡ 64
          → taken_places (64 * f) (use_of qs f).free
          ≡ without_number (taken_places (64 * f) (use_of ps f).free) from
      own f is_chosen size =
          elim (cases_Bool (f == from / 64)) [
            | inl same ↦
                let is = eqb-true f (from / 64) same in
                let place : 64 * (from / 64) + from % 64 ≡ from = omega arith in
                ap (λ g. taken_places (64 * f) (use_of qs g).free) is
                ∙ ap (λ (p : Use). taken_places (64 * f) p.free) own_use
                ∙ ap (λ g. taken_places (64 * g) (set (use_of ps (from / 64)).free (from % 64) true)) is
                ∙ places-given (64 * (from / 64)) (use_of ps (from / 64)).free (from % 64)
                (let is_size = ap (λ g. length (use_of ps g).free) (sym is) ∙ size in omega (arith, is_size))
                ∙ ap (without_number (taken_places (64 * (from / 64)) (use_of ps (from / 64)).free)) place
                ∙ ap (λ g. without_number (taken_places (64 * g) (use_of ps g).free) from) (sym is)
            | inr differs ↦
                let apart = eqb-false f (from / 64) differs in
                let within : f < length ps = there f is_chosen in
                ap (λ (p : Use). taken_places (64 * f) p.free) (other_use f within apart)
                ∙ sym (without-other (taken_places (64 * f) (use_of ps f).free) from
                (not_in (taken_places (64 * f) (use_of ps f).free) from
                (λ in_it. apart (sym (frame_place f (use_of ps f).free from size in_it).frame))))
          ]
        where
          there : (f : ℕ) → (use_of ps f).chosen ≡ true → f < length ps
          there f is_chosen =
              let whose : 64 * f / 64 ≡ f = omega arith in
              subst (λ g. g < length ps) whose
              (chosen_within ps framed (64 * f) (ap (λ g. (use_of ps g).chosen) whose ∙ is_chosen))

  pub left-given : left_in qs ≡ without_number (left_in ps) from
  left-given =
      ap (taken_in qs) (chosen-with ps (page_at ps from) (from % 64) true)
      ∙ taken_in-left (chosen_frames ps) (λ f in_it. in_it)

-- ---- numbers

pub numbers_same : (os now : List (Option ℕ)) (places : List ℕ)
    → ((p : ℕ) → has places p ≡ true → slice_index_or now p None ≡ slice_index_or os p None)
    → numbers_at now places ≡ numbers_at os places
numbers_same os now [] same = refl
numbers_same os now (p ∷ places) same =
    let self : (p == p) ≡ true = eq-eqb p p refl in
    ap (λ o. if_any o ++ numbers_at now places) (same p (simp self refl))
    ∙ ap (λ ns. if_any (slice_index_or os p None) ++ ns)
    (numbers_same os now places (λ q in_it. same q (has-right (p ∷ []) places q in_it)))

pub record LiesIn (os : List (Option ℕ)) (places : List ℕ) (n : ℕ) : Type 0 where
  pub at : ℕ
  pub listed : has places at ≡ true
  pub lies : slice_index_or os at None ≡ Some n

pub number_lies : (os : List (Option ℕ)) (places : List ℕ) (n : ℕ) → has (numbers_at os places) n ≡ true
    → LiesIn os places n
number_lies os [] n in_it = absurd (false≢true in_it)
number_lies os (p ∷ places) n in_it = by (slice_index_or os p None) refl in_it
    (λ later. number_lies os places n later)
  where
    later_in : LiesIn os places n → LiesIn os (p ∷ places) n
    later_in own = record { at = own.at; listed = has-right (p ∷ []) places own.at own.listed; lies = own.lies }

    by : (o : Option ℕ) → slice_index_or os p None ≡ o
        → has (if_any (slice_index_or os p None) ++ numbers_at os places) n ≡ true
        → (has (numbers_at os places) n ≡ true → LiesIn os places n) → LiesIn os (p ∷ places) n
    by None is own rest = later_in (rest (sym (ap (λ o. has (if_any o ++ numbers_at os places) n) is) ∙ own))
    by (Some m) is own rest =
        elim (cases_Bool (m == n)) [
          | inl same ↦
              let self : (p == p) ≡ true = eq-eqb p p refl in
              record { at = p; listed = simp self refl; lies = is ∙ ap Some (eqb-true m n same) }
          | inr other ↦
              later_in (rest (simp other at (sym (ap (λ o. has (if_any o ++ numbers_at os places) n) is) ∙ own)))
        ]

pub lies_number : (os : List (Option ℕ)) (places : List ℕ) (p n : ℕ) → has places p ≡ true
    → slice_index_or os p None ≡ Some n → has (numbers_at os places) n ≡ true
lies_number os [] p n in_it lies = absurd (false≢true in_it)
lies_number os (q ∷ places) p n in_it lies =
    elim (cases_Bool (q == p)) [
      | inl same ↦
          let self : (n == n) ≡ true = eq-eqb n n refl in
          let own : slice_index_or os q None ≡ Some n = ap (λ r. slice_index_or os r None) (eqb-true q p same) ∙ lies in
          ap (λ o. has (if_any o ++ numbers_at os places) n) own ∙ simp self refl
      | inr other ↦
          has-right (if_any (slice_index_or os q None)) (numbers_at os places) n
          (lies_number os places p n (simp other at in_it) lies)
    ]

-- the object that leaves a place goes from the list
pub numbers_without : (os now : List (Option ℕ)) (from n : ℕ) (places : List ℕ)
    → ((p : ℕ) → has places p ≡ true → (p ≡ from → ⊥) → slice_index_or now p None ≡ slice_index_or os p None)
    → ((p : ℕ) → slice_index_or os p None ≡ Some n → p ≡ from) → slice_index_or os from None ≡ Some n
    → numbers_at now (without_number places from) ≡ without_number (numbers_at os places) n
numbers_without os now from n [] same once own = refl
numbers_without os now from n (p ∷ places) same once own =
    let rest = numbers_without os now from n places (λ q in_it. same q (has-right (p ∷ []) places q in_it)) once own in
    elim (cases_Bool (p == from)) [
      | inl is ↦
          let here : slice_index_or os p None ≡ Some n =
          ap (λ q. slice_index_or os q None) (eqb-true p from is) ∙ own in
          let self : (n == n) ≡ true = eq-eqb n n refl in
          simp is (rest ∙ sym (ap (λ o. without_number (if_any o ++ numbers_at os places) n) here ∙ simp self refl))
      | inr differs ↦
          let apart = eqb-false p from differs in
          let self : (p == p) ≡ true = eq-eqb p p refl in
          simp differs
          (ap (λ o. if_any o ++ numbers_at now (without_number places from)) (same p (simp self refl) apart)
          ∙ ap (λ ns. if_any (slice_index_or os p None) ++ ns) rest
          ∙ ap (λ ms. ms ++ without_number (numbers_at os places) n)
          (sym (without-other (if_any (slice_index_or os p None)) n
          (not_own (slice_index_or os p None) n (λ lies. apart (once p lies)))))
          ∙ sym (without-append (if_any (slice_index_or os p None)) (numbers_at os places) n))
    ]
  where
    not_own : (o : Option ℕ) (n : ℕ) → (o ≡ Some n → ⊥) → has (if_any o) n ≡ false
    not_own None n apart = refl
    not_own (Some m) n apart =
        let other : (m == n) ≡ false = ne_eqb m n (λ same. apart (ap Some same)) in simp other refl

pub numbers-length : (os : List (Option ℕ)) (places : List ℕ)
    → ((p : ℕ) → has places p ≡ true → is_some (slice_index_or os p None) ≡ true)
    → length (numbers_at os places) ≡ length places
numbers-length os [] lies = refl
numbers-length os (p ∷ places) lies =
    let self : (p == p) ≡ true = eq-eqb p p refl in
    one (slice_index_or os p None) (lies p (simp self refl)) (numbers_at os places)
    ∙ ap suc (numbers-length os places (λ q in_it. lies q (has-right (p ∷ []) places q in_it)))
  where
    one : (o : Option ℕ) → is_some o ≡ true → (ns : List ℕ) → length (if_any o ++ ns) ≡ suc (length ns)
    one None some ns = absurd (false≢true some)
    one (Some m) some ns = refl

-- ---- where an object is still to move

module _ {bs : List Bool} {fs : List ℕ} {ps : List Use} (are : AreFree bs fs ps) (os : List (Option ℕ))
    (lie : (p : ℕ) → is_some (slice_index_or os p None) ≡ not (is_vacant bs p)) where
  -- something lies at each place that is left
  pub left_lies : (p : ℕ) → has (left_in ps) p ≡ true → is_some (slice_index_or os p None) ≡ true
  left_lies p in_it =
      let its = is_left ps are.framed are.whole p in_it in
      let inside = its.within in
      lie p ∙ ap not (sym (are.left p (omega (arith, inside, are.sized)) its.chosen) ∙ its.taken)

  pub lies_left : (p : ℕ) → p < length bs → is_chosen_place ps p ≡ true
      → is_some (slice_index_or os p None) ≡ true → has (left_in ps) p ≡ true
  lies_left p within chosen lies =
      left_has ps are.framed are.whole p chosen
      (are.left p within chosen ∙ not_true (is_vacant bs p) (sym (lie p) ∙ lies))
    where
      not_true : (b : Bool) → not b ≡ true → b ≡ false
      not_true true is = absurd (false≢true is)
      not_true false is = refl

  pub number_left : (p n : ℕ) → p < length bs → slice_index_or os p None ≡ Some n
      → ((q : ℕ) → slice_index_or os q None ≡ Some n → q ≡ p)
      → has (numbers_at os (left_in ps)) n ≡ is_chosen_place ps p
  number_left p n within lies once =
      elim (cases_Bool (is_chosen_place ps p)) [
        | inl chosen ↦
            lies_number os (left_in ps) p n (lies_left p within chosen (ap is_some lies)) lies ∙ sym chosen
        | inr stays ↦
            not_in (numbers_at os (left_in ps)) n
            (λ in_it.
            let own = number_lies os (left_in ps) n in_it in
            let its = is_left ps are.framed are.whole own.at own.listed in
            true≢false (sym its.chosen ∙ ap (is_chosen_place ps) (once own.at own.lies) ∙ stays))
            ∙ sym stays
      ]

  -- nothing is where nothing leaves
  pub none_left : NoneLeaves bs ps → numbers_at os (left_in ps) ≡ []
  none_left none = by (left_in ps) left_lies (λ p in_it. is_left ps are.framed are.whole p in_it)
    where
      by : (places : List ℕ) → ((p : ℕ) → has places p ≡ true → is_some (slice_index_or os p None) ≡ true)
          → ((p : ℕ) → has places p ≡ true → IsLeft ps are.framed are.whole p) → numbers_at os places ≡ []
      by [] lies its = refl
      by (p ∷ places) lies its =
          let self : (p == p) ≡ true = eq-eqb p p refl in
          let there = lies p (simp self refl) in
          let own = its p (simp self refl) in
          absurd (false≢true
          (sym (ap not (none p own.chosen)) ∙ sym (lie p) ∙ there))

  -- and nothing leaves where none is
  pub leaves_none : numbers_at os (left_in ps) ≡ [] → (p : ℕ) → is_chosen_place ps p ≡ true
      → is_some (slice_index_or os p None) ≡ false
  leaves_none none p chosen = by (slice_index_or os p None) refl
    where
      by : (o : Option ℕ) → slice_index_or os p None ≡ o → is_some (slice_index_or os p None) ≡ false
      by None is = ap is_some is
      by (Some n) is =
          let small = chosen_within ps are.framed p chosen in
          let in_left = lies_left p (omega (arith, small, are.sized)) chosen (ap is_some is) in
          absurd (true≢false
          (sym (lies_number os (left_in ps) p n in_left is) ∙ ap (λ ns. has ns n) none))
