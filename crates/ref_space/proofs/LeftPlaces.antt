-- What is left in the chosen pages: just their taken cells, each once.
use Rattle.std.proofs.Common.{◌≡◌, ℕ, zero, suc, ◌+◌, ◌*◌, ◌/◌, ◌%◌, ◌<◌, ◌≤◌, ◌==◌, Bool, true, false, not, ◌||◌}
use Rattle.std.proofs.Common.{refl, sym, ap, ◌∙◌, arith, List, [], ◌∷◌, ◌++◌, length, get_or, inl, inr}
use Rattle.std.proofs.lemmas.Bool.{cases_Bool, true≢false, false≢true, eqb-true, eq-eqb, ne_eqb}
use Rattle.std.proofs.lemmas.List.{length-append}
use Rattle.ref_base.specs.Members.{has, AreDistinct}
use Rattle.ref_base.proofs.HasLaws.{has-append, has-cases, has-left, has-right}
use Rattle.ref_space.specs.Bits.{count_clear}
use Rattle.ref_space.specs.Pages.{Use, use_at, use_of, AreWhole, AreFramed, times_framed, opened, taken_of}
use Rattle.ref_space.specs.Pages.{chosen_frames, taken_places, taken_in, left_in, taken_cells, is_chosen_place}
use Rattle.ref_space.specs.Pages.{is_free_place}
use Rattle.ref_space.proofs.FrameLemmas.{place-frame, times_in, times-opened}
use Rattle.ref_space.proofs.RelocationLemmas.{stays_open, goes_behind}
use Rattle.ref_space.proofs.ReserveLemmas.{KeepsChosen, whole_chosen}
use Rattle.ref_space.proofs.PlaceUses.{chosen_within}

-- ---- the taken cells of a page

within_places : (start : ℕ) (bs : List Bool) (p : ℕ) → has (taken_places start bs) p ≡ true
    → (start ≤ p) × (p < start + length bs)
within_places start [] p in_it = absurd (false≢true in_it)
within_places start (true ∷ bs) p in_it =
    let rest = within_places (suc start) bs p in_it in
    let low = rest.0 in let high = rest.1 in (omega (arith, low), omega (arith, high))
within_places start (false ∷ bs) p in_it =
    elim (cases_Bool (start == p)) [
      | inl same ↦ let is = eqb-true start p same in (omega (arith, is), omega (arith, is))
      | inr other ↦
          let rest = within_places (suc start) bs p (simp other at in_it) in
          let low = rest.0 in let high = rest.1 in (omega (arith, low), omega (arith, high))
    ]

pub not_first : (start : ℕ) (bs : List Bool) → has (taken_places (suc start) bs) start ≡ false
not_first start bs = by (has (taken_places (suc start) bs) start) refl
  where
    by : (b : Bool) → has (taken_places (suc start) bs) start ≡ b → has (taken_places (suc start) bs) start ≡ false
    by false is = is
    by true is = let low = (within_places (suc start) bs start is).0 in absurd (omega (arith, low))

own_place : (start : ℕ) (bs : List Bool) (c : ℕ) → c < length bs
    → has (taken_places start bs) (start + c) ≡ not (get_or bs c false)
own_place start [] c within = absurd (omega arith)
own_place start (true ∷ bs) zero within =
    ap (has (taken_places (suc start) bs)) (let same : start + 0 ≡ start = omega arith in same) ∙ not_first start bs
own_place start (false ∷ bs) zero within =
    let same : (start == start + 0) ≡ true = eq-eqb start (start + 0) (omega arith) in simp same refl
own_place start (true ∷ bs) (suc c) within =
    ap (has (taken_places (suc start) bs)) (let same : start + suc c ≡ suc start + c = omega arith in same)
    ∙ own_place (suc start) bs c (omega arith)
own_place start (false ∷ bs) (suc c) within =
    let other : (start == start + suc c) ≡ false = ne_eqb start (start + suc c) (λ same. omega (arith, same)) in
    simp other
    (ap (has (taken_places (suc start) bs)) (let same : start + suc c ≡ suc start + c = omega arith in same)
    ∙ own_place (suc start) bs c (omega arith))

length-places : (start : ℕ) (bs : List Bool) → length (taken_places start bs) ≡ count_clear bs
length-places start [] = refl
length-places start (b ∷ bs) = grind (arith, length-places (suc start) bs)

distinct_places : (start : ℕ) (bs : List Bool) → AreDistinct (taken_places start bs)
distinct_places start [] = tt
distinct_places start (true ∷ bs) = distinct_places (suc start) bs
distinct_places start (false ∷ bs) = (not_first start bs, distinct_places (suc start) bs)

-- by frame
pub record IsTaken (f : ℕ) (bs : List Bool) (p : ℕ) : Type 0 where
  pub frame : p / 64 ≡ f
  pub taken : get_or bs (p % 64) false ≡ false

pub frame_place : (f : ℕ) (bs : List Bool) (p : ℕ) → length bs ≡ 64 → has (taken_places (64 * f) bs) p ≡ true
    → IsTaken f bs p
frame_place f bs p whole in_it =
    let bounds = within_places (64 * f) bs p in_it in
    let low = bounds.0 in
    let high = bounds.1 in
    let frame : p / 64 ≡ f = omega (arith, low, high, whole) in
    let same : 64 * f + p % 64 ≡ p = omega (arith, frame) in
    record {
      frame = frame;
      taken = not_true (get_or bs (p % 64) false)
          (sym (own_place (64 * f) bs (p % 64) (omega (arith, whole)))
          ∙ ap (has (taken_places (64 * f) bs)) same ∙ in_it);
    }
  where
    not_true : (b : Bool) → not b ≡ true → b ≡ false
    not_true true is = absurd (false≢true is)
    not_true false is = refl

place_taken : (f : ℕ) (bs : List Bool) (p : ℕ) → length bs ≡ 64 → p / 64 ≡ f → get_or bs (p % 64) false ≡ false
    → has (taken_places (64 * f) bs) p ≡ true
place_taken f bs p whole frame taken =
    let same : p ≡ 64 * f + p % 64 = omega (arith, frame) in
    ap (has (taken_places (64 * f) bs)) same ∙ own_place (64 * f) bs (p % 64) (omega (arith, whole)) ∙ ap not taken

-- ---- those of several frames

module _ (ps : List Use) where
  -- each has 64 cells
  abbrev pub AreWholeOf : List ℕ → Type 0
  AreWholeOf fs = (f : ℕ) → has fs f ≡ true → length (use_of ps f).free ≡ 64

  rest_whole : (f : ℕ) (fs : List ℕ) → AreWholeOf (f ∷ fs) → AreWholeOf fs
  rest_whole f fs whole g in_it = whole g (has-right (f ∷ []) fs g in_it)

  first_whole : (f : ℕ) (fs : List ℕ) → AreWholeOf (f ∷ fs) → length (use_of ps f).free ≡ 64
  first_whole f fs whole = whole f (has-left (f ∷ []) fs f (let same :
      (f == f) ≡ true = eq-eqb f f refl in simp same refl))

  pub record IsIn (fs : List ℕ) (p : ℕ) : Type 0 where
    pub frame : has fs (p / 64) ≡ true
    pub taken : is_free_place ps p ≡ false

  pub in_frames : (fs : List ℕ) → AreWholeOf fs → (p : ℕ) → has (taken_in ps fs) p ≡ true → IsIn fs p
  in_frames [] whole p in_it = absurd (false≢true in_it)
  in_frames (f ∷ fs) whole p in_it =
      elim (has-cases (taken_places (64 * f) (use_of ps f).free) (taken_in ps fs) p in_it) [
        | inl own ↦
            let is = frame_place f (use_of ps f).free p (first_whole f fs whole) own in
            let same : (f == p / 64) ≡ true = eq-eqb f (p / 64) (sym is.frame) in
            record {
              frame = simp same refl;
              taken = ap (λ g. get_or (use_of ps g).free (p % 64) false) is.frame ∙ is.taken;
            }
        | inr later ↦
            let rest = in_frames fs (rest_whole f fs whole) p later in
            record { frame = has-right (f ∷ []) fs (p / 64) rest.frame; taken = rest.taken }
      ]

  pub frames_have : (fs : List ℕ) → AreWholeOf fs → (p : ℕ) → has fs (p / 64) ≡ true → is_free_place ps p ≡ false
      → has (taken_in ps fs) p ≡ true
  frames_have [] whole p in_it taken = absurd (false≢true in_it)
  frames_have (f ∷ fs) whole p in_it taken =
      elim (cases_Bool (f == p / 64)) [
        | inl same ↦
            let is = eqb-true f (p / 64) same in
            has-left (taken_places (64 * f) (use_of ps f).free) (taken_in ps fs) p
            (place_taken f (use_of ps f).free p (first_whole f fs whole) (sym is)
            (ap (λ g. get_or (use_of ps g).free (p % 64) false) is ∙ taken))
        | inr other ↦
            has-right (taken_places (64 * f) (use_of ps f).free) (taken_in ps fs) p
            (frames_have fs (rest_whole f fs whole) p (simp other at in_it) taken)
      ]

  distinct-append : (xs ys : List ℕ) → AreDistinct xs → AreDistinct ys
      → ((p : ℕ) → has xs p ≡ true → has ys p ≡ false) → AreDistinct (xs ++ ys)
  distinct-append [] ys one other apart = other
  distinct-append (x ∷ xs) ys one other apart =
      let own : (x == x) ≡ true = eq-eqb x x refl in
      let none : has ys x ≡ false = apart x (simp own refl) in (
        has-append xs ys x ∙ ap (λ b. b || has ys x) one.0 ∙ none,
        distinct-append xs ys one.1 other (λ p in_it. apart p (has-right (x ∷ []) xs p in_it)),
      )

  pub distinct_in : (fs : List ℕ) → AreWholeOf fs → AreDistinct fs → AreDistinct (taken_in ps fs)
  distinct_in [] whole distinct = tt
  distinct_in (f ∷ fs) whole distinct =
      distinct-append (taken_places (64 * f) (use_of ps f).free) (taken_in ps fs)
      (distinct_places (64 * f) (use_of ps f).free) (distinct_in fs (rest_whole f fs whole) distinct.1)
      (λ p own. apart p own (has (taken_in ps fs) p) refl)
    where
      apart : (p : ℕ) → has (taken_places (64 * f) (use_of ps f).free) p ≡ true → (b : Bool)
          → has (taken_in ps fs) p ≡ b → has (taken_in ps fs) p ≡ false
      apart p own false is = is
      apart p own true is =
          let here = frame_place f (use_of ps f).free p (first_whole f fs whole) own in
          let there = in_frames fs (rest_whole f fs whole) p is in
          absurd (true≢false (sym there.frame ∙ ap (has fs) here.frame ∙ distinct.0))

-- ---- the frames of the chosen pages

has-times : (fs : List ℕ) (f : ℕ) → has fs f ≡ true → 0 < times_in fs f
has-times [] f in_it = absurd (false≢true in_it)
has-times (g ∷ fs) f in_it = grind (arith, has-times fs f)

times-has : (fs : List ℕ) (f : ℕ) → 0 < times_in fs f → has fs f ≡ true
times-has [] f some = absurd (omega arith)
times-has (g ∷ fs) f some = grind (arith, times-has fs f)

times-rest : (g f : ℕ) (fs : List ℕ) → times_in fs f ≤ times_in (g ∷ fs) f
times-rest g f fs = grind arith

distinct-times : (fs : List ℕ) → ((f : ℕ) → times_in fs f ≤ 1) → AreDistinct fs
distinct-times [] once = tt
distinct-times (f ∷ fs) once = (
  none (has fs f) refl,
  distinct-times fs (λ g. let one = once g in let rest = times-rest f g fs in omega (arith, one, rest)),
)
  where
    none : (b : Bool) → has fs f ≡ b → has fs f ≡ false
    none false is = is
    none true is =
        let some = has-times fs f is in
        let one = once f in
        let own : (f == f) ≡ true = eq-eqb f f refl in
        let more : times_in (f ∷ fs) f ≡ suc (times_in fs f) = simp own refl in
        absurd (omega (arith, some, one, more))

module _ (ps : List Use) (framed : AreFramed ps) (whole : AreWhole ps) where
  at_most_once : (f : ℕ) → times_framed ps f ≤ 1
  at_most_once f = grind (arith, framed f)

  once : (f : ℕ) → 0 < times_framed ps f → times_framed ps f ≡ 1
  once f some = let most = at_most_once f in omega (arith, some, most)

  pub distinct_frames : AreDistinct (chosen_frames ps)
  distinct_frames =
      distinct-times (chosen_frames ps)
      (λ f. let most = at_most_once f in let all = times-opened ps f in omega (arith, most, all))

  pub frame_is_chosen : (f : ℕ) → has (chosen_frames ps) f ≡ true → (use_of ps f).chosen ≡ true
  frame_is_chosen f in_it = by (use_of ps f).chosen refl
    where
      by : (b : Bool) → (use_of ps f).chosen ≡ b → (use_of ps f).chosen ≡ true
      by true is = is
      by false is =
          let some = has-times (chosen_frames ps) f in_it in
          let all = times-opened ps f in
          let one = once f (omega (arith, some, all)) in
          let stays = (stays_open ps f one is).there in
          absurd (omega (arith, some, all, one, stays))

  pub chosen_is_frame : (f : ℕ) → f < length ps → (use_of ps f).chosen ≡ true → has (chosen_frames ps) f ≡ true
  chosen_is_frame f within chosen =
      times-has (chosen_frames ps) f (goes_behind ps f (grind (arith, framed f)) chosen).there

  pub whole_frames : AreWholeOf ps (chosen_frames ps)
  whole_frames f in_it = whole_chosen ps f whole (frame_is_chosen f in_it)

  -- what is left is a taken cell of a chosen page, and each is left
  pub record IsLeft (p : ℕ) : Type 0 where
    pub chosen : is_chosen_place ps p ≡ true
    pub taken : is_free_place ps p ≡ false
    pub within : p < 64 * length ps

  pub is_left : (p : ℕ) → has (left_in ps) p ≡ true → IsLeft p
  is_left p in_it =
      let is = in_frames ps (chosen_frames ps) whole_frames p in_it in
      let chosen = frame_is_chosen (p / 64) is.frame in
      let small = chosen_within ps framed p chosen in
      record { chosen = chosen; taken = is.taken; within = omega (arith, small) }

  pub left_has : (p : ℕ) → is_chosen_place ps p ≡ true → is_free_place ps p ≡ false → has (left_in ps) p ≡ true
  left_has p chosen taken =
      frames_have ps (chosen_frames ps) whole_frames p
      (chosen_is_frame (p / 64) (chosen_within ps framed p chosen) chosen) taken

  pub distinct_left : AreDistinct (left_in ps)
  distinct_left = distinct_in ps (chosen_frames ps) whole_frames distinct_frames

  own_page : (page : ℕ) → page < length ps → use_of ps (use_at ps page).frame ≡ use_at ps page
  own_page page within = ap (use_at ps) (place-frame ps framed page within)

  pub count_left : taken_of (opened ps) + length (left_in ps) ≡ taken_of ps
  count_left = by ps own_page
    where
      by : (qs : List Use) → ((page : ℕ) → page < length qs → use_of ps (use_at qs page).frame ≡ use_at qs page)
          → taken_of (opened qs) + length (taken_in ps (chosen_frames qs)) ≡ taken_of qs
      by [] own = refl
      by (q ∷ qs) own =
          let rest = by qs (λ page within. own (suc page) (omega (arith, within))) in
          elim (cases_Bool q.chosen) [
            | inl chosen ↦
                let here : length (taken_places (64 * q.frame) (use_of ps q.frame).free) ≡ taken_cells q =
                length-places (64 * q.frame) (use_of ps q.frame).free
                ∙ ap taken_cells (own 0 (omega arith)) in
                let size = length-append (taken_places (64 * q.frame) (use_of ps q.frame).free)
                (taken_in ps (chosen_frames qs)) in
                simp chosen (omega (arith, rest, here, size))
            | inr stays ↦ simp stays (omega (arith, rest))
          ]

-- the same is left where the chosen pages are the same
pub left_kept : (ps qs : List Use) → AreFramed ps → AreWhole ps → KeepsChosen ps qs → left_in qs ≡ left_in ps
left_kept ps qs framed whole kept =
    ap (taken_in qs) kept.frames
    ∙ by (chosen_frames ps) (λ f in_it. kept.same f (frame_is_chosen ps framed whole f in_it))
  where
    by : (fs : List ℕ) → ((f : ℕ) → has fs f ≡ true → use_of qs f ≡ use_of ps f) → taken_in qs fs ≡ taken_in ps fs
    by [] same = refl
    by (f ∷ fs) same =
        let own : (f == f) ≡ true = eq-eqb f f refl in
        ap (λ (p : Use). taken_places (64 * f) p.free ++ taken_in qs fs) (same f (simp own refl))
        ∙ ap (λ places. taken_places (64 * f) (use_of ps f).free ++ places)
        (by fs (λ g in_it. same g (has-right (f ∷ []) fs g in_it)))
