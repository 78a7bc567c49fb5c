-- Frames: each leads to the page that has it, whatever its place in the order.
use Rattle.std.proofs.Common.{◌≡◌, ℕ, zero, suc, ◌+◌, ◌<◌, Bool, ◌==◌, if◌then◌else◌, nat_lt, refl}
use Rattle.std.proofs.Common.{sym, ap, ◌∙◌, arith, List, [], ◌∷◌, ◌++◌, length, get_or, set, inl, inr}
use Rattle.std.proofs.lemmas.Bool.{cases_Bool, eqb-true, eqb-false, eq-eqb}
use Rattle.std.proofs.lemmas.List.{get_or_read, get_or-set_same, get_or-set_other}
use Rattle.ref_space.specs.Pages.{Use, no_use, use_at, place_of, fresh_pages, with_cell, times_framed, AreFramed}
use Rattle.ref_space.specs.Pages.{empty_pages, opened, chosen_frames, renumbered_uses}
use Rattle.ref_space.specs.PageViews.{AreMapped}
use Rattle.ref_space.proofs.PageLemmas.{length-fresh}

-- ---- one frame

there_framed : (ps : List Use) (frame : ℕ) → 0 < times_framed ps frame → place_of ps frame < length ps
there_framed [] frame some = absurd (omega arith)
there_framed (p ∷ ps) frame some = grind (arith, there_framed ps frame)

times-at : (ps : List Use) (page : ℕ) → page < length ps → 0 < times_framed ps (use_at ps page).frame
times-at [] page within = absurd (omega arith)
times-at (p ∷ ps) zero within = grind (arith, eq-eqb)
times-at (p ∷ ps) (suc page) within = grind (arith, times-at ps page)

place-once : (ps : List Use) (page : ℕ) → page < length ps → times_framed ps (use_at ps page).frame ≡ 1
    → place_of ps (use_at ps page).frame ≡ page
place-once [] page within once = absurd (omega arith)
place-once (p ∷ ps) zero within once = grind (arith, eq-eqb)
place-once (p ∷ ps) (suc page) within once = grind (arith, times-at ps page, place-once ps page)

pub frame-place : (ps : List Use) (frame : ℕ) → place_of ps frame < length ps
    → (use_at ps (place_of ps frame)).frame ≡ frame
frame-place [] frame within = absurd (omega arith)
frame-place (p ∷ ps) frame within = grind (arith, frame-place ps frame)

-- ---- the frames of all pages

module _ (ps : List Use) (framed : AreFramed ps) where
  -- a frame below the count of pages leads to a page
  pub framed_there : (frame : ℕ) → frame < length ps → place_of ps frame < length ps
  framed_there frame within = grind (arith, framed frame, there_framed ps frame)

  -- no page has another frame
  pub frame_within : (page : ℕ) → page < length ps → (use_at ps page).frame < length ps
  frame_within page within = grind (arith, framed (use_at ps page).frame, times-at ps page)

  -- and none has that of another page
  pub place-frame : (page : ℕ) → page < length ps → place_of ps (use_at ps page).frame ≡ page
  place-frame page within =
      grind (arith, framed (use_at ps page).frame, frame_within page within, place-once ps page)

  -- a list that has the place of the frame of each page has that of each frame
  pub mapped_place : (places : List ℕ) (frame : ℕ) → AreMapped (length ps) ps places → frame < length ps
      → get_or places frame 0 ≡ place_of ps frame
  mapped_place places frame mapped within =
      let there = framed_there frame within in
      ap (λ f. get_or places f 0) (sym (frame-place ps frame there)) ∙ mapped (place_of ps frame) there

  -- the place of one more page is listed
  pub mapped_next : (places : List ℕ) (page : ℕ) → page < length ps → length places ≡ length ps
      → AreMapped page ps places → AreMapped (suc page) ps (set places (use_at ps page).frame page)
  mapped_next places page within sized mapped other below =
      elim (cases_Bool (other == page)) [
        | inl same ↦
            let is = eqb-true other page same in
            ap (λ o. get_or (set places (use_at ps page).frame page) (use_at ps o).frame 0) is
            ∙ get_or-set_same places (use_at ps page).frame page 0
            (let small = frame_within page within in omega (arith, small, sized)) ∙ sym is
        | inr differs ↦
            let apart = eqb-false other page differs in
            get_or-set_other places (use_at ps page).frame (use_at ps other).frame page 0
            (λ same.
            let there : other < length ps = omega (arith, below, within) in
            apart (sym (place-frame other there) ∙ ap (place_of ps) same ∙ place-frame page within))
            ∙ mapped other (omega (arith, below, apart))
      ]

  -- a frame that is read of a page, whose place is then listed
  module _ (p : Use) (page frame : ℕ) (within : page < length ps) (read : p ≡ get_or ps page p) (is : frame ≡ p.frame)
    where
      same_frame : frame ≡ (use_at ps page).frame
      same_frame = is ∙ ap (λ (q : Use). q.frame) (get_or_read ps page p within read no_use)

      pub read_within : frame < length ps
      read_within = let small = frame_within page within in omega (arith, small, same_frame)

      pub read_mapped : (places : List ℕ) → length places ≡ length ps → AreMapped page ps places
          → (next : ℕ) → next ≡ page + 1 → AreMapped next ps (set places frame page)
      read_mapped places sized mapped next more =
          rw (more, same_frame)
          (λ other below. mapped_next places page within sized mapped other (omega (arith, below)))

  -- what is read of such a list
  pub read_place : (places : List ℕ) (frame place : ℕ) → length places ≡ length ps → AreMapped (length ps) ps places
      → frame < length ps → place ≡ get_or places frame place → place ≡ place_of ps frame
  read_place places frame place sized mapped within read =
      get_or_read places frame place (omega (arith, sized, within)) read 0
      ∙ mapped_place places frame mapped within

-- ---- new pages, and a cell that was taken or given back

times-fresh : (first frame count other : ℕ) → times_framed (fresh_pages first frame count) other
    ≡ (if nat_lt other frame then 0 else if nat_lt other (frame + count) then 1 else 0)
times-fresh first frame zero other = grind arith
times-fresh first frame (suc count) other = grind (arith, times-fresh (suc first) (suc frame) count other)

pub fresh_framed : (first count : ℕ) → AreFramed (fresh_pages first 0 count)
fresh_framed first count other = grind (arith, times-fresh first 0 count other, length-fresh first 0 count)

pub times-with : (ps : List Use) (page cell : ℕ) (is_free : Bool) (frame : ℕ)
    → times_framed (with_cell ps page cell is_free) frame ≡ times_framed ps frame
times-with [] page cell is_free frame = refl
times-with (p ∷ ps) zero cell is_free frame = refl
times-with (p ∷ ps) (suc page) cell is_free frame = grind (arith, times-with ps page cell is_free frame)

-- ---- pages that are put behind others

pub times-append : (ps qs : List Use) (frame : ℕ)
    → times_framed (ps ++ qs) frame ≡ times_framed ps frame + times_framed qs frame
times-append [] qs frame = omega arith
times-append (p ∷ ps) qs frame = grind (arith, times-append ps qs frame)

-- how often a frame stands in a list
abbrev pub times_in : List ℕ → ℕ → ℕ
times_in [] frame = 0
times_in (f ∷ fs) frame = if f == frame then suc (times_in fs frame) else times_in fs frame

times-emptied : (first : ℕ) (fs : List ℕ) (frame : ℕ) → times_framed (empty_pages first fs) frame ≡ times_in fs frame
times-emptied first [] frame = refl
times-emptied first (f ∷ fs) frame = grind (arith, times-emptied (suc first) fs frame)

-- each page is open, or its frame is that of a chosen one
pub times-opened : (ps : List Use) (frame : ℕ)
    → times_framed (opened ps) frame + times_in (chosen_frames ps) frame ≡ times_framed ps frame
times-opened [] frame = refl
times-opened (p ∷ ps) frame = grind (arith, times-opened ps frame)

pub times-renumbered : (next : ℕ) (ps : List Use) (frame : ℕ)
    → times_framed (renumbered_uses next ps) frame ≡ times_framed ps frame
times-renumbered next ps frame =
    times-append (opened ps) (empty_pages next (chosen_frames ps)) frame
    ∙ ap (λ n. times_framed (opened ps) frame + n) (times-emptied next (chosen_frames ps) frame)
    ∙ times-opened ps frame
