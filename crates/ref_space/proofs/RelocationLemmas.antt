-- There is room for what a choice moves, and what a renumbering leaves of each frame.
use Rattle.std.proofs.Common.{◌≡◌, ℕ, zero, suc, ◌+◌, ◌*◌, ◌<◌, ◌≤◌, Bool, true, false, refl, sym, ap, subst, ◌∙◌}
use Rattle.std.proofs.Common.{arith}
use Rattle.std.proofs.Common.{List, [], ◌∷◌, ◌++◌, length, replicate, Option, Some, None, is_some, cond, ◌==◌}
use Rattle.std.proofs.Common.{if◌then◌else◌, inl, inr, nat_lt}
use Rattle.std.proofs.lemmas.Bool.{cases_Bool}
use Rattle.std.proofs.lemmas.List.Sums.{sum_by-cons}
use Rattle.ref_space.specs.Bits.{count_clear}
use Rattle.ref_space.specs.Pages.{Use, use_of, AreWhole, AreFilled, Packed, taken_of, taken_cells, all_free}
use Rattle.ref_space.specs.Pages.{next_place, placings, after_placing, opened, chosen_frames, has_chosen}
use Rattle.ref_space.specs.Pages.{choosing, is_sparse, taken_if_sparse, sparse_count, sparse_cells}
use Rattle.ref_space.specs.Pages.{empty_pages, fresh_page}
use Rattle.ref_space.specs.Pages.{renumbered_uses, times_framed, AreFramed, AreEmptied, IsRenumbered}
use Rattle.ref_space.proofs.PageLemmas.{whole_with}
use Rattle.ref_space.proofs.NextPlaces.{length-with}
use Rattle.ref_space.proofs.FrameLemmas.{times_in, times-opened}
use Rattle.ref_space.proofs.MoveLemmas.{none_chosen}
use Rattle.ref_space.proofs.CallLemmas.{whole-choosing, chosen-renumbered}
use Rattle.ref_space.proofs.RoomLemmas.{always_room, none_clear, open_taken, opened-placing, packed_placing}

-- ---- one object after another is placed

whole-after : (ps : List Use) (at : Option (ℕ × ℕ)) → AreWhole ps → AreWhole (after_placing ps at)
whole-after ps None whole = whole
whole-after ps (Some at) whole = whole_with ps at.0 at.1 false whole

length-after : (ps : List Use) (at : Option (ℕ × ℕ)) → length (after_placing ps at) ≡ length ps
length-after ps None = refl
length-after ps (Some at) = length-with ps at.0 at.1 false

-- so many were placed
record ArePlaced (ps : List Use) (k : ℕ) : Type 0 where
  pub whole : AreWhole (placings k ps)
  pub taken : taken_of (opened (placings k ps)) ≡ taken_of (opened ps) + k
  pub pages : length (opened (placings k ps)) ≡ length (opened ps)

placed_all : (ps : List Use) (k : ℕ) → AreWhole ps → taken_of (opened ps) + k ≤ 64 * length (opened ps)
    → ArePlaced ps k
placed_all ps zero whole few = record { whole = whole; taken = omega arith; pages = refl }
placed_all ps (suc k) whole few =
    let rest = placed_all ps k whole (omega (arith, few)) in
    let there = always_room (placings k ps) rest.whole (omega (arith, few, rest.taken, rest.pages)) in
    let more = open_taken (placings k ps) there in
    record {
      whole = whole-after (placings k ps) (next_place (placings k ps)) rest.whole;
      taken = omega (arith, more, rest.taken);
      pages = ap length (opened-placing (placings k ps))
          ∙ length-after (opened (placings k ps)) (next_place (opened (placings k ps))) ∙ rest.pages;
    }

packed_all : (ps : List Use) (c k : ℕ) → AreWhole ps → taken_of (opened ps) + k ≤ 64 * length (opened ps)
    → taken_of (opened ps) + k ≤ 64 * c → Packed c (opened ps) → Packed c (opened (placings k ps))
packed_all ps c zero whole few fits packed = packed
packed_all ps c (suc k) whole few fits packed =
    let rest = placed_all ps k whole (omega (arith, few)) in
    packed_placing c (placings k ps) rest.whole
    (packed_all ps c k whole (omega (arith, few)) (omega (arith, fits)) packed) (omega (arith, fits, rest.taken))

-- ---- what a choice takes out

pub taken_split : (ps : List Use) → chosen_frames ps ≡ []
    → taken_of (opened (choosing ps)) + sparse_cells ps ≡ taken_of ps
taken_split [] none = refl
taken_split (p ∷ ps) none = grind (arith, sum_by-cons taken_if_sparse p ps, taken_split ps)

pub pages_split : (ps : List Use) → chosen_frames ps ≡ []
    → length (opened (choosing ps)) + sparse_count ps ≡ length ps
pages_split [] none = refl
pages_split (p ∷ ps) none =
    grind (arith, sum_by-cons (λ (q : Use). cond (is_sparse q) 1 0) p ps, pages_split ps)

-- a sparse page has taken cells
pub few_sparse : (c : ℕ) (ps : List Use) → Packed c ps → sparse_count ps ≤ c
few_sparse c [] packed = omega arith
few_sparse zero (p ∷ ps) packed =
    let rest = few_sparse zero ps packed.1 in
    grind (arith, rest, sum_by-cons (λ (q : Use). cond (is_sparse q) 1 0) p ps)
few_sparse (suc c) (p ∷ ps) packed =
    grind (arith, sum_by-cons (λ (q : Use). cond (is_sparse q) 1 0) p ps, few_sparse c ps packed)

-- of pages that are filled one after another at most one is neither full nor empty
pub one_sparse : (ps : List Use) → AreWhole ps → AreFilled ps → sparse_count ps < 2
one_sparse [] whole filled = omega arith
one_sparse (p ∷ ps) whole (inl full) =
    let all = none_clear p.free full.0 in
    grind (arith, sum_by-cons (λ (q : Use). cond (is_sparse q) 1 0) p ps, one_sparse ps whole.1 full.1)
one_sparse (p ∷ ps) whole (inr empty) =
    let none = few_sparse 0 ps empty in grind (arith, sum_by-cons (λ (q : Use). cond (is_sparse q) 1 0) p ps)

clear_most : (bs : List Bool) → count_clear bs ≤ length bs
clear_most [] = omega arith
clear_most (b ∷ bs) = grind (arith, clear_most bs)

taken_most : (c : ℕ) (ps : List Use) → AreWhole ps → Packed c ps → taken_of ps ≤ 64 * c
taken_most c [] whole packed = omega arith
taken_most zero (p ∷ ps) whole packed =
    let rest = taken_most zero ps whole.1 packed.1 in
    let own = packed.0 in
    omega (arith, rest, own)
taken_most (suc c) (p ∷ ps) whole packed =
    let rest = taken_most c ps whole.1 packed in
    let own = clear_most p.free in
    let size = whole.0 in
    omega (arith, rest, own, size)

packed-more : (c : ℕ) (ps : List Use) → Packed c ps → Packed (suc c) ps
packed-more c [] packed = tt
packed-more zero (p ∷ ps) packed = packed.1
packed-more (suc c) (p ∷ ps) packed = packed-more c ps packed

pub packed-chosen : (c : ℕ) (ps : List Use) → chosen_frames ps ≡ [] → Packed c ps → Packed c (opened (choosing ps))
packed-chosen c [] none packed = tt
packed-chosen zero (p ∷ ps) none packed = grind (arith, packed-chosen zero ps)
packed-chosen (suc c) (p ∷ ps) none packed =
    grind (arith, packed-more c (opened (choosing ps)), packed-chosen c ps)

-- ---- room for what moves

module _ (c k : ℕ) (ps : List Use) (whole : AreWhole ps) (none : has_chosen ps ≡ false) (packed : Packed c ps)
    (twice : length ps ≡ 2 * c) where
  few : k ≤ sparse_cells ps → taken_of (opened (choosing ps)) + k ≤ 64 * c
  few within =
      let taken = taken_split ps (none_chosen ps none) in
      let most = taken_most c ps whole packed in
      omega (arith, taken, most, within)

  fits : k ≤ sparse_cells ps → taken_of (opened (choosing ps)) + k ≤ 64 * length (opened (choosing ps))
  fits within =
      let taken = few within in
      let pages = pages_split ps (none_chosen ps none) in
      let sparse = few_sparse c ps packed in
      omega (arith, taken, pages, sparse, twice)

  pub room_to_move : k < sparse_cells ps → is_some (next_place (placings k (choosing ps))) ≡ true
  room_to_move within =
      let placed = placed_all (choosing ps) k (whole-choosing ps whole) (fits (omega (arith, within))) in
      let taken = taken_split ps (none_chosen ps none) in
      let most = taken_most c ps whole packed in
      let pages = pages_split ps (none_chosen ps none) in
      let sparse = few_sparse c ps packed in
      always_room (placings k (choosing ps)) placed.whole
      (omega (arith, placed.taken, placed.pages, taken, most, pages, sparse, twice, within))

  pub packed_moving : k ≤ sparse_cells ps → Packed c (opened (placings k (choosing ps)))
  packed_moving within =
      packed_all (choosing ps) c k (whole-choosing ps whole) (fits within) (few within)
      (packed-chosen c ps (none_chosen ps none) packed)

-- ---- the page of a frame

use_of-cons : (p : Use) (ps : List Use) (frame : ℕ)
    → use_of (p ∷ ps) frame ≡ (if p.frame == frame then p else use_of ps frame)
use_of-cons p ps frame = grind arith

use_of-front : (ps qs : List Use) (frame : ℕ) → 0 < times_framed ps frame → use_of (ps ++ qs) frame ≡ use_of ps frame
use_of-front [] qs frame some = absurd (omega arith)
use_of-front (p ∷ ps) qs frame some =
    grind (arith, use_of-cons p ps frame, use_of-cons p (ps ++ qs) frame, use_of-front ps qs frame)

use_of-behind : (ps qs : List Use) (frame : ℕ) → times_framed ps frame ≡ 0 → use_of (ps ++ qs) frame ≡ use_of qs frame
use_of-behind [] qs frame none = refl
use_of-behind (p ∷ ps) qs frame none = grind (arith, use_of-cons p (ps ++ qs) frame, use_of-behind ps qs frame)

-- an open one stays in front
pub record StaysOpen (ps : List Use) (frame : ℕ) : Type 0 where
  pub same : use_of (opened ps) frame ≡ use_of ps frame
  pub there : 0 < times_framed (opened ps) frame

pub stays_open : (ps : List Use) (frame : ℕ) → times_framed ps frame ≡ 1 → (use_of ps frame).chosen ≡ false
    → StaysOpen ps frame
stays_open [] frame once open_page = absurd (omega (arith, once))
stays_open (p ∷ ps) frame once open_page =
    grind (arith, use_of-cons p ps frame, use_of-cons p (opened ps) frame, stays_open ps frame)

-- a chosen one goes behind
pub record GoesBehind (ps : List Use) (frame : ℕ) : Type 0 where
  pub gone : times_framed (opened ps) frame ≡ 0
  pub there : 0 < times_in (chosen_frames ps) frame

pub goes_behind : (ps : List Use) (frame : ℕ) → times_framed ps frame ≡ 1 → (use_of ps frame).chosen ≡ true
    → GoesBehind ps frame
goes_behind [] frame once chosen = absurd (omega (arith, once))
goes_behind (p ∷ ps) frame once chosen =
    grind (arith, use_of-cons p ps frame, times-opened ps frame, goes_behind ps frame)

-- and is empty there, at a new address
record IsNew (next : ℕ) (p : Use) : Type 0 where
  pub free : p.free ≡ all_free
  pub address : next ≤ p.address

is_new : (next : ℕ) (fs : List ℕ) (frame : ℕ) → 0 < times_in fs frame → IsNew next (use_of (empty_pages next fs) frame)
is_new next [] frame some = absurd (omega (arith, some))
is_new next (f ∷ fs) frame some =
    grind (arith, use_of-cons (fresh_page next f) (empty_pages (suc next) fs) frame, is_new (suc next) fs frame)

all_clear : (bs : List Bool) → count_clear bs ≡ 0 → bs ≡ replicate (length bs) true
all_clear [] none = refl
all_clear (b ∷ bs) none = grind (arith, all_clear bs)

empty_of : (ps : List Use) (frame : ℕ) → AreEmptied ps → (use_of ps frame).chosen ≡ true
    → taken_cells (use_of ps frame) ≡ 0
empty_of [] frame emptied chosen = refl
empty_of (p ∷ ps) frame emptied chosen = grind (arith, use_of-cons p ps frame, emptied.0, empty_of ps frame emptied.1)

pub whole_of : (ps : List Use) (frame : ℕ) → 0 < times_framed ps frame → AreWhole ps
    → length (use_of ps frame).free ≡ 64
whole_of [] frame some whole = absurd (omega (arith, some))
whole_of (p ∷ ps) frame some whole = grind (arith, use_of-cons p ps frame, whole.0, whole_of ps frame)

-- ---- a renumbering

module _ (ps : List Use) (next frame : ℕ) (framed : AreFramed ps) (within : frame < length ps) where
  once : times_framed ps frame ≡ 1
  once = grind (arith, framed frame)

  -- an open page is as it was
  kept : (use_of ps frame).chosen ≡ false → use_of (renumbered_uses next ps) frame ≡ use_of ps frame
  kept open_page =
      let stays = stays_open ps frame once open_page in
      use_of-front (opened ps) (empty_pages next (chosen_frames ps)) frame stays.there ∙ stays.same

  -- a chosen one is a new page
  made : (use_of ps frame).chosen ≡ true → IsNew next (use_of (renumbered_uses next ps) frame)
  made chosen =
      let goes = goes_behind ps frame once chosen in
      subst (IsNew next) (sym (use_of-behind (opened ps) (empty_pages next (chosen_frames ps)) frame goes.gone))
      (is_new next (chosen_frames ps) frame goes.there)

  free_again : AreWhole ps → AreEmptied ps → (use_of ps frame).chosen ≡ true → (use_of ps frame).free ≡ all_free
  unfolding all_free
  free_again whole emptied chosen =
      all_clear (use_of ps frame).free (empty_of ps frame emptied chosen)
      ∙ ap (λ n. replicate n true) (whole_of ps frame (let is = once in omega (arith, is)) whole)

  pub free-renumbered : AreWhole ps → AreEmptied ps
      → (use_of (renumbered_uses next ps) frame).free ≡ (use_of ps frame).free
  free-renumbered whole emptied =
      elim (cases_Bool (use_of ps frame).chosen) [
        | inl chosen ↦ (made chosen).free ∙ sym (free_again whole emptied chosen)
        | inr open_page ↦ ap (λ (p : Use). p.free) (kept open_page)
      ]

  pub address-renumbered : IsRenumbered next (use_of ps frame) (use_of (renumbered_uses next ps) frame).address
  address-renumbered =
      ((λ open_page. ap (λ (p : Use). p.address) (kept open_page)), (λ chosen. (made chosen).address))

packed-emptied : (c next : ℕ) (fs : List ℕ) → Packed c (empty_pages next fs)
unfolding all_free
packed-emptied c next [] = tt
packed-emptied zero next (f ∷ fs) = (refl, packed-emptied zero (suc next) fs)
packed-emptied (suc c) next (f ∷ fs) = packed-emptied c (suc next) fs

packed-behind : (c : ℕ) (ps : List Use) (next : ℕ) (fs : List ℕ) → Packed c ps → Packed c (ps ++ empty_pages next fs)
packed-behind c [] next fs packed = packed-emptied c next fs
packed-behind zero (p ∷ ps) next fs packed = (packed.0, packed-behind zero ps next fs packed.1)
packed-behind (suc c) (p ∷ ps) next fs packed = packed-behind c ps next fs packed

pub packed-renumbered : (c next : ℕ) (ps : List Use) → Packed c (opened ps) → Packed c (renumbered_uses next ps)
packed-renumbered c next ps packed = packed-behind c (opened ps) next (chosen_frames ps) packed

pub none-renumbered : (ps : List Use) (next : ℕ) → has_chosen (renumbered_uses next ps) ≡ false
none-renumbered ps next = ap (λ fs. nat_lt 0 (length fs)) (chosen-renumbered next ps)
