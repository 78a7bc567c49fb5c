-- What the calls on pages leave of what holds of their fields.
use Rattle.std.proofs.Common.{◌≡◌, ℕ, zero, suc, ◌+◌, ◌<◌, ◌≤◌, ◌^◌, Bool, true, false, refl, sym, ap, subst, ◌∙◌}
use Rattle.std.proofs.Common.{arith}
use Rattle.std.proofs.Common.{List, [], ◌∷◌, ◌++◌, length, get_or, set, take, drop, cond, Some, nat_lt, if◌then◌else◌}
use Rattle.std.proofs.lemmas.List.{length-set, get_or_read, length-map, length-append, append-nil, drop_all, take_all}
use Rattle.std.proofs.lemmas.List.Sums.{sum_by-cons}
use Rattle.std.specs.Option.{option_map}
use Rattle.ref_space.specs.Pages.{Use, use_at, with_free, with_cell, fresh_pages, NoneHasRoom, AreBetween, AreFramed}
use Rattle.ref_space.specs.Pages.{times_framed, Pages, place_of, with_given, with_placed, next_place, next_cell}
use Rattle.ref_space.specs.Pages.{no_use, in_frame}
use Rattle.ref_space.specs.Pages.{chosen_frames, choosing, chosen_if_sparse, sparse_count, is_sparse, has_open_cell}
use Rattle.ref_space.specs.Pages.{opened, empty_pages, renumbered_uses, AreWhole, all_free}
use Rattle.ref_space.specs.PageViews.{ArePages, AreMapped, NoneTaken}
use Rattle.ref_space.proofs.PageLemmas.{whole_with, with_cell-set, none_in_front, fresh_whole, length-fresh}
use Rattle.ref_space.proofs.PageLemmas.{placed_after}
use Rattle.ref_space.proofs.NextPlaces.{frame-with, length-with}
use Rattle.ref_space.proofs.FrameLemmas.{times-with, fresh_framed, times-renumbered}
use Rattle.ref_space.proofs.RoomLemmas.{whole_opened}
use Rattle.ref_space.proofs.MoveLemmas.{chosen-with, chosen-append, chosen-fresh, chosen-opened, opened_chosen}
use Rattle.ref_space.proofs.MoveLemmas.{length-emptied}
use Rattle.std.proofs.Common.{Option}
use Rattle.ref_space.specs.Pages.{after_placing}
use Rattle.std.proofs.Common.{None, Some}

-- ---- a cell is taken or given back

pub between-with : (ps : List Use) (page cell : ℕ) (is_free : Bool) (least end : ℕ) → AreBetween least ps end
    → AreBetween least (with_cell ps page cell is_free) end
between-with [] page cell is_free least end between = between
between-with (p ∷ ps) zero cell is_free least end between = between
between-with (p ∷ ps) (suc page) cell is_free least end between =
    (between.0, between-with ps page cell is_free (suc p.address) end between.1)

pub between-placed : (ps : List Use) (at : Option (ℕ × ℕ)) (least end : ℕ) → AreBetween least ps end
    → AreBetween least (after_placing ps at) end
between-placed ps None least end between = between
between-placed ps (Some at) least end between = between-with ps at.0 at.1 false least end between

-- in no page in front of the one that a search begins at
pub are_pages-with : {ps : List Use} {places chosen : List ℕ} {next before left room spare : ℕ}
    → ArePages ps places chosen next before left room spare → (first page cell : ℕ) (is_free : Bool) (p q : Use)
    → first ≤ length ps → NoneHasRoom (take first ps) → first ≤ page → p ≡ get_or ps page p
    → q ≡ with_free cell is_free p → NoneTaken (with_cell ps page cell is_free) chosen left
    → ArePages (set ps page q) places chosen next first left room spare
are_pages-with {ps} {places} pages first page cell is_free p q within full order is with_q emptied =
    let new : set ps page q ≡ with_cell ps page cell is_free = grind (arith, with_cell-set) in
    let size = length-set ps page q in
    record {
      whole = rw new (whole_with ps page cell is_free pages.whole);
      within = omega (arith, size, within);
      full = none_in_front first page ps q order full;
      framed = λ frame.
          rw new (times-with ps page cell is_free frame ∙ pages.framed frame
          ∙ ap (λ n. if nat_lt frame n then 1 else 0) (sym (length-with ps page cell is_free)));
      sized = pages.sized ∙ sym size;
      mapped = λ other below.
          rw new (ap (λ f. get_or places f 0) (frame-with ps page cell is_free other)
          ∙ pages.mapped other (omega (arith, size, below)));
      listed = pages.listed ∙ sym (ap chosen_frames new ∙ chosen-with ps page cell is_free);
      left_within = pages.left_within;
      emptied = rw new emptied;
      rising = rw new (between-with ps page cell is_free 0 _ pages.rising);
      addresses = rw new (rw (chosen-with ps page cell is_free) pages.addresses);
      pages_fit = rw size pages.pages_fit;
      chosen_fit = rw size pages.chosen_fit;
    }

-- what a contract sees of it
pub given_at : {ps : List Use} {next : ℕ} {s : Pages} → record { uses = ps; next = next } ≡ s
    → (page cell frame : ℕ) (p q : Use) → page ≡ place_of s.uses frame → p ≡ get_or ps page p
    → q ≡ with_free cell true p → record { uses = set ps page q; next = next } ≡ with_given s frame cell
given_at {ps} {next} {s} view page cell frame p q at read is =
    ap (λ us. record { uses = us; next = next })
    (ap (λ (o : Use). set ps page o) is ∙ sym (with_cell-set ps page cell true p read))
    ∙ ap (λ k. record { uses = with_cell ps k cell true; next = next })
    (at ∙ ap (λ (r : Pages). place_of r.uses frame) (sym view))
    ∙ ap (λ (r : Pages). with_given r frame cell) view

pub placed_at : {ps : List Use} {next : ℕ} {s : Pages} → record { uses = ps; next = next } ≡ s
    → (page cell : ℕ) (p q : Use) → next_place ps ≡ Some (page, cell) → p ≡ get_or ps page p
    → q ≡ with_free cell false p → record { uses = set ps page q; next = next } ≡ with_placed s
placed_at {ps} {next} {s} view page cell p q at read is =
    ap (λ us. record { uses = us; next = next }) (placed_after ps page p q cell at read is) ∙ ap with_placed view

pub placed_cell : {ps : List Use} {next : ℕ} {s : Pages} → record { uses = ps; next = next } ≡ s
    → (page cell frame : ℕ) (p : Use) → next_place ps ≡ Some (page, cell) → page < length ps → p ≡ get_or ps page p
    → frame ≡ p.frame → Some (frame, cell) ≡ next_cell s.uses
placed_cell {ps} {next} {s} view page cell frame p at within read is =
    ap (λ f. Some (f, cell)) (is ∙ ap (λ (q : Use). q.frame) (get_or_read ps page p within read no_use))
    ∙ sym (ap (option_map (in_frame ps)) at) ∙ ap (λ (r : Pages). next_cell r.uses) view

-- ---- new pages

pub between-fresh : (least first frame count : ℕ) → least ≤ first
    → AreBetween least (fresh_pages first frame count) (first + count)
between-fresh least first frame zero order = omega (arith, order)
between-fresh least first frame (suc count) order =
    let same : suc first + count ≡ first + suc count = omega arith in (
      order,
      subst (AreBetween (suc first) (fresh_pages (suc first) (suc frame) count)) same
          (between-fresh (suc first) (suc first) (suc frame) count (omega arith)),
    )

pub are_pages-fresh : (first count : ℕ) {ps : List Use} {places chosen : List ℕ} {room spare : ℕ}
    → first + count ≤ 2 ^ 32 → ps ≡ fresh_pages first 0 count → length places ≡ length ps
    → AreMapped (length ps) ps places → chosen ≡ [] → room ≡ count → count ≤ spare
    → ArePages ps places chosen (first + count) 0 0 room spare
are_pages-fresh first count {ps} {places} {chosen} small are sized mapped none fits chosen_fit =
    let size : length ps ≡ count = ap length are ∙ length-fresh first 0 count in
    let nowhere : chosen_frames ps ≡ [] = ap chosen_frames are ∙ chosen-fresh first 0 count in
    record {
      whole = subst AreWhole (sym are) (fresh_whole first 0 count);
      within = omega arith;
      full = tt;
      framed = subst AreFramed (sym are) (fresh_framed first count);
      sized = sized;
      mapped = mapped;
      listed = none ∙ sym nowhere;
      left_within = omega arith;
      emptied = λ at below. absurd (omega (arith, below));
      rising = subst (λ qs. AreBetween 0 qs (first + count)) (sym are) (between-fresh 0 first 0 count (omega arith));
      addresses = let none_left = ap length nowhere in omega (arith, none_left, small);
      pages_fit = omega (arith, size, fits);
      chosen_fit = omega (arith, size, chosen_fit);
    }

-- ---- addresses

between-least : (least lower end : ℕ) (ps : List Use) → lower ≤ least → AreBetween least ps end
    → AreBetween lower ps end
between-least least lower end [] order between = omega (arith, order, between)
between-least least lower end (p ∷ ps) order between =
    let own = between.0 in (omega (arith, order, own), between.1)

between_order : (least end : ℕ) (ps : List Use) → AreBetween least ps end → least + length ps ≤ end
between_order least end [] between = omega (arith, between)
between_order least end (p ∷ ps) between =
    let rest = between_order (suc p.address) end ps between.1 in
    let own = between.0 in
    omega (arith, rest, own)

pub between_at : (ps : List Use) (page least end : ℕ) → AreBetween least ps end → page < length ps
    → (least ≤ (use_at ps page).address) × ((use_at ps page).address < end)
between_at [] page least end between within = absurd (omega arith)
between_at (p ∷ ps) zero least end between within =
    let behind = between_order (suc p.address) end ps between.1 in (between.0, omega (arith, behind))
between_at (p ∷ ps) (suc page) least end between within =
    let rest = between_at ps page (suc p.address) end between.1 (omega arith) in
    (omega (arith, rest.0, between.0), rest.1)

between-append : (least middle end : ℕ) (ps qs : List Use) → AreBetween least ps middle → AreBetween middle qs end
    → AreBetween least (ps ++ qs) end
between-append least middle end [] qs front behind = between-least middle least end qs front behind
between-append least middle end (p ∷ ps) qs front behind =
    (front.0, between-append (suc p.address) middle end ps qs front.1 behind)

between-opened : (least end : ℕ) (ps : List Use) → AreBetween least ps end → AreBetween least (opened ps) end
between-opened least end [] between = between
between-opened least end (p ∷ ps) between =
    let rest = between-opened (suc p.address) end ps between.1 in
    let lower = between-least (suc p.address) least end (opened ps) (let own = between.0 in omega (arith, own)) rest in
    grind (arith, rest, lower)

between-emptied : (first : ℕ) (fs : List ℕ) → AreBetween first (empty_pages first fs) (first + length fs)
between-emptied first [] = omega arith
between-emptied first (f ∷ fs) =
    let same : suc first + length fs ≡ first + length (f ∷ fs) = omega arith in
    (omega arith, subst (AreBetween (suc first) (empty_pages (suc first) fs)) same (between-emptied (suc first) fs))

pub between-renumbered_from : (least next : ℕ) (ps : List Use) → AreBetween least ps next
    → AreBetween least (renumbered_uses next ps) (next + length (chosen_frames ps))
between-renumbered_from least next ps between =
    between-append least next (next + length (chosen_frames ps)) (opened ps) (empty_pages next (chosen_frames ps))
    (between-opened least next ps between) (between-emptied next (chosen_frames ps))

pub between-renumbered : (next : ℕ) (ps : List Use) → AreBetween 0 ps next
    → AreBetween 0 (renumbered_uses next ps) (next + length (chosen_frames ps))
between-renumbered = between-renumbered_from 0

-- there are no more pages than addresses
pub few_pages : (ps : List Use) (next : ℕ) → AreBetween 0 ps next → length ps ≤ next
few_pages ps next between = let order = between_order 0 next ps between in omega (arith, order)

-- ---- a choice

-- it changes neither frame nor address, and takes no cell
choosing_frame : (p : Use) → (chosen_if_sparse p).frame ≡ p.frame
choosing_frame p = grind arith

pub frame-choosing : (ps : List Use) (page : ℕ) → (use_at (choosing ps) page).frame ≡ (use_at ps page).frame
frame-choosing [] page = refl
frame-choosing (p ∷ ps) zero = choosing_frame p
frame-choosing (p ∷ ps) (suc page) = frame-choosing ps page

times-choosing : (ps : List Use) (frame : ℕ) → times_framed (choosing ps) frame ≡ times_framed ps frame
times-choosing [] frame = refl
times-choosing (p ∷ ps) frame = grind (arith, times-choosing ps frame)

pub framed-choosing : (ps : List Use) → AreFramed ps → AreFramed (choosing ps)
framed-choosing ps framed frame =
    times-choosing ps frame ∙ framed frame
    ∙ ap (λ n. if nat_lt frame n then 1 else 0) (sym (length-map ps chosen_if_sparse))

pub whole-choosing : (ps : List Use) → AreWhole ps → AreWhole (choosing ps)
whole-choosing [] whole = tt
whole-choosing (p ∷ ps) whole = grind (arith, whole-choosing ps whole.1)

pub length-choosing : (ps : List Use) → length (choosing ps) ≡ length ps
length-choosing ps = length-map ps chosen_if_sparse

pub between-choosing : (least end : ℕ) (ps : List Use) → AreBetween least ps end → AreBetween least (choosing ps) end
between-choosing least end [] between = between
between-choosing least end (p ∷ ps) between = grind (arith, between-choosing (suc p.address) end ps between.1)

pub count_chosen : (ps : List Use) → chosen_frames ps ≡ [] → length (chosen_frames (choosing ps)) ≡ sparse_count ps
count_chosen [] none = refl
count_chosen (p ∷ ps) none = grind (arith, sum_by-cons (λ (p : Use). cond (is_sparse p) 1 0) p ps, count_chosen ps)

-- no page gets room
room-chosen : (p : Use) → has_open_cell p ≡ false → has_open_cell (chosen_if_sparse p) ≡ false
room-chosen p none = grind arith

full-choosing : (k : ℕ) (ps : List Use) → NoneHasRoom (take k ps) → NoneHasRoom (take k (choosing ps))
full-choosing zero ps none = tt
full-choosing (suc k) [] none = none
full-choosing (suc k) (p ∷ ps) none = (room-chosen p none.0, full-choosing k ps none.1)

pub are_pages-chosen : {ps qs : List Use} {places chosen chosen_now : List ℕ} {next first left room spare capacity : ℕ}
    → ArePages ps places chosen next first left room spare → chosen_frames ps ≡ [] → next + sparse_count ps ≤ 2 ^ 32
    → qs ≡ choosing ps → chosen_now ≡ chosen_frames (choosing ps) → capacity ≡ spare
    → ArePages qs places chosen_now next first 0 room capacity
are_pages-chosen {ps} {qs} {places} pages none enough are listed same =
    let size : length qs ≡ length ps = ap length are ∙ length-map ps chosen_if_sparse in
    record {
      whole = subst AreWhole (sym are) (whole-choosing ps pages.whole);
      within = omega (arith, size, pages.within);
      full = rw are (full-choosing _ ps pages.full);
      framed = λ frame.
          rw (size, are) (times-choosing ps frame ∙ pages.framed frame);
      sized = pages.sized ∙ sym size;
      mapped = λ page below.
          rw are (ap (λ f. get_or places f 0) (frame-choosing ps page)
          ∙ pages.mapped page (omega (arith, size, below)));
      listed = listed ∙ ap chosen_frames (sym are);
      left_within = omega arith;
      emptied = λ at below. absurd (omega (arith, below));
      rising = rw are (between-choosing 0 _ ps pages.rising);
      addresses = let counted = ap (λ us. length (chosen_frames us)) are ∙ count_chosen ps none in
          omega (arith, counted, enough);
      pages_fit = omega (arith, size, pages.pages_fit);
      chosen_fit = omega (arith, size, same, pages.chosen_fit);
    }

-- ---- a renumbering

whole-append : (ps qs : List Use) → AreWhole ps → AreWhole qs → AreWhole (ps ++ qs)
whole-append [] qs front behind = behind
whole-append (p ∷ ps) qs front behind = (front.0, whole-append ps qs front.1 behind)

whole-emptied : (first : ℕ) (fs : List ℕ) → AreWhole (empty_pages first fs)
unfolding all_free
whole-emptied first [] = tt
whole-emptied first (f ∷ fs) = (refl, whole-emptied (suc first) fs)

pub whole-renumbered : (next : ℕ) (ps : List Use) → AreWhole ps → AreWhole (renumbered_uses next ps)
whole-renumbered next ps whole =
    whole-append (opened ps) (empty_pages next (chosen_frames ps)) (whole_opened ps whole)
    (whole-emptied next (chosen_frames ps))

chosen-emptied : (first : ℕ) (fs : List ℕ) → chosen_frames (empty_pages first fs) ≡ []
chosen-emptied first [] = refl
chosen-emptied first (f ∷ fs) = chosen-emptied (suc first) fs

pub chosen-renumbered : (next : ℕ) (ps : List Use) → chosen_frames (renumbered_uses next ps) ≡ []
chosen-renumbered next ps =
    chosen-append (opened ps) (empty_pages next (chosen_frames ps))
    ∙ ap (λ fs. fs ++ chosen_frames (empty_pages next (chosen_frames ps))) (chosen-opened ps)
    ∙ chosen-emptied next (chosen_frames ps)

pub length-renumbered : (next : ℕ) (ps : List Use) → length (renumbered_uses next ps) ≡ length ps
length-renumbered next ps =
    length-append (opened ps) (empty_pages next (chosen_frames ps))
    ∙ ap (λ n. length (opened ps) + n) (length-emptied next (chosen_frames ps)) ∙ opened_chosen ps

pub framed-renumbered : (next : ℕ) (ps : List Use) → AreFramed ps → AreFramed (renumbered_uses next ps)
framed-renumbered next ps framed frame =
    times-renumbered next ps frame ∙ framed frame
    ∙ ap (λ n. if nat_lt frame n then 1 else 0) (sym (length-renumbered next ps))

pub are_pages-renumbered : {ps qs : List Use} {places places_now chosen chosen_now : List ℕ}
    {next end first left room spare capacity capacity_now : ℕ}
    → ArePages ps places chosen next first left room spare → qs ≡ renumbered_uses next ps
    → end ≡ next + length (chosen_frames ps) → length places_now ≡ length qs → AreMapped (length qs) qs places_now
    → chosen_now ≡ [] → capacity ≡ room → capacity_now ≡ spare
    → ArePages qs places_now chosen_now end 0 0 capacity capacity_now
are_pages-renumbered {ps} {qs} {next = next} pages are ends sized mapped none same same_now =
    let size : length qs ≡ length ps = ap length are ∙ length-renumbered next ps in
    let open_all : chosen_frames qs ≡ [] = ap chosen_frames are ∙ chosen-renumbered next ps in
    record {
      whole = subst AreWhole (sym are) (whole-renumbered next ps pages.whole);
      within = omega arith;
      full = tt;
      framed = subst AreFramed (sym are) (framed-renumbered next ps pages.framed);
      sized = sized;
      mapped = mapped;
      listed = none ∙ sym open_all;
      left_within = omega arith;
      emptied = λ at below. absurd (omega (arith, below));
      rising = rw (are, ends) (between-renumbered next ps pages.rising);
      addresses = let left = ap length open_all in omega (arith, left, ends, pages.addresses);
      pages_fit = omega (arith, size, same, pages.pages_fit);
      chosen_fit = omega (arith, size, same_now, pages.chosen_fit);
    }

-- what is written through a borrowed slice of a list, all of it
pub written_back : {X : Type 0} (n : ℕ) (xs ys zs : List X) → n ≡ length ys → length xs ≡ length ys → xs ≡ zs
    → take n (xs ++ drop (length xs) ys) ≡ zs
written_back n xs ys zs all size is = grind (arith, drop_all, append-nil, take_all)

-- the chosen pages go, and come back behind the others
pub renumbered_by : (ps : List Use) (next : ℕ) {os qs : List Use} {fs gs : List ℕ} → os ≡ opened ps → gs ≡ fs
    → fs ≡ chosen_frames ps → qs ≡ os ++ empty_pages next gs → qs ≡ renumbered_uses next ps
renumbered_by ps next {os} {qs} {fs} {gs} kept same listed are = grind arith
