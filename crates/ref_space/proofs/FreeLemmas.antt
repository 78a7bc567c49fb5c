-- Which cells are free: those that hold nothing and are kept for nothing, as the pages have it.
use Rattle.ref_space.proofs.Common.{occupants_of, not}
use Rattle.ref_space.proofs.PlaceUses.{chosen_place-with}
use Rattle.ref_space.specs.Pages.{Packed}
use Rattle.ref_space.proofs.ReserveLemmas.{keeps_placing}
use Rattle.ref_space.proofs.NextPlaces.{length-with}
use Rattle.ref_space.proofs.RoomLemmas.{packed_placing, packed_giving}
use Rattle.ref_space.proofs.FreePlaces.{vacant-other}
use Rattle.ref_space.proofs.Common.{◌≡◌, ℕ, ◌*◌, ◌/◌, ◌%◌, ◌<◌, Bool, true, false, sym, refl, ◌∙◌, ap, subst}
use Rattle.ref_space.proofs.Common.{List, length, set, map, replicate, zero, suc, Option, Some, None, is_some, arith}
use Rattle.ref_space.proofs.Common.{length-map, is_none, option_map, cell_at, Tabled, taken_of, slice_index_or}
use Rattle.std.proofs.lemmas.Bool.{false≢true, true≢false}
use Rattle.std.proofs.lemmas.List.{map-set, length-replicate}
use Rattle.std.proofs.Math.Seq.{map-set_same}
use Rattle.ref_space.specs.Pages.{Use, fresh_pages, next_cell, next_place, opened, placing, with_place}
use Rattle.ref_space.specs.Pages.{place_in_frame, page_at, is_chosen_place, is_free_place}
use Rattle.ref_space.specs.Moves.{AreFree, NoneLeaves, Leaves, is_vacant}
use Rattle.ref_space.proofs.PlaceUses.{IsNext, next_is, page_within}
use Rattle.ref_space.proofs.FreePlaces.{free_pushed, free_given}
use Rattle.ref_space.proofs.PageLemmas.{fresh_whole, length-fresh}
use Rattle.ref_space.proofs.FrameLemmas.{fresh_framed, framed_there}
use Rattle.ref_space.proofs.RoomLemmas.{open_taken, open_given, opened_pages, opened_with}
use Rattle.std.proofs.Common.{◌∷◌}
use Rattle.std.proofs.lemmas.List.{get_or-replicate}
use Rattle.ref_space.specs.Pages.{use_at, is_free_at, all_free}
use Rattle.std.proofs.Common.{[]}
use Rattle.ref_space.proofs.PlaceUses.{chosen_place-with}
use Rattle.ref_space.specs.Pages.{Packed}
use Rattle.ref_space.proofs.ReserveLemmas.{keeps_placing}
use Rattle.ref_space.proofs.NextPlaces.{length-with}
use Rattle.ref_space.proofs.RoomLemmas.{packed_placing, packed_giving}
use Rattle.ref_space.proofs.Common.{occupants_of}
use Rattle.ref_space.proofs.Common.{not}

pub is_none-mapped : (f : Tabled → Tabled) (c : Option Tabled) → is_none (option_map f c) ≡ is_none c
is_none-mapped f None = refl
is_none-mapped f (Some k) = refl

pub holds_nothing : (c : Option Tabled) → is_none c ≡ true → c ≡ None
holds_nothing None none = refl
holds_nothing (Some k) none = absurd (false≢true none)

-- whether nothing lies at a place
pub vacant-cell : (cells : List (Option Tabled)) (p : ℕ) → is_vacant (map is_none cells) p ≡ is_none (cell_at cells p)
vacant-cell [] p = refl
vacant-cell (c ∷ cs) zero = refl
vacant-cell (c ∷ cs) (suc p) = vacant-cell cs p

-- and whether an object does
pub some-vacant : (cells : List (Option Tabled)) (p : ℕ)
    → is_some (slice_index_or (occupants_of cells) p None) ≡ not (is_vacant (map is_none cells) p)
some-vacant [] p = refl
some-vacant (None ∷ cs) zero = refl
some-vacant (Some k ∷ cs) zero = refl
some-vacant (c ∷ cs) (suc p) = some-vacant cs p

pub none-occupants : (cells : List (Option Tabled)) → map is_none (occupants_of cells) ≡ map is_none cells
none-occupants [] = refl
none-occupants (None ∷ cs) = ap (λ bs. true ∷ bs) (none-occupants cs)
none-occupants (Some k ∷ cs) = ap (λ bs. false ∷ bs) (none-occupants cs)

-- where nothing is still to move
pub settled-none : (cells : List (Option Tabled)) (ps : List Use) → NoneLeaves (map is_none cells) ps → (place : ℕ)
    → is_chosen_place ps place ≡ true → is_some (slice_index_or (occupants_of cells) place None) ≡ false
settled-none cells ps none place chosen = some-vacant cells place ∙ ap not (none place chosen)

pub none-settled : (cells : List (Option Tabled)) (ps : List Use)
    → ((place : ℕ) → is_chosen_place ps place ≡ true → is_some (slice_index_or (occupants_of cells) place None) ≡ false)
    → NoneLeaves (map is_none cells) ps
none-settled cells ps settled place chosen =
    is_vacant_then (is_vacant (map is_none cells) place) (sym (some-vacant cells place) ∙ settled place chosen)
  where
    is_vacant_then : (b : Bool) → not b ≡ false → b ≡ true
    is_vacant_then true is = refl
    is_vacant_then false is = absurd (true≢false is)

-- what lies in a cell then stays
pub stays_then : (cells : List (Option Tabled)) (ps : List Use) → NoneLeaves (map is_none cells) ps → (p : ℕ)
    → is_none (cell_at cells p) ≡ false → is_chosen_place ps p ≡ false
stays_then cells ps none p some = stays (is_chosen_place ps p) refl
  where
    stays : (b : Bool) → is_chosen_place ps p ≡ b → is_chosen_place ps p ≡ false
    stays false is = is
    stays true is = absurd (true≢false (sym (none p is) ∙ vacant-cell cells p ∙ some))

-- nor is it once a cell holds something else
pub none_changed : (cells : List (Option Tabled)) (ps : List Use) (p : ℕ) (c : Option Tabled)
    → is_none c ≡ is_none (cell_at cells p) → NoneLeaves (map is_none cells) ps
    → NoneLeaves (map is_none (set cells p c)) ps
none_changed cells ps p c same none =
    subst (λ bs. NoneLeaves bs ps) (sym (map-set_same is_none cells p c None same)) none

-- nor once a cell of an open page is written
pub none_set : (cells : List (Option Tabled)) (ps : List Use) (p : ℕ) (c : Option Tabled) (is_free : Bool)
    → is_chosen_place ps p ≡ false → NoneLeaves (map is_none cells) ps
    → NoneLeaves (map is_none (set cells p c)) (with_place ps p is_free)
none_set cells ps p c is_free stays none other chosen =
    let was = sym (chosen_place-with ps (page_at ps p) (p % 64) is_free other) ∙ chosen in
    let apart : other ≡ p → ⊥ = λ same. true≢false (sym was ∙ ap (is_chosen_place ps) same ∙ stays) in
    ap (λ bs. is_vacant bs other) (map-set is_none cells p c)
    ∙ vacant-other (map is_none cells) p other (is_none c) apart ∙ none other was

-- a new object's place: a free cell, which the pages have as taken once it holds the object
pub record IsTaken (cells : List (Option Tabled)) (fs : List ℕ) (ps qs : List Use) (p : ℕ) : Type 0 where
  pub within : p < length cells
  pub none : cell_at cells p ≡ None
  pub stays : is_chosen_place ps p ≡ false
  pub free : (c : Option Tabled) → is_none c ≡ false → AreFree (map is_none (set cells p c)) fs qs
  pub settled : (c : Option Tabled) → NoneLeaves (map is_none cells) ps → NoneLeaves (map is_none (set cells p c)) qs
  pub more : taken_of (opened qs) ≡ suc (taken_of (opened ps))
  pub pages : length (opened qs) ≡ length (opened ps)
  pub size : length qs ≡ length ps
  pub packed : (c : ℕ) → Packed c (opened ps) → taken_of (opened ps) < 64 * c → Packed c (opened qs)

-- the place of an object that goes
pub record IsGiven (cells : List (Option Tabled)) (fs : List ℕ) (ps qs : List Use) (p : ℕ) : Type 0 where
  pub free : AreFree (map is_none (set cells p None)) fs qs
  pub settled : NoneLeaves (map is_none (set cells p None)) qs
  pub fewer : taken_of (opened ps) ≡ suc (taken_of (opened qs))
  pub pages : length (opened qs) ≡ length (opened ps)
  pub size : length qs ≡ length ps
  pub packed : (c : ℕ) → Packed c (opened ps) → Packed c (opened qs)

module _ (cells : List (Option Tabled)) {fs : List ℕ} {ps : List Use} (free : AreFree (map is_none cells) fs ps) where
  -- the pages have as many cells
  pub length-free : length cells ≡ 64 * length ps
  length-free = sym (length-map cells is_none) ∙ free.sized

  -- a change of what a cell holds leaves which are free
  pub AreFree-changed : (p : ℕ) (c : Option Tabled) → is_none c ≡ is_none (cell_at cells p)
      → AreFree (map is_none (set cells p c)) fs ps
  AreFree-changed p c same = subst (λ bs. AreFree bs fs ps) (sym (map-set_same is_none cells p c None same)) free

  pub taken_next : (at : ℕ × ℕ) → next_cell ps ≡ Some at → is_some (next_place ps) ≡ true
      → IsTaken cells fs ps (placing ps) (place_in_frame at)
  taken_next at next there =
      let is : IsNext ps (place_in_frame at) = next_is ps free.framed free.whole at next in
      let within : place_in_frame at < length cells = omega (arith, length-free, is.within) in
      let inside : place_in_frame at < length (map is_none cells) =
      omega (arith, within, length-map cells is_none) in
      record {
        within = within;
        none = holds_nothing (cell_at cells (place_in_frame at))
            (sym (vacant-cell cells (place_in_frame at)) ∙ free.free (place_in_frame at) is.stays is.is_free);
        stays = is.stays;
        free = λ c some.
            subst (λ qs. AreFree (map is_none (set cells (place_in_frame at) c)) fs qs) (sym is.placed)
            (subst (λ bs. AreFree bs fs (with_place ps (place_in_frame at) false))
            (ap (set (map is_none cells) (place_in_frame at)) (sym some)
            ∙ sym (map-set is_none cells (place_in_frame at) c))
            (free_pushed free (place_in_frame at) inside is.stays is.is_free));
        settled = λ c none.
            subst (NoneLeaves (map is_none (set cells (place_in_frame at) c))) (sym is.placed)
            (none_set cells ps (place_in_frame at) c false is.stays none);
        more = open_taken ps there;
        pages = opened_pages ps;
        size = (keeps_placing ps).size;
        packed = λ c packed few. packed_placing c ps free.whole packed few;
      }

  pub given_back : NoneLeaves (map is_none cells) ps → (p : ℕ) → is_chosen_place ps p ≡ false
      → is_none (cell_at cells p) ≡ false → p < length cells → IsGiven cells fs ps (with_place ps p true) p
  given_back none p stays own within = record {
    free = subst (λ bs. AreFree bs fs (with_place ps p true)) (sym (map-set is_none cells p None))
        (free_given free none p stays (vacant-cell cells p ∙ own));
    settled = none_set cells ps p None true stays none;
    fewer = open_given ps (page_at ps p) (p % 64) free.whole
        (framed_there ps free.framed (p / 64) (omega (arith, within, length-free))) (omega arith) stays (is_taken
        (is_free_place ps p) refl);
    pages = opened_with ps (page_at ps p) (p % 64) true;
    size = length-with ps (page_at ps p) (p % 64) true;
    packed = λ c. packed_giving c ps (page_at ps p) (p % 64);
  }
    where
      is_taken : (is_free : Bool) → is_free_place ps p ≡ is_free → is_free_place ps p ≡ false
      is_taken false is = is
      is_taken true is = absurd (true≢false (sym (free.free p stays is) ∙ vacant-cell cells p ∙ own))

pub none_chosen_fresh : (first frame count page : ℕ) → (use_at (fresh_pages first frame count) page).chosen ≡ false
none_chosen_fresh first frame zero page = refl
none_chosen_fresh first frame (suc count) zero = refl
none_chosen_fresh first frame (suc count) (suc page) = none_chosen_fresh (suc first) (suc frame) count page

pub none_leaves : (bs : List Bool) (first count : ℕ) → NoneLeaves bs (fresh_pages first 0 count)
none_leaves bs first count place chosen =
    absurd (true≢false (sym chosen
    ∙ none_chosen_fresh first 0 count (page_at (fresh_pages first 0 count) place)))

all_vacant : (n p : ℕ) → is_vacant (replicate n true) p ≡ true
all_vacant zero p = refl
all_vacant (suc n) zero = refl
all_vacant (suc n) (suc p) = all_vacant n p

map-nothing : (n : ℕ) → map is_none (let nothing : Option Tabled = None in replicate n nothing) ≡ replicate n true
map-nothing zero = refl
map-nothing (suc n) = ap (λ bs. true ∷ bs) (map-nothing n)

fresh_free : (first frame count page cell : ℕ) → page < count → cell < 64
    → is_free_at (fresh_pages first frame count) page cell ≡ true
unfolding all_free
fresh_free first frame zero page cell within small = absurd (omega arith)
fresh_free first frame (suc count) zero cell within small = get_or-replicate 64 cell true false small
fresh_free first frame (suc count) (suc page) cell within small =
    fresh_free (suc first) (suc frame) count page cell (omega arith) small

pub AreFree-fresh : (first count : ℕ)
    → AreFree (map is_none (let nothing : Option Tabled = None in replicate (64 * count) nothing))
    (replicate (64 * count) 0) (fresh_pages first 0 count)
AreFree-fresh first count =
    subst (λ bs. AreFree bs (replicate (64 * count) 0) (fresh_pages first 0 count)) (sym (map-nothing (64 * count)))
    (record {
      whole = fresh_whole first 0 count;
      framed = fresh_framed first count;
      sized = length-replicate (64 * count) true ∙ ap (λ n. 64 * n) (sym (length-fresh first 0 count));
      forwarded = length-replicate (64 * count) 0 ∙ sym (length-replicate (64 * count) true);
      free = λ place stays is_free. all_vacant (64 * count) place;
      taken = λ place within stays taken.
          absurd (true≢false (sym (free_there place within) ∙ taken));
      left = λ place within chosen.
          absurd (true≢false (sym chosen
          ∙ none_chosen_fresh first 0 count (page_at (fresh_pages first 0 count) place)));
      target = λ place leaves. absurd (none place leaves);
      apart = λ one other one_leaves other_leaves same. absurd (none one one_leaves);
    })
  where
    none : (place : ℕ) → Leaves (replicate (64 * count) true) (fresh_pages first 0 count) place → ⊥
    none place leaves =
        true≢false (sym leaves.0
        ∙ none_chosen_fresh first 0 count (page_at (fresh_pages first 0 count) place))

    free_there : (place : ℕ) → place < length (replicate (64 * count) true)
        → is_free_place (fresh_pages first 0 count) place ≡ true
    free_there place within =
        fresh_free first 0 count (page_at (fresh_pages first 0 count) place) (place % 64)
        (let inside = page_within (fresh_pages first 0 count) (fresh_framed first count)
        (fresh_whole first 0 count) place
        (omega (arith, within, length-replicate (64 * count) true, length-fresh first 0 count)) in
        omega (arith, inside, length-fresh first 0 count))
        (omega arith)
