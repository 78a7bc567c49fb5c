-- The next place is that of the first free cell; and which cells are free once one was taken or given back.
use Rattle.std.proofs.Common.{◌≡◌, ℕ, zero, suc, ◌<◌, Bool, true, false, not, ◌&&◌, refl, ap, arith}
use Rattle.std.proofs.Common.{List, [], ◌∷◌, length, get_or, Option, Some, None}
use Rattle.std.proofs.lemmas.Bool.{true≢false, false≢true}
use Rattle.std.proofs.lemmas.List.{get_or-set_same, get_or-set_other}
use Rattle.std.specs.Option.{option_map}
use Rattle.ref_space.specs.Bits.{first_set, any_set}
use Rattle.ref_space.specs.Pages.{Use, use_at, is_free_at, is_open_at, with_cell, with_free, has_open_cell, page_later}
use Rattle.ref_space.specs.Pages.{next_place}
use Rattle.ref_space.specs.Pages.{AreWhole, IsFirstFree, IsNextPlace}

-- ---- one page

-- the lowest that is set
pub record IsFirst (bs : List Bool) : Type 0 where
  pub i : ℕ
  pub first : first_set bs ≡ Some i
  pub is_set : get_or bs i false ≡ true
  pub below : (j : ℕ) → j < i → get_or bs j false ≡ false

pub first_of : (bs : List Bool) → any_set bs ≡ true → IsFirst bs
first_of [] any = absurd (false≢true any)
first_of (true ∷ bs) any = record { i = 0; first = refl; is_set = refl; below = λ j less. absurd (omega arith) }
first_of (false ∷ bs) any =
    let rest = first_of bs any in
    record {
      i = suc rest.i;
      first = ap (option_map suc) rest.first;
      is_set = rest.is_set;
      below = in_tail bs rest.i rest.below;
    }
  where
    in_tail : (bs : List Bool) (i : ℕ) → ((j : ℕ) → j < i → get_or bs j false ≡ false) → (j : ℕ) → j < suc i
        → get_or (false ∷ bs) j false ≡ false
    in_tail bs i below zero less = refl
    in_tail bs i below (suc j) less = below j (omega arith)

none_set : (bs : List Bool) (i : ℕ) → any_set bs ≡ false → get_or bs i false ≡ false
none_set [] i none = refl
none_set (true ∷ bs) i none = absurd (true≢false none)
none_set (false ∷ bs) zero none = refl
none_set (false ∷ bs) (suc i) none = none_set bs i none

-- a page without room has no free cell where it is open
none_open : (p : Use) (own : ℕ) → has_open_cell p ≡ false → (not p.chosen && get_or p.free own false) ≡ false
none_open p own none = grind (arith, none_set)

-- ---- all pages

is_first_free-later : (p : Use) (ps : List Use) (page cell : ℕ) → has_open_cell p ≡ false → IsFirstFree ps page cell
    → IsFirstFree (p ∷ ps) (suc page) cell
is_first_free-later p ps page cell none next = record {
  is_free = next.is_free;
  in_front = in_front;
  below = next.below;
}
  where
    in_front : (other own : ℕ) → other < suc page → is_open_at (p ∷ ps) other own ≡ false
    in_front zero own less = none_open p own none
    in_front (suc other) own less = next.in_front other own (omega arith)

next-later : (p : Use) (ps : List Use) (at : Option (ℕ × ℕ)) → has_open_cell p ≡ false → IsNextPlace ps at
    → IsNextPlace (p ∷ ps) (page_later at)
next-later p ps None none next = (none, next)
next-later p ps (Some at) none next = is_first_free-later p ps at.0 at.1 none next

pub is_next_place : (ps : List Use) → IsNextPlace ps (next_place ps)
is_next_place [] = tt
is_next_place (p ∷ ps) = grind (arith, next-later, is_next_place ps, first_of p.free)

-- ---- a cell that was taken or given back

pub is_free-with_same : (ps : List Use) (page cell : ℕ) (is_free : Bool) → AreWhole ps → page < length ps → cell < 64
    → is_free_at (with_cell ps page cell is_free) page cell ≡ is_free
is_free-with_same [] page cell is_free whole within small = absurd (omega arith)
is_free-with_same (p ∷ ps) zero cell is_free whole within small =
    let size = whole.0 in get_or-set_same p.free cell is_free false (omega (arith, size, small))
is_free-with_same (p ∷ ps) (suc page) cell is_free whole within small =
    is_free-with_same ps page cell is_free whole.1 (omega arith) small

pub is_free-with_other : (ps : List Use) (page cell : ℕ) (is_free : Bool) (other own : ℕ)
    → (other ≡ page → own ≡ cell → ⊥) → is_free_at (with_cell ps page cell is_free) other own ≡ is_free_at ps other own
is_free-with_other [] page cell is_free other own differs = refl
is_free-with_other (p ∷ ps) zero cell is_free zero own differs =
    get_or-set_other p.free cell own is_free false (differs refl)
is_free-with_other (p ∷ ps) zero cell is_free (suc other) own differs = refl
is_free-with_other (p ∷ ps) (suc page) cell is_free zero own differs = refl
is_free-with_other (p ∷ ps) (suc page) cell is_free (suc other) own differs =
    is_free-with_other ps page cell is_free other own (λ same. differs (ap suc same))

pub length-with : (ps : List Use) (page cell : ℕ) (is_free : Bool) → length (with_cell ps page cell is_free) ≡ length ps
length-with [] page cell is_free = refl
length-with (p ∷ ps) zero cell is_free = refl
length-with (p ∷ ps) (suc page) cell is_free = ap suc (length-with ps page cell is_free)

-- all else of each page stays
pub use-with : {X : Type 0} (read : Use → X)
    → ((cell : ℕ) (is_free : Bool) (p : Use) → read (with_free cell is_free p) ≡ read p)
    → (ps : List Use) (page cell : ℕ) (is_free : Bool) (other : ℕ)
    → read (use_at (with_cell ps page cell is_free) other) ≡ read (use_at ps other)
use-with read keeps [] page cell is_free other = refl
use-with read keeps (p ∷ ps) zero cell is_free zero = keeps cell is_free p
use-with read keeps (p ∷ ps) zero cell is_free (suc other) = refl
use-with read keeps (p ∷ ps) (suc page) cell is_free zero = refl
use-with read keeps (p ∷ ps) (suc page) cell is_free (suc other) = use-with read keeps ps page cell is_free other

pub address-with : (ps : List Use) (page cell : ℕ) (is_free : Bool) (other : ℕ)
    → (use_at (with_cell ps page cell is_free) other).address ≡ (use_at ps other).address
address-with = use-with (λ p. p.address) (λ cell is_free p. refl)

pub frame-with : (ps : List Use) (page cell : ℕ) (is_free : Bool) (other : ℕ)
    → (use_at (with_cell ps page cell is_free) other).frame ≡ (use_at ps other).frame
frame-with = use-with (λ p. p.frame) (λ cell is_free p. refl)
