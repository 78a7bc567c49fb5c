-- What the cells and the index say together of the objects that a contract sees.
use Rattle.ref_space.proofs.Common.{◌≡◌, ℕ, ◌<◌, true, false, ◌==◌, if◌then◌else◌, nat_lt, refl, List, [], ◌∷◌, ◌++◌}
use Rattle.ref_space.proofs.Common.{length, get_or, set, Option, Some, None, inl, inr, arith, cases_Bool, eqb-true}
use Rattle.ref_space.proofs.Common.{false≢true, get_or-set_same, get_or-set_other, get_or_read, filter, cell_at}
use Rattle.ref_space.proofs.Common.{is_of, is_live}
use Rattle.ref_space.proofs.Common.{before, tabled_by, place_in, place_if_live, count_below, Rises, Tabled, tabled_at}
use Rattle.ref_space.proofs.Common.{changed_tabled, without_tabled, Entry, AreIndexed, at_place}
use Rattle.ref_space.proofs.Common.{cell_of_word, place_if_taken, target_by, occupant_in, occupant_at, occupants_of}
use Rattle.ref_space.proofs.Common.{tabled_if, place_by, is_some, ap, sym, ◌∙◌, eq-eqb}
use Rattle.std.proofs.Math.ListN.{get_or-map}
use Rattle.std.proofs.lemmas.List.{get_or_past}
use Rattle.ref_space.proofs.IndexLemmas.{place_in-none, place_in-at, place_in-past}
use Rattle.ref_space.specs.Places.{moved_place}
use Rattle.ref_space.specs.Naming.{way_of}
use Rattle.ref_space.specs.Moves.{Ways, forward_of}
use Rattle.ref_space.specs.Naming.{taken_way, way_from}

-- ---- one cell

-- a cell that is of a number holds an object of that number
pub is_of-some : (c : Option Tabled) (n : ℕ) → is_of c n ≡ true → (k : Tabled) × (c ≡ Some k) × (k.object.no ≡ n)
is_of-some None n own = absurd (false≢true own)
is_of-some (Some k) n own = (k, refl, eqb-true k.object.no n own)

before-append : (c : Option Tabled) (n : ℕ) (ks ls : List Tabled) → before c n ks ++ ls ≡ before c n (ks ++ ls)
before-append None n ks ls = refl
before-append (Some k) n ks ls =
    elim (cases_Bool (k.object.no == n)) [ inl own ↦ simp own refl | inr other ↦ simp other refl ]

-- ---- a look-up

-- the object of a number is what the cell at its place holds
pub tabled_at-place : (cells : List (Option Tabled)) (es : List Entry) (n : ℕ) → Rises es
    → tabled_at (tabled_by cells es) n ≡ at_place cells (place_if_live cells (place_in es n) n)
tabled_at-place cells [] n rises = refl
tabled_at-place cells (e ∷ es) n rises = grind (arith, place_in-none, tabled_at-place cells es n rises.1)

-- ---- gaps

-- without its gaps the index leads to the same objects
pub tabled_by-filter : (cells : List (Option Tabled)) (es : List Entry)
    → tabled_by cells (filter (is_live cells) es) ≡ tabled_by cells es
tabled_by-filter cells [] = refl
tabled_by-filter cells (e ∷ es) = grind (arith, tabled_by-filter cells es)

-- and has as many entries as there are objects
pub length-filter_live : (cells : List (Option Tabled)) (es : List Entry)
    → length (filter (is_live cells) es) ≡ length (tabled_by cells es)
length-filter_live cells [] = refl
length-filter_live cells (e ∷ es) = grind (arith, length-filter_live cells es)

-- ---- a write to a cell

-- the index has no place for what the cell holds
abbrev pub IsAbsent : List Entry → Option Tabled → Type 0
IsAbsent es None = Unit {0}
IsAbsent es (Some k) = place_in es k.object.no ≡ None

-- a cell that holds nothing that the index has, before and after, doesn't count
pub tabled_by-set : (cells : List (Option Tabled)) (es : List Entry) (p : ℕ) (c : Option Tabled) → p < length cells
    → IsAbsent es (cell_at cells p) → IsAbsent es c → tabled_by (set cells p c) es ≡ tabled_by cells es
tabled_by-set cells [] p c within absent new = refl
tabled_by-set cells (e ∷ es) p c within absent new =
    grind (arith, get_or-set_same, get_or-set_other, tabled_by-set cells es p c within)

-- the object of number n, gone or in another form
abbrev pub replaced : List Tabled → ℕ → Option Tabled → List Tabled
replaced [] n c = []
replaced (k ∷ ks) n c = if k.object.no == n then before c n ks else k ∷ replaced ks n c

-- the cell is free, or holds the object of number n
abbrev pub IsOwn : ℕ → Option Tabled → Type 0
IsOwn n None = Unit {0}
IsOwn n (Some k) = k.object.no ≡ n

-- a write to the cell of number n is a change of that object alone
pub tabled_by-replaced : (cells : List (Option Tabled)) (es : List Entry) (n p : ℕ) (c : Option Tabled) → Rises es
    → place_in es n ≡ Some p → p < length cells → is_of (cell_at cells p) n ≡ true → IsOwn n c
    → tabled_by (set cells p c) es ≡ replaced (tabled_by cells es) n c
tabled_by-replaced cells [] n p c rises at within own new = absurd (cc)
tabled_by-replaced cells (e ∷ es) n p c rises at within own new =
    grind (
      arith,
      place_in-none,
      tabled_by-set,
      get_or-set_same,
      get_or-set_other,
      tabled_by-replaced cells es n p c rises.1,
    )

pub replaced-none : (ks : List Tabled) (n : ℕ) → replaced ks n None ≡ without_tabled ks n
replaced-none [] n = refl
replaced-none (k ∷ ks) n = search (replaced-none ks n)

pub replaced-changed : (ks : List Tabled) (n : ℕ) (f : Tabled → Tabled) (k : Tabled) → tabled_at ks n ≡ Some k
    → (f k).object.no ≡ n → replaced ks n (Some (f k)) ≡ changed_tabled ks n f
replaced-changed [] n f k at own = refl
replaced-changed (l ∷ ls) n f k at own = grind (arith, replaced-changed ls n f k)

-- ---- one more entry

-- the object of a new entry comes last
pub tabled_by-push : (cells : List (Option Tabled)) (es : List Entry) (e : Entry)
    → tabled_by cells (es ++ e ∷ []) ≡ tabled_by cells es ++ before (cell_at cells e.place) e.no []
tabled_by-push cells [] e = refl
tabled_by-push cells (x ∷ xs) e = search (before-append, tabled_by-push cells xs e)

-- ---- the place that a binary search finds

-- a place whose cell is of some number is a place
pub live_within : (cells : List (Option Tabled)) (p n : ℕ) → is_of (cell_at cells p) n ≡ true → p < length cells
live_within cells p n own = grind (arith, get_or_past)

-- the index has place p for number n, and the cell there is of that number
pub record IsPlaceOf (cells : List (Option Tabled)) (es : List Entry) (n p : ℕ) : Type 0 where
  pub listed : place_in es n ≡ Some p
  pub own : is_of (cell_at cells p) n ≡ true
  pub within : p < length cells

-- what a cell holds that is of a number has its place there
pub lies_there : {cells : List (Option Tabled)} {es : List Entry} → AreIndexed cells es → (n p : ℕ)
    (c : Option Tabled) → cell_at cells p ≡ c → occupant_in c ≡ Some n → IsPlaceOf cells es n p
lies_there listed n p None is named = absurd (cc)
lies_there {cells} {es} listed n p (Some k) is named =
    let same : k.object.no ≡ n = cc in
    let own : is_of (cell_at cells p) n ≡ true = rw is (eq-eqb k.object.no n same) in
    record { listed = ap (place_in es) (sym same) ∙ listed p k is; own = own; within = live_within cells p n own }

pub near_place : (cells : List (Option Tabled)) (es : List Entry) → AreIndexed cells es → (n p : ℕ)
    (c : Option Tabled) → true ≡ nat_lt p (length cells) → c ≡ get_or cells p c → is_of c n ≡ true
    → Some p ≡ place_if_live cells (place_in es n) n
near_place cells es listed n p c within reads own =
    let k = is_of-some c n own in
    let at : cell_at cells p ≡ c = grind (arith, get_or_read) in
    let place = lies_there listed n p c at (ap occupant_in k.1 ∙ ap Some k.2) in
    sym (rw place.listed (simp place.own refl))

IsPlaceOf-place : (cells : List (Option Tabled)) (es : List Entry) (n p : ℕ) (listed : Option ℕ)
    → place_in es n ≡ listed
    → Some p ≡ place_if_live cells listed n → IsPlaceOf cells es n p
IsPlaceOf-place cells es n p None is found = absurd (cc)
IsPlaceOf-place cells es n p (Some q) is found = grind (arith, live_within)

-- what `place_of` finds in the slices that it is lent
pub IsPlaceOf-lent : {cells borrowed : List (Option Tabled)} {es lent : List Entry} {p : ℕ} (n : ℕ) → borrowed ≡ cells
    → lent ≡ es → Some p ≡ place_if_live borrowed (place_in lent n) n → IsPlaceOf cells es n p
IsPlaceOf-lent {cells} {borrowed} {es} {lent} {p} n same_cells same_index found = grind (arith, IsPlaceOf-place)

-- it is the place that the cells and the index give
pub IsPlaceOf-live : {cells : List (Option Tabled)} {es : List Entry} {n p : ℕ} → IsPlaceOf cells es n p
    → place_if_live cells (place_in es n) n ≡ Some p
IsPlaceOf-live {cells} {es} {n} {p} place = cc

-- the cells and the index give no place for number n
pub record IsMissing (cells : List (Option Tabled)) (es : List Entry) (n : ℕ) : Type 0 where
  pub none : place_if_live cells (place_in es n) n ≡ None

pub IsMissing-lent : {cells borrowed : List (Option Tabled)} {es lent : List Entry} (n : ℕ) → borrowed ≡ cells
    → lent ≡ es → None ≡ place_if_live borrowed (place_in lent n) n → IsMissing cells es n
IsMissing-lent {cells} {borrowed} {es} {lent} n same_cells same_index found = search

module _ (cells : List (Option Tabled)) (es : List Entry) (n i : ℕ) (rises : Rises es)
    (count : i ≡ count_below es n) where
  place_at : (e : Entry) → true ≡ nat_lt i (length es) → e ≡ get_or es i e
      → place_in es n ≡ (if e.no == n then Some e.place else None)
  place_at e within at = grind (arith, place_in-at)

  pub place_found : (e : Entry) → true ≡ nat_lt i (length es) → e ≡ get_or es i e → (e.no == n) ≡ true
      → is_live cells e ≡ true → Some e.place ≡ place_if_live cells (place_in es n) n
  place_found e within at same live = grind (arith, place_at e within)

  pub place_gap : (e : Entry) → true ≡ nat_lt i (length es) → e ≡ get_or es i e → (e.no == n) ≡ true
      → is_live cells e ≡ false → None ≡ place_if_live cells (place_in es n) n
  place_gap e within at same gap = grind (arith, place_at e within)

  pub place_other : (e : Entry) → true ≡ nat_lt i (length es) → e ≡ get_or es i e → (e.no == n) ≡ false
      → None ≡ place_if_live cells (place_in es n) n
  place_other e within at other = grind (arith, place_at e within)

  pub place_past : false ≡ nat_lt i (length es) → None ≡ place_if_live cells (place_in es n) n
  place_past past = grind (arith, place_in-past)

-- ---- the place of a word

-- a word's name is the number of the object in its cell
named-at : (cells : List (Option Tabled)) (place : Option ℕ)
    → occupant_at (occupants_of cells) place ≡ occupant_in (at_place cells place)
named-at cells None = refl
named-at cells (Some p) = get_or-map occupant_in cells p None

some-occupant : (c : Option Tabled) → is_some (occupant_in c) ≡ is_some c
some-occupant None = refl
some-occupant (Some k) = refl

-- the cells tell where what a place leads to lies, as the numbers of their objects do
pub moved-way : (ways : Ways) (cells : List (Option Tabled)) (place : Option ℕ)
    → way_of ways (occupants_of cells) place ≡ moved_place cells ways.forwards place
moved-way ways cells None = refl
moved-way ways cells (Some p) =
    ap (λ b. Some (if b then p else forward_of ways.forwards p))
    (ap is_some (get_or-map occupant_in cells p None) ∙ some-occupant (cell_at cells p))

pub taken-way : (ways : Ways) (cells : List (Option Tabled)) (place : Option ℕ)
    → taken_way ways (occupants_of cells) place ≡ place_if_taken cells (moved_place cells ways.forwards place)
taken-way ways cells None = refl
taken-way ways cells (Some p) =
    ap (λ b. if b then Some (way_from ways (occupants_of cells) p) else None)
    (ap is_some (get_or-map occupant_in cells (way_from ways (occupants_of cells) p) None)
    ∙ some-occupant (cell_at cells (way_from ways (occupants_of cells) p)))
    ∙ ap (place_if_taken cells) (moved-way ways cells (Some p))

pub named-cell : (ways : Ways) (cells : List (Option Tabled)) (v : Option ℕ)
    → target_by ways (occupants_of cells) v ≡ occupant_in (cell_of_word cells ways.forwards v)
named-cell ways cells v =
    ap (occupant_at (occupants_of cells)) (moved-way ways cells (place_by v))
    ∙ named-at cells (moved_place cells ways.forwards (place_by v))

-- a word leads to the object that its cell holds
pub record LeadsTo (cells : List (Option Tabled)) (es : List Entry) (place : Option ℕ) (p : ℕ) : Type 0 where
  pub k : Tabled
  pub named : occupant_in (at_place cells place) ≡ Some k.object.no
  pub own : IsPlaceOf cells es k.object.no p

module _ (cells : List (Option Tabled)) (es : List Entry) (listed : AreIndexed cells es) where
  -- and the object of that number is what the cell holds
  listed_tabled : Rises es → (p : ℕ) (c : Option Tabled) → cell_at cells p ≡ c
      → tabled_if (tabled_by cells es) (occupant_in c) ≡ c
  listed_tabled rises p None is = refl
  listed_tabled rises p (Some k) is =
      let own : (k.object.no == k.object.no) ≡ true = eq-eqb k.object.no k.object.no refl in
      tabled_at-place cells es k.object.no rises ∙ rw (listed p k is, is, own) is

  pub led_tabled : Rises es → (place : Option ℕ)
      → tabled_if (tabled_by cells es) (occupant_in (at_place cells place)) ≡ at_place cells place
  led_tabled rises None = refl
  led_tabled rises (Some p) = listed_tabled rises p (cell_at cells p) refl

  led_at : (q : ℕ) (c : Option Tabled) → cell_at cells q ≡ c → {p : ℕ}
      → Some p ≡ (if is_some c then Some q else None) → LeadsTo cells es (Some q) p
  led_at q None is found = absurd (cc)
  led_at q (Some k) is {p} found =
      let own : (k.object.no == k.object.no) ≡ true = eq-eqb k.object.no k.object.no refl in
      let same : p ≡ q = cc in
      let of : is_of (cell_at cells p) k.object.no ≡ true = rw (same, is) own in
      record {
        k = k;
        named = ap occupant_in is;
        own = record {
          listed = listed q k is ∙ ap Some (sym same);
          own = of;
          within = live_within cells p k.object.no of;
        };
      }

  pub leads_to : (place : Option ℕ) {p : ℕ} → Some p ≡ place_if_taken cells place → LeadsTo cells es place p
  leads_to None found = absurd (cc)
  leads_to (Some q) found = led_at q (cell_at cells q) refl found

-- or to none
nowhere : (c : Option Tabled) (q : ℕ) → None ≡ (if is_some c then Some q else None) → c ≡ None
nowhere None q found = refl
nowhere (Some k) q found = absurd (cc)

pub leads_nowhere : (cells : List (Option Tabled)) (place : Option ℕ) → None ≡ place_if_taken cells place
    → at_place cells place ≡ None
leads_nowhere cells None found = refl
leads_nowhere cells (Some q) found = nowhere (cell_at cells q) q found
