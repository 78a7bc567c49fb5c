-- Where a number stands in a list, and how table and map tell it before one more comes and after.
use Rattle.std.proofs.Common.{◌≡◌, ℕ, ◌+◌, ◌<◌, ◌≤◌, true, false, nat_eq, nat_lt, refl, sym, ap, ◌∙◌, arith, cond}
use Rattle.std.proofs.Common.{inl, inr}
use Rattle.std.proofs.Common.{nat_le, ◌&&◌, ◌==◌, Bool, if◌then◌else◌, filter, take, min, List, [], ◌∷◌, ◌++◌, length}
use Rattle.std.proofs.Common.{not, Some, is_some, get_or, set, position}
use Rattle.std.proofs.lemmas.Bool.{cases_Bool, eqb-true, eqb-false}
use Rattle.std.proofs.lemmas.List.{get_or-set_same, get_or-set_other, length-append, append-nil, get_or-take}
use Rattle.std.proofs.lemmas.List.{length-take, get_or_past}
use Rattle.std.proofs.lemmas.List.Folds.{position_or_len_push}
use Rattle.std.proofs.lemmas.List.Sums.{prefix_len-le-length}
use Rattle.std.proofs.lemmas.List.Elements.{filter_more}
use Rattle.std.proofs.lemmas.Map.Keys.{IsDistinct-IsPermutation, IsDistinct-push, IsStrictlyIncreasing-from_distinct}
use Rattle.std.proofs.lemmas.List.Sorted.{IsNonDecreasingBy-from_sort, list_any-IsPermutation}
use Rattle.std.specs.Cmp.{nat_eq_equiv}
use Rattle.std.specs.List.{AllByRecursion, IsDistinct, position_or_len}
use Rattle.std.specs.List.Sorted.{IsPermutation, IsSorted}
use Rattle.std.specs.Ordering.{nat_cmp}
use Rattle.std.specs.Map.{lookup}
use Rattle.ref_base.specs.Members.{has}
use Rattle.ref_base.proofs.HasLaws.{has-append, has-first, has-list_any, has-right}
use Rattle.ref_base.proofs.RisingLists.{rising-cons, rising_from_increasing}
use Rattle.ref_base.specs.Strengths.{IsRising}
use Rattle.ref_graph.specs.NumberPlaces.{first_far, place_before, told_place, TellsPlaces}

-- the first place of a number is among all places just where it stands in the list
first_within : (ns : List ℕ) (n : ℕ) → nat_lt (position_or_len (nat_eq n) ns) (length ns) ≡ has ns n
first_within [] n = refl
first_within (m ∷ ns) n = grind (arith, first_within ns n)

-- it has a place where it is in the list
pub is_some-position : (ns : List ℕ) (n : ℕ) → is_some (position (nat_eq n) ns) ≡ has ns n
is_some-position ns n = grind (arith, first_within ns n)

-- one more number, put last, stands there where it wasn't in the list, and all others stand where they did
pub position-push : (ns : List ℕ) (n m : ℕ) → has ns n ≡ false
    → position (nat_eq m) (ns ++ n ∷ []) ≡ cond (nat_eq n m) (Some (length ns)) (position (nat_eq m) ns)
position-push ns n m is_new =
    grind (
      arith,
      first_within ns m,
      position_or_len_push (nat_eq m) ns n,
      prefix_len-le-length (λ k. not (nat_eq m k)) ns,
      length-append,
    )

module _ {near : List ℕ} {far : List (ℕ × ℕ)} {ns : List ℕ} (tells : TellsPlaces near far ns) (n : ℕ)
    (is_new : has ns n ≡ false) where
  -- table and map tell of one number more that stands last, and of the others what they did
  tells_push : (near_new : List ℕ) (far_new : List (ℕ × ℕ))
      → ((m : ℕ) → told_place near_new far_new m ≡ cond (nat_eq n m) (Some (length ns)) (told_place near far m))
      → TellsPlaces near_new far_new (ns ++ n ∷ [])
  tells_push near_new far_new updated = record {
    told = λ m. updated m ∙ ap (cond (nat_eq n m) (Some (length ns))) (tells.told m)
        ∙ sym (position-push ns n m is_new);
    distinct = IsDistinct-push nat_eq_equiv ns n tells.distinct (sym (has-list_any ns n) ∙ is_new);
  }

  -- a near number comes, whose entry is written in a table that tells what that one told
  pub tells_near : (longer : List ℕ) → ((m : ℕ) → get_or longer m 0 ≡ get_or near m 0) → n < first_far
      → n < length longer → TellsPlaces (set longer n (length ns + 1)) far (ns ++ n ∷ [])
  tells_near longer same is_near within = tells_push (set longer n (length ns + 1)) far updated
    where
      updated : (m : ℕ) → told_place (set longer n (length ns + 1)) far m
          ≡ cond (nat_eq n m) (Some (length ns)) (told_place near far m)
      updated m = elim (cases_Bool (nat_eq n m)) [
        | inl is ↦
            let own : n ≡ m = eqb-true n m is in
            grind (arith, get_or-set_same longer n (length ns + 1) 0 within)
        | inr other ↦
            let apart = eqb-false n m other in
            grind (arith, get_or-set_other longer n m (length ns + 1) 0 (λ same_no. apart (sym same_no)), same m)
      ]

  -- a far number comes
  pub tells_far : (far_new : List (ℕ × ℕ)) → first_far ≤ n
      → ((m : ℕ) → lookup (nat_eq m) far_new ≡ cond (nat_eq n m) (Some (length ns)) (lookup (nat_eq m) far))
      → TellsPlaces near far_new (ns ++ n ∷ [])
  tells_far far_new is_far updated = tells_push near far_new (λ m. grind (arith, updated m))

-- ---- the numbers by size

rising-push : (ns : List ℕ) (n : ℕ) → ((m : ℕ) → has ns m ≡ true → m < n) → IsRising ns → IsRising (ns ++ n ∷ [])
rising-push [] n below rising = tt
rising-push (k ∷ []) n below rising = (below k (has-first k []), tt)
rising-push (k ∷ l ∷ ns) n below rising =
    (rising.0, rising-push (l ∷ ns) n (λ m h. below m (has-right (k ∷ []) (l ∷ ns) m h)) rising.1)

-- lists that rise, the one below the other, are one that rises
pub rising-append : (ms ns : List ℕ) (n : ℕ) → ((m : ℕ) → has ms m ≡ true → m < n)
    → ((m : ℕ) → has ns m ≡ true → n ≤ m) → IsRising ms → IsRising ns → IsRising (ms ++ ns)
rising-append [] ns n below above up rising = rising
rising-append (k ∷ []) ns n below above up rising =
    rising-cons k ns (λ m h. omega (arith, below k (has-first k []), above m h)) rising
rising-append (k ∷ l ∷ ms) ns n below above up rising =
    (up.0, rising-append (l ∷ ms) ns n (λ m h. below m (has-right (k ∷ []) (l ∷ ms) m h)) above up.1 rising)

-- whether n is below i and has a place by the table
abbrev pub came_below : List ℕ → ℕ → ℕ → Bool
came_below near i n = if nat_lt n i then is_some (place_before (get_or near n 0)) else false

-- the list rises and has the numbers below i that have a place by the table
pub record AreNearBelow (near : List ℕ) (i : ℕ) (ns : List ℕ) : Type 0 where
  pub rising : IsRising ns
  pub came : (n : ℕ) → has ns n ≡ came_below near i n

module _ (near : List ℕ) (i : ℕ) (ns : List ℕ) (are : AreNearBelow near i ns) where
  pub near_more : is_some (place_before (get_or near i 0)) ≡ true → AreNearBelow near (i + 1) (ns ++ i ∷ [])
  near_more has_place = record {
    rising = rising-push ns i (λ m h. grind (arith, are.came m)) are.rising;
    came = λ n. has-append ns (i ∷ []) n ∙ grind (arith, are.came n);
  }

  pub near_skip : is_some (place_before (get_or near i 0)) ≡ false → AreNearBelow near (i + 1) ns
  near_skip none = record { rising = are.rising; came = λ n. grind (arith, are.came n) }

-- whether a number is far
abbrev pub is_far : ℕ → Bool
is_far n = nat_le first_far n

has-filter : (p : ℕ → Bool) (ns : List ℕ) (n : ℕ) → has (filter p ns) n ≡ (p n && has ns n)
has-filter p [] n = grind arith
has-filter p (m ∷ ns) n = elim (cases_Bool (m == n)) [
  | inl is ↦ let same = eqb-true m n is in grind (arith, has-filter p ns n)
  | inr other ↦ grind (arith, has-filter p ns n)
]

all-filter : (P : ℕ → Type 0) (p : ℕ → Bool) (ns : List ℕ) → AllByRecursion P ns → AllByRecursion P (filter p ns)
all-filter P p [] all = tt
all-filter P p (m ∷ ns) all = elim (cases_Bool (p m)) [
  | inl is ↦ simp is (all.0, all-filter P p ns all.1)
  | inr other ↦ simp other (all-filter P p ns all.1)
]

distinct-filter : (p : ℕ → Bool) (ns : List ℕ) → IsDistinct nat_eq ns → IsDistinct nat_eq (filter p ns)
unfolding IsDistinct
distinct-filter p [] apart = tt
distinct-filter p (m ∷ ns) apart = elim (cases_Bool (p m)) [
  | inl is ↦ simp is (all-filter (λ n. nat_eq m n ≡ false) p ns apart.0, distinct-filter p ns apart.1)
  | inr other ↦ simp other (distinct-filter p ns apart.1)
]

-- sorted, numbers of which none stands twice rise
rising_from_sort : (ms ns : List ℕ) → IsDistinct nat_eq ms → IsPermutation ms ns → IsSorted nat_cmp ns → IsRising ns
rising_from_sort ms ns distinct moved sorted =
    let apart = IsDistinct-IsPermutation nat_eq nat_eq_equiv.symm ms ns moved distinct in
    rising_from_increasing ns
    (IsStrictlyIncreasing-from_distinct ns (IsNonDecreasingBy-from_sort (λ n. n) ns sorted) apart)

-- the far ones among the first numbers of a list, with the next one and without
module _ (ns : List ℕ) (i n : ℕ) (within : i < length ns) (at : n ≡ get_or ns i n) where
  pub far_more : first_far ≤ n → filter is_far (take (i + 1) ns) ≡ filter is_far (take i ns) ++ n ∷ []
  far_more above =
      let far : is_far n ≡ true = grind arith in
      filter_more is_far ns i n within ∙ rw (← at, far) refl

  pub far_skip : n < first_far → filter is_far (take (i + 1) ns) ≡ filter is_far (take i ns)
  far_skip below =
      let near : is_far n ≡ false = grind arith in
      filter_more is_far ns i n within ∙ rw (← at, near) (append-nil (filter is_far (take i ns)))

-- the far numbers of a list, sorted
module _ (ns listed : List ℕ) (distinct : IsDistinct nat_eq ns) (moved : IsPermutation (filter is_far ns) listed)
    (sorted : IsSorted nat_cmp listed) where
  pub far_rise : IsRising listed
  far_rise = rising_from_sort (filter is_far ns) listed (distinct-filter is_far ns distinct) moved sorted

  pub far_came : (n : ℕ) → has listed n ≡ (if nat_lt n first_far then false else has ns n)
  far_came n =
      has-list_any listed n ∙ sym (list_any-IsPermutation (nat_eq n) (filter is_far ns) listed moved)
      ∙ sym (has-list_any (filter is_far ns) n) ∙ has-filter is_far ns n ∙ grind arith

-- the part of the table for near numbers, and the far ones of the list, have together what the list has
module _ {near : List ℕ} {far : List (ℕ × ℕ)} {ns : List ℕ} (tells : TellsPlaces near far ns) (low high : List ℕ)
    (end : ℕ) (ends : end ≡ min (length near) first_far) (low_rise : IsRising low) (high_rise : IsRising high)
    (low_came : (n : ℕ) → has low n ≡ is_some (place_before (get_or (take end near) n 0)))
    (high_came : (n : ℕ) → has high n ≡ (if nat_lt n first_far then false else has ns n)) where
  is_low : (n : ℕ) → has low n ≡ (if nat_lt n first_far then has ns n else false)
  is_low n = elim (cases_Bool (nat_lt n end)) [
    | inl within ↦
        grind (arith, low_came n, get_or-take end near n 0, tells.told n, is_some-position ns n)
    | inr beyond ↦
        grind (
          arith,
          low_came n,
          get_or_past (take end near) n 0,
          get_or_past near n 0,
          length-take end near,
          tells.told n,
          is_some-position ns n,
        )
  ]

  pub both_rise : IsRising (low ++ high)
  both_rise =
      rising-append low high first_far (λ m h. grind (arith, is_low m)) (λ m h. grind (arith, high_came m)) low_rise
      high_rise

  pub both_came : (n : ℕ) → has (low ++ high) n ≡ has ns n
  both_came n = has-append low high n ∙ grind (arith, is_low n, high_came n)
